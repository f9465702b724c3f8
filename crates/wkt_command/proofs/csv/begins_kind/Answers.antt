-- The word that was found is a kind's.
use Rattle.std.proofs.Common.{sym, ◌∙◌}
use Rattle.wkt_command.proofs.csv.begins_kind.Goals as goal

pub returns-in-Some : goal.returns-in-Some
returns-in-Some c =
    let word = c.in-Some.ensures.word in
    (sym c.is_ascii_alphabetic.ensures.value ∙ c.if-is_ascii_alphabetic.false, (c.in-Some.field-0.2, word.names.0, word.names.1))
