-- What is of ASCII is UTF-8.
use Rattle.std.proofs.Common.{subst}
use Rattle.std.specs.Str.{IsAscii}
use Rattle.std.proofs.lemmas.Str.{IsUtf8-from_ascii}
use Rattle.wkt_calls.proofs.canonical.is_text.Goals as goal

pub returns-then-is_ascii-clause-yes : goal.returns-then-is_ascii-clause-yes
returns-then-is_ascii-clause-yes c = λ _. IsUtf8-from_ascii c.args.text.now (subst IsAscii c.requires.front (c.is_ascii.ensures c.if-is_ascii.true))
