-- A text that begins with no geometry is read as the text that is written.
use Rattle.std.proofs.Common.{IsUtf8, refl, sym, ap, subst, ◌∙◌}
use Rattle.wkt_dialects.specs.Reading.{IsRestAs}
use Rattle.wkt_calls.specs.Answer.{places_in}
use Rattle.wkt_calls.proofs.InDialects.{reads-other}
use Rattle.wkt_calls.proofs.dialects.read_as.Goals as goal

pub returns : goal.returns
returns g c =
    let b = c.behind_srid-plain.result in
    let k = c.behind_srid-plain.ensures in
    reads-other c.args.options c.args.text.now b _ c.places_of.result c.in-Ok.field-0 c.requires.asks (c.places_of.ensures ∙ ap places_in c.without_dialects.ensures)
    (record { rest = k.rest; same = k.same; text_is = k.text; utf8 = k.utf8 }) c.in-Ok.ensures.1 refl refl refl refl
    (subst (λ l. IsRestAs b.dialects b.rest.now l × (IsUtf8 b.rest.now → IsUtf8 l)) (sym c.bytes.ensures) c.in-Ok-write_as_read.ensures)
