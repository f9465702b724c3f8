-- What the drive made is of the events of the front's value.
use Rattle.std.proofs.Common.{ap, sym, ◌∙◌, subst, arith, length, false, IsUtf8}
use Rattle.wkt.specs.Views.{bytes_view}
use Rattle.wkt.proofs.OnePlacing.{spanned-few}
use Rattle.wkt.proofs.ByteViews.{whole_left}
use Rattle.wkt.proofs.FrontValues.{front_made, no_front_there}
use Rattle.wkt_examples.specs.Empties.{empties_maker}
use Rattle.wkt_examples.proofs.my_builder.has_empty.Goals as goal

pub drive-requires-clause-depth : goal.drive-requires-clause-depth
drive-requires-clause-depth g c =
    let text = ap (λ x. x.now) c.new-source.ensures.text ∙ c.as_bytes.ensures.value in
    let few = spanned-few c.args.text.now in
    let same = ap length (whole_left c.args.text.now c.new-source.result text c.new-source.ensures.at) in
    omega (arith, few, same)

pub returns-in-Ok : goal.returns-in-Ok
returns-in-Ok g c =
    let text = ap (λ x. x.now) c.new-source.ensures.text ∙ c.as_bytes.ensures.value in
    let (v, front, made) =
    front_made g.T.WktNum.read (bytes_view false) (empties_maker g.T.WktNum.read) c.args.text.now c.new-source.result _ c.in-Ok.over
    (whole_left c.args.text.now c.new-source.result text c.new-source.ensures.at) c.in-Ok.over.source.at (λ end e. e) c.in-Ok.ensures.on c.in-Ok.ensures.over in
    (v, _, front, made)

pub returns-in-Err : goal.returns-in-Err
returns-in-Err g c =
    let text = ap (λ x. x.now) c.new-source.ensures.text ∙ c.as_bytes.ensures.value in
    let at = c.new-source.ensures.at in
    no_front_there g.T.WktNum.read (bytes_view false) (empties_maker g.T.WktNum.read) c.args.text.now c.new-source.result _ c.in-Err.field-0
    (whole_left c.args.text.now c.new-source.result text at) c.args.text.now (text, (subst IsUtf8 (sym text) c.utf8.text, omega (arith, at))) c.in-Err.ensures.refused
