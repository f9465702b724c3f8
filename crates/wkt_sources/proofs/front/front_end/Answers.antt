-- A drive over the bytes that keeps nothing ends where the front does.
use Rattle.std.proofs.Common.{ap, sym, ◌∙◌, subst, arith, length, false, IsUtf8, refl}
use Rattle.wkt_read.proofs.OnePlacing.{spanned-few}
use Rattle.wkt_read.proofs.HeaderPlaces.{front-some, front-within, front-boundary}
use Rattle.wkt_sources.specs.Views.{bytes_view}
use Rattle.wkt_machine.specs.Makers.{null_builder_maker}
use Rattle.wkt_sources.proofs.ByteViews.{whole_left}
use Rattle.wkt_sources.proofs.FrontValues.{front_made, no_front_there}
use Rattle.wkt_machine.proofs.RoomForRest.{free_room}
use Rattle.wkt_sources.proofs.front.front_end.Goals as goal

pub drive-requires : goal.drive-requires
drive-requires g c =
    let text = ap (λ x. x.now) c.new-source.ensures.text ∙ c.as_bytes.ensures.value in
    let few = spanned-few c.args.text.now in
    let same = ap length (whole_left c.args.text.now c.new-source.result text c.new-source.ensures.at) in
    record { depth = omega (arith, few, same); room = free_room (bytes_view false) (null_builder_maker (λ n. g.T.WktNum.read)) c.new-source.result _ (λ n. tt) (λ c x. refl) (λ never. absurd never) }

pub returns-in-Ok-clause-front : goal.returns-in-Ok-clause-front
returns-in-Ok-clause-front g c =
    let text = ap (λ x. x.now) c.new-source.ensures.text ∙ c.as_bytes.ensures.value in
    let (v, front, made) =
    front_made g.T.WktNum.read (bytes_view false) (null_builder_maker (λ n. g.T.WktNum.read)) c.args.text.now c.new-source.result _ c.in-Ok.over
    (whole_left c.args.text.now c.new-source.result text c.new-source.ensures.at) c.in-Ok.over.source.at (λ end e. e) c.in-Ok.ensures.on c.in-Ok.ensures.over in
    (v, front)

pub returns-in-Ok-clause-some : goal.returns-in-Ok-clause-some
returns-in-Ok-clause-some g c = let f = returns-in-Ok-clause-front g c in front-some g.T.WktNum.read c.args.text.now f.0 _ f.1

pub returns-in-Ok-clause-within : goal.returns-in-Ok-clause-within
returns-in-Ok-clause-within g c = let f = returns-in-Ok-clause-front g c in front-within g.T.WktNum.read c.args.text.now f.0 _ f.1

pub returns-in-Ok-clause-boundary : goal.returns-in-Ok-clause-boundary
returns-in-Ok-clause-boundary g c = let f = returns-in-Ok-clause-front g c in front-boundary g.T.WktNum.read c.args.text.now f.0 _ c.utf8.text f.1

pub returns-in-Err-clause-front : goal.returns-in-Err-clause-front
returns-in-Err-clause-front g c =
    let text = ap (λ x. x.now) c.new-source.ensures.text ∙ c.as_bytes.ensures.value in
    let at = c.new-source.ensures.at in
    no_front_there g.T.WktNum.read (bytes_view false) (null_builder_maker (λ n. g.T.WktNum.read)) c.args.text.now c.new-source.result _ c.in-Err.field-0
    (whole_left c.args.text.now c.new-source.result text at) c.args.text.now (text, (subst IsUtf8 (sym text) c.utf8.text, omega (arith, at))) c.in-Err.ensures.refused
