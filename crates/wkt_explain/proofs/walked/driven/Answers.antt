-- The machine goes as far as the front does, or stops.
use Rattle.std.proofs.Common.{ap, ◌∙◌, arith, length, false, refl}
use Rattle.wkt_read.proofs.OnePlacing.{spanned-few}
use Rattle.wkt_read.proofs.HeaderPlaces.{front-within}
use Rattle.wkt_sources.specs.Views.{bytes_view}
use Rattle.wkt_machine.specs.Makers.{null_builder_maker}
use Rattle.wkt_sources.proofs.ByteViews.{whole_left}
use Rattle.wkt_sources.proofs.FrontValues.{front_made, refused}
use Rattle.wkt_machine.proofs.RoomForRest.{free_room}
use Rattle.wkt_sources.proofs.TableMessages.{stops_there}
use Rattle.wkt_explain.proofs.walked.driven.Goals as goal

pub drive-requires : goal.drive-requires
drive-requires g c =
    let text = ap (λ x. x.now) c.new.ensures.text ∙ c.as_bytes.ensures.value in
    let few = spanned-few c.args.text.now in
    let same = ap length (whole_left c.args.text.now c.new.result text c.new.ensures.at) in
    record { depth = omega (arith, few, same); room = free_room (bytes_view false) (null_builder_maker g.N.Numbers.read) c.new.result _ (λ n. tt) (λ d x. refl) (λ by. absurd by) }

pub returns-in-Ok-clause-front : goal.returns-in-Ok-clause-front
returns-in-Ok-clause-front g c =
    let text = ap (λ x. x.now) c.new.ensures.text ∙ c.as_bytes.ensures.value in
    let (v, front, made) =
    front_made (g.N.Numbers.read c.args.numbers) (bytes_view false) (null_builder_maker g.N.Numbers.read) c.args.text.now c.new.result _ c.in-Ok.over
    (whole_left c.args.text.now c.new.result text c.new.ensures.at) c.in-Ok.over.source.at (λ end e. e) c.in-Ok.ensures.on c.in-Ok.ensures.over in
    (v, front)

pub returns-in-Ok-clause-within : goal.returns-in-Ok-clause-within
returns-in-Ok-clause-within g c = let f = returns-in-Ok-clause-front g c in front-within (g.N.Numbers.read c.args.numbers) c.args.text.now f.0 _ f.1

pub returns-in-Err-clause-stopped : goal.returns-in-Err-clause-stopped
returns-in-Err-clause-stopped g c =
    let text = ap (λ x. x.now) c.new.ensures.text ∙ c.as_bytes.ensures.value in
    stops_there (g.N.Numbers.read c.args.numbers) c.args.text.now c.new.result text c.new.ensures.at c.utf8.text c.in-Err.stop.source c.in-Err.stop.machine
    (refused (g.N.Numbers.read c.args.numbers) (bytes_view false) (null_builder_maker g.N.Numbers.read) c.new.result _ c.in-Err.stop c.in-Err.ensures.refused)
