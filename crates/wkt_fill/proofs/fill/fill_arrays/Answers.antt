-- The arrays that were filled are those of the front, or the text has no front or no arrays.
use Rattle.std.proofs.Common.{ap, sym, subst, arith, length, false, refl, IsUtf8}
use Rattle.wkt_num.specs.Decimal.{read_decimal}
use Rattle.wkt_read.specs.Front.{Front, HasNoFront}
use Rattle.wkt_read.proofs.OnePlacing.{spanned-few}
use Rattle.wkt_sources.specs.Views.{bytes_view}
use Rattle.wkt_sources.proofs.ByteViews.{whole_left}
use Rattle.wkt_sources.proofs.FrontValues.{front_made, no_front_there}
use Rattle.wkt_machine.proofs.RoomForRest.{free_room}
use Rattle.wkt_fill.specs.Filled.{array_builder_maker}
use Rattle.wkt_fill.proofs.Finished.{filled}
use Rattle.wkt_fill.proofs.fill.fill_arrays.Goals as goal

pub drive-requires : goal.drive-requires
drive-requires c =
    let few = spanned-few c.args.text.now in
    let same = ap length (whole_left c.args.text.now c.new-source.result (ap (λ x. x.now) c.new-source.ensures.text) c.new-source.ensures.at) in
    record { depth = omega (arith, few, same); room = free_room (bytes_view false) array_builder_maker c.new-source.result c.new.result (λ n. tt) (λ d x. refl) (λ never. absurd never) }

pub returns-in-Ok : goal.returns-in-Ok
returns-in-Ok c =
    let (v, front, made) =
    front_made (read_decimal 127 36 c.new.result.places) (bytes_view false) array_builder_maker c.args.text.now c.new-source.result c.new.result c.in-Ok.over
    (whole_left c.args.text.now c.new-source.result (ap (λ x. x.now) c.new-source.ensures.text) c.new-source.ensures.at) c.in-Ok.over.source.at (λ end e. e) c.in-Ok.ensures.on c.in-Ok.ensures.over in
    filled c.args.places c.args.text.now c.args.room c.new.result c.in-Ok.over.builder c.refuse_collection.new.self v c.in-Ok.over.source.at
    c.new.ensures (subst (λ p. Front (read_decimal 127 36 p) c.args.text.now v c.in-Ok.over.source.at) c.new.ensures.places front) made c.refuse_collection.ensures

pub returns-in-Err : goal.returns-in-Err
returns-in-Err c = λ utf8.
    let text = ap (λ x. x.now) c.new-source.ensures.text in
    let at = c.new-source.ensures.at in
    subst (λ p. HasNoFront (read_decimal 127 36 p) c.args.text.now) c.new.ensures.places
    (no_front_there (read_decimal 127 36 c.new.result.places) (bytes_view false) array_builder_maker c.args.text.now c.new-source.result c.new.result c.in-Err.field-0
    (whole_left c.args.text.now c.new-source.result text at) c.args.text.now (text, (subst IsUtf8 (sym text) utf8, omega (arith, at))) c.in-Err.ensures.refused)
