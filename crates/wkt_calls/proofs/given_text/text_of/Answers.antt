-- Arrays that are those of a geometry are sent to a text builder that has room for them.
use Rattle.std.proofs.Common.{ℕ, ◌≤◌, length, inr, refl, subst, arith}
use Rattle.wkt_num.specs.Decimal.{IsUnits, read_decimal, decimal_text}
use Rattle.wkt_machine.specs.Events.{events}
use Rattle.wkt_canonical.specs.TextBuilderMaker.{written_of, IsFresh, Made}
use Rattle.wkt_canonical.proofs.TextBuilderOutput.{wrote-value}
use Rattle.wkt_canonical.proofs.Texts.{events_write}
use Rattle.wkt_fill.specs.declared.given.Given.{Given}
use Rattle.wkt_calls.specs.Rooms.{text_room}
use Rattle.wkt_calls.proofs.Telling.{of-none, text-of, has-room, is-within}
use Rattle.wkt_calls.proofs.given_text.text_of.Goals as goal

pub returns-then-not-are_arrays-clause-err : goal.returns-then-not-are_arrays-clause-err
returns-then-not-are_arrays-clause-err c =
    let a : Given = record { kind = c.in_ok-kind_of.field-0; dimension = c.in_ok-dimension_of.field-0; numbers = c.args.given.numbers; rings = c.args.given.rings; polygons = c.args.given.polygons } in
    inr (refl, of-none c.args.places a c.args.given.kind c.args.given.dimension c.in_ok-kind_of.ensures.ok c.in_ok-dimension_of.ensures.ok c.in_ok-kind_of.ensures.one c.in_ok-dimension_of.ensures.one (c.if-not-are_arrays.ensures.none c.args.places))

pub tell-requires-clause-room : goal.tell-requires-clause-room
tell-requires-clause-room c = λ q v h.
    let a : Given = record { kind = c.in_ok-kind_of.field-0; dimension = c.in_ok-dimension_of.field-0; numbers = c.args.given.numbers; rings = c.args.given.rings; polygons = c.args.given.polygons } in
    let enough = rw c.places.ensures.is at (c.is_enough.ensures.yes c.if-not-is_enough.false) in
    let large : text_room c.args.places c.args.given.numbers.now c.args.given.rings.now c.args.given.polygons.now ≤ length c.args.room.now = omega (arith, enough) in
    let fresh : IsFresh c.args.places c.args.room.now c.new-builder.result = c.new-builder.ensures in
    has-room c.args.places q a c.if-not-are_arrays.ensures.narrow c.args.room.now c.new-builder.result fresh (text_room c.args.places c.args.given.numbers.now c.args.given.rings.now c.args.given.polygons.now) (omega arith) large v h

pub returns-clause-ok : goal.returns-clause-ok
returns-clause-ok c =
    let a : Given = record { kind = c.in_ok-kind_of.field-0; dimension = c.in_ok-dimension_of.field-0; numbers = c.args.given.numbers; rings = c.args.given.rings; polygons = c.args.given.polygons } in
    let some = c.if-not-are_arrays.ensures.some c.args.places c.requires in
    let num = decimal_text c.args.places in
    let fresh : IsFresh c.args.places c.args.room.now c.new-builder.result = c.new-builder.ensures in
    let made = subst (λ (n : ℕ). Made (read_decimal 127 36 n) (decimal_text n) c.new-builder.result (events some.0) c.tell.result) fresh.numbers (c.tell.ensures c.args.places some.0 some.1).makes in
    text-of c.args.places a c.args.given.kind c.args.given.dimension c.in_ok-kind_of.ensures.ok c.in_ok-dimension_of.ensures.ok c.in_ok-kind_of.ensures.one c.in_ok-dimension_of.ensures.one some.0 some.1 (written_of c.tell.result).bytes
    (wrote-value (read_decimal 127 36 c.args.places) num (IsUnits c.args.places) (c.texts_are_short.ensures.decimals c.args.places) (λ v w h. events_write (IsUnits c.args.places) num v h w)
    c.args.places c.args.room.now c.new-builder.result c.tell.result some.0 fresh some.1.fits made)

pub returns-clause-within : goal.returns-clause-within
returns-clause-within c =
    let a : Given = record { kind = c.in_ok-kind_of.field-0; dimension = c.in_ok-dimension_of.field-0; numbers = c.args.given.numbers; rings = c.args.given.rings; polygons = c.args.given.polygons } in
    let some = c.if-not-are_arrays.ensures.some c.args.places c.requires in
    let enough = rw c.places.ensures.is at (c.is_enough.ensures.yes c.if-not-is_enough.false) in
    let large : text_room c.args.places c.args.given.numbers.now c.args.given.rings.now c.args.given.polygons.now ≤ length c.args.room.now = omega (arith, enough) in
    let fresh : IsFresh c.args.places c.args.room.now c.new-builder.result = c.new-builder.ensures in
    let room = has-room c.args.places c.args.places a c.if-not-are_arrays.ensures.narrow c.args.room.now c.new-builder.result fresh (text_room c.args.places c.args.given.numbers.now c.args.given.rings.now c.args.given.polygons.now) (omega arith) large some.0 some.1 in
    is-within c.new-builder.result c.tell.result (events some.0) room (c.tell.ensures c.args.places some.0 some.1)
