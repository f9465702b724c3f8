-- The rows so far have their texts, and the next lies within the arrays.
use Rattle.std.proofs.Common.{◌≡◌, ◌+◌, subst, length, arith}
use Rattle.wkt_calls.specs.Column.{is_null}
use Rattle.wkt_calls.specs.ColumnArrays.{row_arrays, IsRowText}
use Rattle.wkt_calls.specs.Rows.{given_arrays, HoldsTexts}
use Rattle.wkt_calls.proofs.Columns.{no-rows, one-more, texts-within as within}
use Rattle.wkt_calls.proofs.column_texts.all_texts.Goals as goal

pub loop-i-init : goal.loop-i-init
loop-i-init c = no-rows _ c.in_ok-rows.rows c.in_ok-rows.ensures

pub loop-i-preserved : goal.loop-i-preserved
loop-i-preserved c =
    let given = c.args.given in
    let a = c.in_ok-add_text.ensures in
    one-more (λ k answer status. IsRowText c.args.places (is_null given.valid.now k) (row_arrays (given_arrays given) k) answer status) c.loop-i.i _ _ a.text a.status c.loop-i.invariant
    (subst (λ n. IsRowText c.args.places n (row_arrays (given_arrays given) c.loop-i.i) a.text a.status) {x = c.is_null-null.result} {y = is_null given.valid.now c.loop-i.i} c.is_null-null.ensures a.is)
    a.added

pub returns : goal.returns
returns c =
    let all : c.loop-i.i ≡ length c.args.given.kinds.now = omega arith in
    subst (λ n. HoldsTexts c.args.places (given_arrays c.args.given) c.args.given.valid.now n c.loop-i.rows) all c.loop-i.invariant

pub offset_bounds-given-given : goal.offset_bounds-given-given
offset_bounds-given-given c =
    omega (arith, within c.args.given.numbers.now c.args.given.number_offsets.now (length c.args.given.kinds.now) c.requires.arrays.numbers_are c.loop-i.i (omega arith))

pub slice_bounds-row-end : goal.slice_bounds-row-end
slice_bounds-row-end c = within c.args.given.numbers.now c.args.given.number_offsets.now (length c.args.given.kinds.now) c.requires.arrays.numbers_are (c.loop-i.i + 1) (omega arith)

pub offset_bounds-given-given-in-loop-i : goal.offset_bounds-given-given-in-loop-i
offset_bounds-given-given-in-loop-i c =
    omega (arith, within c.args.given.rings.now c.args.given.ring_offsets.now (length c.args.given.kinds.now) c.requires.arrays.rings_are c.loop-i.i (omega arith))

pub slice_bounds-row-end-in-loop-i : goal.slice_bounds-row-end-in-loop-i
slice_bounds-row-end-in-loop-i c = within c.args.given.rings.now c.args.given.ring_offsets.now (length c.args.given.kinds.now) c.requires.arrays.rings_are (c.loop-i.i + 1) (omega arith)

pub offset_bounds-given-given-in-loop-i-2 : goal.offset_bounds-given-given-in-loop-i-2
offset_bounds-given-given-in-loop-i-2 c =
    omega (arith, within c.args.given.polygons.now c.args.given.polygon_offsets.now (length c.args.given.kinds.now) c.requires.arrays.polygons_are c.loop-i.i (omega arith))

pub slice_bounds-row-end-in-loop-i-2 : goal.slice_bounds-row-end-in-loop-i-2
slice_bounds-row-end-in-loop-i-2 c = within c.args.given.polygons.now c.args.given.polygon_offsets.now (length c.args.given.kinds.now) c.requires.arrays.polygons_are (c.loop-i.i + 1) (omega arith)
