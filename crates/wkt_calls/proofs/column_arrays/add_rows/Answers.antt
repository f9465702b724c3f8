-- The rows so far have their arrays, and the next lies within the texts.
use Rattle.std.proofs.Common.{◌≡◌, ◌+◌, subst, arith}
use Rattle.wkt_calls.specs.Answer.{places_in, asks_whole}
use Rattle.wkt_calls.specs.Column.{row_count, row, is_null}
use Rattle.wkt_calls.specs.ColumnArrays.{IsRowArrays}
use Rattle.wkt_calls.specs.Rows.{HoldsArrays}
use Rattle.wkt_calls.proofs.Columns.{below, no-arrays-yet, one-row-more}
use Rattle.wkt_calls.proofs.column_arrays.add_rows.Goals as goal

pub slice_bounds-text-end : goal.slice_bounds-text-end
slice_bounds-text-end c = below c.args.given.texts.now c.args.given.offsets.now c.requires.offsets (c.loop-i.i + 1) (omega arith)

pub loop-i-init : goal.loop-i-init
loop-i-init c = no-arrays-yet (places_in c.args.options) (asks_whole c.args.options) c.args.given.texts.now c.args.given.offsets.now c.args.given.valid.now c.args.none c.requires.none

pub loop-i-preserved : goal.loop-i-preserved
loop-i-preserved c =
    let a = c.in_ok-add_row.ensures in
    let given = c.args.given in
    one-row-more (places_in c.args.options) (asks_whole c.args.options) given.texts.now given.offsets.now given.valid.now c.loop-i.i a.row a.status _ _ c.loop-i.invariant a.added
    (subst (λ n. IsRowArrays (places_in c.args.options) (asks_whole c.args.options) n (row given.texts.now given.offsets.now c.loop-i.i) a.row a.status) {x = c.is_null-null.result} {y = is_null given.valid.now c.loop-i.i} c.is_null-null.ensures a.is)

pub returns : goal.returns
returns c =
    let all : c.loop-i.i ≡ row_count c.args.given.offsets.now = omega arith in
    subst (λ n. HoldsArrays (places_in c.args.options) (asks_whole c.args.options) c.args.given.texts.now c.args.given.offsets.now c.args.given.valid.now n c.loop-i.rows) all c.loop-i.invariant
