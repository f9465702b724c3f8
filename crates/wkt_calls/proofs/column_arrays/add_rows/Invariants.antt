use Rattle.wkt_calls.specs.Answer.{places_in, asks_whole}
use Rattle.wkt_calls.specs.Rows.{HoldsArrays}
use Rattle.wkt_calls.proofs.column_arrays.add_rows.Given as goal

abbrev pub invariant-loop-i : goal.invariant-loop-i
invariant-loop-i l = HoldsArrays (places_in l.options) (asks_whole l.options) l.given.texts.now l.given.offsets.now l.given.valid.now l.i l.rows
