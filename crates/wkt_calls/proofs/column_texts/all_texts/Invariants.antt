use Rattle.wkt_calls.specs.Rows.{given_arrays, HoldsTexts}
use Rattle.wkt_calls.proofs.column_texts.all_texts.Given as goal

abbrev pub invariant-loop-i : goal.invariant-loop-i
invariant-loop-i l = HoldsTexts l.places (given_arrays l.given) l.given.valid.now l.i l.rows
