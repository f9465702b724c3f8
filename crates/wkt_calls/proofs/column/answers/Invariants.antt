use Rattle.std.proofs.Common.{◌+◌, ◌*◌, ◌≤◌, length}
use Rattle.std.specs.List.{slice_index}
use Rattle.wkt_calls.specs.Answer.{read_at, print_at, places_in, asks_whole}
use Rattle.wkt_calls.specs.Rows.{HoldsAnswers, items_of}
use Rattle.wkt_calls.proofs.column.answers.Given as goal

abbrev pub invariant-loop-i : goal.invariant-loop-i
invariant-loop-i l = record {
  holds : HoldsAnswers (asks_whole l.options) (read_at (places_in l.options)) (print_at (places_in l.options)) l.given.texts.now l.given.offsets.now l.given.valid.now l.i l.rows;
  bound : length (items_of l.rows.texts.items) ≤ 2 * slice_index l.given.offsets.now l.i + l.i;
}
