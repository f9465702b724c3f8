use Rattle.std.proofs.Common.{◌≡◌, ◌≤◌, ◌-◌, length, take}
use Rattle.wkt_lines.specs.Output.{IsOutput}
use Rattle.wkt_calls.specs.Answer.{read_at, print_at}
use Rattle.wkt_calls.specs.Calls.{AreWholeLines}
use Rattle.wkt_calls.proofs.lines.answer_some.Given as goal

abbrev pub invariant-lines : goal.invariant-lines
invariant-lines l = record {
  taken : l.done.taken ≤ length l.input;
  written : l.done.written ≤ length l.out;
  whole : length l.out ≡ length l.initial.out;
  room : length l.room ≡ length l.initial.room;
  lines : AreWholeLines l.last l.input l.done.taken;
  answers : IsOutput (read_at l.places) (print_at l.places) (take l.done.taken l.input) (take l.done.written l.out);
}

abbrev pub decreases-lines : goal.decreases-lines
decreases-lines l = length l.input - l.done.taken
