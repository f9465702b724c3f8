use Rattle.std.proofs.Common.{◌≡◌, ◌≤◌, ◌-◌, length, take}
use Rattle.wkt_lines.specs.Output.{IsOutput}
use Rattle.wkt_calls.specs.Answer.{read_at, print_at}
use Rattle.wkt_calls.specs.Calls.{AreWholeLines}
use Rattle.wkt_calls.proofs.lines.answer_lines.Given as goal

abbrev pub invariant-lines : goal.invariant-lines
invariant-lines l = record {
  at_in : l.at ≤ length l.input;
  end_in : l.end ≤ length l.input;
  fits : l.len ≤ length l.out;
  whole : length l.out ≡ length l.initial.out;
  goes : l.fn.done.taken ≤ l.at;
  lines : AreWholeLines l.last l.input l.at;
  ends : AreWholeLines l.last l.input l.end;
  answers : IsOutput (read_at l.places) (print_at l.places) (take l.at l.input) (take l.len l.out);
}

abbrev pub decreases-lines : goal.decreases-lines
decreases-lines l = length l.input - l.at
