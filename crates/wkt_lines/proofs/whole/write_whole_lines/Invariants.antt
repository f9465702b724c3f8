-- The lines so far are read as whole texts, and their answers written.
use Rattle.std.proofs.Common.{◌≡◌, ◌≤◌, ◌-◌, length, take, IsUtf8}
use Rattle.wkt_lines.specs.Laws.{IsWholeLines}
use Rattle.wkt_lines.specs.Lines.{input_lines}
use Rattle.wkt_lines.specs.Replies.{AreReplies}
use Rattle.wkt_lines.specs.First.{IsWholeAnswer}
use Rattle.wkt_lines.proofs.whole.write_whole_lines.Given as goal

abbrev pub invariant-lines : goal.invariant-lines
invariant-lines g l = record {
  within : l.taken ≤ length l.bytes;
  len : l.len ≤ length l.room;
  room : length l.room ≡ length l.initial.room;
  whole : IsWholeLines (take l.taken l.bytes);
  lines : l.lines ≡ length (input_lines (take l.taken l.bytes));
  fewer : l.lines ≤ l.taken;
  written : AreReplies (IsWholeAnswer (g.N.Numbers.read l.numbers) (g.N.Numbers.num l.numbers) l.front) (input_lines (take l.taken l.bytes)) (take l.len l.room);
  utf8 : IsUtf8 (take l.len l.room);
}

abbrev pub decreases-lines : goal.decreases-lines
decreases-lines g l = length l.bytes - l.taken
