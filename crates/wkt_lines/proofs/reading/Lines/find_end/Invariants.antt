use Rattle.std.proofs.Common.{◌≡◌, ◌≤◌, [], length, take}
use Rattle.std.specs.Io.KnownBytes.{Keeps}
use Rattle.wkt_lines.specs.Lines.{HasNoFeed}
use Rattle.wkt_lines.specs.Reading.{source_of, line_of, unread, to_come}
use Rattle.wkt_lines.proofs.reading.Lines.find_end.Given as goal

abbrev pub invariant-turns : goal.invariant-turns
invariant-turns g l = record {
  within : l.seen ≤ length (unread l.self);
  line : line_of l.self ≡ [];
  none : HasNoFeed (take l.seen (unread l.self));
  kept : Keeps (to_come g.R.ByteSource.left l.initial.self) (to_come g.R.ByteSource.left l.self);
  count : g.R.ByteSource.failures (source_of l.self) ≡ g.R.ByteSource.failures (source_of l.initial.self);
}
