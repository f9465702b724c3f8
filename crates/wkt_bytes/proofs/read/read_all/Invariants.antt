-- The bytes read so far are those that the source lost.
use Rattle.std.proofs.Common.{◌≡◌, ◌-◌, ◌^◌, vec_len}
use Rattle.std.specs.Io.KnownBytes.{Consumes}
use Rattle.wkt_bytes.proofs.read.read_all.Given as goal

abbrev pub invariant-turns : goal.invariant-turns
invariant-turns g l = record {
  taken : Consumes (g.R.ByteSource.left l.initial.reader) (g.R.ByteSource.left l.reader) l.all.items;
  kept : g.R.ByteSource.failures l.reader ≡ g.R.ByteSource.failures l.initial.reader;
}

abbrev pub decreases-turns : goal.decreases-turns
decreases-turns g l = 2 ^ 64 - vec_len l.all
