use Rattle.std.proofs.Common.{◌≡◌, ◌≤◌, length}
use Rattle.std.specs.Cmp.Lexicographic.{pointwise}
use Rattle.wkt.proofs.Written.{left}
use Rattle.wkt.proofs.same.are_alike.Given as goal

abbrev pub invariant-loop-i : goal.invariant-loop-i
invariant-loop-i g l = record {
  within : l.i ≤ length l.b;
  kept : pointwise (g.X.Alike.alike l.dim) l.a l.b ≡ left (g.X.Alike.alike l.dim) l.a l.b l.i;
}
