-- The invariant and the measure of its loop.
use Rattle.std.proofs.Common.{◌+◌, ◌≡◌}
use Rattle.wkt_flat.specs.Tree.{total}
use Rattle.wkt_flat.proofs.dropping.drop_one.Given as goal

abbrev pub invariant-loop-members : goal.invariant-loop-members
invariant-loop-members g l =
    let inside = g.G.Nested.inside in
    inside l.geometry + total inside l.waiting.items ≡ inside l.initial.geometry + total inside l.initial.waiting.items

abbrev pub decreases-loop-members : goal.decreases-loop-members
decreases-loop-members g l = g.G.Nested.inside l.geometry
