-- The text is a header and the ring of the corners.
use Rattle.std.proofs.Common.{refl, [], ◌∷◌, false}
use Rattle.wkt_write.specs.Pieces.{cut_coordinates}
use Rattle.wkt_access.specs.Values.{size}
use Rattle.wkt_num.proofs.SinkCalls.{puts_err}
use Rattle.wkt_write.proofs.Bracketed.{headed_broken, headed_adds, triangle_listed}
use Rattle.wkt_write.proofs.kinds.TriangleKind.put.Goals as goal

pub returns-in_err-put_header : goal.returns-in_err-put_header
returns-in_err-put_header g c =
    puts_err _ _ c.from_residual.ensures.1
    (rw (← c.dim.ensures, ← c.dimension_in-d.ensures) (headed_broken (cut_coordinates g.Y.T.WktNum.num (size c.dimension_in-d.result)) (((g.Y.TriangleTrait.first_corner c.args.self.now.0.now) ∷ (g.Y.TriangleTrait.second_corner c.args.self.now.0.now) ∷ (g.Y.TriangleTrait.third_corner c.args.self.now.0.now) ∷ (g.Y.TriangleTrait.first_corner c.args.self.now.0.now) ∷ []) ∷ []) _ _ false refl c.in_err-put_header.ensures))

pub returns : goal.returns
returns g c =
    let e = triangle_listed g.Y.T.WktNum.num c.size_in.result (g.Y.TriangleTrait.first_corner c.args.self.now.0.now) (g.Y.TriangleTrait.second_corner c.args.self.now.0.now) (g.Y.TriangleTrait.third_corner c.args.self.now.0.now) in
    rw (← c.dim.ensures, ← c.dimension_in-d.ensures, ← c.size_in.ensures)
    (headed_adds (cut_coordinates g.Y.T.WktNum.num c.size_in.result) (((g.Y.TriangleTrait.first_corner c.args.self.now.0.now) ∷ (g.Y.TriangleTrait.second_corner c.args.self.now.0.now) ∷ (g.Y.TriangleTrait.third_corner c.args.self.now.0.now) ∷ (g.Y.TriangleTrait.first_corner c.args.self.now.0.now) ∷ []) ∷ []) _ _ false refl _ _ c.in_ok-put_header.ensures (rw e c.put_triangle_body.ensures))
