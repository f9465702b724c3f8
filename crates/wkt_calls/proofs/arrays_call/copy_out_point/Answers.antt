-- The arrays of the point stand in the buffers, or one of these has no room.
use Rattle.std.proofs.Common.{rules, ◌≡◌, ◌∙◌, ap₂, ℕ, List, [], ◌∷◌, refl, arith, inl, inr, to_z, of_z, w64}
use Rattle.wkt_calls.specs.Answer.{with_front}
use Rattle.wkt_sources.specs.declared.points.FastPoint.{FastPoint}
use Rattle.wkt_calls.specs.Arrays.{IsFlatPoint, AreReported}
use Rattle.wkt_calls.proofs.arrays_call.copy_out_point.Goals as goal
use Rattle.wkt_calls.proofs.arrays_call.copy_out_point.Goals.{then-numbers-lt2-via-then-numbers-lt2, then-numbers-lt2-via-else-numbers-lt2+then-rings-lt2, then-numbers-lt2-via-else-numbers-lt2+else-rings-lt2+then-polygons-lt2}

abbrev told-of : (places : ℕ) (text : List ℕ) (p : FastPoint) → IsFlatPoint places text p
    → AreReported places text record { kind = 0; dimension = 0; numbers = 2; rings = 2; polygons = 2; end = p.end }
told-of places text p are = record {
  ns = p.x ∷ p.y ∷ [];
  rs = 0 ∷ 1 ∷ [];
  ps = 0 ∷ 1 ∷ [];
  arrays = are;
  numbers = refl;
  rings = refl;
  polygons = refl;
}

pub returns-then-numbers-lt2-clause-small : goal.returns-then-numbers-lt2-clause-small
returns-then-numbers-lt2-clause-small c = λ _. record {
  reported = told-of _ _ c.args.point c.requires;
  small = elim c.then-numbers-lt2.branch [
    | then-numbers-lt2-via-then-numbers-lt2 w ↦ inl (omega arith)
    | then-numbers-lt2-via-else-numbers-lt2+then-rings-lt2 w ↦ inr (inl (omega arith))
    | then-numbers-lt2-via-else-numbers-lt2+else-rings-lt2+then-polygons-lt2 w ↦ inr (inr (omega arith))
  ];
}

pub returns-clause-filled : goal.returns-clause-filled
returns-clause-filled c =
    let ex : to_z w64 (of_z w64 c.args.point.x) ≡ c.args.point.x = search rules in
    let ey : to_z w64 (of_z w64 c.args.point.y) ≡ c.args.point.y = search rules in
    λ _. record {
      reported = told-of _ _ c.args.point c.requires;
      numbers_in = c.put_two.ensures ∙ ap₂ (λ a b. with_front (a ∷ b ∷ []) c.args.numbers.now) ex ey;
      rings_in = c.put_two-2.ensures;
      polygons_in = c.put_two-3.ensures;
    }
