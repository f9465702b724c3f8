-- The arrays that were made stand in the buffers, or one of these has no room.
use Rattle.std.proofs.Common.{rules, ◌≡◌, ℕ, List, length, ap, ◌∙◌, inl, inr}
use Rattle.wkt_fill.specs.Filled.{view, FlatArrays}
use Rattle.wkt_calls.specs.Answer.{with_front}
use Rattle.wkt_calls.specs.Arrays.{AreOf, AreReported}
use Rattle.wkt_calls.specs.declared.sizes.WktSizes.{WktSizes}
use Rattle.wkt_calls.proofs.arrays_call.arrays_in.Goals as goal
use Rattle.wkt_calls.proofs.arrays_call.arrays_in.Goals.{then-all-numbers-via-then-all-numbers, then-all-numbers-via-else-all-numbers+then-ring_ends-rings, then-all-numbers-via-else-all-numbers+else-ring_ends-rings+then-polygon_ends-polygons}

abbrev told-of : (places : ℕ) (text : List ℕ) (s : WktSizes) (f : FlatArrays) → AreOf places text s.end s.kind s.dimension f.numbers f.rings f.polygons →
    s.numbers ≡ length f.numbers → s.rings ≡ length f.rings → s.polygons ≡ length f.polygons → AreReported places text s
told-of places text s f are numbers rings polygons =
    record { ns = f.numbers; rs = f.rings; ps = f.polygons; arrays = are; numbers = numbers; rings = rings; polygons = polygons }

pub returns-then-all-numbers-clause-small : goal.returns-then-all-numbers-clause-small
returns-then-all-numbers-clause-small c = λ _. record {
  reported = told-of _ _ _ (view c.in-Ok.flat.arrays).flat c.in-Ok.ensures (search rules) (search rules) (search rules);
  small = elim c.then-all-numbers.branch [
    | then-all-numbers-via-then-all-numbers w ↦ inl (search rules)
    | then-all-numbers-via-else-all-numbers+then-ring_ends-rings w ↦ inr (inl (search rules))
    | then-all-numbers-via-else-all-numbers+else-ring_ends-rings+then-polygon_ends-polygons w ↦ inr (inr (search rules))
  ];
}

pub returns-else-polygon_ends-polygons-clause-filled : goal.returns-else-polygon_ends-polygons-clause-filled
returns-else-polygon_ends-polygons-clause-filled c = λ _. record {
  reported = told-of _ _ _ (view c.in-Ok.flat.arrays).flat c.in-Ok.ensures (search rules) (search rules) (search rules);
  numbers_in = c.copy_to_front.ensures ∙ ap (λ xs. with_front xs c.args.numbers.now) c.numbers-all.ensures;
  rings_in = c.copy_to_front-in-Ok.ensures ∙ ap (λ xs. with_front xs c.args.rings.now) c.rings-ring_ends.ensures;
  polygons_in = c.copy_to_front-in-Ok-2.ensures ∙ ap (λ xs. with_front xs c.args.polygons.now) c.polygons-polygon_ends.ensures;
}
