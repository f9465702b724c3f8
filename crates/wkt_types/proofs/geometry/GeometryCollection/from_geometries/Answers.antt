-- The collection has the given geometries, and the dimension of the first.
use Rattle.std.proofs.Common.{◌≡◌, ap, sym, ◌∙◌, [], map, slice_get, Some}
use Rattle.wkt_types.specs.Tree.{tree, collected}
use Rattle.wkt_types.proofs.TreeLemmas.{collected_some, first_none}
use Rattle.wkt_types.proofs.geometry.GeometryCollection.from_geometries.Goals as goal

pub returns-in-None : goal.returns-in-None
returns-in-None g c =
    let h = c.in_ok-geometries.ensures.runs tt in
    let none : (h.0).items ≡ [] = sym h.3.0 ∙ (sym c.deref.ensures.value ∙ first_none _ c.in-None.ensures.value) in
    (h.0, h.1, h.2, ap (λ ws. collected (map tree ws)) (sym none))

pub returns-in-Some : goal.returns-in-Some
returns-in-Some g c =
    let h = c.in_ok-geometries.ensures.runs tt in
    let same = c.deref.ensures.value in
    let first = ap (λ xs. slice_get xs 0) (sym same) ∙ sym c.in-Some.ensures.value in (
      h.0,
      h.1,
      h.2,
      ap (λ x. Some x) c.new.ensures
          ∙ (collected_some c.in_ok-geometries.geometries.items c.in-Some.first.now c.dimension-dim.result first c.dimension-dim.ensures
          ∙ ap (λ ws. collected (map tree ws)) h.3.0),
    )
