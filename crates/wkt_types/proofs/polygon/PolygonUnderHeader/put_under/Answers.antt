-- The rings are put under the header, and none are kept where the exterior is empty.
use Rattle.std.proofs.Common.{◌≡◌, ap, sym, ◌∙◌, map, ◌==◌, not, length, slice_get}
use Rattle.std.proofs.lemmas.List.{with_items_is}
use Rattle.wkt_types.specs.Canonical.{line_under, polygon_under, rings_written}
use Rattle.wkt_types.specs.Held.{held}
use Rattle.wkt_types.proofs.TreeLemmas.{kept, kept_some, kept_none}
use Rattle.wkt_types.proofs.polygon.PolygonUnderHeader.put_under.Goals.{in-Some, in-None, then-not-written, else-not-written}
use Rattle.wkt_types.proofs.polygon.PolygonUnderHeader.put_under.Goals as goal

pub returns : goal.returns
returns g c =
    let rings = c.self.inside.rings.items in
    let tested : kept c.match-first.written rings ≡ rings_written rings = elim c.match-first.branch [
      | in-Some w ↦ kept_some rings w.in-Some.exterior.now _ (w.in-Some.ensures.value ∙ ap (λ rs. slice_get rs 0) c.deref.ensures.value)
          (w.written-is ∙ ap (λ b. not b) (w.is_empty.ensures ∙ ap (λ cs. length cs == 0) w.coords.ensures))
      | in-None w ↦ kept_none rings _ (w.in-None.ensures.value ∙ ap (λ rs. slice_get rs 0) c.deref.ensures.value) w.written-is
    ] in
    let still : c.match-first.self-inside ≡ c.self.inside = elim c.match-first.branch [ in-Some w ↦ w.self-inside-is | in-None w ↦ w.self-inside-is ] in
    let left : c.if-not-written.self-inside.rings.items ≡ kept c.match-first.written rings = elim c.if-not-written.branch [
      | then-not-written v ↦ ap (λ x. x.rings.items) v.self-inside-is ∙ (v.clear.ensures.items ∙ ap (λ b. kept b rings) (sym v.if-not-written.true))
      | else-not-written v ↦ ap (λ x. x.rings.items) (v.self-inside-is ∙ still) ∙ ap (λ b. kept b rings) (sym v.if-not-written.false)
    ] in
    let vec = c.if-not-written.self-inside.rings in
    let len : length c.put_each_under.new.parts ≡ vec.len = c.put_each_under.auto.parts ∙ (ap (λ rs. length rs) c.deref_mut.ensures.value ∙ sym vec.ok.0) in
    ap (λ rs. held rs c.args.dim) (with_items_is vec _ len ∙ (c.put_each_under.ensures ∙ ap (λ rs. map (line_under c.args.dim) rs) (c.deref_mut.ensures.value ∙ (left ∙ tested))))
    ∙ ap (λ y. polygon_under c.args.dim y) c.self.view_is
