-- The header ends where the definition cuts it, or there is none.
use Rattle.std.proofs.Common.{◌∙◌, sym, ap, subst, take, refl, ℕ, List, Option, Bool}
use Rattle.std.specs.Prelude.{Some, IfErr}
use Rattle.wkt_read.specs.Header.{header_rule, header_cut, cut_answer, Cut, SaysOf, LendsPrefixOf}
use Rattle.wkt_read.specs.declared.infer.HeaderError.TheVariants as lent
use Rattle.wkt_read.proofs.HeaderPlaces.{range_take}
use Rattle.wkt_read.proofs.infer.infer_header.Goals as goal

abbrev cut_at : List ℕ → Bool → Option Cut
cut_at header by_empty = Some (record { header = header; by_empty = by_empty })

pub returns-in-None : goal.returns-in-None
unfolding header_rule
returns-in-None c =
    let cut = ap header_cut (sym c.trim_start-text.ensures.trim ∙ sym c.as_bytes.ensures.value) ∙ c.in-None.ensures in
    record { exact = ap cut_answer cut; prefix = subst (λ o. LendsPrefixOf lent.NoOpenParen o) (sym cut) refl }

pub returns-in-Some : goal.returns-in-Some
unfolding header_rule
returns-in-Some c =
    let same = c.as_bytes.ensures.value in
    let header = c.range.ensures.value ∙ range_take c.trim_start-text.result.now c.in-Some.end ∙ ap (λ t. take c.in-Some.end t) (sym same) in
    let cut = ap header_cut (sym c.trim_start-text.ensures.trim ∙ sym same) ∙ c.in-Some.ensures.0 ∙ ap (λ h. cut_at h c.in-Some.by_empty) (sym header) in
    record {
      exact = subst (λ r. SaysOf c.named.result r) (sym (ap cut_answer cut)) c.named.ensures.exact;
      prefix = subst (λ o. IfErr c.named.result (λ e. LendsPrefixOf e o)) (sym cut) c.named.ensures.prefix;
    }
