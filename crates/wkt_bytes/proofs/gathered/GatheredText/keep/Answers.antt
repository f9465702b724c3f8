-- A piece behind what is held is UTF-8 with it.
use Rattle.std.proofs.Common.{IsUtf8, subst, sym, ap, ◌∙◌, ◌++◌, arith}
use Rattle.std.proofs.lemmas.Grind.{common_steps}
use Rattle.std.proofs.lemmas.Slice.{take-put_mid}
use Rattle.std.proofs.lemmas.Str.{IsUtf8-had, IsUtf8-append}
use Rattle.wkt_bytes.specs.Gathered.{gathered_text}
use Rattle.wkt_bytes.proofs.gathered.GatheredText.keep.Goals as goal

pub invariant_of-self-clause-utf8 : goal.invariant_of-self-clause-utf8
invariant_of-self-clause-utf8 g c =
    let s = c.args.self.now in
    let copied = c.copy_piece.ensures ∙ c.as_bytes.ensures.value in
    let whole = take-put_mid s.len _ s.held c.copy_piece.new.to _ (grind (arith, common_steps)) (grind (arith, common_steps)) in
    ∣ subst (λ xs. IsUtf8 xs) (ap (λ ys. gathered_text s ++ ys) (sym copied) ∙ sym whole)
    (IsUtf8-append (gathered_text s) c.args.piece.now (IsUtf8-had _ s.utf8) c.utf8.piece) ∣₁
