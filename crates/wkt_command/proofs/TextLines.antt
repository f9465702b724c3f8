-- The lines of a text are texts.
use Rattle.std.proofs.Common.{◌≡◌, ℕ, zero, suc, ◌+◌, ◌<◌, ◌≤◌, List, [], ◌∷◌, length, take, drop, get_or, sym, ap, ◌∙◌, inl, inr, arith, subst, if◌then◌else◌, IsUtf8}
use Rattle.std.proofs.lemmas.List.{take_all, drop_all}
use Rattle.std.proofs.lemmas.Bool.{cases_lt}
use Rattle.std.proofs.lemmas.Bool.Decides.{eqb_tells}
use Rattle.std.proofs.lemmas.Str.{IsUtf8-nil, IsUtf8-take, IsUtf8-drop, IsCharBoundary-before_ascii, IsCharBoundary-after_ascii}
use Rattle.wkt_lines.specs.Lines.{before_feed}

-- what ends the first line is a line feed
at-feed : (bs : List ℕ) (n : ℕ) → n < length bs → take n bs ≡ before_feed bs → get_or bs n 0 ≡ 10
at-feed [] n l e = absurd (omega (arith, l))
at-feed (b ∷ bs) zero l e = elim (eqb_tells b 10) [
  | inl t ↦ t.1
  | inr f ↦
      let some : [] ≡ b ∷ before_feed bs = e ∙ ap (λ u. if u then [] else b ∷ before_feed bs) f.0 in
      let long : 0 ≡ suc (length (before_feed bs)) = ap (λ l. length l) some in
      absurd (omega (arith, long))
]
at-feed (b ∷ bs) (suc n) l e = elim (eqb_tells b 10) [
  | inl t ↦
      let none : b ∷ take n bs ≡ [] = e ∙ ap (λ u. if u then [] else b ∷ before_feed bs) t.0 in
      let long : suc (length (take n bs)) ≡ 0 = ap (λ l. length l) none in
      absurd (omega (arith, long))
  | inr f ↦
      let same : b ∷ take n bs ≡ b ∷ before_feed bs = e ∙ ap (λ u. if u then [] else b ∷ before_feed bs) f.0 in
      at-feed bs n (omega (arith, l)) (ap (λ l. drop 1 l) same)
]

-- the first line, and those behind it
pub text-lines : (bs : List ℕ) (n : ℕ) → IsUtf8 bs → n ≤ length bs → take n bs ≡ before_feed bs → IsUtf8 (take n bs) × IsUtf8 (drop (n + 1) bs)
text-lines bs n u within e = elim (cases_lt n (length bs)) [
  | inl l ↦
      let feed = at-feed bs n l e in
      let ascii : get_or bs n 0 < 128 = omega (arith, feed) in
      (IsUtf8-take bs n u (IsCharBoundary-before_ascii bs n l ascii), IsUtf8-drop bs (n + 1) u (IsCharBoundary-after_ascii bs n u l ascii))
  | inr m ↦ (subst IsUtf8 (sym (take_all n bs m)) u, subst IsUtf8 (sym (drop_all (n + 1) bs (omega (arith, m)))) IsUtf8-nil)
]
