-- One thing is expected at a place.
use Rattle.std.proofs.Common.{◌≡◌, ◌≢◌, ℕ, zero, suc, List, refl, sym, ap, ◌∙◌, Option, Some, None, Bool, true, false, inl, inr, codes, if◌then◌else◌, get_or, length, arith}
use Rattle.std.specs.Prelude.{◌⊎◌}
use Rattle.std.specs.Str.{str_to_ascii_uppercase}
use Rattle.wkt_num.specs.Bytes.{Lexeme, Open, Close, Comma, Word, Num}
use Rattle.wkt_access.specs.declared.dimensions.Dimension.{Dimension}
use Rattle.wkt_types.specs.declared.geometry_type.GeometryType.{GeometryType}
use Rattle.wkt_types.specs.declared.geometry_type.GeometryType.TheVariants as kind
use Rattle.wkt_read.specs.Context.{Context, number_next, IsTurn}
use Rattle.wkt_read.specs.Explained.{IsKind, IsDimension, IsOpening, IsNumber, IsNamed, IsExpectedAfter}
use Rattle.wkt_read.specs.Grammar.{KindWord, kind_word, kind_words, dim_word}
use Rattle.wkt_read.specs.declared.expected.Expected.{Expected}
use Rattle.wkt_read.specs.declared.expected.Expected.TheVariants as expected

-- It holds, or it doesn't.
abbrev Tells : Bool → Type 0 → Type 0
Tells true P = P
Tells false P = P → ⊥

-- whether an opening parenthesis could come next, the word POINT, the word Z, a comma, a closing parenthesis
abbrev open_at : Expected → Bool
open_at expected.Dimension = true
open_at expected.Opening = true
open_at expected.Point = true
open_at e = false

abbrev kind_at : Expected → Bool
kind_at expected.Kind = true
kind_at expected.Member = true
kind_at e = false

abbrev dimension_at : Expected → Bool
dimension_at expected.Dimension = true
dimension_at e = false

abbrev comma_at : Expected → Bool
comma_at expected.More = true
comma_at e = false

abbrev close_at : Expected → Bool
close_at expected.More = true
close_at expected.Closing = true
close_at e = false

-- What takes the same lexemes has one number.
abbrev coded : (opening kinds dimension comma close : Bool) → ℕ
coded o k d m c = if k then 0 else if d then 1 else if o then 2 else if m then 4 else if c then 5 else 3

abbrev group : Expected → ℕ
group e = coded (open_at e) (kind_at e) (dimension_at e) (comma_at e) (close_at e)

-- Which of them it is.
abbrev first_kind : Option GeometryType → Expected
first_kind None = expected.Kind
first_kind (Some k) = expected.Member

abbrev opening_of : Option GeometryType → Bool → Expected
opening_of (Some kind.MultiPoint) true = expected.Point
opening_of k o = expected.Opening

abbrev chosen : ℕ → Context → Expected
chosen zero c = first_kind c.kind
chosen (suc zero) c = expected.Dimension
chosen (suc (suc zero)) c = opening_of c.kind c.opened
chosen (suc (suc (suc zero))) c = number_next c.dimension c.numbers
chosen (suc (suc (suc (suc zero)))) c = expected.More
chosen n c = expected.Closing

no_first : (k : Option GeometryType) → k ≢ None → expected.Member ≡ first_kind k
no_first None other = absurd (other refl)
no_first (Some k) other = refl

no_point : (k : Option GeometryType) (o : Bool) → ((k ≡ Some kind.MultiPoint) × (o ≡ true) → ⊥) → expected.Opening ≡ opening_of k o
no_point (Some kind.MultiPoint) true never = absurd (never (refl, refl))
no_point (Some kind.MultiPoint) false never = refl
no_point _ o never = refl

one_turn : (e : Expected) (c : Context) → IsTurn e c → e ≡ chosen (group e) c
one_turn expected.Kind c h = ap first_kind (sym h)
one_turn expected.Member c h = no_first c.kind h
one_turn expected.Dimension c h = refl
one_turn expected.Opening c h = no_point c.kind c.opened h
one_turn expected.Point c (k, o) = ap (λ k. opening_of k true) (sym k) ∙ ap (opening_of c.kind) (sym o)
one_turn expected.More c h = refl
one_turn expected.Closing c h = refl
one_turn _ c h = sym h

-- POINT is a kind word, and Z a dimension word.
point_is : IsKind (Word (codes "POINT"))
unfolding kind_word kind_words
point_is = (codes "POINT", _, refl, refl)

z_is : IsDimension (Word (codes "Z"))
unfolding dim_word
z_is = (codes "Z", _, refl, refl)

neither : (A B : Type 0) → (A → ⊥) → (B → ⊥) → A ⊎ B → ⊥
neither A B a b (inl h) = a h
neither A B a b (inr h) = b h

no_empty : (w : List ℕ) → (str_to_ascii_uppercase w ≡ codes "EMPTY" → ⊥) → IsOpening (Word w) → ⊥
no_empty w never (inl q) = cc
no_empty w never (inr (run, q, is)) = let same : w ≡ run = cc in never (ap str_to_ascii_uppercase same ∙ is)

point_no_dimension : IsDimension (Word (codes "POINT")) → ⊥
unfolding dim_word
point_no_dimension (run, d, q, is) =
    let same : codes "POINT" ≡ run = cc in
    let clash : ◌≡◌ {A = Option Dimension} None (Some d) = ap dim_word same ∙ is in cc

point_no_opening : IsOpening (Word (codes "POINT")) → ⊥
point_no_opening = no_empty (codes "POINT") (λ e. absurd (omega (arith, ap (λ l. get_or l 0 0) e)))

z_no_kind : IsKind (Word (codes "Z")) → ⊥
unfolding kind_word kind_words
z_no_kind (run, k, q, is) =
    let same : codes "Z" ≡ run = cc in
    let clash : ◌≡◌ {A = Option KindWord} None (Some k) = ap kind_word same ∙ is in cc

z_no_opening : IsOpening (Word (codes "Z")) → ⊥
z_no_opening = no_empty (codes "Z") (λ e. absurd (omega (arith, ap length e)))

comma_no_opening : IsOpening Comma → ⊥
comma_no_opening (inl q) = cc
comma_no_opening (inr (run, q, is)) = cc

close_no_opening : IsOpening Close → ⊥
close_no_opening (inl q) = cc
close_no_opening (inr (run, q, is)) = cc

module _ {N : Type 0} (read : List ℕ → Option N) where
  no_number : (l : Lexeme) → ((run : List ℕ) → l ≡ Num run → ⊥) → IsNumber read l → ⊥
  no_number l never (run, x, q, is) = never run q

  open_tells : (e : Expected) → Tells (open_at e) (IsNamed read e Open)
  open_tells expected.Kind = λ (run, k, q, is). cc
  open_tells expected.Member = λ (run, k, q, is). cc
  open_tells expected.Dimension = inr (inl refl)
  open_tells expected.Opening = inl refl
  open_tells expected.Point = inr (inl refl)
  open_tells expected.More = neither (Open ≡ Comma) (Open ≡ Close) (λ q. cc) (λ q. cc)
  open_tells expected.Closing = λ q. cc
  open_tells _ = no_number Open (λ run q. cc)

  kind_tells : (e : Expected) → Tells (kind_at e) (IsNamed read e (Word (codes "POINT")))
  kind_tells expected.Kind = point_is
  kind_tells expected.Member = point_is
  kind_tells expected.Dimension = neither _ _ point_no_dimension point_no_opening
  kind_tells expected.Opening = point_no_opening
  kind_tells expected.Point = neither _ _ (no_number (Word (codes "POINT")) (λ run q. cc)) point_no_opening
  kind_tells expected.More = neither (Word (codes "POINT") ≡ Comma) (Word (codes "POINT") ≡ Close) (λ q. cc) (λ q. cc)
  kind_tells expected.Closing = λ q. cc
  kind_tells _ = no_number (Word (codes "POINT")) (λ run q. cc)

  dimension_tells : (e : Expected) → Tells (dimension_at e) (IsNamed read e (Word (codes "Z")))
  dimension_tells expected.Kind = z_no_kind
  dimension_tells expected.Member = z_no_kind
  dimension_tells expected.Dimension = inl z_is
  dimension_tells expected.Opening = z_no_opening
  dimension_tells expected.Point = neither _ _ (no_number (Word (codes "Z")) (λ run q. cc)) z_no_opening
  dimension_tells expected.More = neither (Word (codes "Z") ≡ Comma) (Word (codes "Z") ≡ Close) (λ q. cc) (λ q. cc)
  dimension_tells expected.Closing = λ q. cc
  dimension_tells _ = no_number (Word (codes "Z")) (λ run q. cc)

  comma_tells : (e : Expected) → Tells (comma_at e) (IsNamed read e Comma)
  comma_tells expected.Kind = λ (run, k, q, is). cc
  comma_tells expected.Member = λ (run, k, q, is). cc
  comma_tells expected.Dimension = neither (IsDimension Comma) (IsOpening Comma) (λ (run, d, q, is). cc) comma_no_opening
  comma_tells expected.Opening = comma_no_opening
  comma_tells expected.Point = neither _ _ (no_number Comma (λ run q. cc)) comma_no_opening
  comma_tells expected.More = inl refl
  comma_tells expected.Closing = λ q. cc
  comma_tells _ = no_number Comma (λ run q. cc)

  close_tells : (e : Expected) → Tells (close_at e) (IsNamed read e Close)
  close_tells expected.Kind = λ (run, k, q, is). cc
  close_tells expected.Member = λ (run, k, q, is). cc
  close_tells expected.Dimension = neither (IsDimension Close) (IsOpening Close) (λ (run, d, q, is). cc) close_no_opening
  close_tells expected.Opening = close_no_opening
  close_tells expected.Point = neither _ _ (no_number Close (λ run q. cc)) close_no_opening
  close_tells expected.More = inr refl
  close_tells expected.Closing = refl
  close_tells _ = no_number Close (λ run q. cc)

  same_bool : (a b : Bool) (P Q : Type 0) → Tells a P → Tells b Q → (P → Q) → (Q → P) → a ≡ b
  same_bool true true P Q h k to from = refl
  same_bool false false P Q h k to from = refl
  same_bool true false P Q h k to from = absurd (k (to h))
  same_bool false true P Q h k to from = absurd (h (from k))

  module _ (before : List Lexeme) (e e2 : Expected) (h : IsExpectedAfter read before e) (h2 : IsExpectedAfter read before e2) where
    same_at : (l : Lexeme) (a b : Bool) → Tells a (IsNamed read e l) → Tells b (IsNamed read e2 l) → a ≡ b
    same_at l a b t t2 = same_bool a b (IsNamed read e l) (IsNamed read e2 l) t t2 (λ n. (h2 l).1 ((h l).0 n)) (λ n. (h l).1 ((h2 l).0 n))

    same_group : group e ≡ group e2
    same_group =
        let o = same_at Open (open_at e) (open_at e2) (open_tells e) (open_tells e2) in
        let k = same_at (Word (codes "POINT")) (kind_at e) (kind_at e2) (kind_tells e) (kind_tells e2) in
        let d = same_at (Word (codes "Z")) (dimension_at e) (dimension_at e2) (dimension_tells e) (dimension_tells e2) in
        let m = same_at Comma (comma_at e) (comma_at e2) (comma_tells e) (comma_tells e2) in
        let c = same_at Close (close_at e) (close_at e2) (close_tells e) (close_tells e2) in
        ap (λ o. coded o (kind_at e) (dimension_at e) (comma_at e) (close_at e)) o
        ∙ ap (λ k. coded (open_at e2) k (dimension_at e) (comma_at e) (close_at e)) k
        ∙ ap (λ d. coded (open_at e2) (kind_at e2) d (comma_at e) (close_at e)) d
        ∙ ap (λ m. coded (open_at e2) (kind_at e2) (dimension_at e2) m (close_at e)) m
        ∙ ap (coded (open_at e2) (kind_at e2) (dimension_at e2) (comma_at e2)) c

    -- it is the one whose turn it is
    pub one_expected : (c : Context) → IsTurn e c → IsTurn e2 c → e ≡ e2
    one_expected c t t2 = one_turn e c t ∙ ap (λ n. chosen n c) same_group ∙ sym (one_turn e2 c t2)
