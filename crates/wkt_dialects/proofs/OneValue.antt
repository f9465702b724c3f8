-- All that a text is read as has the same value.
use Rattle.std.proofs.Common.{◌≡◌, ◌⊎◌, inl, inr, ℕ, zero, suc, ℤ, List, [], ◌∷◌, ◌++◌, Option, Some, None, IfSome, refl, sym, ap, subst, ◌∙◌, append-nil}
use Rattle.wkt_num.specs.Bytes.{Lexeme, Open, Close, Comma, Word, Num}
use Rattle.wkt_access.specs.Values.{Value}
use Rattle.wkt_read.specs.Explained.{HasFront}
use Rattle.wkt_read.specs.Front.{Front, HasNoFront}
use Rattle.wkt_read.specs.Grammar.{StandFor}
use Rattle.wkt_read.specs.Spanned.{Spanned, lexemes_of, end_after, AreEnds, spanned}
use Rattle.wkt_read.proofs.HeaderPlaces.{front-of-lexemes}
use Rattle.wkt_read.proofs.OneForm.{taken_begin, geometry_fits}
use Rattle.wkt_read.proofs.Placings.{spanned-split, spanned-ends}
use Rattle.wkt_read.proofs.Splits.{split_one}
use Rattle.wkt_machine.specs.Events.{events}
use Rattle.wkt_values.specs.Growing.{Growing, rest, grow_all}
use Rattle.wkt_machine.specs.Machine as place
use Rattle.wkt_machine.specs.Machine.{Place, State, Move, start, at, after, and_then, move, moved, said, run, step_at}
use Rattle.wkt_machine.proofs.Complete.{value_run}
use Rattle.wkt_values.proofs.ValueFromEvents.{value_grows}
use Rattle.wkt_machine.proofs.WholeRuns.{exact}
use Rattle.wkt_dialects.specs.declared.dialects.Dialects.{Dialects}
use Rattle.wkt_dialects.specs.Dialects.{IsRest}
use Rattle.wkt_dialects.specs.Laws.{OneValueAs}
use Rattle.wkt_dialects.specs.Reading.{read_plain, IsAs, AreAs, IsRestAs, lexemes_as}
use Rattle.wkt_dialects.proofs.FrontSrid.{one-srid}

-- What is left behind the SRID is one.
rest-one : (d : Dialects) (text a b : List ℕ) → IsRest d text a → IsRest d text b → a ≡ b
rest-one d text a b (inl (asked, (m, h))) (inl (asked2, (n, k))) = (one-srid text a b m n h k).1
rest-one d text a b (inl (asked, (m, h))) (inr (e, none)) = absurd (none asked m a h)
rest-one d text a b (inr (e, none)) (inl (asked, (n, k))) = absurd (none asked n b k)
rest-one d text a b (inr (e, none)) (inr (e2, none2)) = e ∙ sym e2

-- Lexemes as which the same ones are read lead the machine the same way.
step-number : (p : Place) (n : ℕ) (a b : List ℕ) → step_at p n (Num a) ≡ step_at p n (Num b)
step-number place.Kind n a b = refl
step-number (place.Alone p) n a b = refl
step-number (place.Opening p d) n a b = refl
step-number (place.Number p d more) n a b = refl
step-number (place.Item p d) n a b = refl
step-number place.Geometry zero a b = refl
step-number place.Geometry (suc n) a b = refl

module _ (d : Dialects) (places : ℕ) where
  abbrev read : List ℕ → Option ℤ
  read = read_plain places

  twin-move : (s : State) (l m n : Lexeme) → IsAs d l m → IsAs d l n → move read s m ≡ move read s n
  twin-move s (Num run) (Num a) (Num b) h k = ap (λ o. moved read o (said read (read a))) (step-number s.place s.depth a b) ∙ ap (λ o. moved read (step_at s.place s.depth (Num b)) (said read o)) (h places ∙ sym (k places))
  twin-move s (Num run) (Num a) Open h k = cc
  twin-move s (Num run) (Num a) Close h k = cc
  twin-move s (Num run) (Num a) Comma h k = cc
  twin-move s (Num run) (Num a) (Word w) h k = cc
  twin-move s (Num run) Open n h k = cc
  twin-move s (Num run) Close n h k = cc
  twin-move s (Num run) Comma n h k = cc
  twin-move s (Num run) (Word w) n h k = cc
  twin-move s Open m n h k = ap (move read s) (sym h ∙ k)
  twin-move s Close m n h k = ap (move read s) (sym h ∙ k)
  twin-move s Comma m n h k = ap (move read s) (sym h ∙ k)
  twin-move s (Word w) m n h k = ap (move read s) (sym h ∙ k)

  twin-run : (ls ms ns : List Lexeme) (s : State) → AreAs d ls ms → AreAs d ls ns → run read s ms ≡ run read s ns
  twin-run [] [] [] s a b = refl
  twin-run [] [] (n ∷ ns) s a b = absurd b
  twin-run [] (m ∷ ms) ns s a b = absurd a
  twin-run (l ∷ ls) [] ns s a b = absurd a
  twin-run (l ∷ ls) (m ∷ ms) [] s a b = absurd b
  twin-run (l ∷ ls) (m ∷ ms) (n ∷ ns) s a b =
      ap (λ o. and_then o (λ t. run read t ms)) (twin-move s l m n a.0 b.0) ∙ go (λ t. twin-run ls ms ns t a.1 b.1) (move read s n)
    where
      go : ((t : State) → run read t ms ≡ run read t ns) → (o : Option (Move ℤ)) → and_then o (λ t. run read t ms) ≡ and_then o (λ t. run read t ns)
      go ih None = refl
      go ih (Some x) = ap (after x.1) (ih x.0)

  -- A beginning of the one list is one of the other.
  record Cut (ks : List Lexeme) (ls : List Lexeme) (ps : List Spanned) : Type 0 where
    front : List Lexeme
    given : List Spanned
    later : List Spanned
    split : ps ≡ given ++ later
    one : AreAs d front ks
    other : AreAs d front (lexemes_of given)

  cut : (ks bs ls : List Lexeme) (ps : List Spanned) → AreAs d ls (ks ++ bs) → AreAs d ls (lexemes_of ps) → Cut ks ls ps
  cut [] bs ls ps a b = record { front = []; given = []; later = ps; split = refl; one = tt; other = tt }
  cut (m ∷ ks) bs [] ps a b = absurd a
  cut (m ∷ ks) bs (l ∷ ls) [] a b = absurd b
  cut (m ∷ ks) bs (l ∷ ls) (p ∷ ps) a b =
      let c = cut ks bs ls ps a.1 b.1 in
      record { front = l ∷ c.front; given = p ∷ c.given; later = c.later; split = ap (λ q. p ∷ q) c.split; one = (a.0, c.one); other = (b.0, c.other) }

  same-value : (v w : Value ℤ) (a b : List Lexeme) → StandFor read a v → StandFor read b w → events v ++ [] ≡ events w → v ≡ w
  same-value v w a b g h e =
      let fits : (bs : List ℕ) → IfSome (read bs) (λ x. Unit {0}) = λ bs. any (read bs) in
      let one = value_grows (λ x. Unit {0}) v (geometry_fits (λ x. Unit {0}) read fits v a g) [] in
      let two = value_grows (λ x. Unit {0}) w (geometry_fits (λ x. Unit {0}) read fits w b h) [] in
      let both : rest [] (Some v) ≡ rest [] (Some w) = sym one.is ∙ ap (λ es. grow_all es (rest [] None)) (sym (append-nil (events v)) ∙ e) ∙ two.is in
      some-same v w (ap (λ (x : Growing ℤ). x.grown) both)
    where
      some-same : (x y : Value ℤ) → ◌≡◌ {A = Option (Value ℤ)} (Some x) (Some y) → x ≡ y
      some-same x y h = cc

      any : (o : Option ℤ) → IfSome o (λ x. Unit {0})
      any None = tt
      any (Some x) = tt

  twin-front : (rest one other : List ℕ) (v : Value ℤ) (end : ℕ) → IsRestAs d rest one → IsRestAs d rest other → Front read one v end → (to : ℕ) × Front read other v to
  twin-front rest one other v end h k f =
      let (x, s) = taken_begin one f.rest f.lexemes f.taken in
      let all : lexemes_of (spanned one) ≡ f.lexemes ++ x = split_one one _ _ (spanned-split one) s in
      let c = cut f.lexemes x (lexemes_of (lexemes_as d rest)) (spanned other) (subst (AreAs d (lexemes_of (lexemes_as d rest))) all h.lexemes) k.lexemes in
      let whole : run read start f.lexemes ≡ Some (at 0 place.Geometry, events v ++ []) = ap (run read start) (sym (append-nil f.lexemes)) ∙ (value_run read v f.lexemes 0 f.reads).on [] in
      let goes : run read start (lexemes_of c.given) ≡ Some (at 0 place.Geometry, events v ++ []) = sym (twin-run c.front f.lexemes (lexemes_of c.given) start c.one c.other) ∙ whole in
      let (w, g, e) = exact read (lexemes_of c.given) (at 0 place.Geometry) (events v ++ []) goes refl in
      let same : v ≡ w = same-value v w f.lexemes (lexemes_of c.given) f.reads g e in
      (end_after 0 c.given, front-of-lexemes read other c.given c.later v (subst (AreEnds other) c.split (spanned-ends other)) (subst (StandFor read (lexemes_of c.given)) (sym same) g))

pub one-value : OneValueAs
one-value d places text one other v end r q f = go r.is q.is
  where
    same : r.rest ≡ q.rest
    same = rest-one d text r.rest q.rest r.split_off q.split_off

    go : (HasFront (read_plain places) r.rest × (one ≡ r.rest)) ⊎ (HasNoFront (read_plain places) r.rest × IsRestAs d r.rest one)
        → (HasFront (read_plain places) q.rest × (other ≡ q.rest)) ⊎ (HasNoFront (read_plain places) q.rest × IsRestAs d q.rest other) → (to : ℕ) × Front (read_plain places) other v to
    go (inl a) (inl b) = (end, subst (λ t. Front (read_plain places) t v end) (a.1 ∙ same ∙ sym b.1) f)
    go (inl a) (inr b) = absurd (b.0 a.0.0 a.0.1 (subst (λ t. Front (read_plain places) t a.0.0 a.0.1) same a.0.2))
    go (inr a) (inl b) = absurd (a.0 b.0.0 b.0.1 (subst (λ t. Front (read_plain places) t b.0.0 b.0.1) (sym same) b.0.2))
    go (inr a) (inr b) = twin-front d places q.rest one other v end (subst (λ t. IsRestAs d t one) same a.1) b.1 f
