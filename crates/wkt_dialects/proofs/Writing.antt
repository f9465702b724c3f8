-- What is written of all pieces.
use Rattle.std.proofs.Common.{◌≡◌, ℕ, suc, ◌≤◌, Bool, true, false, ◌==◌, nat_le, List, [], ◌∷◌, ◌++◌, length, drop, if◌then◌else◌, Result, Ok, Err, IfOk, IsUtf8, codes, refl, sym, ap, subst, ◌∙◌, arith, append_assoc, append-nil}
use lib.Utf8.{encode}
use Rattle.std.proofs.lemmas.Str.{IsUtf8-append}
use Rattle.wkt_num.specs.Bytes.{Lexeme}
use Rattle.wkt_read.specs.Lexemes.{IsEnd, IsSplit}
use Rattle.wkt_read.specs.Spanned.{Spanned, lexemes_of, spanned}
use Rattle.wkt_read.proofs.Placings.{spanned-split}
use Rattle.wkt_read.proofs.Splits.{split_one}
use Rattle.wkt_events.specs.Remaining.{remaining_spanned}
use Rattle.wkt_machine.specs.View.{IsBetween, IsDark}
use Rattle.wkt_dialects.specs.declared.dialects.Dialects.{Dialects}
use Rattle.wkt_dialects.specs.declared.pieces.Step.{Step}
use Rattle.wkt_dialects.specs.declared.spot.Spot.{Spot}
use Rattle.wkt_dialects.specs.declared.spot.Spot.TheVariants as spot
use Rattle.wkt_dialects.specs.Dialects.{read_as}
use Rattle.wkt_dialects.specs.Reading.{IsAs, AreAs, IsRestAs, lexemes_as, from_nul, ended_before}
use Rattle.wkt_dialects.specs.Pieces.{lexeme_as, LeadsTo, TakesPiece, IsWritten, HasWritten}
use Rattle.wkt_dialects.proofs.Leading.{read-nothing, from-start, over-there}
use Rattle.wkt_dialects.proofs.Lexemes.{no-nul, white-some}
use Rattle.wkt_dialects.proofs.Spelling.{written-first}
use Rattle.wkt_dialects.proofs.Texts.{past-white}

IsUtf8-space : IsUtf8 (32 ∷ [])
unfolding encode
IsUtf8-space = (codes " ", (refl, refl))

lexemes-last : (ps : List Spanned) (q : Spanned) → lexemes_of (ps ++ (q ∷ [])) ≡ lexemes_of ps ++ (q.lexeme ∷ [])
lexemes-last [] q = refl
lexemes-last (p ∷ ps) q = ap (λ l. p.lexeme ∷ l) (lexemes-last ps q)

as-last : (d : Dialects) (ls ms : List Lexeme) (l m : Lexeme) → AreAs d ls ms → IsAs d l m → AreAs d (ls ++ (l ∷ [])) (ms ++ (m ∷ []))
as-last d [] [] l m a h = (h, tt)
as-last d [] (y ∷ ms) l m a h = absurd a
as-last d (x ∷ ls) [] l m a h = absurd a
as-last d (x ∷ ls) (y ∷ ms) l m a h = (a.0, as-last d ls ms l m a.1 h)

nul-append : (a b : List ℕ) → from_nul a ≡ [] → from_nul (a ++ b) ≡ from_nul b
nul-append [] b e = refl
nul-append (x ∷ a) b e = go (nul-append a b) (x == 0) e
  where
    go : (from_nul a ≡ [] → from_nul (a ++ b) ≡ from_nul b) → (t : Bool) → (if t then x ∷ a else from_nul a) ≡ [] → (if t then x ∷ (a ++ b) else from_nul (a ++ b)) ≡ from_nul b
    go ih true k = cc
    go ih false k = ih k

pub nothing-written : (d : Dialects) (out : List ℕ) → out ≡ [] → HasWritten d [] out
nothing-written d out e = record { lexemes = []; same = tt; reads = λ later. ap (λ l. lexemes_of (spanned (l ++ later))) e; no_nul = ap from_nul e }

pub written-more : (d : Dialects) (s : Spot) (text : List ℕ) (at : ℕ) (taken : List Spanned) (p : Step) (out mid new : List ℕ) → HasWritten d taken out → (k : TakesPiece d s text at p) → IsWritten d text p out mid → new ≡ mid ++ (32 ∷ [])
    → HasWritten d (taken ++ (record { lexeme = lexeme_as p.piece k.lexeme; end = p.end } ∷ [])) new
written-more d s text at taken p out mid new h k w put =
    let (m, as-it, spells) = w.is k.lexeme (λ e. (k.spelled e).1) in
    record {
      lexemes = h.lexemes ++ (m ∷ []);
      same = subst (λ l. AreAs d l (h.lexemes ++ (m ∷ []))) (sym (lexemes-last taken (record { lexeme = lexeme_as p.piece k.lexeme; end = p.end }))) (as-last d (lexemes_of taken) h.lexemes (lexeme_as p.piece k.lexeme) m h.same as-it);
      reads = λ later.
          ap (λ l. lexemes_of (spanned (l ++ later))) (put ∙ ap (λ l. l ++ (32 ∷ [])) w.split)
          ∙ ap (λ l. lexemes_of (spanned l)) (append_assoc (out ++ w.written) (32 ∷ []) later ∙ append_assoc out w.written (32 ∷ later))
          ∙ h.reads (w.written ++ (32 ∷ later))
          ∙ ap (λ l. h.lexemes ++ l) (written-first w.written later m (spells later))
          ∙ sym (append_assoc h.lexemes (m ∷ []) (lexemes_of (spanned later)));
      no_nul = ap from_nul (put ∙ ap (λ l. l ++ (32 ∷ [])) w.split ∙ append_assoc out w.written (32 ∷ [])) ∙ nul-append out (w.written ++ (32 ∷ [])) h.no_nul ∙ nul-append w.written (32 ∷ []) w.no_nul;
    }

end-nothing : (bs : List ℕ) → IsEnd bs → lexemes_of (spanned bs) ≡ []
end-nothing bs e = let s : IsSplit bs [] = (bs, refl, ([], bs, refl, tt, e)) in split_one bs _ _ (spanned-split bs) s

pub more-text : (d : Dialects) (s : Spot) (text : List ℕ) (at : ℕ) (p : Step) (out mid new : List ℕ) → TakesPiece d s text at p → IsWritten d text p out mid → new ≡ mid ++ (32 ∷ []) → IsUtf8 (drop at text) → IsUtf8 out → IsUtf8 new
more-text d s text at p out mid new k w put u v =
    subst IsUtf8 (sym (put ∙ ap (λ l. l ++ (32 ∷ [])) w.split))
    (IsUtf8-append (out ++ w.written) (32 ∷ []) (IsUtf8-append out w.written v (w.utf8 (k.utf8 u).1)) (IsUtf8-space))

pub finished : {A E : Type 0} (r : Result A E) (d : Dialects) (s : Spot) (text : List ℕ) (at start : ℕ) (taken : List Spanned) (out new : List ℕ)
    → LeadsTo d spot.Elsewhere text 0 taken s at → HasWritten d taken out → remaining_spanned false text at ≡ [] → IsBetween false text at start → IsDark false text start → start ≤ length text
    → IfOk r (λ _. new ≡ out ++ drop start text) → (IsUtf8 text → IsUtf8 out) → IfOk r (λ _. IsRestAs d text new × (IsUtf8 text → IsUtf8 new))
finished (Err b) d s text at start taken out new l h none between dark inside k texts = tt
finished (Ok a) d s text at start taken out new l h none between dark inside k texts =
    let all : lexemes_as d text ≡ taken = from-start d text ∙ l.reads ∙ ap (λ ps. taken ++ read_as d 0 s ps) none ∙ ap (λ ps. taken ++ ps) (read-nothing d s) ∙ append-nil taken in
    let over : IsEnd (drop start text) = over-there text start dark (sym between.same ∙ none) in
    let written : lexemes_of (spanned new) ≡ h.lexemes = ap (λ b. lexemes_of (spanned b)) k ∙ h.reads (drop start text) ∙ ap (λ ms. h.lexemes ++ ms) (end-nothing (drop start text) over) ∙ append-nil h.lexemes in (
      record {
        lexemes = subst (λ ms. AreAs d (lexemes_of (lexemes_as d text)) ms) (sym written) (subst (λ ps. AreAs d (lexemes_of ps) h.lexemes) (sym all) h.same);
        nul = ap from_nul k ∙ nul-append out (drop start text) h.no_nul ∙ sym (l.no_nul ∙ no-nul text at start between.order inside (white-some text at start between));
      },
      λ u. subst IsUtf8 (sym k) (IsUtf8-append out (drop start text) (texts u) (past-white text at start between inside (l.utf8 u))),
    )

-- As many lexemes.
length-lexemes : (ps : List Spanned) → length (lexemes_of ps) ≡ length ps
length-lexemes [] = refl
length-lexemes (p ∷ ps) = ap suc (length-lexemes ps)

as-many : (d : Dialects) (ls ms : List Lexeme) → AreAs d ls ms → length ls ≡ length ms
as-many d [] [] a = refl
as-many d [] (y ∷ ms) a = absurd a
as-many d (x ∷ ls) [] a = absurd a
as-many d (x ∷ ls) (y ∷ ms) a = ap suc (as-many d ls ms a.1)

ended-most : (upto : ℕ) (ps : List Spanned) → ended_before upto ps ≤ length ps
ended-most upto [] = omega arith
ended-most upto (p ∷ ps) = go (ended-most upto ps) (nat_le p.end upto)
  where
    go : ended_before upto ps ≤ length ps → (b : Bool) → (if b then suc (ended_before upto ps) else 0) ≤ length (p ∷ ps)
    go ih true = omega (arith, ih)
    go ih false = omega arith

pub few_enough : (d : Dialects) (text other : List ℕ) (upto : ℕ) → IsRestAs d text other → ended_before upto (spanned other) ≤ length (lexemes_as d text)
few_enough d text other upto h = omega (arith, ended-most upto (spanned other), length-lexemes (spanned other), length-lexemes (lexemes_as d text), as-many d _ _ h.lexemes)
