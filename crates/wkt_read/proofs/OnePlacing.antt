-- The lexemes of a text and their ends are one list, of no more than its bytes.
use Rattle.std.proofs.Common.{◌≡◌, ℕ, List, [], ◌∷◌, ◌++◌, length, refl, sym, ap, ◌∙◌, subst, arith, append_assoc, ◌≢◌, ◌+◌, ◌≤◌, ◌<◌, length-append}
use Rattle.wkt_read.specs.Lexemes.{IsSplit, Takes}
use Rattle.wkt_read.specs.Spanned.{Spanned, lexemes_of, end_after, AreEnds, spanned}
use Rattle.wkt_read.proofs.Splits.{split_one, takes_rest, body_not_empty}
use Rattle.wkt_read.proofs.Placings.{spanned-split, spanned-ends}
use Rattle.wkt_num.specs.Bytes.{Lexeme}

-- A text's lexemes and their ends are one list.

lexemes-push : (given : List Spanned) (p : Spanned) → lexemes_of (given ++ p ∷ []) ≡ lexemes_of given ++ p.lexeme ∷ []
lexemes-push [] p = refl
lexemes-push (x ∷ given) p = ap (λ l. x.lexeme ∷ l) (lexemes-push given p)

end-push : (at : ℕ) (given : List Spanned) (p : Spanned) → end_after at (given ++ p ∷ []) ≡ p.end
end-push at [] p = refl
end-push at (x ∷ given) p = end-push x.end given p

-- two ends of the same lexeme
end-one : (text : List ℕ) (given ps qs : List Spanned) (p q : Spanned) → p.lexeme ≡ q.lexeme → AreEnds text (given ++ p ∷ ps) → AreEnds text (given ++ q ∷ qs) → p.end ≡ q.end
end-one text given ps qs p q same a b =
    let (r, t, n) = a (given ++ p ∷ []) ps (sym (append_assoc given (p ∷ []) ps)) in
    let (s, u, m) = b (given ++ q ∷ []) qs (sym (append_assoc given (q ∷ []) qs)) in
    let alike : lexemes_of (given ++ p ∷ []) ≡ lexemes_of (given ++ q ∷ []) = lexemes-push given p ∙ ap (λ l. lexemes_of given ++ l ∷ []) same ∙ sym (lexemes-push given q) in
    let rests : r ≡ s = takes_rest _ _ text text r s refl alike t u in
    omega (arith, n, m, ap length rests, end-push 0 given p, end-push 0 given q)

ends-one : (text : List ℕ) (given ps qs : List Spanned) → lexemes_of ps ≡ lexemes_of qs → AreEnds text (given ++ ps) → AreEnds text (given ++ qs) → ps ≡ qs
ends-one text given [] [] e a b = refl
ends-one text given [] (q ∷ qs) e a b = cc
ends-one text given (p ∷ ps) [] e a b = cc
ends-one text given (p ∷ ps) (q ∷ qs) e a b =
    let first : p.lexeme ≡ q.lexeme = cc in
    let others : lexemes_of ps ≡ lexemes_of qs = cc in
    let end : p.end ≡ q.end = end-one text given ps qs p q first a b in
    let same : p ≡ q = ap (λ l. record { lexeme = l; end = p.end }) first ∙ ap (λ n. record { lexeme = q.lexeme; end = n }) end in
    let a' = subst (AreEnds text) (sym (append_assoc given (p ∷ []) ps)) a in
    let b' = subst (λ x. AreEnds text ((given ++ x ∷ []) ++ qs)) (sym same) (subst (AreEnds text) (sym (append_assoc given (q ∷ []) qs)) b) in
    ap (λ l. p ∷ l) (ends-one text (given ++ p ∷ []) ps qs others a' b') ∙ ap (λ x. x ∷ qs) same

pub spanned-only : (text : List ℕ) (ps : List Spanned) → IsSplit text (lexemes_of ps) → AreEnds text ps → ps ≡ spanned text
spanned-only text ps split ends = ends-one text [] ps (spanned text) (split_one text _ _ split (spanned-split text)) ends (spanned-ends text)

-- A text has no more lexemes than bytes.

long : (bs : List ℕ) → bs ≢ [] → 0 < length bs
long [] some = absurd (some refl)
long (b ∷ bs) some = omega arith

takes-few : (ls : List Lexeme) (text rest : List ℕ) → Takes text ls rest → length ls + length rest ≤ length text
takes-few [] text rest e = omega (arith, ap length e)
takes-few (l ∷ ls) text rest (gap, body, after, e, w, s, more) =
    omega (arith, takes-few ls after rest more, long body (body_not_empty body after l s), ap length e, length-append gap (body ++ after), length-append body after)

pub few : (text : List ℕ) (ls : List Lexeme) → IsSplit text ls → length ls ≤ length text
few text ls (rest, t, over) = omega (arith, takes-few ls text rest t)

pub lexemes-length : (ps : List Spanned) → length (lexemes_of ps) ≡ length ps
lexemes-length [] = refl
lexemes-length (p ∷ ps) = omega (arith, lexemes-length ps)

pub spanned-few : (text : List ℕ) → length (spanned text) ≤ length text
spanned-few text = omega (arith, few text (lexemes_of (spanned text)) (spanned-split text), lexemes-length (spanned text))
