-- A lexeme that is written in front of others.
use Rattle.std.proofs.Common.{◌≡◌, inl, inr, ℕ, List, [], ◌∷◌, ◌++◌, refl, sym, ap, ◌∙◌}
use Rattle.wkt_num.specs.Bytes.{Lexeme, White, Run}
use Rattle.wkt_read.specs.Lexemes.{SpellsLexeme, IsSplit}
use Rattle.wkt_read.specs.Spanned.{lexemes_of, spanned}
use Rattle.wkt_read.proofs.Placings.{spanned-split}
use Rattle.wkt_read.proofs.Spelled.{class_space}
use Rattle.wkt_read.proofs.Splits.{split_one}

split-space : (later : List ℕ) (ls : List Lexeme) → IsSplit later ls → IsSplit (32 ∷ later) ls
split-space later [] (rest, taken, (gap, after, e, white, end)) = (32 ∷ rest, ap (λ l. 32 ∷ l) taken, (32 ∷ gap, after, ap (λ l. 32 ∷ l) e, (class_space, white), end))
split-space later (l ∷ ls) (rest, (gap, body, after, e, white, spelled, more), over) = (rest, (32 ∷ gap, body, after, ap (λ l. 32 ∷ l) e, (class_space, white), spelled, more), over)

split-first : (body later : List ℕ) (l : Lexeme) (ls : List Lexeme) → SpellsLexeme body later l → IsSplit later ls → IsSplit (body ++ later) (l ∷ ls)
split-first body later l ls spelled (rest, taken, over) = (rest, ([], body, later, refl, tt, spelled, taken), over)

-- A space ends each.
pub before-space : (body after later : List ℕ) (l : Lexeme) → SpellsLexeme body after l → SpellsLexeme body (32 ∷ later) l
before-space body after later l (inl h) = inl h
before-space body after later l (inr (run, boundary, e)) = inr (run, (λ k. let h : White ≡ Run = sym class_space ∙ k in cc), e)

pub written-first : (body later : List ℕ) (l : Lexeme) → SpellsLexeme body (32 ∷ later) l → lexemes_of (spanned (body ++ (32 ∷ later))) ≡ l ∷ lexemes_of (spanned later)
written-first body later l spelled =
    split_one (body ++ (32 ∷ later)) _ _ (spanned-split (body ++ (32 ∷ later))) (split-first body (32 ∷ later) l (lexemes_of (spanned later)) spelled (split-space later (lexemes_of (spanned later)) (spanned-split later)))
