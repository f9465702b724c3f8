-- What is written of a piece.
use lib.Utf8.{encode}
use Rattle.std.proofs.Common.{◌≡◌, inl, inr, ℕ, Bool, true, false, ◌==◌, ◌||◌, List, [], ◌∷◌, ◌++◌, drop, slice_range, get_or, if◌then◌else◌, Result, Ok, Err, IfOk, IsUtf8, codes, refl, sym, ap, subst, ◌∙◌}
use borrow.Author.Tests.{ne_eqb}
use Rattle.wkt_num.specs.Bytes.{Lexeme, Nul, White, Mark, Run, Open, Close, Comma, Word, Num, class_of, IsRun, AllRun}
use Rattle.wkt_access.specs.declared.dimensions.Dimension.{Dimension}
use Rattle.wkt_access.specs.declared.dimensions.Dimension.TheVariants.{XY, XYZ, XYM, XYZM}
use Rattle.wkt_types.specs.declared.geometry_type.GeometryType.{GeometryType}
use Rattle.wkt_types.specs.declared.geometry_type.GeometryType.TheVariants as kind
use Rattle.wkt_read.specs.Lexemes.{SpellsLexeme, lexeme_of, starts_number, without_plus}
use Rattle.wkt_read.proofs.Spelled.{class_space, is_run}
use Rattle.wkt_sources.proofs.ByteViews.{number_run}
use Rattle.wkt_dialects.specs.declared.dialects.Dialects.{Dialects}
use Rattle.wkt_dialects.specs.declared.pieces.Piece.TheVariants as piece
use Rattle.wkt_dialects.specs.declared.pieces.Step.{Step}
use Rattle.wkt_dialects.specs.Dialects.{joined_word}
use Rattle.wkt_dialects.specs.Exponents.{read_exponents}
use Rattle.wkt_dialects.specs.Reading.{read_plain, IsAs, from_nul}
use Rattle.wkt_dialects.specs.Numbers.{IsWrittenNumber}
use Rattle.wkt_dialects.specs.Pieces.{lexeme_as, IsWritten}
use Rattle.wkt_dialects.proofs.Lexemes.{not-nul}
use Rattle.wkt_dialects.proofs.Spelling.{before-space}

-- A lexeme is read as itself, unless it is a number with dialects.

mark-as : (d : Dialects) (b : ℕ) (l : Lexeme) → class_of b ≡ Mark l → IsAs d l l
unfolding class_of
mark-as d b l e = go (b == 0) (b == 32 || b == 10 || b == 13 || b == 9) (b == 40) (b == 41) (b == 44) e
  where
    go : (n w o c m : Bool) → (if n then Nul else (if w then White else (if o then Mark Open else (if c then Mark Close else (if m then Mark Comma else Run))))) ≡ Mark l → IsAs d l l
    go true w o c m h = cc
    go false true o c m h = cc
    go false false true c m h = let same : Open ≡ l = cc in subst (λ x. IsAs d x x) same refl
    go false false false true m h = let same : Close ≡ l = cc in subst (λ x. IsAs d x x) same refl
    go false false false false true h = let same : Comma ≡ l = cc in subst (λ x. IsAs d x x) same refl
    go false false false false false h = cc

word-is : (body : List ℕ) → IsRun body → starts_number (get_or body 0 0) ≡ false → lexeme_of body ≡ Word body
word-is [] run e = absurd (run.0 refl)
word-is (b ∷ body) run e = ap (λ t. if t then Num (without_plus (b ∷ body)) else Word (b ∷ body)) e

number-is : (body : List ℕ) → IsRun body → starts_number (get_or body 0 0) ≡ true → lexeme_of body ≡ Num (without_plus body)
number-is [] run e = absurd (run.0 refl)
number-is (b ∷ body) run e = ap (λ t. if t then Num (without_plus (b ∷ body)) else Word (b ∷ body)) e

pub word-as : (d : Dialects) (body after : List ℕ) (l : Lexeme) → SpellsLexeme body after l → starts_number (get_or body 0 0) ≡ false → IsAs d l l
word-as d body after l (inl (b, is, mark)) e = mark-as d b l mark
word-as d body after l (inr (run, boundary, is)) e = subst (λ x. IsAs d x x) (sym (is ∙ word-is body run e)) refl

pub plain-as : (d : Dialects) (body after : List ℕ) (l : Lexeme) → SpellsLexeme body after l → d.exponents ≡ false → IsAs d l l
plain-as d body after Open s e = refl
plain-as d body after Close s e = refl
plain-as d body after Comma s e = refl
plain-as d body after (Word w) s e = refl
plain-as d body after (Num run) s e = λ places. sym (ap (λ b. if b then read_exponents 127 36 places run else read_plain places run) e)

pub starts-run : (body after : List ℕ) (l : Lexeme) → SpellsLexeme body after l → starts_number (get_or body 0 0) ≡ true → IsRun body
starts-run body after l (inl (b, is, mark)) e =
    let first : get_or body 0 0 ≡ b = ap (λ w. get_or w 0 0) is in
    let k : Run ≡ Mark l = sym (number_run b (ap starts_number (sym first) ∙ e)) ∙ mark in
    cc
starts-run body after l (inr (run, boundary, is)) e = run

spells-number : (body after : List ℕ) (l : Lexeme) → SpellsLexeme body after l → starts_number (get_or body 0 0) ≡ true → l ≡ Num (without_plus body)
spells-number body after l (inl (b, is, mark)) e =
    let first : get_or body 0 0 ≡ b = ap (λ w. get_or w 0 0) is in
    let k : Run ≡ Mark l = sym (number_run b (ap starts_number (sym first) ∙ e)) ∙ mark in
    cc
spells-number body after l (inr (run, boundary, is)) e = is ∙ number-is body run e

-- None has a NUL.

run-no-nul : (w : List ℕ) → AllRun w → from_nul w ≡ []
run-no-nul [] h = refl
run-no-nul (b ∷ w) h = ap (λ t. if t then b ∷ w else from_nul w) (ne_eqb b 0 (not-nul b Run h.0 (λ e. cc))) ∙ run-no-nul w h.1

spelled-no-nul : (body after : List ℕ) (l : Lexeme) → SpellsLexeme body after l → from_nul body ≡ []
spelled-no-nul body after l (inl (b, is, mark)) = ap from_nul is ∙ ap (λ t. if t then b ∷ [] else []) (ne_eqb b 0 (not-nul b (Mark l) mark (λ e. cc)))
spelled-no-nul body after l (inr (run, boundary, is)) = run-no-nul body run.1

space-ends : (run : List ℕ) (later : List ℕ) (l : Lexeme) → IsRun run → l ≡ lexeme_of run → SpellsLexeme run (32 ∷ later) l
space-ends run later l is e = inr (is, (λ k. let h : White ≡ Run = sym class_space ∙ k in cc), e)

-- The answers of the writing.

module _ {A E : Type 0} (r : Result A E) (d : Dialects) (text : List ℕ) (p : Step) (out new : List ℕ) where
  abbrev body : List ℕ
  body = slice_range text p.start p.end

  abbrev after : List ℕ
  after = drop p.end text

  pub as-it-stood : p.piece ≡ piece.Same → (l : Lexeme) → SpellsLexeme body after l → ((m : Lexeme) → SpellsLexeme body after m → IsAs d m m) → IfOk r (λ _. new ≡ out ++ body) → IfOk r (λ _. IsWritten d text p out new)
  as-it-stood same l spelled keeps h = go r h
    where
      go : (r : Result A E) → IfOk r (λ _. new ≡ out ++ body) → IfOk r (λ _. IsWritten d text p out new)
      go (Err e) k = tt
      go (Ok a) k = record {
        written = body;
        split = k;
        no_nul = spelled-no-nul body after l spelled;
        utf8 = λ u. u same;
        is = λ m s. (m, subst (λ q. IsAs d (lexeme_as q m) m) (sym same) (keeps m (s same)), λ later. before-space body after later m (s same));
      }

  pub as-number : p.piece ≡ piece.Same → d.exponents ≡ true → starts_number (get_or body 0 0) ≡ true → IfOk r (λ _. IsWrittenNumber body out new) → IfOk r (λ _. IsWritten d text p out new)
  as-number same asked starts h = go r h
    where
      number : (w : IsWrittenNumber body out new) (m : Lexeme) → SpellsLexeme body after m → IsAs d m (lexeme_of w.written)
      number w m s =
          let n : IsAs d (Num (without_plus body)) (Num (without_plus w.written)) = λ places. w.same places ∙ sym (ap (λ b. if b then read_exponents 127 36 places (without_plus body) else read_plain places (without_plus body)) asked) in
          subst (λ x. IsAs d x (lexeme_of w.written)) (sym (spells-number body after m s starts)) (subst (λ y. IsAs d (Num (without_plus body)) y) (sym (number-is w.written w.run_written w.begins)) n)

      go : (r : Result A E) → IfOk r (λ _. IsWrittenNumber body out new) → IfOk r (λ _. IsWritten d text p out new)
      go (Err e) k = tt
      go (Ok a) w = record {
        written = w.written;
        split = w.split;
        no_nul = run-no-nul w.written w.run_written.1;
        utf8 = λ u. w.utf8 (u same);
        is = λ m s. (lexeme_of w.written, subst (λ q. IsAs d (lexeme_as q m) (lexeme_of w.written)) (sym same) (number w m (s same)), λ later. space-ends w.written later (lexeme_of w.written) w.run_written refl);
      }

  pub as-word : (w : List ℕ) → IsRun w → lexeme_of w ≡ Word w → IsUtf8 w → ((m : Lexeme) → lexeme_as p.piece m ≡ Word w) → IfOk r (λ _. new ≡ out ++ w) → IfOk r (λ _. IsWritten d text p out new)
  as-word w run word text-is says h = go r h
    where
      go : (r : Result A E) → IfOk r (λ _. new ≡ out ++ w) → IfOk r (λ _. IsWritten d text p out new)
      go (Err e) k = tt
      go (Ok a) k = record {
        written = w;
        split = k;
        no_nul = run-no-nul w run.1;
        utf8 = λ u. text-is;
        is = λ m s. (Word w, subst (λ x. IsAs d x (Word w)) (sym (says m)) refl, λ later. space-ends w later (Word w) run (sym word));
      }

pub record IsWordRun (w : List ℕ) : Type 0 where
  pub run : IsRun w
  pub word : lexeme_of w ≡ Word w
  pub utf8 : IsUtf8 w

pub empty-run : IsWordRun (69 ∷ 77 ∷ 80 ∷ 84 ∷ 89 ∷ [])
unfolding class_of encode
empty-run = record { run = is_run 69 _ refl; word = refl; utf8 = (codes "EMPTY", (refl, refl)) }

pub joined-run : (k : GeometryType) (d : Dimension) → IsWordRun (joined_word k d)
unfolding class_of encode
joined-run kind.Point XY = record { run = is_run 80 _ refl; word = refl; utf8 = (codes "POINT", (refl, refl)) }
joined-run kind.Point XYZ = record { run = is_run 80 _ refl; word = refl; utf8 = (codes "POINTZ", (refl, refl)) }
joined-run kind.Point XYM = record { run = is_run 80 _ refl; word = refl; utf8 = (codes "POINTM", (refl, refl)) }
joined-run kind.Point XYZM = record { run = is_run 80 _ refl; word = refl; utf8 = (codes "POINTZM", (refl, refl)) }
joined-run kind.LineString XY = record { run = is_run 76 _ refl; word = refl; utf8 = (codes "LINESTRING", (refl, refl)) }
joined-run kind.LineString XYZ = record { run = is_run 76 _ refl; word = refl; utf8 = (codes "LINESTRINGZ", (refl, refl)) }
joined-run kind.LineString XYM = record { run = is_run 76 _ refl; word = refl; utf8 = (codes "LINESTRINGM", (refl, refl)) }
joined-run kind.LineString XYZM = record { run = is_run 76 _ refl; word = refl; utf8 = (codes "LINESTRINGZM", (refl, refl)) }
joined-run kind.Polygon XY = record { run = is_run 80 _ refl; word = refl; utf8 = (codes "POLYGON", (refl, refl)) }
joined-run kind.Polygon XYZ = record { run = is_run 80 _ refl; word = refl; utf8 = (codes "POLYGONZ", (refl, refl)) }
joined-run kind.Polygon XYM = record { run = is_run 80 _ refl; word = refl; utf8 = (codes "POLYGONM", (refl, refl)) }
joined-run kind.Polygon XYZM = record { run = is_run 80 _ refl; word = refl; utf8 = (codes "POLYGONZM", (refl, refl)) }
joined-run kind.MultiPoint XY = record { run = is_run 77 _ refl; word = refl; utf8 = (codes "MULTIPOINT", (refl, refl)) }
joined-run kind.MultiPoint XYZ = record { run = is_run 77 _ refl; word = refl; utf8 = (codes "MULTIPOINTZ", (refl, refl)) }
joined-run kind.MultiPoint XYM = record { run = is_run 77 _ refl; word = refl; utf8 = (codes "MULTIPOINTM", (refl, refl)) }
joined-run kind.MultiPoint XYZM = record { run = is_run 77 _ refl; word = refl; utf8 = (codes "MULTIPOINTZM", (refl, refl)) }
joined-run kind.MultiLineString XY = record { run = is_run 77 _ refl; word = refl; utf8 = (codes "MULTILINESTRING", (refl, refl)) }
joined-run kind.MultiLineString XYZ = record { run = is_run 77 _ refl; word = refl; utf8 = (codes "MULTILINESTRINGZ", (refl, refl)) }
joined-run kind.MultiLineString XYM = record { run = is_run 77 _ refl; word = refl; utf8 = (codes "MULTILINESTRINGM", (refl, refl)) }
joined-run kind.MultiLineString XYZM = record { run = is_run 77 _ refl; word = refl; utf8 = (codes "MULTILINESTRINGZM", (refl, refl)) }
joined-run kind.MultiPolygon XY = record { run = is_run 77 _ refl; word = refl; utf8 = (codes "MULTIPOLYGON", (refl, refl)) }
joined-run kind.MultiPolygon XYZ = record { run = is_run 77 _ refl; word = refl; utf8 = (codes "MULTIPOLYGONZ", (refl, refl)) }
joined-run kind.MultiPolygon XYM = record { run = is_run 77 _ refl; word = refl; utf8 = (codes "MULTIPOLYGONM", (refl, refl)) }
joined-run kind.MultiPolygon XYZM = record { run = is_run 77 _ refl; word = refl; utf8 = (codes "MULTIPOLYGONZM", (refl, refl)) }
joined-run kind.GeometryCollection XY = record { run = is_run 71 _ refl; word = refl; utf8 = (codes "GEOMETRYCOLLECTION", (refl, refl)) }
joined-run kind.GeometryCollection XYZ = record { run = is_run 71 _ refl; word = refl; utf8 = (codes "GEOMETRYCOLLECTIONZ", (refl, refl)) }
joined-run kind.GeometryCollection XYM = record { run = is_run 71 _ refl; word = refl; utf8 = (codes "GEOMETRYCOLLECTIONM", (refl, refl)) }
joined-run kind.GeometryCollection XYZM = record { run = is_run 71 _ refl; word = refl; utf8 = (codes "GEOMETRYCOLLECTIONZM", (refl, refl)) }
