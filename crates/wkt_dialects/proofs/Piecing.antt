-- How the lexemes at a place are read, one piece at a time.
use Rattle.std.proofs.Common.{◌≡◌, ℕ, zero, suc, ◌-◌, ◌<◌, false, List, [], ◌∷◌, ◌++◌, length, Option, Some, None, if◌then◌else◌, codes, refl, sym, ap, ◌∙◌, arith}
use borrow.Author.Tests.{eq-eqb, ne_eqb}
use Rattle.wkt_num.specs.Bytes.{Word}
use Rattle.wkt_access.specs.declared.dimensions.Dimension.{Dimension}
use Rattle.wkt_access.specs.declared.dimensions.Dimension.TheVariants.{XY, XYZ, XYM, XYZM}
use Rattle.wkt_types.specs.declared.geometry_type.GeometryType.{GeometryType}
use Rattle.wkt_types.specs.declared.geometry_type.GeometryType.TheVariants as kind
use Rattle.wkt_read.specs.Grammar.{kind_word, kind_words, entry}
use Rattle.wkt_read.specs.Spanned.{Spanned, end_after}
use Rattle.wkt_read.proofs.KindWords.{empty_no_dim, empty_no_kind}
use Rattle.wkt_dialects.specs.declared.dialects.Dialects.{Dialects}
use Rattle.wkt_events.specs.Remaining.{remaining_spanned}
use Rattle.wkt_dialects.specs.declared.lexeme.Found.{Found}
use Rattle.wkt_dialects.specs.declared.pieces.Piece.{Piece}
use Rattle.wkt_dialects.specs.declared.pieces.Piece.TheVariants as piece
use Rattle.wkt_dialects.specs.Pieces.{lexeme_as, lexeme_in, IsFound, IsPastSome, TakesPiece}
use Rattle.wkt_dialects.specs.declared.spot.Spot.{Spot}
use Rattle.wkt_dialects.specs.declared.spot.Spot.TheVariants as spot
use Rattle.wkt_dialects.specs.Dialects.{read_as, tagged, empty_there, empty_word, spot_behind, spot_word, dimensioned, goes_on, joined_word, headed}
use Rattle.wkt_dialects.proofs.Texts.{found-text}

-- A lexeme where no empty point stands.
pub read-one : (d : Dialects) (s : Spot) (p : Spanned) (ps : List Spanned) → empty_there d s (p ∷ ps) ≡ 0
    → read_as d 0 s (p ∷ ps) ≡ record { lexeme = tagged d p.lexeme ps; end = p.end } ∷ read_as d 0 (spot_behind s (tagged d p.lexeme ps)) ps
unfolding read_as
read-one d s p ps e =
    ap (λ b. if b then record { lexeme = tagged d p.lexeme ps; end = p.end } ∷ read_as d 0 (spot_behind s (tagged d p.lexeme ps)) ps else read_as d (empty_there d s (p ∷ ps) - 1) s ps) (eq-eqb _ 0 e)

-- So many lexemes that are an empty point.
skip : (d : Dialects) (s : Spot) (k n : ℕ) (taken ps : List Spanned) → length taken ≡ suc k
    → read_as d (suc k) s (taken ++ ps) ≡ record { lexeme = empty_word; end = end_after n taken } ∷ read_as d 0 (spot_behind s empty_word) ps
unfolding read_as
skip d s k n [] ps e = absurd (omega (arith, e))
skip d s zero n (p ∷ []) ps e = refl
skip d s zero n (p ∷ q ∷ taken) ps e = absurd (omega (arith, e))
skip d s (suc k) n (p ∷ taken) ps e = skip d s k p.end taken ps (omega (arith, e))

pub read-group : (d : Dialects) (s : Spot) (n : ℕ) (taken ps : List Spanned) → 1 < length taken → empty_there d s (taken ++ ps) ≡ length taken
    → read_as d 0 s (taken ++ ps) ≡ record { lexeme = empty_word; end = end_after n taken } ∷ read_as d 0 (spot_behind s empty_word) ps
unfolding read_as
read-group d s n [] ps many e = absurd (omega (arith, many))
read-group d s n (p ∷ []) ps many e = absurd (omega (arith, many))
read-group d s n (p ∷ q ∷ taken) ps many e =
    let t : ℕ = empty_there d s (p ∷ q ∷ (taken ++ ps)) in
    let less : t - 1 ≡ suc (length taken) = omega (arith, e) in
    ap (λ b. if b then record { lexeme = tagged d p.lexeme (q ∷ (taken ++ ps)); end = p.end } ∷ read_as d 0 (spot_behind s (tagged d p.lexeme (q ∷ (taken ++ ps)))) (q ∷ (taken ++ ps)) else read_as d (t - 1) s (q ∷ (taken ++ ps))) (ne_eqb t 0 (λ z. omega (arith, e, z)))
    ∙ ap (λ k. read_as d k s (q ∷ (taken ++ ps))) less
    ∙ skip d s (length taken) p.end (q ∷ taken) ps refl

-- Where the lexeme behind it stands.
no-dim : (s : Spot) → dimensioned s None ≡ goes_on s
no-dim spot.Elsewhere = refl
no-dim (spot.Headed k d) = refl
no-dim (spot.Begins d) = refl
no-dim (spot.Within d) = refl

pub empty-behind : (s : Spot) → spot_behind s empty_word ≡ goes_on s
empty-behind s =
    ap (λ o. spot_word s o (codes "EMPTY")) (empty_no_kind (codes "EMPTY") refl)
    ∙ ap (dimensioned s) (empty_no_dim (codes "EMPTY") refl)
    ∙ no-dim s

-- What a joined word says.
joined-says : Dimension → Option Dimension
joined-says XY = None
joined-says d = Some d

joined : (k : GeometryType) (d : Dimension) → kind_word (joined_word k d) ≡ Some (entry (joined_word k d) k (joined-says d))
unfolding kind_word kind_words joined-says
joined kind.Point XY = refl
joined kind.Point XYZ = refl
joined kind.Point XYM = refl
joined kind.Point XYZM = refl
joined kind.LineString XY = refl
joined kind.LineString XYZ = refl
joined kind.LineString XYM = refl
joined kind.LineString XYZM = refl
joined kind.Polygon XY = refl
joined kind.Polygon XYZ = refl
joined kind.Polygon XYM = refl
joined kind.Polygon XYZM = refl
joined kind.MultiPoint XY = refl
joined kind.MultiPoint XYZ = refl
joined kind.MultiPoint XYM = refl
joined kind.MultiPoint XYZM = refl
joined kind.MultiLineString XY = refl
joined kind.MultiLineString XYZ = refl
joined kind.MultiLineString XYM = refl
joined kind.MultiLineString XYZM = refl
joined kind.MultiPolygon XY = refl
joined kind.MultiPolygon XYZ = refl
joined kind.MultiPolygon XYM = refl
joined kind.MultiPolygon XYZM = refl
joined kind.GeometryCollection XY = refl
joined kind.GeometryCollection XYZ = refl
joined kind.GeometryCollection XYM = refl
joined kind.GeometryCollection XYZM = refl

headed-so : (k : GeometryType) (d : Dimension) → headed k (joined-says d) ≡ spot.Headed k d
unfolding joined-says
headed-so k XY = refl
headed-so k XYZ = refl
headed-so k XYM = refl
headed-so k XYZM = refl

pub joined-behind : (s : Spot) (k : GeometryType) (d : Dimension) → spot_behind s (Word (joined_word k d)) ≡ spot.Headed k d
joined-behind s k d = ap (λ o. spot_word s o (joined_word k d)) (joined k d) ∙ headed-so k d

-- A piece at a place of a text.
module _ (d : Dialects) (s : Spot) (text : List ℕ) (from : ℕ) (f : Found) (is : IsFound text from f) where
  abbrev there : List Spanned
  there = remaining_spanned false text from

  pub takes-empty : (end : ℕ) (t : Spot) → 1 < empty_there d s there → IsPastSome text from (empty_there d s there) end → t ≡ goes_on s
      → TakesPiece d s text from (record { piece = piece.Empty; start = f.start; end = end; spot = t })
  takes-empty end t some p t-is =
      let counted : empty_there d s (p.taken ++ remaining_spanned false text end) ≡ length p.taken = ap (empty_there d s) (sym p.split) ∙ sym p.many in
      record {
        lexeme = lexeme_in text f;
        grows = omega (arith, p.order, some);
        inside = (omega (arith, is.bytes.order, is.bytes.inside), p.inside);
        between = is.between;
        dark = is.dark;
        no_nul = p.no_nul;
        utf8 = λ u. (p.utf8 u, λ e. cc);
        reads =
            ap (read_as d 0 s) p.split
            ∙ read-group d s from p.taken (remaining_spanned false text end) (omega (arith, some, p.many)) counted
            ∙ ap (λ n. record { lexeme = empty_word; end = n } ∷ read_as d 0 (spot_behind s empty_word) (remaining_spanned false text end)) p.ends
            ∙ ap (λ u. record { lexeme = empty_word; end = end } ∷ read_as d 0 u (remaining_spanned false text end)) (empty-behind s ∙ sym t-is);
        spelled = λ e. cc;
      }

  pub takes-one : (q : Piece) (t : Spot) → empty_there d s there ≡ 0 → lexeme_as q (lexeme_in text f) ≡ tagged d (lexeme_in text f) (remaining_spanned false text f.end) → t ≡ spot_behind s (lexeme_as q (lexeme_in text f))
      → TakesPiece d s text from (record { piece = q; start = f.start; end = f.end; spot = t })
  takes-one q t none says t-is =
      let behind : List Spanned = remaining_spanned false text f.end in
      let here : Spanned = record { lexeme = lexeme_in text f; end = f.end } in
      record {
        lexeme = lexeme_in text f;
        grows = omega (arith, is.between.order, is.bytes.order);
        inside = (omega (arith, is.bytes.order, is.bytes.inside), is.bytes.inside);
        between = is.between;
        dark = is.dark;
        no_nul = is.no_nul;
        utf8 = λ u. ((found-text text from f is u).1, λ e. (found-text text from f is u).0);
        reads =
            ap (read_as d 0 s) is.next
            ∙ read-one d s here behind (ap (empty_there d s) (sym is.next) ∙ none)
            ∙ ap (λ l. record { lexeme = l; end = f.end } ∷ read_as d 0 (spot_behind s l) behind) (sym says)
            ∙ ap (λ u. record { lexeme = lexeme_as q (lexeme_in text f); end = f.end } ∷ read_as d 0 u behind) (sym t-is);
        spelled = λ e. (is.bytes, is.spelled);
      }
