-- What becomes of a text in dialects.
use Rattle.std.proofs.Common.{◌≡◌, inl, inr, ℕ, ℤ, ◌+◌, ◌≤◌, Bool, List, Option, Some, None, Result, Ok, Err, IfOk, length, drop, min, refl, arith}
use Rattle.wkt_num.specs.Decimal.{decimal_text, read_decimal}
use Rattle.wkt_read.specs.Explained.{HasFront}
use Rattle.wkt_read.specs.Front.{HasNoFront}
use Rattle.wkt_read.specs.Spanned.{spanned}
use Rattle.wkt_dialects.specs.Dialects.{IsRest}
use Rattle.wkt_dialects.specs.Reading.{IsRestAs, IsPlace, ended_before}
use Rattle.wkt_dialects.specs.declared.dialects.Dialects.{Dialects}
use Rattle.wkt_command.specs.Verdict.{IsVerdict}
use Rattle.wkt_command.specs.Dialects.{IsTextIn, IsPlaced, IsPlacedVerdict, IsVerdictIn}
use Rattle.wkt_command.specs.declared.verdict.Verdict.{Verdict}
use Rattle.wkt_command.specs.declared.verdict.Verdict.TheVariants.{Read, Refused, Rest}

pub if-ok : {A E : Type 0} (r : Result A E) (P Q : A → Type 0) → ((x : A) → P x → Q x) → IfOk r P → IfOk r Q
if-ok (Ok x) P Q f h = f x h
if-ok (Err e) P Q f h = tt

module _ (places : ℕ) (front : Bool) (text room : List ℕ) where
  abbrev read : List ℕ → Option ℤ
  read = read_decimal 127 36 (min places 36)

  abbrev Judges : List ℕ → Verdict → Type 0
  Judges other v = IsVerdict read (decimal_text (min places 36)) front other room v

  -- Without dialects a text is read as itself.
  as-it-stands : (v : Verdict) → Judges text v → IsPlacedVerdict None text text v v
  as-it-stands (Read n) is = refl
  as-it-stands (Refused r) is = (refl, is.0, record { from = 0; inside = omega arith; same = refl; start_is = omega (arith, is.1); end_is = omega (arith, is.2) })
  as-it-stands (Rest end) is = (end, record { from = 0; inside = omega arith; same = refl; start_is = omega arith; end_is = omega arith })

  pub in-none : (v : Verdict) → Judges text v → IsVerdictIn None places front text room v
  in-none v is = record { other = text; read_as = refl; of_other = v; is = is; placed = as-it-stands v is }

  module _ (d : Dialects) (from : ℕ) (inside : from ≤ length text) (split : IsRest d text (drop from text)) where
    begins : HasFront read (drop from text) → IsTextIn (Some d) places text (drop from text)
    begins f = record { rest = drop from text; split_off = split; is = inl (f, refl) }

    -- What stands behind the SRID is read as it stands.
    pub in-rest-read : (len : ℕ) → Judges (drop from text) (Read len) → IsVerdictIn (Some d) places front text room (Read len)
    in-rest-read len is = record { other = drop from text; read_as = begins (is.1.value, is.0, is.1.front); of_other = Read len; is = is; placed = refl }

    pub in-rest-rest : (end : ℕ) → Judges (drop from text) (Rest end) → IsVerdictIn (Some d) places front text room (Rest (from + end))
    in-rest-rest end is = record {
      other = drop from text;
      read_as = begins (is.1.1.value, end, is.1.1.front);
      of_other = Rest end;
      is = is;
      placed = (from + end, inl (record { from = from; inside = inside; same = refl; start_is = refl; end_is = refl }));
    }

    -- It is read as another text.
    pub in-other : (other : List ℕ) (v w : Verdict) → HasNoFront read (drop from text) → IsRestAs d (drop from text) other → Judges other v → IsPlacedVerdict (Some d) text other v w
        → IsVerdictIn (Some d) places front text room w
    in-other other v w none written is placed = record {
      other = other;
      read_as = record { rest = drop from text; split_off = split; is = inr (none, written) };
      of_other = v;
      is = is;
      placed = placed;
    }

-- A place of the other text.
pub placed-in : (d : Dialects) (text other : List ℕ) (from at stop b s e start end : ℕ) → from ≤ length text → IsRest d text (drop from text) → IsRestAs d (drop from text) other
    → IsPlace d (drop from text) (ended_before at (spanned other)) b s e → start ≡ from + s → end ≡ from + e → IsPlaced (Some d) text other at stop start end
placed-in d text other from at stop b s e start end inside split written place at-start at-end = inr (record {
  from = from;
  inside = inside;
  split_off = split;
  read = written;
  behind = b;
  next = s;
  over = e;
  place = place;
  start_is = at-start;
  end_is = at-end;
})
