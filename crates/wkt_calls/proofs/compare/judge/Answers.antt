-- The texts are one exactly if their bytes are.
use Rattle.std.proofs.Common.{ℕ, ℤ, List, ap}
use Rattle.wkt_num.specs.Decimal.{IsUnits}
use Rattle.wkt_num.specs.DecimalLaws.{decimal_reads_back, decimal_reads_values, decimal_number_text}
use Rattle.wkt_access.specs.Values.{Value}
use Rattle.wkt_access.specs.Shapes.{shape_of, canon}
use Rattle.wkt_access.specs.Texts.{text}
use Rattle.wkt_access.specs.WellFormed.{IsWellFormed}
use Rattle.wkt_write.proofs.Writable.{canon_well_formed, writable}
use Rattle.wkt_read.specs.Front.{Front}
use Rattle.wkt_read.proofs.OneForm.{geometry_fits}
use Rattle.wkt_read.proofs.Spelled.{text_one}
use Rattle.wkt_calls.specs.Answer.{read_at, print_at, places_in}
use Rattle.wkt_calls.proofs.Pieces.{same_lists, iff-more}
use Rattle.wkt_calls.proofs.compare.judge.Goals as goal

-- the value that is written is well-formed
written-fits : (places : ℕ) (bytes : List ℕ) (v : Value ℤ) (end : ℕ) → Front (read_at places) bytes v end → IsWellFormed (IsUnits places) (canon (shape_of v))
written-fits places bytes v end f =
    let fits = geometry_fits (IsUnits places) (read_at places) (decimal_reads_values places) v f.lexemes f.reads in
    let (sound, lawful) = writable (IsUnits places) v fits in
    canon_well_formed (IsUnits places) (shape_of v) sound lawful

pub returns : goal.returns
returns c =
    let places = places_in c.args.options in
    let (utf8, a) = c.requires.first in
    let (other_utf8, b) = c.requires.second in
    let first = canon (shape_of a.value) in
    let second = canon (shape_of b.value) in
    let texts = same_lists _ _ _ _ c.is_one.ensures a.is b.is in
    let one_value = text_one (IsUnits places) (print_at places) (read_at places) (record { reads_back = decimal_reads_back places; number_text = decimal_number_text places }) first second
    (written-fits places _ a.value _ a.front) (written-fits places _ b.value _ b.front) in
    record {
      utf8 = utf8;
      other_utf8 = other_utf8;
      first = a.value;
      second = b.value;
      front = a.front;
      other_front = b.front;
      texts = texts;
      values = iff-more texts (one_value, λ e. ap (text (print_at places)) e);
    }
