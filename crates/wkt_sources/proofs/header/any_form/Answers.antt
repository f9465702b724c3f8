-- The letters are the word of a kind.
use Rattle.std.proofs.Common.{◌≡◌, ◌≢◌, ◌≤◌, ◌+◌, ◌-◌, ℕ, List, Bool, Option, Some, None, sym, ap, ◌∙◌, subst, arith, refl, take, drop, length, get_or}
use Rattle.std.proofs.lemmas.List.{take_rest, length-drop}
use Rattle.wkt_num.specs.Bytes.{Run, class_of}
use Rattle.wkt_access.specs.declared.dimensions.Dimension.{Dimension}
use Rattle.wkt_types.specs.declared.geometry_type.GeometryType.{GeometryType}
use Rattle.wkt_read.specs.Stream.{BeginsWith}
use Rattle.wkt_machine.specs.Machine.{part_of}
use Rattle.wkt_sources.specs.LexemesAhead.{EndsWords, StandsHeader}
use Rattle.wkt_machine.specs.declared.part.Part.{Part}
use Rattle.wkt_sources.specs.declared.header.AfterHeader.{AfterHeader}
use Rattle.wkt_sources.proofs.ByteSteps.{word_takes}
use Rattle.wkt_sources.proofs.header.any_form.Goals as goal

-- A word that ends so, and what stands behind it.
header_stands : (feed : Bool) (text : List ℕ) (at n : ℕ) (kind : GeometryType) (joined : Option Dimension) (p : Part) (d : Dimension) (t : AfterHeader) (end b : ℕ) → at ≤ length text → BeginsWith (take (length text - at) (drop at text)) kind joined n
    → b ≡ get_or text (at + n) 0 → class_of b ≢ Run → p ≡ part_of kind → EndsWords feed text (at + n) joined d t end → StandsHeader feed text at p d t end
header_stands feed text at n kind joined p d t end b within begins byte stops is ends =
    let word : BeginsWith (drop at text) kind joined n = subst (λ l. BeginsWith l kind joined n) (take_rest text at) begins in
    let names = word.names in
    let rest = length-drop at text in
    let inside = word.inside in
    record {
      word = take n (drop at text);
      row = names.0;
      mid = at + n;
      names = names.1;
      kind = ap part_of names.2 ∙ sym is;
      takes = word_takes feed text at (take n (drop at text)) n word.letters word.begins (omega (arith, rest, inside, within)) refl word.some (subst (λ b. class_of b ≢ Run) byte stops);
      ends = subst (λ j. EndsWords feed text (at + n) j d t end) (sym names.3) ends;
    }

pub returns-in-Some : goal.returns-in-Some
returns-in-Some g c =
    header_stands _ c.args.text.now c.args.at c.in_ok-kind.n c.in_ok-kind.kind (Some c.in-Some.dim) c.part_of-part.result c.in-Some.dim c.behind_dimension-then.result.0 c.behind_dimension-then.result.1 c.byte_at.result c.requires
    (subst (λ j. BeginsWith (take (length c.args.text.now - c.args.at) (drop c.args.at c.args.text.now)) c.in_ok-kind.kind j c.in_ok-kind.n) c.in-Some.is c.in_ok-kind.ensures.word) c.byte_at.ensures.value c.if-not-ends_word.ensures c.part_of-part.ensures (refl, c.behind_dimension-then.ensures)

pub returns-in-None : goal.returns-in-None
returns-in-None g c =
    header_stands _ c.args.text.now c.args.at c.in_ok-kind.n c.in_ok-kind.kind None c.part_of-part.result c.behind_kind-dim.result.0 c.behind_kind-dim.result.1 c.behind_kind-dim.result.2 c.byte_at.result c.requires
    (subst (λ j. BeginsWith (take (length c.args.text.now - c.args.at) (drop c.args.at c.args.text.now)) c.in_ok-kind.kind j c.in_ok-kind.n) c.in-None.is c.in_ok-kind.ensures.word) c.byte_at.ensures.value c.if-not-ends_word.ensures c.part_of-part.ensures c.behind_kind-dim.ensures
