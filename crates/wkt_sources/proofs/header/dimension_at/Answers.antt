-- The letters are a word.
use Rattle.std.proofs.Common.{◌≡◌, ◌≢◌, Some, sym, ap, ◌∙◌, subst, arith, refl, take, drop, length}
use Rattle.std.proofs.lemmas.List.{take_rest, length-drop, length-take-le}
use Rattle.wkt_num.specs.Bytes.{Run, class_of}
use Rattle.wkt_read.specs.Grammar.{dim_word}
use Rattle.wkt_read.proofs.KindWords.{dim-is-word}
use Rattle.wkt_sources.proofs.ByteSteps.{word_takes}
use Rattle.wkt_sources.proofs.header.dimension_at.Goals as goal

pub returns-clause-names : goal.returns-clause-names
returns-clause-names g c =
    let text = c.args.text.now in
    let at = c.args.at in
    let n = c.in_ok-dim.n in
    let whole = take_rest text at in
    let says : dim_word (take n (drop at text)) ≡ Some c.in_ok-dim.dim = ap (λ l. dim_word (take n l)) (sym whole) ∙ c.in_ok-dim.ensures.names in
    let word = dim-is-word (take n (drop at text)) c.in_ok-dim.dim says in
    let rest = length-drop at text in
    let same = ap length whole in
    let inside = c.in_ok-dim.ensures.inside in
    let within = c.requires in
    let letters = length-take-le n (drop at text) (omega (arith, rest, same, inside)) in
    let some = word.2 in (
      take n (drop at text),
      word_takes _ text at (take n (drop at text)) n word.0 word.1 (omega (arith, rest, same, inside, within)) refl (omega (arith, some, letters))
          (subst (λ b. class_of b ≢ Run) c.byte_at.ensures.value c.if-not-ends_word.ensures),
      says,
    )
