-- The letters are a word.
use Rattle.std.proofs.Common.{◌≡◌, ◌≢◌, ◌+◌, ◌-◌, ℕ, true, sym, ap, ◌∙◌, subst, arith, refl, take, drop}
use Rattle.wkt_num.specs.Bytes.{Run, class_of}
use Rattle.wkt_read.specs.Grammar.{is_empty_word}
use Rattle.wkt_read.proofs.KindWords.{empty-is-word}
use Rattle.wkt_sources.proofs.ByteSteps.{word_takes}
use Rattle.wkt_sources.proofs.header.empty_at.Goals as goal

pub returns : goal.returns
returns g c =
    let text = c.args.text.now in
    let at = c.args.at in
    let five : at + 5 - at ≡ 5 = omega arith in
    let says : is_empty_word (take 5 (drop at text)) ≡ true = ap (λ (m : ℕ). is_empty_word (take m (drop at text))) (sym five) ∙ sym c.if-not-is_empty_in.ensures in
    let word = empty-is-word (take 5 (drop at text)) says in
    let long = c.if-text-at-lt5.false in
    let within = c.requires in (
      take 5 (drop at text),
      word_takes _ text at (take 5 (drop at text)) 5 word.0 word.1 (omega (arith, long, within)) refl (omega arith)
          (subst (λ b. class_of b ≢ Run) c.byte_at.ensures.value c.if-not-ends_word.ensures),
      says,
    )
