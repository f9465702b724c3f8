-- The word comes next, and the parenthesis or EMPTY behind it.
use Rattle.std.proofs.Common.{◌+◌, ◌<◌, ◌≡◌, ◌≤◌, Bool, List, arith, drop, get_or, inl, length, refl, subst, sym, take, true, ℕ}
use Rattle.wkt_access.specs.declared.dimensions.Dimension.TheVariants.{XY}
use Rattle.wkt_num.specs.Bytes.{Word}
use Rattle.wkt_read.specs.Grammar.{is_empty_word}
use Rattle.wkt_events.specs.Remaining.{TakesOne}
use Rattle.wkt_events.proofs.RemainingLexemes.{space, spanned-white}
use Rattle.wkt_sources.specs.LexemesAhead.{EndsWords, IsKindName, StandsHead, StandsHeader}
use Rattle.wkt_sources.specs.declared.header.AfterHeader.TheVariants as then
use Rattle.wkt_machine.specs.declared.part.Part.{Part}
use Rattle.wkt_sources.proofs.ByteSteps.{empty_after, ends-spaced-word, ends_open, ends_spaced, head_stands, word_takes}
use Rattle.wkt_sources.proofs.header.plain.Goals as goal

-- Such a word and the parenthesis are a header in two dimensions.
flat_header : (feed : Bool) (text : List ℕ) (at : ℕ) (p : Part) (end : ℕ) → StandsHead feed text at p end → StandsHeader feed text at p XY then.Inside end
flat_header feed text at p end h = record {
  word = h.word;
  row = h.name.row;
  mid = h.mid;
  names = h.name.names;
  kind = h.name.kind;
  takes = h.takes;
  ends = subst (λ j. EndsWords feed text h.mid j XY then.Inside end) (sym h.name.joined) (inl (refl, h.opens));
}

-- Such a word and EMPTY behind a space are one too.
empty_header : (feed : Bool) (text : List ℕ) (at n end : ℕ) (p : Part) (word : List ℕ) → IsKindName p word → at + n ≤ length text → take n (drop at text) ≡ word → 0 < n → get_or text (at + n) 0 ≡ 32
    → ((w : List ℕ) × TakesOne feed text (at + n + 1) (Word w) end × (is_empty_word w ≡ true)) → StandsHeader feed text at p XY then.Outside end
empty_header feed text at n end p word name inside is some byte empty = record {
  word = word;
  row = name.row;
  mid = at + n;
  names = name.names;
  kind = name.kind;
  takes = word_takes feed text at word n name.letters name.begins inside is some (ends-spaced-word (get_or text (at + n) 0) byte);
  ends = subst (λ j. EndsWords feed text (at + n) j XY then.Outside end) (sym name.joined)
      (inl (refl, empty_after feed text (at + n) (at + n + 1) end (omega arith) (spanned-white feed text (at + n) (space feed (get_or text (at + n) 0) byte)) empty));
}

pub returns-then-text-behind-eq40-clause-word : goal.returns-then-text-behind-eq40-clause-word
returns-then-text-behind-eq40-clause-word g c inside_ =
    let long = c.if-text-at.false in
    let inside = c.requires.inside in
    head_stands _ c.args.text.now c.args.at c.args.part c.args.word.now g.row.N (c.args.at + g.row.N + 1) c.requires.name (omega (arith, long, inside))
    c.requires.stands c.requires.some (ends_open _ c.args.text.now (c.args.at + g.row.N) c.if-text-behind-eq40.true)

pub returns-then-text-behind-eq40-clause-header : goal.returns-then-text-behind-eq40-clause-header
returns-then-text-behind-eq40-clause-header g c = flat_header _ c.args.text.now c.args.at c.args.part (c.args.at + g.row.N + 1) (returns-then-text-behind-eq40-clause-word g c refl)

pub returns-then-text-behind-eq40-2-clause-word : goal.returns-then-text-behind-eq40-2-clause-word
returns-then-text-behind-eq40-2-clause-word g c inside_ =
    let long = c.if-text-at.false in
    let inside = c.requires.inside in
    head_stands _ c.args.text.now c.args.at c.args.part c.args.word.now g.row.N (c.args.at + g.row.N + 2) c.requires.name (omega (arith, long, inside))
    c.requires.stands c.requires.some (ends_spaced _ c.args.text.now (c.args.at + g.row.N) c.if-text-behind-ne32.false c.if-text-behind-eq40-2.true)

pub returns-then-text-behind-eq40-2-clause-header : goal.returns-then-text-behind-eq40-2-clause-header
returns-then-text-behind-eq40-2-clause-header g c = flat_header _ c.args.text.now c.args.at c.args.part (c.args.at + g.row.N + 2) (returns-then-text-behind-eq40-2-clause-word g c refl)

pub returns-in_ok-empty_at-clause-header : goal.returns-in_ok-empty_at-clause-header
returns-in_ok-empty_at-clause-header g c =
    let long = c.if-text-at.false in
    let inside = c.requires.inside in
    empty_header _ c.args.text.now c.args.at g.row.N c.in_ok-empty_at.field-0 c.args.part c.args.word.now c.requires.name (omega (arith, long, inside))
    c.requires.stands c.requires.some c.if-text-behind-ne32.false c.in_ok-empty_at.ensures

pub returns-in_ok-empty_at-clause-word : goal.returns-in_ok-empty_at-clause-word
returns-in_ok-empty_at-clause-word g c e = cc
