-- The text with zeros behind it is UTF-8, and walked as the text.
use Rattle.std.proofs.Common.{◌++◌, ◌+◌, ◌∙◌, length, take, drop, sym, ap, subst, IsUtf8}
use Rattle.std.proofs.Math.Seq.{take-append_seam}
use Rattle.wkt_explain.specs.Problems.{IsPaddedFor}
use Rattle.wkt_calls.proofs.Padded.{is-padded_text, padded_text-utf8}
use Rattle.wkt_calls.proofs.canonical.before_zeros.Goals as goal

pub is_text-requires-clause-front : goal.is_text-requires-clause-front
is_text-requires-clause-front c =
    let text = c.args.text.now in
    let padded = c.args.padded.now in
    ap (λ l. take (length text) (l ++ drop (length text) padded)) c.copy_from_slice.ensures.after ∙ take-append_seam text (drop (length text) padded)

pub from_utf8_unchecked-padded_text-requires : goal.from_utf8_unchecked-padded_text-requires
from_utf8_unchecked-padded_text-requires c =
    let text = c.args.text.now in
    let padded = c.args.padded.now in
    subst (λ l. IsUtf8 (take (length text + 32) (l ++ drop (length text) padded))) {x = text} {y = c.copy_from_slice.new.self} (sym c.copy_from_slice.ensures.after)
    (padded_text-utf8 text padded c.requires.padded c.requires.zeros (c.is_text.ensures.yes c.if-not-is_text.false))

pub returns-clause-padded_text : goal.returns-clause-padded_text
returns-clause-padded_text c =
    let text = c.args.text.now in
    let padded = c.args.padded.now in
    let padded_text = c.from_utf8_unchecked-padded_text.ensures ∙ ap (λ l. take (length text + 32) (l ++ drop (length text) padded)) c.copy_from_slice.ensures.after in
    subst (IsPaddedFor text) (sym padded_text) (is-padded_text text padded c.requires.padded c.requires.zeros)
