-- The arrays of what was filled, or why there are none.
use Rattle.std.proofs.Common.{◌≡◌, true, false, refl, inr}
use Rattle.wkt_calls.specs.Answer.{read_at}
use Rattle.wkt_calls.proofs.Pieces.{arrays-of, no-arrays, not-text}
use Rattle.wkt_calls.proofs.flat.make_flat.Goals as goal

pub returns-then-not-is_text_from : goal.returns-then-not-is_text_from
returns-then-not-is_text_from c =
    inr (inr (inr (not-text (read_at c.args.places) c.args.text.now (λ u. let f : false ≡ true = c.if-not-is_text_from.ensures.1 (c.in-Some.ensures.utf8.0 u) in cc))))

pub returns-then-status-ne0 : goal.returns-then-status-ne0
returns-then-status-ne0 c =
    no-arrays c.args.places c.args.text.now c.args.room c.in-Some.filled.arrays c.in-Some.filled.end c.in-Some.ensures (c.in-Some.ensures.utf8.1 (c.if-not-is_text_from.ensures.0 refl)) c.if-status-ne0.true

pub returns : goal.returns
returns c =
    arrays-of c.args.places c.args.text.now c.args.room c.in-Some.filled.arrays c.in-Some.filled.end c.in-Some.ensures (c.in-Some.ensures.utf8.1 (c.if-not-is_text_from.ensures.0 refl)) c.if-status-ne0.false _ _
    c.number_of_kind.ensures c.number_of_dimension.ensures
