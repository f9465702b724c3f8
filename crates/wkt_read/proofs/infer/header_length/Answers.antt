-- A byte more isn't where the header ends; it ends at `(`, or before EMPTY.
use Rattle.std.proofs.Common.{◌∙◌, sym, arith, ap, codes}
use Rattle.wkt_read.specs.Header.{begins}
use Rattle.wkt_read.proofs.HeaderPlaces.{header_step, header_paren, header_empty, header_none, empty_ascii, is_test, not_test, rest_text}
use Rattle.wkt_read.proofs.infer.header_length.Goals as goal

pub returns-then-text-i-eq40 : goal.returns-then-text-i-eq40
returns-then-text-i-eq40 c = (c.place.invariant.same ∙ header_paren _ _ c.place-test.true (is_test _ _ c.if-text-i-eq40.true), c.place-test.true, omega (arith, c.if-text-i-eq40.true))

pub returns-then-begins : goal.returns-then-begins
returns-then-begins c =
    let word = ap (begins (codes "EMPTY")) (sym (rest_text c.args.text.now c.place.i)) ∙ sym c.begins.ensures ∙ c.if-begins.true in
    (c.place.invariant.same ∙ header_empty _ _ c.place-test.true (not_test _ _ c.if-text-i-eq40.false) word, c.place-test.true, empty_ascii _ _ c.place-test.true word)

pub place-preserved : goal.place-preserved
place-preserved c =
    let word = ap (begins (codes "EMPTY")) (sym (rest_text c.args.text.now c.place.i)) ∙ sym c.begins.ensures ∙ c.if-begins.false in
    record { within = omega arith; same = c.place.invariant.same ∙ header_step _ _ c.place-test.true (not_test _ _ c.if-text-i-eq40.false) word }

pub returns : goal.returns
returns c = c.place.invariant.same ∙ header_none c.args.text.now c.place.i (omega (arith, c.place-test.false))
