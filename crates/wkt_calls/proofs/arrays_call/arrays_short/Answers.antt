-- The room is enough for a text of so few bytes.
use Rattle.std.proofs.Common.{inl, inr, length, arith}
use Rattle.std.proofs.lemmas.Bool.{cases_lt}
use Rattle.wkt_calls.proofs.Few.{place_enough, lacking-more}
use Rattle.wkt_calls.proofs.arrays_call.arrays_short.Goals as goal

pub returns-then-text-le-FEWEST_ARRAYS : goal.returns-then-text-le-FEWEST_ARRAYS
returns-then-text-le-FEWEST_ARRAYS c = lacking-more (λ none. absurd (place_enough _ _ _ _ _ none (omega arith) (omega arith) (omega arith))) c.arrays_cleared.ensures

pub returns : goal.returns
returns c =
    lacking-more
    (λ none. elim (cases_lt 64 (length c.args.text.now)) [
      | inl long ↦ long
      | inr short ↦ absurd (place_enough _ c.args.text.now 34 18 12 none (omega (arith, short)) (omega (arith, short)) (omega (arith, short)))
    ])
    c.arrays_cleared-2.ensures
