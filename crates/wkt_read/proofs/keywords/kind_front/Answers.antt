-- The word is what stands before the rest, and a dimension that goes on with it.
use Rattle.std.proofs.Common.{◌≡◌, ℕ, None, sym, ◌∙◌, arith, inl, inr, subst, take}
use Rattle.std.specs.Prelude.{IfNone}
use Rattle.wkt_read.specs.Grammar.{dim_word}
use Rattle.wkt_read.proofs.KindWords.{front-shorter, front-alone, front-joined, front-longest, unlettered}
use Rattle.wkt_read.proofs.keywords.kind_front.Goals as goal

pub overflow_sub-n : goal.overflow_sub-n
overflow_sub-n c = front-shorter c.args.bytes.now c.in_ok-kind.rest.now c.in_ok-kind.kind c.in_ok-kind.ensures.named

pub returns-then-rest-lt65-clause-word : goal.returns-then-rest-lt65-clause-word
returns-then-rest-lt65-clause-word c = front-alone c.args.bytes.now c.in_ok-kind.rest.now c.in_ok-kind.kind c.in_ok-kind.ensures.named

pub returns-then-rest-lt65-clause-longest : goal.returns-then-rest-lt65-clause-longest
returns-then-rest-lt65-clause-longest c = front-longest c.args.bytes.now c.in_ok-kind.rest.now c.in_ok-kind.kind c.in_ok-kind.ensures.named _ (omega arith) (λ i more within. inr (unlettered c.in_ok-kind.rest.now i (omega (arith, more)) c.if-rest-lt65.true))

pub returns-in-Some-clause-word : goal.returns-in-Some-clause-word
returns-in-Some-clause-word c = front-joined c.args.bytes.now c.in_ok-kind.rest.now c.in_ok-kind.kind c.in_ok-kind.ensures.named c.in-Some.more c.in-Some.dimension c.in-Some.ensures.inside c.in-Some.ensures.names (sym c.begins.ensures ∙ c.if-not-begins.true)

pub returns-in-Some-clause-longest : goal.returns-in-Some-clause-longest
returns-in-Some-clause-longest c = front-longest c.args.bytes.now c.in_ok-kind.rest.now c.in_ok-kind.kind c.in_ok-kind.ensures.named _ (omega arith) (λ i more within. inr (c.in-Some.ensures.longest i (omega (arith, more)) within))

pub returns-in_default-clause-word : goal.returns-in_default-clause-word
returns-in_default-clause-word c = front-alone c.args.bytes.now c.in_ok-kind.rest.now c.in_ok-kind.kind c.in_ok-kind.ensures.named

pub returns-in_default-clause-longest : goal.returns-in_default-clause-longest
returns-in_default-clause-longest c = front-longest c.args.bytes.now c.in_ok-kind.rest.now c.in_ok-kind.kind c.in_ok-kind.ensures.named _ (omega arith) (λ i more within. inl (sym c.begins.ensures ∙ c.if-not-begins.false))

pub returns-in_default-2-clause-word : goal.returns-in_default-2-clause-word
returns-in_default-2-clause-word c = front-alone c.args.bytes.now c.in_ok-kind.rest.now c.in_ok-kind.kind c.in_ok-kind.ensures.named

pub returns-in_default-2-clause-longest : goal.returns-in_default-2-clause-longest
returns-in_default-2-clause-longest c = front-longest c.args.bytes.now c.in_ok-kind.rest.now c.in_ok-kind.kind c.in_ok-kind.ensures.named _ (omega arith) (λ i more within. inr (subst (λ o. IfNone o ((j : ℕ) → dim_word (take j c.in_ok-kind.rest.now) ≡ None)) c.in_default.is c.dimension_front.ensures.none i))
