-- The hint is that of the text that is read.
use Rattle.std.proofs.Common.{arith, refl}
use Rattle.wkt_c.proofs.exports_dialects.wkt_hint_in.Goals as goal

pub returns-in-Ok-Some-clause-answers : goal.returns-in-Ok-Some-clause-answers
returns-in-Ok-Some-clause-answers c =
    let h = rw c.in-Ok-Some.field-0-is at c.in-Ok-Some.ensures in
    record {
      no_dialects = λ n. absurd (n (c.has_dialects.ensures.yes c.if-not-has_dialects.false));
      dialects = λ e _. omega (arith, e);
      hinted = λ _. (h.read, h.as_read, h.some c.in-Ok-Some.number refl);
      more = λ e. absurd (omega (arith, e));
      others = λ some _ _. absurd (omega (arith, some));
    }
