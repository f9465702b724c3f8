-- What is reported of the texts, and where each ends.
use Rattle.std.proofs.Common.{arith, inl, inr}
use Rattle.wkt_c.proofs.exports_short.wkt_same_short.Goals as goal

pub returns-in-Ok-clause-answers : goal.returns-in-Ok-clause-answers
returns-in-Ok-clause-answers c _ =
    let compared = c.in-Ok.compared in
    let said = c.report.ensures in (
      0,
      compared.end,
      0,
      compared.other_end,
      record {
        compared = λ e. (compared.same, c.in-Ok.ensures, said.reported e);
        as_asked = said.as_asked;
        more = λ e. (compared.same, c.in-Ok.ensures, said.more e);
        memory = λ e. elim said.two [ inl z ↦ absurd (omega (arith, e, z)) | inr z ↦ absurd (omega (arith, e, z)) ];
        others = λ some _ n. elim said.two [ inl z ↦ absurd (omega (arith, some, z)) | inr z ↦ absurd (n z) ];
        kept = said.kept;
        ends_kept = λ some n. elim said.two [ inl z ↦ absurd (omega (arith, some, z)) | inr z ↦ absurd (n z) ];
      },
    )
