-- A run goes on by each byte of it, and ends at any other.
use Rattle.std.proofs.Common.{ap, sym, subst, length, ◌<◌, arith}
use Rattle.wkt_read.proofs.Placings.{run-step, run-end, run-end-text}
use Rattle.wkt_read.specs.Streams.{taken_in, IsRunSoFar}
use Rattle.wkt_read.proofs.tokenizer.scan.run_ends.Goals as goal

pub returns-in-Run-clause-cases : goal.returns-in-Run-clause-cases
returns-in-Run-clause-cases c =
    let e = c.in-Some.ensures in
    record {
      inside = subst (λ t. taken_in c.args.bytes.now < length t) (sym (ap (λ t. t.now) e.text)) e.cases.1;
      next = e.cases.0;
      run = λ from so_far. run-step _ _ _ _ _ _ _ (ap (λ t. t.now) e.text) e.cases.0 e.cases.1 e.cases.2 e.utf8 c.class_of.ensures c.in-Run.is (subst (λ t. IsRunSoFar t.now from (taken_in c.args.bytes.now)) e.text so_far);
    }

pub returns-in_default-clause-cases : goal.returns-in_default-clause-cases
returns-in_default-clause-cases c =
    let e = c.in-Some.ensures in
    record {
      grows = omega (arith, e.cases);
      on = omega (arith, c.taken-end.ensures);
      run = λ from so_far. run-end _ _ _ _ _ _ _ _ (ap (λ t. t.now) e.text) e.cases.0 c.taken-end.ensures e.cases.1 e.cases.2 e.utf8 c.class_of.ensures c.in_default.not-Run (subst (λ t. IsRunSoFar t.now from (taken_in c.args.bytes.now)) e.text so_far);
      other = c.in_default.not-Run;
    }

pub returns-in-None-clause-cases : goal.returns-in-None-clause-cases
returns-in-None-clause-cases c =
    let e = c.in-None.ensures in
    record {
      grows = omega (arith, e.cases);
      on = omega (arith, c.taken-end.ensures);
      run = λ from so_far. run-end-text _ _ _ _ _ _ (ap (λ t. t.now) e.text) e.cases.0 c.taken-end.ensures e.cases.1 (subst (λ t. IsRunSoFar t.now from (taken_in c.args.bytes.now)) e.text so_far);
      other = λ e. cc;
    }
