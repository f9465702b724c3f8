-- White space is skipped, and the class is that of the first other byte.
use Rattle.std.proofs.Common.{ap, ◌∙◌, arith, refl, sym}
use Rattle.wkt_read.specs.Streams.{meant}
use Rattle.wkt_read.specs.declared.tokenizer.scan.ByteClass.TheVariants as class
use Rattle.wkt_read.proofs.Placings.{first-step, first-end}
use Rattle.wkt_read.proofs.tokenizer.scan.first_class.Goals as goal

pub white-preserved : goal.white-preserved
white-preserved c =
    let e = c.in-Some.ensures in
    let was = c.white.invariant in
    record {
      text = e.text ∙ was.text;
      grows = omega (arith, e.cases);
      found = first-step _ _ _ class.White class.White _ _ _ (ap (λ t. t.now) e.text) e.cases.0 e.cases.1 e.cases.2 e.utf8 refl (ap meant (sym c.in-White-class_of.is) ∙ c.class_of.ensures) was.found;
    }

pub returns-in_default-class_of-clause-found : goal.returns-in_default-class_of-clause-found
returns-in_default-class_of-clause-found c =
    let e = c.in-Some.ensures in
    first-step _ _ _ _ _ _ _ _ (ap (λ t. t.now) e.text) e.cases.0 e.cases.1 e.cases.2 e.utf8 refl c.class_of.ensures c.white.invariant.found

pub returns-in-None-clause-found : goal.returns-in-None-clause-found
returns-in-None-clause-found c =
    let e = c.in-None.ensures in
    first-end _ _ _ _ _ _ (ap (λ t. t.now) e.text) e.cases.0 e.cases.1 refl c.white.invariant.found
