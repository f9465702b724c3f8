use Rattle.std.proofs.Common.{subst}
use Rattle.wkt_dialects.specs.Numbers.{IsScaled}
use Rattle.wkt_dialects.proofs.Scaled.{written-number}
use Rattle.wkt_dialects.proofs.exponents.write_number.Goals as goal

pub returns-in-Some : goal.returns-in-Some
returns-in-Some g c = written-number c.write_scaled.result c.args.run.now (g.P.Put.written c.args.out.now) (g.P.Put.written c.write_scaled.new.out) c.in-Some.parts (subst (λ l. IsScaled l c.in-Some.parts) c.without_plus.ensures c.in-Some.ensures) c.write_scaled.ensures
