-- A body whose last byte is no digit and no point stands for nothing, and a magnitude that was read is small enough for its sign.
use Rattle.std.proofs.Common.{◌-◌, ◌^◌, length, sym, ◌∙◌, arith}
use borrow.Author.Tests.{eqb-true, eqb-false}
use Rattle.wkt_num.specs.DecimalLaws.{magnitude-small}
use Rattle.wkt_num.proofs.ReadNumbers.{none-at, none-of-none, signed-none}
use Rattle.wkt_num.proofs.reading.slow_read_outlined.Goals as goal
use Rattle.wkt_num.proofs.reading.slow_read_outlined.Goals.{then-is_empty-via-then-is_empty, then-is_empty-via-else-is_empty+then-not-may_end}

pub returns-then-is_empty : goal.returns-then-is_empty
returns-then-is_empty c =
    let body = c.args.body.now in
    signed-none (2 ^ 127) c.args.places 127 c.args.negative body (elim c.then-is_empty.branch [
      | then-is_empty-via-then-is_empty w ↦ none-of-none (2 ^ 127) c.args.places body (eqb-true (length body) 0 (sym c.is_empty.ensures ∙ w.if-is_empty.true))
      | then-is_empty-via-else-is_empty+then-not-may_end w ↦
          let some = eqb-false (length body) 0 (sym c.is_empty.ensures ∙ w.if-is_empty.false) in
          let ends = w.may_end.ensures w.if-not-may_end.true in
          none-at (2 ^ 127) c.args.places body (length body - 1) (omega (arith, some)) ends.0 ends.1
    ])

pub with_sign-requires : goal.with_sign-requires
with_sign-requires c = magnitude-small (2 ^ 127) c.args.places c.args.body.now c.in-Some.units c.in-Some.ensures

pub with_sign-requires-2 : goal.with_sign-requires-2
with_sign-requires-2 c = magnitude-small (2 ^ 127) c.args.places c.args.body.now c.in_ok-units.units (sym c.read_magnitude.ensures ∙ c.in_ok-units.was)
