-- Each way goes on from the one before.
use Rattle.std.proofs.Common.{ap, arith, rules, IfErr}
use Rattle.wkt_machine.specs.Goes.{Refuses}
use Rattle.wkt_machine.specs.Machine.{State}
use Rattle.wkt_machine.proofs.WaysJoin.{from_start, refused_if}
use Rattle.wkt_machine.proofs.WholeRuns.{goes_room}
use Rattle.wkt_machine.proofs.drive.drive.Goals as goal

pub lexemes-init : goal.lexemes-init
lexemes-init g c = record {
  goes = (c.start.result, c.start.ensures.state, c.in_ok-begun.ensures.on);
  sound = c.in_ok-begun.ensures.on.sound;
  room = c.in_ok-begun.ensures.room;
  depth =
      let more = goes_room _ g.S.Source.view g.B.Builder.maker _ _ _ _ c.in_ok-begun.ensures.on in
      omega (arith, more, ap (λ (s : State). s.depth) c.start.ensures.state);
}

pub lexemes-preserved : goal.lexemes-preserved
lexemes-preserved g c =
    let i = c.lexemes.invariant in
    let way = c.in_ok-behind.ensures.on in
    let more = goes_room _ g.S.Source.view g.B.Builder.maker _ _ _ _ way in
    record {
      goes = from_start g.S.Source.view g.B.Builder.maker _ _ _ _ i.goes way;
      sound = way.sound;
      depth = omega (arith, more, i.depth);
      room = c.in_ok-behind.ensures.room;
    }

pub returns-in_err-behind-clause-refused : goal.returns-in_err-behind-clause-refused
returns-in_err-behind-clause-refused g c =
    let refused : IfErr c.from_residual-in_err-behind.result (Refuses (g.B.Builder.maker.reads c.lexemes.builder) g.S.Source.view g.B.Builder.maker c.lexemes.machine c.lexemes.source c.lexemes.builder) = search rules in
    refused_if g.S.Source.view g.B.Builder.maker c.args.source c.args.builder (record { source = c.lexemes.source; machine = c.lexemes.machine; builder = c.lexemes.builder }) c.from_residual-in_err-behind.result c.lexemes.invariant.goes refused
