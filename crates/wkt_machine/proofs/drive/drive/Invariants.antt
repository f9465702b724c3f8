-- What was taken was gone over, and what it says was made.
use Rattle.std.proofs.Common.{◌≤◌, ◌+◌, length}
use Rattle.wkt_machine.specs.Goes.{GoesFrom}
use Rattle.wkt_machine.specs.Machines.{state_of, IsSound}
use Rattle.wkt_machine.specs.Room.{owed, HasRoom}
use Rattle.wkt_machine.proofs.drive.drive.Given as goal

abbrev pub invariant-lexemes : goal.invariant-lexemes
invariant-lexemes g l =
    record {
      goes : GoesFrom (g.B.Builder.maker.reads l.fn.builder) g.S.Source.view g.B.Builder.maker l.fn.source l.fn.builder
          (record { source = l.source; machine = l.machine; builder = l.builder });
      sound : IsSound l.machine;
      depth : l.machine.depth + length (g.S.Source.view.remaining l.source) ≤ length (g.S.Source.view.remaining l.fn.source);
      room : HasRoom g.S.Source.view g.B.Builder.maker (owed (state_of l.machine)) l.source l.builder;
    }

abbrev pub decreases-lexemes : goal.decreases-lexemes
decreases-lexemes g l = length (g.S.Source.view.remaining l.source)
