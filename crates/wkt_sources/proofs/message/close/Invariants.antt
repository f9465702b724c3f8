use Rattle.std.proofs.Common.{◌≡◌, ◌≤◌, length, false}
use Rattle.wkt_read.specs.Table.{closings}
use Rattle.wkt_events.specs.Remaining.{remaining}
use Rattle.wkt_sources.proofs.message.close.Given as goal

abbrev pub invariant-parens : goal.invariant-parens
invariant-parens g l =
    record {
      inside : l.from ≤ length l.text;
      same : closings (g.N.Numbers.read l.fn.numbers) l.parens l.fn.message (remaining false l.text l.at) ≡ closings (g.N.Numbers.read l.fn.numbers) l.open l.reported (remaining false l.text l.from);
    }

abbrev pub decreases-parens : goal.decreases-parens
decreases-parens g l = l.open
