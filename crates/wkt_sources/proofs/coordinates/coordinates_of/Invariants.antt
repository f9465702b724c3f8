-- What was taken was gone over, and what it says was made.
use Rattle.std.proofs.Common.{◌≤◌, length}
use Rattle.std.specs.Prelude.{not, ◌==◌}
use Rattle.wkt_events.specs.Remaining.{remaining_spanned}
use Rattle.wkt_sources.specs.Views.{bytes_view}
use Rattle.wkt_machine.specs.Goes.{Leads}
use Rattle.wkt_machine.specs.Room.{HasRoom}
use Rattle.wkt_sources.proofs.coordinates.coordinates_of.Given as goal

abbrev pub invariant-coordinates : goal.invariant-coordinates
invariant-coordinates g l =
    record {
      leads : Leads (g.B.Builder.maker.reads l.fn.builder) (bytes_view (not (g.row.LF_ENDS == 0))) g.B.Builder.maker l.machine l.fn.source l.fn.builder l.machine l.source l.builder;
      inside : l.source.at ≤ length l.source.text.now;
      room : HasRoom (bytes_view (not (g.row.LF_ENDS == 0))) g.B.Builder.maker 0 l.source l.builder;
    }

abbrev pub decreases-coordinates : goal.decreases-coordinates
decreases-coordinates g l = length (remaining_spanned (not (g.row.LF_ENDS == 0)) l.source.text.now l.source.at)
