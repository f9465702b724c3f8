-- The room has as many places as were cleared.
use Rattle.std.specs.Prelude.{pos}
use Rattle.wkt_calls.specs.Answer.{places_in}
use Rattle.wkt_calls.proofs.Few.{cleared-places}
use Rattle.wkt_calls.proofs.arrays_call.arrays_cleared.Goals as goal

pub returns : goal.returns
returns g c =
    let a = c.arrays_in.ensures in
    record {
      filled = a.filled;
      small = a.small;
      as_asked = a.as_asked;
      more = a.more;
      memory = λ is. cleared-places (pos 0) (places_in c.args.places) c.args.text.now g.row.NUMBERS g.row.RINGS g.row.POLYGONS (a.memory is);
      others = a.others;
      kept = a.kept;
      sizes_kept = a.sizes_kept;
    }
