-- A point is followed by more than it may be, or has its arrays.
use Rattle.wkt_calls.specs.Answer.{places_in, asks_whole}
use Rattle.std.proofs.Common.{refl}
use Rattle.wkt_calls.proofs.Columns.{match-map, longer-arrays}
use Rattle.wkt_calls.proofs.column_arrays.ArrayRows.add_point.Goals as goal

pub returns-then-not-ends_as_asked : goal.returns-then-not-ends_as_asked
returns-then-not-ends_as_asked c =
    let more = c.ends_as_asked.ensures.no c.if-not-ends_as_asked.true in
    match-map c.add_none.result
    (λ x adds. longer-arrays (places_in c.args.options) (asks_whole c.args.options) _ _ _ _ c.args.point.end _ _ _ _ _ refl c.requires more.0 more.1 adds) (λ e h. h)
    c.add_none.ensures
