-- A row is null, a point, or another text.
use Rattle.wkt_calls.specs.Answer.{places_in, asks_whole}
use Rattle.wkt_calls.proofs.Columns.{match-map, null-arrays}
use Rattle.wkt_calls.proofs.column_arrays.ArrayRows.add_row.Goals as goal

pub returns-then-null : goal.returns-then-null
returns-then-null c = match-map c.add_none.result (λ x adds. null-arrays (places_in c.args.options) (asks_whole c.args.options) _ _ _ _ c.if-null.true adds) (λ e h. h) c.add_none.ensures
