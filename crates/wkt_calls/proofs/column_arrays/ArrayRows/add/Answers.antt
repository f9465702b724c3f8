-- A row more has its arrays and its status.
use Rattle.wkt_calls.proofs.Columns.{match-map}
use Rattle.wkt_calls.proofs.column_arrays.ArrayRows.add.Goals as goal

pub returns : goal.returns
returns c =
    match-map c.push-3.result
    (λ x e. record {
      numbers_added = c.in_ok-add.ensures;
      rings_added = c.in_ok-add-2.ensures;
      polygons_added = c.in_ok-add-3.ensures;
      kind_added = c.in_ok-push.ensures;
      dimension_added = c.in_ok-push-2.ensures;
      status_added = e;
    })
    (λ e h. h) c.push-3.ensures
