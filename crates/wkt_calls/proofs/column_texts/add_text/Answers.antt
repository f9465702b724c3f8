-- A row is null, has a text, or has arrays that are those of none.
use Rattle.std.proofs.Common.{inr}
use Rattle.wkt_calls.proofs.Columns.{match-map, null-text, arrays-text, no-text}
use Rattle.wkt_calls.proofs.column_texts.add_text.Goals as goal

pub returns-then-null : goal.returns-then-null
returns-then-null c = match-map c.add.result (λ x adds. null-text c.args.places _ _ _ _ c.if-null.true adds) (λ e h. h) c.add.ensures

pub returns-in-Ok : goal.returns-in-Ok
returns-in-Ok c = match-map c.add-in-Ok.result (λ x adds. arrays-text c.args.places _ _ _ _ _ _ c.if-null.false c.in-Ok.ensures.ok c.written.ensures adds) (λ e h. h) c.add-in-Ok.ensures

pub returns-in-Err : goal.returns-in-Err
returns-in-Err c =
    match-map c.add-in-Err.result (λ x adds. no-text c.args.places _ _ _ _ _ c.if-null.false c.in-Err.status-test.1 (inr c.in-Err.ensures.err) adds) (λ e h. h) c.add-in-Err.ensures
