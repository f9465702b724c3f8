-- A row is null, refused or answered.
use Rattle.std.proofs.Common.{inl, refl}
use Rattle.wkt_calls.specs.Answer.{read_at, print_at, places_in, asks_whole}
use Rattle.wkt_calls.proofs.Columns.{match-map, null-row, refused-row}
use Rattle.wkt_calls.proofs.Pieces.{no-text}
use Rattle.wkt_calls.proofs.column.Rows.add_answer.Goals as goal

pub returns-then-null-clause-adds : goal.returns-then-null-clause-adds
returns-then-null-clause-adds c =
    let n = places_in c.args.options in
    match-map c.add.result (λ x adds. null-row (asks_whole c.args.options) (read_at n) (print_at n) _ _ _ _ c.if-null.true adds) (λ e h. h) c.add.ensures

pub returns-in_default-clause-adds : goal.returns-in_default-clause-adds
returns-in_default-clause-adds c =
    let n = places_in c.args.options in
    match-map c.add-in_default.result
    (λ x adds. refused-row (asks_whole c.args.options) (read_at n) (print_at n) _ _ _ _ 20 c.if-null.false (inl (no-text (read_at n) c.args.text.now 20 refl c.in_default.ensures.cases.0)) adds)
    (λ e h. h) c.add-in_default.ensures
