-- A row is refused, followed by more than it may be, or has its arrays.
use Rattle.wkt_calls.specs.Answer.{places_in, asks_whole}
use Rattle.wkt_calls.specs.Arrays.{IsNotFlat}
use Rattle.std.proofs.Common.{inl, inr, refl}
use Rattle.wkt_calls.proofs.Columns.{match-map, refused-arrays, longer-arrays}
use Rattle.wkt_calls.proofs.column_arrays.ArrayRows.add_flat.Goals as goal

pub returns-in-Err : goal.returns-in-Err
returns-in-Err c =
    let none : IsNotFlat (places_in c.args.options) c.args.text.now c.in-Err.status = elim c.in-Err.ensures [ inl m ↦ absurd (c.in-Err.status-test.1 m.0) | inr h ↦ h ] in
    match-map c.add_none-in-Err.result
    (λ x adds. refused-arrays (places_in c.args.options) (asks_whole c.args.options) _ _ _ _ _ refl (inl none) adds) (λ e h. h)
    c.add_none-in-Err.ensures

pub returns-then-not-ends_as_asked : goal.returns-then-not-ends_as_asked
returns-then-not-ends_as_asked c =
    let more = c.ends_as_asked.ensures.no c.if-not-ends_as_asked.true in
    match-map c.add_none.result
    (λ x adds. longer-arrays (places_in c.args.options) (asks_whole c.args.options) _ _ _ _ c.in-Ok.flat.end _ _ _ _ _ refl c.in-Ok.ensures more.0 more.1 adds) (λ e h. h)
    c.add_none.ensures
