-- What is displayed of the front is its text.
use Rattle.std.proofs.Common.{ap, ◌∙◌}
use Rattle.wkt_access.specs.Texts.{shape_text}
use Rattle.wkt_types.proofs.Displays.{shown_is}
use Rattle.wkt_all_calls.proofs.answers.answer.Goals as goal

pub returns-in-Ok-true-clause-text : goal.returns-in-Ok-true-clause-text
returns-in-Ok-true-clause-text g c =
    let (end, (value, front, is)) = c.in-Ok.ensures.found in
    let law = c.read_values_are_writable.ensures _ value end _ front is in
    (end, record { value = value; front = front; is = shown_is g.T.WktNum.num _ _ law.1 c.in-Ok-to_string.ensures.ok ∙ ap (shape_text g.T.WktNum.num) law.0 })
