-- What has grown over the bytes of a text is its front; where it is refused, it has none.
use Rattle.std.proofs.Common.{[], None, refl, ap, ◌∙◌, subst, arith, length, false}
use Rattle.wkt_read.proofs.OnePlacing.{spanned-few}
use Rattle.wkt_read.proofs.HeaderPlaces.{front-some, front-within, front-boundary}
use Rattle.wkt_read.specs.Refusal.{IsTextRefused}
use Rattle.wkt_read.proofs.Refusals.{said_bad}
use Rattle.wkt_sources.specs.Views.{bytes_view}
use Rattle.wkt_values.specs.Trees.{tree_maker, tree_of}
use Rattle.wkt_values.specs.Growing.{rest}
use Rattle.wkt_values.specs.Values.{AnswersTree}
use Rattle.wkt_sources.proofs.ByteViews.{whole_left}
use Rattle.wkt_values.proofs.ReadValues.{lent, ended_found_to, lost_driven}
use Rattle.wkt_sources.proofs.FrontValues.{refused}
use Rattle.wkt_machine.proofs.RoomForRest.{free_room}
use Rattle.wkt_sources.proofs.TableMessages.{stops_there, stops_message, stops_no_front}
use Rattle.wkt_values.proofs.text.front_of.Goals as goal

pub drive-requires-clause-depth : goal.drive-requires-clause-depth
drive-requires-clause-depth g c =
    let text = ap (λ x. x.now) c.new-source.ensures.text ∙ c.as_bytes.ensures.value in
    let few = spanned-few c.args.text.now in
    let same = ap length (whole_left c.args.text.now c.new-source.result text c.new-source.ensures.at) in
    omega (arith, few, same)

pub drive-requires-clause-room : goal.drive-requires-clause-room
drive-requires-clause-room g c = free_room (bytes_view false) (tree_maker g.T.WktNum.read) c.new-source.result c.new.result (λ n. tt) (λ c x. refl) (λ never. absurd never)

pub returns-in-Ok-answer : goal.returns-in-Ok-answer
returns-in-Ok-answer g c =
    let text = ap (λ x. x.now) c.new-source.ensures.text ∙ c.as_bytes.ensures.value in
    let found = ended_found_to g.T.WktNum.is_value g.T.WktNum.read g.met.T.WktNum.reads_values (bytes_view false) c.args.text.now c.new-source.result (whole_left c.args.text.now c.new-source.result text c.new-source.ensures.at) c.new.result
    c.in-Ok.over c.in-Ok.ensures.on c.in-Ok.ensures.over (lent (tree_of c.new.result) _ (rest [] None) c.new.ensures c.new-tree.ensures) c.into_tree.result.now (ap (λ t. t.now) c.into_tree.ensures) _ (λ end e. e)
    c.in-Ok-answer.geometry (subst (AnswersTree c.into_tree.result.now) c.in-Ok-answer.is c.answer.ensures) in
    record {
      found = found;
      some = front-some g.T.WktNum.read c.args.text.now found.0 _ found.1;
      within = front-within g.T.WktNum.read c.args.text.now found.0 _ found.1;
      boundary = front-boundary g.T.WktNum.read c.args.text.now found.0 _ c.utf8.text found.1;
      no_front = tt;
      bad = tt;
      refusal = tt;
      free = λ v end front small. refl;
    }

pub returns-in-Ok : goal.returns-in-Ok
returns-in-Ok g c =
    let text = ap (λ x. x.now) c.new-source.ensures.text ∙ c.as_bytes.ensures.value in
    record {
      found = tt;
      some = tt;
      within = tt;
      boundary = tt;
      no_front = tt;
      bad = tt;
      refusal = tt;
      free = λ v end front free. absurd (lost_driven g.T.WktNum.is_value g.T.WktNum.read g.met.T.WktNum.reads_values (bytes_view false) c.args.text.now c.new-source.result (whole_left c.args.text.now c.new-source.result text c.new-source.ensures.at) c.new.result
          c.in-Ok.over c.in-Ok.ensures.on c.in-Ok.ensures.over (lent (tree_of c.new.result) _ (rest [] None) c.new.ensures c.new-tree.ensures) c.into_tree.result.now (ap (λ t. t.now) c.into_tree.ensures) c.in-Ok.over.source.at (λ end e. e)
          c.in-Err-answer.error (subst (AnswersTree c.into_tree.result.now) c.in-Err-answer.is c.answer.ensures) v end front free);
    }

pub message_at-said-requires : goal.message_at-said-requires
message_at-said-requires g c =
    let text = ap (λ x. x.now) c.new-source.ensures.text ∙ c.as_bytes.ensures.value in
    let at = stops_there g.T.WktNum.read c.args.text.now c.new-source.result text c.new-source.ensures.at c.utf8.text c.in-Err.stop.source c.in-Err.stop.machine
    (refused g.T.WktNum.read (bytes_view false) (tree_maker g.T.WktNum.read) c.new-source.result c.new.result c.in-Err.stop c.in-Err.ensures.refused) in
    record { inside = at.inside; stuck = at.stuck }

pub returns : goal.returns
returns g c =
    let text = ap (λ x. x.now) c.new-source.ensures.text ∙ c.as_bytes.ensures.value in
    let at = stops_there g.T.WktNum.read c.args.text.now c.new-source.result text c.new-source.ensures.at c.utf8.text c.in-Err.stop.source c.in-Err.stop.machine
    (refused g.T.WktNum.read (bytes_view false) (tree_maker g.T.WktNum.read) c.new-source.result c.new.result c.in-Err.stop c.in-Err.ensures.refused) in
    let no_front = stops_no_front g.T.WktNum.read c.args.text.now _ _ at in
    let refusal : IsTextRefused g.T.WktNum.read c.args.text.now c.text.result.now = (c.message_at-said.result, c.text.ensures, stops_message g.T.WktNum.read c.args.text.now _ _ at c.message_at-said.result c.message_at-said.ensures) in
    record {
      found = tt;
      some = tt;
      within = tt;
      boundary = tt;
      no_front = no_front;
      bad = λ is. said_bad g.T.WktNum.read c.args.text.now _ refusal is;
      refusal = refusal;
      free = λ v end front small. absurd (no_front v end front);
    }
