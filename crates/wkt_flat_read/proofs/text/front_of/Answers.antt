-- What has grown over the bytes of a text is its front; where it is refused, it has none.
use Rattle.std.proofs.Common.{[], None, Ok, refl, ap, ◌∙◌, arith, length, false}
use Rattle.wkt_flat.specs.Equal.{coord_eq}
use Rattle.wkt_flat.specs.declared.geometry.Geometry.TheVariants as geometry
use Rattle.wkt_convert.specs.declared.flattened.Flattened.TheVariants.{Other}
use Rattle.wkt_convert.specs.declared.flattened.Found.TheVariants as found
use Rattle.wkt_read.proofs.OnePlacing.{spanned-few}
use Rattle.wkt_read.specs.Refusal.{IsTextRefused}
use Rattle.wkt_read.proofs.Refusals.{said_bad}
use Rattle.wkt_sources.specs.Views.{bytes_view}
use Rattle.wkt_values.specs.Growing.{rest}
use Rattle.wkt_sources.proofs.ByteViews.{whole_left}
use Rattle.wkt_machine.proofs.RoomForRest.{free_room}
use Rattle.wkt_sources.proofs.TableMessages.{stops_there, stops_message, stops_no_front}
use Rattle.wkt_sources.proofs.FrontValues.{refused}
use Rattle.wkt_flat_read.specs.Trees.{tree_maker, tree_of}
use Rattle.wkt_flat_read.proofs.Ended.{gives_lone}
use Rattle.wkt_flat_read.proofs.Flats.{answer_text, answer_message, answer_refusal, lent, answer_found}
use Rattle.wkt_flat_read.proofs.text.front_of.Goals as goal

pub drive-requires-clause-depth : goal.drive-requires-clause-depth
drive-requires-clause-depth g c =
    let text = ap (λ x. x.now) c.new-source.ensures.text ∙ c.as_bytes.ensures.value in
    let few = spanned-few c.args.text.now in
    let same = ap length (whole_left c.args.text.now c.new-source.result text c.new-source.ensures.at) in
    omega (arith, few, same)

pub drive-requires-clause-room : goal.drive-requires-clause-room
drive-requires-clause-room g c = free_room (bytes_view false) (tree_maker (coord_eq g.T.PartialEq.eq) g.T.WktNum.read) c.new-source.result c.new.result (λ n. tt) (λ c x. refl) (λ never. absurd never)

pub returns-in-Some : goal.returns-in-Some
returns-in-Some g c =
    let E = coord_eq g.T.PartialEq.eq in
    let text = ap (λ x. x.now) c.new-source.ensures.text ∙ c.as_bytes.ensures.value in
    let found = answer_found g.T.WktNum.is_value g.T.WktNum.read g.met.T.WktNum.reads_values E (bytes_view false) c.args.text.now c.new-source.result (whole_left c.args.text.now c.new-source.result text c.new-source.ensures.at) c.new.result
    c.in-Ok.over c.in-Ok.ensures.on c.in-Ok.ensures.over (lent E (tree_of c.new.result) _ (rest [] None) c.new.ensures c.new-tree.ensures) c.into_tree-grown.result.now (ap (λ t. t.now) c.into_tree-grown.ensures)
    (Ok (Other (geometry.Point (record { 0 = c.in-Some.coord })) found.Point)) (c.in-Some.ensures.kept, gives_lone E c.into_tree-grown.result.now c.in-Some.coord c.in-Some.ensures) in
    record { found = found; no_front = tt; bad = tt; refusal = tt }

pub returns-in-Ok : goal.returns-in-Ok
returns-in-Ok g c =
    let E = coord_eq g.T.PartialEq.eq in
    let text = ap (λ x. x.now) c.new-source.ensures.text ∙ c.as_bytes.ensures.value in
    let grown = c.into_tree-grown.result.now in
    record {
      found = answer_found g.T.WktNum.is_value g.T.WktNum.read g.met.T.WktNum.reads_values E (bytes_view false) c.args.text.now c.new-source.result (whole_left c.args.text.now c.new-source.result text c.new-source.ensures.at) c.new.result
          c.in-Ok.over c.in-Ok.ensures.on c.in-Ok.ensures.over (lent E (tree_of c.new.result) _ (rest [] None) c.new.ensures c.new-tree.ensures) grown (ap (λ t. t.now) c.into_tree-grown.ensures)
          c.answer.result c.answer.ensures;
      no_front = answer_text E grown _ c.answer.result c.answer.ensures;
      bad = answer_message E grown _ _ c.answer.result c.answer.ensures;
      refusal = answer_refusal E grown _ c.answer.result c.answer.ensures;
    }

pub message_at-said-requires : goal.message_at-said-requires
message_at-said-requires g c =
    let text = ap (λ x. x.now) c.new-source.ensures.text ∙ c.as_bytes.ensures.value in
    let at = stops_there g.T.WktNum.read c.args.text.now c.new-source.result text c.new-source.ensures.at c.utf8.text c.in-Err.stop.source c.in-Err.stop.machine
    (refused g.T.WktNum.read (bytes_view false) (tree_maker (coord_eq g.T.PartialEq.eq) g.T.WktNum.read) c.new-source.result c.new.result c.in-Err.stop c.in-Err.ensures.refused) in
    record { inside = at.inside; stuck = at.stuck }

pub returns : goal.returns
returns g c =
    let text = ap (λ x. x.now) c.new-source.ensures.text ∙ c.as_bytes.ensures.value in
    let at = stops_there g.T.WktNum.read c.args.text.now c.new-source.result text c.new-source.ensures.at c.utf8.text c.in-Err.stop.source c.in-Err.stop.machine
    (refused g.T.WktNum.read (bytes_view false) (tree_maker (coord_eq g.T.PartialEq.eq) g.T.WktNum.read) c.new-source.result c.new.result c.in-Err.stop c.in-Err.ensures.refused) in
    let refusal : IsTextRefused g.T.WktNum.read c.args.text.now c.text.result.now = (c.message_at-said.result, c.text.ensures, stops_message g.T.WktNum.read c.args.text.now _ _ at c.message_at-said.result c.message_at-said.ensures) in
    record {
      found = tt;
      no_front = stops_no_front g.T.WktNum.read c.args.text.now _ _ at;
      bad = λ is. said_bad g.T.WktNum.read c.args.text.now _ refusal is;
      refusal = refusal;
    }
