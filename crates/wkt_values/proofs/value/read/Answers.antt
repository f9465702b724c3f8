-- What has grown where the machine is over, or where it is refused.
use Rattle.std.proofs.Common.{[], None, refl, sym, ap, subst}
use Rattle.wkt_machine.specs.Events.{events}
use Rattle.wkt_values.specs.Trees.{tree_maker, tree_of, Grew}
use Rattle.wkt_values.specs.Growing.{rest}
use Rattle.wkt_values.specs.Values.{AnswersTree}
use Rattle.wkt_values.proofs.ReadValues.{lent, read_off, wants_memory}
use Rattle.wkt_sources.proofs.FrontValues.{taken}
use Rattle.wkt_machine.proofs.RoomForRest.{free_room}
use Rattle.wkt_values.proofs.value.read.Goals as goal

pub returns-in-Ok-answer-clause-found : goal.returns-in-Ok-answer-clause-found
returns-in-Ok-answer-clause-found g c =
    let num = g.T.WktNum in
    let view = g.S.Source.view in
    let (v, takes, grew) = taken num.read view (tree_maker num.read) c.args.source c.new.result c.in-Ok.over c.in-Ok.ensures.on c.in-Ok.ensures.over in
    read_off num.is_value num.read g.met.T.WktNum.reads_values view _ c.into_tree.result.now c.args.source c.in-Ok.over.source (lent (tree_of c.new.result) _ (rest [] None) c.new.ensures c.new-tree.ensures)
    (v, takes, subst (Grew (tree_of c.new.result).now (events v)) (sym (ap (λ t. t.now) c.into_tree.ensures)) grew)
    c.in-Ok-answer.geometry (subst (AnswersTree c.into_tree.result.now) c.in-Ok-answer.is c.answer.ensures)

pub returns-in-Ok-clause-memory : goal.returns-in-Ok-clause-memory
returns-in-Ok-clause-memory g c =
    let num = g.T.WktNum in
    let view = g.S.Source.view in
    let (v, takes, grew) = taken num.read view (tree_maker num.read) c.args.source c.new.result c.in-Ok.over c.in-Ok.ensures.on c.in-Ok.ensures.over in
    wants_memory num.is_value num.read g.met.T.WktNum.reads_values view _ c.into_tree.result.now c.args.source c.in-Ok.over.source (lent (tree_of c.new.result) _ (rest [] None) c.new.ensures c.new-tree.ensures)
    (v, takes, subst (Grew (tree_of c.new.result).now (events v)) (sym (ap (λ t. t.now) c.into_tree.ensures)) grew)
    c.in-Err-answer.error (subst (AnswersTree c.into_tree.result.now) c.in-Err-answer.is c.answer.ensures)

pub drive-requires-clause-room : goal.drive-requires-clause-room
drive-requires-clause-room g c = free_room g.S.Source.view (tree_maker g.T.WktNum.read) c.args.source c.new.result (λ n. tt) (λ c x. refl) (λ by c. sym (g.met.S.Source.by_type by))
