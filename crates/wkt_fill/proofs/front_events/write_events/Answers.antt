-- What was written is of the front, or the text has none.
use Rattle.std.proofs.Common.{ap, sym, subst, arith, length, false, refl, IsUtf8, ◌∙◌}
use Rattle.wkt_num.specs.Decimal.{read_decimal}
use Rattle.wkt_read.proofs.OnePlacing.{spanned-few}
use Rattle.wkt_sources.specs.Views.{bytes_view}
use Rattle.wkt_sources.proofs.ByteViews.{whole_left}
use Rattle.wkt_sources.proofs.FrontValues.{front_made, no_front_there}
use Rattle.wkt_machine.proofs.RoomForRest.{free_room}
use Rattle.wkt_fill.specs.EventLists.{writer_maker}
use Rattle.wkt_fill.proofs.EventsWritten.{front-written}
use Rattle.wkt_fill.proofs.front_events.write_events.Goals as goal

pub drive-requires : goal.drive-requires
drive-requires c =
    let few = spanned-few c.args.text.now in
    let same = ap length (whole_left c.args.text.now c.new-source.result (ap (λ x. x.now) c.new-source.ensures.text) c.new-source.ensures.at) in
    record { depth = omega (arith, few, same); room = free_room (bytes_view false) writer_maker c.new-source.result _ (λ n. tt) (λ d x. refl) (λ never. absurd never) }

pub returns-in-Ok-clause-same_events : goal.returns-in-Ok-clause-same_events
returns-in-Ok-clause-same_events c =
    let (v, front, made) =
    front_made (read_decimal 127 36 c.args.places) (bytes_view false) writer_maker c.args.text.now c.new-source.result _ c.in-Ok.over
    (whole_left c.args.text.now c.new-source.result (ap (λ x. x.now) c.new-source.ensures.text) c.new-source.ensures.at) c.in-Ok.over.source.at (λ end e. e) c.in-Ok.ensures.on c.in-Ok.ensures.over in
    made.events_origin ∙ ap (λ r. r.ghost_name) c.take-events.ensures.value

pub returns-in-Ok-clause-same_numbers : goal.returns-in-Ok-clause-same_numbers
returns-in-Ok-clause-same_numbers c =
    let (v, front, made) =
    front_made (read_decimal 127 36 c.args.places) (bytes_view false) writer_maker c.args.text.now c.new-source.result _ c.in-Ok.over
    (whole_left c.args.text.now c.new-source.result (ap (λ x. x.now) c.new-source.ensures.text) c.new-source.ensures.at) c.in-Ok.over.source.at (λ end e. e) c.in-Ok.ensures.on c.in-Ok.ensures.over in
    made.numbers_origin ∙ ap (λ r. r.ghost_name) c.take-numbers.ensures.value

pub returns-in-Ok-clause-writes : goal.returns-in-Ok-clause-writes
returns-in-Ok-clause-writes c =
    let (v, front, made) =
    front_made (read_decimal 127 36 c.args.places) (bytes_view false) writer_maker c.args.text.now c.new-source.result _ c.in-Ok.over
    (whole_left c.args.text.now c.new-source.result (ap (λ x. x.now) c.new-source.ensures.text) c.new-source.ensures.at) c.in-Ok.over.source.at (λ end e. e) c.in-Ok.ensures.on c.in-Ok.ensures.over in
    front-written c.args.places c.args.text.now c.args.room.now _ _ c.in-Ok.over.builder _ v c.take-events.ensures.value c.take-numbers.ensures.value refl refl refl refl refl refl refl refl front made

pub returns-in-Err-clause-writes : goal.returns-in-Err-clause-writes
returns-in-Err-clause-writes c = λ utf8.
    let text = ap (λ x. x.now) c.new-source.ensures.text in
    let at = c.new-source.ensures.at in
    no_front_there (read_decimal 127 36 c.args.places) (bytes_view false) writer_maker c.args.text.now c.new-source.result _ c.in-Err.field-0
    (whole_left c.args.text.now c.new-source.result text at) c.args.text.now (text, (subst IsUtf8 (sym text) utf8, omega (arith, at))) c.in-Err.ensures.refused
