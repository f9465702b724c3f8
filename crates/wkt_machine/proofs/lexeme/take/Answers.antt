-- What was looked at is taken, or stays.
use Rattle.std.proofs.Common.{ap, sym, ◌∙◌}
use Rattle.wkt_machine.specs.View.{sight}
use Rattle.wkt_machine.proofs.NumberSteps.{unread}
use Rattle.wkt_machine.proofs.Stepping.{stands_at}
use Rattle.wkt_machine.proofs.StepsJoin.{applied, looked_may, looked_steps, may_apply, refused_to}
use Rattle.wkt_machine.proofs.lexeme.take.Goals as goal

pub apply-requires : goal.apply-requires
apply-requires g c =
    let look = c.look-seen.ensures in
    may_apply _ (look.seen ∙ ap sight (sym look.stays.remaining)) (looked_may _ look.stays c.requires) c.in-Some.next c.in-Some.action (sym c.in-Some.ensures.exact) look.looked

pub returns-in-Ok : goal.returns-in-Ok
returns-in-Ok g c =
    let look = c.look-seen.ensures in
    looked_steps _ _ look.stays
    (applied _ (look.seen ∙ ap sight (sym look.stays.remaining)) (looked_may _ look.stays c.requires) c.in-Some.next c.in-Some.action (sym c.in-Some.ensures.exact) c.in-Ok.behind c.in-Ok.made _ c.on.ensures c.in-Some.ensures.sound c.in-Ok.ensures.applies)

pub returns-in-Err : goal.returns-in-Err
returns-in-Err g c =
    let look = c.look-seen.ensures in
    looked_steps _ _ look.stays
    (refused_to _ c.refused.ensures (unread (g.B.Builder.maker.reads c.args.builder) g.S.Source.view g.B.Builder.maker c.args.machine c.look-seen.result.1 c.in-Err.before c.args.builder c.in-Err.made (sym c.in-Err.ensures.number) c.requires.unover c.in-Err.ensures.stays c.in-Err.ensures.unread c.in-Err.ensures.nothing))

pub returns-in-None : goal.returns-in-None
returns-in-None g c =
    let look = c.look-seen.ensures in
    looked_steps _ _ look.stays
    (refused_to _ c.refused-in-None.ensures (stands_at (g.B.Builder.maker.reads c.args.builder) g.S.Source.view g.B.Builder.maker c.args.machine c.look-seen.result.1 c.args.builder _ (look.seen ∙ ap sight (sym look.stays.remaining)) c.requires.unover (sym c.in-None.ensures.exact)))
