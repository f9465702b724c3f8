-- Past the end nothing is seen.
use Rattle.std.proofs.Common.{◌==◌, sym, refl}
use Rattle.std.specs.Prelude.{not}
use Rattle.wkt_sources.proofs.ByteViews.{past_sight, past_looked, stays_on}
use Rattle.wkt_sources.proofs.bytes.ByteCursorSource.look.Goals as goal

pub returns-then-self-text-clause-seen : goal.returns-then-self-text-clause-seen
returns-then-self-text-clause-seen g c = sym (past_sight _ c.args.self.text.now c.args.self.at c.if-self-text.true)

pub returns-then-self-text-clause-looked : goal.returns-then-self-text-clause-looked
returns-then-self-text-clause-looked g c = past_looked _ c.args.self.text.now c.args.self.at c.args.self.end c.if-self-text.true

pub returns-clause-stays : goal.returns-clause-stays
returns-clause-stays g c =
    let skips = c.skip_white-at.ensures in
    stays_on (not (g.row.LF_ENDS == 0)) c.args.self _ refl (record { order = skips.order; same = skips.same; white = skips.white }) (λ k. (k.0, skips.line k.1))
