-- A number that isn't read is blamed where one may stand; any other token stays, or is taken.
use Rattle.std.proofs.Common.{◌≡◌, sym, ◌∙◌, ap, subst}
use Rattle.wkt_read.specs.Stream.{remaining, rest, Advances, TakesNext}
use Rattle.wkt_read.specs.Spanned.{Standing}
use Rattle.wkt_read.specs.Peeks.{found}
use Rattle.wkt_machine.specs.Refusing.{expected_at, blamed}
use Rattle.wkt_machine.specs.Machines.{state_of}
use Rattle.wkt_sources.proofs.NextLexeme.{blames_first}
use Rattle.wkt_values.proofs.Reading.{advances_then, advances_none, advances_one, blames_taken, blames_stays}
use Rattle.wkt_values.proofs.refused.message_here.Goals as goal
use Rattle.wkt_values.proofs.refused.message_here.Goals.{then-not-stays, else-not-stays}

pub returns-then-is_number-clause-message : goal.returns-then-is_number-clause-message
returns-then-is_number-clause-message g c =
    let looks = c.look-lexeme.ensures in
    let l = found c.take.result in
    let takes = subst (λ ls. TakesNext l ls (rest c.take.new.self)) looks.same c.take.ensures.takes in
    blames_first g.T.WktNum.read c.args.machine (found c.look-lexeme.result) l (remaining c.args.tokens.now) (rest c.args.tokens.now) (rest c.take.new.self) looks.first
    (sym c.is_number.ensures ∙ c.if-is_number.true) (sym c.takes_number.ensures ∙ c.if-takes_number.true) c.requires.stuck looks.sees takes

pub returns-then-is_number-clause-advances : goal.returns-then-is_number-clause-advances
returns-then-is_number-clause-advances g c =
    let looks = c.look-lexeme.ensures in
    let seen = c.look-lexeme.new.self in
    advances_then c.args.tokens.now seen c.take.new.self (advances_none c.args.tokens.now seen looks.left looks.end looks.goes_on.grows) (advances_one seen (found c.take.result) c.take.new.self c.take.ensures.moves)

pub returns-clause-message : goal.returns-clause-message
returns-clause-message g c =
    let read = g.T.WktNum.read in
    let e = c.expected-expected.result in
    let at = expected_at (state_of c.args.machine).place c.args.machine.depth in
    let ls = rest c.args.tokens.now in
    let looks = c.look-lexeme.ensures in
    let stays = sym (c.stays.ensures ls looks.sees) in
    let says = c.at_place.ensures ls looks.sees in
    let is = ap (λ e. blamed read e ls) c.expected-expected.ensures in
    elim c.if-not-stays.branch [
      | then-not-stays w ↦
          let l = found w.take-then-not-stays.result in
          let takes = subst (λ ls. TakesNext l ls (rest w.take-then-not-stays.new.self)) looks.same w.take-then-not-stays.ensures.takes in
          subst (λ (t : Standing). (c.at_place.result, rest t) ≡ blamed read at ls) (sym w.tokens-is)
          (blames_taken read e c.at_place.result l ls (rest w.take-then-not-stays.new.self) takes (stays ∙ w.if-not-stays.true) says ∙ is)
      | else-not-stays w ↦
          subst (λ (t : Standing). (c.at_place.result, rest t) ≡ blamed read at ls) (sym w.tokens-is)
          (ap (λ r. (c.at_place.result, r)) looks.same ∙ blames_stays read e c.at_place.result ls (stays ∙ w.if-not-stays.false) says ∙ is)
    ]

pub returns-clause-advances : goal.returns-clause-advances
returns-clause-advances g c =
    let looks = c.look-lexeme.ensures in
    let seen = c.look-lexeme.new.self in
    let looked = advances_none c.args.tokens.now seen looks.left looks.end looks.goes_on.grows in
    elim c.if-not-stays.branch [
      | then-not-stays w ↦
          subst (Advances c.args.tokens.now) (sym w.tokens-is) (advances_then c.args.tokens.now seen w.take-then-not-stays.new.self looked (advances_one seen (found w.take-then-not-stays.result) w.take-then-not-stays.new.self w.take-then-not-stays.ensures.moves))
      | else-not-stays w ↦ subst (Advances c.args.tokens.now) (sym w.tokens-is) looked
    ]
