-- No line feed was seen in what came so far.
use Rattle.std.proofs.Common.{◌≡◌, ◌+◌, ◌≤◌, ℕ, List, length, arith, ap, sym, ◌∙◌, subst, length-append}
use Rattle.std.proofs.KnownBytes.{Keeps-trans}
use Rattle.wkt_lines.specs.First.{EndsLine}
use Rattle.wkt_lines.specs.Reading.{unread}
use Rattle.wkt_lines.proofs.Lining.{seen_none, seen_line, none_to_end, came_keeps, none_came}
use Rattle.wkt_lines.proofs.reading.Lines.find_end.Goals as goal

pub returns-then-end-rest-clause-ends : goal.returns-then-end-rest-clause-ends
returns-then-end-rest-clause-ends g c =
    let i = c.turns.invariant in
    let (before, after) = seen_line c.turns.seen c.line_end.result (unread c.turns.self) c.rest-rest.result.now c.rest-rest.ensures i.within i.none c.line_end.ensures.before c.line_end.ensures.after in
    record { before = before; after = after; within = omega (arith, ap length c.rest-rest.ensures, c.if-end-rest.true) }

pub returns-in-Ok-eq0-clause-ends : goal.returns-in-Ok-eq0-clause-ends
returns-in-Ok-eq0-clause-ends g c =
    let i = c.turns.invariant in
    let m = c.in-Ok-eq0.ensures.ok in
    let same = none_came _ _ m.fresh m.stands (m.many ∙ c.in-Ok-eq0.field-0-test) in
    let (before, after) = seen_line c.turns.seen c.line_end.result (unread c.turns.self) c.rest-rest.result.now c.rest-rest.ensures i.within i.none c.line_end.ensures.before c.line_end.ensures.after in
    let within : c.turns.seen + c.line_end.result ≤ length (unread c.turns.self) = omega (arith, ap length c.rest-rest.ensures, i.within, c.line_end.ensures.within) in
    subst (λ (xs : List ℕ). EndsLine xs (c.turns.seen + c.line_end.result)) (sym same) (record { before = before; after = after; within = within })

pub turns-preserved : goal.turns-preserved
turns-preserved g c =
    let i = c.turns.invariant in
    let u = unread c.turns.self in
    let n = c.turns.seen + c.line_end.result in
    let known : length c.rest-rest.result.now ≡ length u = ap length c.rest-rest.ensures in
    let over : length u ≤ n = omega (arith, known, c.if-end-rest.false) in
    let m = c.in-Ok.ensures.ok in
    let none = none_to_end n u over (seen_line c.turns.seen c.line_end.result (unread c.turns.self) c.rest-rest.result.now c.rest-rest.ensures i.within i.none c.line_end.ensures.before c.line_end.ensures.after).0 in
    let all : n ≡ length u = omega (arith, over, known, i.within, c.line_end.ensures.within) in
    let long : length (unread c.more.new.self) ≡ length u + length m.fresh = ap length m.stands ∙ length-append u m.fresh in
    record {
      within = omega (arith, all, long);
      line = c.more.ensures.line;
      none = seen_none n u m.fresh (unread c.more.new.self) all m.stands none;
      kept = Keeps-trans _ _ _ i.kept (came_keeps _ _ _ _ m.fresh m.stands m.came);
      count = c.in-Ok.ensures.count ∙ i.count;
    }
