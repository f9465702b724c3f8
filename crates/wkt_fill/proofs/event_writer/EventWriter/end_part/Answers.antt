-- The part has its end.
use Rattle.std.proofs.Common.{subst}
use Rattle.std.specs.Prelude.{if◌then◌else◌}
use Rattle.wkt_fill.specs.EventLists.{Becomes, add, end_line, end_list, ends, is_inner}
use Rattle.wkt_fill.proofs.event_writer.EventWriter.end_part.Goals as goal

pub returns-then-is_line : goal.returns-then-is_line
returns-then-is_line c =
    subst (λ b. Becomes (λ w. if b then end_line w else (if is_inner c.args.part then end_list w else add ends w)) c.args.self.now c.end_line.new.self) c.if-is_line.ensures c.end_line.ensures

pub returns-then-is_inner : goal.returns-then-is_inner
returns-then-is_inner c =
    subst (λ b. Becomes (λ w. if b then end_line w else (if is_inner c.args.part then end_list w else add ends w)) c.args.self.now c.end_list.new.self) c.if-is_line.ensures
    (subst (λ b. Becomes (λ w. if b then end_list w else add ends w) c.args.self.now c.end_list.new.self) c.if-is_inner.ensures c.end_list.ensures)

pub returns : goal.returns
returns c =
    subst (λ b. Becomes (λ w. if b then end_line w else (if is_inner c.args.part then end_list w else add ends w)) c.args.self.now c.put.new.self) c.if-is_line.ensures
    (subst (λ b. Becomes (λ w. if b then end_list w else add ends w) c.args.self.now c.put.new.self) c.if-is_inner.ensures c.put.ensures)
