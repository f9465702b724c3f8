-- The lines that are read are answered, and there are none where texts end at a NUL.
use Rattle.std.proofs.Common.{◌≡◌, sym, subst, ◌∙◌, take, length, arith, IsUtf8}
use Rattle.std.proofs.lemmas.Grind.{common_steps}
use denote.Enum.Bare.{differs_false}
use Rattle.wkt_options.specs.contracts.options.Ends.{the_type}
use Rattle.wkt_options.specs.declared.options.Ends.TheVariants.{Line}
use Rattle.wkt_command.specs.Canon.{out_bytes}
use Rattle.wkt_command.proofs.Canonizing.{canonizes-whole, canonizes-none, room-kept}
use Rattle.std.specs.Io.KnownBytes.{Appends}
use Rattle.std.proofs.KnownBytes.{Appends-kept}
use Rattle.wkt_command.proofs.run.Run.take_whole.Goals as goal

pub returns-then-ne-clause-canon : goal.returns-then-ne-clause-canon
returns-then-ne-clause-canon g c = λ is. canonizes-none c.args.self.now.options.now _

pub put_whole-requires : goal.put_whole-requires
put_whole-requires g c =
    let room = c.whole_lines_at-whole.new.room in
    let same : length room ≡ c.make_room.new.room.len = grind (arith, common_steps) in
    record { utf8 = subst IsUtf8 (sym (room-kept c.whole_lines_at-whole.result.len c.make_room.new.room.len room c.make_room.new.room.items same)) c.whole_lines_at-whole.ensures.utf8 }

pub returns-clause-canon : goal.returns-clause-canon
returns-clause-canon g c = λ is.
    let o = c.args.self.now.options.now in
    let line : o.ends ≡ Line = differs_false the_type tt o.ends Line (sym c.ne.ensures ∙ c.if-ne.false) in
    let len = c.whole_lines_at-whole.result.len in
    let room = c.whole_lines_at-whole.new.room in
    let same : length room ≡ c.make_room.new.room.len = grind (arith, common_steps) in
    canonizes-whole o line (take c.whole_lines_at-whole.result.taken c.args.lines.now) (take len room) _ _ c.whole_lines_at-whole.ensures.written
    (subst (λ l. Appends (out_bytes g.W.Write.contents c.args.self.now.out) (out_bytes g.W.Write.contents c.end_text.new.self) l) (room-kept len c.make_room.new.room.len room c.make_room.new.room.items same)
    (Appends-kept _ _ _ _ (c.in-Ok.ensures.canon is) c.in-Ok-end_text.ensures))
