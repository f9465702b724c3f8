-- The lines so far are answered, and the options stay.
use Rattle.std.proofs.Common.{◌≡◌}
use Rattle.wkt_lines.specs.Reading.{to_come}
use Rattle.wkt_command.specs.Canon.{out_bytes, text_of, IsAnswerTo}
use Rattle.wkt_options.specs.declared.options.Command.TheVariants.{Canon}
use Rattle.wkt_command.proofs.Canonizing.{Answered}
use Rattle.wkt_command.proofs.run.Run.read_lines.Given as goal

abbrev pub invariant-lines : goal.invariant-lines
invariant-lines g l = record {
  options : l.self.options ≡ l.initial.self.options;
  answered : l.initial.self.options.now.command ≡ Canon → Answered (IsAnswerTo l.initial.self.options.now) (text_of l.initial.self.options.now.ends) (to_come g.R.ByteSource.left l.initial.lines) (to_come g.R.ByteSource.left l.lines)
      (out_bytes g.W.Write.contents l.initial.self.out) (out_bytes g.W.Write.contents l.self.out);
}
