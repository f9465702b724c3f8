-- The output buffer grows until the answer fits.
use Rattle.std.proofs.Common.{◌≡◌, ◌-◌, ◌^◌, length}
use Rattle.std.specs.Prelude.{vec_len}
use Rattle.wkt_lines.specs.Buffers.{output_text, HasRoomFor}
use Rattle.wkt_lines.proofs.output_buffer.OutputBuffer.add_answer.Given as goal

abbrev pub invariant-room : goal.invariant-room
invariant-room g l = record {
  text : output_text l.self ≡ output_text l.initial.self;
  room : HasRoomFor l.self (length l.rest);
}

abbrev pub decreases-room : goal.decreases-room
decreases-room g l = 2 ^ 64 - vec_len l.self.bytes
