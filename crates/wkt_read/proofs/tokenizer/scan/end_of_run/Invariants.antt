use Rattle.std.proofs.Common.{◌≡◌, ◌≤◌, ◌-◌, length}
use Rattle.wkt_read.specs.Streams.{taken_in, IsRunSoFar}
use Rattle.wkt_read.proofs.tokenizer.scan.end_of_run.Given as goal

abbrev pub invariant-bytes : goal.invariant-bytes
invariant-bytes l = record {
  text : l.bytes.text ≡ l.fn.bytes.text;
  grows : taken_in l.fn.bytes ≤ taken_in l.bytes;
  so_far : IsRunSoFar l.bytes.text.now l.from (taken_in l.bytes);
}

abbrev pub decreases-bytes : goal.decreases-bytes
decreases-bytes l = length l.fn.bytes.text.now - taken_in l.bytes
