use Rattle.std.proofs.Common.{◌↔◌, drop}
use Rattle.wkt_num.specs.Bytes.{AllWhite}
use Rattle.wkt_read.proofs.tokenizer.scan.is_blank.Given as goal

abbrev pub invariant-loop-byte : goal.invariant-loop-byte
invariant-loop-byte l = AllWhite l.bytes ↔ AllWhite (drop l.byte-index l.bytes)
