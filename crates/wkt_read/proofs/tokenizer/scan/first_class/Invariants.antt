use Rattle.std.proofs.Common.{◌≡◌, ◌≤◌, ◌-◌, length}
use Rattle.wkt_read.specs.Streams.{meant, coming_at, FoundClass, taken_in}
use Rattle.wkt_read.specs.declared.tokenizer.scan.ByteClass.TheVariants as class
use Rattle.wkt_read.proofs.tokenizer.scan.first_class.Given as goal

abbrev pub invariant-white : goal.invariant-white
invariant-white l = record {
  text : l.bytes.text ≡ l.fn.bytes.text;
  grows : taken_in l.fn.bytes ≤ taken_in l.bytes;
  found : FoundClass (coming_at l.fn.bytes.text.now (meant l.fn.ahead) (taken_in l.fn.bytes)) l.bytes.text.now class.White (taken_in l.bytes);
}

abbrev pub decreases-white : goal.decreases-white
decreases-white l = length l.fn.bytes.text.now - taken_in l.bytes
