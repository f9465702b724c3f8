-- The lexemes of the text are all to come, each with its end.
use Rattle.std.proofs.Common.{refl}
use Rattle.wkt_read.proofs.OnePlacing.{spanned-few}
use Rattle.wkt_read.proofs.Placings.{spanned-split, spanned-ends}
use Rattle.wkt_read.proofs.tokenizer.tokens.Tokens.from_str.Goals as goal

pub returns : goal.returns
returns g c = rw (c.new.ensures.taken, c.new.ensures.text) (record {
  split = spanned-split c.args.text.now;
  ends = spanned-ends c.args.text.now;
  few = spanned-few c.args.text.now;
  untaken = refl;
  start = refl;
})
