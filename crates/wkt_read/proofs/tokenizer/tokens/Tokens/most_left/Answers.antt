-- A lexeme has a byte at least.
use Rattle.std.proofs.Common.{arith}
use Rattle.wkt_read.specs.Streams.{meant}
use Rattle.wkt_read.proofs.Placings.{coming-few}
use Rattle.wkt_read.proofs.tokenizer.tokens.Tokens.most_left.Goals as goal

pub returns : goal.returns
returns g c =
    let few = coming-few c.self.inside.bytes (meant c.self.inside.ahead) in
    let most = c.most_left.ensures in
    rw (← c.self.view_is) (omega (arith, few, most))
