-- Their texts are shorter than twice the run.
use Rattle.std.specs.Fmt.{decimal, signed_decimal}
use Rattle.wkt_num.specs.Decimal.{read_decimal, decimal_text}
use Rattle.wkt_num.specs.Whole.{read_signed, read_unsigned}
use Rattle.wkt_canonical.proofs.ShortTexts.{none-long, decimal_shorter, signed_shorter, unsigned_shorter}
use Rattle.wkt_canonical.proofs.laws.texts_are_short.Goals as goal

pub returns-clause-decimals : goal.returns-clause-decimals
returns-clause-decimals c = λ places. none-long (read_decimal 127 36 places) (decimal_text places) (decimal_shorter places)

pub returns-clause-signed : goal.returns-clause-signed
returns-clause-signed c = λ bits narrow. none-long (read_signed bits) signed_decimal (signed_shorter bits narrow)

pub returns-clause-unsigned : goal.returns-clause-unsigned
returns-clause-unsigned c = λ bits narrow. none-long (read_unsigned bits) decimal (unsigned_shorter bits narrow)
