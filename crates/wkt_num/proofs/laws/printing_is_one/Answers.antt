-- The form of a printed text and the text of the units imply each other.
use Rattle.std.proofs.Common.{sym, subst}
use Rattle.wkt_num.specs.Decimal.{IsPrinted}
use Rattle.wkt_num.proofs.NumberLaws.{one-text, is-printed}
use Rattle.wkt_num.proofs.laws.printing_is_one.Goals as goal

pub returns : goal.returns
returns c D u bs h = (one-text D u bs h.1, λ e. subst (IsPrinted D u) (sym e) (is-printed D u h.1))
