-- A run is a kind word alone, one with a dimension joined, or none of the table.
use Rattle.std.proofs.Common.{◌∙◌, true, false, sym, ap, subst}
use Rattle.std.specs.Str.{str_to_ascii_uppercase}
use Rattle.wkt_read.specs.Grammar.{kind_word, dim_word}
use Rattle.wkt_read.specs.Stream.{Names}
use Rattle.wkt_read.proofs.KindWords.{joined, none-named, alone, after, no-letters, some-letters}
use Rattle.wkt_read.proofs.keywords.kind_in.Goals as goal

pub returns-in_err-kind : goal.returns-in_err-kind
unfolding kind_word
returns-in_err-kind c =
    let says = none-named (str_to_ascii_uppercase c.args.word.now) c.in_err-kind.ensures.named in
    subst (λ r. Names r (kind_word c.args.word.now)) (sym c.from_residual.ensures) says

pub returns-then-is_empty : goal.returns-then-is_empty
unfolding kind_word
returns-then-is_empty c =
    let k = c.in_ok-kind.kind in
    let says = alone (str_to_ascii_uppercase c.args.word.now) k _ c.in_ok-kind.ensures.named (no-letters _ (sym c.is_empty.ensures ∙ c.if-is_empty.true)) in
    says

pub returns-then-begins : goal.returns-then-begins
unfolding kind_word
returns-then-begins c =
    let says = after true (str_to_ascii_uppercase c.args.word.now) c.in_ok-kind.kind _ c.in_ok-kind.ensures.named (some-letters _ (sym c.is_empty.ensures ∙ c.if-is_empty.false)) (sym c.begins.ensures ∙ c.if-begins.true) in
    says

pub returns-in_err-dimension : goal.returns-in_err-dimension
unfolding kind_word dim_word
returns-in_err-dimension c =
    let k = c.in_ok-kind.kind in
    let says = after false (str_to_ascii_uppercase c.args.word.now) k _ c.in_ok-kind.ensures.named (some-letters _ (sym c.is_empty.ensures ∙ c.if-is_empty.false)) (sym c.begins.ensures ∙ c.if-begins.false) in
    let none = ap (joined k) (sym c.dimension_in.ensures ∙ c.in_err-dimension.was) ∙ sym c.from_residual-in_err-dimension.ensures in
    subst (λ r. Names r (kind_word c.args.word.now)) none says

pub returns : goal.returns
unfolding kind_word dim_word
returns c =
    let k = c.in_ok-kind.kind in
    let says = after false (str_to_ascii_uppercase c.args.word.now) k _ c.in_ok-kind.ensures.named (some-letters _ (sym c.is_empty.ensures ∙ c.if-is_empty.false)) (sym c.begins.ensures ∙ c.if-begins.false) in
    let some = ap (joined k) (sym c.dimension_in.ensures ∙ c.in_ok-dimension.was) in
    subst (λ r. Names r (kind_word c.args.word.now)) some says
