use Rattle.std.proofs.Common.{arith, ◌≡◌, ap, ◌∙◌, sym, subst, true, ◌+◌, ◌<◌, length, take, drop, get_or, codes, length-drop}
use Rattle.std.specs.Prelude.{bytes_eq}
use Rattle.std.specs.Str.{str_to_ascii_uppercase}
use Rattle.wkt_dialects.specs.Srids.{IsFrontNumber}
use Rattle.wkt_dialects.proofs.FrontSrid.{skipped, shape, names-true, names-says, count-seam, semicolon-at, has-srid}
use Rattle.wkt_dialects.proofs.srid.split_srid.Goals as goal

pub returns-then-near-lt5 : goal.returns-then-near-lt5
returns-then-near-lt5 c = λ srid rest h.
    let k = skipped c.args.text.now c.skip_white-start.result c.skip_white-start.ensures.inside c.skip_white-start.ensures.white c.skip_white-start.ensures.stops in
    let s = shape c.args.text.now rest c.skip_white-start.result srid c.skip_white-start.ensures.inside k.white k.dark h in
    omega (arith, s.long, ap (λ l. length l) c.rest-near.ensures, length-drop c.skip_white-start.result c.args.text.now)

pub returns-then-not-names_srid : goal.returns-then-not-names_srid
returns-then-not-names_srid c = λ srid rest h.
    let k = skipped c.args.text.now c.skip_white-start.result c.skip_white-start.ensures.inside c.skip_white-start.ensures.white c.skip_white-start.ensures.stops in
    let s = shape c.args.text.now rest c.skip_white-start.result srid c.skip_white-start.ensures.inside k.white k.dark h in
    let word : c.front-word.result.now ≡ take 5 (drop c.skip_white-start.result c.args.text.now) = c.front-word.ensures ∙ ap (take 5) c.rest-near.ensures in
    let named : bytes_eq (str_to_ascii_uppercase c.front-word.result.now) (codes "SRID=") ≡ true = names-true c.front-word.result.now (ap str_to_ascii_uppercase word ∙ s.says) in
    cc

pub returns-then-count-eq0 : goal.returns-then-count-eq0
returns-then-count-eq0 c = λ srid rest h.
    let k = skipped c.args.text.now c.skip_white-start.result c.skip_white-start.ensures.inside c.skip_white-start.ensures.white c.skip_white-start.ensures.stops in
    let s = shape c.args.text.now rest c.skip_white-start.result srid c.skip_white-start.ensures.inside k.white k.dark h in
    let same = count-seam s.digits rest c.rest-behind.result.now c.number_in-srid.result.0 c.number_in-srid.result.1 s.numeral.1 s.few (c.rest-behind.ensures ∙ s.behind) c.number_in-srid.ensures in
    omega (arith, same, s.numeral.0)

pub returns-then-byte_at-ne59 : goal.returns-then-byte_at-ne59
returns-then-byte_at-ne59 c = λ srid rest h.
    let k = skipped c.args.text.now c.skip_white-start.result c.skip_white-start.ensures.inside c.skip_white-start.ensures.white c.skip_white-start.ensures.stops in
    let s = shape c.args.text.now rest c.skip_white-start.result srid c.skip_white-start.ensures.inside k.white k.dark h in
    let same = count-seam s.digits rest c.rest-behind.result.now c.number_in-srid.result.0 c.number_in-srid.result.1 s.numeral.1 s.few (c.rest-behind.ensures ∙ s.behind) c.number_in-srid.ensures in
    omega (arith, semicolon-at c.args.text.now s.digits rest (c.skip_white-start.result + 5) c.number_in-srid.result.1 s.behind same)

pub returns : goal.returns
returns c =
    let k = skipped c.args.text.now c.skip_white-start.result c.skip_white-start.ensures.inside c.skip_white-start.ensures.white c.skip_white-start.ensures.stops in
    let word : c.front-word.result.now ≡ take 5 (drop c.skip_white-start.result c.args.text.now) = c.front-word.ensures ∙ ap (take 5) c.rest-near.ensures in
    let named : bytes_eq (str_to_ascii_uppercase c.front-word.result.now) (codes "SRID=") ≡ true = cc in
    let semicolon : get_or c.args.text.now (c.skip_white-start.result + 5 + c.number_in-srid.result.1) 0 ≡ 59 = cc in
    let inside : c.skip_white-start.result + 5 + c.number_in-srid.result.1 < length c.args.text.now = omega (arith, c.byte_at.ensures.some) in
    let f : IsFrontNumber (drop (c.skip_white-start.result + 5) c.args.text.now) c.number_in-srid.result.0 c.number_in-srid.result.1 = subst (λ l. IsFrontNumber l c.number_in-srid.result.0 c.number_in-srid.result.1) c.rest-behind.ensures c.number_in-srid.ensures in
    (omega (arith, inside), has-srid c.args.text.now c.skip_white-start.result c.number_in-srid.result.0 c.number_in-srid.result.1 k.white (ap str_to_ascii_uppercase (sym word) ∙ names-says c.front-word.result.now named) f (omega arith) inside semicolon)
