use Rattle.std.proofs.Common.{arith, ◌≡◌, ◌≢◌, ◌<◌, true, false, get_or, ap, ◌∙◌}
use Rattle.wkt_num.specs.Bytes.{class_of, Run}
use Rattle.wkt_read.specs.Lexemes.{starts_number}
use Rattle.wkt_sources.proofs.ByteViews.{unmarked}
use Rattle.wkt_dialects.proofs.Lexemes.{nothing-there, found-open, found-close, found-comma, found-number, found-word}
use Rattle.wkt_dialects.proofs.lexeme.lexeme_at.Goals as goal

pub returns-then-byte-eq40 : goal.returns-then-byte-eq40
returns-then-byte-eq40 c =
    let s = c.skip_white-start.ensures in
    let e : get_or c.args.text.now c.skip_white-start.result 0 ≡ 40 = cc in
    found-open c.args.text.now c.args.from c.skip_white-start.result (record { order = s.order; same = s.same; white = s.white }) s.stops e

pub returns-then-byte-eq41 : goal.returns-then-byte-eq41
returns-then-byte-eq41 c =
    let s = c.skip_white-start.ensures in
    let e : get_or c.args.text.now c.skip_white-start.result 0 ≡ 41 = cc in
    found-close c.args.text.now c.args.from c.skip_white-start.result (record { order = s.order; same = s.same; white = s.white }) s.stops e

pub returns-then-byte-eq44 : goal.returns-then-byte-eq44
returns-then-byte-eq44 c =
    let s = c.skip_white-start.ensures in
    let e : get_or c.args.text.now c.skip_white-start.result 0 ≡ 44 = cc in
    found-comma c.args.text.now c.args.from c.skip_white-start.result (record { order = s.order; same = s.same; white = s.white }) s.stops e

pub returns-then-end-start : goal.returns-then-end-start
returns-then-end-start c =
    let s = c.skip_white-start.ensures in
    let same : c.run_end-end.result ≡ c.skip_white-start.result = cc in
    let unrun : class_of (get_or c.args.text.now c.skip_white-start.result 0) ≢ Run = λ r. c.run_end-end.ensures.stops (ap (λ n. class_of (get_or c.args.text.now n 0)) same ∙ r) in
    s.same ∙ nothing-there c.args.text.now c.skip_white-start.result s.stops (unmarked false c.args.text.now c.skip_white-start.result c.byte_at-byte.result c.byte_at-byte.ensures.value (λ e. omega (arith, e)) (λ e. omega (arith, e)) (λ e. omega (arith, e))) unrun

pub returns-then-begins_number : goal.returns-then-begins_number
returns-then-begins_number c =
    let s = c.skip_white-start.ensures in
    let e : starts_number (get_or c.args.text.now c.skip_white-start.result 0) ≡ true = cc in
    let some : c.skip_white-start.result < c.run_end-end.result = omega (arith, c.run_end-end.ensures.order) in
    found-number c.args.text.now c.args.from c.skip_white-start.result c.run_end-end.result (record { order = s.order; same = s.same; white = s.white }) s.stops c.run_end-end.ensures some e

pub returns : goal.returns
returns c =
    let s = c.skip_white-start.ensures in
    let e : starts_number (get_or c.args.text.now c.skip_white-start.result 0) ≡ false = cc in
    let some : c.skip_white-start.result < c.run_end-end.result = omega (arith, c.run_end-end.ensures.order) in
    found-word c.args.text.now c.args.from c.skip_white-start.result c.run_end-end.result (record { order = s.order; same = s.same; white = s.white }) s.stops c.run_end-end.ensures some e
