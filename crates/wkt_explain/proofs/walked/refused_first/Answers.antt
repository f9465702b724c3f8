-- The machine stops at the word.
use Rattle.std.proofs.Common.{sym, ◌∙◌, subst}
use Rattle.wkt_explain.specs.Problems.{IsToldFirst}
use Rattle.wkt_explain.proofs.StopsAreRefusals.{first_stops, first_told}
use Rattle.wkt_explain.proofs.walked.refused_first.Goals as goal

pub returns : goal.returns
returns g c =
    let read = g.N.Numbers.read c.args.numbers in
    let text = c.as_bytes-bytes.result.now in
    let skips = c.skip_white-start.ensures in
    let m = c.start.result in
    let is = c.start.ensures.state in
    let letter = sym c.begins_number.ensures ∙ c.if-begins_number.false in
    subst (λ t. IsToldFirst read t (record { message = c.at_word.result; start = c.skip_white-start.result; end = c.run_end-end.result; expected = c.expected-expected.result })) c.as_bytes-bytes.ensures.value (
      m,
      first_stops read text c.skip_white-start.result c.run_end-end.result m is (record { order = skips.order; same = skips.same; white = skips.white }) c.run_end-end.ensures c.if-end-start.false letter c.in-None.ensures,
      first_told read text c.skip_white-start.result c.run_end-end.result m is (record { order = skips.order; same = skips.same; white = skips.white }) c.run_end-end.ensures c.if-end-start.false letter c.in-None.ensures
          c.at_word.result c.expected-expected.result skips.inside skips.stops c.expected-expected.ensures c.at_word.ensures,
    )
