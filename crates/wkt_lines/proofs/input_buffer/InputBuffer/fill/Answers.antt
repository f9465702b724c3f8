-- What came stands behind what was held.
use Rattle.std.proofs.Common.{◌≡◌, ◌≤◌, ◌+◌, ◌++◌, ℕ, List, length, take, ap, ◌∙◌, arith, rules}
use Rattle.std.proofs.lemmas.List.{with_items_is, places, length-take-le}
use Rattle.wkt_lines.proofs.Lining.{comes}
use Rattle.wkt_lines.proofs.input_buffer.InputBuffer.fill.Goals as goal

pub returns-in-Ok-clause-ok : goal.returns-in-Ok-clause-ok
returns-in-Ok-clause-ok g c =
    let s = c.args.self.now in
    let n = c.in-Ok.n in
    let all = c.as_mut_slice.result.now in
    let buf = c.take.new.buf in
    let fits : s.len ≤ length all = omega (arith, s.fits, c.as_mut_slice.ensures.len) in
    let known : length all ≡ s.bytes.len = search rules in (
      take n buf,
      ap (take (s.len + n)) (with_items_is s.bytes _ (search (rules, places)))
          ∙ (comes s.len n all buf _ fits c.in-Ok.ensures.bound
          ∙ ap (λ (zs : List ℕ). zs ++ take n buf) (ap (take s.len) c.as_mut_slice.ensures.value)),
      length-take-le n buf c.in-Ok.ensures.bound,
      c.in-Ok.ensures.gave.0,
    )
