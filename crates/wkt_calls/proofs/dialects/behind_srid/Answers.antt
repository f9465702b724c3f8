-- What is held is what stands behind the SRID.
use Rattle.std.proofs.Common.{arith, ◌≡◌, ◌-◌, ◌≤◌, ℕ, List, length, length-drop, drop, sym, subst}
use Rattle.std.proofs.lemmas.List.{take_all}
use Rattle.wkt_dialects.specs.Asked.{dialects_in}
use Rattle.wkt_dialects.specs.Dialects.{IsRest}
use Rattle.wkt_calls.specs.Dialects.{HoldsRest}
use Rattle.wkt_calls.specs.declared.dialects.AsRead.{AsRead}
use Rattle.wkt_calls.proofs.dialects.behind_srid.Goals as goal

holds-rest : (options : ℕ) (text : List ℕ) (r : AsRead) → r.dialects ≡ dialects_in options → r.from ≤ length text → r.rest.now ≡ drop r.from text → IsRest r.dialects text (drop r.from text) → HoldsRest options text r
holds-rest options text r d inside rest split = record {
  dialects = d;
  inside = inside;
  rest = rest;
  split_off = subst (IsRest (dialects_in options) text) (sym rest) (subst (λ e. IsRest e text (drop r.from text)) d split);
}

pub returns-clause-rest : goal.returns-clause-rest
returns-clause-rest c =
    let text = c.args.text.now in
    let from = c.rest_of-from.result in
    holds-rest c.args.options text _ c.dialects_in-dialects.ensures c.rest_of-from.ensures.inside (take_all (length text - from) (drop from text) (omega (arith, length-drop from text))) c.rest_of-from.ensures.rest
