-- What was read of a text's lexemes is what the text has at its front, in bytes.
use Rattle.std.proofs.Common.{◌∙◌, sym, subst}
use Rattle.std.specs.Prelude.{IfOk}
use Rattle.std.specs.Result.{IsOk}
use Rattle.wkt_types.specs.Tree.{tree}
use Rattle.wkt_types.specs.declared.geometry.Wkt.{Wkt}
use Rattle.wkt_read.specs.Stream.{rest}
use Rattle.wkt_read.specs.Begun.{NoneBegins}
use Rattle.wkt_read.specs.Items.{HasBad, bad_number}
use Rattle.wkt_read.specs.Front.{Front, HasNoFront}
use Rattle.wkt_read.specs.Answered.{HasBadNumber, IsReadOff, OnText, OnMessage}
use Rattle.wkt_read.specs.Spanned.{AreEnds}
use Rattle.wkt_read.proofs.HeaderPlaces.{front-some, front-within, front-boundary}
use Rattle.wkt_read.proofs.OnePlacing.{spanned-only}
use Rattle.wkt_read.proofs.Answering.{to-front, from-front, no-front, split-of, text-map, message-map}
use Rattle.wkt_read.specs.Refusal.{IsRefused, IsTextRefused, IfText}
use Rattle.wkt_values.proofs.Reading.{if-text-err}
use Rattle.wkt_values.proofs.from_str.WktFromWktStr.read_front.Goals as goal

pub returns-in-Ok-clause-found : goal.returns-in-Ok-clause-found
returns-in-Ok-clause-found g c =
    let (v, begins, is) = subst (λ r. IfOk r (λ w. IsReadOff g.T.WktNum.read (rest c.new-tokens.result) (tree w) (rest c.read_off-answer.result.1.now))) c.in-Ok.is c.read_off-answer.ensures.found in
    (v, subst (Front g.T.WktNum.read c.args.text.now v) (sym c.end.ensures) (to-front g.T.WktNum.read c.args.text.now _ _ v (subst (AreEnds c.args.text.now) (sym c.new-tokens.ensures.left) c.from_str.ensures.ends) (c.new-tokens.ensures.end ∙ c.from_str.ensures.start) c.read_off-answer.ensures.advances begins), is)

pub returns-in-Ok-clause-some : goal.returns-in-Ok-clause-some
returns-in-Ok-clause-some g c = let (v, front, is) = returns-in-Ok-clause-found g c in front-some g.T.WktNum.read c.args.text.now v _ front

pub returns-in-Ok-clause-within : goal.returns-in-Ok-clause-within
returns-in-Ok-clause-within g c = let (v, front, is) = returns-in-Ok-clause-found g c in front-within g.T.WktNum.read c.args.text.now v _ front

pub returns-in-Ok-clause-boundary : goal.returns-in-Ok-clause-boundary
returns-in-Ok-clause-boundary g c = let (v, front, is) = returns-in-Ok-clause-found g c in front-boundary g.T.WktNum.read c.args.text.now v _ c.utf8.text front

pub returns-in-Err-clause-no_front : goal.returns-in-Err-clause-no_front
returns-in-Err-clause-no_front g c =
    text-map (Wkt g.row.T.Denot) (Wkt g.row.T.Denot) c.in-Err.error (NoneBegins g.T.WktNum.read (rest c.new-tokens.result)) (HasNoFront g.T.WktNum.read c.args.text.now)
    (no-front g.T.WktNum.read c.args.text.now c.new-tokens.result (c.new-tokens.ensures.left ∙ spanned-only _ _ c.from_str.ensures.split c.from_str.ensures.ends)) (subst (λ r. OnText r (NoneBegins g.T.WktNum.read (rest c.new-tokens.result))) c.in-Err.is c.read_off-answer.ensures.no_geometry)

pub returns-in-Err-clause-bad : goal.returns-in-Err-clause-bad
returns-in-Err-clause-bad g c =
    message-map (Wkt g.row.T.Denot) (Wkt g.row.T.Denot) c.in-Err.error bad_number (HasBad g.T.WktNum.read (rest c.new-tokens.result)) (HasBadNumber g.T.WktNum.read c.args.text.now)
    (λ bad. (rest c.new-tokens.result, split-of g.T.WktNum.read c.args.text.now c.new-tokens.result (c.new-tokens.ensures.left ∙ spanned-only _ _ c.from_str.ensures.split c.from_str.ensures.ends), bad)) (subst (λ r. OnMessage r bad_number (HasBad g.T.WktNum.read (rest c.new-tokens.result))) c.in-Err.is c.read_off-answer.ensures.bad)

pub returns-in-Err-clause-refusal : goal.returns-in-Err-clause-refusal
returns-in-Err-clause-refusal g c =
    if-text-err (Wkt g.row.T.Denot) (Wkt g.row.T.Denot) c.in-Err.error (λ said. IsRefused g.T.WktNum.read (rest c.new-tokens.result) said (rest c.read_off-answer.result.1.now)) (IsTextRefused g.T.WktNum.read c.args.text.now)
    (λ said (m, says, e). (m, says, (rest c.new-tokens.result, rest c.read_off-answer.result.1.now, split-of g.T.WktNum.read c.args.text.now c.new-tokens.result (c.new-tokens.ensures.left ∙ spanned-only _ _ c.from_str.ensures.split c.from_str.ensures.ends), e))) (subst (λ r. IfText r (λ said. IsRefused g.T.WktNum.read (rest c.new-tokens.result) said (rest c.read_off-answer.result.1.now))) c.in-Err.is c.read_off-answer.ensures.refusal)

pub returns-in-Err-clause-free : goal.returns-in-Err-clause-free
returns-in-Err-clause-free g c = λ v end front small.
    let (after, begins) = from-front g.T.WktNum.read c.args.text.now c.new-tokens.result v end (c.new-tokens.ensures.left ∙ spanned-only _ _ c.from_str.ensures.split c.from_str.ensures.ends) front in
    subst (λ r. IsOk r) c.in-Err.is (c.read_off-answer.ensures.free v after begins small)
