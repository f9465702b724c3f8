use Rattle.std.proofs.Common.{ap, ◌∙◌, sym}
use Rattle.wkt_dialects.specs.Dialects.{spot_behind}
use Rattle.wkt_dialects.specs.Pieces.{lexeme_as, lexeme_in}
use Rattle.wkt_dialects.proofs.Piecing.{takes-empty, takes-one, joined-behind, empty-behind}
use Rattle.wkt_dialects.proofs.pieces.piece_at.Goals as goal

pub returns-in-Some : goal.returns-in-Some
returns-in-Some c = takes-empty c.args.dialects c.args.spot c.args.text.now c.args.from c.in_ok-found.found c.in_ok-found.ensures c.in-Some.end c.goes_on.result c.in-Some.ensures.0 c.in-Some.ensures.1 c.goes_on.ensures

pub returns-in-Same : goal.returns-in-Same
returns-in-Same c =
    let l = lexeme_in c.args.text.now c.in_ok-found.found in
    takes-one c.args.dialects c.args.spot c.args.text.now c.args.from c.in_ok-found.found c.in_ok-found.ensures c.piece_of-piece.result c.behind-spot.result c.in_default.ensures c.piece_of-piece.ensures
    (c.behind-spot.ensures ∙ ap (λ q. spot_behind c.args.spot (lexeme_as q l)) (sym c.in-Same.is))

pub returns-in-Joined : goal.returns-in-Joined
returns-in-Joined c =
    let l = lexeme_in c.args.text.now c.in_ok-found.found in
    takes-one c.args.dialects c.args.spot c.args.text.now c.args.from c.in_ok-found.found c.in_ok-found.ensures _ _ c.in_default.ensures (ap (λ q. lexeme_as q l) (sym c.in-Joined.is) ∙ c.piece_of-piece.ensures) (sym (joined-behind c.args.spot c.in-Joined.kind c.in-Joined.dim))

pub returns-in-Empty : goal.returns-in-Empty
returns-in-Empty c =
    let l = lexeme_in c.args.text.now c.in_ok-found.found in
    takes-one c.args.dialects c.args.spot c.args.text.now c.args.from c.in_ok-found.found c.in_ok-found.ensures c.piece_of-piece.result c.goes_on-spot.result c.in_default.ensures c.piece_of-piece.ensures
    (c.goes_on-spot.ensures ∙ sym (empty-behind c.args.spot) ∙ ap (λ q. spot_behind c.args.spot (lexeme_as q l)) (sym c.in-Empty.is))
