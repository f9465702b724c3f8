use Rattle.std.proofs.Common.{[], ◌∷◌, ◌++◌, List, ap, sym, subst, IsUtf8}
use Rattle.std.proofs.lemmas.Str.{IsUtf8-nil}
use Rattle.wkt_read.specs.Spanned.{Spanned}
use Rattle.wkt_dialects.specs.declared.spot.Spot.TheVariants as spot
use Rattle.wkt_dialects.specs.Pieces.{lexeme_as}
use Rattle.wkt_dialects.proofs.Leading.{leads-none, leads-more}
use Rattle.wkt_dialects.proofs.Passed.{appended}
use Rattle.wkt_dialects.proofs.Writing.{nothing-written, written-more, more-text, finished}
use Rattle.wkt_dialects.proofs.reading.write_as_read.Goals as goal

pub pieces-init : goal.pieces-init
pieces-init g c = ([], leads-none c.args.dialects spot.Elsewhere c.args.text.now, nothing-written c.args.dialects (g.P.Put.written c.args.out.now) c.requires, λ u. subst IsUtf8 (sym c.requires) IsUtf8-nil)

pub pieces-preserved : goal.pieces-preserved
pieces-preserved g c =
    let k = c.in-Some.ensures in
    let p = c.in-Some.there in
    let one : List Spanned = record { lexeme = lexeme_as p.piece k.lexeme; end = p.end } ∷ [] in (
      c.pieces.invariant.0 ++ one,
      leads-more c.args.dialects spot.Elsewhere c.pieces.spot c.args.text.now 0 c.pieces.at c.pieces.invariant.0 p c.pieces.invariant.1 k,
      written-more c.args.dialects c.pieces.spot c.args.text.now c.pieces.at c.pieces.invariant.0 p (g.P.Put.written c.pieces.out) (g.P.Put.written c.write_lexeme.new.out) (g.P.Put.written c.put.new.self) c.pieces.invariant.2 k c.in_ok-write_lexeme.ensures c.in_ok-put.ensures,
      λ u. more-text c.args.dialects c.pieces.spot c.args.text.now c.pieces.at p (g.P.Put.written c.pieces.out) (g.P.Put.written c.write_lexeme.new.out) (g.P.Put.written c.put.new.self) k c.in_ok-write_lexeme.ensures c.in_ok-put.ensures (c.pieces.invariant.1.utf8 u) (c.pieces.invariant.3 u),
    )

pub returns : goal.returns
returns g c =
    let s = c.skip_white-end.ensures in
    finished c.put-2.result c.args.dialects c.pieces.spot c.args.text.now c.pieces.at c.skip_white-end.result c.pieces.invariant.0 (g.P.Put.written c.pieces.out) (g.P.Put.written c.put-2.new.self)
    c.pieces.invariant.1 c.pieces.invariant.2 c.in_default.ensures (record { order = s.order; same = s.same; white = s.white }) s.stops s.inside
    (appended c.put-2.result (g.P.Put.written c.put-2.new.self) ((g.P.Put.written c.pieces.out) ++ c.rest.result.now) _ (ap (λ l. (g.P.Put.written c.pieces.out) ++ l) c.rest.ensures) c.put-2.ensures) c.pieces.invariant.3
