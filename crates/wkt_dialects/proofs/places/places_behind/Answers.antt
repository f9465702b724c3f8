use Rattle.std.proofs.Common.{arith, ◌≤◌, [], ◌∷◌, ◌++◌, length, ap, ◌∙◌, sym, subst, refl, inl, inr, List, length-append}
use Rattle.wkt_read.specs.Spanned.{Spanned}
use Rattle.wkt_dialects.specs.declared.spot.Spot.TheVariants as spot
use Rattle.wkt_dialects.specs.Dialects.{read_as}
use Rattle.wkt_dialects.specs.Pieces.{lexeme_as, read_from}
use Rattle.wkt_dialects.proofs.Leading.{leads-none, leads-more, read-nothing, from-start, over-there}
use Rattle.wkt_dialects.proofs.places.places_behind.Goals as goal

pub pieces-init : goal.pieces-init
pieces-init c = ([], leads-none c.args.dialects spot.Elsewhere c.args.text.now, omega arith, subst (λ l. c.args.count ≤ length l) (from-start c.args.dialects c.args.text.now) c.requires)

pub piece_at-requires : goal.piece_at-requires
piece_at-requires c = c.pieces.invariant.1.inside

pub pieces-preserved : goal.pieces-preserved
pieces-preserved c =
    let k = c.in-Some.ensures in
    let p = c.in-Some.there in
    let one : List Spanned = record { lexeme = lexeme_as p.piece k.lexeme; end = p.end } ∷ [] in (
      c.pieces.invariant.0 ++ one,
      leads-more c.args.dialects spot.Elsewhere c.pieces.spot c.args.text.now 0 c.pieces.at c.pieces.invariant.0 p c.pieces.invariant.1 k,
      omega (arith, length-append c.pieces.invariant.0 one, c.pieces.invariant.2),
      omega (arith, ap (λ l. length l) k.reads, c.pieces.invariant.3),
    )

pub unreachable-requires : goal.unreachable-requires
unreachable-requires c = omega (arith, c.pieces.invariant.3, ap (λ l. length l) (ap (read_as c.args.dialects 0 c.pieces.spot) c.in_default.ensures ∙ read-nothing c.args.dialects c.pieces.spot))

pub returns-in-Some-piece_at : goal.returns-in-Some-piece_at
returns-in-Some-piece_at c =
    let l = c.pieces.invariant.1 in
    let k = c.in-Some-piece_at.ensures in
    let p = c.in-Some-piece_at.next in
    record {
      before = c.pieces.invariant.0;
      later = read_from c.args.dialects c.pieces.spot c.args.text.now c.pieces.at;
      many = omega (arith, c.pieces.invariant.2);
      reads = from-start c.args.dialects c.args.text.now ∙ l.reads;
      ends = l.ends;
      inside = k.inside;
      between = k.between;
      dark = k.dark;
      next = inr (record { lexeme = lexeme_as p.piece k.lexeme; end = p.end }, read_from c.args.dialects p.spot c.args.text.now p.end, k.reads, refl);
    }

pub returns-in-None : goal.returns-in-None
returns-in-None c =
    let l = c.pieces.invariant.1 in
    let s = c.skip_white-end.ensures in
    record {
      before = c.pieces.invariant.0;
      later = read_from c.args.dialects c.pieces.spot c.args.text.now c.pieces.at;
      many = omega (arith, c.pieces.invariant.2);
      reads = from-start c.args.dialects c.args.text.now ∙ l.reads;
      ends = l.ends;
      inside = (s.inside, s.inside);
      between = record { order = s.order; same = s.same; white = s.white };
      dark = s.stops;
      next = inl (ap (read_as c.args.dialects 0 c.pieces.spot) c.in-None.ensures ∙ read-nothing c.args.dialects c.pieces.spot, refl, over-there c.args.text.now c.skip_white-end.result s.stops (sym s.same ∙ c.in-None.ensures));
    }
