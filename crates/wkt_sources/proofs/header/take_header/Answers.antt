-- A header is two lexemes; a point goes on with its coordinate.
use Rattle.std.proofs.Common.{◌≡◌, arith, codes, subst, take}
use Rattle.std.proofs.lemmas.Bool.{OnTrue_at}
use Rattle.std.proofs.lemmas.List.{take_rest}
use Rattle.wkt_sources.proofs.ByteSteps.{collection_name, linestring_name, multipoint_name, point_name}
use Rattle.wkt_machine.proofs.StepsJoin.{then_steps}
use Rattle.wkt_sources.proofs.header.take_header.Goals as goal

pub returns-in-Number-X : goal.returns-in-Number-X
returns-in-Number-X g c = then_steps c.enter-made.result _ c.enter-made.ensures.on c.coordinates.ensures

pub plain-requires : goal.plain-requires
plain-requires g c = (
  omega arith,
  (
    point_name,
    (
      omega arith,
      (
        omega arith,
        (
          c.skip_white-at.ensures.inside,
          subst (λ t. take 5 t ≡ codes "POINT") (take_rest c.args.source.text.now c.skip_white-at.result) (OnTrue_at c.if-is_point.true c.is_point.ensures),
        ),
      ),
    ),
  ),
)

pub plain-requires-then-is_multipoint : goal.plain-requires-then-is_multipoint
plain-requires-then-is_multipoint g c = (
  omega arith,
  (
    multipoint_name,
    (
      omega arith,
      (
        omega arith,
        (
          c.skip_white-at.ensures.inside,
          subst (λ t. take 10 t ≡ codes "MULTIPOINT") (take_rest c.args.source.text.now c.skip_white-at.result) (OnTrue_at c.if-is_multipoint.true c.is_multipoint.ensures),
        ),
      ),
    ),
  ),
)

pub plain-requires-then-is_linestring : goal.plain-requires-then-is_linestring
plain-requires-then-is_linestring g c = (
  omega arith,
  (
    linestring_name,
    (
      omega arith,
      (
        omega arith,
        (
          c.skip_white-at.ensures.inside,
          subst (λ t. take 10 t ≡ codes "LINESTRING") (take_rest c.args.source.text.now c.skip_white-at.result) (OnTrue_at c.if-is_linestring.true c.is_linestring.ensures),
        ),
      ),
    ),
  ),
)

pub plain-requires-then-is_collection : goal.plain-requires-then-is_collection
plain-requires-then-is_collection g c = (
  omega arith,
  (
    collection_name,
    (
      omega arith,
      (
        omega arith,
        (
          c.skip_white-at.ensures.inside,
          subst (λ t. take 18 t ≡ codes "GEOMETRYCOLLECTION") (take_rest c.args.source.text.now c.skip_white-at.result) (OnTrue_at c.if-is_collection.true c.is_collection.ensures),
        ),
      ),
    ),
  ),
)
