-- Each kind has its header, and then its parts.
use Rattle.std.proofs.Common.{arith}
use Rattle.wkt_types.specs.declared.geometry_type.GeometryType.TheVariants as kind
use Rattle.wkt_machine.specs.Events.{numbers, listed}
use Rattle.wkt_machine.specs.declared.part.Part.TheVariants as part
use Rattle.wkt_fill.specs.Arrays.{ring_at, polygon_at, polygons_in}
use Rattle.wkt_fill.proofs.Between.{point-events, line_string-events, polygon-events, multi_point-events, multi_line_string-events, multi_polygon-events}
use Rattle.wkt_fill.proofs.Owing.{are-whole, parts-of-kind, header-fits, rest-fits, whole-told}
use Rattle.wkt_fill.proofs.telling.tell.Goals as goal

pub begin-begun-requires : goal.begin-begun-requires
begin-begun-requires g c = record {
  room = header-fits g.B.Builder.maker c.args.given c.args.builder c.requires.arrays c.requires.room part.Point
      (listed part.Point (numbers c.args.given.dimension) (ring_at c.args.given 0)) (λ places v h. point-events places c.args.given v h c.in-Point.is);
}

pub ring-requires-clause-whole : goal.ring-requires-clause-whole
ring-requires-clause-whole g c = are-whole c.args.given c.requires.arrays

pub ring-requires-clause-room : goal.ring-requires-clause-room
ring-requires-clause-room g c =
    rest-fits g.B.Builder.maker c.args.given c.args.builder c.requires.arrays c.requires.room part.Point
    (listed part.Point (numbers c.args.given.dimension) (ring_at c.args.given 0)) (λ places v h. point-events places c.args.given v h c.in-Point.is) c.begin-begun.result c.begin-begun.ensures.makes c.begin-begun.ensures.leaves

pub returns-in-Point : goal.returns-in-Point
returns-in-Point g c =
    whole-told g.B.Builder.maker c.args.given c.args.builder c.requires.arrays c.requires.room part.Point
    (listed part.Point (numbers c.args.given.dimension) (ring_at c.args.given 0)) (λ places v h. point-events places c.args.given v h c.in-Point.is) c.begin-begun.result c.begin-begun.ensures.makes c.begin-begun.ensures.leaves c.ring.result c.ring.ensures

pub ring-requires-clause-within : goal.ring-requires-clause-within
ring-requires-clause-within g c = let two = (parts-of-kind c.args.given c.requires.arrays kind.Point c.in-Point.is).1 in omega (arith, two)

pub begin-begun-requires-in-LineString : goal.begin-begun-requires-in-LineString
begin-begun-requires-in-LineString g c = record {
  room = header-fits g.B.Builder.maker c.args.given c.args.builder c.requires.arrays c.requires.room part.LineString
      (listed part.LineString (numbers c.args.given.dimension) (ring_at c.args.given 0)) (λ places v h. line_string-events places c.args.given v h c.in-LineString.is);
}

pub ring-requires-in-LineString-clause-whole : goal.ring-requires-in-LineString-clause-whole
ring-requires-in-LineString-clause-whole g c = are-whole c.args.given c.requires.arrays

pub ring-requires-in-LineString-clause-room : goal.ring-requires-in-LineString-clause-room
ring-requires-in-LineString-clause-room g c =
    rest-fits g.B.Builder.maker c.args.given c.args.builder c.requires.arrays c.requires.room part.LineString
    (listed part.LineString (numbers c.args.given.dimension) (ring_at c.args.given 0)) (λ places v h. line_string-events places c.args.given v h c.in-LineString.is) c.begin-begun-in-LineString.result c.begin-begun-in-LineString.ensures.makes c.begin-begun-in-LineString.ensures.leaves

pub returns-in-LineString : goal.returns-in-LineString
returns-in-LineString g c =
    whole-told g.B.Builder.maker c.args.given c.args.builder c.requires.arrays c.requires.room part.LineString
    (listed part.LineString (numbers c.args.given.dimension) (ring_at c.args.given 0)) (λ places v h. line_string-events places c.args.given v h c.in-LineString.is) c.begin-begun-in-LineString.result c.begin-begun-in-LineString.ensures.makes c.begin-begun-in-LineString.ensures.leaves c.ring-in-LineString.result c.ring-in-LineString.ensures

pub ring-requires-in-LineString-clause-within : goal.ring-requires-in-LineString-clause-within
ring-requires-in-LineString-clause-within g c = let two = (parts-of-kind c.args.given c.requires.arrays kind.LineString c.in-LineString.is).1 in omega (arith, two)

pub begin-begun-requires-in-Polygon : goal.begin-begun-requires-in-Polygon
begin-begun-requires-in-Polygon g c = record {
  room = header-fits g.B.Builder.maker c.args.given c.args.builder c.requires.arrays c.requires.room part.Polygon
      (listed part.Polygon (listed part.Ring (numbers c.args.given.dimension)) (polygon_at c.args.given 0)) (λ places v h. polygon-events places c.args.given v h c.in-Polygon.is);
}

pub lines-requires-clause-whole : goal.lines-requires-clause-whole
lines-requires-clause-whole g c = are-whole c.args.given c.requires.arrays

pub lines-requires-clause-room : goal.lines-requires-clause-room
lines-requires-clause-room g c =
    rest-fits g.B.Builder.maker c.args.given c.args.builder c.requires.arrays c.requires.room part.Polygon
    (listed part.Polygon (listed part.Ring (numbers c.args.given.dimension)) (polygon_at c.args.given 0)) (λ places v h. polygon-events places c.args.given v h c.in-Polygon.is) c.begin-begun-in-Polygon.result c.begin-begun-in-Polygon.ensures.makes c.begin-begun-in-Polygon.ensures.leaves

pub returns-in-Polygon : goal.returns-in-Polygon
returns-in-Polygon g c =
    whole-told g.B.Builder.maker c.args.given c.args.builder c.requires.arrays c.requires.room part.Polygon
    (listed part.Polygon (listed part.Ring (numbers c.args.given.dimension)) (polygon_at c.args.given 0)) (λ places v h. polygon-events places c.args.given v h c.in-Polygon.is) c.begin-begun-in-Polygon.result c.begin-begun-in-Polygon.ensures.makes c.begin-begun-in-Polygon.ensures.leaves c.lines.result c.lines.ensures

pub lines-requires-clause-within : goal.lines-requires-clause-within
lines-requires-clause-within g c = let two = parts-of-kind c.args.given c.requires.arrays kind.Polygon c.in-Polygon.is in omega (arith, two)

pub begin-begun-requires-in-MultiPoint : goal.begin-begun-requires-in-MultiPoint
begin-begun-requires-in-MultiPoint g c = record {
  room = header-fits g.B.Builder.maker c.args.given c.args.builder c.requires.arrays c.requires.room part.MultiPoint
      (listed part.MultiPoint (listed part.Member (numbers c.args.given.dimension)) (polygon_at c.args.given 0)) (λ places v h. multi_point-events places c.args.given v h c.in-MultiPoint.is);
}

pub lines-requires-in-MultiPoint-clause-whole : goal.lines-requires-in-MultiPoint-clause-whole
lines-requires-in-MultiPoint-clause-whole g c = are-whole c.args.given c.requires.arrays

pub lines-requires-in-MultiPoint-clause-room : goal.lines-requires-in-MultiPoint-clause-room
lines-requires-in-MultiPoint-clause-room g c =
    rest-fits g.B.Builder.maker c.args.given c.args.builder c.requires.arrays c.requires.room part.MultiPoint
    (listed part.MultiPoint (listed part.Member (numbers c.args.given.dimension)) (polygon_at c.args.given 0)) (λ places v h. multi_point-events places c.args.given v h c.in-MultiPoint.is) c.begin-begun-in-MultiPoint.result c.begin-begun-in-MultiPoint.ensures.makes c.begin-begun-in-MultiPoint.ensures.leaves

pub returns-in-MultiPoint : goal.returns-in-MultiPoint
returns-in-MultiPoint g c =
    whole-told g.B.Builder.maker c.args.given c.args.builder c.requires.arrays c.requires.room part.MultiPoint
    (listed part.MultiPoint (listed part.Member (numbers c.args.given.dimension)) (polygon_at c.args.given 0)) (λ places v h. multi_point-events places c.args.given v h c.in-MultiPoint.is) c.begin-begun-in-MultiPoint.result c.begin-begun-in-MultiPoint.ensures.makes c.begin-begun-in-MultiPoint.ensures.leaves c.lines-in-MultiPoint.result c.lines-in-MultiPoint.ensures

pub lines-requires-in-MultiPoint-clause-within : goal.lines-requires-in-MultiPoint-clause-within
lines-requires-in-MultiPoint-clause-within g c = let two = (parts-of-kind c.args.given c.requires.arrays kind.MultiPoint c.in-MultiPoint.is).0 in omega (arith, two)

pub begin-begun-requires-in-MultiLineString : goal.begin-begun-requires-in-MultiLineString
begin-begun-requires-in-MultiLineString g c = record {
  room = header-fits g.B.Builder.maker c.args.given c.args.builder c.requires.arrays c.requires.room part.MultiLineString
      (listed part.MultiLineString (listed part.Line (numbers c.args.given.dimension)) (polygon_at c.args.given 0)) (λ places v h. multi_line_string-events places c.args.given v h c.in-MultiLineString.is);
}

pub lines-requires-in-MultiLineString-clause-whole : goal.lines-requires-in-MultiLineString-clause-whole
lines-requires-in-MultiLineString-clause-whole g c = are-whole c.args.given c.requires.arrays

pub lines-requires-in-MultiLineString-clause-room : goal.lines-requires-in-MultiLineString-clause-room
lines-requires-in-MultiLineString-clause-room g c =
    rest-fits g.B.Builder.maker c.args.given c.args.builder c.requires.arrays c.requires.room part.MultiLineString
    (listed part.MultiLineString (listed part.Line (numbers c.args.given.dimension)) (polygon_at c.args.given 0)) (λ places v h. multi_line_string-events places c.args.given v h c.in-MultiLineString.is) c.begin-begun-in-MultiLineString.result c.begin-begun-in-MultiLineString.ensures.makes c.begin-begun-in-MultiLineString.ensures.leaves

pub returns-in-MultiLineString : goal.returns-in-MultiLineString
returns-in-MultiLineString g c =
    whole-told g.B.Builder.maker c.args.given c.args.builder c.requires.arrays c.requires.room part.MultiLineString
    (listed part.MultiLineString (listed part.Line (numbers c.args.given.dimension)) (polygon_at c.args.given 0)) (λ places v h. multi_line_string-events places c.args.given v h c.in-MultiLineString.is) c.begin-begun-in-MultiLineString.result c.begin-begun-in-MultiLineString.ensures.makes c.begin-begun-in-MultiLineString.ensures.leaves c.lines-in-MultiLineString.result c.lines-in-MultiLineString.ensures

pub lines-requires-in-MultiLineString-clause-within : goal.lines-requires-in-MultiLineString-clause-within
lines-requires-in-MultiLineString-clause-within g c = let two = parts-of-kind c.args.given c.requires.arrays kind.MultiLineString c.in-MultiLineString.is in omega (arith, two)

pub begin-begun-requires-in-MultiPolygon : goal.begin-begun-requires-in-MultiPolygon
begin-begun-requires-in-MultiPolygon g c = record {
  room = header-fits g.B.Builder.maker c.args.given c.args.builder c.requires.arrays c.requires.room part.MultiPolygon
      (listed part.MultiPolygon (listed part.Area (listed part.AreaRing (numbers c.args.given.dimension))) (polygons_in c.args.given)) (λ places v h. multi_polygon-events places c.args.given v h c.in-MultiPolygon.is);
}

pub areas-requires-clause-whole : goal.areas-requires-clause-whole
areas-requires-clause-whole g c = are-whole c.args.given c.requires.arrays

pub areas-requires-clause-room : goal.areas-requires-clause-room
areas-requires-clause-room g c =
    rest-fits g.B.Builder.maker c.args.given c.args.builder c.requires.arrays c.requires.room part.MultiPolygon
    (listed part.MultiPolygon (listed part.Area (listed part.AreaRing (numbers c.args.given.dimension))) (polygons_in c.args.given)) (λ places v h. multi_polygon-events places c.args.given v h c.in-MultiPolygon.is) c.begin-begun-in-MultiPolygon.result c.begin-begun-in-MultiPolygon.ensures.makes c.begin-begun-in-MultiPolygon.ensures.leaves

pub returns-in-MultiPolygon : goal.returns-in-MultiPolygon
returns-in-MultiPolygon g c =
    whole-told g.B.Builder.maker c.args.given c.args.builder c.requires.arrays c.requires.room part.MultiPolygon
    (listed part.MultiPolygon (listed part.Area (listed part.AreaRing (numbers c.args.given.dimension))) (polygons_in c.args.given)) (λ places v h. multi_polygon-events places c.args.given v h c.in-MultiPolygon.is) c.begin-begun-in-MultiPolygon.result c.begin-begun-in-MultiPolygon.ensures.makes c.begin-begun-in-MultiPolygon.ensures.leaves c.areas.result c.areas.ensures
