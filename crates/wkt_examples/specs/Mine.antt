-- What the types of `my_map` stand for.
use Rattle.std.specs.Prelude.{ℤ, List, Option, map, option_map}
use Rattle.wkt.specs.Shapes.{Shape, PolygonShape}
use Rattle.wkt.specs.Parts.{collection_of}
use Rattle.wkt_examples.specs.declared.my_map.Track.{Track}
use Rattle.wkt_examples.specs.declared.my_map.Area.{Area}
use Rattle.wkt_examples.specs.declared.my_map.Figure.{Figure}
use Rattle.wkt_examples.specs.declared.my_map.Figure.TheOpen.{Figure-F, Point, Line, Polygon, Points, Lines, Polygons, Rect, Triangle, Segment, Group}
use Rattle.wkt_examples.specs.declared.my_map.Figure.TheFolds.{fold-Figure}
use Rattle.wkt_examples.specs.declared.my_map.Dot.{Dot}

-- The numbers of a point's coordinate, if it has one.
abbrev pub point_of : Dot → Option (List ℤ)
point_of p = option_map (λ s. s.numbers.items) p.spot

-- The numbers of each coordinate of a line string.
abbrev pub line_of : Track → List (List ℤ)
line_of l = map (λ s. s.numbers.items) l.spots.items

-- The rings of a polygon.
abbrev pub polygon_of : Area → PolygonShape ℤ
polygon_of p = record { exterior = option_map line_of p.exterior; interiors = map line_of p.interiors.items }

-- The shape of a figure whose members were seen as their shapes.
abbrev pub figure_step : Figure-F (Shape ℤ) → Shape ℤ
figure_step (Point p) = Shape.point p.header (point_of p)
figure_step (Line l) = Shape.line_string l.header (line_of l)
figure_step (Polygon p) = Shape.polygon p.header (polygon_of p)
figure_step (Points m) = Shape.multi_point m.header (map point_of m.members.items)
figure_step (Lines m) = Shape.multi_line_string m.header (map line_of m.members.items)
figure_step (Polygons m) = Shape.multi_polygon m.header (map polygon_of m.members.items)
figure_step (Rect r) = Shape.rect r.header r.one.numbers.items r.two.numbers.items
figure_step (Triangle t) = Shape.triangle t.header t.one.numbers.items t.two.numbers.items t.three.numbers.items
figure_step (Segment b) = Shape.line b.header b.from.numbers.items b.to.numbers.items
figure_step (Group header members) = collection_of header members.items

-- The shape of a figure.
abbrev pub figure_shape : Figure → Shape ℤ
figure_shape = fold-Figure (Shape ℤ) figure_step
