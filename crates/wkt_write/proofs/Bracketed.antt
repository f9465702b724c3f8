-- Lists in parentheses, headers before them, and the text of each kind of shape in the pieces that are put out.
use Rattle.std.proofs.Common.{◌≡◌, ◌≢◌, ℕ, List, [], ◌∷◌, ◌++◌, length, map, Some, None, refl, ap, sym, ◌∙◌, append_assoc, slice_get, Bool, true, false, Option, eqb}
use Rattle.std.specs.Prelude.{codes, Result, option_to_list, option_map, unwrap_or}
use Rattle.std.proofs.lemmas.List.{append-nil}
use Rattle.wkt_num.specs.Sink.{Sink, Adds, Breaks, Puts}
use Rattle.wkt_access.specs.Shapes.{PolygonShape, rings_of, rings_under, rect_ring, Shape, Shapes, printed, dimension, cut, canon, canons}
use Rattle.wkt_access.specs.Texts.{separated, listed, coordinate_text, shape_text, headed, suffix, space_if_empty, coordinates_text, polygon_text, text, texts}
use Rattle.wkt_write.specs.Pieces.{each_after, has_none, opening, closing, cut_coordinates, cut_point, cut_polygon, cut_coordinate, two_coordinates_text, triangle_text, rect_corner_text, rect_ring_text, gap}
use Rattle.wkt_num.proofs.SinkCalls.{breaks_first, breaks_then, puts_then}
use Rattle.wkt_write.proofs.FirstErrors.{none_mapped, none_counted}
use Rattle.wkt_access.specs.declared.dimensions.Dimension.{Dimension}
use Rattle.wkt_access.specs.declared.dimensions.Dimension.TheVariants.{XY}
use Rattle.wkt_access.specs.declared.dimensions.Dimensions.{Dimensions}
use Rattle.wkt_access.specs.declared.error.Error.{Error}
use Rattle.wkt_access.specs.Faults.{under}
use Rattle.wkt_access.specs.Parts.{each, gathered, collection_of, members_of, dimension_of, IsCollectionOf}
use Rattle.wkt_access.specs.Values.{size}
use Rattle.wkt_access.proofs.Collections.{each_gathered}
use Rattle.wkt_write.proofs.Members.{of_collection, members_counted}

-- Lists in parentheses.

listed_is : (ts : List (List ℕ)) → listed ts ≡ opening (has_none ts) ++ (separated (codes ",") ts ++ closing (has_none ts))
unfolding separated listed
listed_is [] = refl
listed_is (t ∷ ts) = refl

module _ {A : Type 0} (f : A → List ℕ) (xs : List A) (b : Bool) (h : b ≡ has_none xs) where
  images : has_none (map f xs) ≡ b
  images = none_mapped f xs ∙ sym h

  pub bracket_broken_opening : {S : Type 0} {sink : Sink S} {s t : S} → Breaks sink s (opening b) t → Breaks sink s (listed (map f xs)) t
  bracket_broken_opening p = rw (listed_is (map f xs), images) (breaks_first _ p)

  module _ {S : Type 0} {sink : Sink S} where
    pub bracket_broken_items : {s t u : S} → Adds sink s (opening b) t → Breaks sink t (separated (codes ",") (map f xs)) u → Breaks sink s (listed (map f xs)) u
    bracket_broken_items p q = rw (listed_is (map f xs), images) (breaks_then p (breaks_first _ q))

    pub bracket_adds : {T E : Type 0} (r : Result T E) {s t u : S} (v : S) → Adds sink s (opening b) t → Adds sink t (separated (codes ",") (map f xs)) u → Puts sink u (closing b) v r → Puts sink s (listed (map f xs)) v r
    bracket_adds r v p q w = rw (listed_is (map f xs), images) (puts_then r v _ p (puts_then r v (closing b) q w))

pub rings_none : {N : Type 0} (p : PolygonShape N) → p.exterior ≡ None → rings_of p ≡ []
rings_none p h = rw h

no_rings : {N : Type 0} (e : List (List N)) (is : List (List (List N))) → length e ≡ 0 → rings_under (Some e) is ≡ []
no_rings [] is h = refl
no_rings (c ∷ cs) is h = cc

all_rings : {N : Type 0} (e : List (List N)) (is : List (List (List N))) → length e ≢ 0 → rings_under (Some e) is ≡ e ∷ is
all_rings [] is h = absurd (h refl)
all_rings (c ∷ cs) is h = refl

pub rings_some : {N : Type 0} (p : PolygonShape N) (e : List (List N)) → p.exterior ≡ Some e → length e ≢ 0 → rings_of p ≡ e ∷ p.interiors
rings_some p e h g = ap (λ o. rings_under o p.interiors) h ∙ all_rings e p.interiors g

pub rings_empty : {N : Type 0} (p : PolygonShape N) (e : List (List N)) (m : ℕ) → p.exterior ≡ Some e → m ≡ length e → m ≡ 0 → rings_of p ≡ []
rings_empty p e m h w z = let g : length e ≡ 0 = sym w ∙ z in ap (λ o. rings_under o p.interiors) h ∙ no_rings e p.interiors g

-- the pieces of a polygon with rings
pub rings_pieces : {N : Type 0} (num : N → List ℕ) (k : ℕ) (p : PolygonShape N) (e : List (List N)) (m : ℕ) → p.exterior ≡ Some e → m ≡ length e → m ≢ 0 → cut_polygon num k p ≡ opening false ++ (cut_coordinates num k e ++ (each_after (codes ",") (map (cut_coordinates num k) p.interiors) ++ closing false))
unfolding separated listed
rings_pieces num k p e m h w z =
    let g : length e ≢ 0 = rw w at z in
    ap (λ rings. listed (map (cut_coordinates num k) rings)) (rings_some p e h g)
    ∙ ap (λ l. opening false ++ l) (append_assoc (cut_coordinates num k e) (each_after (codes ",") (map (cut_coordinates num k) p.interiors)) (closing false))

pub rings_no_piece : {N : Type 0} (num : N → List ℕ) (k : ℕ) (p : PolygonShape N) → rings_of p ≡ [] → cut_polygon num k p ≡ opening true
unfolding separated
rings_no_piece num k p h = ap (λ rings. listed (map (cut_coordinates num k) rings)) h ∙ listed_is []

-- the pieces of a member of a multipoint
pub point_pieces : {N : Type 0} (num : N → List ℕ) (k : ℕ) (c : List N) → cut_point num k (Some c) ≡ opening false ++ (cut_coordinate num k c ++ closing false)
unfolding separated
point_pieces num k c = listed_is (cut_coordinate num k c ∷ []) ∙ ap (λ l. opening false ++ (l ++ closing false)) (append-nil (cut_coordinate num k c))

pub point_no_piece : {N : Type 0} (num : N → List ℕ) (k : ℕ) → cut_point {N = N} num k None ≡ opening true
unfolding separated
point_no_piece num k = listed_is []

-- the pieces of a rectangle's corner
pub rect_corner_pieces : {N : Type 0} (num : N → List ℕ) (a b : List N) (x y : N) → slice_get a 0 ≡ Some x → slice_get b 1 ≡ Some y → rect_corner_text num a b ≡ num x ++ (codes " " ++ num y)
unfolding separated
rect_corner_pieces num [] b x y h g = cc
rect_corner_pieces num (p ∷ ps) [] x y h g = cc
rect_corner_pieces num (p ∷ ps) (q ∷ []) x y h g = cc
rect_corner_pieces num (p ∷ ps) (q ∷ r ∷ rs) x y h g =
    let e : p ≡ x = cc in
    let w : r ≡ y = cc in
    ap (λ l. num p ++ l) (append-nil (codes " " ++ num r)) ∙ ap (λ z. num z ++ (codes " " ++ num r)) e ∙ ap (λ z. num x ++ (codes " " ++ num z)) w

-- the items of shapes whose count of coordinates is known
pub two_coordinates_listed : {N : Type 0} (num : N → List ℕ) (k : ℕ) (a b : List N) → listed (map (cut_coordinate num k) (a ∷ b ∷ [])) ≡ codes "(" ++ (two_coordinates_text num k a b ++ codes ")")
unfolding separated listed
two_coordinates_listed num k a b = ap (λ l. codes "(" ++ ((cut_coordinate num k a ++ l) ++ codes ")")) (append-nil (codes "," ++ cut_coordinate num k b))

joined_more : (s t u : List ℕ) (ts : List (List ℕ)) → separated s (t ∷ u ∷ ts) ≡ t ++ (s ++ separated s (u ∷ ts))
unfolding separated
joined_more s t u ts = ap (λ l. t ++ l) (append_assoc s u _)

joined_one : (s t : List ℕ) → separated s (t ∷ []) ≡ t
unfolding separated
joined_one s t = append-nil t

joined_two : (s t u : List ℕ) → separated s (t ∷ u ∷ []) ≡ t ++ (s ++ u)
joined_two s t u = joined_more s t u [] ∙ ap (λ l. t ++ (s ++ l)) (joined_one s u)

joined_next : (s t u l : List ℕ) (ts : List (List ℕ)) → separated s (u ∷ ts) ≡ l → separated s (t ∷ u ∷ ts) ≡ t ++ (s ++ l)
joined_next s t u l ts h = joined_more s t u ts ∙ ap (λ z. t ++ (s ++ z)) h

triangle_ring_listed : {N : Type 0} (num : N → List ℕ) (k : ℕ) (a b c : List N) → listed (map (cut_coordinate num k) (a ∷ b ∷ c ∷ a ∷ [])) ≡ codes "(" ++ ((two_coordinates_text num k a b ++ (codes "," ++ two_coordinates_text num k c a)) ++ codes ")")
unfolding listed
triangle_ring_listed num k a b c =
    let x = cut_coordinate num k a in
    let y = cut_coordinate num k b in
    let z = cut_coordinate num k c in
    ap (λ l. codes "(" ++ (l ++ codes ")"))
    (joined_next (codes ",") x y _ _ (joined_next (codes ",") y z _ _ (joined_two (codes ",") z x)) ∙ sym (append_assoc x (codes "," ++ y) _))

pub rect_ring_listed : {N : Type 0} (num : N → List ℕ) (a b : List N) → listed (map (coordinate_text num) (rect_ring a b)) ≡ codes "(" ++ (rect_ring_text num a b ++ codes ")")
unfolding listed
rect_ring_listed num a b =
    let s = codes "," in
    ap (λ l. codes "(" ++ (l ++ codes ")"))
    (joined_next s _ _ _ _ (joined_next s _ _ _ _ (joined_next s _ _ _ _ (joined_two s _ _))))

-- a list of one list
pub one_listed : (t : List ℕ) → listed (t ∷ []) ≡ codes "(" ++ (t ++ codes ")")
unfolding separated listed
one_listed t = ap (λ l. codes "(" ++ (l ++ codes ")")) (append-nil t)

pub triangle_listed : {N : Type 0} (num : N → List ℕ) (k : ℕ) (a b c : List N) → listed (map (cut_coordinates num k) ((a ∷ b ∷ c ∷ a ∷ []) ∷ [])) ≡ triangle_text num k a b c
triangle_listed num k a b c =
    let ab = two_coordinates_text num k a b in
    let ca = two_coordinates_text num k c a in
    one_listed (cut_coordinates num k (a ∷ b ∷ c ∷ a ∷ []))
    ∙ ap (λ l. codes "(" ++ (l ++ codes ")")) (triangle_ring_listed num k a b c)
    ∙ ap (λ l. codes "((" ++ l) (append_assoc (ab ++ (codes "," ++ ca)) (codes ")") (codes ")") ∙ (append_assoc ab (codes "," ++ ca) (codes "))") ∙ ap (λ l. ab ++ l) (append_assoc (codes ",") ca (codes "))"))))

-- A header and a list of items; and the text of each kind of shape in the pieces that are written.

gap_is : (ts : List (List ℕ)) → space_if_empty ts ≡ gap (has_none ts)
gap_is [] = refl
gap_is (t ∷ ts) = refl

module _ {A : Type 0} (f : A → List ℕ) (xs : List A) (word : List ℕ) (d : Dimension) (b : Bool) (h : b ≡ has_none xs) where
  pub headed_is : headed word d (map f xs) ≡ (word ++ (suffix d ++ gap b)) ++ listed (map f xs)
  unfolding headed
  headed_is =
      ap (λ l. word ++ (suffix d ++ (l ++ listed (map f xs)))) (gap_is (map f xs) ∙ ap gap (none_mapped f xs ∙ sym h))
      ∙ ap (λ l. word ++ l) (sym (append_assoc (suffix d) (gap b) (listed (map f xs))))
      ∙ sym (append_assoc word (suffix d ++ gap b) (listed (map f xs)))

  pub headed_broken : {S : Type 0} {sink : Sink S} {s t : S} → Breaks sink s (word ++ (suffix d ++ gap b)) t → Breaks sink s (headed word d (map f xs)) t
  headed_broken p = rw headed_is (breaks_first _ p)

  module _ {S : Type 0} {sink : Sink S} where
    pub headed_adds : {T E : Type 0} (r : Result T E) {s t : S} (u : S) → Adds sink s (word ++ (suffix d ++ gap b)) t → Puts sink t (listed (map f xs)) u r → Puts sink s (headed word d (map f xs)) u r
    headed_adds r u p q = rw headed_is (puts_then r u _ p q)

    pub headed_broken_items : {s t u : S} → Adds sink s (word ++ (suffix d ++ gap b)) t → Breaks sink t (listed (map f xs)) u → Breaks sink s (headed word d (map f xs)) u
    headed_broken_items p q = rw headed_is (breaks_then p q)

-- an image of images
fused : {A B C : Type 0} (f : B → C) (g : A → B) (h : A → C) → ((x : A) → f (g x) ≡ h x) → (xs : List A) → map f (map g xs) ≡ map h xs
fused f g h e [] = refl
fused f g h e (x ∷ xs) = rw (e x) (ap (λ l. h x ∷ l) (fused f g h e xs))

module _ {N : Type 0} (num : N → List ℕ) (d : Dimensions) where
  coordinates_cut : (cs : List (List N)) → map (coordinate_text num) (map (cut d) cs) ≡ map (cut_coordinate num (size (dimension d))) cs
  coordinates_cut cs = fused (coordinate_text num) (cut d) (cut_coordinate num (size (dimension d))) (λ c. refl) cs

  coordinates_text_cut : (cs : List (List N)) → coordinates_text num (map (cut d) cs) ≡ cut_coordinates num (size (dimension d)) cs
  coordinates_text_cut cs = ap listed (coordinates_cut cs)

  line_strings_cut : (ls : List (List (List N))) → map (coordinates_text num) (map (map (cut d)) ls) ≡ map (cut_coordinates num (size (dimension d))) ls
  line_strings_cut ls = fused (coordinates_text num) (map (cut d)) (cut_coordinates num (size (dimension d))) coordinates_text_cut ls

  point_cut : (c : Option (List N)) → coordinates_text num (option_to_list (option_map (cut d) c)) ≡ cut_point num (size (dimension d)) c
  point_cut None = refl
  point_cut (Some c) = refl

  pub point_text : (c : Option (List N)) → text num (canon (Shape.point d c)) ≡ headed (codes "POINT") (dimension d) (map (cut_coordinate num (size (dimension d))) (option_to_list c))
  point_text None = refl
  point_text (Some c) = refl

  pub line_string_text : (cs : List (List N)) → text num (canon (Shape.line_string d cs)) ≡ headed (codes "LINESTRING") (dimension d) (map (cut_coordinate num (size (dimension d))) cs)
  line_string_text cs = ap (headed (codes "LINESTRING") (dimension d)) (coordinates_cut cs)

  pub rings_text : (p : PolygonShape N) → text num (canon (Shape.polygon d p)) ≡ headed (codes "POLYGON") (dimension d) (map (cut_coordinates num (size (dimension d))) (rings_of p))
  rings_text p = ap (headed (codes "POLYGON") (dimension d)) (line_strings_cut (rings_of p))

  pub multi_point_text : (ps : List (Option (List N))) → text num (canon (Shape.multi_point d ps)) ≡ headed (codes "MULTIPOINT") (dimension d) (map (cut_point num (size (dimension d))) ps)
  multi_point_text ps = ap (headed (codes "MULTIPOINT") (dimension d)) (fused (λ c. coordinates_text num (option_to_list c)) (option_map (cut d)) (cut_point num (size (dimension d))) point_cut ps)

  pub multi_line_string_text : (ls : List (List (List N))) → text num (canon (Shape.multi_line_string d ls)) ≡ headed (codes "MULTILINESTRING") (dimension d) (map (cut_coordinates num (size (dimension d))) ls)
  multi_line_string_text ls = ap (headed (codes "MULTILINESTRING") (dimension d)) (line_strings_cut ls)

  pub multi_polygon_text : (ps : List (PolygonShape N)) → text num (canon (Shape.multi_polygon d ps)) ≡ headed (codes "MULTIPOLYGON") (dimension d) (map (cut_polygon num (size (dimension d))) ps)
  multi_polygon_text ps = ap (headed (codes "MULTIPOLYGON") (dimension d)) (fused (polygon_text num) (λ p. map (map (cut d)) (rings_of p)) (cut_polygon num (size (dimension d))) (λ p. ap listed (line_strings_cut (rings_of p))) ps)

pub texts_each : {N : Type 0} (num : N → List ℕ) (gs : Shapes N) → texts num (canons gs) ≡ map (shape_text num) (each gs)
texts_each num Shapes.no_shapes = refl
texts_each num (Shapes.more_shapes g gs) = ap (λ l. shape_text num g ∷ l) (texts_each num gs)

pub shapes_text : {N : Type 0} (num : N → List ℕ) (d : Dimensions) (gs : Shapes N) → shape_text num (Shape.collection d gs) ≡ headed (codes "GEOMETRYCOLLECTION") (dimension d) (map (shape_text num) (each gs))
shapes_text num d gs = ap (headed (codes "GEOMETRYCOLLECTION") (dimension d)) (texts_each num gs)

pub collection_of_text : {N : Type 0} (num : N → List ℕ) (d : Dimensions) (gs : List (Shape N)) → shape_text num (collection_of d gs) ≡ headed (codes "GEOMETRYCOLLECTION") (dimension d) (map (shape_text num) gs)
collection_of_text num d gs = shapes_text num d (gathered gs) ∙ ap (λ l. headed (codes "GEOMETRYCOLLECTION") (dimension d) (map (shape_text num) l)) (each_gathered gs)

by_header : (o : Option Dimension) (inside : ℕ → Option Error) → under o inside ≡ None → inside (size (unwrap_or o XY)) ≡ None
by_header None inside h = cc
by_header (Some k) inside h = h

pub collection_text : {N : Type 0} (num : N → List ℕ) (n : ℕ) (s : Shape N) → IsCollectionOf n s → shape_text num s ≡ headed (codes "GEOMETRYCOLLECTION") (dimension (dimension_of s)) (map (shape_text num) (members_of s))
collection_text {N} num n =
    of_collection (λ (s : Shape N). shape_text num s ≡ headed (codes "GEOMETRYCOLLECTION") (dimension (dimension_of s)) (map (shape_text num) (members_of s))) n
    (λ d gs h. shapes_text num d gs)

-- under a header that is printed nothing is refused
pub under_clean : (d : Dimensions) (inside : ℕ → Option Error) → under (printed d) inside ≡ None → inside (size (dimension d)) ≡ None
under_clean d inside h = by_header (printed d) inside h

-- the pieces of a rectangle
pub rect_text : {N : Type 0} (num : N → List ℕ) (d : Dimensions) (a b x y : List N) → x ≡ a → y ≡ b → shape_text num (Shape.rect d a b) ≡ codes "POLYGON((" ++ (rect_ring_text num x y ++ codes "))")
unfolding headed
rect_text num d a b x y h g =
    ap (λ l. codes "POLYGON" ++ l) (one_listed (coordinates_text num (rect_ring a b)) ∙ ap (λ l. codes "(" ++ (l ++ codes ")")) (rect_ring_listed num a b) ∙ ap (λ l. codes "((" ++ l) (append_assoc (rect_ring_text num a b) (codes ")") (codes ")")))
    ∙ ap (λ z. codes "POLYGON((" ++ (rect_ring_text num z b ++ codes "))")) (sym h)
    ∙ ap (λ z. codes "POLYGON((" ++ (rect_ring_text num x z ++ codes "))")) (sym g)

-- A collection's text by the pieces that are put out: its header, what begins its list, its members, and what ends the list.

-- the header of a collection of n members
abbrev pub header : Dimensions → ℕ → List ℕ
header d n = codes "GEOMETRYCOLLECTION" ++ (suffix (dimension d) ++ gap (eqb n 0))

module _ {N : Type 0} (num : N → List ℕ) (n : ℕ) (g : Shape N) (d : Dimensions) (h : IsCollectionOf n g) (q : d ≡ dimension_of g) where
  is_headed : shape_text num g ≡ headed (codes "GEOMETRYCOLLECTION") (dimension d) (map (shape_text num) (members_of g))
  is_headed = rw q (collection_text num n g h)

  is_none : eqb n 0 ≡ has_none (members_of g)
  is_none = none_counted n (members_of g) (members_counted n g h)

  pub broken_header : {S : Type 0} {sink : Sink S} {s t : S} → Breaks sink s (header d n) t → Breaks sink s (shape_text num g) t
  broken_header p = rw is_headed (headed_broken (shape_text num) (members_of g) _ _ _ is_none p)

  pub broken_opening : {S : Type 0} {sink : Sink S} {s t u : S} → Adds sink s (header d n) t → Breaks sink t (opening (eqb n 0)) u → Breaks sink s (shape_text num g) u
  broken_opening p r =
      rw is_headed (headed_broken_items (shape_text num) (members_of g) _ _ _ is_none p (bracket_broken_opening (shape_text num) (members_of g) _ is_none r))

  pub broken_members : {S : Type 0} {sink : Sink S} {s t u v : S} → Adds sink s (header d n) t → Adds sink t (opening (eqb n 0)) u → Breaks sink u (separated (codes ",") (map (shape_text num) (members_of g))) v → Breaks sink s (shape_text num g) v
  broken_members p r w =
      rw is_headed (headed_broken_items (shape_text num) (members_of g) _ _ _ is_none p (bracket_broken_items (shape_text num) (members_of g) _ is_none r w))

  pub whole : {T E S : Type 0} {sink : Sink S} (r : Result T E) {s t u v : S} (w : S) → Adds sink s (header d n) t → Adds sink t (opening (eqb n 0)) u → Adds sink u (separated (codes ",") (map (shape_text num) (members_of g))) v → Puts sink v (closing (eqb n 0)) w r → Puts sink s (shape_text num g) w r
  whole r w a b c k =
      rw is_headed (headed_adds (shape_text num) (members_of g) _ _ _ is_none r w a (bracket_adds (shape_text num) (members_of g) _ is_none r w b c k))
