-- A value is read as one tree only, and what earlier forms read.
use Rattle.std.proofs.Common.{◌≡◌, ℕ, List, [], ◌∷◌, ◌++◌, refl, sym, ap, ◌∙◌, subst, Option, Some, None}
use Rattle.std.specs.Prelude.{map, option_map, option_to_list}
use Rattle.std.specs.List.{AllByRecursion}
use Rattle.wkt_access.specs.declared.dimensions.Dimension.{Dimension}
use Rattle.wkt_access.specs.Values.{Value, Values}
use Rattle.wkt_types.specs.declared.coord.Coord.{Coord}
use Rattle.wkt_types.specs.Held.{Held, HeldPoint, numbers_of, dim_by}
use Rattle.wkt_types.specs.Tree.{Tree, Trees, point, line_string, polygon, multi_point, multi_line_string, multi_polygon, collection, no_trees, more_trees}
use Rattle.wkt_types.specs.Values.{value_of, values_of, point_numbers, line_string_numbers, polygon_numbers, HasDim, HasDimIfAny, IsPointIn, IsLineStringIn, IsPolygonIn, IsUniform, AreUniform, IsWktOf}
use Rattle.wkt_read.specs.Answered.{IsFrontTo}
use Rattle.wkt_read.proofs.OneForm.{front_one}
use Rattle.wkt_num.specs.Bytes.{Lexeme}
use Rattle.wkt_read.specs.Grammar.{More, Listed, Member, StandFor, Geometries, Further}
use Rattle.wkt_read.specs.OldForms.{OldMember, StoodFor, OldGeometries, OldFurther, IsCoordinate, IsOldForm, AreOldForms}

-- A value is read as one tree only.

-- lists of parts that differ in what they are read as
lists-one : {A B : Type 0} (P : A → Type 0) (f : A → B) → ((x y : A) → P x → P y → f x ≡ f y → x ≡ y) → (xs ys : List A) → AllByRecursion P xs → AllByRecursion P ys → map f xs ≡ map f ys → xs ≡ ys
lists-one P f one [] [] h k e = refl
lists-one P f one [] (y ∷ ys) h k e = cc
lists-one P f one (x ∷ xs) [] h k e = cc
lists-one P f one (x ∷ xs) (y ∷ ys) h k e =
    let first : f x ≡ f y = cc in
    let later : map f xs ≡ map f ys = cc in
    let same : x ≡ y = one x y h.0 k.0 first in
    let others : xs ≡ ys = lists-one P f one xs ys h.1 k.1 later in cc

held-one : {A B : Type 0} (P : A → Type 0) (f : A → B) → ((x y : A) → P x → P y → f x ≡ f y → x ≡ y) → (l m : Held A) → AllByRecursion P l.parts → AllByRecursion P m.parts → l.dim ≡ m.dim → map f l.parts ≡ map f m.parts → l ≡ m
held-one {A} P f one l m h k d e =
    let parts : l.parts ≡ m.parts = lists-one P f one l.parts m.parts h k e in
    let first : l ≡ record { parts = m.parts; dim = l.dim } = ap (λ (p : List A). record { parts = p; dim = l.dim }) parts in
    let second : record { parts = m.parts; dim = l.dim } ≡ m = ap (λ (n : Dimension). record { parts = m.parts; dim = n }) d in
    first ∙ second

-- parts of the header's dimension
whole-one : {A B : Type 0} (P : Dimension → A → Type 0) (f : A → B) → ((d : Dimension) (x y : A) → P d x → P d y → f x ≡ f y → x ≡ y) → (l m : Held A) → AllByRecursion (P l.dim) l.parts → AllByRecursion (P m.dim) m.parts → l.dim ≡ m.dim → map f l.parts ≡ map f m.parts → l ≡ m
whole-one P f one l m h k d e = held-one (P l.dim) f (one l.dim) l m h (subst (λ n. AllByRecursion (P n) m.parts) (sym d) k) d e

module _ {T : Type 0} where
  coord-cases : (x y x' y' : T) (z m z' m' : Option T) → dim_by z m ≡ dim_by z' m' → x ∷ y ∷ (option_to_list z ++ option_to_list m) ≡ x' ∷ y' ∷ (option_to_list z' ++ option_to_list m') → ◌≡◌ {A = Coord T} (record { x = x; y = y; z = z; m = m }) (record { x = x'; y = y'; z = z'; m = m' })
  coord-cases x y x' y' None None None None d e = cc
  coord-cases x y x' y' None None None (Some n) d e = cc
  coord-cases x y x' y' None None (Some u) None d e = cc
  coord-cases x y x' y' None None (Some u) (Some n) d e = cc
  coord-cases x y x' y' None (Some m) None None d e = cc
  coord-cases x y x' y' None (Some m) None (Some n) d e = cc
  coord-cases x y x' y' None (Some m) (Some u) None d e = cc
  coord-cases x y x' y' None (Some m) (Some u) (Some n) d e = cc
  coord-cases x y x' y' (Some z) None None None d e = cc
  coord-cases x y x' y' (Some z) None None (Some n) d e = cc
  coord-cases x y x' y' (Some z) None (Some u) None d e = cc
  coord-cases x y x' y' (Some z) None (Some u) (Some n) d e = cc
  coord-cases x y x' y' (Some z) (Some m) None None d e = cc
  coord-cases x y x' y' (Some z) (Some m) None (Some n) d e = cc
  coord-cases x y x' y' (Some z) (Some m) (Some u) None d e = cc
  coord-cases x y x' y' (Some z) (Some m) (Some u) (Some n) d e = cc

  coord-one : (d : Dimension) (a b : Coord T) → HasDim d a → HasDim d b → numbers_of a ≡ numbers_of b → a ≡ b
  coord-one d a b h k e = coord-cases a.x a.y b.x b.y a.z a.m b.z b.m (h ∙ sym k) e

  maybe-one : (d : Dimension) (a b : Option (Coord T)) → HasDimIfAny d a → HasDimIfAny d b → option_map numbers_of a ≡ option_map numbers_of b → a ≡ b
  maybe-one d None None h k e = refl
  maybe-one d None (Some b) h k e = cc
  maybe-one d (Some a) None h k e = cc
  maybe-one d (Some a) (Some b) h k e = let same : numbers_of a ≡ numbers_of b = cc in ap (λ c. Some c) (coord-one d a b h k same)

  held-point-one : (d : Dimension) (p q : HeldPoint (Coord T)) → HasDimIfAny d p.coord → HasDimIfAny d q.coord → p.dim ≡ q.dim → point_numbers p ≡ point_numbers q → p ≡ q
  held-point-one d p q h k s e =
      let coord : p.coord ≡ q.coord = maybe-one d p.coord q.coord h k e in
      let first : p ≡ record { coord = q.coord; dim = p.dim } = ap (λ (c : Option (Coord T)). record { coord = c; dim = p.dim }) coord in
      let second : record { coord = q.coord; dim = p.dim } ≡ q = ap (λ (n : Dimension). record { coord = q.coord; dim = n }) s in
      first ∙ second

  point-one : (d : Dimension) (p q : HeldPoint (Coord T)) → IsPointIn d p → IsPointIn d q → point_numbers p ≡ point_numbers q → p ≡ q
  point-one d p q h k e = held-point-one d p q h.1 k.1 (h.0 ∙ sym k.0) e

  line-one : (d : Dimension) (l m : Held (Coord T)) → IsLineStringIn d l → IsLineStringIn d m → line_string_numbers l ≡ line_string_numbers m → l ≡ m
  line-one d l m h k e = held-one (HasDim d) numbers_of (coord-one d) l m h.1 k.1 (h.0 ∙ sym k.0) e

  polygon-one : (d : Dimension) (l m : Held (Held (Coord T))) → IsPolygonIn d l → IsPolygonIn d m → polygon_numbers l ≡ polygon_numbers m → l ≡ m
  polygon-one d l m h k e = held-one (IsLineStringIn d) line_string_numbers (line-one d) l m h.1 k.1 (h.0 ∙ sym k.0) e

  mutual
    pub tree-one : (s t : Tree T) → IsUniform s → IsUniform t → value_of s ≡ value_of t → s ≡ t
    tree-one (point p) (point q) h k e =
        let d : p.dim ≡ q.dim = cc in
        let numbers : point_numbers p ≡ point_numbers q = cc in
        ap point (held-point-one p.dim p q h.1 (subst (λ n. HasDimIfAny n q.coord) (sym d) k.1) d numbers)
    tree-one (line_string l) (line_string m) h k e =
        let d : l.dim ≡ m.dim = cc in
        let numbers : line_string_numbers l ≡ line_string_numbers m = cc in
        ap line_string (whole-one HasDim numbers_of coord-one l m h.1 k.1 d numbers)
    tree-one (polygon l) (polygon m) h k e =
        let d : l.dim ≡ m.dim = cc in
        let numbers : polygon_numbers l ≡ polygon_numbers m = cc in
        ap polygon (whole-one IsLineStringIn line_string_numbers line-one l m h.1 k.1 d numbers)
    tree-one (multi_point l) (multi_point m) h k e =
        let d : l.dim ≡ m.dim = cc in
        let numbers : map point_numbers l.parts ≡ map point_numbers m.parts = cc in
        ap multi_point (whole-one IsPointIn point_numbers point-one l m h k d numbers)
    tree-one (multi_line_string l) (multi_line_string m) h k e =
        let d : l.dim ≡ m.dim = cc in
        let numbers : map line_string_numbers l.parts ≡ map line_string_numbers m.parts = cc in
        ap multi_line_string (whole-one IsLineStringIn line_string_numbers line-one l m h k d numbers)
    tree-one (multi_polygon l) (multi_polygon m) h k e =
        let d : l.dim ≡ m.dim = cc in
        let numbers : map polygon_numbers l.parts ≡ map polygon_numbers m.parts = cc in
        ap multi_polygon (whole-one IsPolygonIn polygon_numbers polygon-one l m h k d numbers)
    tree-one (collection ss d) (collection ts n) h k e =
        let dims : d ≡ n = cc in
        let values : values_of ss ≡ values_of ts = cc in
        let same : ss ≡ ts = trees-one ss ts h k values in cc
    tree-one s t h k e = cc

    trees-one : (s t : Trees T) → AreUniform s → AreUniform t → values_of s ≡ values_of t → s ≡ t
    trees-one no_trees no_trees h k e = refl
    trees-one no_trees (more_trees t ts) h k e = cc
    trees-one (more_trees s ss) no_trees h k e = cc
    trees-one (more_trees s ss) (more_trees t ts) h k e =
        let first : value_of s ≡ value_of t = cc in
        let later : values_of ss ≡ values_of ts = cc in
        let same : s ≡ t = tree-one s t h.0 k.0 first in
        let others : ss ≡ ts = trees-one ss ts h.1 k.1 later in cc

  pub wkt-one : (v : Value T) (s t : Tree T) → IsWktOf v s → IsWktOf v t → s ≡ t
  wkt-one v s t h k = tree-one s t h.uniform k.uniform (h.value ∙ sym k.value)

  -- two readings of one text
  pub reading-one : (read : List ℕ → Option T) (text : List ℕ) (s t : Tree T) (end end' : ℕ) → IsFrontTo read text s end → IsFrontTo read text t end' → (s ≡ t) × (end ≡ end')
  reading-one read text s t end end' (v, f, h) (w, g, k) =
      let (same, ends) = front_one read text v w end end' f g in
      (wkt-one w s t (subst (λ u. IsWktOf u s) same h) k, ends)

-- What earlier forms read, and what is read now of the values without an empty member of a multipoint.

-- items of one form are items of another, of which something holds
module _ {A : Type 0} (P Q : List Lexeme → A → Type 0) (H : A → Type 0) where
  more_new : ((ls : List Lexeme) (x : A) → P ls x → Q ls x × H x) → (xs : List A) (ls : List Lexeme) → More P ls xs → More Q ls xs × AllByRecursion H xs
  more_new f [] ls e = (e, tt)
  more_new f (x ∷ xs) ls (a, b, e, p, m) =
      let one = f a x p in
      let rest = more_new f xs b m in
      ((a, b, e, one.0, rest.0), (one.1, rest.1))

  listed_new : ((ls : List Lexeme) (x : A) → P ls x → Q ls x × H x) → (xs : List A) (ls : List Lexeme) → Listed P ls xs → Listed Q ls xs × AllByRecursion H xs
  listed_new f [] ls e = (e, tt)
  listed_new f (x ∷ xs) ls (body, e, (a, b, e', p, m)) =
      let one = f a x p in
      let rest = more_new f xs b m in
      ((body, e, (a, b, e', one.0, rest.0)), (one.1, rest.1))

  more_old : ((ls : List Lexeme) (x : A) → Q ls x → H x → P ls x) → (xs : List A) (ls : List Lexeme) → More Q ls xs → AllByRecursion H xs → More P ls xs
  more_old f [] ls e h = e
  more_old f (x ∷ xs) ls (a, b, e, p, m) h = (a, b, e, f a x p h.0, more_old f xs b m h.1)

  listed_old : ((ls : List Lexeme) (x : A) → Q ls x → H x → P ls x) → (xs : List A) (ls : List Lexeme) → Listed Q ls xs → AllByRecursion H xs → Listed P ls xs
  listed_old f [] ls e h = e
  listed_old f (x ∷ xs) ls (body, e, (a, b, e', p, m)) h = (body, e, (a, b, e', f a x p h.0, more_old f xs b m h.1))

module _ {N : Type 0} (read : List ℕ → Option N) where
  member_new : (d : Dimension) (ls : List Lexeme) (m : Option (List N)) → OldMember read d ls m → Member read d ls m × IsCoordinate m
  member_new d ls None p = absurd p
  member_new d ls (Some c) p = (p, tt)

  member_old : (d : Dimension) (ls : List Lexeme) (m : Option (List N)) → Member read d ls m → IsCoordinate m → OldMember read d ls m
  member_old d ls None p h = absurd h
  member_old d ls (Some c) p h = p

  mutual
    pub value_new : (v : Value N) (ls : List Lexeme) → StoodFor read ls v → StandFor read ls v × IsOldForm v
    value_new (Value.point d c) ls p = (p, tt)
    value_new (Value.line_string d c) ls p = (p, tt)
    value_new (Value.polygon d c) ls p = (p, tt)
    value_new (Value.multi_point d ms) ls (h, b, e, hh, p) =
        let q = listed_new (OldMember read d) (Member read d) IsCoordinate (member_new d) ms b p in
        ((h, b, e, hh, q.0), q.1)
    value_new (Value.multi_line_string d c) ls p = (p, tt)
    value_new (Value.multi_polygon d c) ls p = (p, tt)
    value_new (Value.collection d vs) ls (h, b, e, hh, p) = let q = values_new vs b p in ((h, b, e, hh, q.0), q.1)

    values_new : (vs : Values N) (ls : List Lexeme) → OldGeometries read ls vs → Geometries read ls vs × AreOldForms vs
    values_new Values.no_values ls e = (e, tt)
    values_new (Values.more_values v vs) ls (a, b, e, p, m) = let one = value_new v a p in let rest = further_new vs b m in ((a, b, e, one.0, rest.0), (one.1, rest.1))

    further_new : (vs : Values N) (ls : List Lexeme) → OldFurther read ls vs → Further read ls vs × AreOldForms vs
    further_new Values.no_values ls e = (e, tt)
    further_new (Values.more_values v vs) ls (a, b, e, p, m) = let one = value_new v a p in let rest = further_new vs b m in ((a, b, e, one.0, rest.0), (one.1, rest.1))

  mutual
    pub value_old : (v : Value N) (ls : List Lexeme) → StandFor read ls v → IsOldForm v → StoodFor read ls v
    value_old (Value.point d c) ls p o = p
    value_old (Value.line_string d c) ls p o = p
    value_old (Value.polygon d c) ls p o = p
    value_old (Value.multi_point d ms) ls (h, b, e, hh, p) o =
        (h, b, e, hh, listed_old (OldMember read d) (Member read d) IsCoordinate (member_old d) ms b p o)
    value_old (Value.multi_line_string d c) ls p o = p
    value_old (Value.multi_polygon d c) ls p o = p
    value_old (Value.collection d vs) ls (h, b, e, hh, p) o = (h, b, e, hh, values_old vs b p o)

    values_old : (vs : Values N) (ls : List Lexeme) → Geometries read ls vs → AreOldForms vs → OldGeometries read ls vs
    values_old Values.no_values ls e o = e
    values_old (Values.more_values v vs) ls (a, b, e, p, m) o = (a, b, e, value_old v a p o.0, further_old vs b m o.1)

    further_old : (vs : Values N) (ls : List Lexeme) → Further read ls vs → AreOldForms vs → OldFurther read ls vs
    further_old Values.no_values ls e o = e
    further_old (Values.more_values v vs) ls (a, b, e, p, m) o = (a, b, e, value_old v a p o.0, further_old vs b m o.1)

pub ruleset wkt_one = wkt-one
