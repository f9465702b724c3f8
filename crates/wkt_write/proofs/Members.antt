-- The errors of a collection, and what is known of its numbers, by the list of its members.
use Rattle.std.proofs.Common.{◌≡◌, ℕ, List, [], ◌∷◌, length, Option, Some, None, refl, ap, sym, ◌∙◌, slice_get}
use Rattle.std.specs.List.{AllByRecursion}
use Rattle.std.specs.Option.{option_or}
use Rattle.wkt_write.specs.Pieces.{Known, AllKnown}
use Rattle.wkt_access.specs.declared.error.Error.{Error}
use Rattle.wkt_access.specs.declared.dimensions.Dimension.{Dimension}
use Rattle.wkt_write.proofs.FirstErrors.{none_at}
use Rattle.wkt_access.specs.declared.dimensions.Dimensions.{Dimensions}
use Rattle.wkt_access.specs.Faults.{fault, faults, first_fault, under}
use Rattle.wkt_access.specs.Shapes.{Shape, Shapes, printed}
use Rattle.wkt_access.specs.Parts.{each, gathered, members_of, dimension_of, IsCollectionOf}

-- no member of a gathered list has an error that isn't in the list
pub faults_gathered : {N : Type 0} (gs : List (Shape N)) → faults (gathered gs) ≡ first_fault fault gs
faults_gathered [] = refl
faults_gathered (g ∷ gs) = ap (option_or (fault g)) (faults_gathered gs)

pub faults_each : {N : Type 0} (gs : Shapes N) → faults gs ≡ first_fault fault (each gs)
faults_each Shapes.no_shapes = refl
faults_each (Shapes.more_shapes g gs) = ap (option_or (fault g)) (faults_each gs)

-- what holds of the collections of n members holds of each shape that is one
pub of_collection : {N : Type 0} (P : Shape N → Type 0) (n : ℕ) → ((d : Dimensions) (gs : Shapes N) → n ≡ length (each gs) → P (Shape.collection d gs)) → (s : Shape N) → IsCollectionOf n s → P s
of_collection P n f (Shape.collection d gs) h = f d gs h
of_collection P n f (Shape.point d c) h = absurd h
of_collection P n f (Shape.line_string d cs) h = absurd h
of_collection P n f (Shape.polygon d y) h = absurd h
of_collection P n f (Shape.multi_point d ps) h = absurd h
of_collection P n f (Shape.multi_line_string d ls) h = absurd h
of_collection P n f (Shape.multi_polygon d ys) h = absurd h
of_collection P n f (Shape.rect d a b) h = absurd h
of_collection P n f (Shape.triangle d a b c) h = absurd h
of_collection P n f (Shape.line d a b) h = absurd h

-- the count of a collection's members
pub members_counted : {N : Type 0} (n : ℕ) (s : Shape N) → IsCollectionOf n s → n ≡ length (members_of s)
members_counted {N} n = of_collection (λ (s : Shape N). n ≡ length (members_of s)) n (λ d gs h. h)

-- the error of a collection
pub collection_fault : {N : Type 0} (n : ℕ) (s : Shape N) → IsCollectionOf n s → fault s ≡ under (printed (dimension_of s)) (λ _. first_fault fault (members_of s))
collection_fault {N} n =
    of_collection (λ (s : Shape N). fault s ≡ under (printed (dimension_of s)) (λ _. first_fault fault (members_of s))) n
    (λ d gs h. ap (λ o. under (printed d) (λ _. o)) (faults_each gs))

-- a collection's header is refused
pub collection_refused : {N : Type 0} (n : ℕ) (s : Shape N) (d : Dimensions) (e : Error) → IsCollectionOf n s → d ≡ dimension_of s → ((inside : ℕ → Option Error) → under (printed d) inside ≡ Some e) → fault s ≡ Some e
collection_refused n s d e h q r = collection_fault n s h ∙ rw q at (r (λ _. first_fault fault (members_of s)))

-- it isn't: the error is that of the members
pub collection_checked : {N : Type 0} (n : ℕ) (s : Shape N) (d : Dimensions) (k : ℕ) → IsCollectionOf n s → d ≡ dimension_of s → ((inside : ℕ → Option Error) → under (printed d) inside ≡ inside k) → fault s ≡ first_fault fault (members_of s)
collection_checked n s d k h q r = collection_fault n s h ∙ rw q at (r (λ _. first_fault fault (members_of s)))

pub inside_clean : (o : Option Dimension) (f : Option Error) → under o (λ _. f) ≡ None → f ≡ None
inside_clean None f h = cc
inside_clean (Some d) f h = h

-- a member of a collection that isn't refused isn't either
pub member_clean : {N : Type 0} (s : Shape N) (i : ℕ) (g : Shape N) → fault s ≡ None → slice_get (members_of s) i ≡ Some g → fault g ≡ None
member_clean (Shape.collection d gs) i g h w = none_at fault (each gs) i g (sym (faults_each gs) ∙ inside_clean (printed d) (faults gs) h) w
member_clean (Shape.point d c) i g h w = cc
member_clean (Shape.line_string d cs) i g h w = cc
member_clean (Shape.polygon d y) i g h w = cc
member_clean (Shape.multi_point d ps) i g h w = cc
member_clean (Shape.multi_line_string d ls) i g h w = cc
member_clean (Shape.multi_polygon d ys) i g h w = cc
member_clean (Shape.rect d a b) i g h w = cc
member_clean (Shape.triangle d a b c) i g h w = cc
member_clean (Shape.line d a b) i g h w = cc

-- members that are known one by one
pub known_each : {N : Type 0} (is_value : N → Type 0) (gs : Shapes N) → AllByRecursion (Known is_value) (each gs) → AllKnown is_value gs
known_each is_value Shapes.no_shapes h = tt
known_each is_value (Shapes.more_shapes g gs) h = (h.0, known_each is_value gs h.1)

-- a list whose shapes are known, gathered into members
pub known_gathered : {N : Type 0} (is_value : N → Type 0) (gs : List (Shape N)) → AllByRecursion (Known is_value) gs → AllKnown is_value (gathered gs)
known_gathered is_value [] h = tt
known_gathered is_value (g ∷ gs) h = (h.0, known_gathered is_value gs h.1)

-- a collection whose members are known
pub collection_known : {N : Type 0} (is_value : N → Type 0) (n : ℕ) (s : Shape N) → IsCollectionOf n s → AllByRecursion (Known is_value) (members_of s) → Known is_value s
collection_known {N} is_value n =
    of_collection (λ (s : Shape N). AllByRecursion (Known is_value) (members_of s) → Known is_value s) n (λ d gs h. known_each is_value gs)
