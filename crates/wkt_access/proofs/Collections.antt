-- Lists up to a place, the members of a collection as a list, and what `GeometryTrait` asks of a representation that holds
-- members of its own type, where it is a collection.
use Rattle.std.proofs.Common.{◌≡◌, ℕ, zero, suc, ◌+◌, List, [], ◌∷◌, ◌++◌, take, map, Some, ap, ◌∙◌, slice_get, add-one, option_map, refl, ◌<◌, length, get_or, sym, arith}
use Rattle.std.proofs.lemmas.Option.{slice_get-map, slice_get-get_or}
use Rattle.std.proofs.lemmas.List.{length-map}
use Rattle.wkt_access.specs.Shapes.{Shape, Shapes}
use Rattle.wkt_access.specs.Parts.{each, gathered, collection_of, members_of, IsCollectionOf}
use Rattle.wkt_access.specs.declared.dimensions.Dimensions.{Dimensions}

-- Lists up to a place.

take_suc_more : {A : Type 0} (xs : List A) (i : ℕ) (x : A) → slice_get xs i ≡ Some x → take (suc i) xs ≡ take i xs ++ x ∷ []
take_suc_more [] i x h = cc
take_suc_more (y ∷ ys) zero x h = let e : y ≡ x = cc in ap (λ z. z ∷ []) e
take_suc_more (y ∷ ys) (suc i) x h = ap (λ zs. y ∷ zs) (take_suc_more ys i x h)

-- the elements up to and with the i-th
pub take_one_more : {A : Type 0} (xs : List A) (i : ℕ) (x : A) → slice_get xs i ≡ Some x → take (i + 1) xs ≡ take i xs ++ x ∷ []
take_one_more xs i x h = rw add-one (take_suc_more xs i x h)

-- the i-th of the images
pub get_image : {A B : Type 0} (f : A → B) (xs : List A) (i : ℕ) (x : A) → slice_get xs i ≡ Some x → slice_get (map f xs) i ≡ Some (f x)
get_image f xs i x h = slice_get-map f xs i ∙ ap (option_map f) h

-- The members of a collection, and the list of them.

-- a list gathered into members has its items as members
pub each_gathered : {N : Type 0} (gs : List (Shape N)) → each (gathered gs) ≡ gs
each_gathered [] = refl
each_gathered (g ∷ gs) = ap (λ l. g ∷ l) (each_gathered gs)

-- and members given as a list are gathered again
pub gathered_each : {N : Type 0} (gs : Shapes N) → gathered (each gs) ≡ gs
gathered_each Shapes.no_shapes = refl
gathered_each (Shapes.more_shapes g gs) = ap (λ s. Shapes.more_shapes g s) (gathered_each gs)

-- For a representation that holds members of its own type: what `GeometryTrait` asks where it is a collection. `s` is its shape, `d` the
-- dimension of its header, `xs` its members in their order, and `f` gives the shape of a member.

module _ {A N : Type 0} (f : A → Shape N) (s : Shape N) (d : Dimensions) (xs : List A) (is : s ≡ collection_of d (map f xs)) where
  members_are : members_of s ≡ map f xs
  members_are = ap members_of is ∙ each_gathered (map f xs)

  -- its header and its members determine it
  pub whole : collection_of d (members_of s) ≡ s
  whole = ap (λ gs. collection_of d gs) members_are ∙ sym is

  -- its members are as many as the list has
  pub count_is : length (members_of s) ≡ length xs
  count_is = ap length members_are ∙ length-map xs f

  -- what `as_type` answers: a collection of so many
  pub is_collection : (n : ℕ) → n ≡ length xs → IsCollectionOf n s
  is_collection n e = rw is (e ∙ sym (ap length (each_gathered (map f xs)) ∙ length-map xs f))

  -- what `geometry` answers: the member at a place that is below the count
  pub member_at : (i : ℕ) (x : A) → i < length (members_of s) → x ≡ get_or xs i x → slice_get (members_of s) i ≡ Some (f x)
  member_at i x h e =
      let below : i < length xs = omega (arith, h, count_is) in
      ap (λ l. slice_get l i) members_are ∙ get_image f xs i x (slice_get-get_or xs i x below ∙ ap Some (sym e))
