-- Collections that are open while their members are converted: how much is left of them, and their outcomes.
use Rattle.std.proofs.Common.{◌≡◌, refl, ap, ◌∙◌, List, [], ◌∷◌, map, Bool, ℕ, ◌+◌, ◌-◌, ◌*◌, ◌≤◌, ◌<◌, sym, ◌++◌, length, get_or, take, drop, arith, zero, suc, ap₂, add-one, Err}
use Rattle.std.proofs.lemmas.List.{take_all}
use Rattle.wkt_types.specs.Tree.{Trees, tree, trees_of, members}
use Rattle.wkt_types.specs.declared.geometry.Wkt.{Wkt}
use Rattle.wkt_flat.specs.Tree.{Flat, Flats, flat_tree, flat_members, flats_of}
use Rattle.wkt_flat.specs.declared.geometry.Geometry.{Geometry}
use Rattle.wkt_convert.specs.Back.{back, all_back}
use Rattle.wkt_convert.specs.Flatten.{flat, flat_all, outcome_map, outcome_both, outcomes}
use Rattle.wkt_types.specs.Outcome.{Outcome, value, refused, Fault, Answers}
use Rattle.wkt_flat.specs.declared.coord.Coord as flat_coord
use Rattle.wkt_convert.specs.declared.parts.Open.{Open}
use Rattle.wkt_types.specs.declared.convert.ConvertError.{ConvertError}
use Rattle.wkt_types.specs.declared.convert.ConvertError.TheVariants.{PointConversionError, MismatchedGeometry, WrongNumberOfGeometries, InvalidWKT, Reader, Utf8}
use Rattle.wkt_types.specs.declared.convert.ConvertError.TheVariants as convert

-- The members of a collection, one after the other.

gather : {T : Type 0} (a : Outcome (Flat T)) (b : Outcome (List (Flat T))) →
    outcome_both Flats.more_flats a (outcome_map flats_of b) ≡ outcome_map flats_of (outcome_both (λ y ys. y ∷ ys) a b)
gather (value x) (value y) = refl
gather (value x) (refused k) = refl
gather (refused k) b = refl

pub flatten_members : {T : Type 0} (E : flat_coord.Coord T → flat_coord.Coord T → Bool) (ws : List (Wkt T)) →
    flat_all E (members ws) ≡ outcome_map flats_of (outcomes (λ w. flat E (tree w)) ws)
flatten_members E [] = refl
flatten_members E (w ∷ ws) =
    ap (outcome_both Flats.more_flats (flat E (tree w))) (flatten_members E ws) ∙ gather (flat E (tree w)) (outcomes (λ w. flat E (tree w)) ws)

pub all_back_members : {T : Type 0} (gs : List (Geometry T)) → all_back (flat_members gs) ≡ trees_of (map (λ g. back (flat_tree g)) gs)
all_back_members [] = refl
all_back_members (g ∷ gs) = ap (λ ts. Trees.more_trees (back (flat_tree g)) ts) (all_back_members gs)

-- Collections that are open while their members are converted: how much is left of them.

module _ {S R : Type 0} (weights : List S → ℕ) where
  -- how often a loop goes on until what is left of the open ones is done
  abbrev pub pending : List (Open S R) → ℕ
  pending [] = 0
  pending (x ∷ xs) = 1 + 2 * weights x.rest.now + pending xs

  pub pending-last : (xs : List (Open S R)) (x : Open S R) → pending (xs ++ x ∷ []) ≡ pending xs + (1 + 2 * weights x.rest.now)
  pending-last [] x = omega arith
  pending-last (y ∷ ys) x = let e : pending (ys ++ x ∷ []) ≡ pending ys + (1 + 2 * weights x.rest.now) = pending-last ys x in omega (arith, e)

-- the first of a list's members, and the others
pub first-of : {S : Type 0} (xs : List S) (first : S) → 1 ≤ length xs → first ≡ get_or xs 0 first → xs ≡ first ∷ take (length xs - 1) (drop 1 xs)
first-of [] first some is = absurd (omega arith)
first-of (x ∷ xs) first some is =
    ap (λ l. x ∷ l) (sym (take_all (length (x ∷ xs) - 1) xs (omega arith))) ∙ ap (λ y. y ∷ take (length (x ∷ xs) - 1) xs) (sym is)

pub none-left : {S : Type 0} (xs : List S) → length xs < 1 → xs ≡ []
none-left [] h = refl
none-left (x ∷ xs) h = absurd (omega arith)

-- how the measure falls: `weight` is of one member, and `weights` the sum over a list
module _ {S : Type 0} (weight : S → ℕ) (weights : List S → ℕ) (sum : (x : S) (xs : List S) → weights (x ∷ xs) ≡ weight x + weights xs) where
  first-weighs : (rest : List S) (next : S) → 1 ≤ length rest → next ≡ get_or rest 0 next → weights rest ≡ weight next + weights (take (length rest - 1) (drop 1 rest))
  first-weighs rest next some is = ap weights (first-of rest next some is) ∙ sum next _

  -- the next member is done
  pub falls-by-one : ((x : S) → 0 < weight x) → (rest : List S) → 1 ≤ length rest → weights (take (length rest - 1) (drop 1 rest)) < weights rest
  falls-by-one one [] some = absurd (omega arith)
  falls-by-one one (x ∷ xs) some = let e = first-weighs (x ∷ xs) x some refl in omega (arith, e, one x)

  -- the next member is a collection, which is opened
  pub falls-opened : {R : Type 0} (xs xs' : List (Open S R)) (x : Open S R) (rest inner : List S) (next : S) → 1 ≤ length rest → next ≡ get_or rest 0 next →
      weight next ≡ 1 + weights inner → xs' ≡ xs ++ x ∷ [] → x.rest.now ≡ take (length rest - 1) (drop 1 rest) →
      pending weights xs' + 2 * weights inner < pending weights xs + 2 * weights rest
  falls-opened xs xs' x rest inner next some is heavy pushed left =
      let e = first-weighs rest next some is in
      let p = ap (pending weights) pushed ∙ pending-last weights xs x in
      let q = ap weights left in
      omega (arith, e, heavy, p, q)

-- nothing is left of the innermost collection, which is closed
pub falls-closed : {S R : Type 0} (weights : List S → ℕ) (xs xs' : List (Open S R)) (x : Open S R) (rest : List S) → xs' ≡ xs ++ x ∷ [] →
    pending weights xs + 2 * weights x.rest.now < pending weights xs' + 2 * weights rest
falls-closed weights xs xs' x rest popped =
    let p = ap (pending weights) popped ∙ pending-last weights xs x in
    omega (arith, p)

-- Outcomes of a list, as a loop meets them.

-- a refusal of one outcome is one of another that has the same errors
pub passes_on : {X Y R Q : Type 0} (see : R → X) (see' : Q → Y) (o : Outcome X) (o' : Outcome Y) → ((k : Fault) → o ≡ refused k → o' ≡ refused k) →
    (e : ConvertError) → Answers see o (Err e) → Answers see' o' (Err e)
passes_on see see' o o' f PointConversionError h = f _ h
passes_on see see' o o' f (MismatchedGeometry a b) h = f _ h
passes_on see see' o o' f (WrongNumberOfGeometries n) h = h
passes_on see see' o o' f (InvalidWKT m) h = h
passes_on see see' o o' f (Reader r) h = h
passes_on see see' o o' f Utf8 h = h
passes_on see see' o o' f (convert.Memory m) h = tt

pub map_refused : {X Y : Type 0} (f : X → Y) (o : Outcome X) (k : Fault) → o ≡ refused k → outcome_map f o ≡ refused k
map_refused f o k h = ap (outcome_map f) h

pub both_value : {X Y Z : Type 0} (f : X → Y → Z) (a : Outcome X) (b : Outcome Y) (z : Z) → outcome_both f a b ≡ value z →
    (x : X) × (y : Y) × (a ≡ value x) × (b ≡ value y) × (f x y ≡ z)
both_value f (value x) (value y) z h = (x, y, refl, refl, cc)
both_value f (value x) (refused k) z h = cc
both_value f (refused k) b z h = cc

module _ {A X : Type 0} (f : A → Outcome X) where
  more_at : (xs : List A) (i : ℕ) (x : A) (y : X) (ys : List X) → i < length xs → x ≡ get_or xs i x →
      outcomes f (take i xs) ≡ value ys → f x ≡ value y → outcomes f (take (suc i) xs) ≡ value (ys ++ y ∷ [])
  more_at [] i x y ys lt e h k = absurd (omega arith)
  more_at (z ∷ zs) zero x y [] lt e h k = rw (sym e, k) refl
  more_at (z ∷ zs) zero x y (w ∷ ws) lt e h k = cc
  more_at (z ∷ zs) (suc i) x y ys lt e h k =
      let b = both_value (λ y ys. y ∷ ys) (f z) (outcomes f (take i zs)) ys h in
      let n = more_at zs i x y b.1 (omega arith) e b.3 k in
      ap₂ (outcome_both (λ y ys. y ∷ ys)) b.2 n ∙ ap (λ l. value (l ++ y ∷ [])) b.4

  pub more : (xs : List A) (i : ℕ) (x : A) (y : X) (ys : List X) → i < length xs → x ≡ get_or xs i x →
      outcomes f (take i xs) ≡ value ys → f x ≡ value y → outcomes f (take (i + 1) xs) ≡ value (ys ++ y ∷ [])
  more xs i x y ys lt e h k = rw add-one (more_at xs i x y ys lt e h k)

  pub stop : (xs : List A) (i : ℕ) (x : A) (ys : List X) → i < length xs → x ≡ get_or xs i x →
      outcomes f (take i xs) ≡ value ys → (k : Fault) → f x ≡ refused k → outcomes f xs ≡ refused k
  stop [] i x ys lt e h k r = absurd (omega arith)
  stop (z ∷ zs) zero x ys lt e h k r = rw (sym e, r) refl
  stop (z ∷ zs) (suc i) x ys lt e h k r =
      let b = both_value (λ y ys. y ∷ ys) (f z) (outcomes f (take i zs)) ys h in
      let n = stop zs i x b.1 (omega arith) e b.3 k r in
      ap₂ (outcome_both (λ y ys. y ∷ ys)) b.2 n
