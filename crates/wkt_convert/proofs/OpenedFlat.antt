-- Collections that are open while their members are flattened: what comes of them.
use Rattle.std.proofs.Common.{◌≡◌, ◌<◌, refl, ap, sym, ◌∙◌, List, [], ◌∷◌, ◌++◌, length, map, Bool, append_assoc, arith, ◌-◌, ◌≤◌, take, drop}
use Rattle.std.proofs.lemmas.List.{append-nil, map-append}
use Rattle.wkt_access.specs.declared.dimensions.Dimension.{Dimension}
use Rattle.wkt_types.specs.Outcome.{Outcome, Fault, value, refused}
use Rattle.wkt_types.specs.Tree.{Tree, tree, members, weight, weights}
use Rattle.wkt_types.specs.declared.geometry.Wkt.{Wkt}
use Rattle.wkt_flat.specs.Tree.{Flat, flats_of, flat_tree, flat_members}
use Rattle.wkt_flat.specs.declared.coord.Coord as flat_coord
use Rattle.wkt_flat.specs.declared.geometry.Geometry.{Geometry}
use Rattle.wkt_convert.specs.declared.parts.Open.{Open}
use Rattle.wkt_convert.specs.Flatten.{flat, outcome_map, outcome_both, outcomes}
use Rattle.wkt_convert.proofs.Opened.{flatten_members, none-left, falls-by-one}
use Rattle.wkt_types.proofs.TreeLemmas.{at_least_one}

module _ {T : Type 0} (E : flat_coord.Coord T → flat_coord.Coord T → Bool) where
  -- what comes of a collection whose first members became `done`, and of which `rest` is left
  abbrev pub going : List (Flat T) → List (Wkt T) → Outcome (List (Flat T))
  going done rest = outcome_map (λ fs. done ++ fs) (outcomes (λ w. flat E (tree w)) rest)

  -- the same where a collection is between them, of which this comes
  abbrev pub enclosed : List (Flat T) → List (Wkt T) → Outcome (List (Flat T)) → Outcome (List (Flat T))
  enclosed done rest (value fs) = going (done ++ Flat.collection (flats_of fs) ∷ []) rest
  enclosed done rest (refused k) = refused k

  -- what comes of the outermost of the open collections, where this comes of the one within the last
  abbrev pub finish : List (Open (Wkt T) (Geometry T)) → Outcome (List (Flat T)) → Outcome (List (Flat T))
  finish [] o = o
  finish (x ∷ xs) o = enclosed (map flat_tree x.done.items) x.rest.now (finish xs o)

  pub finish-last : (xs : List (Open (Wkt T) (Geometry T))) (x : Open (Wkt T) (Geometry T)) (o : Outcome (List (Flat T))) →
      finish (xs ++ x ∷ []) o ≡ finish xs (enclosed (map flat_tree x.done.items) x.rest.now o)
  finish-last [] x o = refl
  finish-last (y ∷ ys) x o = ap (enclosed (map flat_tree y.done.items) y.rest.now) (finish-last ys x o)

  pub finish-refused : (xs : List (Open (Wkt T) (Geometry T))) (k : Fault) → finish xs (refused k) ≡ refused k
  finish-refused [] k = refl
  finish-refused (x ∷ xs) k = ap (enclosed (map flat_tree x.done.items) x.rest.now) (finish-refused xs k)

  moved : (done : List (Flat T)) (t : Flat T) (o : Outcome (List (Flat T))) →
      outcome_map (λ fs. done ++ fs) (outcome_map (λ fs. t ∷ fs) o) ≡ outcome_map (λ fs. (done ++ t ∷ []) ++ fs) o
  moved done t (value fs) = ap value (sym (append_assoc done (t ∷ []) fs))
  moved done t (refused k) = refl

  module _ (done : List (Flat T)) (w : Wkt T) (ws : List (Wkt T)) where
    pub going-whole : (t : Flat T) → flat E (tree w) ≡ value t → going done (w ∷ ws) ≡ going (done ++ t ∷ []) ws
    going-whole t is =
        ap (λ o. outcome_map (λ fs. done ++ fs) (outcome_both (λ y ys. y ∷ ys) o (outcomes (λ w. flat E (tree w)) ws))) is
        ∙ moved done t (outcomes (λ w. flat E (tree w)) ws)

    pub going-refused : (k : Fault) → flat E (tree w) ≡ refused k → going done (w ∷ ws) ≡ refused k
    going-refused k is = ap (λ o. outcome_map (λ fs. done ++ fs) (outcome_both (λ y ys. y ∷ ys) o (outcomes (λ w. flat E (tree w)) ws))) is

    opened : (o : Outcome (List (Flat T))) →
        outcome_map (λ fs. done ++ fs) (outcome_both (λ y ys. y ∷ ys) (outcome_map Flat.collection (outcome_map flats_of o)) (outcomes (λ w. flat E (tree w)) ws))
        ≡ enclosed done ws (outcome_map (λ fs. [] ++ fs) o)
    opened (value fs) = moved done (Flat.collection (flats_of fs)) (outcomes (λ w. flat E (tree w)) ws)
    opened (refused k) = refl

    pub going-open : (inner : List (Wkt T)) (d : Dimension) → tree w ≡ Tree.collection (members inner) d → going done (w ∷ ws) ≡ enclosed done ws (going [] inner)
    going-open inner d is =
        ap (λ o. outcome_map (λ fs. done ++ fs) (outcome_both (λ y ys. y ∷ ys) o (outcomes (λ w. flat E (tree w)) ws)))
        (ap (flat E) is ∙ ap (outcome_map Flat.collection) (flatten_members E inner))
        ∙ opened (outcomes (λ w. flat E (tree w)) inner)

  begun : (o : Outcome (List (Flat T))) → outcome_map (λ fs. [] ++ fs) o ≡ o
  begun (value fs) = refl
  begun (refused k) = refl

  pub going-start : (rest : List (Wkt T)) → going [] rest ≡ outcomes (λ w. flat E (tree w)) rest
  going-start rest = begun (outcomes (λ w. flat E (tree w)) rest)

  pub going-none : (done : List (Flat T)) → going done [] ≡ value done
  going-none done = ap value (append-nil done)

  -- a geometry that isn't a collection becomes one flat value more
  pub goes-on : (xs : List (Open (Wkt T) (Geometry T))) (done news : List (Geometry T)) (g : Geometry T) (w : Wkt T) (rest others : List (Wkt T)) →
      rest ≡ w ∷ others → flat E (tree w) ≡ value (flat_tree g) → news ≡ done ++ g ∷ [] →
      finish xs (going (map flat_tree news) others) ≡ finish xs (going (map flat_tree done) rest)
  goes-on xs done news g w rest others split one new =
      ap (finish xs)
      (ap (λ ds. going ds others) (ap (map flat_tree) new ∙ map-append flat_tree done (g ∷ []))
      ∙ sym (ap (going (map flat_tree done)) split ∙ going-whole (map flat_tree done) w others (flat_tree g) one))

  -- a collection is opened within the others
  pub opens : (xs xs' : List (Open (Wkt T) (Geometry T))) (x : Open (Wkt T) (Geometry T)) (fresh : List (Geometry T)) (w : Wkt T) (rest inner : List (Wkt T)) (d : Dimension) →
      xs' ≡ xs ++ x ∷ [] → rest ≡ w ∷ x.rest.now → tree w ≡ Tree.collection (members inner) d → fresh ≡ [] →
      finish xs' (going (map flat_tree fresh) inner) ≡ finish xs (going (map flat_tree x.done.items) rest)
  opens xs xs' x fresh w rest inner d pushed split holds new =
      ap (λ l. finish l (going (map flat_tree fresh) inner)) pushed
      ∙ (ap (λ gs. finish (xs ++ x ∷ []) (going (map flat_tree gs) inner)) new
      ∙ (finish-last xs x (going [] inner)
      ∙ ap (finish xs) (sym (ap (going (map flat_tree x.done.items)) split ∙ going-open (map flat_tree x.done.items) w x.rest.now inner d holds))))

  -- the innermost collection is closed: it is one flat value more of the one around it
  pub closes : (xs xs' : List (Open (Wkt T) (Geometry T))) (x : Open (Wkt T) (Geometry T)) (done news : List (Geometry T)) (g : Geometry T) (rest : List (Wkt T)) →
      xs' ≡ xs ++ x ∷ [] → length rest < 1 → flat_tree g ≡ Flat.collection (flat_members done) → news ≡ x.done.items ++ g ∷ [] →
      finish xs (going (map flat_tree news) x.rest.now) ≡ finish xs' (going (map flat_tree done) rest)
  closes xs xs' x done news g rest popped none one new =
      ap (λ ds. finish xs (going ds x.rest.now))
      (ap (map flat_tree) new ∙ (map-append flat_tree x.done.items (g ∷ []) ∙ ap (λ t. map flat_tree x.done.items ++ t ∷ []) one))
      ∙ sym (ap (λ l. finish l (going (map flat_tree done) rest)) popped
      ∙ (finish-last xs x (going (map flat_tree done) rest)
      ∙ ap (λ o. finish xs (enclosed (map flat_tree x.done.items) x.rest.now o)) (ap (going (map flat_tree done)) (none-left rest none) ∙ going-none (map flat_tree done))))

  -- nothing is open any more
  pub ends : (xs : List (Open (Wkt T) (Geometry T))) (done : List (Geometry T)) (rest : List (Wkt T)) → length xs ≡ 0 → length rest < 1 →
      finish xs (going (map flat_tree done) rest) ≡ value (map flat_tree done)
  ends [] done rest closed none = ap (going (map flat_tree done)) (none-left rest none) ∙ going-none (map flat_tree done)
  ends (x ∷ xs) done rest closed none = absurd (omega arith)

  -- the first error is that of all
  pub refuses : (xs : List (Open (Wkt T) (Geometry T))) (done : List (Flat T)) (w : Wkt T) (rest others : List (Wkt T)) (k : Fault) →
      rest ≡ w ∷ others → flat E (tree w) ≡ refused k → finish xs (going done rest) ≡ refused k
  refuses xs done w rest others k split fails = ap (finish xs) (ap (going done) split ∙ going-refused done w others k fails) ∙ finish-refused xs k

-- what is left weighs less when its first member is done
pub left-falls : {T : Type 0} (rest : List (Wkt T)) → 1 ≤ length rest → weights (take (length rest - 1) (drop 1 rest)) < weights rest
left-falls = falls-by-one weight weights (λ x xs. refl) at_least_one
