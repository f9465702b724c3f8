-- Flat collections that are open while the `Wkt` of their members are made: what comes of them.
use Rattle.std.proofs.Common.{◌≡◌, ◌<◌, refl, ap, sym, ◌∙◌, List, [], ◌∷◌, ◌++◌, length, map, append_assoc, arith, ◌-◌, ◌≤◌, take, drop}
use Rattle.std.proofs.lemmas.List.{append-nil, map-append}
use Rattle.wkt_access.specs.declared.dimensions.Dimension.TheVariants.{XY}
use Rattle.wkt_types.specs.Tree.{Tree, tree, trees_of, members}
use Rattle.wkt_types.specs.declared.geometry.Wkt.{Wkt}
use Rattle.wkt_flat.specs.Tree.{Flat, flat_tree, flat_members, weight, weights}
use Rattle.wkt_flat.specs.declared.geometry.Geometry.{Geometry}
use Rattle.wkt_convert.specs.Back.{back}
use Rattle.wkt_convert.specs.declared.parts.Open.{Open}
use Rattle.wkt_convert.proofs.Opened.{all_back_members, none-left, falls-by-one}
use Rattle.wkt_flat.proofs.TreeLemmas.{at_least_one}

-- what comes of a collection whose first members became `done`, and of which `rest` is left
abbrev pub going : {T : Type 0} → List (Tree T) → List (Geometry T) → List (Tree T)
going done rest = done ++ map (λ g. back (flat_tree g)) rest

-- what comes of the outermost of the open collections, where this comes of the one within the last
abbrev pub finish : {T : Type 0} → List (Open (Geometry T) (Wkt T)) → List (Tree T) → List (Tree T)
finish [] ts = ts
finish (x ∷ xs) ts = going (map tree x.done.items ++ Tree.collection (trees_of (finish xs ts)) XY ∷ []) x.rest.now

pub finish-last : {T : Type 0} (xs : List (Open (Geometry T) (Wkt T))) (x : Open (Geometry T) (Wkt T)) (ts : List (Tree T)) →
    finish (xs ++ x ∷ []) ts ≡ finish xs (going (map tree x.done.items ++ Tree.collection (trees_of ts) XY ∷ []) x.rest.now)
finish-last [] x ts = refl
finish-last (y ∷ ys) x ts = ap (λ l. going (map tree y.done.items ++ Tree.collection (trees_of l) XY ∷ []) y.rest.now) (finish-last ys x ts)

-- of a collection of which nothing is left
all-done : {T : Type 0} (done : List (Wkt T)) (rest : List (Geometry T)) → length rest < 1 → going (map tree done) rest ≡ map tree done
all-done done rest none = ap (going (map tree done)) (none-left rest none) ∙ append-nil (map tree done)

-- a geometry that isn't a collection becomes one `Wkt` more
pub goes-on : {T : Type 0} (xs : List (Open (Geometry T) (Wkt T))) (done news : List (Wkt T)) (w : Wkt T) (g : Geometry T) (rest others : List (Geometry T)) →
    rest ≡ g ∷ others → tree w ≡ back (flat_tree g) → news ≡ done ++ w ∷ [] →
    finish xs (going (map tree news) others) ≡ finish xs (going (map tree done) rest)
goes-on xs done news w g rest others split one new =
    ap (finish xs)
    (ap (λ ts. going ts others) (ap (map tree) new ∙ (map-append tree done (w ∷ []) ∙ ap (λ t. map tree done ++ t ∷ []) one))
    ∙ (append_assoc (map tree done) (back (flat_tree g) ∷ []) (map (λ g. back (flat_tree g)) others)
    ∙ sym (ap (going (map tree done)) split)))

opened-tree : {T : Type 0} (g : Geometry T) (inner : List (Geometry T)) → flat_tree g ≡ Flat.collection (flat_members inner) →
    Tree.collection (trees_of (going [] inner)) XY ≡ back (flat_tree g)
opened-tree g inner is = ap (λ ts. Tree.collection ts XY) (sym (all_back_members inner)) ∙ ap back (sym is)

-- a collection is opened within the others
pub opens : {T : Type 0} (xs xs' : List (Open (Geometry T) (Wkt T))) (x : Open (Geometry T) (Wkt T)) (fresh : List (Wkt T)) (g : Geometry T) (rest inner : List (Geometry T)) →
    xs' ≡ xs ++ x ∷ [] → rest ≡ g ∷ x.rest.now → flat_tree g ≡ Flat.collection (flat_members inner) → fresh ≡ [] →
    finish xs' (going (map tree fresh) inner) ≡ finish xs (going (map tree x.done.items) rest)
opens xs xs' x fresh g rest inner pushed split holds new =
    ap (λ l. finish l (going (map tree fresh) inner)) pushed
    ∙ (ap (λ ws. finish (xs ++ x ∷ []) (going (map tree ws) inner)) new
    ∙ (finish-last xs x (going [] inner)
    ∙ ap (finish xs)
    (ap (λ t. going (map tree x.done.items ++ t ∷ []) x.rest.now) (opened-tree g inner holds)
    ∙ (append_assoc (map tree x.done.items) (back (flat_tree g) ∷ []) (map (λ g. back (flat_tree g)) x.rest.now)
    ∙ sym (ap (going (map tree x.done.items)) split)))))

-- the innermost collection is closed: it is one `Wkt` more of the one around it
pub closes : {T : Type 0} (xs xs' : List (Open (Geometry T) (Wkt T))) (x : Open (Geometry T) (Wkt T)) (done news : List (Wkt T)) (w : Wkt T) (rest : List (Geometry T)) →
    xs' ≡ xs ++ x ∷ [] → length rest < 1 → tree w ≡ Tree.collection (members done) XY → news ≡ x.done.items ++ w ∷ [] →
    finish xs (going (map tree news) x.rest.now) ≡ finish xs' (going (map tree done) rest)
closes xs xs' x done news w rest popped none one new =
    ap (λ ts. finish xs (going ts x.rest.now)) (ap (map tree) new ∙ (map-append tree x.done.items (w ∷ []) ∙ ap (λ t. map tree x.done.items ++ t ∷ []) one))
    ∙ sym (ap (λ l. finish l (going (map tree done) rest)) popped
    ∙ (finish-last xs x (going (map tree done) rest)
    ∙ ap (λ ts. finish xs (going (map tree x.done.items ++ Tree.collection (trees_of ts) XY ∷ []) x.rest.now)) (all-done done rest none)))

-- nothing is open any more
pub ends : {T : Type 0} (xs : List (Open (Geometry T) (Wkt T))) (done : List (Wkt T)) (rest : List (Geometry T)) → length xs ≡ 0 → length rest < 1 →
    finish xs (going (map tree done) rest) ≡ map tree done
ends [] done rest closed none = all-done done rest none
ends (x ∷ xs) done rest closed none = absurd (omega arith)

-- what is left weighs less when its first member is done
pub left-falls : {T : Type 0} (rest : List (Geometry T)) → 1 ≤ length rest → weights (take (length rest - 1) (drop 1 rest)) < weights rest
left-falls = falls-by-one weight weights (λ x xs. refl) at_least_one
