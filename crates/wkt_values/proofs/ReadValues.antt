-- What is read where a tree grows over a source; what is answered where the machine was driven over the text that a
-- source begins with.
use Rattle.std.proofs.Common.{◌≡◌, ℕ, List, [], ◌∷◌, ◌++◌, sym, refl, ap, ◌∙◌, subst, Option, Some, None, false, true, ◌⊎◌, inl, inr, Result, Ok, Err, IfOk, IfSome, ◌||◌, option_map}
use Rattle.std.specs.Borrow.{MutBor}
use Rattle.std.specs.declared.alloc.AllocError.{AllocError}
use Rattle.wkt_access.specs.Values.{Value}
use Rattle.wkt_read.specs.Front.{Front, HasNoFront, NeedsNoMemory}
use Rattle.wkt_read.specs.Spanned.{lexemes_of, spanned}
use Rattle.wkt_read.proofs.OneForm.{geometry_fits, front_one}
use Rattle.wkt_machine.specs.Machine.{is_over, at}
use Rattle.wkt_machine.specs.Machine as place
use Rattle.wkt_machine.specs.Events.{Event, events, numbers}
use Rattle.wkt_machine.specs.Goes.{GoesFrom}
use Rattle.wkt_machine.specs.Machines.{state_of}
use Rattle.wkt_machine.specs.View.{View}
use Rattle.wkt_machine.specs.declared.source.Progress.{Progress}
use Rattle.wkt_access.specs.declared.dimensions.Dimension.{Dimension}
use Rattle.wkt_types.specs.Tree.{tree, wkt_step, collection_step, Tree as Kept}
use Rattle.wkt_types.specs.declared.geometry.Wkt.{Wkt}
use Rattle.wkt_values.specs.Trees.{lists_append, tree_maker, tree_of, Grew, Holds, HoldsWhole, IsLost, HoldsEnded, IsPair, coord_by, coord_of}
use Rattle.wkt_values.specs.Growing.{Growing, rest, lists_any}
use Rattle.wkt_values.specs.Values.{AnswersTree, IsRead, OnMemory, OnRefused, WantsMemory}
use Rattle.wkt_sources.specs.Taken.{MachineRefuses, TakesValue}
use Rattle.wkt_machine.specs.declared.machine.Machine.{Machine}
use Rattle.wkt_values.specs.declared.tree.Tree.{Tree}
use Rattle.wkt_values.specs.declared.value.Unread.{Unread}
use Rattle.wkt_values.specs.declared.value.Unread.TheVariants.{Refused, Memory}
use Rattle.wkt_values.proofs.ValueFromEvents.{value_grows}
use Rattle.wkt_read.specs.Answered.{IsFrontTo}
use Rattle.wkt_types.specs.Held.{numbers_of, HeldPoint}
use Rattle.wkt_types.specs.Values.{HasDimIfAny, IsWktOf}
use Rattle.wkt_types.specs.declared.coord.Coord.{Coord}
use Rattle.wkt_values.specs.declared.tree.WktBuilder.{WktBuilder}
use Rattle.wkt_machine.specs.declared.part.Part.TheVariants as part
use Rattle.wkt_types.specs.declared.geometry.Wkt.TheVariants as variants
use Rattle.wkt_types.specs.declared.geometry.Wkt.TheFolds as folds
use Rattle.wkt_types.specs.declared.geometry.Wkt.TheOpen as opened
use Rattle.wkt_values.specs.declared.tree.Ended.TheVariants as ended
use Rattle.wkt_sources.proofs.FrontValues.{taken, refused, front_whole, front_taken, no_front_refused}

-- What is read where a tree grows over a source.

numbers_list : {N : Type 0} (d : Dimension) (xs : List N) → lists_any (numbers d xs) ≡ false
numbers_list d [] = refl
numbers_list d (x ∷ xs) = numbers_list d xs

-- the events of what needs no memory add to no list
free_lists : {N : Type 0} (v : Value N) → NeedsNoMemory v → lists_any (events v) ≡ false
free_lists (Value.point d None) h = refl
free_lists (Value.point d (Some c)) h = lists_append (numbers d c) (Event.Close part.Point ∷ []) ∙ ap (λ b. b || false) (numbers_list d c)
free_lists (Value.line_string d cs) h = ap (λ cs. lists_any (events (Value.line_string d cs))) h
free_lists (Value.polygon d rs) h = ap (λ rs. lists_any (events (Value.polygon d rs))) h
free_lists (Value.multi_point d ms) h = ap (λ ms. lists_any (events (Value.multi_point d ms))) h
free_lists (Value.multi_line_string d ls) h = ap (λ ls. lists_any (events (Value.multi_line_string d ls))) h
free_lists (Value.multi_polygon d ys) h = ap (λ ys. lists_any (events (Value.multi_polygon d ys))) h
free_lists (Value.collection d vs) h = ap (λ vs. lists_any (events (Value.collection d vs))) h

module _ {N S : Type 0} (is_value : N → Type 0) (read : List ℕ → Option N) (values : (bs : List ℕ) → IfSome (read bs) is_value) (view : View N S) where
  -- the value has grown, or it is lost
  grown : (t u : Tree N) (s r : S) (v : Value N) → TakesValue read view s v r → Holds t (rest [] None) → Grew t (events v) u → HoldsWhole u [] v ⊎ (IsLost u × (lists_any (events v) ≡ true))
  grown t u s r v h begins grew =
      let k = value_grows is_value v (geometry_fits is_value read values v (lexemes_of (h.given ++ (h.last ∷ []))) h.stands) [] in
      subst (λ w. Holds u w ⊎ (IsLost u × (lists_any (events v) ≡ true))) k.is (grew.holds (rest [] None) begins k.may)

  module _ (t u : Tree N) (s r : S) (begins : Holds t (rest [] None)) (h : (v : Value N) × TakesValue read view s v r × Grew t (events v) u) where
    pub read_off : (w : Wkt N) → AnswersTree u (Ok w) → IsRead read view s (tree w) r
    read_off w (kept, is) = go (grown t u s r h.0 h.1 begins h.2)
      where
        go : HoldsWhole u [] h.0 ⊎ (IsLost u × (lists_any (events h.0) ≡ true)) → IsRead read view s (tree w) r
        go (inl whole) = (h.0, h.1, is h.0 whole)
        go (inr (lost, lists)) = let clash : false ≡ true = sym kept ∙ lost in cc

    pub wants_memory : (e : AllocError) → AnswersTree u (Err e) → WantsMemory read view s r
    wants_memory e lost = (h.0, h.1, go (grown t u s r h.0 h.1 begins h.2))
      where
        go : HoldsWhole u [] h.0 ⊎ (IsLost u × (lists_any (events h.0) ≡ true)) → NeedsNoMemory h.0 → ⊥
        go (inl whole) free = let clash : false ≡ true = sym whole.kept ∙ lost in cc
        go (inr (l, lists)) free = let clash : false ≡ true = sym (free_lists h.0 free) ∙ lists in cc

-- what is lent is held
pub lent : {N : Type 0} (b c : MutBor (Tree N)) (w : Growing N) → b ≡ c → Holds c.now w → Holds b.now w
lent {N} b c w e h = subst (λ (b : MutBor (Tree N)). Holds b.now w) (sym e) h

module _ {N S : Type 0} (read : List ℕ → Option N) (view : View N S) (text : List ℕ) (s : S) (begins : view.remaining s ≡ spanned text) where
  -- what `read` answers, by its cases
  pub found_in : (t : S) (at : ℕ) → ((end : ℕ) → view.place t end → at ≡ end) → (w : Wkt N) (a : Result (Wkt N) Unread) → a ≡ Ok w → IfOk a (λ w. IsRead read view s (tree w) t) → IsFrontTo read text (tree w) at
  found_in t at ends w a e h =
      let (v, takes, is) : IsRead read view s (tree w) t = subst (λ a. IfOk a (λ w. IsRead read view s (tree w) t)) e h in
      (v, front_taken read view text s begins v t at ends takes, is)

  pub memory_in : (t : S) (x : AllocError) (u : Unread) (a : Result (Wkt N) Unread) → a ≡ Err u → u ≡ Memory x → OnMemory a (WantsMemory read view s t) → (P : Type 0) → (v : Value N) (end : ℕ) → Front read text v end → NeedsNoMemory v → P
  memory_in t x u a e is h P v end front free =
      let (w, takes, wants) : WantsMemory read view s t = subst (λ u. OnMemory {X = Wkt N} (Err u) (WantsMemory read view s t)) is (subst (λ a. OnMemory a (WantsMemory read view s t)) e h) in
      let same = front_one read text v w end _ front (front_whole read view text s begins w t takes) in
      absurd (wants (subst NeedsNoMemory same.0 free))

  pub refused_in : (t : S) (m : Machine) (u : Unread) (a : Result (Wkt N) Unread) → a ≡ Err u → u ≡ Refused m → OnRefused a (λ m. MachineRefuses read view s m t) → (j : view.Known) → view.keeps s j → HasNoFront read text
  refused_in t m u a e is h j keeps =
      no_front_refused read view text s begins j keeps m t (subst (λ u. OnRefused {X = Wkt N} (Err u) (λ m. MachineRefuses read view s m t)) is (subst (λ a. OnRefused a (λ m. MachineRefuses read view s m t)) e h))

-- What is answered where the machine was driven over the text that a source begins with.

-- a point of two numbers that ended is what its parts make
pair_answers : {N : Type 0} (t : Tree N) (x y : N) → IsPair t x y → (w : Wkt N) → tree w ≡ Kept.point (record { coord = Some (record { x = x; y = y; z = None; m = None }); dim = t.dim }) → AnswersTree t (Ok w)
pair_answers {N} t x y p w made = (p.kept, λ v h. go v (subst (λ l. HoldsEnded l t [] v) p.last h.whole))
  where
    one : Coord N
    one = record { x = x; y = y; z = None; m = None }

    same : coord_of t ≡ Some one
    same = ap (λ a. coord_by a t.y t.z t.m) p.x ∙ ap (λ b. coord_by (Some x) b t.z t.m) p.y ∙ ap (λ c. coord_by (Some x) (Some y) c t.m) p.z ∙ ap (λ d. coord_by (Some x) (Some y) None d) p.m

    go : (v : Value N) → HoldsEnded ended.Point t [] v → IsWktOf v (tree w)
    go v (is, dim, only, opens) = subst (IsWktOf v) (sym made) (record {
      value = ap (λ c. Value.point t.dim (option_map numbers_of c)) (sym same) ∙ is;
      uniform = (refl, subst (HasDimIfAny t.dim) same dim);
    })

tree_point : {T : Type 0} (x : HeldPoint (Coord T)) → tree (variants.Point x) ≡ Kept.point x
tree_point {T} x =
    ap tree (sym (variants.rolls-Point x))
    ∙ folds.fold-roll-Wkt T (Kept T) (Kept T) wkt_step collection_step (opened.Wkt-F.Point x)

pub pair_made : {N : Type 0} (t : Tree N) (x y : N) → IsPair t x y → (p : HeldPoint (Coord N)) → p.coord ≡ Some (record { x = x; y = y; z = None; m = None }) → p.dim ≡ t.dim → AnswersTree t (Ok (variants.Point p))
pair_made t x y is p coord dim =
    pair_answers t x y is (variants.Point p)
    (tree_point p ∙ ap (λ o. Kept.point (record { coord = o; dim = p.dim })) coord ∙ ap (λ d. Kept.point (record { coord = Some (record { x = x; y = y; z = None; m = None }); dim = d })) dim)

-- A tree that holds nothing yet grows over the source, and a value ends.
module _ {N S : Type 0} (is_value : N → Type 0) (read : List ℕ → Option N) (values : (bs : List ℕ) → IfSome (read bs) is_value) (view : View N S)
    (text : List ℕ) (s : S) (begins : view.remaining s ≡ spanned text) (b : WktBuilder N) (to : Progress S (WktBuilder N))
    (on : GoesFrom read view (tree_maker read) s b to) (over : is_over (state_of to.machine) ≡ true) (empty : Holds (tree_of b).now (rest [] None))
    (u : Tree N) (same : u ≡ (tree_of to.builder).now) (upto : ℕ) (ends : (end : ℕ) → view.place to.source end → upto ≡ end) where
  grew_driven : (v : Value N) × TakesValue read view s v to.source × Grew (tree_of b).now (events v) u
  grew_driven =
      let (v, takes, grew) = taken read view (tree_maker read) s b to on over in
      (v, takes, subst (Grew (tree_of b).now (events v)) (sym same) grew)

  pub ended_found_to : (w : Wkt N) → AnswersTree u (Ok w) → IsFrontTo read text (tree w) upto
  ended_found_to w k =
      found_in read view text s begins to.source upto ends w (Ok w) refl
      (read_off is_value read values view (tree_of b).now u s to.source empty grew_driven w k)

  pub lost_driven : (e : AllocError) → AnswersTree u (Err e) → (v : Value N) (end : ℕ) → Front read text v end → NeedsNoMemory v → ⊥
  lost_driven e k v end is_front free =
      memory_in read view text s begins to.source e (Memory e) (Err (Memory e)) refl refl
      (wants_memory is_value read values view (tree_of b).now u s to.source empty grew_driven e k) ⊥ v end is_front free
