-- Steps: one lexeme is taken or stays, after a look, and one step after another.
use Rattle.std.proofs.Common.{◌≡◌, ◌≢◌, ℕ, zero, suc, ◌+◌, ◌≤◌, List, [], ◌∷◌, length, arith, refl, sym, ap, ◌∙◌, subst, Option, Some, None}
use Rattle.std.specs.Prelude.{Result, Ok, Err, IfOk, IfSome}
use Rattle.wkt_num.specs.Bytes.{Num}
use Rattle.wkt_access.specs.declared.dimensions.Dimension.{Dimension}
use Rattle.wkt_access.specs.declared.dimensions.Dimension.TheVariants.{XY}
use Rattle.wkt_machine.specs.declared.step.Action.{Action}
use Rattle.wkt_machine.specs.Machine.{made, moved, number_of, said, number_step, bare_step, comma_step, step_at, Place, State}
use Rattle.wkt_machine.specs.Machine as place
use Rattle.wkt_machine.specs.Goes.{Stays, Skips, MakesOneNumber, MakesBare, Goes, Refuses, Leads}
use Rattle.wkt_machine.specs.Machines.{state_of, IsSound}
use Rattle.wkt_machine.specs.Makers.{Maker}
use Rattle.wkt_machine.specs.Room.{need, owed, owed_at, Leaves, HasRoom, LeavesNumber, RoomAt}
use Rattle.wkt_machine.specs.Steps.{spent, IsMadeOf, HasRoomFor, LeavesRoom, MayStep, MayApply, Applies, Steps}
use Rattle.wkt_machine.specs.Seen.{seen_at}
use Rattle.wkt_machine.specs.View.{sight, View}
use Rattle.wkt_machine.specs.declared.machine.Machine.{Machine}
use Rattle.wkt_machine.specs.declared.machine.LexemeKind.{LexemeKind}
use Rattle.wkt_machine.specs.declared.machine.LexemeKind.TheVariants as seen
use Rattle.wkt_machine.specs.Events.{Event}
use Rattle.wkt_machine.specs.declared.part.Axis.{Axis}
use Rattle.wkt_machine.specs.declared.part.Axis.TheVariants as axis
use Rattle.wkt_machine.specs.declared.part.Part.{Part}
use Rattle.wkt_machine.specs.declared.part.Part.TheVariants as part
use Rattle.wkt_machine.specs.declared.step.Action.TheVariants as act
use Rattle.wkt_machine.specs.declared.source.Progress.{Progress}
use Rattle.wkt_machine.proofs.RoomForRest.{seen_cost, inside_owes, outside_owes, less_room, stays_room, fits_seen, spent_room, number_after}
use Rattle.wkt_machine.proofs.Stepping.{seen_is, no_number, goes_one, from_goes, from_refuses}
use Rattle.wkt_machine.proofs.WaysJoin.{goes_then, refuses_then, leads_goes, leads_refuses}

-- What is left pays for what a step makes, by what was owed, what is seen and what is owed after it.
abbrev Pays : ℕ → LexemeKind → ℕ → Action → Type 0
Pays n k after (act.Number a) = after ≡ 0
Pays n k after act.FirstBare = after ≡ 0
Pays n k after (act.LastBare a) = after ≡ 0
Pays n k after a = after + spent a ≤ n + seen_cost k

-- It is made of what is seen, and paid for.
abbrev IsRow : Place → LexemeKind → State × Action → Type 0
IsRow p k s = Pays (owed_at p) k (owed s.0) s.1 × IsMadeOf s.1 k

number_row : (p : Part) (d : Dimension) (more n : ℕ) → IsRow (place.Number p d more) seen.Number (number_step p d more n)
number_row part.Bare d zero n = (refl, refl)
number_row p d zero n = (refl, refl)
number_row p d (suc more) n = (refl, refl)

bare_row : (p : Part) (d : Dimension) (n : ℕ) → IfSome (bare_step p d n) (IsRow (place.Opening p d) seen.Number)
bare_row part.Member d n = (refl, refl)
bare_row p d n = tt

comma_row : (p : Part) (d : Dimension) (n : ℕ) → IfSome (comma_step p d n) (IsRow (place.Item p d) seen.Comma)
comma_row part.Point d n = tt
comma_row part.Member d n = tt
comma_row p d n = let none = inside_owes p d n in (omega (arith, none), ((λ q. cc), λ q. cc))

rows : (p : Place) (n : ℕ) (k : LexemeKind) → IfSome (seen_at p n k) (IsRow p k)
rows place.Kind n (seen.Kind k (Some d)) = (omega arith, ((λ q. cc), λ q. cc))
rows place.Kind n (seen.Kind k None) = (omega arith, ((λ q. cc), λ q. cc))
rows (place.Alone p) n (seen.Dimension d) = (omega arith, ((λ q. cc), λ q. cc))
rows (place.Alone p) n seen.Open = let none = inside_owes p XY n in (omega (arith, none), ((λ q. cc), λ q. cc))
rows (place.Alone p) n seen.Empty = let none = outside_owes p XY n in (omega (arith, none), ((λ q. cc), λ q. cc))
rows (place.Opening p d) n seen.Open = let none = inside_owes p d n in (omega (arith, none), ((λ q. cc), λ q. cc))
rows (place.Opening p d) n seen.Empty = let none = outside_owes p d n in (omega (arith, none), ((λ q. cc), λ q. cc))
rows (place.Opening p d) n seen.Number = bare_row p d n
rows (place.Number p d more) n seen.Number = number_row p d more n
rows (place.Item p d) n seen.Comma = comma_row p d n
rows (place.Item p d) n seen.Close = let none = outside_owes p d n in (omega (arith, none), ((λ q. cc), λ q. cc))
rows place.Geometry (suc n) seen.Comma = (omega arith, ((λ q. cc), λ q. cc))
rows place.Geometry (suc n) seen.Close = (omega arith, ((λ q. cc), λ q. cc))
rows p n k = tt

module _ {N S B : Type 0} (view : View N S) (maker : Maker N B) (n after : ℕ) (k : LexemeKind) (s : S) (b : B) (sees : k ≡ sight (view.remaining s)) where
  room_for : (a : Action) → Pays n k after a → HasRoom view maker n s b → HasRoomFor view maker a s b
  room_for (act.Number x) pays h = less_room view maker 0 n s b (omega arith) h
  room_for act.FirstBare pays h = less_room view maker 0 n s b (omega arith) h
  room_for (act.LastBare x) pays h = less_room view maker 0 n s b (omega arith) h
  room_for a pays h = fits_seen view maker n (spent a) k s b sees (omega (arith, pays)) h

  room_after : (a : Action) (t : S) (c : B) → Skips view s t → Pays n k after a → LeavesRoom view maker a b t c → HasRoom view maker n s b → HasRoom view maker after t c
  room_after (act.Number x) t c skips pays leaves h = subst (λ k. HasRoom view maker k t c) (sym pays) leaves
  room_after act.FirstBare t c skips pays leaves h = subst (λ k. HasRoom view maker k t c) (sym pays) leaves
  room_after (act.LastBare x) t c skips pays leaves h = subst (λ k. HasRoom view maker k t c) (sym pays) leaves
  room_after a t c skips pays leaves h = spent_room view maker n after (spent a) k s t b c sees skips pays leaves h

-- What was taken, where the action x is known to be a.
module _ {N S B : Type 0} (read : List ℕ → Option N) (view : View N S) (maker : Maker N B) (x a : Action) (is : x ≡ a) (s : S) (b : B) (may : MayApply view maker x s b) where
  of_a : IsMadeOf a (sight (view.remaining s))
  of_a = subst (λ a. IsMadeOf a (sight (view.remaining s))) is may.of

  room_a : HasRoomFor view maker a s b
  room_a = subst (λ a. HasRoomFor view maker a s b) is may.room

  as_x : (t : S) (c : B) → Applies read view maker a s b t c → Applies read view maker x s b t c
  as_x t c h = subst (λ a. Applies read view maker a s b t c) (sym is) h

  pub skip_applies : (t : S) (c : B) → sight (view.remaining s) ≢ seen.Number → Skips view s t → maker.makes b (made a None) c → LeavesRoom view maker a b t c → Applies read view maker x s b t c
  skip_applies t c other skips makes room =
      as_x t c (record { skips = skips; number = None; has = no_number read view maker skips.lexeme.lexeme (λ e. other (ap sight skips.remaining ∙ e)); makes = makes; room = room })

  pub number_applies : (o d : B) (axis : Axis) (t : S) (c : B) → (h : MakesOneNumber read view maker s o axis t d) → maker.makes b (made a (Some h.number)) c → LeavesRoom view maker a b t c → Applies read view maker x s b t c
  number_applies o d axis t c h makes room =
      as_x t c (record { skips = record { lexeme = record { lexeme = Num h.run; end = h.end }; remaining = h.remaining; place = h.place; keeps = h.keeps }; number = Some h.number; has = ap (said read) h.reads; makes = makes; room = room })

module _ {N S B : Type 0} (read : List ℕ → Option N) (view : View N S) (maker : Maker N B) (x : Action) (s : S) (b : B) (may : MayApply view maker x s b) where
  -- a number
  pub number_if : (axis : Axis) → x ≡ act.Number axis → (r : Result (S × B) (S × B)) → IfOk r (λ r. MakesOneNumber read view maker s b axis r.0 r.1) → IfOk r (λ r. LeavesNumber view maker s b r.0 r.1) → IfOk r (λ r. Applies read view maker x s b r.0 r.1)
  number_if axis is (Err r) h leaves = tt
  number_if axis is (Ok r) h leaves =
      number_applies read view maker x (act.Number axis) is s b may b r.1 axis r.0 r.1 h h.makes
      (less_room view maker 0 1 r.0 r.1 (omega arith) (number_after view maker s r.0 b r.1 (sym (of_a read view maker x (act.Number axis) is s b may)) (room_a read view maker x (act.Number axis) is s b may) leaves))

  -- the first of a point without parentheses
  pub bare_if : x ≡ act.FirstBare → (r : Result (S × B) (S × B)) → IfOk r (λ r. MakesBare read view maker s b r.0 r.1) → IfOk r (λ r. HasRoom view maker 0 r.0 r.1) → IfOk r (λ r. Applies read view maker x s b r.0 r.1)
  bare_if is (Err r) h room = tt
  bare_if is (Ok r) h room =
      number_applies read view maker x act.FirstBare is s b may h.opened r.1 axis.X r.0 r.1 h.number
      (maker.more b h.opened r.1 (Event.Open part.Member ∷ []) (Event.Number axis.X h.number.number ∷ []) h.opens h.number.makes) room

  -- the last of one
  pub last_applies : (axis : Axis) → x ≡ act.LastBare axis → (t : S) (d c : B) → (h : MakesOneNumber read view maker s b axis t d) → LeavesNumber view maker s b t d
      → maker.makes d (Event.Close part.Member ∷ []) c → Leaves maker d 1 c → Applies read view maker x s b t c
  last_applies axis is t d c h leaves closes spends =
      let room = number_after view maker s t b d (sym (of_a read view maker x (act.LastBare axis) is s b may)) (room_a read view maker x (act.LastBare axis) is s b may) leaves in
      number_applies read view maker x (act.LastBare axis) is s b may b d axis t c h
      (maker.more b d c (Event.Number axis h.number ∷ []) (Event.Close part.Member ∷ []) h.makes closes)
      (record { fits = spends (0 + need (view.remaining t)) (maker.less d (0 + need (view.remaining t) + 1) (1 + need (view.remaining t)) (omega arith) room.fits); values = room.values; reads = room.reads })

module _ {N S B : Type 0} {view : View N S} {maker : Maker N B} {m : Machine} {s : S} {b : B} where
  -- What was answered is known.
  module _ {r : Result (Progress S B) (Progress S B)} (to : Progress S B) where
    pub on_to : r ≡ Ok to → Goes (maker.reads b) view maker m s b to → RoomAt view maker to → Steps view maker m s b r
    on_to is goes room = subst (Steps view maker m s b) (sym is) (record { on = goes; room = room; refused = tt })

    pub refused_to : r ≡ Err to → Refuses (maker.reads b) view maker m s b to → Steps view maker m s b r
    refused_to is refuses = subst (Steps view maker m s b) (sym is) (record { on = tt; room = tt; refused = refuses })

  -- Nothing is owed there.
  pub on_at : {r : Result (Progress S B) (Progress S B)} {n : Machine} {t : S} {c : B} → r ≡ Ok (record { source = t; machine = n; builder = c }) → Goes (maker.reads b) view maker m s b (record { source = t; machine = n; builder = c })
      → owed (state_of n) ≡ 0 → HasRoom view maker 0 t c → Steps view maker m s b r
  on_at {r} {n} {t} {c} is goes owes room = on_to _ is goes (subst (λ k. HasRoom view maker k t c) (sym owes) room)

  -- There is room for what is left, whatever is owed.
  pub rest_room : MayStep view maker m s b → HasRoom view maker 0 s b
  rest_room may = less_room view maker 0 (owed (state_of m)) s b (omega arith) may.room

  -- What the machine makes of the lexeme that was looked at.
  module _ (k : LexemeKind) (sees : k ≡ sight (view.remaining s)) (may : MayStep view maker m s b) (n : Machine) (a : Action) (gone : seen_at (state_of m).place m.depth k ≡ Some (state_of n, a)) where
    is_row : IsRow (state_of m).place k (state_of n, a)
    is_row = subst (λ o. IfSome o (IsRow (state_of m).place k)) gone (rows (state_of m).place m.depth k)

    pub may_apply : view.looked s → MayApply view maker a s b
    may_apply looked = record {
      looked = looked;
      of = subst (IsMadeOf a) sees is_row.1;
      room = room_for view maker (owed (state_of m)) (owed (state_of n)) k s b sees a is_row.0 may.room;
    }

    -- It is made.
    pub applied : (t : S) (c : B) (r : Result (Progress S B) (Progress S B)) → r ≡ Ok (record { source = t; machine = n; builder = c }) → IsSound n → Applies (maker.reads b) view maker a s b t c → Steps view maker m s b r
    applied t c r is sound h =
        let l = h.skips.lexeme.lexeme in
        let step : step_at (state_of m).place m.depth l ≡ Some (state_of n, a) = sym (seen_is (state_of m).place m.depth l) ∙ ap (seen_at (state_of m).place m.depth) (sym (sees ∙ ap sight h.skips.remaining)) ∙ gone in
        on_to _ is
        (goes_one (maker.reads b) view maker m n s t b c h.skips.lexeme (made a h.number) h.skips.remaining h.skips.place h.skips.keeps
        (ap (λ o. moved (maker.reads b) o (number_of (maker.reads b) l)) step ∙ ap (moved (maker.reads b) (Some (state_of n, a))) h.has) h.makes sound)
        (room_after view maker (owed (state_of m)) (owed (state_of n)) k s b sees a t c h.skips is_row.0 h.room may.room)

  -- A look changes nothing.
  pub looked_may : (t : S) → Stays view s t → MayStep view maker m s b → MayStep view maker m t b
  looked_may t stays may = record {
    sound = may.sound;
    unover = may.unover;
    depth = subst (λ ps. m.depth + length ps ≤ 18446744073709551615) (sym stays.remaining) may.depth;
    room = stays_room view maker (owed (state_of m)) s t b stays may.room;
  }

  pub looked_steps : (t : S) (r : Result (Progress S B) (Progress S B)) → Stays view s t → Steps view maker m t b r → Steps view maker m s b r
  looked_steps t (Ok to) stays h = record { on = from_goes (maker.reads b) view maker m s t b to stays h.on; room = h.room; refused = tt }
  looked_steps t (Err to) stays h = record { on = tt; room = tt; refused = from_refuses (maker.reads b) view maker m s t b to stays h.refused }

  pub then_steps : (a : Progress S B) (r : Result (Progress S B) (Progress S B)) → Goes (maker.reads b) view maker m s b a → Steps view maker a.machine a.source a.builder r → Steps view maker m s b r
  then_steps a (Ok to) h k = record { on = goes_then view maker m s b a to h k.on; room = k.room; refused = tt }
  then_steps a (Err to) h k = record { on = tt; room = tt; refused = refuses_then view maker m s b a to h k.refused }

  pub lead_steps : (n : Machine) (t : S) (c : B) (r : Result (Progress S B) (Progress S B)) → Leads (maker.reads b) view maker m s b n t c → Steps view maker n t c r → Steps view maker m s b r
  lead_steps n t c (Ok to) l h = record { on = leads_goes view maker m s b n t c to l h.on; room = h.room; refused = tt }
  lead_steps n t c (Err to) l h = record { on = tt; room = tt; refused = leads_refuses view maker m s b n t c to l h.refused }
