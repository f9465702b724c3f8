-- What the builder of `my_builder` makes.
use Rattle.std.proofs.Common.{refl, sym, ◌∙◌, ap}
use Rattle.std.specs.Prelude.{◌≡◌, ℕ, List, [], ◌∷◌, ◌++◌, Option, Bool, true, false}
use Rattle.wkt.specs.Values.{Value}
use Rattle.wkt.specs.Front.{Front}
use Rattle.wkt.specs.Events.{Event, events}
use Rattle.wkt.specs.Makers.{Maker}
use Rattle.wkt_examples.specs.declared.my_builder.Empties.{Empties}

-- Whether there was an EMPTY, or is one among these events.
abbrev pub any_empty : {N : Type 0} → Bool → List (Event N) → Bool
any_empty was [] = was
any_empty was (Event.Empty part ∷ es) = any_empty true es
any_empty was (e ∷ es) = any_empty was es

-- Some events, and then others.
pub any_more : {N : Type 0} → (was : Bool) (es fs : List (Event N)) → any_empty was (es ++ fs) ≡ any_empty (any_empty was es) fs
any_more was [] fs = refl
any_more was (Event.Header part d ∷ es) fs = any_more was es fs
any_more was (Event.Open part ∷ es) fs = any_more was es fs
any_more was (Event.Comma part ∷ es) fs = any_more was es fs
any_more was (Event.Close part ∷ es) fs = any_more was es fs
any_more was (Event.Empty part ∷ es) fs = any_more true es fs
any_more was (Event.Number axis x ∷ es) fs = any_more was es fs

-- It takes no room, and numbers are read by their type.
abbrev pub empties_maker : {N : Type 0} → (List ℕ → Option N) → Maker N Empties
empties_maker read = record {
  makes = λ s es t. t.found ≡ any_empty s.found es;
  reads = λ s. read;
  fits = λ s n. Unit {0};
  takes = λ s x. 0;
  none = λ s. refl;
  more = λ s t u es fs h k. k ∙ ap (λ was. any_empty was fs) h ∙ sym (any_more s.found es fs);
  same = λ s t es h. (refl, refl);
  less = λ s m n order h. tt;
}

-- Whether the geometry at the front of the text has an EMPTY.
abbrev pub HasEmpty : {N : Type 0} → (List ℕ → Option N) → List ℕ → Bool → Type 0
HasEmpty {N} read text found = (v : Value N) × (end : ℕ) × Front read text v end × (found ≡ any_empty false (events v))
