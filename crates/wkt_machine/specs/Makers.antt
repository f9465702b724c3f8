-- What is known of what is made, also where nothing is kept.
use Rattle.std.proofs.Common.{refl, ◌∙◌, ap}
use Rattle.std.specs.Prelude.{◌≡◌, ℕ, ◌≤◌, List, [], ◌∷◌, ◌++◌, Option}
use Rattle.wkt_events.specs.Remaining.{IsNumberAt}
use Rattle.wkt_machine.specs.Events.{Event}
use Rattle.wkt_machine.specs.declared.part.Axis.{Axis}
use Rattle.wkt_machine.specs.declared.null_builder.NullBuilder.{NullBuilder}
use Rattle.wkt_machine.specs.declared.part.Axis.TheVariants as axis
use Rattle.wkt_machine.specs.declared.part.Part.TheVariants as part

-- What is known of what is made.

-- Of numbers of type N a thing of type S is made.
pub record Maker (N S : Type 0) : Type 1 where
  -- The second was made from the first by these events.
  pub makes : S → List (Event N) → S → Type 0
  -- What a number run is read as.
  pub reads : S → List ℕ → Option N
  -- There is room for so much.
  pub fits : S → ℕ → Type 0
  -- How much a number takes that is given by value.
  pub takes : S → N → ℕ
  -- No event makes nothing.
  pub none : (s : S) → makes s [] s
  -- Some events, and then others.
  pub more : (s t u : S) (es fs : List (Event N)) → makes s es t → makes t fs u → makes s (es ++ fs) u
  -- Numbers are read as they were, and take what they took.
  pub same : (s t : S) (es : List (Event N)) → makes s es t → (reads t ≡ reads s) × (takes t ≡ takes s)
  -- Where there is room for more there is for less.
  pub less : (s : S) (m n : ℕ) → m ≤ n → fits s n → fits s m

-- The number that stands in the bytes from `at` to `end` is made.
pub record MakesNumber {N S : Type 0} (read : List ℕ → Option N) (maker : Maker N S) (before : S) (text : List ℕ) (at : ℕ) (axis : Axis) (after : S) (end : ℕ) : Type 0 where
  pub number : N
  pub there : IsNumberAt read text at end number
  pub makes : maker.makes before (Event.Number axis number ∷ []) after

-- The same in a parenthesis of a member, which is opened before it.
pub record MakesBareNumber {N S : Type 0} (read : List ℕ → Option N) (maker : Maker N S) (before : S) (text : List ℕ) (at : ℕ) (after : S) (end : ℕ) : Type 0 where
  pub opened : S
  pub opens : maker.makes before (Event.Open part.Member ∷ []) opened
  pub number : MakesNumber read maker opened text at axis.X after end

-- What is made where nothing is kept.

-- Any events make nothing. How numbers are read stays.
abbrev pub null_builder_maker : {P N : Type 0} → (P → List ℕ → Option N) → Maker N (NullBuilder P)
null_builder_maker read = record {
  makes = λ s es t. t.numbers ≡ s.numbers;
  reads = λ s. read s.numbers;
  fits = λ s n. Unit {0};
  takes = λ s x. 0;
  none = λ s. refl;
  more = λ s t u es fs h k. k ∙ h;
  same = λ s t es h. (ap read h, refl);
  less = λ s m n order h. tt;
}
