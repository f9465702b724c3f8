-- What the laws of the output say; `laws` proves each.
use Rattle.std.specs.Prelude.{◌≡◌, ℕ, List, [], ◌∷◌, ◌++◌, ◌⊎◌, Option}
use Rattle.wkt_lines.specs.Output.{IsOutput}

-- The bytes end after a line feed, or there are none.
abbrev pub IsWholeLines : List ℕ → Type 0
IsWholeLines bs = (bs ≡ []) ⊎ ((as' : List ℕ) × (bs ≡ as' ++ 10 ∷ []))

-- Each part ends after a line feed, or is empty.
abbrev pub AreWhole : List (List ℕ) → Type 0
AreWhole [] = Unit {0}
AreWhole (p ∷ ps) = IsWholeLines p × AreWhole ps

-- The parts one after the other, and then the last.
abbrev pub joined : List (List ℕ) → List ℕ → List ℕ
joined [] last = last
joined (p ∷ ps) last = p ++ joined ps last

module _ {N : Type 0} (read : List ℕ → Option N) (num : N → List ℕ) where
  -- The outputs for the parts, in their order.
  abbrev pub AreOutputs : List (List ℕ) → List (List ℕ) → Type 0
  AreOutputs [] outs = outs ≡ []
  AreOutputs (p ∷ ps) outs =
      (out : List ℕ) × (rest : List (List ℕ)) × (outs ≡ out ∷ rest) × IsOutput read num p out × AreOutputs ps rest

  -- An input has one output at most.
  abbrev pub OneOutput : Type 0
  OneOutput = (input x y : List ℕ) → IsOutput read num input x → IsOutput read num input y → x ≡ y

  -- The outputs for the parts make the output for the whole.
  abbrev pub OutputOfParts : Type 0
  OutputOfParts =
      (parts outs : List (List ℕ)) (last out : List ℕ) → AreWhole parts → AreOutputs parts outs → IsOutput read num last out
      → IsOutput read num (joined parts last) (joined outs out)

  -- The output for the whole is made of outputs for the parts.
  abbrev pub PartsOfOutput : Type 0
  PartsOfOutput =
      (parts : List (List ℕ)) (last z : List ℕ) → AreWhole parts → IsOutput read num (joined parts last) z
      → (outs : List (List ℕ)) × (out : List ℕ) × (z ≡ joined outs out) × AreOutputs parts outs × IsOutput read num last out
