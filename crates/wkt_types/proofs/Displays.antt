-- What was displayed, where a shape has no error.
use Rattle.std.proofs.Common.{◌≡◌, ℕ, List, None}
use Rattle.std.specs.Prelude.{IfSome}
use Rattle.wkt_access.specs.Shapes.{Shape}
use Rattle.wkt_access.specs.Texts.{shape_text}
use Rattle.wkt_access.specs.Faults.{fault}
use Rattle.wkt_types.specs.Shown.{shown}

-- the text that is displayed of a shape without an error
pub shown_is : {N : Type 0} (num : N → List ℕ) (s : Shape N) (bs : List ℕ) → fault s ≡ None → IfSome (shown num s) (λ t. bs ≡ t) → bs ≡ shape_text num s
shown_is num s bs e h = rw e at h
