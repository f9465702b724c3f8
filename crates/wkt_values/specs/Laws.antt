-- What values have to do with the events of a machine.
use Rattle.std.specs.Prelude.{◌≡◌, [], Some, None}
use Rattle.wkt_access.specs.Values.{Value}
use Rattle.wkt_access.specs.WellFormed.{IsWellFormed}
use Rattle.wkt_machine.specs.Events.{events}
use Rattle.wkt_values.specs.Growing.{rest, grow_all, MayAll}

-- A value whose coordinates fit their headers grows from its events, and each may come where it does.
abbrev pub GrowsFromEvents : {N : Type 0} → (is_value : N → Type 0) → Type 0
GrowsFromEvents {N} is_value =
    (v : Value N) → IsWellFormed is_value v → (grow_all (events v) (rest [] None) ≡ rest [] (Some v)) × MayAll (events v) (rest [] None)
