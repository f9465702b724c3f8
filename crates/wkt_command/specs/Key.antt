-- What lies under a `Key`.
use Rattle.std.specs.Prelude.{ℕ, ◌≤◌, List, take, string_bytes, ⊤}
use Rattle.wkt_command.specs.declared.key.Inner.{Inner}
use Rattle.wkt_command.specs.declared.key.Inner.TheVariants.{Short, Long}

-- the bytes of a text
abbrev pub inner_bytes : Inner → List ℕ
inner_bytes (Short bytes len) = take len bytes
inner_bytes (Long text) = string_bytes text

-- the length is one that fits
abbrev pub IsWithin : Inner → Type 0
IsWithin (Short bytes len) = len ≤ 46
IsWithin (Long text) = ⊤
