-- Which dialects a number asks for.
use Rattle.std.specs.Prelude.{ℕ, ◌/◌, ◌%◌, ◌==◌}
use Rattle.wkt_dialects.specs.declared.dialects.Dialects.{Dialects}

-- 512 is added for `srid`, 1024 for `untagged`, 2048 for `exponents`, 4096 for `nan`.
abbrev pub dialects_in : ℕ → Dialects
dialects_in n = record {
  srid = n / 512 % 2 == 1;
  untagged = n / 1024 % 2 == 1;
  exponents = n / 2048 % 2 == 1;
  nan = n / 4096 % 2 == 1;
}
