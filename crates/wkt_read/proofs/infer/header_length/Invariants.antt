use Rattle.std.proofs.Common.{◌≡◌, ◌≤◌, ◌-◌, length, take, drop}
use Rattle.wkt_read.specs.Header.{header_cut}
use Rattle.wkt_read.proofs.Headers.{with_bytes}
use Rattle.wkt_read.proofs.infer.header_length.Given as goal

abbrev pub invariant-place : goal.invariant-place
invariant-place l = record { within : l.i ≤ length l.text; same : header_cut l.text ≡ with_bytes (take l.i l.text) (header_cut (drop l.i l.text)) }

abbrev pub decreases-place : goal.decreases-place
decreases-place l = length l.text - l.i
