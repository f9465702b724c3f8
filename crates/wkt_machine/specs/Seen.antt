-- What is seen at each place, as far as the machine looks at it. Only private contracts cite these words.
use Rattle.std.specs.Prelude.{ℕ, suc, Option, Some, None}
use Rattle.wkt_access.specs.declared.dimensions.Dimension.TheVariants.{XY}
use Rattle.wkt_machine.specs.Machine.{at, inside, outside, part_of, joined_step, number_step, bare_step, comma_step, Place, State}
use Rattle.wkt_machine.specs.Machine as place
use Rattle.wkt_machine.specs.Machines.{state_of}
use Rattle.wkt_machine.specs.declared.machine.Machine.{Machine}
use Rattle.wkt_machine.specs.declared.machine.LexemeKind.{LexemeKind}
use Rattle.wkt_machine.specs.declared.machine.LexemeKind.TheVariants as seen
use Rattle.wkt_machine.specs.declared.part.Part.TheVariants as part
use Rattle.wkt_machine.specs.declared.step.Action.{Action}
use Rattle.wkt_machine.specs.declared.step.Action.TheVariants as act

-- what is seen at each place
abbrev pub seen_at : Place → ℕ → LexemeKind → Option (State × Action)
seen_at place.Kind n (seen.Kind k j) = Some (joined_step (part_of k) j n)
seen_at (place.Alone p) n (seen.Dimension d) = Some (at n (place.Opening p d), act.Header p d)
seen_at (place.Alone p) n seen.Empty = Some (outside p XY n, act.HeaderEmpty p)
seen_at (place.Alone p) n seen.Open = Some (inside p XY n, act.HeaderOpen p)
seen_at (place.Opening p d) n seen.Open = Some (inside p d n, act.Open p)
seen_at (place.Opening p d) n seen.Empty = Some (outside p d n, act.Empty p)
seen_at (place.Opening p d) n seen.Number = bare_step p d n
seen_at (place.Number p d more) n seen.Number = Some (number_step p d more n)
seen_at (place.Item p d) n seen.Comma = comma_step p d n
seen_at (place.Item p d) n seen.Close = Some (outside p d n, act.Close p)
seen_at place.Geometry (suc n) seen.Comma = Some (at (suc n) place.Kind, act.Comma part.Collection)
seen_at place.Geometry (suc n) seen.Close = Some (at n place.Geometry, act.Close part.Collection)
seen_at p n k = None

-- what a machine that has gone on stands for
abbrev pub gone : Machine × Action → State × Action
gone r = (state_of r.0, r.1)

abbrev pub stepped : Option (Machine × Action) → Option (State × Action)
stepped (Some r) = Some (gone r)
stepped None = None
