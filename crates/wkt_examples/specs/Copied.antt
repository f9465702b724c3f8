-- A polygon that is read as a flat one, and written.
use Rattle.std.specs.Prelude.{ℕ, List, Option, Result, Ok, Err, Bool, IsUtf8, ◌≡◌}
use Rattle.std.specs.Io.KnownBytes.{Appends}
use Rattle.wkt.specs.Sinks.{BeginningOut}
use Rattle.wkt.specs.ConvertError.{ConvertError}
use Rattle.wkt_examples.specs.declared.flat_from_reader.CopyError.{CopyError}
use Rattle.wkt.specs.Texts.{shape_text}
use Rattle.wkt.specs.Rings.{Rings}
use Rattle.wkt.specs.FlatTree.{Flat}
use Rattle.wkt.specs.FlatCoord.{Coord}
use Rattle.wkt.specs.Outcome.{value}
use Rattle.wkt.specs.TreeValues.{tree_shape}
use Rattle.wkt.specs.Back.{back}
use Rattle.wkt.specs.FromText.{FrontGives}
use Rattle.wkt.specs.FlatKinds.{only_flat, polygon_kind}
use Rattle.wkt.specs.ToWktError.TheVariants as send
use Rattle.wkt_examples.specs.declared.flat_from_reader.CopyError.TheVariants as copy

-- The bytes are a text that has a polygon at its front, and the text of its flat value went out.
pub record IsCopied {T : Type 0} (read : List ℕ → Option T) (num : T → List ℕ) (E : T → T → Bool) (old new : Option (List ℕ)) (bytes : List ℕ) : Type 0 where
  pub rings : Rings (Coord T)
  pub utf8 : IsUtf8 bytes
  pub front : FrontGives read (only_flat polygon_kind E) bytes (value rings)
  pub went : Appends old new (shape_text num (tree_shape (back (Flat.polygon rings))))

-- The bytes are a text that has a polygon at its front, and a beginning of the text of its flat value went out.
pub record IsPartCopied {T : Type 0} (read : List ℕ → Option T) (num : T → List ℕ) (E : T → T → Bool) (old new : Option (List ℕ)) (bytes : List ℕ) : Type 0 where
  pub rings : Rings (Coord T)
  pub utf8 : IsUtf8 bytes
  pub front : FrontGives read (only_flat polygon_kind E) bytes (value rings)
  pub went : BeginningOut old new (shape_text num (tree_shape (back (Flat.polygon rings))))

-- The fact is claimed where no polygon was read.
abbrev pub IfRead : {A : Type 0} → Result A CopyError → (ConvertError → Type 0) → Type 0
IfRead (Ok x) P = Unit {0}
IfRead (Err (copy.Read e)) P = P e
IfRead (Err (copy.Write e)) P = Unit {0}

-- The fact is claimed where the polygon wasn't written whole. The sink's error alone comes then.
abbrev pub OnWrite : {A : Type 0} → Result A CopyError → Type 0 → Type 0
OnWrite (Ok x) P = Unit {0}
OnWrite (Err (copy.Read e)) P = Unit {0}
OnWrite (Err (copy.Write (send.Shape e))) P = ⊥
OnWrite (Err (copy.Write (send.Io e))) P = P
