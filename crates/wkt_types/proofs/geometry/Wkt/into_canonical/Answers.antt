-- The value is the canonical one, and reading its text gives this geometry.
use Rattle.std.proofs.Common.{ap, sym, ◌∙◌, subst}
use Rattle.wkt_access.specs.Shapes.{canon}
use Rattle.wkt_types.specs.Tree.{tree}
use Rattle.wkt_types.specs.Values.{value_of, tree_shape, IsWktOf}
use Rattle.wkt_types.proofs.Canonicals.{canonical_value, canonical_is_read}
use Rattle.wkt_types.proofs.geometry.Wkt.into_canonical.Goals as goal

pub returns-clause-value : goal.returns-clause-value
returns-clause-value g c = ap value_of c.canonical_geometry.ensures ∙ canonical_value (tree c.args.self)

pub returns-clause-as_read : goal.returns-clause-as_read
returns-clause-as_read g c = λ h. subst (IsWktOf (canon (tree_shape (tree c.args.self)))) (sym c.canonical_geometry.ensures) (canonical_is_read (tree c.args.self) h)
