-- The shape of a figure that is a group.
use Rattle.std.proofs.Common.{◌≡◌, ℤ, map, ap, sym, ◌∙◌}
use Rattle.std.specs.declared.vec.Vec.{Vec}
use Rattle.std.specs.declared.alloc.Global.{Global}
use Rattle.wkt.specs.Dimensions.{Dimensions}
use Rattle.wkt.specs.Shapes.{Shape}
use Rattle.wkt.specs.Parts.{collection_of}
use Rattle.wkt_examples.specs.declared.my_map.Figure.{Figure}
use Rattle.wkt_examples.specs.declared.my_map.Figure.TheVariants.{rolls-Group}
use Rattle.wkt_examples.specs.declared.my_map.Figure.TheOpen.{Group}
use Rattle.wkt_examples.specs.declared.my_map.Figure.TheFolds.{fold-roll-Figure}
use Rattle.wkt_examples.specs.Mine.{figure_step, figure_shape}
use Rattle.wkt_examples.specs.declared.my_map.Figure.TheViews as views

-- the shape of a group is the collection of its members' shapes
pub group_shape : (f : Figure) (d : Dimensions) (fs : Vec Figure Global) → f ≡ views.Group d fs → figure_shape f ≡ collection_of d (map figure_shape fs.items)
group_shape f d fs e = ap figure_shape (e ∙ sym (rolls-Group d fs)) ∙ fold-roll-Figure (Shape ℤ) figure_step (Group d fs)
