-- The numbers of a coordinate are told one after another.
use Rattle.std.proofs.Common.{ℕ, ◌*◌, ap, subst, sym, refl, []}
use Rattle.wkt_access.specs.declared.dimensions.Dimension.TheVariants as dim
use Rattle.wkt_machine.specs.declared.part.Axis.TheVariants as axis
use Rattle.wkt_fill.specs.Arrays.{Tells}
use Rattle.wkt_fill.proofs.Owing.{more-of, x-fits, y-fits, z-fits, m-fits, two-told, three-told, rest-told}
use Rattle.wkt_fill.proofs.telling.coordinate.Goals as goal

pub number-made-requires-clause-room : goal.number-made-requires-clause-room
number-made-requires-clause-room g c =
    let at = ap (λ (k : ℕ). c.args.index * k) c.size_of.ensures in
    x-fits g.B.Builder.maker c.args.given.dimension c.args.given.numbers.now c.args.index _ at c.requires.within c.args.builder c.requires.room

pub number-made-requires-2-clause-room : goal.number-made-requires-2-clause-room
number-made-requires-2-clause-room g c =
    let at = ap (λ (k : ℕ). c.args.index * k) c.size_of.ensures in
    y-fits g.B.Builder.maker c.args.given.dimension c.args.given.numbers.now c.args.index _ at c.requires.within c.args.builder c.requires.room c.number-made.result c.number-made.ensures

pub number-requires-clause-room : goal.number-requires-clause-room
number-requires-clause-room g c =
    let at = ap (λ (k : ℕ). c.args.index * k) c.size_of.ensures in
    z-fits g.B.Builder.maker c.args.given.dimension c.args.given.numbers.now c.args.index _ at c.requires.within c.args.builder c.requires.room c.number-made.result c.number-made.ensures c.number-made-2.result c.number-made-2.ensures _ axis.Z [] (more-of c.args.given.dimension dim.XYZ _ c.args.given.numbers.now c.in-XYZ.is)

pub number-requires-in-XYM-clause-room : goal.number-requires-in-XYM-clause-room
number-requires-in-XYM-clause-room g c =
    let at = ap (λ (k : ℕ). c.args.index * k) c.size_of.ensures in
    z-fits g.B.Builder.maker c.args.given.dimension c.args.given.numbers.now c.args.index _ at c.requires.within c.args.builder c.requires.room c.number-made.result c.number-made.ensures c.number-made-2.result c.number-made-2.ensures _ axis.M [] (more-of c.args.given.dimension dim.XYM _ c.args.given.numbers.now c.in-XYM.is)

pub number-made-requires-in-XYZM-clause-room : goal.number-made-requires-in-XYZM-clause-room
number-made-requires-in-XYZM-clause-room g c =
    let at = ap (λ (k : ℕ). c.args.index * k) c.size_of.ensures in
    z-fits g.B.Builder.maker c.args.given.dimension c.args.given.numbers.now c.args.index _ at c.requires.within c.args.builder c.requires.room c.number-made.result c.number-made.ensures c.number-made-2.result c.number-made-2.ensures _ axis.Z _ (more-of c.args.given.dimension dim.XYZM _ c.args.given.numbers.now c.in-XYZM.is)

pub number-requires-in-XYZM-clause-room : goal.number-requires-in-XYZM-clause-room
number-requires-in-XYZM-clause-room g c =
    let at = ap (λ (k : ℕ). c.args.index * k) c.size_of.ensures in
    m-fits g.B.Builder.maker c.args.given.dimension c.args.given.numbers.now c.args.index _ at c.requires.within c.args.builder c.requires.room c.number-made.result c.number-made.ensures c.number-made-2.result c.number-made-2.ensures _ axis.Z _ (more-of c.args.given.dimension dim.XYZM _ c.args.given.numbers.now c.in-XYZM.is)
    c.number-made-in-XYZM.result c.number-made-in-XYZM.ensures _ refl

pub returns-in-XY : goal.returns-in-XY
returns-in-XY g c =
    let at = ap (λ (k : ℕ). c.args.index * k) c.size_of.ensures in
    two-told g.B.Builder.maker c.args.given.dimension c.args.given.numbers.now c.args.index _ at c.requires.within c.args.builder c.requires.room
    c.number-made.result c.number-made.ensures c.number-made-2.result c.number-made-2.ensures (more-of c.args.given.dimension dim.XY _ c.args.given.numbers.now c.in-XY.is)

pub returns-in-XYZ : goal.returns-in-XYZ
returns-in-XYZ g c =
    let at = ap (λ (k : ℕ). c.args.index * k) c.size_of.ensures in
    three-told g.B.Builder.maker c.args.given.dimension c.args.given.numbers.now c.args.index _ at c.requires.within c.args.builder c.requires.room
    c.number-made.result c.number-made.ensures c.number-made-2.result c.number-made-2.ensures c.number.result
    (subst (λ es. Tells g.B.Builder.maker c.number-made-2.result es c.number.result) (sym (more-of c.args.given.dimension dim.XYZ _ c.args.given.numbers.now c.in-XYZ.is)) c.number.ensures)

pub returns-in-XYM : goal.returns-in-XYM
returns-in-XYM g c =
    let at = ap (λ (k : ℕ). c.args.index * k) c.size_of.ensures in
    three-told g.B.Builder.maker c.args.given.dimension c.args.given.numbers.now c.args.index _ at c.requires.within c.args.builder c.requires.room
    c.number-made.result c.number-made.ensures c.number-made-2.result c.number-made-2.ensures c.number-in-XYM.result
    (subst (λ es. Tells g.B.Builder.maker c.number-made-2.result es c.number-in-XYM.result) (sym (more-of c.args.given.dimension dim.XYM _ c.args.given.numbers.now c.in-XYM.is)) c.number-in-XYM.ensures)

pub returns-in-XYZM : goal.returns-in-XYZM
returns-in-XYZM g c =
    let at = ap (λ (k : ℕ). c.args.index * k) c.size_of.ensures in
    rest-told g.B.Builder.maker c.args.given.dimension c.args.given.numbers.now c.args.index _ at c.requires.within c.args.builder c.requires.room
    c.number-made.result c.number-made.ensures c.number-made-2.result c.number-made-2.ensures _ axis.Z _ (more-of c.args.given.dimension dim.XYZM _ c.args.given.numbers.now c.in-XYZM.is)
    c.number-made-in-XYZM.result c.number-made-in-XYZM.ensures c.number-in-XYZM.result c.number-in-XYZM.ensures
