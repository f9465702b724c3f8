-- The arrays are those of a value where they fit each other, and of none where they don't.
use Rattle.std.proofs.Common.{◌≡◌, ◌<◌, ◌≤◌, ℕ, suc, ℤ, pos, negsuc, length, ◌-◌, ◌*◌, ◌/◌, refl, sym, ap, ◌∙◌, subst, arith, Bool, true, false, List, [], ◌∷◌, mul-div_cancel}
use Rattle.std.specs.Bool.{OnTrue, OnFalse}
use Rattle.std.specs.List.{All, AllByRecursion}
use Rattle.wkt_num.specs.Decimal.{IsUnits}
use Rattle.wkt_num.specs.Whole.{IsSigned}
use Rattle.wkt_access.specs.Values.{Value, size}
use Rattle.wkt_access.specs.declared.dimensions.Dimension.{Dimension}
use Rattle.wkt_access.specs.declared.dimensions.Dimension.TheVariants.{XY}
use Rattle.wkt_fill.specs.Arrays.{IsGiven, AreOffsetsTo, AreWhole}
use Rattle.wkt_fill.specs.declared.given.Given.{Given}
use Rattle.wkt_fill.proofs.Between.{whole-of, has-parts}
use Rattle.wkt_fill.proofs.Whole.{made}
use Rattle.wkt_fill.proofs.given.are_arrays.Goals as goal

positive : (d : Dimension) → 0 < size d
positive XY = omega arith
positive _ = omega arith

wider : (x : ℤ) → IsSigned 63 x → IsSigned 127 x
wider (pos n) h = omega (arith, h)
wider (negsuc n) h = omega (arith, h)

units : (places : ℕ) → places ≤ 36 → (xs : List ℤ) → All (IsSigned 63) xs → AllByRecursion (IsUnits places) xs
units places few [] h = tt
units places few (x ∷ xs) h = ((few, wider x (h 0 x (omega arith))), units places few xs (λ k d lt. h (suc k) d (omega (arith, lt))))

-- how many coordinates there are
count : (g : Given) (w : AreWhole g) (n : ℕ) → n ≡ size g.dimension → length g.numbers.now / n ≡ w.coordinates
count g w n is =
    ap (λ (k : ℕ). length g.numbers.now / k) is ∙ ap (λ (k : ℕ). k / size g.dimension) w.numbers ∙ mul-div_cancel w.coordinates (positive g.dimension)

whole : (g : Given) (n : ℕ) → n ≡ size g.dimension → length g.numbers.now / n * n ≡ length g.numbers.now → AreOffsetsTo g.rings.now (length g.numbers.now / n) → AreOffsetsTo g.polygons.now (length g.rings.now - 1) → AreWhole g
whole g n is even rings polygons = record {
  coordinates = length g.numbers.now / n;
  numbers = sym even ∙ ap (λ (k : ℕ). length g.numbers.now / n * k) is;
  rings = rings;
  polygons = polygons;
}

pub returns-clause-some : goal.returns-clause-some
returns-clause-some c = on c.has_parts.result refl
  where
    w : AreWhole c.args.given
    w = whole c.args.given c.size_of-size.result c.size_of-size.ensures c.if-coordinates-size.false
        (c.are_offsets.ensures.0 c.if-not-are_offsets.false) (c.are_offsets-2.ensures.0 c.if-not-are_offsets-2.false)

    on : (b : Bool) → c.has_parts.result ≡ b → OnTrue b ((places : ℕ) → places ≤ 36 → (v : Value ℤ) × IsGiven places c.args.given v)
    on true e = λ places few. made places c.args.given w (units places few c.args.given.numbers.now c.of_64_bits.ensures) (c.has_parts.ensures.0 e)
    on false e = tt

pub returns-clause-none : goal.returns-clause-none
returns-clause-none c = on c.has_parts.result refl
  where
    on : (b : Bool) → c.has_parts.result ≡ b → OnFalse b ((places : ℕ) (v : Value ℤ) → IsGiven places c.args.given v → ⊥)
    on true e = tt
    on false e = λ places v h. let clash : false ≡ true = sym e ∙ c.has_parts.ensures.1 (has-parts places c.args.given v h) in absurd (cc)

pub returns-then-coordinates-size-clause-none : goal.returns-then-coordinates-size-clause-none
returns-then-coordinates-size-clause-none c = λ places v h.
    let w = whole-of places c.args.given v h in
    let n : ℕ = c.size_of-size.result in
    let size-is = c.size_of-size.ensures in
    c.if-coordinates-size.true (ap (λ (k : ℕ). k * n) (count c.args.given w n size-is) ∙ ap (λ (k : ℕ). w.coordinates * k) size-is ∙ sym w.numbers)

pub returns-then-not-are_offsets-clause-none : goal.returns-then-not-are_offsets-clause-none
returns-then-not-are_offsets-clause-none c = λ places v h.
    let w = whole-of places c.args.given v h in
    let n : ℕ = c.size_of-size.result in
    let clash : false ≡ true = sym c.if-not-are_offsets.true ∙ c.are_offsets.ensures.1 (subst (AreOffsetsTo c.args.given.rings.now) (sym (count c.args.given w n c.size_of-size.ensures)) w.rings) in
    absurd (cc)

pub returns-then-not-are_offsets-2-clause-none : goal.returns-then-not-are_offsets-2-clause-none
returns-then-not-are_offsets-2-clause-none c = λ places v h.
    let w = whole-of places c.args.given v h in
    let clash : false ≡ true = sym c.if-not-are_offsets-2.true ∙ c.are_offsets-2.ensures.1 w.polygons in
    absurd (cc)
