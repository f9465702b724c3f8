-- What a text builder writes that is sent the arrays of the caller, who is answered so.
use Rattle.std.proofs.Common.{◌+◌, ◌++◌, ◌≤◌, ◌/◌, ◌%◌, ◌^◌, ◌==◌, ℕ, zero, suc, ℤ, pos, negsuc, Bool, true, false, [], ◌∷◌, length, arith, length-append, if◌then◌else◌, ◌≡◌, ◌*◌, List, sym, ap, ◌∙◌, subst, ◌⊎◌, inl, inr}
use Rattle.std.specs.Prelude.{int_lt}
use Rattle.std.specs.Fmt.{decimal, sign_text}
use Rattle.std.proofs.lemmas.Fmt.{length-decimal-le_wide}
use Rattle.std.proofs.Math.Nat.{div-le_self}
use Rattle.std.specs.List.{All, AllByRecursion}
use Rattle.std.proofs.lemmas.List.Elements.{recursion_from_All}
use Rattle.wkt_num.specs.Decimal.{fraction_digits, fraction_text, magnitude_text, decimal_text, IsUnits, read_decimal}
use Rattle.wkt_num.specs.DecimalLaws.{decimal_reads_back, decimal_number_text}
use Rattle.wkt_num.specs.Whole.{IsSigned}
use Rattle.wkt_access.specs.Values.{Value}
use Rattle.wkt_access.specs.WellFormed.{IsWellFormed}
use Rattle.wkt_access.specs.Shapes.{shape_of, canon}
use Rattle.wkt_access.specs.Texts.{shape_text}
use Rattle.wkt_access.specs.declared.dimensions.Dimension.{Dimension}
use Rattle.wkt_write.proofs.Writable.{canon_well_formed, writable}
use Rattle.wkt_types.specs.declared.geometry_type.GeometryType.{GeometryType}
use Rattle.wkt_read.specs.Front.{Front}
use Rattle.wkt_read.specs.Header.{kind_of, dim_of}
use Rattle.wkt_read.proofs.Spelled.{front_of_text}
use Rattle.wkt_machine.specs.Events.{Event, events}
use Rattle.wkt_machine.specs.Makers.{Maker}
use Rattle.wkt_canonical.specs.TextBuilderMaker.{text_builder_maker, IsFresh, IsWithin}
use Rattle.wkt_canonical.specs.declared.text_builder.TextBuilder.{TextBuilder}
use Rattle.wkt_canonical.proofs.TextBuilderOutput.{fits-fresh, within-room}
use Rattle.wkt_fill.specs.Arrays.{IsGiven, events_cost, Tells}
use Rattle.wkt_fill.specs.declared.given.Given.{Given}
use Rattle.wkt_fill.proofs.Costs.{given-cost}
use Rattle.wkt_calls.specs.Answer.{kind_number, dimension_number, IsHandedOut, HasNoRoom}
use Rattle.wkt_calls.specs.Arrays.{AreArrays}
use Rattle.wkt_calls.specs.ColumnArrays.{IsTextOf, AreOfSome}
use Rattle.wkt_calls.specs.Rows.{CopiesOutText}

-- How long the text of a number of 64 bits is, at most.

digits-length : (D f : ℕ) → length (fraction_digits D f) ≤ D
digits-length zero f = omega arith
digits-length (suc j) f = go (digits-length j (f % 10 ^ j)) (f == 0)
  where
    go : length (fraction_digits j (f % 10 ^ j)) ≤ j → (b : Bool) → length (if b then [] else (48 + f / 10 ^ j) ∷ fraction_digits j (f % 10 ^ j)) ≤ suc j
    go h true = omega arith
    go h false = omega (arith, h)

fraction-length : (D f : ℕ) → length (fraction_text D f) ≤ D + 1
fraction-length D f = go (f == 0)
  where
    go : (b : Bool) → length (if b then [] else 46 ∷ fraction_digits D f) ≤ D + 1
    go true = omega arith
    go false = omega (arith, digits-length D f)

sign-length : (b : Bool) → length (sign_text b) ≤ 1
sign-length true = omega arith
sign-length false = omega arith

magnitude-length : (D : ℕ) (b : Bool) (m : ℕ) → m ≤ 2 ^ 63 → length (magnitude_text D b m) ≤ D + 21
magnitude-length D b m small =
    let w : ℕ = m / 10 ^ D in
    let f : ℕ = m % 10 ^ D in
    let less : w ≤ 2 ^ 63 = omega (arith, div-le_self m (10 ^ D), small) in
    omega (arith, length-append (sign_text b ++ decimal w) (fraction_text D f), length-append (sign_text b) (decimal w), sign-length b, length-decimal-le_wide 19 w (omega arith) (omega (arith, less)) (omega (arith, less)), fraction-length D f)

-- a sign, nineteen digits, a point, and the places
pub number-length : (D : ℕ) (x : ℤ) → IsSigned 63 x → length (decimal_text D x) ≤ D + 21
number-length D (pos n) h = magnitude-length D (int_lt (pos n) (pos 0)) n (omega (arith, h))
number-length D (negsuc n) h = magnitude-length D (int_lt (negsuc n) (pos 0)) (suc n) (omega (arith, h))

-- What a text builder writes that is sent the arrays of the caller.

-- the numbers are those of one kind and of one dimension
module _ (D : ℕ) (g : Given) (kind dimension : ℕ) (k : kind ≡ kind_number g.kind) (d : dimension ≡ dimension_number g.dimension)
    (one_kind : (l : GeometryType) → kind ≡ kind_number l → g.kind ≡ l) (one_dimension : (e : Dimension) → dimension ≡ dimension_number e → g.dimension ≡ e) where
  is-given : (v : Value ℤ) → IsWellFormed (IsUnits D) v → AreArrays v kind dimension g.numbers.now g.rings.now g.polygons.now → IsGiven D g v
  is-given v fits are = record {
    fits = fits;
    parts = are.parts;
    flat = are.flat;
    kind_is = one_kind (kind_of v) are.kind_is;
    dimension_is = one_dimension (dim_of v) are.dimension_is;
    numbers_are = are.numbers_are;
    rings_are = are.rings_are;
    polygons_are = are.polygons_are;
  }

  are-arrays : (v : Value ℤ) → IsGiven D g v → AreArrays v kind dimension g.numbers.now g.rings.now g.polygons.now
  are-arrays v h = record {
    parts = h.parts;
    flat = h.flat;
    kind_is = k ∙ ap kind_number h.kind_is;
    dimension_is = d ∙ ap dimension_number h.dimension_is;
    numbers_are = h.numbers_are;
    rings_are = h.rings_are;
    polygons_are = h.polygons_are;
  }

  -- arrays of no value are of none
  pub of-none : ((v : Value ℤ) → IsGiven D g v → ⊥) → AreOfSome D kind dimension g.numbers.now g.rings.now g.polygons.now → ⊥
  of-none none q = none q.0 (is-given q.0 q.1 q.2)

  pub text-of : (v : Value ℤ) → IsGiven D g v → (text : List ℕ) → text ≡ shape_text (decimal_text D) (shape_of v) → IsTextOf D kind dimension g.numbers.now g.rings.now g.polygons.now text
  text-of v h text is =
      let num = decimal_text D in
      let read = read_decimal 127 36 D in
      let sound = writable (IsUnits D) v h.fits in
      let front = front_of_text (IsUnits D) num read (record { reads_back = decimal_reads_back D; number_text = decimal_number_text D }) (canon (shape_of v)) (canon_well_formed (IsUnits D) (shape_of v) sound.0 sound.1) in
      record {
        value = v;
        fits = h.fits;
        arrays = are-arrays v h;
        is = is;
        reads = subst (λ bs. Front read bs (canon (shape_of v)) (length bs)) (sym is) front;
      }

takes : (D : ℕ) (xs : List ℤ) → AllByRecursion (IsSigned 63) xs → AllByRecursion (λ x. length (decimal_text D x) + 1 ≤ D + 22) xs
takes D [] h = tt
takes D (x ∷ xs) h = let short = number-length D x h.0 in (omega (arith, short), takes D xs h.1)

abbrev pub builders : Maker ℤ (TextBuilder ℕ)
builders = text_builder_maker (read_decimal 127 36) decimal_text

-- there is room for the events of a value of the arrays
pub has-room : (D q : ℕ) (g : Given) → All (IsSigned 63) g.numbers.now → (room : List ℕ) (p : TextBuilder ℕ) → IsFresh D room p → (n : ℕ) →
    length g.numbers.now * (D + 23) + 7 * length g.rings.now + 7 * length g.polygons.now + 74 ≤ n → n ≤ length room → (v : Value ℤ) → IsGiven q g v → builders.fits p (events_cost (builders.takes p) (events v))
has-room D q g small room p fresh n enough large v h =
    let cost = given-cost (builders.takes p) (p.numbers + 22) q g v h (takes p.numbers g.numbers.now (recursion_from_All (IsSigned 63) g.numbers.now small)) in
    let same : length g.numbers.now * (p.numbers + 22 + 1) ≡ length g.numbers.now * (D + 23) = ap (λ k. length g.numbers.now * k) (omega (arith, fresh.numbers)) in
    fits-fresh (read_decimal 127 36 D) (decimal_text D) D room p (events_cost (builders.takes p) (events v)) fresh (omega (arith, cost, same, enough, large))

-- what the text builder has written then lies within its room
pub is-within : (p t : TextBuilder ℕ) (es : List (Event ℤ)) → builders.fits p (events_cost (builders.takes p) es) → Tells builders p es t → IsWithin t
is-within p t es fits sent = within-room (read_decimal 127 36 t.numbers) (decimal_text t.numbers) t (sent.leaves 0 (omega (arith, fits)))

-- What a caller is answered who gave arrays.

module _ (places kind dimension : ℕ) (numbers : List ℤ) (rings polygons : List ℕ) (room : ℕ) where
  -- the text was handed out, or there was no room
  pub handed : (text given old new : List ℕ) (before needed status : ℕ) → IsTextOf places kind dimension numbers rings polygons text → given ≡ text →
      (status ≡ 0 → IsHandedOut given needed old new) → (status ≡ 21 → HasNoRoom given needed old) → (1 ≤ status → new ≡ old) → (status ≡ 0) ⊎ (status ≡ 21) →
      CopiesOutText places kind dimension numbers rings polygons room old new before needed status
  handed text given old new before needed status is e stands lacks kept two =
      let its : IsTextOf places kind dimension numbers rings polygons given = subst (λ xs. IsTextOf places kind dimension numbers rings polygons xs) (sym e) is in
      record {
        written = λ z. (given, its, stands z);
        small = λ z. (given, its, lacks z);
        memory = λ m. elim two [ inl z ↦ absurd (omega (arith, m, z)) | inr z ↦ absurd (omega (arith, m, z)) ];
        others = λ some other. elim two [ inl z ↦ absurd (omega (arith, some, z)) | inr z ↦ absurd (other z) ];
        kept = kept;
        needed_kept = λ some other. elim two [ inl z ↦ absurd (omega (arith, some, z)) | inr z ↦ absurd (other z) ];
      }
