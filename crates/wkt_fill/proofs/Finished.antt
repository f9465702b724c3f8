-- The arrays of the front of a text, and a number that comes next.
use Rattle.std.proofs.Common.{ℕ, ℤ, ◌+◌, ◌-◌, ◌≤◌, List, [], length, take, drop, refl, sym, subst, ◌∙◌, to_z, of_z, w64, ◌≡◌, ◌≢◌, ◌⊎◌, inl, inr, ◌++◌, suc, zero, ap, arith, Option, Some, Bool, true, false, IfSome}
use Rattle.std.specs.Prelude.{IsUtf8}
use Rattle.std.proofs.lemmas.List.{take_rest, append-nil}
use Rattle.std.specs.List.{Contains}
use Rattle.wkt_num.specs.Decimal.{read_decimal, IsUnits}
use Rattle.wkt_num.specs.DigitParts.{BeginsUnits}
use Rattle.wkt_num.proofs.NumberInWindow.{held-is}
use Rattle.wkt_events.proofs.Runs.{kept-there}
use Rattle.wkt_machine.specs.Makers.{MakesNumber}
use Rattle.wkt_machine.specs.declared.part.Axis.{Axis}
use Rattle.wkt_fill.specs.Filled.{put, on, Headed, is_collection, steps, arrays_of, unheaded, Lacks, lacks_on, ArrayBuilderBecomes, array_builder_maker, view, Fills, ArrayBuilderBegins, RefusesCollection, HoldsAll, FillsFront}
use Rattle.wkt_fill.specs.declared.array_builder.ArrayBuilder.{ArrayBuilder}
use Rattle.wkt_fill.specs.declared.array_builder.Room.{Room}
use Rattle.wkt_num.specs.DecimalLaws.{decimal_reads_values}
use Rattle.wkt_num.proofs.ReadNumbers.{decimal_utf8}
use Rattle.wkt_access.specs.Values.{Value}
use Rattle.wkt_read.specs.Front.{Front}
use Rattle.wkt_read.proofs.OneForm.{geometry_fits}
use Rattle.wkt_events.proofs.Utf8Lines.{text-with-front, text-behind-front}
use Rattle.wkt_machine.specs.Events.{events}
use Rattle.wkt_fill.specs.Arrays.{joined, numbers_in, offsets, HasLarge, LackPlaces, IsUnheld}
use Rattle.wkt_fill.proofs.EventsToArrays.{IsHeld, IsCollected, outcome}

-- A number that is read from its first bytes comes next.

pub makes-fast : (D : ℕ) (text : List ℕ) (at : ℕ) (axis : Axis) (end : ℕ) (units : ℤ) (s t : ArrayBuilder) → at ≤ length text → BeginsUnits D (take (length text - at) (drop at text)) units end
    → ArrayBuilderBecomes s (on (λ k. put k axis (to_z w64 (of_z w64 units))) (view s)) t → MakesNumber (read_decimal 127 36 D) array_builder_maker s text at axis t (at + end)
makes-fast D text at axis end units s t inside b does =
    let k : BeginsUnits D (drop at text) units end = subst (λ l. BeginsUnits D l units end) (take_rest text at) b in
    record {
      number = k.keeps.number;
      there = kept-there (read_decimal 127 36 D) (λ (u : ℤ). []) text at end 0 (at + end) inside refl k.keeps;
      makes = subst (λ u. ArrayBuilderBecomes s (on (λ k. put k axis u) (view s)) t) (held-is units b.fits ∙ sym k.is) does;
    }

-- The arrays of the front of a text.

is-zero : (n : ℕ) → (n ≡ 0) ⊎ (n ≢ 0)
is-zero zero = inl refl
is-zero (suc n) = inr (λ e. absurd (omega (arith, e)))

module _ (places : ℕ) (v : Value ℤ) (r : Room) (s0 s t : ArrayBuilder) (begins : ArrayBuilderBegins places r s0) (fills : Fills s0 (events v) s) (reports : RefusesCollection s t) (out : IsHeld v (arrays_of (events v)) ⊎ IsCollected v (arrays_of (events v))) where
  made-is : s.status ≡ 0 → view s ≡ arrays_of (events v)
  made-is z = elim (is-zero s0.status) [
    | inl z0 ↦ fills.does z0 z ∙ ap (steps (events v)) (begins.fresh z0)
    | inr n0 ↦ absurd (n0 (sym (fills.stays n0) ∙ z))
  ]

  clash : (a b : Bool) → a ≡ false → b ≡ true → a ≡ b → ⊥
  clash a b f g e = let x : false ≡ true = sym f ∙ e ∙ g in cc

  all-of : (parts : List (List (List (List ℤ)))) → numbers_in (joined parts ++ []) ++ joined [] ≡ numbers_in (joined parts)
  all-of parts = append-nil (numbers_in (joined parts ++ [])) ∙ ap numbers_in (append-nil (joined parts))

  pub holds-all : t.status ≡ 0 → HoldsAll t v
  holds-all z =
      let (sz, one) = reports.held z in
      let is : view t ≡ arrays_of (events v) = reports.same ∙ made-is sz in
      elim out [
        | inl h ↦ record {
          parts = h.parts;
          flat = h.flat;
          kind_is = ap (λ (w : Headed). w.kind) is ∙ h.kind_is;
          dimension_is = ap (λ (w : Headed). w.dimension) is ∙ h.dimension_is;
          numbers_are = ap (λ (w : Headed). w.flat.numbers) is ∙ h.holds.numbers ∙ all-of h.parts;
          rings_are = ap (λ (w : Headed). w.flat.rings) is ∙ h.holds.rings ∙ ap (offsets 0) (append-nil (joined h.parts));
          polygons_are = ap (λ (w : Headed). w.flat.polygons) is ∙ h.holds.polygons;
        }
        | inr c ↦ absurd (clash (is_collection s.kind) (is_collection (arrays_of (events v)).kind) one c.some (ap (λ (w : Headed). is_collection w.kind) (made-is sz)))
      ]

  none-large : (ns : List ℤ) → ns ≡ [] → HasLarge ns → ⊥
  none-large ns e h = no-element (subst (λ ms. Contains ms h.number) e h.held)
    where
      no-element : Contains [] h.number → ⊥
      no-element (i, lt, e) = omega (arith, lt)

  abbrev Unheld : Type 0
  Unheld = IsUnheld (length r.numbers.now) (length r.rings.now) (length r.polygons.now) v t.status

  -- what has no room is the value's arrays, or a first offset
  lack-places : Lacks s0 (arrays_of (events v)).flat → LackPlaces (length r.numbers.now) (length r.rings.now) (length r.polygons.now) v
  lack-places l = elim out [
    | inl h ↦ inr (inr (
      h.parts,
      h.flat,
      elim l [
        | inl few ↦ inl (omega (arith, few, begins.room.numbers, ap length (h.holds.numbers ∙ all-of h.parts)))
        | inr k ↦ inr (elim k [
          | inl few ↦ inl (omega (arith, few, begins.room.rings, ap length (h.holds.rings ∙ ap (offsets 0) (append-nil (joined h.parts)))))
          | inr few ↦ inr (omega (arith, few, begins.room.polygons, ap length h.holds.polygons))
        ])
      ],
    ))
    | inr c ↦ elim l [
      | inl few ↦ absurd (omega (arith, few, ap length c.empty))
      | inr k ↦ elim k [
        | inl few ↦ inl (omega (arith, few, begins.room.rings, ap length c.one_ring))
        | inr few ↦ inr (inl (omega (arith, few, begins.room.polygons, ap length c.one_polygon)))
      ]
    ]
  ]

  large-value : HasLarge (arrays_of (events v)).flat.numbers → t.status ≡ 25 → Unheld
  large-value l e = elim out [
    | inl h ↦ inr (inr (e, (h.parts, h.flat, subst HasLarge (h.holds.numbers ∙ all-of h.parts) l)))
    | inr c ↦ absurd (none-large (arrays_of (events v)).flat.numbers c.empty l)
  ]

  failed : t.status ≡ s.status → s.status ≢ 0 → Unheld
  failed same sn = elim (is-zero s0.status) [
    | inl z0 ↦ elim (fills.fails z0 sn) [
      | inl m ↦ inl (same ∙ m.0, lack-places (subst (λ (w : Headed). Lacks s0 w.flat) (ap (steps (events v)) (begins.fresh z0)) (m.1 begins.orderly)))
      | inr l ↦ large-value (subst (λ (w : Headed). HasLarge w.flat.numbers) (ap (steps (events v)) (begins.fresh z0)) l.1) (same ∙ l.0)
    ]
    | inr n0 ↦ inl (same ∙ fills.stays n0 ∙ (begins.or_full n0).0, lack-places (lacks_on s0 (events v) unheaded (begins.or_full n0).1))
  ]

  pub is-unheld : t.status ≢ 0 → Unheld
  is-unheld n = elim (reports.unheld n) [
    | inl f ↦ failed f.0 f.1
    | inr k ↦ elim out [
      | inl h ↦ absurd (clash (is_collection (arrays_of (events v)).kind) (is_collection s.kind) h.one k.2 (sym (ap (λ (w : Headed). is_collection w.kind) (made-is k.1))))
      | inr c ↦ inr (inl (k.0, c.none))
    ]
  ]

module _ (places : ℕ) (text : List ℕ) where
  abbrev read : List ℕ → Option ℤ
  read = read_decimal 127 36 places

  -- only texts are read as numbers
  run-text : (run : List ℕ) (x : ℤ) → read run ≡ Some x → IsUtf8 run
  run-text run x e = subst (λ (o : Option ℤ). IfSome o (λ u. IsUtf8 run)) e (decimal_utf8 places run)

  pub filled : (r : Room) (s0 s t : ArrayBuilder) (v : Value ℤ) (to : ℕ) → ArrayBuilderBegins places r s0 → Front read text v to → Fills s0 (events v) s → RefusesCollection s t → FillsFront places text r t to
  filled r s0 s t v to begins front fills reports =
      let fits = geometry_fits (IsUnits places) read (decimal_reads_values places) v front.lexemes front.reads in
      let out = outcome (IsUnits places) v fits in
      record {
        value = v;
        front = front;
        within = let ends = front.ends in omega (arith, ends);
        utf8 = (text-behind-front read run-text text v to front, text-with-front read run-text text v to front);
        fits = fits;
        holds = holds-all places v r s0 s t begins fills reports out;
        unheld = is-unheld places v r s0 s t begins fills reports out;
      }
