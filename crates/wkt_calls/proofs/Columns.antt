-- The answers to a column, row after row: texts, arrays, and texts of arrays.
use Rattle.std.proofs.Common.{◌≡◌, ◌+◌, ◌-◌, ◌<◌, ◌≤◌, ◌++◌, inl, inr, ℕ, zero, suc, List, [], ◌∷◌, Option, Bool, length, take, drop, slice_range, refl, sym, ap, ◌∙◌, subst, arith, true, false, add-zero, below_more, take_all, length-append, length-drop, ℤ, ◌≢◌, Result, Ok, Err, MatchResult}
use Rattle.std.specs.List.{slice_index}
use Rattle.std.proofs.lemmas.List.{take-append-le, drop-append-le, get_or_append_left}
use Rattle.std.proofs.Math.Seq.{drop-append_seam, get_or-append_seam}
use Rattle.wkt_num.specs.Bytes.{AllWhite}
use Rattle.wkt_calls.specs.Answer.{IsCanonicalOf, EndsAsAsked}
use Rattle.wkt_calls.specs.Column.{row_count, row, AreOffsets, AreJoined, HasNoAnswer, is_null}
use Rattle.wkt_calls.specs.Rows.{HoldsNoList, AddsList, HoldsNoRow, AddsRow, HoldsRows, AddsTextAnswer, items_of, held_arrays, HoldsNoArrays, AddsArrays, AddsRowArrays, HoldsArrays, row_of, AddsArraysText}
use Rattle.wkt_calls.specs.declared.joined.Joined.{Joined}
use Rattle.wkt_calls.specs.declared.column.Rows.{Rows}
use Rattle.wkt_calls.specs.Arrays.{AreOf}
use Rattle.wkt_calls.specs.ColumnArrays.{RowArrays, row_arrays, HasNothing, HasNoRowArrays, IsRowArrays, HasOffsets, IsTextOf, IsNoTextAt}
use Rattle.wkt_calls.specs.declared.column_arrays.ArrayRows.{ArrayRows}

-- The answers to a column, row after row.

-- offsets that ascend step by step ascend
climbs : (offsets : List ℕ) (n : ℕ) → ((i : ℕ) → i < n → slice_index offsets i ≤ slice_index offsets (i + 1)) → (i k : ℕ) → i + k ≤ n → slice_index offsets i ≤ slice_index offsets (i + k)
climbs offsets n h i zero le = omega (arith, ap (λ j. slice_index offsets j) (add-zero i))
climbs offsets n h i (suc k) le =
    let next : i + suc k ≡ i + k + 1 = omega arith in
    omega (arith, climbs offsets n h i k (omega arith), h (i + k) (omega arith), ap (λ j. slice_index offsets j) next)

pub below : {A : Type 0} (items : List A) (offsets : List ℕ) → AreOffsets items offsets → (i : ℕ) → i ≤ row_count offsets → slice_index offsets i ≤ length items
below items offsets are i le =
    let whole : i + (row_count offsets - i) ≡ row_count offsets = omega arith in
    omega (arith, climbs offsets (row_count offsets) are.ascend i (row_count offsets - i) (omega arith), ap (λ j. slice_index offsets j) whole, are.end)

range-kept : {A : Type 0} (xs ys : List A) (a b : ℕ) → a ≤ length xs → b ≤ length xs → slice_range (xs ++ ys) a b ≡ slice_range xs a b
range-kept xs ys a b le le' = ap (λ zs. take (b - a) zs) (drop-append-le a xs ys le) ∙ take-append-le (b - a) (drop a xs) ys (omega (arith, length-drop a xs))

range-last : {A : Type 0} (xs ys : List A) → slice_range (xs ++ ys) (length xs) (length (xs ++ ys)) ≡ ys
range-last xs ys =
    ap (λ zs. take (length (xs ++ ys) - length xs) zs) (drop-append_seam xs ys) ∙ take_all (length (xs ++ ys) - length xs) ys (omega (arith, length-append xs ys))

pub at-kept : (xs : List ℕ) (y i : ℕ) → i < length xs → slice_index (xs ++ y ∷ []) i ≡ slice_index xs i
at-kept xs y i lt = get_or_append_left xs (y ∷ []) 0 i lt

pub at-last : (xs : List ℕ) (y i : ℕ) → i ≡ length xs → slice_index (xs ++ y ∷ []) i ≡ y
at-last xs y i e = ap (λ j. slice_index (xs ++ y ∷ []) j) e ∙ get_or-append_seam xs y [] 0

-- ---- lists joined in a row, and one more

pub none-joined : {A : Type 0} → AreJoined {A = A} 0 [] (0 ∷ [])
none-joined = record {
  are_offsets = record { some = omega arith; ascend = λ i lt. absurd (omega (arith, lt)); end = omega arith };
  size = refl;
  first = refl;
  last = refl;
}

module _ {A : Type 0} (i : ℕ) (items : List A) (ends : List ℕ) (piece : List A) (are : AreJoined i items ends) where
  count : length (ends ++ length (items ++ piece) ∷ []) ≡ i + 2
  count = omega (arith, length-append ends (length (items ++ piece) ∷ []), are.size)

  kept : (k : ℕ) → k ≤ i → slice_index (ends ++ length (items ++ piece) ∷ []) k ≡ slice_index ends k
  kept k le = at-kept ends (length (items ++ piece)) k (omega (arith, are.size, le))

  new-end : slice_index (ends ++ length (items ++ piece) ∷ []) (i + 1) ≡ length (items ++ piece)
  new-end = at-last ends (length (items ++ piece)) (i + 1) (sym are.size)

  within : (k : ℕ) → k ≤ i → slice_index ends k ≤ length items
  within k le = below items ends are.are_offsets k (omega (arith, are.size, le))

  steps : (k : ℕ) → k < i + 1 → slice_index (ends ++ length (items ++ piece) ∷ []) k ≤ slice_index (ends ++ length (items ++ piece) ∷ []) (k + 1)
  steps = below_more (λ k. slice_index (ends ++ length (items ++ piece) ∷ []) k ≤ slice_index (ends ++ length (items ++ piece) ∷ []) (k + 1)) i
      (λ k lt. omega (arith, kept k (omega (arith, lt)), kept (k + 1) (omega (arith, lt)), are.are_offsets.ascend k (omega (arith, are.size, lt))))
      (omega (arith, kept i (omega arith), new-end, are.last, length-append items piece))

  pub row-kept : (k : ℕ) → k < i → row items ends k ≡ row (items ++ piece) (ends ++ length (items ++ piece) ∷ []) k
  row-kept k lt =
      sym (range-kept items piece (slice_index ends k) (slice_index ends (k + 1)) (within k (omega (arith, lt))) (within (k + 1) (omega (arith, lt))))
      ∙ ap (λ a. slice_range (items ++ piece) a (slice_index ends (k + 1))) (sym (kept k (omega (arith, lt))))
      ∙ ap (λ b. slice_range (items ++ piece) (slice_index (ends ++ length (items ++ piece) ∷ []) k) b) (sym (kept (k + 1) (omega (arith, lt))))

  pub row-new : piece ≡ row (items ++ piece) (ends ++ length (items ++ piece) ∷ []) i
  row-new =
      sym (range-last items piece)
      ∙ ap (λ a. slice_range (items ++ piece) a (length (items ++ piece))) (sym (kept i (omega arith) ∙ are.last))
      ∙ ap (λ b. slice_range (items ++ piece) (slice_index (ends ++ length (items ++ piece) ∷ []) i) b) (sym new-end)

  pub one-joined : AreJoined (i + 1) (items ++ piece) (ends ++ length (items ++ piece) ∷ [])
  one-joined = record {
    are_offsets = record {
      some = omega (arith, count);
      ascend = λ k lt. steps k (omega (arith, count, lt));
      end = omega (arith, ap (λ j. slice_index (ends ++ length (items ++ piece) ∷ []) j) {x = row_count (ends ++ length (items ++ piece) ∷ [])} {y = i + 1} (omega (arith, count)), new-end);
    };
    size = omega (arith, count);
    first = kept 0 (omega arith) ∙ are.first;
    last = new-end;
  }

-- ---- one list joined

pub no-list : {T : Type 0} (j : Joined T) → HoldsNoList j → AreJoined 0 (items_of j.items) (items_of j.ends)
no-list {T} j h =
    subst (λ xs. AreJoined {A = T} 0 xs (items_of j.ends)) (sym h.no_items)
    (subst (λ es. AreJoined {A = T} 0 [] es) (sym h.zero) none-joined)

module _ {T : Type 0} (i : ℕ) (list : List T) (a b : Joined T) (are : AreJoined i (items_of a.items) (items_of a.ends)) (adds : AddsList list a b) where
  ends-are : (items_of b.ends) ≡ (items_of a.ends) ++ length ((items_of a.items) ++ list) ∷ []
  ends-are = adds.ends_are ∙ ap (λ xs. (items_of a.ends) ++ length xs ∷ []) adds.items_are

  pub longer : AreJoined (i + 1) (items_of b.items) (items_of b.ends)
  longer =
      subst (λ xs. AreJoined (i + 1) xs (items_of b.ends)) (sym adds.items_are)
      (subst (λ es. AreJoined (i + 1) ((items_of a.items) ++ list) es) (sym ends-are) (one-joined i (items_of a.items) (items_of a.ends) list are))

  in-longer : (k : ℕ) → row ((items_of a.items) ++ list) ((items_of a.ends) ++ length ((items_of a.items) ++ list) ∷ []) k ≡ row (items_of b.items) (items_of b.ends) k
  in-longer k =
      ap (λ xs. row xs ((items_of a.ends) ++ length ((items_of a.items) ++ list) ∷ []) k) (sym adds.items_are)
      ∙ ap (λ es. row (items_of b.items) es k) (sym ends-are)

  pub old-list : (k : ℕ) → k < i → row (items_of a.items) (items_of a.ends) k ≡ row (items_of b.items) (items_of b.ends) k
  old-list k lt = row-kept i (items_of a.items) (items_of a.ends) list are k lt ∙ in-longer k

  pub new-list : list ≡ row (items_of b.items) (items_of b.ends) i
  new-list = row-new i (items_of a.items) (items_of a.ends) list are ∙ in-longer i

-- ---- one word a row

pub old-word : (xs ys : List ℕ) (y k : ℕ) → ys ≡ xs ++ y ∷ [] → k < length xs → slice_index xs k ≡ slice_index ys k
old-word xs ys y k e lt = sym (at-kept xs y k lt) ∙ ap (λ zs. slice_index zs k) (sym e)

pub new-word : (xs ys : List ℕ) (y k : ℕ) → ys ≡ xs ++ y ∷ [] → length xs ≡ k → y ≡ slice_index ys k
new-word xs ys y k e n = sym (at-last xs y k (sym n)) ∙ ap (λ zs. slice_index zs k) (sym e)

pub more-words : (xs ys : List ℕ) (y n : ℕ) → ys ≡ xs ++ y ∷ [] → length xs ≡ n → length ys ≡ n + 1
more-words xs ys y n e h = omega (arith, ap length e, length-append xs (y ∷ []), h)

-- ---- texts with their statuses

module _ (IsRow : ℕ → List ℕ → ℕ → Type 0) where
  pub no-rows : (r : Rows) → HoldsNoRow r → HoldsRows IsRow 0 r
  no-rows r h = record {
    joined = no-list r.texts h.no_texts;
    statuses_size = ap length h.no_statuses;
    answers = λ i lt. absurd (omega (arith, lt));
  }

  pub one-more : (i : ℕ) (a b : Rows) (text : List ℕ) (status : ℕ) → HoldsRows IsRow i a → IsRow i text status → AddsRow text status a b → HoldsRows IsRow (i + 1) b
  one-more i a b text status are is adds = record {
    joined = longer i text a.texts b.texts are.joined adds.text_added;
    statuses_size = more-words (items_of a.statuses) (items_of b.statuses) status i adds.status_added are.statuses_size;
    answers = below_more (λ k. IsRow k (row (items_of b.texts.items) (items_of b.texts.ends) k) (slice_index (items_of b.statuses) k)) i
        (λ k lt. subst (λ s. IsRow k (row (items_of b.texts.items) (items_of b.texts.ends) k) s)
        (old-word (items_of a.statuses) (items_of b.statuses) status k adds.status_added (omega (arith, are.statuses_size, lt)))
        (subst (λ xs. IsRow k xs (slice_index (items_of a.statuses) k)) (old-list i text a.texts b.texts are.joined adds.text_added k lt) (are.answers k lt)))
        (subst (λ s. IsRow i (row (items_of b.texts.items) (items_of b.texts.ends) i) s)
        (new-word (items_of a.statuses) (items_of b.statuses) status i adds.status_added are.statuses_size)
        (subst (λ xs. IsRow i xs status) (new-list i text a.texts b.texts are.joined adds.text_added) is));
  }

module _ {N : Type 0} (whole : Bool) (read : List ℕ → Option N) (num : N → List ℕ) (null : Bool) (text : List ℕ) (a b : Rows) where
  pub null-row : null ≡ true → AddsRow [] 28 a b → AddsTextAnswer whole read num null text a b
  null-row n adds = record { text = []; status = 28; is = inl (n, (refl, refl)); added = adds }

  pub text-row : (answer given : List ℕ) (end : ℕ) → null ≡ false → IsCanonicalOf read num text answer end → EndsAsAsked whole text end → given ≡ answer → AddsRow given 0 a b →
      AddsTextAnswer whole read num null text a b
  text-row answer given end n is ends e adds = record {
    text = given;
    status = 0;
    is = inr (n, inl (refl, record { end = end; canonical = subst (λ xs. IsCanonicalOf read num text xs end) (sym e) is; as_asked = ends }));
    added = adds;
  }

  pub refused-row : (status : ℕ) → null ≡ false → HasNoAnswer whole read num text status → AddsRow [] status a b → AddsTextAnswer whole read num null text a b
  refused-row status n why adds = record { text = []; status = status; is = inr (n, inr (refl, why)); added = adds }

  -- there is more in it than is asked for
  pub longer-row : (answer : List ℕ) (end : ℕ) → null ≡ false → IsCanonicalOf read num text answer end → whole ≡ true → (AllWhite (drop end text) → ⊥) → AddsRow [] 30 a b →
      AddsTextAnswer whole read num null text a b
  longer-row answer end n is options more adds =
      refused-row 30 n (inr (refl, (end, record { options = options; utf8 = is.0; value = is.1.value; front = is.1.front; more = more }))) adds

-- The arrays of a column, row after row.

-- ---- rows

same-row : (k k' d d' : ℕ) (ns ns' : List ℤ) (rs rs' ps ps' : List ℕ) → k ≡ k' → d ≡ d' → ns ≡ ns' → rs ≡ rs' → ps ≡ ps' → row_of k d ns rs ps ≡ row_of k' d' ns' rs' ps'
same-row k k' d d' ns ns' rs rs' ps ps' ek ed en er ep =
    ap (λ x. row_of x d ns rs ps) ek ∙ ap (λ x. row_of k' x ns rs ps) ed ∙ ap (λ x. row_of k' d' x rs ps) en
    ∙ ap (λ x. row_of k' d' ns' x ps) er ∙ ap (λ x. row_of k' d' ns' rs' x) ep

module _ (places : ℕ) (whole : Bool) (texts offsets valid : List ℕ) where
  pub no-arrays-yet : (r : ArrayRows) → HoldsNoArrays r → HoldsArrays places whole texts offsets valid 0 r
  no-arrays-yet r h = record {
    numbers_joined = no-list r.numbers h.no_numbers;
    rings_joined = no-list r.rings h.no_rings;
    polygons_joined = no-list r.polygons h.no_polygons;
    kinds_size = ap length h.no_kinds;
    dimensions_size = ap length h.no_dimensions;
    statuses_size = ap length h.no_statuses;
    answers = λ i lt. absurd (omega (arith, lt));
  }

  module _ (i : ℕ) (r : RowArrays) (status : ℕ) (a b : ArrayRows) (are : HoldsArrays places whole texts offsets valid i a) (adds : AddsArrays r status a b) where
    old-row : (k : ℕ) → k < i → row_arrays (held_arrays a) k ≡ row_arrays (held_arrays b) k
    old-row k lt =
        same-row _ _ _ _ _ _ _ _ _ _
        (old-word (items_of a.kinds) (items_of b.kinds) r.kind k adds.kind_added (omega (arith, lt, are.kinds_size)))
        (old-word (items_of a.dimensions) (items_of b.dimensions) r.dimension k adds.dimension_added (omega (arith, lt, are.dimensions_size)))
        (old-list i r.numbers a.numbers b.numbers are.numbers_joined adds.numbers_added k lt)
        (old-list i r.rings a.rings b.rings are.rings_joined adds.rings_added k lt)
        (old-list i r.polygons a.polygons b.polygons are.polygons_joined adds.polygons_added k lt)

    new-row : r ≡ row_arrays (held_arrays b) i
    new-row =
        same-row _ _ _ _ _ _ _ _ _ _
        (new-word (items_of a.kinds) (items_of b.kinds) r.kind i adds.kind_added are.kinds_size)
        (new-word (items_of a.dimensions) (items_of b.dimensions) r.dimension i adds.dimension_added are.dimensions_size)
        (new-list i r.numbers a.numbers b.numbers are.numbers_joined adds.numbers_added)
        (new-list i r.rings a.rings b.rings are.rings_joined adds.rings_added)
        (new-list i r.polygons a.polygons b.polygons are.polygons_joined adds.polygons_added)

    pub one-row-more : IsRowArrays places whole (is_null valid i) (row texts offsets i) r status → HoldsArrays places whole texts offsets valid (i + 1) b
    one-row-more is = record {
      kinds_size = more-words (items_of a.kinds) (items_of b.kinds) r.kind i adds.kind_added are.kinds_size;
      dimensions_size = more-words (items_of a.dimensions) (items_of b.dimensions) r.dimension i adds.dimension_added are.dimensions_size;
      numbers_joined = longer i r.numbers a.numbers b.numbers are.numbers_joined adds.numbers_added;
      rings_joined = longer i r.rings a.rings b.rings are.rings_joined adds.rings_added;
      polygons_joined = longer i r.polygons a.polygons b.polygons are.polygons_joined adds.polygons_added;
      statuses_size = more-words (items_of a.statuses) (items_of b.statuses) status i adds.status_added are.statuses_size;
      answers = below_more (λ k. IsRowArrays places whole (is_null valid k) (row texts offsets k) (row_arrays (held_arrays b) k) (slice_index (items_of b.statuses) k)) i
          (λ k lt. subst (λ s. IsRowArrays places whole (is_null valid k) (row texts offsets k) (row_arrays (held_arrays b) k) s)
          (old-word (items_of a.statuses) (items_of b.statuses) status k adds.status_added (omega (arith, are.statuses_size, lt)))
          (subst (λ x. IsRowArrays places whole (is_null valid k) (row texts offsets k) x (slice_index (items_of a.statuses) k)) (old-row k lt) (are.answers k lt)))
          (subst (λ s. IsRowArrays places whole (is_null valid i) (row texts offsets i) (row_arrays (held_arrays b) i) s)
          (new-word (items_of a.statuses) (items_of b.statuses) status i adds.status_added are.statuses_size)
          (subst (λ x. IsRowArrays places whole (is_null valid i) (row texts offsets i) x status) new-row is));
    }

-- ---- what a row is answered with

nothing : HasNothing (row_of 0 0 [] [] [])
nothing = record { no_kind = refl; no_dimension = refl; no_numbers = refl; no_rings = refl; no_polygons = refl }

module _ (places : ℕ) (whole null : Bool) (text : List ℕ) (a b : ArrayRows) where
  pub null-arrays : null ≡ true → AddsArrays (row_of 0 0 [] [] []) 28 a b → AddsRowArrays places whole null text a b
  null-arrays n adds = record { row = row_of 0 0 [] [] []; status = 28; is = inl (n, (refl, nothing)); added = adds }

  pub refused-arrays : (status : ℕ) → null ≡ false → HasNoRowArrays places whole text status → AddsArrays (row_of 0 0 [] [] []) status a b → AddsRowArrays places whole null text a b
  refused-arrays status n why adds = record { row = row_of 0 0 [] [] []; status = status; is = inr (n, inr (nothing, why)); added = adds }

  pub text-arrays : (end kind dimension : ℕ) (ns ns' : List ℤ) (rs rs' ps ps' : List ℕ) → null ≡ false →
      AreOf places text end kind dimension ns rs ps → EndsAsAsked whole text end → ns' ≡ ns → rs' ≡ rs → ps' ≡ ps → AddsArrays (row_of kind dimension ns' rs' ps') 0 a b →
      AddsRowArrays places whole null text a b
  text-arrays end kind dimension ns ns' rs rs' ps ps' n are ends en er ep adds = record {
    row = row_of kind dimension ns' rs' ps';
    status = 0;
    is = inr (
      n,
      inl (
        refl,
        record {
          end = end;
          arrays =
              subst (λ xs. AreOf places text end kind dimension xs rs' ps') (sym en)
              (subst (λ xs. AreOf places text end kind dimension ns xs ps') (sym er) (subst (λ xs. AreOf places text end kind dimension ns rs xs) (sym ep) are));
          as_asked = ends;
        },
      ),
    );
    added = adds;
  }

  -- there is more in it than is asked for
  pub longer-arrays : (end kind dimension : ℕ) (ns : List ℤ) (rs ps : List ℕ) → null ≡ false → AreOf places text end kind dimension ns rs ps → whole ≡ true → (AllWhite (drop end text) → ⊥) →
      AddsArrays (row_of 0 0 [] [] []) 30 a b → AddsRowArrays places whole null text a b
  longer-arrays end kind dimension ns rs ps n are options more adds =
      refused-arrays 30 n (inr (refl, record { end = end; row = row_of kind dimension ns rs ps; arrays = are; more = (options, more) })) adds

-- The texts of a column of arrays, row after row.

-- an offset is not past the items
pub texts-within : {A : Type 0} (items : List A) (offsets : List ℕ) (rows : ℕ) → HasOffsets items offsets rows → (i : ℕ) → i ≤ rows → slice_index offsets i ≤ length items
texts-within items offsets rows h i le = below items offsets h.are i (omega (arith, le, h.fit))

module _ (places : ℕ) (null : Bool) (r : RowArrays) where
  pub null-text : (a b : Rows) → null ≡ true → AddsRow [] 28 a b → AddsArraysText places null r a b
  null-text a b n adds = record { text = []; status = 28; is = inl (n, (refl, refl)); added = adds }

  pub arrays-text : (answer given : List ℕ) (a b : Rows) → null ≡ false → IsTextOf places r.kind r.dimension r.numbers r.rings r.polygons answer → given ≡ answer → AddsRow given 0 a b →
      AddsArraysText places null r a b
  arrays-text answer given a b n is e adds =
      record { text = given; status = 0; is = inr (n, inl (refl, subst (λ xs. IsTextOf places r.kind r.dimension r.numbers r.rings r.polygons xs) (sym e) is)); added = adds }

  pub no-text : (status : ℕ) (a b : Rows) → null ≡ false → status ≢ 22 → IsNoTextAt places r.kind r.dimension r.numbers r.rings r.polygons status → AddsRow [] status a b →
      AddsArraysText places null r a b
  no-text status a b n m why adds = record { text = []; status = status; is = inr (n, inr (refl, (m, why))); added = adds }

-- A result by its cases.

pub match-map : {T E : Type 0} {P P' : T → Type 0} {Q Q' : E → Type 0} (r : Result T E) → ((x : T) → P x → P' x) → ((e : E) → Q e → Q' e) → MatchResult r P Q → MatchResult r P' Q'
match-map (Ok x) f g h = f x h
match-map (Err e) f g h = g e h
