-- The first error of a list, as a loop finds it, and the lists and texts that a loop has come to.
use Rattle.std.proofs.Common.{◌≡◌, ℕ, zero, suc, ◌<◌, ◌≤◌, List, [], ◌∷◌, length, take, map, Some, sym, slice_get, arith, refl, eqb, ◌++◌, ap, ◌∙◌, append_assoc, subst, ◌+◌, Option, None, Result, Ok, Err, add-one}
use Rattle.std.specs.Prelude.{IfSome}
use Rattle.std.proofs.lemmas.List.{length-take-le, append-nil, take_all}
use Rattle.std.proofs.Math.Dec.{eqb-suc-zero}
use Rattle.std.specs.List.{AllByRecursion}
use Rattle.std.specs.Option.{option_or}
use Rattle.wkt_write.specs.Pieces.{has_none, before, each_after, Clear, Checks}
use Rattle.wkt_num.specs.Sink.{Sink, Breaks, Adds}
use Rattle.wkt_num.proofs.SinkCalls.{breaks_first, adds_none, adds_then, breaks_then}
use Rattle.wkt_access.specs.declared.error.Error.{Error}
use Rattle.wkt_access.specs.Faults.{first_fault}
use Rattle.wkt_access.specs.Texts.{separated}

-- Beginnings of lists, and lists that are empty.

-- the i-th of a beginning
pub get_front : {A : Type 0} (xs : List A) (k i : ℕ) (x : A) → slice_get xs i ≡ Some x → i < k → slice_get (take k xs) i ≡ Some x
get_front xs zero i x h g = absurd (omega arith)
get_front [] (suc k) i x h g = cc
get_front (y ∷ ys) (suc k) zero x h g = h
get_front (y ∷ ys) (suc k) (suc i) x h g = get_front ys k i x h (omega arith)

-- how many a beginning has
pub all_front : {A : Type 0} (xs : List A) (k : ℕ) → k ≤ length xs → k ≡ length (take k xs)
all_front xs k h = sym (length-take-le k xs h)

-- a list is empty where its count is zero
pub none_counted : {A : Type 0} (n : ℕ) (xs : List A) → n ≡ length xs → eqb n 0 ≡ has_none xs
none_counted n [] h = rw h refl
none_counted n (x ∷ xs) h = rw h (eqb-suc-zero (length xs))

pub none_mapped : {A B : Type 0} (f : A → B) (xs : List A) → has_none (map f xs) ≡ has_none xs
none_mapped f [] = refl
none_mapped f (x ∷ xs) = refl

-- Beginnings of texts.

-- whole begins with part
pub record Begins (part whole : List ℕ) : Type 0 where
  pub rest : List ℕ
  pub is_whole : part ++ rest ≡ whole

pub begins_self : (a : List ℕ) → Begins a a
begins_self a = record { rest = []; is_whole = append-nil a }

pub begins_with : (a b : List ℕ) → Begins a (a ++ b)
begins_with a b = record { rest = b; is_whole = refl }

pub begins_after : (a : List ℕ) {b c : List ℕ} → Begins b c → Begins (a ++ b) (a ++ c)
begins_after a {b = b} p = record { rest = p.rest; is_whole = append_assoc a b p.rest ∙ ap (λ l. a ++ l) p.is_whole }

-- a beginning broke off, so the whole did
pub breaks_in : {S : Type 0} {sink : Sink S} {s t : S} {a b : List ℕ} → Begins a b → Breaks sink s a t → Breaks sink s b t
breaks_in {sink = sink} {s = s} {t = t} h p = subst (λ (bs : List ℕ). Breaks sink s bs t) h.is_whole (breaks_first h.rest p)

-- The first error of a list, as a loop finds it.

-- the n members of xs have no error up to the i-th, and H holds of them
pub record Clean {A : Type 0} (f : A → Option Error) (H : A → Type 0) (xs : List A) (i n : ℕ) : Type 0 where
  pub all : n ≡ length xs
  pub clean : first_fault f (take i xs) ≡ None
  pub hold : AllByRecursion H (take i xs)

or_none : (a b : Option Error) → a ≡ None → option_or a b ≡ b
or_none a b h = rw h

pub none_of_or : (a b : Option Error) → option_or a b ≡ None → (a ≡ None) × (b ≡ None)
none_of_or None b h = (refl, h)
none_of_or (Some e) b h = cc

suc_clean : {A : Type 0} (f : A → Option Error) (xs : List A) (i : ℕ) (x : A) → first_fault f (take i xs) ≡ None → slice_get xs i ≡ Some x → f x ≡ None → first_fault f (take (suc i) xs) ≡ None
suc_clean f [] i x h g e = cc
suc_clean f (y ∷ ys) zero x h g e = let p : y ≡ x = cc in rw (p, e)
suc_clean f (y ∷ ys) (suc i) x h g e =
    let p = none_of_or (f y) (first_fault f (take i ys)) h in
    or_none (f y) _ p.0 ∙ suc_clean f ys i x p.1 g e

found : {A : Type 0} (f : A → Option Error) (xs : List A) (i : ℕ) (x : A) (e : Error) → first_fault f (take i xs) ≡ None → slice_get xs i ≡ Some x → f x ≡ Some e → first_fault f xs ≡ Some e
found f [] i x e h g w = cc
found f (y ∷ ys) zero x e h g w = let q : y ≡ x = cc in rw (q, w)
found f (y ∷ ys) (suc i) x e h g w =
    let q = none_of_or (f y) (first_fault f (take i ys)) h in
    or_none (f y) _ q.0 ∙ found f ys i x e q.1 g w

suc_hold : {A : Type 0} (H : A → Type 0) (xs : List A) (i : ℕ) (x : A) → AllByRecursion H (take i xs) → slice_get xs i ≡ Some x → H x → AllByRecursion H (take (suc i) xs)
suc_hold H [] i x h g p = cc
suc_hold H (y ∷ ys) zero x h g p = let e : y ≡ x = cc in (subst H (sym e) p, tt)
suc_hold H (y ∷ ys) (suc i) x h g p = (h.0, suc_hold H ys i x h.1 g p)

-- one more member of which H holds
pub hold_more : {A : Type 0} (H : A → Type 0) (xs : List A) (i : ℕ) (x : A) → AllByRecursion H (take i xs) → slice_get xs i ≡ Some x → H x → AllByRecursion H (take (i + 1) xs)
hold_more H xs i x h g p = rw add-one (suc_hold H xs i x h g p)

pub clean_start : {A : Type 0} (f : A → Option Error) (H : A → Type 0) (xs : List A) (n : ℕ) → n ≡ length xs → Clean f H xs 0 n
clean_start f H xs n h = record { all = h; clean = refl; hold = tt }

pub clean_more : {A : Type 0} {f : A → Option Error} {H : A → Type 0} {xs : List A} {i n : ℕ} {x : A} → Clean f H xs i n → slice_get xs i ≡ Some x → Clear (f x) (H x) → Clean f H xs (i + 1) n
clean_more {f = f} {H = H} {xs = xs} {i = i} {x = x} h g e = record { all = h.all; clean = rw add-one (suc_clean f xs i x h.clean g e.none); hold = rw add-one (suc_hold H xs i x h.hold g e.holds) }

pub clean_fault : {A : Type 0} {f : A → Option Error} {H : A → Type 0} {xs : List A} {i n : ℕ} {x : A} {e : Error} → Clean f H xs i n → slice_get xs i ≡ Some x → f x ≡ Some e → first_fault f xs ≡ Some e
clean_fault {f = f} {xs = xs} {i = i} {x = x} {e = e} h g w = found f xs i x e h.clean g w

-- the i-th of a list, of which something is known
pub known_at : {A : Type 0} {P : A → Type 0} (xs : List A) (i : ℕ) → i < length xs → IfSome (slice_get xs i) P → (x : A) × (slice_get xs i ≡ Some x) × P x
known_at [] i h p = absurd (omega arith)
known_at (y ∷ ys) zero h p = (y, refl, p)
known_at (y ∷ ys) (suc i) h p = known_at ys i (omega arith) p

module _ {A : Type 0} {f : A → Option Error} {H : A → Type 0} {xs : List A} {i n : ℕ} where
  pub clean_more_at : Clean f H xs i n → i < n → IfSome (slice_get xs i) (λ x. Clear (f x) (H x)) → Clean f H xs (i + 1) n
  clean_more_at h k p = let q = known_at xs i (omega (arith, h.all)) p in clean_more h q.1 q.2

  pub clean_fault_at : {e : Error} → Clean f H xs i n → i < n → IfSome (slice_get xs i) (λ x. f x ≡ Some e) → first_fault f xs ≡ Some e
  clean_fault_at h k p = let q = known_at xs i (omega (arith, h.all)) p in clean_fault h q.1 q.2

pub clean_end : {A : Type 0} {f : A → Option Error} {H : A → Type 0} {xs : List A} {i n : ℕ} → Clean f H xs i n → n ≤ i → Clear (first_fault f xs) (AllByRecursion H xs)
clean_end {f = f} {H = H} {xs = xs} {i = i} h k =
    let q : length xs ≤ i = omega (arith, h.all) in
    let e : take i xs ≡ xs = take_all i xs q in
    record { none = rw e at h.clean; holds = subst (AllByRecursion H) e h.hold }

-- what follows from what is known where nothing was found
pub checks_more : {T P Q : Type 0} (r : Result T Error) (found : Option Error) → Checks r found P → (P → Q) → Checks r found Q
checks_more (Ok x) found h f = record { none = h.none; holds = f h.holds }
checks_more (Err e) found h f = h

-- where a list has no error, no member has one
pub none_at : {A : Type 0} (f : A → Option Error) (xs : List A) (i : ℕ) (x : A) → first_fault f xs ≡ None → slice_get xs i ≡ Some x → f x ≡ None
none_at f [] i x h g = cc
none_at f (y ∷ ys) zero x h g = let e : y ≡ x = cc in ap f (sym e) ∙ (none_of_or (f y) (first_fault f ys) h).0
none_at f (y ∷ ys) (suc i) x h g = none_at f ys i x (none_of_or (f y) (first_fault f ys) h).1 g

-- A list that a loop writes, with a separator between neighbours.

-- i of the n members of xs, each as f says, were added
pub record Listing {A S : Type 0} (sink : Sink S) (separator : List ℕ) (f : A → List ℕ) (xs : List A) (i n : ℕ) (s : S) (t : S) : Type 0 where
  pub all : n ≡ length xs
  pub added : Adds sink s (separated separator (map f (take i xs))) t

-- i of the n members of xs were added, with a separator before each
pub record Following {A S : Type 0} (sink : Sink S) (separator : List ℕ) (f : A → List ℕ) (xs : List A) (i n : ℕ) (s : S) (t : S) : Type 0 where
  pub all : n ≡ length xs
  pub added : Adds sink s (each_after separator (map f (take i xs))) t

module _ {A : Type 0} (separator : List ℕ) (f : A → List ℕ) where
  later_more : (xs : List A) (i : ℕ) (x : A) → slice_get xs i ≡ Some x → each_after separator (map f (take (suc i) xs)) ≡ each_after separator (map f (take i xs)) ++ (separator ++ f x)
  later_more [] i x h = cc
  later_more (y ∷ ys) zero x h = let e : y ≡ x = cc in append-nil (separator ++ f y) ∙ ap (λ z. separator ++ f z) e
  later_more (y ∷ ys) (suc i) x h = ap (λ l. (separator ++ f y) ++ l) (later_more ys i x h) ∙ sym (append_assoc (separator ++ f y) _ (separator ++ f x))

  pub joined_more : (xs : List A) (i : ℕ) (x : A) → slice_get xs i ≡ Some x → separated separator (map f (take (suc i) xs)) ≡ separated separator (map f (take i xs)) ++ (before separator i ++ f x)
  unfolding separated
  joined_more [] i x h = cc
  joined_more (y ∷ ys) zero x h = let e : y ≡ x = cc in append-nil (f y) ∙ ap f e
  joined_more (y ∷ ys) (suc i) x h = ap (λ l. f y ++ l) (later_more ys i x h) ∙ sym (append_assoc (f y) _ (separator ++ f x))

  later_begins : (xs : List A) (i : ℕ) → Begins (each_after separator (map f (take i xs))) (each_after separator (map f xs))
  later_begins xs zero = begins_with [] _
  later_begins [] (suc i) = begins_self []
  later_begins (y ∷ ys) (suc i) = begins_after (separator ++ f y) (later_begins ys i)

  pub joined_begins : (xs : List A) (i : ℕ) → Begins (separated separator (map f (take i xs))) (separated separator (map f xs))
  unfolding separated
  joined_begins [] zero = begins_self []
  joined_begins [] (suc i) = begins_self []
  joined_begins (y ∷ ys) zero = begins_with [] _
  joined_begins (y ∷ ys) (suc i) = begins_after (f y) (later_begins ys i)

some_at : {A : Type 0} (xs : List A) (i : ℕ) → i < length xs → (x : A) × (slice_get xs i ≡ Some x)
some_at [] i h = absurd (omega arith)
some_at (y ∷ ys) zero h = (y, refl)
some_at (y ∷ ys) (suc i) h = some_at ys i (omega arith)

module _ {A S : Type 0} {sink : Sink S} where
  pub listing_start : (separator : List ℕ) (f : A → List ℕ) (xs : List A) (n : ℕ) (s : S) → n ≡ length xs → Listing sink separator f xs 0 n s s
  unfolding separated
  listing_start separator f xs n s h = record { all = h; added = adds_none s }

  module _ {separator : List ℕ} {f : A → List ℕ} {xs : List A} {i n : ℕ} where
    pub listing_more : {s t u v : S} {x : A} → Listing sink separator f xs i n s t → slice_get xs i ≡ Some x → Adds sink t (before separator i) u → Adds sink u (f x) v → Listing sink separator f xs (i + 1) n s v
    listing_more {x = x} p h q r = record { all = p.all; added = rw (add-one, joined_more separator f xs i x h) (adds_then p.added (adds_then q r)) }

    -- the error comes before an item
    pub listing_broken_before : {s t u : S} → Listing sink separator f xs i n s t → i < n → Breaks sink t (before separator i) u → Breaks sink s (separated separator (map f xs)) u
    listing_broken_before p h q =
        let x = some_at xs i (omega (arith, p.all)) in
        breaks_in (joined_begins separator f xs (suc i)) (rw (joined_more separator f xs i x.0 x.1) (breaks_then p.added (breaks_first (f x.0) q)))

    -- the error comes in an item
    pub listing_broken : {s t u v : S} {x : A} → Listing sink separator f xs i n s t → slice_get xs i ≡ Some x → Adds sink t (before separator i) u → Breaks sink u (f x) v → Breaks sink s (separated separator (map f xs)) v
    listing_broken {x = x} p h q r =
        breaks_in (joined_begins separator f xs (suc i)) (rw (joined_more separator f xs i x h) (breaks_then p.added (breaks_then q r)))

    pub listing_more_at : {s t u v : S} → Listing sink separator f xs i n s t → i < n → Adds sink t (before separator i) u → IfSome (slice_get xs i) (λ x. Adds sink u (f x) v) → Listing sink separator f xs (i + 1) n s v
    listing_more_at p h q r = let x = known_at xs i (omega (arith, p.all)) r in listing_more p x.1 q x.2

    pub listing_broken_at : {s t u v : S} → Listing sink separator f xs i n s t → i < n → Adds sink t (before separator i) u → IfSome (slice_get xs i) (λ x. Breaks sink u (f x) v) → Breaks sink s (separated separator (map f xs)) v
    listing_broken_at p h q r = let x = known_at xs i (omega (arith, p.all)) r in listing_broken p x.1 q x.2

    pub listing_end : {s t : S} → Listing sink separator f xs i n s t → n ≤ i → Adds sink s (separated separator (map f xs)) t
    listing_end p h = let q : length xs ≤ i = omega (arith, p.all) in let e : take i xs ≡ xs = take_all i xs q in rw e at p.added

  pub following_start : (separator : List ℕ) (f : A → List ℕ) (xs : List A) (n : ℕ) (s : S) → n ≡ length xs → Following sink separator f xs 0 n s s
  following_start separator f xs n s h = record { all = h; added = adds_none s }

  module _ {separator : List ℕ} {f : A → List ℕ} {xs : List A} {i n : ℕ} where
    pub following_more : {s t u v : S} {x : A} → Following sink separator f xs i n s t → slice_get xs i ≡ Some x → Adds sink t separator u → Adds sink u (f x) v → Following sink separator f xs (i + 1) n s v
    following_more {x = x} p h q r = record { all = p.all; added = rw (add-one, later_more separator f xs i x h) (adds_then p.added (adds_then q r)) }

    -- the error comes before an item
    pub following_broken_before : {s t u : S} → Following sink separator f xs i n s t → i < n → Breaks sink t separator u → Breaks sink s (each_after separator (map f xs)) u
    following_broken_before p h q =
        let x = some_at xs i (omega (arith, p.all)) in
        breaks_in (later_begins separator f xs (suc i)) (rw (later_more separator f xs i x.0 x.1) (breaks_then p.added (breaks_first (f x.0) q)))

    -- the error comes in an item
    pub following_broken : {s t u v : S} {x : A} → Following sink separator f xs i n s t → slice_get xs i ≡ Some x → Adds sink t separator u → Breaks sink u (f x) v → Breaks sink s (each_after separator (map f xs)) v
    following_broken {x = x} p h q r =
        breaks_in (later_begins separator f xs (suc i)) (rw (later_more separator f xs i x h) (breaks_then p.added (breaks_then q r)))

    pub following_more_at : {s t u v : S} → Following sink separator f xs i n s t → i < n → Adds sink t separator u → IfSome (slice_get xs i) (λ x. Adds sink u (f x) v) → Following sink separator f xs (i + 1) n s v
    following_more_at p h q r = let x = known_at xs i (omega (arith, p.all)) r in following_more p x.1 q x.2

    pub following_broken_at : {s t u v : S} → Following sink separator f xs i n s t → i < n → Adds sink t separator u → IfSome (slice_get xs i) (λ x. Breaks sink u (f x) v) → Breaks sink s (each_after separator (map f xs)) v
    following_broken_at p h q r = let x = known_at xs i (omega (arith, p.all)) r in following_broken p x.1 q x.2

    pub following_end : {s t : S} → Following sink separator f xs i n s t → n ≤ i → Adds sink s (each_after separator (map f xs)) t
    following_end p h = let q : length xs ≤ i = omega (arith, p.all) in let e : take i xs ≡ xs = take_all i xs q in rw e at p.added
