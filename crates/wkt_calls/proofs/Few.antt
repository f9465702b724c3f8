-- A text has no more numbers, rings and polygons than its bytes have place for.
use Rattle.std.proofs.Common.{◌≡◌, ◌+◌, ◌*◌, ◌≤◌, ◌⊎◌, inl, inr, ℕ, ℤ, List, [], ◌∷◌, ◌++◌, Option, Some, None, Bool, true, false, cond, length, map, replicate, refl, sym, ap, ◌∙◌, subst, arith, append-nil, length-append}
use Rattle.std.specs.Prelude.{option_to_list, ◌==◌, ◌||◌}
use Rattle.std.proofs.lemmas.List.{length-replicate}
use Rattle.wkt_num.specs.Bytes.{Lexeme, Open, Close, Comma, Word, Num, Nul, White, Mark, Run, class_of, IsRun}
use Rattle.wkt_access.specs.declared.dimensions.Dimension.{Dimension}
use Rattle.wkt_access.specs.declared.dimensions.Dimension.TheVariants as dim
use Rattle.wkt_access.specs.Values.{size, Value}
use Rattle.wkt_read.specs.Lexemes.{IsBoundary, starts_number, without_plus, lexeme_of, Takes}
use Rattle.wkt_read.specs.Grammar.{IsEmptyWord, Within, More, Many, Listed, Perhaps, WithHeader, Numbers, Coord, Ring, Poly, Member, StandFor}
use Rattle.wkt_read.specs.Front.{Front}
use Rattle.wkt_read.proofs.Headers.{no_word_mark}
use Rattle.wkt_read.proofs.HeaderPlaces.{upper-length}
use Rattle.wkt_fill.specs.Arrays.{parts_of, joined, offsets, numbers_in, LackPlaces}
use Rattle.wkt_calls.specs.Answer.{read_at}
use Rattle.wkt_calls.specs.Arrays.{HasNoPlaceFor, AnswersArrays}
use Rattle.wkt_calls.specs.declared.sizes.WktSizes.{WktSizes}
use Rattle.wkt_calls.proofs.Padded.{the-zero}

-- How many bytes lexemes take at least.

abbrev pub weight : Lexeme → ℕ
weight Open = 1
weight Close = 1
weight Comma = 1
weight (Word run) = length run
weight (Num run) = 1

-- a byte stands between two numbers
abbrev pub between : Lexeme → List Lexeme → ℕ
between (Num r) (Num s ∷ ls) = 1
between l ls = 0

abbrev pub least : List Lexeme → ℕ
least [] = 0
least (l ∷ ls) = weight l + between l ls + least ls

num_test : (run : List ℕ) (z w p q r : Bool) → cond z Nul (cond w White (cond p (Mark Open) (cond q (Mark Close) (cond r (Mark Comma) Run)))) ≡ Mark (Num run) → ⊥
num_test run true w p q r h = cc
num_test run false true p q r h = cc
num_test run false false true q r h = cc
num_test run false false false true r h = cc
num_test run false false false false true h = cc
num_test run false false false false false h = cc

no_num_mark : (run : List ℕ) (b : ℕ) → class_of b ≡ Mark (Num run) → ⊥
unfolding class_of
no_num_mark run b h = num_test run (b == 0) (b == 32 || b == 10 || b == 13 || b == 9) (b == 40) (b == 41) (b == 44) h

mark_one : (b : ℕ) (l : Lexeme) (ls : List Lexeme) → class_of b ≡ Mark l → weight l + between l ls ≤ 1
mark_one b Open ls h = omega arith
mark_one b Close ls h = omega arith
mark_one b Comma ls h = omega arith
mark_one b (Word run) ls h = absurd (no_word_mark run b h)
mark_one b (Num run) ls h = absurd (no_num_mark run b h)

run_weight : (body : List ℕ) → IsRun body → weight (lexeme_of body) ≤ length body
run_weight [] h = omega arith
run_weight (b ∷ bs) h = go (starts_number b)
  where
    go : (c : Bool) → weight (cond c (Num (without_plus (b ∷ bs))) (Word (b ∷ bs))) ≤ length (b ∷ bs)
    go true = omega arith
    go false = omega arith

some_run : (body : List ℕ) → IsRun body → 1 ≤ length body
some_run [] h = absurd (h.0 refl)
some_run (b ∷ bs) h = omega arith

-- no run begins where one can't go on, but behind white space
gap_some : (gap body after : List ℕ) → IsRun body → IsBoundary (gap ++ (body ++ after)) → 1 ≤ length gap
gap_some [] [] after r h = absurd (r.0 refl)
gap_some [] (b ∷ bs) after r h = absurd (h r.1.0)
gap_some (a ∷ gap) body after r h = omega arith

-- the next lexeme is a number
abbrev BeginsNumber : List Lexeme → Type 0
BeginsNumber [] = ⊥
BeginsNumber (Num r ∷ ls) = Unit {0}
BeginsNumber (l ∷ ls) = ⊥

between_number : (l : Lexeme) (ls : List Lexeme) → (between l ls ≡ 0) ⊎ ((between l ls ≡ 1) × BeginsNumber ls)
between_number (Num r) (Num s ∷ ls) = inr (refl, tt)
between_number (Num r) [] = inl refl
between_number (Num r) (Open ∷ ls) = inl refl
between_number (Num r) (Close ∷ ls) = inl refl
between_number (Num r) (Comma ∷ ls) = inl refl
between_number (Num r) (Word s ∷ ls) = inl refl
between_number Open ls = inl refl
between_number Close ls = inl refl
between_number Comma ls = inl refl
between_number (Word s) ls = inl refl

number_no_mark : (l : Lexeme) (ls : List Lexeme) (b : ℕ) → class_of b ≡ Mark l → BeginsNumber (l ∷ ls) → ⊥
number_no_mark Open ls b h k = k
number_no_mark Close ls b h k = k
number_no_mark Comma ls b h k = k
number_no_mark (Word run) ls b h k = k
number_no_mark (Num run) ls b h k = no_num_mark run b h

-- the lexemes take that many bytes, and where a number comes first and no run goes on, a byte before it
pub takes_least : (text : List ℕ) (ls : List Lexeme) (rest : List ℕ) → Takes text ls rest
    → (least ls + length rest ≤ length text) × (IsBoundary text → BeginsNumber ls → least ls + length rest + 1 ≤ length text)
takes_least text [] rest e = let same = ap length e in (omega (arith, same), λ b n. absurd n)
takes_least text (l ∷ ls) rest (gap, body, after, e, white, inl (b, one, mark), more) =
    let (low, high) = takes_least after ls rest more in
    let long : length text ≡ length gap + (length body + length after) = ap length e ∙ (length-append gap (body ++ after) ∙ ap (λ n. length gap + n) (length-append body after)) in
    let single : length body ≡ 1 = ap length one in
    let weighs = mark_one b l ls mark in
    (omega (arith, low, long, single, weighs), λ _ n. absurd (number_no_mark l ls b mark n))
takes_least text (l ∷ ls) rest (gap, body, after, e, white, inr (run, boundary, is), more) =
    let (low, high) = takes_least after ls rest more in
    let long : length text ≡ length gap + (length body + length after) = ap length e ∙ (length-append gap (body ++ after) ∙ ap (λ n. length gap + n) (length-append body after)) in
    let weighs : weight l ≤ length body = subst (λ k. weight k ≤ length body) (sym is) (run_weight body run) in
    let tail : between l ls + (least ls + length rest) ≤ length after = elim (between_number l ls) [
      | inl none ↦ omega (arith, none, low)
      | inr (one, number) ↦ let more = high boundary number in omega (arith, more, one)
    ] in (
      omega (arith, long, weighs, tail),
      λ stops _. let some = gap_some gap body after run (subst IsBoundary e stops) in omega (arith, long, weighs, tail, some),
    )

-- What items take.

abbrev pub costs : {A : Type 0} → (A → ℕ) → List A → ℕ
costs c [] = 0
costs c (x ∷ xs) = c x + costs c xs

next_alone : (l k : Lexeme) (a b : List Lexeme) → between l (k ∷ a) ≡ between l (k ∷ b)
next_alone (Num r) (Num s) a b = refl
next_alone (Num r) Open a b = refl
next_alone (Num r) Close a b = refl
next_alone (Num r) Comma a b = refl
next_alone (Num r) (Word s) a b = refl
next_alone Open k a b = refl
next_alone Close k a b = refl
next_alone Comma k a b = refl
next_alone (Word s) k a b = refl

none_last : (l : Lexeme) → between l [] ≡ 0
none_last (Num r) = refl
none_last Open = refl
none_last Close = refl
none_last Comma = refl
none_last (Word s) = refl

pub least_on : (a b : List Lexeme) → least a + least b ≤ least (a ++ b)
least_on [] b = omega arith
least_on (l ∷ []) b = let none = none_last l in omega (arith, none)
least_on (l ∷ k ∷ a) b = let more = least_on (k ∷ a) b in let same = next_alone l k a (a ++ b) in omega (arith, more, same)

module _ {A : Type 0} (P : List Lexeme → A → Type 0) (c : A → ℕ) (each : (ls : List Lexeme) (x : A) → P ls x → c x ≤ least ls + 1) where
  more_cost : (ls : List Lexeme) (xs : List A) → More P ls xs → costs c xs ≤ least ls
  more_cost ls [] h = omega arith
  more_cost ls (x ∷ xs) (a, b, e, is, more) =
      let first = each a x is in
      let rest = more_cost b xs more in
      let both = least_on a b in
      let long : least ls ≡ 1 + 0 + least (a ++ b) = ap least e in
      omega (arith, first, rest, both, long)

  many_cost : (ls : List Lexeme) (xs : List A) → Many P ls xs → costs c xs ≤ least ls + 1
  many_cost ls [] h = absurd h
  many_cost ls (x ∷ xs) (a, b, e, is, more) =
      let first = each a x is in
      let rest = more_cost b xs more in
      let both = least_on a b in
      let long : least ls ≡ least (a ++ b) = ap least e in
      omega (arith, first, rest, both, long)

pub empty_cost : (ls : List Lexeme) → IsEmptyWord ls → 5 ≤ least ls
empty_cost ls (run, e, is) =
    let long : length run ≡ 5 = sym (upper-length run) ∙ ap length is in
    let same : least ls ≡ length run + 0 + 0 = ap least e in
    omega (arith, long, same)

within_cost : (P : List Lexeme → Type 0) (n : ℕ) → ((ls : List Lexeme) → P ls → n ≤ least ls + 1) → (ls : List Lexeme) → Within P ls → n + 1 ≤ least ls
within_cost P n each ls (body, e, is) =
    let inner = each body is in
    let both = least_on body (Close ∷ []) in
    let long : least ls ≡ 1 + 0 + least (body ++ Close ∷ []) = ap least e in
    omega (arith, inner, both, long)

module _ {A : Type 0} (P : List Lexeme → A → Type 0) (c : A → ℕ) (each : (ls : List Lexeme) (x : A) → P ls x → c x ≤ least ls + 1) where
  pub listed_cost : (ls : List Lexeme) (xs : List A) → Listed P ls xs → costs c xs + 1 ≤ least ls
  listed_cost ls [] h = let five = empty_cost ls h in omega (arith, five)
  listed_cost ls (x ∷ xs) h = within_cost (λ body. Many P body (x ∷ xs)) (costs c (x ∷ xs)) (λ body m. many_cost P c each body (x ∷ xs) m) ls h

  pub perhaps_cost : (ls : List Lexeme) (x : Option A) → Perhaps P ls x → costs c (option_to_list x) + 1 ≤ least ls
  perhaps_cost ls None h = let five = empty_cost ls h in omega (arith, five)
  perhaps_cost ls (Some x) h = let one = within_cost (λ body. P body x) (c x) (λ body m. each body x m) ls h in omega (arith, one)

-- What the parts of a geometry take: each number two bytes, each ring four, each polygon six.

abbrev pub numbers_cost : {N : Type 0} → List N → ℕ
numbers_cost xs = 2 * length xs

module _ {N : Type 0} (read : List ℕ → Option N) (d : Dimension) where
  in_row : (ls : List Lexeme) (xs : List N) → Numbers read ls xs → numbers_cost xs ≤ least ls + 1
  in_row ls [] h = omega arith
  in_row ls (x ∷ []) (run, more, e, is, none) = let long : least ls ≡ 1 + between (Num run) more + least more = ap least e in omega (arith, long)
  in_row ls (x ∷ y ∷ xs) (run, more, e, is, (run', more', e', is', rest)) =
      let tail = in_row more (y ∷ xs) (run', more', e', is', rest) in
      let next : between (Num run) more ≡ 1 = ap (λ l. between (Num run) l) e' in
      let long : least ls ≡ 1 + between (Num run) more + least more = ap least e in
      omega (arith, tail, next, long)

  pub coord_cost : (ls : List Lexeme) (xs : List N) → Coord read d ls xs → numbers_cost xs ≤ least ls + 1
  coord_cost ls xs h = in_row ls xs h.0

  two : (d : Dimension) → 2 ≤ size d
  two dim.XY = omega arith
  two dim.XYZ = omega arith
  two dim.XYM = omega arith
  two dim.XYZM = omega arith

  pub coord_four : (ls : List Lexeme) (xs : List N) → Coord read d ls xs → 4 ≤ least ls + 1
  coord_four ls xs h = let long = h.1 in let some = two d in let cost = in_row ls xs h.0 in omega (arith, long, some, cost)

  pub ring_cost : (ls : List Lexeme) (cs : List (List N)) → Ring read d ls cs → costs numbers_cost cs ≤ least ls + 1
  ring_cost ls cs h = let one = listed_cost (Coord read d) numbers_cost coord_cost ls cs h in omega (arith, one)

  -- a list takes four bytes at least, and with an item of four six
  ring_four : (ls : List Lexeme) (cs : List (List N)) → Ring read d ls cs → 4 ≤ least ls + 1
  ring_four ls [] h = let five = empty_cost ls h in omega (arith, five)
  ring_four ls (c ∷ cs) h =
      let one = listed_cost (Coord read d) (λ _. 4) coord_four ls (c ∷ cs) h in omega (arith, one)

  pub poly_cost : (ls : List Lexeme) (rs : List (List (List N))) → Poly read d ls rs → costs (costs numbers_cost) rs ≤ least ls + 1
  poly_cost ls rs h = let one = listed_cost (Ring read d) (costs numbers_cost) ring_cost ls rs h in omega (arith, one)

  poly_rings : (ls : List Lexeme) (rs : List (List (List N))) → Poly read d ls rs → costs (λ _. 4) rs ≤ least ls + 1
  poly_rings ls rs h = let one = listed_cost (Ring read d) (λ _. 4) ring_four ls rs h in omega (arith, one)

  pub ring_five : (ls : List Lexeme) (cs : List (List N)) → Ring read d ls cs → 5 ≤ least ls
  ring_five ls [] h = empty_cost ls h
  ring_five ls (c ∷ cs) h = let one = listed_cost (Coord read d) (λ _. 4) coord_four ls (c ∷ cs) h in omega (arith, one)

  poly_six : (ls : List Lexeme) (rs : List (List (List N))) → Poly read d ls rs → 6 ≤ least ls + 1
  poly_six ls [] h = let five = empty_cost ls h in omega (arith, five)
  poly_six ls (r ∷ rs) h =
      let one = listed_cost (Ring read d) (λ _. 6) (λ ls cs k. let five = ring_five ls cs k in omega (arith, five)) ls (r ∷ rs) h in omega (arith, one)

  pub member_cost : (ls : List Lexeme) (m : Option (List N)) → Member read d ls m → costs numbers_cost (option_to_list m) ≤ least ls + 1
  member_cost ls None h = omega arith
  member_cost ls (Some c) (inl h) = let one = coord_cost ls c h in omega (arith, one)
  member_cost ls (Some c) (inr h) = let one = within_cost (λ body. Coord read d body c) (numbers_cost c) (λ body k. coord_cost body c k) ls h in omega (arith, one)

  pub member_four : (ls : List Lexeme) (m : Option (List N)) → Member read d ls m → 4 ≤ least ls + 1
  member_four ls None h = let five = empty_cost ls h in omega (arith, five)
  member_four ls (Some c) (inl h) = coord_four ls c h
  member_four ls (Some c) (inr h) = let one = within_cost (λ body. Coord read d body c) 4 (λ body k. coord_four body c k) ls h in omega (arith, one)

-- What the arrays hold, as sums.

costs-append : {A : Type 0} (c : A → ℕ) (xs ys : List A) → costs c (xs ++ ys) ≡ costs c xs + costs c ys
costs-append c [] ys = omega arith
costs-append c (x ∷ xs) ys = let more = costs-append c xs ys in omega (arith, more)

costs-joined : {A : Type 0} (c : A → ℕ) (xss : List (List A)) → costs c (joined xss) ≡ costs (costs c) xss
costs-joined c [] = refl
costs-joined c (xs ∷ xss) = costs-append c xs (joined xss) ∙ ap (λ n. costs c xs + n) (costs-joined c xss)

costs-map : {A B : Type 0} (c : B → ℕ) (f : A → B) (xs : List A) → costs c (map f xs) ≡ costs (λ x. c (f x)) xs
costs-map c f [] = refl
costs-map c f (x ∷ xs) = ap (λ n. c (f x) + n) (costs-map c f xs)

pub costs-length : {A : Type 0} (k : ℕ) (xs : List A) → costs (λ _. k) xs ≡ length xs * k
costs-length k [] = omega arith
costs-length k (x ∷ xs) = let more = costs-length k xs in omega (arith, more)

costs-lengths : {A : Type 0} (k : ℕ) (xss : List (List A)) → costs (λ xs. costs (λ _. k) xs) xss ≡ length (joined xss) * k
costs-lengths k xss = sym (costs-joined (λ _. k) xss) ∙ costs-length k (joined xss)

pub numbers-joined : {N : Type 0} (cs : List (List N)) → numbers_cost (joined cs) ≡ costs numbers_cost cs
numbers-joined [] = refl
numbers-joined (c ∷ cs) = let more = numbers-joined cs in let long = length-append c (joined cs) in omega (arith, more, long)

pub numbers-in : {N : Type 0} (rings : List (List (List N))) → numbers_cost (numbers_in rings) ≡ costs (costs numbers_cost) rings
numbers-in [] = refl
numbers-in (r ∷ rs) =
    let more = numbers-in rs in
    let first = numbers-joined r in
    let long = length-append (joined r) (numbers_in rs) in
    omega (arith, more, first, long)

length-offsets : {A : Type 0} (n : ℕ) (xss : List (List A)) → length (offsets n xss) ≡ length xss + 1
length-offsets n [] = omega arith
length-offsets n (xs ∷ xss) = let more = length-offsets (n + length xs) xss in omega (arith, more)

-- The arrays of parts fit into so many bytes.
record Fit {N : Type 0} (parts : List (List (List (List N)))) (bytes : ℕ) : Type 0 where
  numbers : numbers_cost (numbers_in (joined parts)) ≤ bytes
  rings : length (joined parts) * 4 ≤ bytes + 4
  polygons : length parts * 6 ≤ bytes + 5

-- those of a lone polygon
lone : {N : Type 0} (rings : List (List (List N))) (bytes : ℕ) → costs (costs numbers_cost) rings + 1 ≤ bytes → length rings * 4 ≤ bytes + 4 → Fit (rings ∷ []) bytes
lone rings bytes h k =
    let same : joined (rings ∷ []) ≡ rings = append-nil rings in
    let sum = numbers-in (joined (rings ∷ [])) ∙ ap (λ rs. costs (costs numbers_cost) rs) same in
    let long = ap length same in
    record { numbers = omega (arith, h, sum); rings = omega (arith, k, long); polygons = omega (arith, h) }

by_parts : {N : Type 0} (p parts : List (List (List (List N)))) (bytes : ℕ) → Some p ≡ Some parts → Fit p bytes → Fit parts bytes
by_parts p parts bytes e h = let same : p ≡ parts = cc in subst (λ q. Fit q bytes) same h

module _ {N : Type 0} (read : List ℕ → Option N) where
  pub headed : (k : _) (d : Dimension) (P : List Lexeme → Type 0) (n : ℕ) → ((ls : List Lexeme) → P ls → n ≤ least ls) → (ls : List Lexeme) → WithHeader k d P ls → n ≤ least ls
  headed k d P n each ls (h, b, e, header, is) = let body = each b is in let both = least_on h b in let long : least ls ≡ least (h ++ b) = ap least e in omega (arith, body, both, long)

  fit : (v : Value N) (ls : List Lexeme) → StandFor read ls v → (parts : List (List (List (List N)))) → parts_of v ≡ Some parts → Fit parts (least ls)
  fit (Value.point d c) ls h parts e =
      let one : costs numbers_cost (option_to_list c) + 1 ≤ least ls = headed _ d _ _ (λ b k. perhaps_cost (Coord read d) numbers_cost (coord_cost read d) b c k) ls h in
      by_parts _ parts (least ls) e (lone (option_to_list c ∷ []) (least ls) (omega (arith, one)) (omega arith))
  fit (Value.line_string d cs) ls h parts e =
      let one : costs numbers_cost cs + 1 ≤ least ls = headed _ d _ _ (λ b k. listed_cost (Coord read d) numbers_cost (coord_cost read d) b cs k) ls h in
      by_parts _ parts (least ls) e (lone (cs ∷ []) (least ls) (omega (arith, one)) (omega arith))
  fit (Value.polygon d rs) ls h parts e =
      let one : costs (costs numbers_cost) rs + 1 ≤ least ls = headed _ d _ _ (λ b k. listed_cost (Ring read d) (costs numbers_cost) (ring_cost read d) b rs k) ls h in
      let four : costs (λ _. 4) rs + 1 ≤ least ls = headed _ d _ _ (λ b k. listed_cost (Ring read d) (λ _. 4) (ring_four read d) b rs k) ls h in
      let long = costs-length 4 rs in
      by_parts _ parts (least ls) e (lone rs (least ls) (omega (arith, one)) (omega (arith, four, long)))
  fit (Value.multi_line_string d rs) ls h parts e =
      let one : costs (costs numbers_cost) rs + 1 ≤ least ls = headed _ d _ _ (λ b k. listed_cost (Ring read d) (costs numbers_cost) (ring_cost read d) b rs k) ls h in
      let four : costs (λ _. 4) rs + 1 ≤ least ls = headed _ d _ _ (λ b k. listed_cost (Ring read d) (λ _. 4) (ring_four read d) b rs k) ls h in
      let long = costs-length 4 rs in
      by_parts _ parts (least ls) e (lone rs (least ls) (omega (arith, one)) (omega (arith, four, long)))
  fit (Value.multi_point d ms) ls h parts e =
      let one : costs (λ m. costs numbers_cost (option_to_list m)) ms + 1 ≤ least ls = headed _ d _ _ (λ b k. listed_cost (Member read d) (λ m. costs numbers_cost (option_to_list m)) (member_cost read d) b ms k) ls h in
      let four : costs (λ _. 4) ms + 1 ≤ least ls = headed _ d _ _ (λ b k. listed_cost (Member read d) (λ _. 4) (member_four read d) b ms k) ls h in
      let sum = costs-map (costs numbers_cost) option_to_list ms in
      let fours = costs-map (λ _. 4) option_to_list ms in
      let long = costs-length 4 (map option_to_list ms) in
      by_parts _ parts (least ls) e (lone (map option_to_list ms) (least ls) (omega (arith, one, sum)) (omega (arith, four, fours, long)))
  fit (Value.multi_polygon d ps) ls h parts e =
      let one : costs (costs (costs numbers_cost)) ps + 1 ≤ least ls = headed _ d _ _ (λ b k. listed_cost (Poly read d) (costs (costs numbers_cost)) (poly_cost read d) b ps k) ls h in
      let four : costs (λ rs. costs (λ _. 4) rs) ps + 1 ≤ least ls = headed _ d _ _ (λ b k. listed_cost (Poly read d) (λ rs. costs (λ _. 4) rs) (poly_rings read d) b ps k) ls h in
      let six : costs (λ _. 6) ps + 1 ≤ least ls = headed _ d _ _ (λ b k. listed_cost (Poly read d) (λ _. 6) (poly_six read d) b ps k) ls h in
      let sum = numbers-in (joined ps) ∙ costs-joined (costs numbers_cost) ps in
      let fours = costs-lengths 4 ps in
      let sixes = costs-length 6 ps in
      by_parts _ parts (least ls) e (record { numbers = omega (arith, one, sum); rings = omega (arith, four, fours); polygons = omega (arith, six, sixes) })
  fit (Value.collection d vs) ls h parts e = cc

-- A short text has place in rooms of these sizes.
room_enough : (read : List ℕ → Option ℤ) (text : List ℕ) (v : Value ℤ) (end numbers rings polygons : ℕ) → Front read text v end
    → length text ≤ 2 * numbers → length text + 5 ≤ 4 * rings → length text + 6 ≤ 6 * polygons → LackPlaces numbers rings polygons v → ⊥
room_enough read text v end numbers rings polygons f n r p (inl none) = omega (arith, none, r)
room_enough read text v end numbers rings polygons f n r p (inr (inl none)) = omega (arith, none, p)
room_enough read text v end numbers rings polygons f n r p (inr (inr (parts, is, lack))) =
    let few = (takes_least text f.lexemes f.rest f.taken).0 in
    let fits = fit read v f.lexemes f.reads parts is in
    let a = fits.numbers in
    let b = fits.rings in
    let c = fits.polygons in
    let ends = length-offsets 0 (joined parts) in
    let ends' = length-offsets 0 parts in
    elim lack [
      | inl less ↦ omega (arith, less, few, a, n)
      | inr more ↦ elim more [ inl less ↦ omega (arith, less, few, b, r, ends) | inr less ↦ omega (arith, less, few, c, p, ends') ]
    ]

pub place_enough : (places : ℕ) (text : List ℕ) (n r p : ℕ) → HasNoPlaceFor places text n r p → length text ≤ 2 * n → length text + 5 ≤ 4 * r → length text + 6 ≤ 6 * p → ⊥
place_enough places text n r p h a b c = room_enough (read_at places) text h.value h.end n r p h.front a b c h.lack

-- so many places that were cleared
pub cleared-places : {A : Type 0} (none : A) (places : ℕ) (text : List ℕ) (n r p : ℕ) → HasNoPlaceFor places text (length (replicate n none)) (length (replicate r the-zero)) (length (replicate p the-zero)) → HasNoPlaceFor places text n r p
cleared-places none places text n r p h =
    subst (λ k. HasNoPlaceFor places text k r p) (length-replicate n none)
    (subst (λ k. HasNoPlaceFor places text (length (replicate n none)) k p) (length-replicate r the-zero)
    (subst (λ k. HasNoPlaceFor places text (length (replicate n none)) (length (replicate r the-zero)) k) (length-replicate p the-zero) h))

-- an answer to a call that lacks less
pub lacking-more : {options status : ℕ} {text : List ℕ} {Full Fuller : Type 0} {sizes sizes' : WktSizes} {numbers numbers' : List ℤ} {rings rings' polygons polygons' : List ℕ} → (Full → Fuller)
    → AnswersArrays options text Full status sizes sizes' numbers numbers' rings rings' polygons polygons' → AnswersArrays options text Fuller status sizes sizes' numbers numbers' rings rings' polygons polygons'
lacking-more fuller a = record {
  filled = a.filled;
  small = a.small;
  as_asked = a.as_asked;
  more = a.more;
  memory = λ is. fuller (a.memory is);
  others = a.others;
  kept = a.kept;
  sizes_kept = a.sizes_kept;
}
