-- How much lexemes take, and room that is left for what they make.
use Rattle.std.proofs.Common.{◌≡◌, ◌≢◌, ℕ, suc, ◌+◌, ◌-◌, ◌*◌, ◌≤◌, List, [], ◌∷◌, length, get_or, drop, Option, Some, None, Bool, true, false, cond, if◌then◌else◌, ◌&&◌, ◌||◌, ◌==◌, nat_le, refl, sym, ap, ◌∙◌, subst, arith, lit≤, codes}
use Rattle.std.specs.Str.{bytes_eq, str_to_ascii_uppercase}
use Rattle.std.specs.Char.{to_ascii_uppercase}
use Rattle.std.proofs.lemmas.Bool.{leb-true}
use Rattle.std.proofs.lemmas.List.{length-map, length-drop}
use Rattle.std.proofs.lemmas.Slice.Eq.{bytes_eq-Decides}
use Rattle.wkt_num.specs.Bytes.{Lexeme, Open, Close, Comma, Word, Num, Class, Nul, White, Mark, Run, class_of}
use Rattle.wkt_access.specs.declared.dimensions.Dimension.{Dimension}
use Rattle.wkt_types.specs.declared.geometry_type.GeometryType.{GeometryType}
use Rattle.wkt_read.specs.Grammar.{KindWord, kind_words, entry_in, kind_word, dim_word, is_empty_word}
use Rattle.wkt_read.specs.Lexemes.{lexeme_of, starts_number, without_plus}
use Rattle.wkt_read.specs.Spanned.{Spanned, front, after_run, joined, spanned_from}
use Rattle.wkt_read.proofs.KindWords.{empty_is}
use Rattle.wkt_events.specs.Remaining.{before_feed, line_of, class_in, remaining_spanned}
use Rattle.wkt_events.proofs.RemainingLexemes.{class-in-mark, class-in-run, spanned-class, within}
use Rattle.wkt_machine.specs.Machine.{part_of, at, inside, outside}
use Rattle.wkt_machine.specs.Room.{name_length, header_cost, shortest, number_cost, cost, need, owed, Leaves, HasRoom, HasNumberRoom, LeavesNumber}
use Rattle.wkt_machine.specs.View.{seen_of, seen_word, seen_other, sight, View}
use Rattle.wkt_machine.specs.declared.machine.LexemeKind.{LexemeKind}
use Rattle.wkt_types.specs.declared.geometry_type.GeometryType.TheVariants as kind
use Rattle.wkt_machine.specs.declared.machine.LexemeKind.TheVariants as seen
use Rattle.wkt_machine.specs.Goes.{Stays, Skips}
use Rattle.wkt_machine.specs.Makers.{Maker}
use Rattle.wkt_machine.specs.declared.part.Part.{Part}
use Rattle.wkt_machine.specs.declared.part.Part.TheVariants as part

-- How much lexemes take: what is seen of one at least, and those of a text at most.

-- A kind word is at least as long as its kind's name.
name_some : (g : GeometryType) → 5 ≤ name_length (part_of g)
name_some kind.Point = lit≤ tt
name_some _ = lit≤ tt

abbrev long_row : KindWord → Bool
long_row e = nat_le (name_length (part_of e.kind)) (length e.word)

abbrev long_rows : List KindWord → Bool
long_rows [] = true
long_rows (e ∷ es) = long_row e && long_rows es

all_long : long_rows kind_words ≡ true
unfolding kind_words
all_long = refl

both : (x y : Bool) → (x && y) ≡ true → (x ≡ true) × (y ≡ true)
both true y e = (refl, e)
both false y e = cc

row_long : (es : List KindWord) (w : List ℕ) (e : KindWord) → long_rows es ≡ true → entry_in es w ≡ Some e → (w ≡ e.word) × (long_row e ≡ true)
row_long [] w e long h = cc
row_long (f ∷ es) w e long h = let k = both (long_row f) (long_rows es) long in go (bytes_eq w f.word) refl h k.0 (λ q. row_long es w e k.1 q)
  where
    go : (b : Bool) → bytes_eq w f.word ≡ b → cond b (Some f) (entry_in es w) ≡ Some e → long_row f ≡ true → (entry_in es w ≡ Some e → (w ≡ e.word) × (long_row e ≡ true)) → (w ≡ e.word) × (long_row e ≡ true)
    go true eb q k rec =
        let same : f ≡ e = cc in
        ((bytes_eq-Decides w f.word).0 eb ∙ ap (λ (x : KindWord). x.word) same, ap long_row (sym same) ∙ k)
    go false eb q k rec = rec q

upper_length : (run w : List ℕ) → str_to_ascii_uppercase run ≡ w → length run ≡ length w
upper_length run w e = sym (length-map run to_ascii_uppercase) ∙ ap length e

kind_long : (run : List ℕ) (e : KindWord) → kind_word run ≡ Some e → name_length (part_of e.kind) ≤ length run
unfolding kind_word
kind_long run e is =
    let row = row_long kind_words (str_to_ascii_uppercase run) e all_long is in
    let long = leb-true (name_length (part_of e.kind)) (length e.word) row.1 in
    let count = upper_length run e.word row.0 in
    omega (arith, count, long)

-- It takes as much as a header.
pub kind_cost : (run : List ℕ) (e : KindWord) → kind_word run ≡ Some e → header_cost (part_of e.kind) ≤ 2 * length run + 1
kind_cost run e is =
    let long = kind_long run e is in
    let some = name_some e.kind in
    omega (arith, long, some)

-- How much a lexeme takes at least that is seen so.
abbrev pub seen_cost : LexemeKind → ℕ
seen_cost seen.Open = 1
seen_cost seen.Close = 1
seen_cost seen.Comma = 1
seen_cost (seen.Kind g d) = header_cost (part_of g)
seen_cost (seen.Dimension d) = 1
seen_cost seen.Empty = 6
seen_cost seen.Number = 1
seen_cost seen.Other = 0

other_cost : (w : List ℕ) (d : Option Dimension) (b : Bool) → is_empty_word w ≡ b → seen_cost (seen_other d w) ≤ 2 * length w + 1
other_cost w (Some d) b e = omega arith
other_cost w None true e =
    let count : length w ≡ 5 = upper_length w (codes "EMPTY") (empty_is w e) in
    let six : 6 ≤ 2 * length w + 1 = omega (arith, count) in
    subst (λ b. seen_cost (cond b seen.Empty seen.Other) ≤ 2 * length w + 1) (sym e) six
other_cost w None false e =
    let none : 0 ≤ 2 * length w + 1 = omega arith in
    subst (λ b. seen_cost (cond b seen.Empty seen.Other) ≤ 2 * length w + 1) (sym e) none

word_cost : (w : List ℕ) (o : Option KindWord) → kind_word w ≡ o → seen_cost (seen_word o w) ≤ 2 * length w + 1
word_cost w (Some e) is = kind_cost w e is
word_cost w None is = other_cost w (dim_word w) (is_empty_word w) refl

pub cost_seen : (l : Lexeme) → seen_cost (seen_of l) ≤ cost l
cost_seen (Num run) = omega arith
cost_seen (Word w) = word_cost w (kind_word w) refl
cost_seen _ = lit≤ tt

pub need_seen : (ps qs : List Spanned) (p : Spanned) (k : LexemeKind) → k ≡ sight ps → ps ≡ p ∷ qs → seen_cost k + need qs ≤ need ps
need_seen ps qs p k sees is =
    let all : need ps ≡ cost p.lexeme + need qs = ap need is in
    let same : seen_cost k ≡ seen_cost (seen_of p.lexeme) = ap seen_cost (sees ∙ ap sight is) in
    let least = cost_seen p.lexeme in
    omega (arith, all, same, least)

pub seen_need : (ps : List Spanned) (k : LexemeKind) → k ≡ sight ps → seen_cost k ≤ need ps
seen_need [] k e = let none : seen_cost k ≡ 0 = ap seen_cost e in omega (arith, none)
seen_need (p ∷ ps) k e = let more = need_seen (p ∷ ps) ps p k e refl in omega (arith, more)

-- A mark is one of three.
mark_by : (P : Lexeme → Type 0) → P Open → P Close → P Comma → (b : ℕ) (l : Lexeme) → class_of b ≡ Mark l → P l
unfolding class_of
mark_by P opens closes parts b l = go (b == 0) (b == 32 || b == 10 || b == 13 || b == 9) (b == 40) (b == 41) (b == 44)
  where
    one : (k : Lexeme) → ◌≡◌ {A = Class} (Mark k) (Mark l) → P k → P l
    one k e h = let same : k ≡ l = cc in subst P same h

    go : (n w o c m : Bool) → (if n then Nul else (if w then White else (if o then Mark Open else (if c then Mark Close else (if m then Mark Comma else Run))))) ≡ Mark l → P l
    go true w o c m e = cc
    go false true o c m e = cc
    go false false true c m e = one Open e opens
    go false false false true m e = one Close e closes
    go false false false false true e = one Comma e parts
    go false false false false false e = cc

-- It takes one byte.
mark_cost : (b : ℕ) (l : Lexeme) → class_of b ≡ Mark l → cost l ≤ 1
mark_cost = mark_by (λ l. cost l ≤ 1) (lit≤ tt) (lit≤ tt) (lit≤ tt)

pub marks_one : (b : ℕ) (l : Lexeme) → class_of b ≡ Mark l → 1 ≤ seen_cost (seen_of l)
marks_one = mark_by (λ l. 1 ≤ seen_cost (seen_of l)) (lit≤ tt) (lit≤ tt) (lit≤ tt)

-- A run takes twice its bytes, and one more.
shortest_length : (bs : List ℕ) → length (shortest bs) ≤ suc (length bs)
shortest_length [] = omega arith
shortest_length (b ∷ bs) = go (b == 43)
  where
    go : (t : Bool) → length (if t then 43 ∷ b ∷ bs else b ∷ bs) ≤ suc (suc (length bs))
    go true = omega arith
    go false = omega arith

plus_length : (b : ℕ) (bs : List ℕ) (t : Bool) → (b == 43) ≡ t → length (shortest (without_plus (b ∷ bs))) ≤ suc (length bs)
plus_length b bs true e = subst (λ t. length (shortest (if t then bs else b ∷ bs)) ≤ suc (length bs)) (sym e) (shortest_length bs)
plus_length b bs false e =
    let same : length (b ∷ bs) ≤ suc (length bs) = omega arith in
    let least : length (shortest (b ∷ bs)) ≤ suc (length bs) = subst (λ t. length (if t then 43 ∷ b ∷ bs else b ∷ bs) ≤ suc (length bs)) (sym e) same in
    subst (λ t. length (shortest (if t then bs else b ∷ bs)) ≤ suc (length bs)) (sym e) least

run_cost : (b : ℕ) (bs : List ℕ) (t : Bool) → starts_number b ≡ t → cost (lexeme_of (b ∷ bs)) ≤ 2 * suc (length bs) + 1
run_cost b bs true e =
    let most = plus_length b bs (b == 43) refl in
    let whole : number_cost (without_plus (b ∷ bs)) + 1 ≤ 2 * suc (length bs) + 1 = omega (arith, most) in
    subst (λ t. cost (if t then Num (without_plus (b ∷ bs)) else Word (b ∷ bs)) ≤ 2 * suc (length bs) + 1) (sym e) whole
run_cost b bs false e =
    let whole : 2 * suc (length bs) + 1 ≤ 2 * suc (length bs) + 1 = omega arith in
    subst (λ t. cost (if t then Num (without_plus (b ∷ bs)) else Word (b ∷ bs)) ≤ 2 * suc (length bs) + 1) (sym e) whole

after_cost : (at : ℕ) (run : List ℕ) (later : List Spanned) → need (after_run at run later) ≤ 2 * length run + 1 + need later
after_cost at [] later = omega arith
after_cost at (b ∷ run) later = let most = run_cost b run (starts_number b) refl in omega (arith, most)

joined_cost : (c : Class) (b at n : ℕ) (run : List ℕ) (later : List Spanned) → class_of b ≡ c → need later + 2 * length run ≤ 2 * n → need (joined c b at run later).1 + 2 * length (joined c b at run later).0 ≤ 2 * suc n
joined_cost Run b at n run later is h = omega (arith, h)
joined_cost Nul b at n run later is h = omega arith
joined_cost White b at n run later is h = let more = after_cost (suc at) run later in omega (arith, h, more)
joined_cost (Mark l) b at n run later is h =
    let more = after_cost (suc at) run later in
    let one = mark_cost b l is in
    omega (arith, h, more, one)

front_cost : (at : ℕ) (bytes : List ℕ) → need (front at bytes).1 + 2 * length (front at bytes).0 ≤ 2 * length bytes
unfolding front
front_cost at [] = omega arith
front_cost at (b ∷ bytes) = joined_cost (class_of b) b at (length bytes) (front (suc at) bytes).0 (front (suc at) bytes).1 refl (front_cost (suc at) bytes)

spanned_cost : (at : ℕ) (bytes : List ℕ) → need (spanned_from at bytes) ≤ 2 * length bytes + 1
unfolding spanned_from
spanned_cost at bytes =
    let most = front_cost at bytes in
    let more = after_cost at (front at bytes).0 (front at bytes).1 in
    omega (arith, most, more)

feed_length : (bytes : List ℕ) → length (before_feed bytes) ≤ length bytes
feed_length [] = omega arith
feed_length (b ∷ bytes) = go (b == 10) (feed_length bytes)
  where
    go : (t : Bool) → length (before_feed bytes) ≤ length bytes → length (if t then [] else b ∷ before_feed bytes) ≤ suc (length bytes)
    go true h = omega arith
    go false h = omega (arith, h)

line_length : (feed : Bool) (bytes : List ℕ) → length (line_of feed bytes) ≤ length bytes
line_length false bytes = omega arith
line_length true bytes = feed_length bytes

-- What is left takes twice its bytes, and one more where a run goes on there.
pub need_most : (feed : Bool) (text : List ℕ) (at : ℕ) → need (remaining_spanned feed text at) ≤ 2 * (length text - at) + 1
unfolding remaining_spanned
need_most feed text at =
    let most = spanned_cost at (line_of feed (drop at text)) in
    let line = line_length feed (drop at text) in
    let count : length (drop at text) ≡ length text - at = length-drop at text in
    omega (arith, most, line, count)

pub need_stops : (feed : Bool) (text : List ℕ) (at : ℕ) → class_of (get_or text at 0) ≢ Run → need (remaining_spanned feed text at) ≤ 2 * (length text - at)
need_stops feed text at stops = go (class_in feed (get_or text at 0)) refl
  where
    go : (c : Class) → class_in feed (get_or text at 0) ≡ c → need (remaining_spanned feed text at) ≤ 2 * (length text - at)
    go Nul e =
        let none : need (remaining_spanned feed text at) ≡ 0 = ap need (spanned-class feed text at Nul e (λ q. cc)) in
        omega (arith, none)
    go White e =
        let inside = within feed text at White e (λ q. cc) in
        let same : need (remaining_spanned feed text at) ≡ need (remaining_spanned feed text (at + 1)) = ap need (spanned-class feed text at White e (λ q. cc)) in
        let most = need_most feed text (at + 1) in
        omega (arith, inside, same, most)
    go (Mark l) e =
        let inside = within feed text at (Mark l) e (λ q. cc) in
        let same : need (remaining_spanned feed text at) ≡ cost l + need (remaining_spanned feed text (at + 1)) = ap need (spanned-class feed text at (Mark l) e (λ q. cc)) in
        let one = mark_cost (get_or text at 0) l (class-in-mark feed (get_or text at 0) l e) in
        let most = need_most feed text (at + 1) in
        omega (arith, inside, same, one, most)
    go Run e = absurd (stops (class-in-run feed (get_or text at 0) e))

-- Room that is left for what the lexemes make.

-- Only behind a kind word alone something is owed.
pub inside_owes : (p : Part) (d : Dimension) (n : ℕ) → owed (inside p d n) ≡ 0
inside_owes part.Polygon d n = refl
inside_owes _ d n = refl

pub outside_owes : (p : Part) (d : Dimension) (n : ℕ) → owed (outside p d n) ≡ 0
outside_owes part.Ring d n = refl
outside_owes _ d n = refl

module _ {N S B : Type 0} (view : View N S) (maker : Maker N B) where
  -- no call takes no room
  pub leaves_none : (b : B) → Leaves maker b 0 b
  leaves_none b m h = maker.less b m (m + 0) (omega arith) h

  -- two calls
  pub leaves_both : (j k : ℕ) (b c d : B) → Leaves maker b j c → Leaves maker c k d → Leaves maker b (k + j) d
  leaves_both j k b c d one two m h = two m (one (m + k) (maker.less b (m + k + j) (m + (k + j)) (omega arith) h))

  pub stays_room : (n : ℕ) (s t : S) (b : B) → Stays view s t → HasRoom view maker n s b → HasRoom view maker n t b
  stays_room n s t b stays h = record { fits = subst (λ ps. maker.fits b (n + need ps)) (sym stays.remaining) h.fits; values = h.values; reads = h.reads }

  -- room for less
  pub less_room : (m n : ℕ) (s : S) (b : B) → m ≤ n → HasRoom view maker n s b → HasRoom view maker m s b
  less_room m n s b order h = record { fits = maker.less b (m + need (view.remaining s)) (n + need (view.remaining s)) (omega (arith, order)) h.fits; values = h.values; reads = h.reads }

  -- There is room for what the lexeme makes that is seen.
  pub fits_seen : (n spent : ℕ) (k : LexemeKind) (s : S) (b : B) → k ≡ sight (view.remaining s) → spent ≤ n + seen_cost k → HasRoom view maker n s b → maker.fits b spent
  fits_seen n spent k s b sees order h =
      let least = seen_need (view.remaining s) k sees in
      maker.less b spent (n + need (view.remaining s)) (omega (arith, order, least)) h.fits

  -- It is taken, and so much is made of it.
  pub spent_room : (n after spent : ℕ) (k : LexemeKind) (s t : S) (b c : B) → k ≡ sight (view.remaining s) → Skips view s t → after + spent ≤ n + seen_cost k → Leaves maker b spent c → HasRoom view maker n s b → HasRoom view maker after t c
  spent_room n after spent k s t b c sees skips order leaves h =
      let least = need_seen (view.remaining s) (view.remaining t) skips.lexeme k sees skips.remaining in
      record {
        fits = leaves (after + need (view.remaining t)) (maker.less b (after + need (view.remaining t) + spent) (n + need (view.remaining s)) (omega (arith, order, least)) h.fits);
        values = h.values;
        reads = h.reads;
      }

  -- what makes no use of room
  pub free_room : (s : S) (b : B) → ((n : ℕ) → maker.fits b n) → ((c : B) (x : N) → maker.takes c x ≡ 0) → (view.by_value → (c : B) → maker.reads c ≡ view.number) → HasRoom view maker 0 s b
  free_room s b fits takes reads = record { fits = fits (0 + need (view.remaining s)); values = λ by. takes; reads = reads }

  -- Room for a number.
  pub number_room : (s : S) (b : B) → HasRoom view maker 0 s b → HasNumberRoom view maker s b
  number_room s b h = record { fits = maker.less b (need (view.remaining s) - 1) (0 + need (view.remaining s)) (omega arith) h.fits; values = h.values; reads = h.reads }

  -- the first of a point without parentheses
  pub bare_room : (s : S) (b o : B) → seen.Number ≡ sight (view.remaining s) → Leaves maker b 1 o → HasRoom view maker 0 s b → HasNumberRoom view maker s o
  bare_room s b o sees leaves h =
      let least : 1 ≤ need (view.remaining s) = seen_need (view.remaining s) seen.Number sees in
      record { fits = leaves (need (view.remaining s) - 1) (maker.less b (need (view.remaining s) - 1 + 1) (0 + need (view.remaining s)) (omega (arith, least)) h.fits); values = h.values; reads = h.reads }

  pub bare_after : (s t : S) (o c : B) → HasNumberRoom view maker s o → LeavesNumber view maker s o t c → HasRoom view maker 0 t c
  bare_after s t o c h leaves = record { fits = leaves 0 (omega arith) (maker.less o (0 + (need (view.remaining s) - 1)) (need (view.remaining s) - 1) (omega arith) h.fits); values = h.values; reads = h.reads }

  -- another, with room for the parenthesis that isn't there
  pub number_after : (s t : S) (b c : B) → seen.Number ≡ sight (view.remaining s) → HasRoom view maker 0 s b → LeavesNumber view maker s b t c → HasRoom view maker 1 t c
  number_after s t b c sees h leaves =
      let least : 1 ≤ need (view.remaining s) = seen_need (view.remaining s) seen.Number sees in
      record { fits = leaves 1 (omega arith) (maker.less b (1 + (need (view.remaining s) - 1)) (0 + need (view.remaining s)) (omega (arith, least)) h.fits); values = h.values; reads = h.reads }

  -- Numbers that are given by value take no room.
  pub value_fits : (s : S) (b : B) (x : N) → view.by_value → HasNumberRoom view maker s b → maker.fits b (maker.takes b x)
  value_fits s b x by h = let none = h.values by b x in maker.less b (maker.takes b x) (need (view.remaining s) - 1) (omega (arith, none)) h.fits

  pub value_leaves : (s t : S) (b c : B) (x : N) (run : List ℕ) (end : ℕ) → view.by_value → HasNumberRoom view maker s b → view.remaining s ≡ record { lexeme = Num run; end = end } ∷ view.remaining t → Leaves maker b (maker.takes b x) c → LeavesNumber view maker s b t c
  value_leaves s t b c x run end by room remaining leaves k one h =
      let none = room.values by b x in
      let all : need (view.remaining s) ≡ number_cost run + 1 + need (view.remaining t) = ap need remaining in
      leaves (k + need (view.remaining t)) (maker.less b (k + need (view.remaining t) + maker.takes b x) (k + (need (view.remaining s) - 1)) (omega (arith, none, all)) h)
