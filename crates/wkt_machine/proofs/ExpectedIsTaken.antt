-- What could stand at a place is exactly what the machine takes there, with so many parentheses open.
use Rattle.std.proofs.Common.{◌≡◌, ◌-◌, ℕ, zero, suc, List, [], ◌∷◌, ◌++◌, refl, ap, ◌∙◌, sym, subst, Option, Some, None, Bool, true, false, cond, inl, inr, ◌==◌, if◌then◌else◌, ◌+◌, arith}
use Rattle.std.specs.Prelude.{◌⊎◌, ◌↔◌}
use Rattle.wkt_num.specs.Bytes.{Lexeme, Open, Close, Comma, Word, Num}
use Rattle.wkt_access.specs.declared.dimensions.Dimension.{Dimension}
use Rattle.wkt_access.specs.declared.dimensions.Dimension.TheVariants.{XY}
use Rattle.wkt_read.specs.Grammar.{KindWord, kind_word, dim_word, is_empty_word}
use Rattle.wkt_read.specs.Begun.{IsDead, opens, closes}
use Rattle.wkt_read.proofs.KindWords.{empty_is, is_empty}
use Rattle.wkt_read.specs.Explained.{IsKind, IsDimension, IsOpening, IsNumber, IsNamed, IsExpectedAfter}
use Rattle.wkt_machine.specs.Machine.{start, is_over, over_at, Move, outside, numbers_after, kind_step, dimension_step, bare_step, comma_step, said, moved, at, and_then, after, move, run, part_of, inside, joined_step, number_step, Place, State}
use Rattle.wkt_machine.specs.Events.{Event}
use Rattle.wkt_machine.specs.Refusing.{last_number, item_expected, opening_expected, expected_at, outer_parens, open_parens}
use Rattle.wkt_machine.specs.declared.part.Part.{Part}
use Rattle.wkt_machine.specs.Machine as place
use Rattle.wkt_machine.specs.declared.step.Action.{Action}
use Rattle.wkt_machine.specs.declared.step.Action.TheVariants as act
use Rattle.wkt_machine.proofs.WholeRuns.{exact, goes_on, refuses, run_append, then_some}
use Rattle.wkt_read.specs.declared.expected.Expected.TheVariants as expected
use Rattle.wkt_machine.specs.declared.part.Part.TheVariants as part
use Rattle.wkt_types.specs.declared.geometry_type.GeometryType.{GeometryType}
use Rattle.wkt_read.specs.Context.{Context, no_context, after_lexeme}
use Rattle.wkt_machine.proofs.ContextOfPlace.{NotBare, is_inner, Fits, FitsState, fits_next}
use Rattle.wkt_types.specs.declared.geometry_type.GeometryType.TheVariants as kind

-- What could stand at a place is exactly what the machine takes there.

-- there is one exactly where this holds
abbrev pub Agrees : {A : Type 0} → Option A → Type 0 → Type 0
Agrees None P = P → ⊥
Agrees (Some w) P = P

no_opening_word : (w : List ℕ) → is_empty_word w ≡ false → IsOpening (Word w) → ⊥
no_opening_word w e (inl q) = cc
no_opening_word w e (inr (run, q, is)) =
    let same : w ≡ run = cc in
    let holds : is_empty_word run ≡ true = is_empty run is in
    let clash : false ≡ true = sym e ∙ ap is_empty_word same ∙ holds in cc

no_opening_close : IsOpening Close → ⊥
no_opening_close (inl q) = cc
no_opening_close (inr (run, q, is)) = cc

no_opening_comma : IsOpening Comma → ⊥
no_opening_comma (inl q) = cc
no_opening_comma (inr (run, q, is)) = cc

no_opening_num : (w : List ℕ) → IsOpening (Num w) → ⊥
no_opening_num w (inl q) = cc
no_opening_num w (inr (run, q, is)) = cc

empty_agrees : (b : Bool) (w : List ℕ) (s : State × Action) → is_empty_word w ≡ b → Agrees (cond b (Some s) None) (IsOpening (Word w))
empty_agrees true w s e = inr (w, refl, empty_is w e)
empty_agrees false w s e = no_opening_word w e

kind_agrees : (o : Option KindWord) (n : ℕ) (w : List ℕ) → kind_word w ≡ o → Agrees (kind_step o n) (IsKind (Word w))
kind_agrees (Some e) n w is = (w, e, refl, is)
kind_agrees None n w is = λ (run, e, q, holds).
    let same : w ≡ run = cc in
    let clash : ◌≡◌ {A = Option KindWord} None (Some e) = sym is ∙ ap kind_word same ∙ holds in cc

no_dimension : (w : List ℕ) → dim_word w ≡ None → IsDimension (Word w) → ⊥
no_dimension w e (run, d, q, is) =
    let same : w ≡ run = cc in
    let clash : ◌≡◌ {A = Option Dimension} None (Some d) = sym e ∙ ap dim_word same ∙ is in cc

or_opening : (b : Bool) (w : List ℕ) (s : State × Action) → dim_word w ≡ None → is_empty_word w ≡ b → Agrees (cond b (Some s) None) (IsDimension (Word w) ⊎ IsOpening (Word w))
or_opening true w s none e = inr (inr (w, refl, empty_is w e))
or_opening false w s none e = λ h. elim h [ inl d ↦ no_dimension w none d | inr o ↦ no_opening_word w e o ]

dimension_agrees : (o : Option Dimension) (p : Part) (n : ℕ) (w : List ℕ) → dim_word w ≡ o → Agrees (dimension_step o p w n) (IsDimension (Word w) ⊎ IsOpening (Word w))
dimension_agrees (Some d) p n w e = inl (w, d, refl, e)
dimension_agrees None p n w e = or_opening (is_empty_word w) w _ e refl

neither : (A B : Type 0) → (A → ⊥) → (B → ⊥) → A ⊎ B → ⊥
neither A B a b (inl h) = a h
neither A B a b (inr h) = b h

module _ {N : Type 0} (read : List ℕ → Option N) where
  -- a lexeme that isn't a number moves where it steps
  plain : (o : Option (State × Action)) (P : Type 0) → Agrees o P → Agrees (moved read o (Some None)) P
  plain None P h = h
  plain (Some s) P h = h

  unread : (run : List ℕ) → read run ≡ None → IsNumber read (Num run) → ⊥
  unread run never (other, x, q, holds) =
      let same : run ≡ other = cc in
      let clash : ◌≡◌ {A = Option N} None (Some x) = sym never ∙ ap read same ∙ holds in cc

  -- a number moves where it steps and is read
  number_moves : (o : Option N) (run : List ℕ) (s : State × Action) → read run ≡ o → Agrees (moved read (Some s) (said read o)) (IsNumber read (Num run))
  number_moves (Some x) run s e = (run, x, refl, e)
  number_moves None run s e = unread run e

  never_moves : (o : Option (Option N)) (P : Type 0) → (P → ⊥) → Agrees (moved read None o) P
  never_moves (Some x) P h = h
  never_moves None P h = h

  -- or an opening
  or_point : (o : Option (Move N)) (run : List ℕ) → Agrees o (IsNumber read (Num run)) → Agrees o (IsNumber read (Num run) ⊎ IsOpening (Num run))
  or_point None run h = neither _ _ h (no_opening_num run)
  or_point (Some m) run h = inl h

  no_number : (l : Lexeme) → ((run : List ℕ) → l ≡ Num run → ⊥) → IsNumber read l → ⊥
  no_number l never (run, x, q, is) = never run q

  point_word : (o : Option (Move N)) (w : List ℕ) → Agrees o (IsOpening (Word w)) → Agrees o (IsNumber read (Word w) ⊎ IsOpening (Word w))
  point_word None w h = neither _ _ (no_number (Word w) (λ run q. cc)) h
  point_word (Some m) w h = inr h

  opening_word : (p : Part) (d : Dimension) (n : ℕ) (w : List ℕ) → Agrees (move read (at n (place.Opening p d)) (Word w)) (IsOpening (Word w))
  opening_word p d n w = plain (cond (is_empty_word w) (Some (outside p d n, act.Empty p)) None) (IsOpening (Word w)) (empty_agrees (is_empty_word w) w (outside p d n, act.Empty p) refl)

  -- a member of a multipoint
  point_agrees : (d : Dimension) (n : ℕ) (l : Lexeme) → Agrees (move read (at n (place.Opening part.Member d)) l) (IsNumber read l ⊎ IsOpening l)
  point_agrees d n Open = inr (inl refl)
  point_agrees d n Close = neither _ _ (no_number Close (λ run q. cc)) no_opening_close
  point_agrees d n Comma = neither _ _ (no_number Comma (λ run q. cc)) no_opening_comma
  point_agrees d n (Word w) = point_word _ w (opening_word part.Member d n w)
  point_agrees d n (Num run) = or_point _ run (number_moves (read run) run (at n (place.Number part.Bare d (numbers_after d - 1)), act.FirstBare) refl)

  opening_agrees : (p : Part) (d : Dimension) (n : ℕ) → bare_step p d n ≡ None → (l : Lexeme) → Agrees (move read (at n (place.Opening p d)) l) (IsOpening l)
  opening_agrees p d n none Open = inl refl
  opening_agrees p d n none Close = no_opening_close
  opening_agrees p d n none Comma = no_opening_comma
  opening_agrees p d n none (Word w) = opening_word p d n w
  opening_agrees p d n none (Num run) = subst (λ o. Agrees (moved read o (said read (read run))) (IsOpening (Num run))) (sym none) (never_moves (said read (read run)) _ (no_opening_num run))

  part_agrees : (p : Part) (d : Dimension) (n : ℕ) (l : Lexeme) → Agrees (move read (at n (place.Opening p d)) l) (IsNamed read (opening_expected p) l)
  part_agrees part.Member d n l = point_agrees d n l
  part_agrees p d n l = opening_agrees p d n refl l

  word_agrees : (n : ℕ) (l : Lexeme) → Agrees (move read (at n place.Kind) l) (IsKind l)
  word_agrees n (Word w) = plain (kind_step (kind_word w) n) (IsKind (Word w)) (kind_agrees (kind_word w) n w refl)
  word_agrees n (Num num) = never_moves (said read (read num)) _ (λ (run, e, q, is). cc)
  word_agrees n _ = λ (run, e, q, is). cc

  alone_agrees : (p : Part) (n : ℕ) (l : Lexeme) → Agrees (move read (at n (place.Alone p)) l) (IsDimension l ⊎ IsOpening l)
  alone_agrees p n Open = inr (inl refl)
  alone_agrees p n Close = neither _ _ (λ (run, d, q, is). cc) no_opening_close
  alone_agrees p n Comma = neither _ _ (λ (run, d, q, is). cc) no_opening_comma
  alone_agrees p n (Word w) = plain (dimension_step (dim_word w) p w n) (IsDimension (Word w) ⊎ IsOpening (Word w)) (dimension_agrees (dim_word w) p n w refl)
  alone_agrees p n (Num num) = never_moves (said read (read num)) _ (neither _ _ (λ (run, d, q, is). cc) (no_opening_num num))

  number_agrees : (p : Part) (d : Dimension) (more n : ℕ) (l : Lexeme) → Agrees (move read (at n (place.Number p d more)) l) (IsNumber read l)
  number_agrees p d more n (Num run) = number_moves (read run) run _ refl
  number_agrees p d more n l = no_number l (λ run q. cc)

  no_more : (l : Lexeme) → (l ≡ Comma → ⊥) → (l ≡ Close → ⊥) → (l ≡ Comma) ⊎ (l ≡ Close) → ⊥
  no_more l a b h = neither _ _ a b h

  more_agrees : (p : Part) (d : Dimension) (n : ℕ) (s : State × Action) → comma_step p d n ≡ Some s → (l : Lexeme) → Agrees (move read (at n (place.Item p d)) l) ((l ≡ Comma) ⊎ (l ≡ Close))
  more_agrees p d n s some Open = no_more Open (λ q. cc) (λ q. cc)
  more_agrees p d n s some Close = inr refl
  more_agrees p d n s some Comma = plain (comma_step p d n) ((Comma ≡ Comma) ⊎ (Comma ≡ Close)) (subst (λ o. Agrees o ((Comma ≡ Comma) ⊎ (Comma ≡ Close))) (sym some) (inl refl))
  more_agrees p d n s some (Word w) = no_more (Word w) (λ q. cc) (λ q. cc)
  more_agrees p d n s some (Num run) = never_moves (said read (read run)) _ (no_more (Num run) (λ q. cc) (λ q. cc))

  closing_agrees : (p : Part) (d : Dimension) (n : ℕ) → comma_step p d n ≡ None → (l : Lexeme) → Agrees (move read (at n (place.Item p d)) l) (l ≡ Close)
  closing_agrees p d n none Open = λ q. cc
  closing_agrees p d n none Close = refl
  closing_agrees p d n none Comma = plain (comma_step p d n) (Comma ≡ Close) (subst (λ o. Agrees o (Comma ≡ Close)) (sym none) (λ q. cc))
  closing_agrees p d n none (Word w) = λ q. cc
  closing_agrees p d n none (Num run) = never_moves (said read (read run)) _ (λ q. cc)

  item_agrees : (p : Part) (d : Dimension) (n : ℕ) (l : Lexeme) → Agrees (move read (at n (place.Item p d)) l) (IsNamed read (item_expected p) l)
  item_agrees part.Point d n l = closing_agrees part.Point d n refl l
  item_agrees part.Member d n l = closing_agrees part.Member d n refl l
  item_agrees p d n l = more_agrees p d n _ refl l

  geometry_agrees : (n : ℕ) (l : Lexeme) → Agrees (move read (at (suc n) place.Geometry) l) ((l ≡ Comma) ⊎ (l ≡ Close))
  geometry_agrees n Open = no_more Open (λ q. cc) (λ q. cc)
  geometry_agrees n Close = inr refl
  geometry_agrees n Comma = inl refl
  geometry_agrees n (Word w) = no_more (Word w) (λ q. cc) (λ q. cc)
  geometry_agrees n (Num run) = never_moves (said read (read run)) _ (no_more (Num run) (λ q. cc) (λ q. cc))

  -- whichever number it is
  last_named : (d : Dimension) (l : Lexeme) → IsNamed read (last_number d) l ≡ IsNumber read l
  last_named XY l = refl
  last_named _ l = refl

  number_named : (a b c : Bool) (d : Dimension) (l : Lexeme) → IsNamed read (if a then last_number d else if b then expected.X else if c then expected.Y else expected.Z) l ≡ IsNumber read l
  number_named true b c d l = last_named d l
  number_named false true c d l = refl
  number_named false false true d l = refl
  number_named false false false d l = refl

  agrees_at : (p : Place) (n : ℕ) → over_at p n ≡ false → (l : Lexeme) → Agrees (move read (at n p) l) (IsNamed read (expected_at p n) l)
  agrees_at place.Kind zero o l = word_agrees 0 l
  agrees_at place.Kind (suc n) o l = word_agrees (suc n) l
  agrees_at (place.Alone p) n o l = alone_agrees p n l
  agrees_at (place.Opening p d) n o l = part_agrees p d n l
  agrees_at (place.Number p d more) n o l =
      subst (Agrees (move read (at n (place.Number p d more)) l)) (sym (number_named (more == 0) (more == numbers_after d) (suc more == numbers_after d) d l)) (number_agrees p d more n l)
  agrees_at (place.Item p d) n o l = item_agrees p d n l
  agrees_at place.Geometry zero o l = let no : ⊥ = cc in absurd no
  agrees_at place.Geometry (suc n) o l = geometry_agrees n l

  -- what goes on isn't dead
  alive : (ls : List Lexeme) (s : State) (es : List (Event N)) → run read start ls ≡ Some (s, es) → (b : Bool) → is_over s ≡ b → IsDead read ls → ⊥
  alive ls s es e true o dead = let (v, g, made) = exact read ls s es e o in dead.none_begins ls [] v (sym (nil ls)) g
    where
      nil : (ls : List Lexeme) → ls ++ [] ≡ ls
      nil [] = refl
      nil (l ∷ ls) = ap (λ k. l ∷ k) (nil ls)
  alive ls s es e false o dead = dead.not_begun (goes_on read ls s es e o).0

  could_stand : (before : List Lexeme) (s : State) (es : List (Event N)) (e : run read start before ≡ Some (s, es)) (o : is_over s ≡ false) (l : Lexeme) (m : Option (Move N)) (P : Type 0) → move read s l ≡ m → Agrees m P → P ↔ (IsDead read (before ++ (l ∷ [])) → ⊥)
  could_stand before s es e o l None P is never = (λ p. absurd (never p), λ h. absurd (h (refuses read before l s es e o is).dead))
  could_stand before s es e o l (Some m) P is holds =
      let there : run read start (before ++ (l ∷ [])) ≡ Some (m.0, es ++ (m.1 ++ [])) = run_append read before (l ∷ []) start (s, es) e ∙ ap (λ o. after es (and_then o (λ t. run read t []))) is in
      (λ p. alive (before ++ (l ∷ [])) m.0 (es ++ (m.1 ++ [])) there (is_over m.0) refl, λ h. holds)

  -- exactly the expected lexemes could come next
  pub expected_after : (before : List Lexeme) (s : State) (es : List (Event N)) → run read start before ≡ Some (s, es) → is_over s ≡ false → IsExpectedAfter read before (expected_at s.place s.depth)
  expected_after before s es e o l = could_stand before s es e o l (move read s l) _ refl (agrees_at s.place s.depth o l)

-- How many parentheses are open where the machine is.

-- how many are open
abbrev pub parens : State → ℕ
parens s = open_parens s.place + s.depth

-- what a move opens and closes
abbrev Counts : {N : Type 0} → ℕ → Lexeme → Option (Move N) → Type 0
Counts k l None = Unit {0}
Counts k l (Some m) = parens m.0 + closes (l ∷ []) ≡ k + opens (l ∷ [])

in_parens : (p : Part) (d : Dimension) (n : ℕ) → parens (inside p d n) ≡ outer_parens p + 1 + n
in_parens part.Collection d n = omega arith
in_parens p d n = omega arith

out_parens : (p : Part) (d : Dimension) (n : ℕ) → NotBare p → parens (outside p d n) ≡ outer_parens p + n
out_parens part.Bare d n b = absurd b
out_parens p d n b = omega arith

none_around : (p : Part) → is_inner p ≡ false → outer_parens p ≡ 0
none_around part.Member e = cc
none_around part.Ring e = cc
none_around part.Line e = cc
none_around part.Area e = cc
none_around part.AreaRing e = cc
none_around p e = refl

part_around : (k : GeometryType) → outer_parens (part_of k) ≡ 0
part_around kind.Point = refl
part_around _ = refl

module _ {N : Type 0} (read : List ℕ → Option N) where
  no_counts : (o : Option (Option N)) (k : ℕ) (l : Lexeme) → Counts k l (moved read None o)
  no_counts (Some x) k l = tt
  no_counts None k l = tt

  kind_counts : (o : Option KindWord) (n : ℕ) (w : List ℕ) → Counts n (Word w) (moved read (kind_step o n) (Some None))
  kind_counts None n w = tt
  kind_counts (Some e) n w = joined e.kind e.joined
    where
      joined : (k : GeometryType) (j : Option Dimension) → parens (joined_step (part_of k) j n).0 + 0 ≡ n + 0
      joined k (Some d) = let h = part_around k in omega (arith, h)
      joined k None = omega arith

  at_kind : (n : ℕ) (l : Lexeme) → Counts n l (move read (at n place.Kind) l)
  at_kind n (Word w) = kind_counts (kind_word w) n w
  at_kind n (Num run) = no_counts (said read (read run)) n (Num run)
  at_kind n _ = tt

  empty_counts : (b : Bool) (k : ℕ) (s : State) (a : Action) (w : List ℕ) → parens s ≡ k → Counts k (Word w) (moved read (cond b (Some (s, a)) None) (Some None))
  empty_counts true k s a w e = omega (arith, e)
  empty_counts false k s a w e = tt

  dimension_counts : (o : Option Dimension) (p : Part) (n : ℕ) (w : List ℕ) → NotBare p → outer_parens p ≡ 0 → Counts n (Word w) (moved read (dimension_step o p w n) (Some None))
  dimension_counts (Some d) p n w b h = omega (arith, h)
  dimension_counts None p n w b h = let out = out_parens p XY n b in empty_counts (is_empty_word w) n (outside p XY n) (act.HeaderEmpty p) w (omega (arith, out, h))

  at_alone : (p : Part) (n : ℕ) → NotBare p → outer_parens p ≡ 0 → (l : Lexeme) → Counts n l (move read (at n (place.Alone p)) l)
  at_alone p n b h Open = let into = in_parens p XY n in omega (arith, into, h)
  at_alone p n b h Close = tt
  at_alone p n b h Comma = tt
  at_alone p n b h (Word w) = dimension_counts (dim_word w) p n w b h
  at_alone p n b h (Num run) = no_counts (said read (read run)) n (Num run)

  bare_counts : (p : Part) (d : Dimension) (n : ℕ) (run : List ℕ) (o : Option N) → Counts (outer_parens p + n) (Num run) (moved read (bare_step p d n) (said read o))
  bare_counts part.Member d n run (Some x) = omega arith
  bare_counts part.Member d n run None = tt
  bare_counts p d n run o = no_counts (said read o) (outer_parens p + n) (Num run)

  at_opening : (p : Part) (d : Dimension) (n : ℕ) → NotBare p → (l : Lexeme) → Counts (outer_parens p + n) l (move read (at n (place.Opening p d)) l)
  at_opening p d n b Open = let into = in_parens p d n in omega (arith, into)
  at_opening p d n b Close = tt
  at_opening p d n b Comma = tt
  at_opening p d n b (Word w) = empty_counts (is_empty_word w) (outer_parens p + n) (outside p d n) (act.Empty p) w (out_parens p d n b)
  at_opening p d n b (Num run) = bare_counts p d n run (read run)

  last_counts : (p : Part) (d : Dimension) (n : ℕ) → parens (number_step p d 0 n).0 ≡ outer_parens p + 1 + n
  last_counts part.Bare d n = omega arith
  last_counts p d n = omega arith

  number_counts : (o : Option N) (p : Part) (d : Dimension) (more n : ℕ) (run : List ℕ) → Counts (outer_parens p + 1 + n) (Num run) (moved read (Some (number_step p d more n)) (said read o))
  number_counts None p d more n run = tt
  number_counts (Some x) p d zero n run = let last = last_counts p d n in omega (arith, last)
  number_counts (Some x) p d (suc more) n run = omega arith

  at_number : (p : Part) (d : Dimension) (more n : ℕ) (l : Lexeme) → Counts (outer_parens p + 1 + n) l (move read (at n (place.Number p d more)) l)
  at_number p d more n (Num run) = number_counts (read run) p d more n run
  at_number p d more n _ = tt

  comma_counts : (p : Part) (d : Dimension) (n : ℕ) → Counts (outer_parens p + 1 + n) Comma (moved read (comma_step p d n) (Some None))
  comma_counts part.Point d n = tt
  comma_counts part.Member d n = tt
  comma_counts p d n = let into = in_parens p d n in omega (arith, into)

  at_item : (p : Part) (d : Dimension) (n : ℕ) → NotBare p → (l : Lexeme) → Counts (outer_parens p + 1 + n) l (move read (at n (place.Item p d)) l)
  at_item p d n b Open = tt
  at_item p d n b Close = let out = out_parens p d n b in omega (arith, out)
  at_item p d n b Comma = comma_counts p d n
  at_item p d n b (Word w) = tt
  at_item p d n b (Num run) = no_counts (said read (read run)) (outer_parens p + 1 + n) (Num run)

  at_geometry : (n : ℕ) (l : Lexeme) → Counts n l (move read (at n place.Geometry) l)
  at_geometry (suc n) Close = omega arith
  at_geometry (suc n) Comma = omega arith
  at_geometry zero (Num run) = no_counts (said read (read run)) zero (Num run)
  at_geometry (suc n) (Num run) = no_counts (said read (read run)) (suc n) (Num run)
  at_geometry zero l = tt
  at_geometry (suc n) l = tt

  from_none : (n : ℕ) (l : Lexeme) (o : Option (Move N)) → Counts n l o → Counts (0 + n) l o
  from_none n l o h = let z : n ≡ 0 + n = omega arith in subst (λ k. Counts k l o) z h

  counts_at : (p : Place) (n : ℕ) (c : Context) → Fits p n c → (l : Lexeme) → Counts (open_parens p + n) l (move read (at n p) l)
  counts_at place.Kind n c h l = from_none n l (move read (at n place.Kind) l) (at_kind n l)
  counts_at (place.Alone p) n c (b, outer, of, o) l = from_none n l (move read (at n (place.Alone p)) l) (at_alone p n b (none_around p outer) l)
  counts_at (place.Opening p d) n c (b, of, o, z) l = at_opening p d n b l
  counts_at (place.Number p d more) n c h l = at_number p d more n l
  counts_at (place.Item p d) n c (b, of, o) l = at_item p d n b l
  counts_at place.Geometry n c h l = from_none n l (move read (at n place.Geometry) l) (at_geometry n l)

  opens_one : (l : Lexeme) (ls : List Lexeme) → opens (l ∷ ls) ≡ opens (l ∷ []) + opens ls
  opens_one Open ls = omega arith
  opens_one _ ls = omega arith

  closes_one : (l : Lexeme) (ls : List Lexeme) → closes (l ∷ ls) ≡ closes (l ∷ []) + closes ls
  closes_one Open ls = omega arith
  closes_one _ ls = omega arith

  counted_run : (ls : List Lexeme) (s : State) (c : Context) (m : Move N) → FitsState s c → run read s ls ≡ Some m → parens m.0 + closes ls ≡ parens s + opens ls
  counted_run [] s c m h e =
      let same : s ≡ m.0 = cc in
      subst (λ (t : State). parens t + 0 ≡ parens s + 0) same refl
  counted_run (l ∷ ls) s c m h e =
      let (q, r, moves, runs, split) = then_some read (move read s l) (λ t. run read t ls) m e in
      let same : r.0 ≡ m.0 = sym (ap (λ (m : Move N). m.0) split) in
      let one : parens q.0 + closes (l ∷ []) ≡ parens s + opens (l ∷ []) = subst (Counts (parens s) l) moves (counts_at s.place s.depth c h l) in
      let more : parens r.0 + closes ls ≡ parens q.0 + opens ls = counted_run ls q.0 (after_lexeme c l) r (fits_next read s c h l q moves) runs in
      let all : parens r.0 + closes (l ∷ ls) ≡ parens s + opens (l ∷ ls) = omega (arith, one, more, opens_one l ls, closes_one l ls) in
      subst (λ (t : State). parens t + closes (l ∷ ls) ≡ parens s + opens (l ∷ ls)) same all

  -- As many are open as opened, but for those that closed.
  pub counted : (before : List Lexeme) (m : Move N) → run read start before ≡ Some m → parens m.0 + closes before ≡ opens before
  counted before m e = let h = counted_run before start no_context m refl e in omega (arith, h)
