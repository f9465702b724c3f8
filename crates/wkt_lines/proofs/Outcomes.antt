-- What a run leaves, block by block; the output for an input that is cut after line feeds, and beginnings of it. There is one
-- at most.
use Rattle.std.proofs.Common.{◌≡◌, ℕ, List, [], ◌∷◌, ◌==◌, if◌then◌else◌, true, false, refl, inl, inr, sym, ◌∙◌, ap, subst, ◌++◌, append_assoc, Option, ◌⊎◌, None, Some, IfSome, OnOk, Result, Ok, Err}
use Rattle.std.proofs.lemmas.List.{append-nil}
use Rattle.std.specs.Io.KnownBytes.{Consumes, Keeps, IsAtEnd}
use Rattle.std.proofs.KnownBytes.{Appends-nil, Appends-trans, Keeps-refl, Consumes-nil, Consumes-trans, Consumes-kept, Consumes-whole}
use Rattle.std.specs.declared.io.Error.{Error}
use Rattle.std.specs.declared.alloc.AllocError.{AllocError}
use Rattle.wkt_lines.specs.Lines.{onto_first, pieces, without_last_empty, input_lines, before_feed, after_feed, HasNoFeed}
use Rattle.wkt_lines.specs.Replies.{AreReplies, AllReplied, FirstReplied, RepliesBefore, BeforeReplied, PartReplied}
use Rattle.wkt_lines.specs.Output.{IsAnswer, AreAnswers, IsOutput, IsText, IsRefusedLine}
use Rattle.wkt_lines.specs.Laws.{IsWholeLines, AreWhole, joined, AreOutputs}
use Rattle.wkt_access.specs.Shapes.{shape_of}
use Rattle.wkt_access.specs.Texts.{shape_text}
use Rattle.wkt_read.specs.Laws.{OneFront}
use Rattle.wkt_bytes.specs.Sinks.{SinkOfBytes}
use Rattle.wkt_num.specs.Sink.{next_count}
use Rattle.wkt_lines.specs.Buffers.{AnswersAll}
use Rattle.wkt_lines.specs.declared.lines.RunError.{RunError}
use Rattle.wkt_lines.specs.Streaming.{TakenReplied, AllTaken, LinesTaken, RunLeaves, Streams}
use Rattle.wkt_lines.specs.declared.lines.RunError.TheVariants as run

-- The output for an input that is cut after line feeds, and beginnings of it. There is one at most.

-- The lines of an input are its first line and those of what follows its line feed.

pieces_split : (bs : List ℕ) → (pieces bs ≡ before_feed bs ∷ pieces (after_feed bs)) ⊎ ((pieces bs ≡ bs ∷ []) × (after_feed bs ≡ []) × (before_feed bs ≡ bs))
pieces_split [] = inr (refl, refl, refl)
pieces_split (b ∷ bs) = elim (b == 10) as (λ t.
    ((if t then [] ∷ pieces bs else onto_first b (pieces bs)) ≡ (if t then [] else b ∷ before_feed bs) ∷ pieces (if t then bs else after_feed bs))
    ⊎ (((if t then [] ∷ pieces bs else onto_first b (pieces bs)) ≡ (b ∷ bs) ∷ []) × ((if t then bs else after_feed bs) ≡ []) × ((if t then [] else b ∷ before_feed bs) ≡ b ∷ bs))) [
      | true ↦ inl refl
      | false ↦ elim (pieces_split bs) [ inl h ↦ inl (ap (λ ps. onto_first b ps) h) | inr h ↦ inr (ap (λ ps. onto_first b ps) h.0, h.1, ap (λ xs. b ∷ xs) h.2) ]
    ]

pub pieces_some : (bs : List ℕ) → (p : List ℕ) × ((ps : List (List ℕ)) × (pieces bs ≡ p ∷ ps))
pieces_some bs = elim (pieces_split bs) [ inl h ↦ (before_feed bs, (pieces (after_feed bs), h)) | inr h ↦ (bs, ([], h.0)) ]

pub two_pieces : (p q : List ℕ) (qs : List (List ℕ)) → without_last_empty (p ∷ q ∷ qs) ≡ p ∷ without_last_empty (q ∷ qs)
two_pieces [] q qs = refl
two_pieces (b ∷ bs) q qs = refl

more_pieces : (p : List ℕ) (bs : List ℕ) → without_last_empty (p ∷ pieces bs) ≡ p ∷ input_lines bs
more_pieces p bs = let e = pieces_some bs in
    subst (λ (ps : List (List ℕ)). without_last_empty (p ∷ ps) ≡ p ∷ without_last_empty ps) (sym e.1.1) (two_pieces p e.0 e.1.0)

-- the first line, and the lines after it
pub lines_step : (b : ℕ) (bs : List ℕ) → input_lines (b ∷ bs) ≡ before_feed (b ∷ bs) ∷ input_lines (after_feed (b ∷ bs))
lines_step b bs = elim (pieces_split (b ∷ bs)) [
  | inl h ↦ ap without_last_empty h ∙ more_pieces (before_feed (b ∷ bs)) (after_feed (b ∷ bs))
  | inr h ↦ ap without_last_empty h.0 ∙ (ap (λ xs. xs ∷ []) (sym h.2) ∙ ap (λ xs. before_feed (b ∷ bs) ∷ input_lines xs) (sym h.1))
]

-- The output for an input that is cut after line feeds.

onto_append : (b : ℕ) (ps qs : List (List ℕ)) (p : List ℕ) (rest : List (List ℕ)) → ps ≡ p ∷ rest → onto_first b (ps ++ qs) ≡ onto_first b ps ++ qs
onto_append b [] qs p rest e = absurd (cc)
onto_append b (x ∷ xs) qs p rest e = refl

-- the pieces on both sides of a line feed
pub pieces_at_feed : (xs bs : List ℕ) → pieces (xs ++ 10 ∷ bs) ≡ pieces xs ++ pieces bs
pieces_at_feed [] bs = refl
pieces_at_feed (c ∷ cs) bs =
    let h = pieces_at_feed cs bs in
    let some = pieces_some cs in
    elim (c == 10) as (λ t. (if t then [] ∷ pieces (cs ++ 10 ∷ bs) else onto_first c (pieces (cs ++ 10 ∷ bs))) ≡ (if t then [] ∷ pieces cs else onto_first c (pieces cs)) ++ pieces bs) [
      | true ↦ ap (λ ps. [] ∷ ps) h
      | false ↦ ap (λ ps. onto_first c ps) h ∙ onto_append c (pieces cs) (pieces bs) some.0 some.1.0 some.1.1
    ]

-- only the last of the pieces may be dropped
pub last_append : (ps : List (List ℕ)) (q : List ℕ) (qs : List (List ℕ)) → without_last_empty (ps ++ q ∷ qs) ≡ ps ++ without_last_empty (q ∷ qs)
last_append [] q qs = refl
last_append (p ∷ []) q qs = two_pieces p q qs
last_append (p ∷ r ∷ rs) q qs = two_pieces p r (rs ++ q ∷ qs) ∙ ap (λ ps. p ∷ ps) (last_append (r ∷ rs) q qs)

lines_at_feed : (xs bs : List ℕ) → input_lines (xs ++ 10 ∷ bs) ≡ pieces xs ++ input_lines bs
lines_at_feed xs bs =
    let some = pieces_some bs in
    ap without_last_empty (pieces_at_feed xs bs)
    ∙ (ap (λ ps. without_last_empty (pieces xs ++ ps)) some.1.1
    ∙ (last_append (pieces xs) some.0 some.1.0
    ∙ ap (λ ps. pieces xs ++ without_last_empty ps) (sym some.1.1)))

-- the lines of an input that is cut after a line feed
pub lines_of_parts : (xs bs : List ℕ) → IsWholeLines xs → input_lines (xs ++ bs) ≡ input_lines xs ++ input_lines bs
lines_of_parts xs bs (inl e) = rw e refl
lines_of_parts xs bs (inr (ys, e)) =
    ap (λ zs. input_lines (zs ++ bs)) e
    ∙ (ap input_lines (append_assoc ys (10 ∷ []) bs)
    ∙ (lines_at_feed ys bs
    ∙ sym (ap (λ zs. zs ++ input_lines bs) (ap input_lines e ∙ (lines_at_feed ys [] ∙ append-nil (pieces ys))))))

module _ (is : List ℕ → List ℕ → Type 0) where
  -- answers to lines, and to more lines
  pub replies_append : (ls ms : List (List ℕ)) (x y : List ℕ) → AreReplies is ls x → AreReplies is ms y → AreReplies is (ls ++ ms) (x ++ y)
  replies_append [] ms x y h k = subst (λ zs. AreReplies is ms (zs ++ y)) (sym h) k
  replies_append (l ∷ ls) ms x y (answer, rest, e, a, more) k =
      (answer, rest ++ y, ap (λ zs. zs ++ y) e ∙ append_assoc (answer ++ 10 ∷ []) rest y, a, replies_append ls ms rest y more k)

  -- answers to all lines of an input, and of another that follows it
  pub all_replies_append : (xs bs x y : List ℕ) → IsWholeLines xs → AreReplies is (input_lines xs) x → AreReplies is (input_lines bs) y → AreReplies is (input_lines (xs ++ bs)) (x ++ y)
  all_replies_append xs bs x y w h k = subst (λ ls. AreReplies is ls (x ++ y)) (sym (lines_of_parts xs bs w)) (replies_append (input_lines xs) (input_lines bs) x y h k)

module _ {N : Type 0} (read : List ℕ → Option N) (num : N → List ℕ) where
  -- the answers to lines and to more lines, cut between them
  pub answers_cut : (ls ms : List (List ℕ)) (z : List ℕ) → AreAnswers read num (ls ++ ms) z
      → (x : List ℕ) × (y : List ℕ) × (z ≡ x ++ y) × AreAnswers read num ls x × AreAnswers read num ms y
  answers_cut [] ms z h = ([], z, refl, refl, h)
  answers_cut (l ∷ ls) ms z (answer, rest, e, is, more) =
      let (x, y, f, h, k) = answers_cut ls ms rest more in
      ((answer ++ 10 ∷ []) ++ x, y, e ∙ (ap (λ zs. (answer ++ 10 ∷ []) ++ zs) f ∙ sym (append_assoc (answer ++ 10 ∷ []) x y)), (answer, x, refl, is, h), k)

  pub output_append : (xs bs x y : List ℕ) → IsWholeLines xs → IsOutput read num xs x → IsOutput read num bs y → IsOutput read num (xs ++ bs) (x ++ y)
  output_append xs bs x y w h k = all_replies_append (IsAnswer read num) xs bs x y w h k

  pub output_cut : (xs bs z : List ℕ) → IsWholeLines xs → IsOutput read num (xs ++ bs) z
      → (x : List ℕ) × (y : List ℕ) × (z ≡ x ++ y) × IsOutput read num xs x × IsOutput read num bs y
  output_cut xs bs z w h = answers_cut (input_lines xs) (input_lines bs) z (subst (λ ls. AreAnswers read num ls z) (lines_of_parts xs bs w) h)

  pub parts_make : (parts outs : List (List ℕ)) (last out : List ℕ) → AreWhole parts → AreOutputs read num parts outs → IsOutput read num last out
      → IsOutput read num (joined parts last) (joined outs out)
  parts_make [] outs last out w h k = subst (λ os. IsOutput read num last (joined os out)) (sym h) k
  parts_make (p ∷ ps) outs last out (w, ws) (o, os, e, is, more) k =
      subst (λ zs. IsOutput read num (p ++ joined ps last) (joined zs out)) (sym e) (output_append p (joined ps last) o (joined os out) w is (parts_make ps os last out ws more k))

  pub parts_of : (parts : List (List ℕ)) (last z : List ℕ) → AreWhole parts → IsOutput read num (joined parts last) z
      → (outs : List (List ℕ)) × (out : List ℕ) × (z ≡ joined outs out) × AreOutputs read num parts outs × IsOutput read num last out
  parts_of [] last z w h = ([], z, refl, refl, h)
  parts_of (p ∷ ps) last z (w, ws) h =
      let (x, y, e, hx, hy) = output_cut p (joined ps last) z w h in
      let (os, o, f, ho, hl) = parts_of ps last y ws hy in
      (x ∷ os, o, e ∙ ap (λ zs. x ++ zs) f, (x, os, refl, hx, ho), hl)

-- An input has one output at most.

module _ {N : Type 0} (read : List ℕ → Option N) (num : N → List ℕ) (law : OneFront read) where
  text_refused : (P : Type 0) (line x y : List ℕ) → IsText read num line x → IsRefusedLine read num line y → P
  text_refused P line x y t r = elim r.cause [ inl n ↦ absurd (n t.utf8) | inr n ↦ absurd (n t.value t.end t.front) ]

  same_answer : (line x y : List ℕ) → IsAnswer read num line x → IsAnswer read num line y → x ≡ y
  same_answer line x y (inl t) (inl u) =
      t.text ∙ (ap (λ v. shape_text num (shape_of v)) (law line t.value u.value t.end u.end t.front u.front).0 ∙ sym u.text)
  same_answer line x y (inl t) (inr r) = text_refused (x ≡ y) line x y t r
  same_answer line x y (inr r) (inl t) = text_refused (x ≡ y) line y x t r
  same_answer line x y (inr r) (inr s) = r.refused ∙ sym s.refused

  pub same_answers : (ls : List (List ℕ)) (x y : List ℕ) → AreAnswers read num ls x → AreAnswers read num ls y → x ≡ y
  same_answers [] x y h k = h ∙ sym k
  same_answers (l ∷ ls) x y (b, rest, e, is, more) (c, left, f, js, others) =
      e ∙ (ap (λ (z : List ℕ). (z ++ 10 ∷ []) ++ rest) (same_answer l b c is js)
      ∙ (ap (λ (z : List ℕ). (c ++ 10 ∷ []) ++ z) (same_answers ls rest left more others) ∙ sym f))

-- What a run leaves, block by block.

if_map : (a : Option (List ℕ)) (P Q : List ℕ → Type 0) → IfSome a P → ((x : List ℕ) → P x → Q x) → IfSome a Q
if_map None P Q h f = tt
if_map (Some x) P Q h f = f x h

-- what a source had begins with what it gave
on_taken : (a b : Option (List ℕ)) (bs : List ℕ) (P : List ℕ → Type 0) → Consumes a b bs → ((tail : List ℕ) → P (bs ++ tail)) → IfSome a P
on_taken None b bs P h f = tt
on_taken (Some x) None bs P h f = absurd h
on_taken (Some x) (Some y) bs P h f = subst P (sym h) (f y)

-- The lines of the two inputs are the first of the third.
abbrev pub Fits : List ℕ → List ℕ → List ℕ → Type 0
Fits done here input = (others : List (List ℕ)) × (input_lines done ++ (input_lines here ++ others) ≡ input_lines input)

fits_whole : (done here rest tail : List ℕ) → IsWholeLines done → IsWholeLines here → Fits done here ((done ++ (here ++ rest)) ++ tail)
fits_whole done here rest tail w v = (
  input_lines (rest ++ tail),
  sym (ap input_lines (append_assoc done (here ++ rest) tail ∙ ap (λ (xs : List ℕ). done ++ xs) (append_assoc here rest tail))
      ∙ (lines_of_parts done (here ++ (rest ++ tail)) w
      ∙ ap (λ (ls : List (List ℕ)). input_lines done ++ ls) (lines_of_parts here (rest ++ tail) v))),
)

fits_last : (done here : List ℕ) → IsWholeLines done → Fits done here (done ++ here)
fits_last done here w = ([], ap (λ (ls : List (List ℕ)). input_lines done ++ ls) (append-nil (input_lines here)) ∙ sym (lines_of_parts done here w))

pub both_whole : (xs ys : List ℕ) → IsWholeLines xs → IsWholeLines ys → IsWholeLines (xs ++ ys)
both_whole xs ys w (inl e) = subst (λ (zs : List ℕ). IsWholeLines zs) (sym (ap (λ (zs : List ℕ). xs ++ zs) e ∙ append-nil xs)) w
both_whole xs ys w (inr (zs, e)) = inr (xs ++ zs, ap (λ (us : List ℕ). xs ++ us) e ∙ sym (append_assoc xs zs (10 ∷ [])))

ends_on : (xs ys more : List ℕ) (left : Option (List ℕ)) → IsWholeLines xs → IsWholeLines ys ⊎ ((more ≡ []) × IsAtEnd left) → IsWholeLines (xs ++ ys) ⊎ ((more ≡ []) × IsAtEnd left)
ends_on xs ys more left w (inl v) = inl (both_whole xs ys w v)
ends_on xs ys more left w (inr k) = inr k

module _ (is : List ℕ → List ℕ → Type 0) where
  first_none : (a : Option (List ℕ)) (input : List ℕ) → FirstReplied is a a input
  first_none a input = record { first = []; others = input_lines input; lines = refl; out = []; answers = refl; went = Appends-nil a }

  first_more : (a b c : Option (List ℕ)) (done here input : List ℕ) → AllReplied is a b done → FirstReplied is b c here → Fits done here input → FirstReplied is a c input
  first_more a b c done here input h f (others, e) = record {
    first = input_lines done ++ f.first;
    others = f.others ++ others;
    lines = append_assoc (input_lines done) f.first (f.others ++ others)
        ∙ (ap (λ (ls : List (List ℕ)). input_lines done ++ ls) (sym (append_assoc f.first f.others others) ∙ ap (λ (ls : List (List ℕ)). ls ++ others) f.lines) ∙ e);
    out = h.0 ++ f.out;
    answers = replies_append is (input_lines done) f.first h.0 f.out h.1 f.answers;
    went = Appends-trans a b c h.0 f.out h.2 f.went;
  }

  -- of the lines before one, no line is too many
  before_first : (a b : Option (List ℕ)) (input : List ℕ) → BeforeReplied is a b input → FirstReplied is a b input
  before_first a b input (h, w) = record { first = h.first; others = h.line ∷ h.others; lines = h.split; out = h.out; answers = h.answers; went = w }

  -- answers to the lines before one, after those to the lines before them
  abbrev later_before : (done here input out : List ℕ) → AreReplies is (input_lines done) out → RepliesBefore is (input_lines here) → Fits done here input → RepliesBefore is (input_lines input)
  later_before done here input out h f (others, e) = record {
    first = input_lines done ++ f.first;
    line = f.line;
    others = f.others ++ others;
    split = append_assoc (input_lines done) f.first (f.line ∷ (f.others ++ others))
        ∙ (ap (λ (ls : List (List ℕ)). input_lines done ++ ls) (sym (append_assoc f.first (f.line ∷ f.others) others) ∙ ap (λ (ls : List (List ℕ)). ls ++ others) f.split) ∙ e);
    out = out ++ f.out;
    answers = replies_append is (input_lines done) f.first out f.out h f.answers;
  }

  before_more : (a b c : Option (List ℕ)) (done here input : List ℕ) → AllReplied is a b done → BeforeReplied is b c here → Fits done here input → BeforeReplied is a c input
  before_more a b c done here input (out, h, went) (f, w) fits = (later_before done here input out h f fits, Appends-trans a b c out f.out went w)

  part_more : (a b c : Option (List ℕ)) (done here input : List ℕ) → AllReplied is a b done → PartReplied is b c here → Fits done here input → PartReplied is a c input
  part_more a b c done here input (out, h, went) (more, f, w) fits = (
    out ++ more,
    record { before = later_before done here input out h f.before fits; answer = f.answer; is_answer = f.is_answer; part = f.part; lost = f.lost; whole = f.whole; ends = ap (λ (xs : List ℕ). out ++ xs) f.ends ∙ sym (append_assoc out f.before.out f.part) },
    Appends-trans a b c out more went w,
  )

  module _ {W : Type 0} (sink : SinkOfBytes W) where
    -- The source gave `done` and then `front`, and the answers to `done` went out.
    pub record Base (left0 left1 : Option (List ℕ)) (start now : W) (front : List ℕ) : Type 0 where
      pub done : List ℕ
      pub ends : IsWholeLines done
      pub taken : Consumes left0 left1 (done ++ front)
      pub out : AllReplied is (sink.bytes start) (sink.bytes now) done
      pub count : sink.failures now ≡ sink.failures start
      pub tied : sink.keeps start now

    -- all that was taken is at hand
    abbrev pub at_hand : (left0 left1 : Option (List ℕ)) (input : List ℕ) (start : W) → Consumes left0 left1 input → Base left0 left1 start start input
    at_hand left0 left1 input start gave = record {
      done = [];
      ends = inl refl;
      taken = gave;
      out = ([], refl, Appends-nil (sink.bytes start));
      count = refl;
      tied = sink.keeps_none start;
    }

    -- a run begins with nothing
    pub begins : (left : Option (List ℕ)) (start : W) (front : List ℕ) → front ≡ [] → Base left left start start front
    begins left start front e = at_hand left left front start (subst (λ (xs : List ℕ). Consumes left left xs) (sym e) (Consumes-nil left))

    module _ (left0 left1 : Option (List ℕ)) (start now : W) (front : List ℕ) (base : Base left0 left1 start now front) where
      -- more came
      pub filled : (left2 : Option (List ℕ)) (fresh more : List ℕ) → Consumes left1 left2 fresh → more ≡ front ++ fresh → Base left0 left2 start now more
      filled left2 fresh more h e = record {
        done = base.done;
        ends = base.ends;
        taken = subst (λ (xs : List ℕ). Consumes left0 left2 xs) (append_assoc base.done front fresh ∙ ap (λ (xs : List ℕ). base.done ++ xs) (sym e)) (Consumes-trans left0 left1 left2 (base.done ++ front) fresh base.taken h);
        out = base.out;
        count = base.count;
        tied = base.tied;
      }

      -- the whole lines were answered
      pub answered : (next : W) (here rest : List ℕ) → front ≡ here ++ rest → IsWholeLines here → AllReplied is (sink.bytes now) (sink.bytes next) here
          → sink.failures next ≡ sink.failures now → sink.keeps now next → Base left0 left1 start next rest
      answered next here rest e w h f k = record {
        done = base.done ++ here;
        ends = both_whole base.done here base.ends w;
        taken = subst (λ (xs : List ℕ). Consumes left0 left1 xs) (ap (λ (xs : List ℕ). base.done ++ xs) e ∙ sym (append_assoc base.done here rest)) base.taken;
        out = (base.out.0 ++ h.0, all_replies_append is base.done here base.out.0 h.0 base.ends base.out.1 h.1, Appends-trans (sink.bytes start) (sink.bytes now) (sink.bytes next) base.out.0 h.0 base.out.2 h.2);
        count = f ∙ base.count;
        tied = sink.keeps_more start now next base.tied k;
      }

      pub fits_here : (here rest : List ℕ) → front ≡ here ++ rest → IsWholeLines here → IfSome left0 (Fits base.done here)
      fits_here here rest e w =
          on_taken left0 left1 (base.done ++ front) (Fits base.done here) base.taken
          (λ tail. subst (λ (xs : List ℕ). Fits base.done here ((base.done ++ xs) ++ tail)) (sym e) (fits_whole base.done here rest tail base.ends w))

      pub fits_end : IsAtEnd left1 → IfSome left0 (Fits base.done front)
      fits_end e = Consumes-whole left0 left1 (base.done ++ front) (Fits base.done front) base.taken e (fits_last base.done front base.ends)

      -- of the lines that come after those that were answered, the first were, and a beginning of the next
      pub firsts : (next : W) (here : List ℕ) → IfSome left0 (Fits base.done here) → FirstReplied is (sink.bytes now) (sink.bytes next) here → IfSome left0 (FirstReplied is (sink.bytes start) (sink.bytes next))
      firsts next here fits f = if_map left0 (Fits base.done here) (FirstReplied is (sink.bytes start) (sink.bytes next)) fits
          (λ input k. first_more (sink.bytes start) (sink.bytes now) (sink.bytes next) base.done here input base.out f k)

      pub part : (next : W) (here : List ℕ) → IfSome left0 (Fits base.done here) → PartReplied is (sink.bytes now) (sink.bytes next) here → IfSome left0 (PartReplied is (sink.bytes start) (sink.bytes next))
      part next here fits f = if_map left0 (Fits base.done here) (PartReplied is (sink.bytes start) (sink.bytes next)) fits
          (λ input k. part_more (sink.bytes start) (sink.bytes now) (sink.bytes next) base.done here input base.out f k)

      -- the lines that were answered are the first
      pub so_far : IfSome left0 (FirstReplied is (sink.bytes start) (sink.bytes now))
      so_far = firsts now [] (fits_here [] front refl (inl refl)) (first_none (sink.bytes now) [])

      -- no more could be read
      pub broke_off : (left2 : Option (List ℕ)) → Keeps left1 left2 → HasNoFeed front → TakenReplied is left0 left2 (sink.bytes start) (sink.bytes now)
      broke_off left2 k n = (
        base.done ++ front,
        Consumes-kept left0 left1 left2 (base.done ++ front) base.taken k,
        record { whole = base.done; rest = front; parts = refl; ends = base.ends; none = n; out = base.out },
      )

      all_out : (next : W) → AllReplied is (sink.bytes now) (sink.bytes next) front → AllReplied is (sink.bytes start) (sink.bytes next) (base.done ++ front)
      all_out next h =
          (base.out.0 ++ h.0, all_replies_append is base.done front base.out.0 h.0 base.ends base.out.1 h.1, Appends-trans (sink.bytes start) (sink.bytes now) (sink.bytes next) base.out.0 h.0 base.out.2 h.2)

      -- the last lines were answered too
      pub all : (next : W) → IsAtEnd left1 → AllReplied is (sink.bytes now) (sink.bytes next) front → IfSome left0 (AllReplied is (sink.bytes start) (sink.bytes next))
      all next end h = Consumes-whole left0 left1 (base.done ++ front) (AllReplied is (sink.bytes start) (sink.bytes next)) base.taken end (all_out next h)

      pub all_taken : (next : W) → IsAtEnd left1 → AllReplied is (sink.bytes now) (sink.bytes next) front → AllTaken left0 left1 (AllReplied is (sink.bytes start) (sink.bytes next))
      all_taken next end h = (base.done ++ front, base.taken, end, all_out next h)

      taken_here : (here more : List ℕ) → front ≡ here ++ more → IsWholeLines here ⊎ ((more ≡ []) × IsAtEnd left1) → (P : List ℕ → Type 0) → P (base.done ++ here) → LinesTaken left0 left1 P
      taken_here here more e w P h = record {
        lines = base.done ++ here;
        more = more;
        gave = subst (λ (xs : List ℕ). Consumes left0 left1 xs) (ap (λ (xs : List ℕ). base.done ++ xs) e ∙ sym (append_assoc base.done here more)) base.taken;
        ends = ends_on base.done here more left1 base.ends w;
        holds = h;
      }

      -- there was no memory for one of the lines that come after those that were answered
      pub before : (next : W) (here : List ℕ) → IfSome left0 (Fits base.done here) → BeforeReplied is (sink.bytes now) (sink.bytes next) here → IfSome left0 (BeforeReplied is (sink.bytes start) (sink.bytes next))
      before next here fits f = if_map left0 (Fits base.done here) (BeforeReplied is (sink.bytes start) (sink.bytes next)) fits
          (λ input k. before_more (sink.bytes start) (sink.bytes now) (sink.bytes next) base.done here input base.out f k)

      -- of those that come first, these are all that were answered
      pub befores : (next : W) (here : List ℕ) → IfSome left0 (Fits base.done here) → BeforeReplied is (sink.bytes now) (sink.bytes next) here → IfSome left0 (FirstReplied is (sink.bytes start) (sink.bytes next))
      befores next here fits f = firsts next here fits (before_first (sink.bytes now) (sink.bytes next) here f)

      -- there was no memory to read on
      pub no_more : HasNoFeed front → TakenReplied is left0 left1 (sink.bytes start) (sink.bytes now)
      no_more n = broke_off left1 (Keeps-refl left1) n

      -- whole lines of what was taken come after those that were answered, and so does all of it at the source's end
      fits : (here more : List ℕ) → front ≡ here ++ more → IsWholeLines here ⊎ ((more ≡ []) × IsAtEnd left1) → IfSome left0 (Fits base.done here)
      fits here more e (inl w) = fits_here here more e w
      fits here more e (inr (none, end)) = subst (λ (xs : List ℕ). IfSome left0 (Fits base.done xs)) (e ∙ ap (λ (xs : List ℕ). here ++ xs) none ∙ append-nil here) (fits_end end)

    -- a part of an input that is at hand was answered
    pub part_answered : (input : List ℕ) (start now next : W) (front : List ℕ) → Base (Some input) (Some []) start now front → (here more : List ℕ) → front ≡ here ++ more → IsWholeLines here ⊎ ((more ≡ []) × IsAtEnd (Some []))
        → (r : Result (Unit {0}) RunError) → OnOk r (here ≡ front) → AnswersAll sink is now here r next → AnswersAll sink is start input r next
    part_answered input start now next front base here more e w (Ok x) same h = record { ok = all (Some input) (Some []) start now front base next refl (subst (AllReplied is (sink.bytes now) (sink.bytes next)) same h.ok); count = h.count ∙ base.count; write = tt; write_count = tt; memory = tt; read = tt }
    part_answered input start now next front base here more e w (Err (run.Read x)) same h = absurd h.read
    part_answered input start now next front base here more e w (Err (run.Write x)) same h = record { ok = tt; count = tt; write = part (Some input) (Some []) start now front base next here (fits (Some input) (Some []) start now front base here more e w) h.write; write_count = h.write_count ∙ ap next_count base.count; memory = tt; read = tt }
    part_answered input start now next front base here more e w (Err (run.Memory x)) same h = record { ok = tt; count = h.count ∙ base.count; write = tt; write_count = tt; memory = before (Some input) (Some []) start now front base next here (fits (Some input) (Some []) start now front base here more e w) h.memory; read = tt }

  module _ {R W : Type 0} (left : R → Option (List ℕ)) (failures : R → ℕ) (sink : SinkOfBytes W) (reader source : R) (start now : W) (front : List ℕ) (base : Base sink (left reader) (left source) start now front) where
    -- Lines of what was taken were answered; `take` says that these are what `Taken` holds of.
    pub lines_answered : (Unread : Type 0) (Taken : (List ℕ → Type 0) → Type 0) (next : W) (here more : List ℕ) → front ≡ here ++ more → IsWholeLines here ⊎ ((more ≡ []) × IsAtEnd (left source)) → failures source ≡ failures reader
        → ((P : List ℕ → Type 0) → P (base.done ++ here) → Taken P) → (r : Result (Unit {0}) RunError) → OnOk r ((here ≡ front) × IsAtEnd (left source)) → AnswersAll sink is now here r next
        → RunLeaves is left failures sink Unread Taken reader start r source next
    lines_answered Unread Taken next here more e w same take (Ok x) (last, end) h =
        let answers : AllReplied is (sink.bytes now) (sink.bytes next) front = subst (AllReplied is (sink.bytes now) (sink.bytes next)) last h.ok in
        record { ok = all sink (left reader) (left source) start now front base next end answers; ok_taken = all_taken sink (left reader) (left source) start now front base next end answers; end = end; read = tt; read_count = tt; source_count = same; write = tt; write_taken = tt; write_count = tt; sink_count = h.count ∙ base.count; memory = tt; memory_taken = tt }
    lines_answered Unread Taken next here more e w same take (Err (run.Read x)) last h = absurd h.read
    lines_answered Unread Taken next here more e w same take (Err (run.Write x)) last h =
        let f = fits sink (left reader) (left source) start now front base here more e w in
        let taken = part_more (sink.bytes start) (sink.bytes now) (sink.bytes next) base.done here (base.done ++ here) base.out h.write (fits_last base.done here base.ends) in
        record { ok = tt; ok_taken = tt; end = tt; read = tt; read_count = tt; source_count = same; write = part sink (left reader) (left source) start now front base next here f h.write; write_taken = take (PartReplied is (sink.bytes start) (sink.bytes next)) taken; write_count = h.write_count ∙ ap next_count base.count; sink_count = tt; memory = tt; memory_taken = tt }
    lines_answered Unread Taken next here more e w same take (Err (run.Memory x)) last h =
        let f = fits sink (left reader) (left source) start now front base here more e w in
        let taken = before_more (sink.bytes start) (sink.bytes now) (sink.bytes next) base.done here (base.done ++ here) base.out h.memory (fits_last base.done here base.ends) in
        record { ok = tt; ok_taken = tt; end = tt; read = tt; read_count = tt; source_count = same; write = tt; write_taken = tt; write_count = tt; sink_count = h.count ∙ base.count; memory = befores sink (left reader) (left source) start now front base next here f h.memory; memory_taken = inr (take (BeforeReplied is (sink.bytes start) (sink.bytes next)) taken) }

    -- the lines of a block were answered
    pub block_answered : (next : W) (here more : List ℕ) → front ≡ here ++ more → IsWholeLines here ⊎ ((more ≡ []) × IsAtEnd (left source)) → failures source ≡ failures reader
        → (r : Result (Unit {0}) RunError) → OnOk r ((here ≡ front) × IsAtEnd (left source)) → AnswersAll sink is now here r next → Streams is left failures sink reader start r source next
    block_answered next here more e w same r last h = lines_answered _ (LinesTaken (left reader) (left source)) next here more e w same (taken_here sink (left reader) (left source) start now front base here more e w) r last h

    -- there was no memory to read on
    pub no_room : HasNoFeed front → failures source ≡ failures reader → (e : AllocError) → Streams is left failures sink {A = Unit {0}} reader start (Err (run.Memory e)) source now
    no_room none same e = record { ok = tt; ok_taken = tt; end = tt; read = tt; read_count = tt; source_count = same; write = tt; write_taken = tt; write_count = tt; sink_count = base.count; memory = so_far sink (left reader) (left source) start now front base; memory_taken = inl (no_more sink (left reader) (left source) start now front base none) }

    -- the source failed
    pub no_block : HasNoFeed front → failures source ≡ failures reader → (later : R) → Keeps (left source) (left later) → failures later ≡ next_count (failures source) → (e : Error) → Streams is left failures sink {A = Unit {0}} reader start (Err (run.Read e)) later now
    no_block none same later keeps failed e = record { ok = tt; ok_taken = tt; end = tt; read = broke_off sink (left reader) (left source) start now front base (left later) keeps none; read_count = failed ∙ ap next_count same; source_count = tt; write = tt; write_taken = tt; write_count = tt; sink_count = base.count; memory = tt; memory_taken = tt }
