-- What becomes of a text that `wkt canon` answers, and bytes that are replaced one by one.
use Rattle.std.proofs.Common.{◌≡◌, ℕ, ℤ, List, [], ◌∷◌, ◌++◌, take, drop, min, Option, Result, Ok, Err, OnOk, IsUtf8, inl, inr, ⊎_elim, true, false, sym, ap, ◌∙◌, subst, refl, Some, None, zero, suc, ◌+◌, ◌<◌, ◌≤◌, length, get_or, slice_set, map, add-one, arith, append_assoc, append-nil, IfSome}
use Rattle.std.specs.Io.KnownBytes.{Appends, Consumes, Keeps, IsAtEnd}
use Rattle.std.proofs.KnownBytes.{Appends-kept, Appends-nil, Appends-trans}
use Rattle.std.proofs.lemmas.Str.{IsUtf8-from_ascii}
use Rattle.wkt_num.specs.Bytes.{AllWhite, White, Run}
use Rattle.wkt_num.specs.Decimal.{decimal_text, read_decimal}
use Rattle.wkt_access.specs.Shapes.{shape_of}
use Rattle.wkt_access.specs.Texts.{shape_text}
use Rattle.wkt_access.specs.Values.{Value}
use Rattle.wkt_dialects.specs.declared.dialects.Dialects.{Dialects}
use Rattle.wkt_dialects.proofs.FrontSrid.{no-srid}
use Rattle.wkt_read.specs.Front.{Front, HasNoFront}
use Rattle.wkt_read.proofs.OneForm.{front_one}
use Rattle.wkt_read.proofs.HeaderPlaces.{run_or_ascii}
use Rattle.wkt_lines.specs.Laws.{IsWholeLines}
use Rattle.wkt_lines.specs.Lines.{input_lines}
use Rattle.wkt_lines.specs.Replies.{AreReplies}
use Rattle.wkt_lines.specs.First.{IsWholeAnswer}
use Rattle.wkt_lines.proofs.Outcomes.{lines_of_parts}
use Rattle.wkt_lines.specs.Reading.{GivesLine}
use Rattle.wkt_command.specs.Verdict.{IsVerdict}
use Rattle.wkt_command.specs.Dialects.{IsTextIn, IsPlacedVerdict, IsVerdictIn}
use Rattle.wkt_command.specs.Canon.{IsSkipped, IsAnswerTo, IsNotRead, refused_line, AreAnswers, text_of, Canonizes, CanonizesAll}
use Rattle.wkt_command.specs.declared.verdict.Verdict.{Verdict}
use Rattle.wkt_command.specs.declared.verdict.Refused.{Refused as Reason}
use Rattle.wkt_options.specs.declared.options.Options.{Options}
use Rattle.wkt_options.specs.declared.options.Ends.{Ends}
use Rattle.wkt_options.specs.declared.options.Ends.TheVariants as ends
use Rattle.wkt_command.specs.Place.{other_end}
use Rattle.wkt_command.specs.declared.verdict.Verdict.TheVariants.{Read, Refused, Rest}

-- What becomes of a text that `wkt canon` answers.

pub ok-map : {A E : Type 0} (r : Result A E) (P Q : Type 0) → (P → Q) → OnOk r P → OnOk r Q
ok-map (Ok x) P Q f h = f h
ok-map (Err e) P Q f h = tt

-- A text that begins with a geometry is read as itself, in dialects too.
text-itself : (d : Option Dialects) (places : ℕ) (text : List ℕ) (v : Value ℤ) (end : ℕ) → Front (read_decimal 127 36 (min places 36)) text v end → IsTextIn d places text text
text-itself None places text v end f = refl
text-itself (Some d) places text v end f = record {
  rest = text;
  split_off = inr (refl, λ asked srid other h. no-srid (read_decimal 127 36 (min places 36)) text other v end srid f h);
  is = inl ((v, end, f), refl);
}

module _ (o : Options) (text : List ℕ) (old new : Option (List ℕ)) where
  abbrev read : List ℕ → Option ℤ
  read = read_decimal 127 36 (min o.places 36)

  abbrev num : ℤ → List ℕ
  num = decimal_text (min o.places 36)

  -- the text that is read was judged so
  abbrev Judged : List ℕ → Verdict → Type 0
  Judged room v = IsVerdictIn o.dialects o.places o.front text room v

  judged-read : (room other : List ℕ) (len : ℕ) (w : Verdict) → IsVerdict read num o.front other room w → IsPlacedVerdict o.dialects text other w (Read len) → IsVerdict read num o.front other room (Read len)
  judged-read room other len (Read n) is same = subst (λ k. IsVerdict read num o.front other room (Read k)) (sym same) is
  judged-read room other len (Refused w) is same = absurd same
  judged-read room other len (Rest end) is same = absurd same

  judged-refused : (room other : List ℕ) (r : Reason) (w : Verdict) → IsVerdict read num o.front other room w → IsPlacedVerdict o.dialects text other w (Refused r) → HasNoFront read other
  judged-refused room other r (Read n) is same = absurd same
  judged-refused room other r (Refused w) is same = is.5
  judged-refused room other r (Rest end) is same = absurd same

  judged-rest : (room other : List ℕ) (at : ℕ) (w : Verdict) → IsVerdict read num o.front other room w → IsPlacedVerdict o.dialects text other w (Rest at) → (end : ℕ) × IsVerdict read num o.front other room (Rest end)
  judged-rest room other at (Read n) is same = absurd same
  judged-rest room other at (Refused w) is same = absurd same
  judged-rest room other at (Rest end) is same = (end, is)

  -- it was read, and its canonical text was put out
  pub canonizes-read : (room : List ℕ) (len : ℕ) → Judged room (Read len) → IsUtf8 text → Appends old new (take len room ++ 10 ∷ []) → Canonizes o text old new
  canonizes-read room len h utf8 out =
      let (end, w, whole, _) = judged-read room h.other len h.of_other h.is h.placed in (
        take len room ++ 10 ∷ [],
        record {
          other = h.other;
          read_as = λ _. h.read_as;
          read = λ u v e is.
              let same = front_one read h.other w.value v end e w.front is.front in
              ap (λ bs. bs ++ 10 ∷ []) (w.is ∙ ap (λ x. shape_text num (shape_of x)) same.0);
          skipped = λ none skip. absurd (none utf8 w.value end (record { front = w.front; whole = whole }));
          refused = λ none more. absurd (none utf8 w.value end (record { front = w.front; whole = whole }));
        },
        out,
      )

  -- what was put out is UTF-8
  pub utf8-read : (room : List ℕ) (len : ℕ) → Judged room (Read len) → IsUtf8 (take len room)
  utf8-read room len h = (judged-read room h.other len h.of_other h.is h.placed).3

  -- it is white space, which is passed over
  pub canonizes-skipped : IsNotRead o text → IsSkipped o text → Canonizes o text old old
  canonizes-skipped (other, reading, none) skip =
      ([], record { other = other; read_as = reading; read = λ u v e is. absurd (none u v e is); skipped = λ _ _. refl; refused = λ _ more. absurd (more skip) }, Appends-nil old)

  -- it wasn't read, and what was asked for was put out
  pub canonizes-refused : IsNotRead o text → (IsSkipped o text → ⊥) → Appends old new (refused_line o.refused) → Canonizes o text old new
  canonizes-refused (other, reading, none) more out =
      (refused_line o.refused, record { other = other; read_as = reading; read = λ u v e is. absurd (none u v e is); skipped = λ _ skip. absurd (more skip); refused = λ _ _. refl }, out)

  -- one that isn't UTF-8 isn't read
  pub none-bytes : (IsUtf8 text → ⊥) → IsNotRead o text
  none-bytes other = (text, λ u. absurd (other u), λ u v end is. other u)

  -- a text that is refused somewhere isn't read
  pub none-refused : (room : List ℕ) (r : Reason) → Judged room (Refused r) → IsNotRead o text
  none-refused room r h = (h.other, λ _. h.read_as, λ utf8 v end is. judged-refused room h.other r h.of_other h.is h.placed v end is.front)

  -- nor is one with more than white space after its front, unless the front alone counts
  pub none-rest : (room : List ℕ) (at : ℕ) → Judged room (Rest at) → IsNotRead o text
  none-rest room at h =
      let (stop, (whole, (len, w), more)) = judged-rest room h.other at h.of_other h.is h.placed in (
        h.other,
        λ _. h.read_as,
        λ utf8 v end is.
            let same = front_one read h.other v w.value end stop is.front w.front in
            ⊎_elim (λ (e : o.front ≡ true). let clash : true ≡ false = sym e ∙ whole in cc) (λ white. more (subst (λ n. AllWhite (drop n h.other)) same.1 white)) is.whole,
      )

-- White space is text, and so is what it ends with.
white-ascii : (bs : List ℕ) → AllWhite bs → (i : ℕ) → get_or bs i 0 < 128
white-ascii [] h i = omega arith
white-ascii (b ∷ bs) h zero = run_or_ascii b (λ z. let q : White ≡ Run = sym h.0 ∙ z in cc)
white-ascii (b ∷ bs) h (suc i) = white-ascii bs h.1 i

pub white-utf8 : (bs : List ℕ) → AllWhite bs → IsUtf8 bs
white-utf8 bs h = IsUtf8-from_ascii bs (white-ascii bs h)

pub canonizes-kept : (o : Options) (text : List ℕ) (old middle new : Option (List ℕ)) → Canonizes o text old middle → Keeps middle new → Canonizes o text old new
canonizes-kept o text old middle new (out, is, went) k = (out, is, Appends-kept old middle new out went k)

-- Lines that are read as whole texts.

module _ (o : Options) (lines : o.ends ≡ ends.Line) where
  whole-answer : (line answer : List ℕ) → IsWholeAnswer (read_decimal 127 36 (min o.places 36)) (decimal_text (min o.places 36)) o.front line answer
      → IsAnswerTo o (text_of o.ends line) (answer ++ 10 ∷ [])
  whole-answer line answer w = subst (λ e. IsAnswerTo o (text_of e line) (answer ++ 10 ∷ [])) (sym lines) (record {
    other = line;
    read_as = λ _. text-itself o.dialects o.places line w.is.value w.end w.is.front;
    read = λ u v e is.
        let same = front_one (read_decimal 127 36 (min o.places 36)) line w.is.value v w.end e w.is.front is.front in
        ap (λ bs. bs ++ 10 ∷ []) (w.is.is ∙ ap (λ x. shape_text (decimal_text (min o.places 36)) (shape_of x)) same.0);
    skipped = λ none skip. absurd (none w.utf8 w.is.value w.end (record { front = w.is.front; whole = w.whole }));
    refused = λ none more. absurd (none w.utf8 w.is.value w.end (record { front = w.is.front; whole = w.whole }));
  })

  whole-answers : (ls : List (List ℕ)) (out : List ℕ) → AreReplies (IsWholeAnswer (read_decimal 127 36 (min o.places 36)) (decimal_text (min o.places 36)) o.front) ls out
      → AreAnswers (IsAnswerTo o) (map (text_of o.ends) ls) out
  whole-answers [] out h = h
  whole-answers (l ∷ ls) out (answer, rest, e, one, more) = (answer ++ 10 ∷ [], rest, e, whole-answer l answer one, whole-answers ls rest more)

  -- their canonical texts were put out
  pub canonizes-whole : (xs out : List ℕ) (old new : Option (List ℕ)) → AreReplies (IsWholeAnswer (read_decimal 127 36 (min o.places 36)) (decimal_text (min o.places 36)) o.front) (input_lines xs) out
      → Appends old new out → CanonizesAll o (Some xs) old new
  canonizes-whole xs out old new are went = (out, whole-answers (input_lines xs) out are, went)

-- a room that was lent to be written has what was written at its front
pub room-kept : (n len : ℕ) (new old : List ℕ) → length new ≡ len → take n (take len (new ++ drop (length new) old)) ≡ take n new
room-kept n len new old same = ap (λ l. take n l) (ap (λ k. take k (new ++ drop (length new) old)) (sym same) ∙ front new (drop (length new) old))
  where
    front : (xs ys : List ℕ) → take (length xs) (xs ++ ys) ≡ xs
    front [] ys = refl
    front (x ∷ xs) ys = ap (λ l. x ∷ l) (front xs ys)

-- there are none
pub canonizes-none : (o : Options) (old : Option (List ℕ)) → CanonizesAll o (Some []) old old
canonizes-none o old = ([], refl, Appends-nil old)

-- The texts of an input, answered one by one.

-- a line is its own text, but where texts end at a NUL
pub text-plain : (e : Ends) (line : List ℕ) → (e ≡ ends.Nul → ⊥) → text_of e line ≡ line
text-plain ends.Line line h = refl
text-plain ends.Nul line h = absurd (h refl)
text-plain ends.File line h = refl

pub text-swapped : (e : Ends) (line text : List ℕ) → e ≡ ends.Nul → text ≡ map other_end line → text_of e line ≡ text
text-swapped e line text is same = ap (λ e. text_of e line) is ∙ sym same

map-append : {X Y : Type 0} (f : X → Y) (xs ys : List X) → map f (xs ++ ys) ≡ map f xs ++ map f ys
map-append f [] ys = refl
map-append f (x ∷ xs) ys = ap (λ l. f x ∷ l) (map-append f xs ys)

module _ (is : List ℕ → List ℕ → Type 0) where
  -- the answers to some texts, and to those behind them
  answers-on : (ts us : List (List ℕ)) (out more : List ℕ) → AreAnswers is ts out → AreAnswers is us more → AreAnswers is (ts ++ us) (out ++ more)
  answers-on [] us out more h k = subst (λ l. AreAnswers is us (l ++ more)) (sym h) k
  answers-on (t ∷ ts) us out more (first, rest, e, one, h) k =
      (first, rest ++ more, ap (λ l. l ++ more) e ∙ append_assoc first rest more, one, answers-on ts us rest more h k)

  module _ (f : List ℕ → List ℕ) where
    -- Some lines of an input were answered, and the others are still to come.
    abbrev pub Answered : Option (List ℕ) → Option (List ℕ) → Option (List ℕ) → Option (List ℕ) → Type 0
    Answered None left old new = Unit {0}
    Answered (Some input) None old new = ⊥
    Answered (Some input) (Some left) old new =
        (done : List (List ℕ)) × (out : List ℕ) × (map f (input_lines input) ≡ done ++ map f (input_lines left)) × AreAnswers is done out × Appends old new out

    pub answered-none : (input old : Option (List ℕ)) → Answered input input old old
    answered-none None old = tt
    answered-none (Some input) old = ([], [], refl, refl, Appends-nil old)

    pub answered-line : (input left more old middle new : Option (List ℕ)) (line : List ℕ) → Answered input left old middle → GivesLine left more line
        → (first : List ℕ) × is (f line) first × Appends middle new first → Answered input more old new
    answered-line None left more old middle new line h k c = tt
    answered-line (Some input) None more old middle new line h k c = absurd h
    answered-line (Some input) (Some left) None old middle new line h k c = absurd k
    answered-line (Some input) (Some left) (Some more) old middle new line (done, out, split, are, went) k (first, one, goes) = (
      done ++ (f line ∷ []),
      out ++ first,
      split ∙ (ap (λ ls. done ++ map f ls) k ∙ sym (append_assoc done (f line ∷ []) (map f (input_lines more)))),
      answers-on done (f line ∷ []) out first are (first, [], sym (append-nil first), one, refl),
      Appends-trans old middle new out first went goes,
    )

    -- some lines more
    pub answered-lines : (input left more old middle new : Option (List ℕ)) (front : List ℕ) → Answered input left old middle → IsWholeLines front → Consumes left more front
        → (out : List ℕ) × AreAnswers is (map f (input_lines front)) out × Appends middle new out → Answered input more old new
    answered-lines None left more old middle new front h w k c = tt
    answered-lines (Some input) None more old middle new front h w k c = absurd h
    answered-lines (Some input) (Some left) None old middle new front h w k c = absurd k
    answered-lines (Some input) (Some left) (Some more) old middle new front (done, out, split, are, went) w k (next, also, goes) = (
      done ++ map f (input_lines front),
      out ++ next,
      split ∙ (ap (λ xs. done ++ map f (input_lines xs)) k ∙ (ap (λ ls. done ++ map f ls) (lines_of_parts front more w)
          ∙ (ap (λ ls. done ++ ls) (map-append f (input_lines front) (input_lines more)) ∙ sym (append_assoc done (map f (input_lines front)) (map f (input_lines more)))))),
      answers-on done (map f (input_lines front)) out next are also,
      Appends-trans old middle new out next went goes,
    )

    pub answered-all : (input left old new : Option (List ℕ)) → Answered input left old new → IsAtEnd left
        → IfSome input (λ bs. (out : List ℕ) × AreAnswers is (map f (input_lines bs)) out × Appends old new out)
    answered-all None left old new h end = tt
    answered-all (Some input) None old new h end = absurd h
    answered-all (Some input) (Some left) old new (done, out, split, are, went) end =
        let all : map f (input_lines input) ≡ done = split ∙ (ap (λ xs. done ++ map f (input_lines xs)) end ∙ append-nil done) in
        (out, subst (λ ts. AreAnswers is ts out) (sym all) are, went)

-- A list of bytes that are replaced one by one, each by its image.

module _ (f : ℕ → ℕ) where
  -- the first i are replaced
  abbrev pub replaced : ℕ → List ℕ → List ℕ
  replaced i bs = map f (take i bs) ++ drop i bs

  next : (bs : List ℕ) (i b : ℕ) → i < length bs → b ≡ f (get_or (replaced i bs) i 0) → slice_set (replaced i bs) i b ≡ replaced (suc i) bs
  next [] i b h k = absurd (omega arith)
  next (a ∷ bs) zero b h k = ap (λ z. z ∷ bs) k
  next (a ∷ bs) (suc i) b h k = ap (λ l. f a ∷ l) (next bs i b (omega arith) k)

  -- one more is
  pub replaced_next : (bs cs : List ℕ) (i b : ℕ) → i < length bs → cs ≡ replaced i bs → b ≡ f (get_or cs i 0) → slice_set cs i b ≡ replaced (i + 1) bs
  replaced_next bs cs i b h e k =
      ap (λ l. slice_set l i b) e ∙ (next bs i b h (k ∙ ap (λ l. f (get_or l i 0)) e) ∙ ap (λ n. replaced n bs) (sym (add-one i)))

  pub length_same : (bs : List ℕ) (i : ℕ) → length (replaced i bs) ≡ length bs
  length_same [] zero = refl
  length_same [] (suc i) = refl
  length_same (b ∷ bs) zero = refl
  length_same (b ∷ bs) (suc i) = ap (λ n. suc n) (length_same bs i)

  -- all are
  pub all_replaced : (bs : List ℕ) (i : ℕ) → length bs ≤ i → replaced i bs ≡ map f bs
  all_replaced [] zero h = refl
  all_replaced [] (suc i) h = refl
  all_replaced (b ∷ bs) zero h = absurd (omega arith)
  all_replaced (b ∷ bs) (suc i) h = ap (λ l. f b ∷ l) (all_replaced bs i (omega arith))
