-- The machine goes over the words of a header and what stands behind them.
use Rattle.std.proofs.Common.{true, ◌≡◌, ℕ, ◌+◌, ◌*◌, ◌≤◌, List, [], ◌∷◌, Option, Some, None, Bool, refl, sym, ap, ◌∙◌, subst, arith, inl, inr, length}
use Rattle.wkt_num.specs.Bytes.{Lexeme, Open, Word}
use Rattle.wkt_access.specs.declared.dimensions.Dimension.{Dimension}
use Rattle.wkt_access.specs.declared.dimensions.Dimension.TheVariants.{XY}
use Rattle.wkt_events.specs.Remaining.{Legible, remaining_spanned, TakesOne}
use Rattle.wkt_events.proofs.Utf8Lines.{legible-one}
use Rattle.wkt_read.specs.Grammar.{dim_word, is_empty_word}
use Rattle.wkt_machine.specs.Events.{Event}
use Rattle.wkt_machine.specs.Goes.{Goes}
use Rattle.wkt_sources.specs.LexemesAhead.{EndsHeader, EndsDimension, EndsWords, EndsKind, NamesDimension, StandsHeader}
use Rattle.wkt_machine.specs.Machine.{State, at, inside, outside, joined_step, kind_step, dimension_step, moved, move, part_of}
use Rattle.wkt_machine.specs.Machine as place
use Rattle.wkt_machine.specs.Machines.{state_of, place_of, IsSound}
use Rattle.wkt_machine.specs.Makers.{Maker}
use Rattle.wkt_sources.specs.Views.{bytes_view}
use Rattle.wkt_sources.specs.declared.bytes.ByteCursor.{ByteCursor}
use Rattle.wkt_machine.specs.declared.machine.Machine.{Machine}
use Rattle.wkt_machine.specs.declared.machine.State.TheVariants as next
use Rattle.wkt_machine.specs.declared.part.Part.{Part}
use Rattle.wkt_sources.specs.declared.header.AfterHeader.{AfterHeader}
use Rattle.wkt_sources.specs.declared.header.AfterHeader.TheVariants as then
use Rattle.wkt_machine.specs.declared.step.Action.TheVariants as act
use Rattle.std.specs.Prelude.{◌⊎◌, if◌then◌else◌, not, ◌==◌}
use Rattle.wkt_read.proofs.KindWords.{empty_is, empty_no_dim}
use Rattle.wkt_read.proofs.HeaderPlaces.{upper-length}
use Rattle.wkt_machine.specs.Room.{header_cost, need, owed, Leaves, HasRoom}
use Rattle.wkt_machine.proofs.RoomForRest.{kind_cost, inside_owes, outside_owes, leaves_both}
use Rattle.wkt_machine.proofs.Stepping.{goes_one}
use Rattle.wkt_machine.proofs.StepsJoin.{rest_room}
use Rattle.wkt_machine.proofs.WaysJoin.{goes_on_to}
use Rattle.wkt_sources.proofs.TokenSteps.{alone, opening}
use Rattle.wkt_sources.proofs.header.enter.Goals as goal

-- What the lexeme behind the words of a header makes, and where the machine stands then.
abbrev ended : {N : Type 0} → AfterHeader → Part → List (Event N)
ended then.Inside p = Event.Open p ∷ []
ended then.Outside p = Event.Empty p ∷ []
ended t p = []

abbrev after : AfterHeader → Part → Dimension → ℕ → State
after then.Dimension p d n = at n (place.Alone p)
after then.Opening p d n = at n (place.Opening p d)
after then.Inside p d n = inside p d n
after then.Outside p d n = outside p d n

-- EMPTY is no dimension.
empty_moves : {N : Type 0} (read : List ℕ → Option N) (p : Part) (n : ℕ) (w : List ℕ) → is_empty_word w ≡ true → move read (at n (place.Alone p)) (Word w) ≡ Some (outside p XY n, Event.Header p XY ∷ Event.Empty p ∷ [])
empty_moves read p n w e =
    ap (λ o. moved read (dimension_step o p w n) (Some None)) (empty_no_dim w (empty_is w e))
    ∙ ap (λ b. moved read (if b then Some (outside p XY n, act.HeaderEmpty p) else None) (Some None)) e

module _ {N B : Type 0} (read : List ℕ → Option N) (maker : Maker N B) {n : ℕ} (feed : Bool) where
  -- A lexeme behind white space or none.
  one : (m k : Machine) (s t : ByteCursor n) (b c : B) (l : Lexeme) (es : List (Event N)) (start end : ℕ) → remaining_spanned feed s.text.now s.at ≡ remaining_spanned feed s.text.now start → (Legible feed s.text.now s.at → Legible feed s.text.now start)
      → TakesOne feed s.text.now start l end → t.text ≡ s.text → t.at ≡ end → move read (state_of m) l ≡ Some (state_of k, es) → IsSound k → maker.makes b es c → Goes read (bytes_view feed) maker m s b (record { source = t; machine = k; builder = c })
  one m k s t b c l es start end same further takes text to moves sound makes =
      let there : TakesOne feed s.text.now start l t.at = subst (TakesOne feed s.text.now start l) (sym to) takes in
      goes_one read (bytes_view feed) maker m k s t b c (record { lexeme = l; end = t.at }) es (same ∙ there.next ∙ ap (λ x. record { lexeme = l; end = t.at } ∷ remaining_spanned feed x.now t.at) (sym text)) refl
      (λ j h. (ap (λ x. x.now) text ∙ h.0, subst (λ x. Legible feed x.now t.at) (sym text) (legible-one feed s.text.now start l t.at there (further h.1)))) moves makes sound

  module _ (m : Machine) (s : ByteCursor n) (b o : B) (p : Part) (d : Dimension) (start : ℕ) (at_kind : m.state ≡ next.Kind) (same : remaining_spanned feed s.text.now s.at ≡ remaining_spanned feed s.text.now start)
      (further : Legible feed s.text.now s.at → Legible feed s.text.now start) where
    abbrev there : ℕ → ByteCursor n
    there mid = record { text = s.text; at = mid; end = mid }

    -- from a place that was reached
    next_one : (m k : Machine) (mid : ℕ) (t : ByteCursor n) (b c : B) (l : Lexeme) (es : List (Event N)) (end : ℕ) → TakesOne feed s.text.now mid l end → t.text ≡ s.text → t.at ≡ end → move read (state_of m) l ≡ Some (state_of k, es) → IsSound k → maker.makes b es c
        → Goes read (bytes_view feed) maker m (there mid) b (record { source = t; machine = k; builder = c })
    next_one m k mid t b c l es end takes text to moves sound makes = one m k (there mid) t b c l es mid end refl (λ h. h) takes text to moves sound makes

    module _ (t : AfterHeader) (end : ℕ) (h : StandsHeader feed s.text.now start p d t end) where
      kind_moves : (j : Option Dimension) → h.row.joined ≡ j → move read (state_of m) (Word h.word) ≡ moved read (Some (joined_step p j m.depth)) (Some None)
      kind_moves j e =
          ap (λ x. move read (at m.depth (place_of x m.part m.dim)) (Word h.word)) at_kind
          ∙ ap (λ o. moved read (kind_step o m.depth) (Some None)) h.names
          ∙ ap (λ q. moved read (Some (joined_step q h.row.joined m.depth)) (Some None)) h.kind
          ∙ ap (λ j. moved read (Some (joined_step p j m.depth)) (Some None)) e

      -- the word of a kind alone, and with a dimension joined to it
      alone_goes : (k : Machine) (t : ByteCursor n) (c : B) → h.row.joined ≡ None → t.text ≡ s.text → t.at ≡ h.mid → state_of k ≡ at m.depth (place.Alone p) → IsSound k → maker.makes b [] c → Goes read (bytes_view feed) maker m s b (record { source = t; machine = k; builder = c })
      alone_goes k t c e text to is sound makes = one m k s t b c (Word h.word) [] start h.mid same further h.takes text to (kind_moves None e ∙ ap (λ x. Some (x, [])) (sym is)) sound makes

      joined_goes : (k : Machine) (t : ByteCursor n) (c : B) → h.row.joined ≡ Some d → t.text ≡ s.text → t.at ≡ h.mid → state_of k ≡ at m.depth (place.Opening p d) → IsSound k → maker.makes b (Event.Header p d ∷ []) c
          → Goes read (bytes_view feed) maker m s b (record { source = t; machine = k; builder = c })
      joined_goes k t c e text to is sound makes = one m k s t b c (Word h.word) (Event.Header p d ∷ []) start h.mid same further h.takes text to (kind_moves (Some d) e ∙ ap (λ x. Some (x, Event.Header p d ∷ [])) (sym is)) sound makes

      -- a dimension behind it
      dimension_goes : (k : Machine) (t : ByteCursor n) (c : B) → h.row.joined ≡ None → (w : List ℕ) (mid : ℕ) → TakesOne feed s.text.now h.mid (Word w) mid → dim_word w ≡ Some d → t.text ≡ s.text → t.at ≡ mid → state_of k ≡ at m.depth (place.Opening p d) → IsSound k
          → maker.makes b (Event.Header p d ∷ []) c → Goes read (bytes_view feed) maker m s b (record { source = t; machine = k; builder = c })
      dimension_goes k t c e w mid takes says text to is sound makes =
          goes_on_to read (bytes_view feed) maker m s b (record { source = there h.mid; machine = alone m p; builder = b }) (record { source = t; machine = k; builder = c })
          (alone_goes (alone m p) (there h.mid) b e refl refl refl tt (maker.none b))
          (next_one (alone m p) k h.mid t b c (Word w) (Event.Header p d ∷ []) mid takes text to
          (ap (λ o. moved read (dimension_step o p w m.depth) (Some None)) says ∙ ap (λ x. Some (x, Event.Header p d ∷ [])) (sym is)) sound makes)

    -- the parenthesis behind a dimension, or EMPTY
    ends_goes : (t : AfterHeader) (k : Machine) (to : ByteCursor n) (c : B) (mid end : ℕ) → Goes read (bytes_view feed) maker m s b (record { source = there mid; machine = opening m p d; builder = o }) → EndsHeader feed s.text.now mid t end
        → to.text ≡ s.text → to.at ≡ end → state_of k ≡ after t p d m.depth → IsSound k → maker.makes o (ended t p) c → Goes read (bytes_view feed) maker m s b (record { source = to; machine = k; builder = c })
    ends_goes then.Inside k to c mid end way takes text at is sound makes =
        goes_on_to read (bytes_view feed) maker m s b (record { source = there mid; machine = opening m p d; builder = o }) (record { source = to; machine = k; builder = c }) way
        (next_one (opening m p d) k mid to o c Open (Event.Open p ∷ []) end takes text at (ap (λ x. Some (x, Event.Open p ∷ [])) (sym is)) sound makes)
    ends_goes then.Outside k to c mid end way (w, takes, says) text at is sound makes =
        goes_on_to read (bytes_view feed) maker m s b (record { source = there mid; machine = opening m p d; builder = o }) (record { source = to; machine = k; builder = c }) way
        (next_one (opening m p d) k mid to o c (Word w) (Event.Empty p ∷ []) end takes text at
        (ap (λ b. moved read (if b then Some (outside p d m.depth, act.Empty p) else None) (Some None)) says ∙ ap (λ x. Some (x, Event.Empty p ∷ [])) (sym is)) sound makes)
    ends_goes then.Dimension k to c mid end way never text at is sound makes = absurd never
    ends_goes then.Opening k to c mid end way never text at is sound makes = absurd never

    -- the same behind a kind word alone
    alone_ends : (t : AfterHeader) (k : Machine) (to : ByteCursor n) (c : B) (mid end : ℕ) → Goes read (bytes_view feed) maker m s b (record { source = there mid; machine = alone m p; builder = b }) → d ≡ XY → EndsHeader feed s.text.now mid t end
        → to.text ≡ s.text → to.at ≡ end → state_of k ≡ after t p d m.depth → IsSound k → maker.makes b (Event.Header p d ∷ []) o → maker.makes o (ended t p) c → Goes read (bytes_view feed) maker m s b (record { source = to; machine = k; builder = c })
    alone_ends then.Inside k to c mid end way flat takes text at is sound one two =
        goes_on_to read (bytes_view feed) maker m s b (record { source = there mid; machine = alone m p; builder = b }) (record { source = to; machine = k; builder = c }) way
        (next_one (alone m p) k mid to b c Open (Event.Header p XY ∷ Event.Open p ∷ []) end takes text at
        (ap (λ x. Some (x, Event.Header p XY ∷ Event.Open p ∷ [])) (sym (is ∙ ap (λ d. inside p d m.depth) flat))) sound
        (subst (λ d. maker.makes b (Event.Header p d ∷ Event.Open p ∷ []) c) flat (maker.more b o c (Event.Header p d ∷ []) (Event.Open p ∷ []) one two)))
    alone_ends then.Outside k to c mid end way flat (w, takes, says) text at is sound one two =
        goes_on_to read (bytes_view feed) maker m s b (record { source = there mid; machine = alone m p; builder = b }) (record { source = to; machine = k; builder = c }) way
        (next_one (alone m p) k mid to b c (Word w) (Event.Header p XY ∷ Event.Empty p ∷ []) end takes text at
        (empty_moves read p m.depth w says ∙ ap (λ x. Some (x, Event.Header p XY ∷ Event.Empty p ∷ [])) (sym (is ∙ ap (λ d. outside p d m.depth) flat))) sound
        (subst (λ d. maker.makes b (Event.Header p d ∷ Event.Empty p ∷ []) c) flat (maker.more b o c (Event.Header p d ∷ []) (Event.Empty p ∷ []) one two)))
    alone_ends then.Dimension k to c mid end way flat never text at is sound one two = absurd never
    alone_ends then.Opening k to c mid end way flat never text at is sound one two = absurd never

    -- neither
    bare_goes : (end : ℕ) (h : StandsHeader feed s.text.now start p d then.Dimension end) (k : Machine) (to : ByteCursor n) → to.text ≡ s.text → to.at ≡ end → state_of k ≡ at m.depth (place.Alone p) → IsSound k
        → Goes read (bytes_view feed) maker m s b (record { source = to; machine = k; builder = b })
    bare_goes end h k to text at is sound = go h.row.joined refl h.ends
      where
        go : (j : Option Dimension) → h.row.joined ≡ j → EndsWords feed s.text.now h.mid j d then.Dimension end → Goes read (bytes_view feed) maker m s b (record { source = to; machine = k; builder = b })
        go None e (flat, same) = alone_goes then.Dimension end h k to b e text (at ∙ same) is sound (maker.none b)
        go (Some j) e (same, never) = absurd never

    named_goes : (end : ℕ) (h : StandsHeader feed s.text.now start p d then.Opening end) (k : Machine) (to : ByteCursor n) → to.text ≡ s.text → to.at ≡ end → state_of k ≡ at m.depth (place.Opening p d) → IsSound k → maker.makes b (Event.Header p d ∷ []) o
        → Goes read (bytes_view feed) maker m s b (record { source = to; machine = k; builder = o })
    named_goes end h k to text at is sound makes = go h.row.joined refl h.ends
      where
        go : (j : Option Dimension) → h.row.joined ≡ j → EndsWords feed s.text.now h.mid j d then.Opening end → Goes read (bytes_view feed) maker m s b (record { source = to; machine = k; builder = o })
        go None e (inl (flat, never)) = absurd never
        go None e (inr (w, mid, takes, says, same)) = dimension_goes then.Opening end h k to o e w mid takes says text (at ∙ same) is sound makes
        go (Some j) e (same, here) = joined_goes then.Opening end h k to o (e ∙ ap Some (sym same)) text (at ∙ here) is sound makes

    -- one of the two
    header_goes : (t : AfterHeader) (end : ℕ) (h : StandsHeader feed s.text.now start p d t end) → ((j : Dimension) (mid : ℕ) → EndsDimension feed s.text.now mid t end → EndsHeader feed s.text.now mid t end)
        → (EndsKind feed s.text.now h.mid d t end → ((d ≡ XY) × EndsHeader feed s.text.now h.mid t end) ⊎ NamesDimension feed s.text.now h.mid d t end)
        → (k : Machine) (to : ByteCursor n) (c : B) → to.text ≡ s.text → to.at ≡ end → state_of k ≡ after t p d m.depth → IsSound k → maker.makes b (Event.Header p d ∷ []) o → maker.makes o (ended t p) c
        → Goes read (bytes_view feed) maker m s b (record { source = to; machine = k; builder = c })
    header_goes t end h ended_so kinds k to c text at is sound first second = go h.row.joined refl h.ends
      where
        alone_first : h.row.joined ≡ None → ((d ≡ XY) × EndsHeader feed s.text.now h.mid t end) ⊎ NamesDimension feed s.text.now h.mid d t end → Goes read (bytes_view feed) maker m s b (record { source = to; machine = k; builder = c })
        alone_first e (inl (flat, ends)) =
            alone_ends t k to c h.mid end (alone_goes t end h (alone m p) (there h.mid) b e refl refl refl tt (maker.none b)) flat ends text at is sound first second
        alone_first e (inr (w, mid, takes, says, ends)) =
            ends_goes t k to c mid end (dimension_goes t end h (opening m p d) (there mid) o e w mid takes says refl refl refl tt first) (ended_so d mid ends) text at is sound second

        go : (j : Option Dimension) → h.row.joined ≡ j → EndsWords feed s.text.now h.mid j d t end → Goes read (bytes_view feed) maker m s b (record { source = to; machine = k; builder = c })
        go None e ends = alone_first e (kinds ends)
        go (Some j) e (same, ends) = ends_goes t k to c h.mid end (joined_goes t end h (opening m p d) (there h.mid) o (e ∙ ap Some (sym same)) refl refl refl tt first) (ended_so j h.mid ends) text at is sound second

-- How much the lexeme behind the words takes.
abbrev tail : AfterHeader → ℕ
tail then.Inside = 1
tail then.Outside = 6
tail t = 0

ends_spend : (feed : Bool) (text : List ℕ) (at : ℕ) (t : AfterHeader) (end : ℕ) → EndsHeader feed text at t end → tail t + need (remaining_spanned feed text end) ≤ need (remaining_spanned feed text at)
ends_spend feed text at then.Inside end takes = let spent = ap need takes.next in omega (arith, spent)
ends_spend feed text at then.Outside end (w, takes, says) =
    let spent : need (remaining_spanned feed text at) ≡ 2 * length w + 1 + need (remaining_spanned feed text end) = ap need takes.next in
    let five = sym (upper-length w) ∙ ap length (empty_is w says) in
    omega (arith, spent, five)
ends_spend feed text at then.Dimension end never = absurd never
ends_spend feed text at then.Opening end never = absurd never

dimension_spends : (feed : Bool) (text : List ℕ) (at : ℕ) (t : AfterHeader) (end : ℕ) → EndsDimension feed text at t end → tail t + need (remaining_spanned feed text end) ≤ need (remaining_spanned feed text at)
dimension_spends feed text at then.Opening end same = let e = ap (λ n. need (remaining_spanned feed text n)) same in omega (arith, e)
dimension_spends feed text at then.Inside end ends = ends_spend feed text at then.Inside end ends
dimension_spends feed text at then.Outside end ends = ends_spend feed text at then.Outside end ends
dimension_spends feed text at then.Dimension end never = absurd never

named_spends : (feed : Bool) (text : List ℕ) (at : ℕ) (d : Dimension) (t : AfterHeader) (end : ℕ) → NamesDimension feed text at d t end → tail t + need (remaining_spanned feed text end) ≤ need (remaining_spanned feed text at)
named_spends feed text at d t end (w, mid, takes, says, ends) =
    let spent : need (remaining_spanned feed text at) ≡ 2 * length w + 1 + need (remaining_spanned feed text mid) = ap need takes.next in
    let more = dimension_spends feed text mid t end ends in
    omega (arith, spent, more)

kind_spends : (feed : Bool) (text : List ℕ) (at : ℕ) (d : Dimension) (t : AfterHeader) (end : ℕ) → EndsKind feed text at d t end → tail t + need (remaining_spanned feed text end) ≤ need (remaining_spanned feed text at)
kind_spends feed text at d then.Dimension end (flat, same) = let e = ap (λ n. need (remaining_spanned feed text n)) same in omega (arith, e)
kind_spends feed text at d then.Opening end (inl (flat, never)) = absurd never
kind_spends feed text at d then.Opening end (inr named) = named_spends feed text at d then.Opening end named
kind_spends feed text at d then.Inside end (inl (flat, ends)) = ends_spend feed text at then.Inside end ends
kind_spends feed text at d then.Inside end (inr named) = named_spends feed text at d then.Inside end named
kind_spends feed text at d then.Outside end (inl (flat, ends)) = ends_spend feed text at then.Outside end ends
kind_spends feed text at d then.Outside end (inr named) = named_spends feed text at d then.Outside end named

words_spend : (feed : Bool) (text : List ℕ) (at : ℕ) (j : Option Dimension) (d : Dimension) (t : AfterHeader) (end : ℕ) → EndsWords feed text at j d t end → tail t + need (remaining_spanned feed text end) ≤ need (remaining_spanned feed text at)
words_spend feed text at None d t end ends = kind_spends feed text at d t end ends
words_spend feed text at (Some j) d t end (same, ends) = dimension_spends feed text at t end ends

spends : (feed : Bool) (text : List ℕ) (from at : ℕ) (p : Part) (d : Dimension) (t : AfterHeader) (end : ℕ) → remaining_spanned feed text from ≡ remaining_spanned feed text at → StandsHeader feed text at p d t end → header_cost p + tail t + need (remaining_spanned feed text end) ≤ need (remaining_spanned feed text from)
spends feed text from at p d t end same h =
    let first : need (remaining_spanned feed text from) ≡ 2 * length h.word + 1 + need (remaining_spanned feed text h.mid) = ap need (same ∙ h.takes.next) in
    let second = words_spend feed text h.mid h.row.joined d t end h.ends in
    let long : header_cost (part_of h.row.kind) ≤ 2 * length h.word + 1 = kind_cost h.word h.row h.names in
    let is : header_cost (part_of h.row.kind) ≡ header_cost p = ap header_cost h.kind in
    omega (arith, first, second, long, is)

module _ {N B : Type 0} (maker : Maker N B) {n : ℕ} (feed : Bool) (s : ByteCursor n) (b : B) (start : ℕ) (p : Part) (d : Dimension) (t : AfterHeader) (end : ℕ) (same : remaining_spanned feed s.text.now s.at ≡ remaining_spanned feed s.text.now start)
    (h : StandsHeader feed s.text.now start p d t end) (room : HasRoom (bytes_view feed) maker 0 s b) where
  -- Room for the words, and for the lexeme behind them.
  fits_words : (k : ℕ) → k ≤ header_cost p + tail t → maker.fits b k
  fits_words k order = let spent = spends feed s.text.now s.at start p d t end same h in maker.less b k (0 + need (remaining_spanned feed s.text.now s.at)) (omega (arith, order, spent)) room.fits

  -- What is left behind them.
  room_behind : (k x : ℕ) (to : ByteCursor n) (c : B) → k + x ≤ header_cost p + tail t → to.text ≡ s.text → to.at ≡ end → Leaves maker b x c → HasRoom (bytes_view feed) maker k to c
  room_behind k x to c order text at leaves =
      let spent = spends feed s.text.now s.at start p d t end same h in
      let there : need (remaining_spanned feed to.text.now to.at) ≡ need (remaining_spanned feed s.text.now end) = ap (λ x. need (remaining_spanned feed x.now to.at)) text ∙ ap (λ n. need (remaining_spanned feed s.text.now n)) at in
      record {
        fits = leaves (k + need (remaining_spanned feed to.text.now to.at))
            (maker.less b (k + need (remaining_spanned feed to.text.now to.at) + x) (0 + need (remaining_spanned feed s.text.now s.at)) (omega (arith, order, spent, there)) room.fits);
        values = room.values;
        reads = room.reads;
      }

  room_ended : (x : ℕ) (to : ByteCursor n) (o c : B) → x ≤ tail t → to.text ≡ s.text → to.at ≡ end → Leaves maker b (header_cost p) o → Leaves maker o x c → HasRoom (bytes_view feed) maker 0 to c
  room_ended x to o c order text at one two = room_behind 0 (x + header_cost p) to c (omega (arith, order)) text at (leaves_both (bytes_view {n = n} feed) maker (header_cost p) x b o c one two)

pub begin-requires : goal.begin-requires
begin-requires g c = record { room = fits_words g.B.Builder.maker _ c.args.source c.args.builder c.args.at c.args.head.part c.args.head.dim then.Opening c.args.head.end c.requires.between.same (subst (λ t. StandsHeader _ c.args.source.text.now c.args.at c.args.head.part c.args.head.dim t c.args.head.end) c.in-Opening.is c.requires.head) (rest_room c.requires.may) (header_cost c.args.head.part) (omega arith) }

pub begin-requires-in-Inside : goal.begin-requires-in-Inside
begin-requires-in-Inside g c = record { room = fits_words g.B.Builder.maker _ c.args.source c.args.builder c.args.at c.args.head.part c.args.head.dim then.Inside c.args.head.end c.requires.between.same (subst (λ t. StandsHeader _ c.args.source.text.now c.args.at c.args.head.part c.args.head.dim t c.args.head.end) c.in-Inside.is c.requires.head) (rest_room c.requires.may) (header_cost c.args.head.part) (omega arith) }

pub open-requires : goal.open-requires
open-requires g c = record { room = c.begin-in-Inside.ensures.leaves 1 (fits_words g.B.Builder.maker _ c.args.source c.args.builder c.args.at c.args.head.part c.args.head.dim then.Inside c.args.head.end c.requires.between.same (subst (λ t. StandsHeader _ c.args.source.text.now c.args.at c.args.head.part c.args.head.dim t c.args.head.end) c.in-Inside.is c.requires.head) (rest_room c.requires.may) (1 + header_cost c.args.head.part) (omega arith)) }

pub begin-requires-in-Outside : goal.begin-requires-in-Outside
begin-requires-in-Outside g c = record { room = fits_words g.B.Builder.maker _ c.args.source c.args.builder c.args.at c.args.head.part c.args.head.dim then.Outside c.args.head.end c.requires.between.same (subst (λ t. StandsHeader _ c.args.source.text.now c.args.at c.args.head.part c.args.head.dim t c.args.head.end) c.in-Outside.is c.requires.head) (rest_room c.requires.may) (header_cost c.args.head.part) (omega arith) }

pub empty-requires : goal.empty-requires
empty-requires g c = record { room = c.begin-in-Outside.ensures.leaves 6 (fits_words g.B.Builder.maker _ c.args.source c.args.builder c.args.at c.args.head.part c.args.head.dim then.Outside c.args.head.end c.requires.between.same (subst (λ t. StandsHeader _ c.args.source.text.now c.args.at c.args.head.part c.args.head.dim t c.args.head.end) c.in-Outside.is c.requires.head) (rest_room c.requires.may) (6 + header_cost c.args.head.part) (omega arith)) }

pub returns-in-Dimension-clause-on : goal.returns-in-Dimension-clause-on
returns-in-Dimension-clause-on g c =
    bare_goes (g.B.Builder.maker.reads c.args.builder) g.B.Builder.maker _ c.args.machine c.args.source c.args.builder c.args.builder c.args.head.part c.args.head.dim c.args.at c.requires.state c.requires.between.same c.requires.line c.args.head.end (subst (λ t. StandsHeader _ c.args.source.text.now c.args.at c.args.head.part c.args.head.dim t c.args.head.end) c.in-Dimension.is c.requires.head)
    c.with_part.result c.new-source.result c.new-source.ensures.text c.new-source.ensures.at (ap state_of c.with_part.ensures) (subst IsSound (sym c.with_part.ensures) tt)

pub returns-in-Dimension-clause-stands : goal.returns-in-Dimension-clause-stands
returns-in-Dimension-clause-stands g c =
    subst (λ m. HasRoom (bytes_view (not (g.row.LF_ENDS == 0))) g.B.Builder.maker (owed (state_of m)) c.new-source.result c.args.builder) (sym c.with_part.ensures)
    (room_behind g.B.Builder.maker _ c.args.source c.args.builder c.args.at c.args.head.part c.args.head.dim then.Dimension c.args.head.end c.requires.between.same (subst (λ t. StandsHeader _ c.args.source.text.now c.args.at c.args.head.part c.args.head.dim t c.args.head.end) c.in-Dimension.is c.requires.head) (rest_room c.requires.may) (header_cost c.args.head.part) 0 c.new-source.result c.args.builder (omega arith) c.new-source.ensures.text c.new-source.ensures.at (λ m fits. g.B.Builder.maker.less c.args.builder m (m + 0) (omega arith) fits))

pub returns-in-Opening-clause-on : goal.returns-in-Opening-clause-on
returns-in-Opening-clause-on g c =
    named_goes (g.B.Builder.maker.reads c.args.builder) g.B.Builder.maker _ c.args.machine c.args.source c.args.builder c.begin.result c.args.head.part c.args.head.dim c.args.at c.requires.state c.requires.between.same c.requires.line c.args.head.end (subst (λ t. StandsHeader _ c.args.source.text.now c.args.at c.args.head.part c.args.head.dim t c.args.head.end) c.in-Opening.is c.requires.head)
    c.with_part-begun.result c.new-source.result c.new-source.ensures.text c.new-source.ensures.at (ap state_of c.with_part-begun.ensures) (subst IsSound (sym c.with_part-begun.ensures) tt) c.begin.ensures.makes

pub returns-in-Opening-clause-stands : goal.returns-in-Opening-clause-stands
returns-in-Opening-clause-stands g c =
    subst (λ m. HasRoom (bytes_view (not (g.row.LF_ENDS == 0))) g.B.Builder.maker (owed (state_of m)) c.new-source.result c.begin.result) (sym c.with_part-begun.ensures)
    (room_behind g.B.Builder.maker _ c.args.source c.args.builder c.args.at c.args.head.part c.args.head.dim then.Opening c.args.head.end c.requires.between.same (subst (λ t. StandsHeader _ c.args.source.text.now c.args.at c.args.head.part c.args.head.dim t c.args.head.end) c.in-Opening.is c.requires.head) (rest_room c.requires.may) 0 (header_cost c.args.head.part) c.new-source.result c.begin.result (omega arith) c.new-source.ensures.text c.new-source.ensures.at c.begin.ensures.leaves)

pub returns-in-Inside-clause-on : goal.returns-in-Inside-clause-on
returns-in-Inside-clause-on g c =
    header_goes (g.B.Builder.maker.reads c.args.builder) g.B.Builder.maker _ c.args.machine c.args.source c.args.builder c.begin-in-Inside.result c.args.head.part c.args.head.dim c.args.at c.requires.state c.requires.between.same c.requires.line then.Inside c.args.head.end (subst (λ t. StandsHeader _ c.args.source.text.now c.args.at c.args.head.part c.args.head.dim t c.args.head.end) c.in-Inside.is c.requires.head)
    (λ j mid ends. ends) (λ ends. ends) c.inside.result c.new-source.result c.open.result c.new-source.ensures.text c.new-source.ensures.at
    (c.inside.ensures.state ∙ ap (λ (m : Machine). inside m.part m.dim m.depth) c.with_part-begun.ensures) c.inside.ensures.sound c.begin-in-Inside.ensures.makes c.open.ensures.makes

pub returns-in-Inside-clause-stands : goal.returns-in-Inside-clause-stands
returns-in-Inside-clause-stands g c =
    subst (λ n. HasRoom (bytes_view (not (g.row.LF_ENDS == 0))) g.B.Builder.maker n c.new-source.result c.open.result) (sym (ap owed c.inside.ensures.state ∙ inside_owes _ _ _))
    (room_ended g.B.Builder.maker _ c.args.source c.args.builder c.args.at c.args.head.part c.args.head.dim then.Inside c.args.head.end c.requires.between.same (subst (λ t. StandsHeader _ c.args.source.text.now c.args.at c.args.head.part c.args.head.dim t c.args.head.end) c.in-Inside.is c.requires.head) (rest_room c.requires.may) 1 c.new-source.result c.begin-in-Inside.result c.open.result (omega arith) c.new-source.ensures.text c.new-source.ensures.at c.begin-in-Inside.ensures.leaves c.open.ensures.leaves)

pub returns-in-Outside-clause-on : goal.returns-in-Outside-clause-on
returns-in-Outside-clause-on g c =
    header_goes (g.B.Builder.maker.reads c.args.builder) g.B.Builder.maker _ c.args.machine c.args.source c.args.builder c.begin-in-Outside.result c.args.head.part c.args.head.dim c.args.at c.requires.state c.requires.between.same c.requires.line then.Outside c.args.head.end (subst (λ t. StandsHeader _ c.args.source.text.now c.args.at c.args.head.part c.args.head.dim t c.args.head.end) c.in-Outside.is c.requires.head)
    (λ j mid ends. ends) (λ ends. ends) c.outside.result c.new-source.result c.empty.result c.new-source.ensures.text c.new-source.ensures.at
    (c.outside.ensures.state ∙ ap (λ (m : Machine). outside m.part m.dim m.depth) c.with_part-begun.ensures) c.outside.ensures.sound c.begin-in-Outside.ensures.makes c.empty.ensures.makes

pub returns-in-Outside-clause-stands : goal.returns-in-Outside-clause-stands
returns-in-Outside-clause-stands g c =
    subst (λ n. HasRoom (bytes_view (not (g.row.LF_ENDS == 0))) g.B.Builder.maker n c.new-source.result c.empty.result) (sym (ap owed c.outside.ensures.state ∙ outside_owes _ _ _))
    (room_ended g.B.Builder.maker _ c.args.source c.args.builder c.args.at c.args.head.part c.args.head.dim then.Outside c.args.head.end c.requires.between.same (subst (λ t. StandsHeader _ c.args.source.text.now c.args.at c.args.head.part c.args.head.dim t c.args.head.end) c.in-Outside.is c.requires.head) (rest_room c.requires.may) 6 c.new-source.result c.begin-in-Outside.result c.empty.result (omega arith) c.new-source.ensures.text c.new-source.ensures.at c.begin-in-Outside.ensures.leaves c.empty.ensures.leaves)
