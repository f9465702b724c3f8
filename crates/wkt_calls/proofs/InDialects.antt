-- What is answered of the text that a text in dialects is read as is the answer of the text.
use Rattle.std.proofs.Common.{◌≡◌, ◌≢◌, ◌⊎◌, inl, inr, ℕ, ℤ, ◌+◌, ◌-◌, ◌<◌, ◌≤◌, ◌%◌, ◌^◌, Bool, true, false, not, if◌then◌else◌, List, Option, length, drop, length-drop, IsUtf8, refl, sym, ap, subst, ◌∙◌, arith, nat_lt}
use borrow.Author.Tests.{lt-ltb}
use Rattle.std.proofs.lemmas.Bool.{cases_eq}
use Rattle.wkt_read.specs.Explained.{HasFront}
use Rattle.wkt_read.specs.Front.{HasNoFront}
use Rattle.wkt_explain.specs.Problems.{IsProblem}
use Rattle.wkt_explain.specs.declared.whole.Problem.{Problem}
use Rattle.wkt_explain.specs.declared.whole.Problem.TheVariants.{Refused, Rest}
use Rattle.wkt_dialects.specs.Asked.{dialects_in}
use Rattle.wkt_dialects.specs.Dialects.{IsRest}
use Rattle.wkt_dialects.specs.Reading.{IsRestAs}
use Rattle.wkt_calls.specs.Answer.{read_at, print_at, places_in, asks_whole, Compares, RefusesText, RefusesOne}
use Rattle.wkt_calls.specs.Arrays.{AnswersArrays, IsNotFlat}
use Rattle.wkt_calls.specs.Calls.{AnswersCanonical, AnswersSame}
use Rattle.wkt_calls.specs.declared.dialects.AsRead.{AsRead}
use Rattle.wkt_calls.specs.declared.sizes.WktSizes.{WktSizes}
use Rattle.wkt_calls.specs.Dialects.{AsksDialects, read_plainly, HoldsRest, IsAsRead, IsReadable, SaysEnd, EndsAt, IsAnswer, HasNoAnswer, AnswersCanonicalOf, AnswersCanonicalIn, AnswersSameOf, AnswersSameIn, AnswersArraysOf, AnswersArraysIn}
use Rattle.wkt_calls.proofs.Padded.{front-inside}

-- A text behind its SRID, which is read as it stands if it begins with a geometry.
pub record IsBehind (options : ℕ) (text : List ℕ) (r : AsRead) : Type 0 where
  pub rest : HoldsRest options text r
  pub same : r.written ≡ false
  pub text_is : r.text.now ≡ r.rest.now
  pub utf8 : IsUtf8 text → IsUtf8 r.text.now

inside-of : (options : ℕ) (text : List ℕ) (r : AsRead) → HoldsRest options text r → length text < 2 ^ 63 → r.from + length r.rest.now < 2 ^ 63
inside-of options text r h few = omega (arith, few, h.inside, ap (λ l. length l) h.rest, length-drop r.from text)

pub behind-readable : (options : ℕ) (text : List ℕ) (r : AsRead) → IsBehind options text r → length text < 2 ^ 63 → IsReadable r
behind-readable options text r b few = record {
  same = λ _. b.text_is;
  other = λ w. let k : false ≡ true = sym b.same ∙ w in cc;
  inside = inside-of options text r b.rest few;
}

pub read-readable : (options : ℕ) (text : List ℕ) (r : AsRead) → IsAsRead options text r → length text < 2 ^ 63 → IsReadable r
read-readable options text r h few = record {
  same = λ e. (h.same e).1;
  other = λ e. subst (λ d. IsRestAs d r.rest.now r.text.now) (sym h.rest.dialects) (h.other e).1;
  inside = inside-of options text r h.rest few;
}

pub begins : (options : ℕ) (text : List ℕ) (r : AsRead) → IsBehind options text r → HasFront (read_plainly options) r.text.now → IsAsRead options text r
begins options text r b front = record {
  rest = b.rest;
  same = λ _. (subst (HasFront (read_plainly options)) b.text_is front, b.text_is);
  other = λ w. let k : false ≡ true = sym b.same ∙ w in cc;
  utf8 = b.utf8;
}

-- A status that isn't of a refusal.
abbrev pub Final : ℕ → Type 0
Final status = (status ≡ 0) ⊎ (20 ≤ status)

no-refusal : {N : Type 0} (read : List ℕ → Option N) (text : List ℕ) (status : ℕ) → RefusesText read text status → 20 ≤ status → status ≢ 20 → ⊥
no-refusal read text status r most other = elim r.others [
  | inl few ↦ omega (arith, few, most)
  | inr is ↦ other is
]

module _ (options : ℕ) (text : List ℕ) (asks : AsksDialects options) where
  -- There is no room, or no text.
  pub unanswered : (status : ℕ) → (status ≡ 22) ⊎ ((status ≡ 20) × (IsUtf8 text → ⊥)) → HasNoAnswer options text status
  unanswered status why = record {
    no_dialects = λ n. absurd (n asks);
    dialects = λ e _. elim why [ inl is ↦ omega (arith, is, e) | inr is ↦ omega (arith, is.0, e) ];
    not_utf8 = λ e u. elim why [ inl is ↦ omega (arith, is, e) | inr is ↦ is.1 u ];
  }

  -- Canonical text.
  module _ (r : AsRead) (status : ℕ) (out out' : List ℕ) (needed needed' end end' : ℕ) (of : AnswersCanonicalOf options r status out out' needed needed' end end') where
    abbrev a : AnswersCanonical (options % 512) r.text.now status out out' needed needed' 0 of.at
    a = of.answers

    canonical-none : (IsUtf8 text → IsUtf8 r.text.now) → HasNoAnswer options text status
    canonical-none utf8 = record {
      no_dialects = λ n. absurd (n asks);
      dialects = λ e _. no-refusal (read_plainly options) r.text.now status (a.others (omega (arith, e)) (λ k. omega (arith, e, k)) (λ k. omega (arith, e, k)) (λ k. omega (arith, e, k))) (omega (arith, e)) (λ k. omega (arith, e, k));
      not_utf8 = λ e u. (a.others (omega (arith, e)) (λ k. omega (arith, e, k)) (λ k. omega (arith, e, k)) (λ k. omega (arith, e, k))).not_utf8 e (utf8 u);
    }

    canonical-front : Final status → IsAnswer status → HasFront (read_plainly options) r.text.now
    canonical-front final is = elim (cases_eq status 0) [
      | inl e ↦ let w = a.written e in (w.1.1.value, of.at, w.1.1.front)
      | inr n0 ↦ elim (cases_eq status 21) [
        | inl e ↦ let w = a.small e in (w.1.1.value, of.at, w.1.1.front)
        | inr n21 ↦ elim (cases_eq status 30) [
          | inl e ↦ let w = a.more e in (w.value, of.at, w.front)
          | inr n30 ↦ absurd (elim final [
            | inl z ↦ n0 z
            | inr most ↦ no-refusal (read_plainly options) r.text.now status (a.others (omega (arith, most)) n21 is.1 n30) most is.0
          ])
        ]
      ]
    ]

    canonical-in : HasNoAnswer options text status → (IsAnswer status → IsAsRead options text r) → AnswersCanonicalIn options text status out out' needed needed' end end'
    canonical-in none is = record {
      none = none;
      answers = λ k. (r, is k, of);
      kept = a.kept;
      needed_kept = a.needed_kept;
      end_kept = of.end_kept;
    }

    pub canonical-plain : IsBehind options text r → Final status → AnswersCanonicalIn options text status out out' needed needed' end end'
    canonical-plain b final = canonical-in (canonical-none b.utf8) (λ k. begins options text r b (canonical-front final k))

    pub canonical-read : IsAsRead options text r → AnswersCanonicalIn options text status out out' needed needed' end end'
    canonical-read is = canonical-in (canonical-none is.utf8) (λ _. is)

  not-said : (status : ℕ) → 1 ≤ status → status < 20 → SaysEnd status → ⊥
  not-said status some few (inl e) = omega (arith, e, some)
  not-said status some few (inr (inl e)) = omega (arith, e, few)
  not-said status some few (inr (inr e)) = omega (arith, e, few)

  -- A refusal leaves everything.
  pub canonical-after : (r : AsRead) (status : ℕ) (out mid : List ℕ) (needed n end e : ℕ) → AnswersCanonicalOf options r status out mid needed n end e → 1 ≤ status → status < 20
      → (P : List ℕ → ℕ → ℕ → Type 0) → P mid n e → P out needed end
  canonical-after r status out mid needed n end e of some few P p =
      subst (λ o. P o needed end) (of.answers.kept some)
      (subst (λ k. P mid k end) (of.answers.needed_kept some (λ k. omega (arith, k, few)))
      (subst (λ k. P mid n k) (of.end_kept (not-said status some few)) p))

  pub canonical-none-read : (status : ℕ) (out : List ℕ) (needed end : ℕ) → (status ≡ 22) ⊎ ((status ≡ 20) × (IsUtf8 text → ⊥)) → AnswersCanonicalIn options text status out out needed needed end end
  canonical-none-read status out needed end why = record {
    none = unanswered status why;
    answers = λ k. absurd (elim why [ inl is ↦ k.1 is | inr is ↦ k.0 is.0 ]);
    kept = λ _. refl;
    needed_kept = λ _ _. refl;
    end_kept = λ _. refl;
  }

  -- Arrays.
  module _ (r : AsRead) (status : ℕ) (sizes sizes' : WktSizes) (numbers numbers' : List ℤ) (rings rings' polygons polygons' : List ℕ) (of : AnswersArraysOf options r status sizes sizes' numbers numbers' rings rings' polygons polygons') where
    abbrev f : AnswersArrays (options % 512) r.text.now (64 < length r.text.now) status sizes of.of_other numbers numbers' rings rings' polygons polygons'
    f = of.answers

    -- What has no arrays is refused, or begins with a geometry.
    unflat : IsNotFlat (places_in (options % 512)) r.text.now status → (HasFront (read_plainly options) r.text.now × ((status ≡ 24) ⊎ (status ≡ 25))) ⊎ RefusesText (read_plainly options) r.text.now status
    unflat (inl h) = absurd (omega (arith, h.1, asks.2))
    unflat (inr (inl h)) = inl ((h.value, h.end, h.front), elim h.why [ inl e ↦ inl e.0 | inr e ↦ inr e.0 ])
    unflat (inr (inr h)) = inr h

    no-flat : status ≢ 24 → status ≢ 25 → IsNotFlat (places_in (options % 512)) r.text.now status → RefusesText (read_plainly options) r.text.now status
    no-flat n24 n25 h = elim (unflat h) [
      | inl k ↦ absurd (elim k.1 [ inl e ↦ n24 e | inr e ↦ n25 e ])
      | inr k ↦ k
    ]

    arrays-none : (IsUtf8 text → IsUtf8 r.text.now) → HasNoAnswer options text status
    arrays-none utf8 = record {
      no_dialects = λ n. absurd (n asks);
      dialects = λ e _. no-refusal (read_plainly options) r.text.now status (no-flat (λ k. omega (arith, e, k)) (λ k. omega (arith, e, k)) (f.others (omega (arith, e)) (λ k. omega (arith, e, k)) (λ k. omega (arith, e, k)) (λ k. omega (arith, e, k)))) (omega (arith, e)) (λ k. omega (arith, e, k));
      not_utf8 = λ e u. (no-flat (λ k. omega (arith, e, k)) (λ k. omega (arith, e, k)) (f.others (omega (arith, e)) (λ k. omega (arith, e, k)) (λ k. omega (arith, e, k)) (λ k. omega (arith, e, k)))).not_utf8 e (utf8 u);
    }

    arrays-front : Final status → IsAnswer status → HasFront (read_plainly options) r.text.now
    arrays-front final is = elim (cases_eq status 0) [
      | inl e ↦ let w = (f.filled e).reported.arrays in (w.value, of.of_other.end, w.front)
      | inr n0 ↦ elim (cases_eq status 21) [
        | inl e ↦ let w = (f.small e).reported.arrays in (w.value, of.of_other.end, w.front)
        | inr n21 ↦ elim (cases_eq status 30) [
          | inl e ↦ let w = (f.more e).reported.arrays in (w.value, of.of_other.end, w.front)
          | inr n30 ↦ elim final [
            | inl z ↦ absurd (n0 z)
            | inr most ↦ elim (unflat (f.others (omega (arith, most)) n21 is.1 n30)) [
              | inl k ↦ k.0
              | inr k ↦ absurd (no-refusal (read_plainly options) r.text.now status k most is.0)
            ]
          ]
        ]
      ]
    ]

    arrays-in : HasNoAnswer options text status → (IsAnswer status → IsAsRead options text r) → AnswersArraysIn options text status sizes sizes' numbers numbers' rings rings' polygons polygons'
    arrays-in none is = record { none = none; answers = λ k. (r, is k, of); kept = f.kept; sizes_kept = of.sizes_kept }

    pub arrays-plain : IsBehind options text r → Final status → AnswersArraysIn options text status sizes sizes' numbers numbers' rings rings' polygons polygons'
    arrays-plain b final = arrays-in (arrays-none b.utf8) (λ k. begins options text r b (arrays-front final k))

    pub arrays-read : IsAsRead options text r → AnswersArraysIn options text status sizes sizes' numbers numbers' rings rings' polygons polygons'
    arrays-read is = arrays-in (arrays-none is.utf8) (λ _. is)

    pub arrays-after : 1 ≤ status → status < 20 → (P : WktSizes → List ℤ → List ℕ → List ℕ → Type 0) → P sizes' numbers' rings' polygons' → P sizes numbers rings polygons
    arrays-after some few P p =
        let k = f.kept some in
        subst (λ l. P sizes numbers rings l) k.2
        (subst (λ l. P sizes numbers l polygons') k.1
        (subst (λ l. P sizes l rings' polygons') k.0
        (subst (λ s. P s numbers' rings' polygons') (of.sizes_kept (not-said status some few)) p)))

  pub arrays-none-read : (status : ℕ) (sizes : WktSizes) (numbers : List ℤ) (rings polygons : List ℕ) → (status ≡ 22) ⊎ ((status ≡ 20) × (IsUtf8 text → ⊥)) → AnswersArraysIn options text status sizes sizes numbers numbers rings rings polygons polygons
  arrays-none-read status sizes numbers rings polygons why = record {
    none = unanswered status why;
    answers = λ k. absurd (elim why [ inl is ↦ k.1 is | inr is ↦ k.0 is.0 ]);
    kept = λ _. (refl, refl, refl);
    sizes_kept = λ _. refl;
  }

-- Two texts are compared.
module _ (options : ℕ) (one other : List ℕ) (asks : AsksDialects options) where
  module _ (r q : AsRead) (status same same' end end' other_end other_end' : ℕ) (of : AnswersSameOf options r q status same same' end end' other_end other_end') where
    abbrev s : AnswersSame (options % 512) r.text.now q.text.now status same same' 0 of.at 0 of.other_at
    s = of.answers

    kinds : RefusesOne (read_plainly options) r.text.now q.text.now status → (status ≤ 14) ⊎ (status ≡ 20)
    kinds o = elim o.which [ inl t ↦ t.others | inr t ↦ t.0.others ]

    no-kind : RefusesOne (read_plainly options) r.text.now q.text.now status → 20 ≤ status → status ≢ 20 → ⊥
    no-kind o most n20 = elim (kinds o) [ inl few ↦ omega (arith, few, most) | inr e ↦ n20 e ]

    same-not-utf8 : (IsUtf8 one → IsUtf8 r.text.now) → (IsUtf8 other → IsUtf8 q.text.now) → status ≡ 20 → IsUtf8 one → IsUtf8 other → ⊥
    same-not-utf8 first second e u v = elim (s.others (omega (arith, e)) (λ k. omega (arith, e, k)) (λ k. omega (arith, e, k))).which [
      | inl t ↦ t.not_utf8 e (first u)
      | inr t ↦ t.0.not_utf8 e (second v)
    ]

    same-fronts : Final status → IsAnswer status → HasFront (read_plainly options) r.text.now × HasFront (read_plainly options) q.text.now
    same-fronts final is = elim (cases_eq status 0) [
      | inl e ↦ let w = (s.compared e).1 in ((w.first, of.at, w.front), (w.second, of.other_at, w.other_front))
      | inr n0 ↦ elim (cases_eq status 30) [
        | inl e ↦ let w = (s.more e).1 in ((w.first, of.at, w.front), (w.second, of.other_at, w.other_front))
        | inr n30 ↦ absurd (elim final [
          | inl z ↦ n0 z
          | inr most ↦ no-kind (s.others (omega (arith, most)) is.1 n30) most is.0
        ])
      ]
    ]

    same-in : (status ≡ 20 → IsUtf8 one → IsUtf8 other → ⊥) → (IsAnswer status → IsAsRead options one r × IsAsRead options other q) → AnswersSameIn options one other status same same' end end' other_end other_end'
    same-in not is = record {
      no_dialects = λ n. absurd (n asks);
      dialects = λ e _. no-kind (s.others (omega (arith, e)) (λ k. omega (arith, e, k)) (λ k. omega (arith, e, k))) (omega (arith, e)) (λ k. omega (arith, e, k));
      not_utf8 = not;
      answers = λ k. (r, q, (is k).0, (is k).1, of);
      kept = s.kept;
      ends_kept = of.ends_kept;
    }

    pub same-plain : IsBehind options one r → IsBehind options other q → Final status → AnswersSameIn options one other status same same' end end' other_end other_end'
    same-plain b c final = same-in (same-not-utf8 b.utf8 c.utf8) (λ k. (begins options one r b (same-fronts final k).0, begins options other q c (same-fronts final k).1))

    pub same-read : IsAsRead options one r → IsAsRead options other q → AnswersSameIn options one other status same same' end end' other_end other_end'
    same-read b c = same-in (same-not-utf8 b.utf8 c.utf8) (λ _. (b, c))

    pub same-after : 1 ≤ status → status < 20 → (P : ℕ → ℕ → ℕ → Type 0) → P same' end' other_end' → P same end other_end
    same-after some few P p =
        let k = of.ends_kept some (λ e. omega (arith, e, few)) in
        subst (λ n. P same end n) k.1 (subst (λ n. P same n other_end') k.0 (subst (λ n. P n end' other_end') (s.kept some) p))

  pub same-none-read : (status same end other_end : ℕ) → (status ≡ 22) ⊎ ((status ≡ 20) × (IsUtf8 one → IsUtf8 other → ⊥)) → AnswersSameIn options one other status same same end end other_end other_end
  same-none-read status same end other_end why = record {
    no_dialects = λ n. absurd (n asks);
    dialects = λ e _. elim why [ inl is ↦ omega (arith, is, e) | inr is ↦ omega (arith, is.0, e) ];
    not_utf8 = λ e u v. elim why [ inl is ↦ omega (arith, is, e) | inr is ↦ is.1 u v ];
    answers = λ k. absurd (elim why [ inl is ↦ k.1 is | inr is ↦ k.0 is.0 ]);
    kept = λ _. refl;
    ends_kept = λ _ _. (refl, refl);
  }

-- No such dialects or numbers are there.
pub canonical-unasked : (options : ℕ) (text out : List ℕ) (needed end : ℕ) → (AsksDialects options → ⊥) → AnswersCanonicalIn options text 23 out out needed needed end end
canonical-unasked options text out needed end n = record {
  none = record { no_dialects = λ _. refl; dialects = λ _ a. n a; not_utf8 = λ e. cc };
  answers = λ k. absurd (k.2 refl);
  kept = λ _. refl;
  needed_kept = λ _ _. refl;
  end_kept = λ _. refl;
}

pub arrays-unasked : (options : ℕ) (text : List ℕ) (sizes : WktSizes) (numbers : List ℤ) (rings polygons : List ℕ) → (AsksDialects options → ⊥) → AnswersArraysIn options text 23 sizes sizes numbers numbers rings rings polygons polygons
arrays-unasked options text sizes numbers rings polygons n = record {
  none = record { no_dialects = λ _. refl; dialects = λ _ a. n a; not_utf8 = λ e. cc };
  answers = λ k. absurd (k.2 refl);
  kept = λ _. (refl, refl, refl);
  sizes_kept = λ _. refl;
}

pub same-unasked : (options : ℕ) (one other : List ℕ) (same end other_end : ℕ) → (AsksDialects options → ⊥) → AnswersSameIn options one other 23 same same end end other_end other_end
same-unasked options one other same end other_end n = record {
  no_dialects = λ _. refl;
  dialects = λ _ a. n a;
  not_utf8 = λ e. cc;
  answers = λ k. absurd (k.2 refl);
  kept = λ _. refl;
  ends_kept = λ _ _. (refl, refl);
}

-- How a text is read as another.
places-twice : (n : ℕ) → n ≤ 36 → (places_in n ≡ n) × (asks_whole n ≡ false)
places-twice n few = let low : nat_lt n 256 ≡ true = lt-ltb n 256 (omega (arith, few)) in (ap (λ b. if b then n else n - 256) low, ap not low)

pub reads-other : (options : ℕ) (text : List ℕ) (b r : AsRead) (places : ℕ) (p : Problem) → AsksDialects options → places ≡ places_in (options % 512) → IsBehind options text b
    → IsProblem (read_at (places_in places)) (asks_whole places) b.text.now p
    → r.dialects ≡ b.dialects → r.from ≡ b.from → r.rest.now ≡ b.rest.now → r.written ≡ true
    → IsRestAs b.dialects b.rest.now r.text.now × (IsUtf8 b.rest.now → IsUtf8 r.text.now) → IsAsRead options text r
reads-other options text b r places p asks is h problem d from rest written held = record {
  rest = record {
    dialects = d ∙ h.rest.dialects;
    inside = subst (λ n. n ≤ length text) (sym from) h.rest.inside;
    rest = rest ∙ h.rest.rest ∙ ap (λ n. drop n text) (sym from);
    split_off = subst (IsRest (dialects_in options) text) (sym rest) h.rest.split_off;
  };
  same = λ w. let k : true ≡ false = sym written ∙ w in cc;
  other = λ _. (
    subst (HasNoFront (read_plainly options)) (h.text_is ∙ sym rest) (none p problem),
    subst (λ l. IsRestAs (dialects_in options) l r.text.now) (sym rest) (subst (λ e. IsRestAs e b.rest.now r.text.now) h.rest.dialects held.0),
  );
  utf8 = λ u. held.1 (subst IsUtf8 h.text_is (h.utf8 u));
}
  where
    two : (places_in places ≡ places) × (asks_whole places ≡ false)
    two = places-twice places (omega (arith, is, asks.2))

    none : (q : Problem) → IsProblem (read_at (places_in places)) (asks_whole places) b.text.now q → HasNoFront (read_plainly options) b.text.now
    none (Refused w) k = subst (λ n. HasNoFront (read_at n) b.text.now) (two.0 ∙ is) k.none
    none (Rest at) k = let bad : false ≡ true = sym two.1 ∙ k.0 in cc

-- What a call answers of the text that is read, with its ends in the texts as they were given.
module _ (options plain : ℕ) (is : plain ≡ options % 512) (r : AsRead) where
  pub canonical-of : (status : ℕ) (out out' : List ℕ) (needed needed' end end' at : ℕ) → AnswersCanonical plain r.text.now status out out' needed needed' 0 at
      → (SaysEnd status → EndsAt r at end') → ((SaysEnd status → ⊥) → end' ≡ end) → AnswersCanonicalOf options r status out out' needed needed' end end'
  canonical-of status out out' needed needed' end end' at a ends kept = record {
    at = at;
    answers = subst (λ n. AnswersCanonical n r.text.now status out out' needed needed' 0 at) is a;
    end_is = ends;
    end_kept = kept;
  }

  pub arrays-of : (status : ℕ) (sizes mid sizes' : WktSizes) (numbers numbers' : List ℤ) (rings rings' polygons polygons' : List ℕ)
      → AnswersArrays plain r.text.now (64 < length r.text.now) status sizes mid numbers numbers' rings rings' polygons polygons'
      → (SaysEnd status → EndsAt r mid.end sizes'.end × (sizes' ≡ record mid { end = sizes'.end })) → ((SaysEnd status → ⊥) → sizes' ≡ mid)
      → AnswersArraysOf options r status sizes sizes' numbers numbers' rings rings' polygons polygons'
  arrays-of status sizes mid sizes' numbers numbers' rings rings' polygons polygons' a ends kept = record {
    of_other = mid;
    answers = subst (λ n. AnswersArrays n r.text.now (64 < length r.text.now) status sizes mid numbers numbers' rings rings' polygons polygons') is a;
    end_is = ends;
    sizes_kept = λ n. kept n ∙ a.sizes_kept (positive status (λ e. n (inl e))) (λ e. n (inr (inl e))) (λ e. n (inr (inr e)));
  }
    where
      positive : (s : ℕ) → (s ≡ 0 → ⊥) → 1 ≤ s
      positive s n = elim (cases_eq s 0) [ inl e ↦ absurd (n e) | inr k ↦ omega (arith, k) ]

  pub same-of : (q : AsRead) (status same same' end end' other_end other_end' at other_at : ℕ) → AnswersSame plain r.text.now q.text.now status same same' 0 at 0 other_at
      → ((status ≡ 0) ⊎ (status ≡ 30) → EndsAt r at end' × EndsAt q other_at other_end') → (1 ≤ status → status ≢ 30 → (end' ≡ end) × (other_end' ≡ other_end))
      → AnswersSameOf options r q status same same' end end' other_end other_end'
  same-of q status same same' end end' other_end other_end' at other_at a ends kept = record {
    at = at;
    other_at = other_at;
    answers = subst (λ n. AnswersSame n r.text.now q.text.now status same same' 0 at 0 other_at) is a;
    ends = ends;
    ends_kept = kept;
  }

-- Where a geometry ends is in the text.
module _ (plain : ℕ) (text : List ℕ) where
  pub canonical-inside : (status : ℕ) (out out' : List ℕ) (needed needed' at at' : ℕ) → AnswersCanonical plain text status out out' needed needed' at at' → SaysEnd status → at' ≤ length text
  canonical-inside status out out' needed needed' at at' h (inl e) = let w = h.written e in front-inside (read_at (places_in plain)) text w.1.1.value at' w.1.1.front
  canonical-inside status out out' needed needed' at at' h (inr (inl e)) = let w = h.small e in front-inside (read_at (places_in plain)) text w.1.1.value at' w.1.1.front
  canonical-inside status out out' needed needed' at at' h (inr (inr e)) = let w = h.more e in front-inside (read_at (places_in plain)) text w.value at' w.front

  pub arrays-inside : (Full : Type 0) (status : ℕ) (sizes sizes' : WktSizes) (numbers numbers' : List ℤ) (rings rings' polygons polygons' : List ℕ)
      → AnswersArrays plain text Full status sizes sizes' numbers numbers' rings rings' polygons polygons' → SaysEnd status → sizes'.end ≤ length text
  arrays-inside Full status sizes sizes' numbers numbers' rings rings' polygons polygons' h (inl e) = let w = (h.filled e).reported.arrays in front-inside (read_at (places_in plain)) text w.value sizes'.end w.front
  arrays-inside Full status sizes sizes' numbers numbers' rings rings' polygons polygons' h (inr (inl e)) = let w = (h.small e).reported.arrays in front-inside (read_at (places_in plain)) text w.value sizes'.end w.front
  arrays-inside Full status sizes sizes' numbers numbers' rings rings' polygons polygons' h (inr (inr e)) = let w = (h.more e).reported.arrays in front-inside (read_at (places_in plain)) text w.value sizes'.end w.front

  module _ (other : List ℕ) (status same same' at at' other_at other_at' : ℕ) (a : AnswersSame plain text other status same same' at at' other_at other_at') where
    -- A comparison needs no room.
    pub never-small : status ≢ 21
    never-small e = elim (a.others (omega (arith, e)) (λ k. omega (arith, e, k)) (λ k. omega (arith, e, k))).which [
      | inl t ↦ no-refusal (read_at (places_in plain)) text status t (omega (arith, e)) (λ k. omega (arith, e, k))
      | inr t ↦ no-refusal (read_at (places_in plain)) other status t.0 (omega (arith, e)) (λ k. omega (arith, e, k))
    ]

    both : (answer : Bool) → Compares (read_at (places_in plain)) (print_at (places_in plain)) text other at' other_at' answer → (at' ≤ length text) × (other_at' ≤ length other)
    both answer c = (front-inside (read_at (places_in plain)) text c.first at' c.front, front-inside (read_at (places_in plain)) other c.second other_at' c.other_front)

    pub same-inside : SaysEnd status → (at' ≤ length text) × (other_at' ≤ length other)
    same-inside (inl e) = let w = a.compared e in both w.0 w.1
    same-inside (inr (inl e)) = absurd (never-small e)
    same-inside (inr (inr e)) = let w = a.more e in both w.0 w.1
