-- A number that a window shows stands in the text, also where the window goes on past the text's end.
use Rattle.std.proofs.Common.{◌≡◌, ◌≢◌, ℕ, ◌+◌, ◌<◌, ◌≤◌, List, [], ◌∷◌, length, get_or, Option, refl, sym, ap, ◌∙◌, subst, arith, zero, suc, ◌-◌, ◌++◌, take, drop, replicate, drop-cons}
use Rattle.std.proofs.lemmas.List.{take_rest, get_or-drop, take-append-drop, take-append-le, drop-append-le}
use Rattle.wkt_num.specs.Bytes.{Nul, Run, class_of, AllRun}
use Rattle.wkt_events.specs.Remaining.{NoNumber, IsNumberAt}
use Rattle.wkt_events.proofs.Runs.{kept-there, range-run}
use Rattle.wkt_num.specs.Number.{BeginsNumber, KeepsText, StopsRun, IsNumberText}

nul : class_of 0 ≡ Run → ⊥
unfolding class_of
nul e = let clash : Nul ≡ Run = e in cc

-- a run ends before a NUL
short : (bs zs : List ℕ) (end : ℕ) → AllRun (take end (bs ++ 0 ∷ zs)) → end ≤ length bs
short bs zs zero h = omega arith
short [] zs (suc end) h = absurd (nul h.0)
short (b ∷ bs) zs (suc end) h = omega (arith, short bs zs end h.1)

run-of : (bs : List ℕ) → IsNumberText bs → AllRun bs
run-of [] h = absurd h
run-of (b ∷ bs) h = h.1

stops-front : (bs zs : List ℕ) → StopsRun (bs ++ zs) → StopsRun bs
stops-front [] zs h = tt
stops-front (b ∷ bs) zs h = h

-- ---- NULs behind other bytes

abbrev zeros : ℕ → List ℕ
zeros k = replicate k 0

pub zero-at : (k n : ℕ) → get_or (zeros k) n 0 ≡ 0
zero-at zero n = refl
zero-at (suc k) zero = refl
zero-at (suc k) (suc n) = zero-at k n

first-behind : (ys ws : List ℕ) → get_or (ys ++ ws) (length ys) 0 ≡ get_or ws 0 0
first-behind [] ws = refl
first-behind (y ∷ ys) ws = first-behind ys ws

pub nul-behind : (n : ℕ) (ys ws : List ℕ) → ((i : ℕ) → get_or ws i 0 ≡ 0) → length ys ≡ n → get_or (ys ++ drop n ws) n 0 ≡ 0
nul-behind n ys ws zeros e = subst (λ (k : ℕ). get_or (ys ++ drop n ws) k 0 ≡ 0) e (first-behind ys (drop n ws) ∙ get_or-drop n ws 0 0 ∙ zeros (n + 0))

-- ---- what a window shows

module _ {T : Type 0} (read : List ℕ → Option T) where
  before-nul : (bs zs : List ℕ) (x : T) (end : ℕ) → BeginsNumber read (bs ++ 0 ∷ zs) x end → BeginsNumber read bs x end
  before-nul bs zs x end b =
      let within : end ≤ length bs = short bs zs end (run-of (take end (bs ++ 0 ∷ zs)) b.run) in
      let same : take end (bs ++ 0 ∷ zs) ≡ take end bs = take-append-le end bs (0 ∷ zs) within in
      record {
        within = within;
        run = subst IsNumberText same b.run;
        stops = stops-front (drop end bs) (0 ∷ zs) (subst StopsRun (drop-append-le end bs (0 ∷ zs) within) b.stops);
        reads = ap read (sym same) ∙ b.reads;
      }

  -- bytes with a NUL behind them
  pub padded-shows : (bs window : List ℕ) (x : T) (end : ℕ) → length bs < length window → take (length bs) window ≡ bs → get_or window (length bs) 0 ≡ 0 → BeginsNumber read window x end → BeginsNumber read bs x end
  padded-shows bs window x end less front is b =
      let n : ℕ = length bs in
      let whole : window ≡ bs ++ 0 ∷ drop (suc n) window =
      sym (take-append-drop n window)
      ∙ ap (λ l. l ++ drop n window) front
      ∙ ap (λ l. bs ++ l) (drop-cons window n 0 less)
      ∙ ap (λ c. bs ++ c ∷ drop (suc n) window) is in
      before-nul bs (drop (suc n) window) x end (subst (λ l. BeginsNumber read l x end) whole b)

  module _ (text : List ℕ) (at : ℕ) (within : at ≤ length text) where
    pub shown-there : (x : T) (count : ℕ) → BeginsNumber read (take (length text - at) (drop at text)) x count → IsNumberAt read text at (at + count) x
    shown-there x count c =
        let b : BeginsNumber read (drop at text) x count = subst (λ l. BeginsNumber read l x count) (take_rest text at) c in
        kept-there read (λ (y : T). []) text at count 0 (at + count) within refl
        (record {
          number = x;
          within = b.within;
          shorter = omega arith;
          run = b.run;
          stops = b.stops;
          reads = b.reads;
          text = refl;
        })

-- A number that keeps its text in a window begins there.
pub keeps_begins : {T : Type 0} (read : List ℕ → Option T) (num : T → List ℕ) (bs : List ℕ) (end kept : ℕ) (k : KeepsText read num bs end kept) → BeginsNumber read bs k.number end
keeps_begins read num bs end kept k = record {
  within = k.within;
  run = k.run;
  stops = k.stops;
  reads = k.reads;
}

pub ruleset nul_behind = nul-behind

-- No number stands where no run does.
pub none-unrun : {T : Type 0} (read : List ℕ → Option T) (text : List ℕ) (at b : ℕ) → at ≤ length text → b ≡ get_or text at 0 → class_of b ≢ Run → NoNumber read text at
none-unrun read text at b inside byte stops = record {
  end = at;
  ends = record {
    order = omega arith;
    inside = inside;
    run = range-run text at at (omega arith) inside (λ k from to. absurd (omega (arith, from, to)));
    stops = subst (λ b. class_of b ≢ Run) byte stops;
  };
  none = λ less. absurd (omega (arith, less));
}
