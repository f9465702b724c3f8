-- The lexeme that is taken is the first of those to come, by its class.
use Rattle.std.proofs.Common.{◌≡◌, ◌-◌, ◌<◌, ap, ◌∙◌, arith, refl, drop, slice_range, Some}
use Rattle.wkt_read.specs.Lexemes.{lexeme_of}
use Rattle.wkt_read.specs.Spanned.{spanned_from}
use Rattle.wkt_read.specs.Peeks.{found}
use Rattle.wkt_read.proofs.Placings.{run-found, gives-run, gives-open, gives-close, gives-comma, found-nul}
use Rattle.wkt_read.proofs.tokenizer.tokens.Tokens.next_lexeme.Goals as goal
use Rattle.wkt_read.proofs.tokenizer.tokens.Tokens.next_lexeme.Goals.{in-Open, in-Close, in-Comma}

pub returns-in-Run : goal.returns-in-Run
returns-in-Run g c =
    let r = c.end_of_run-end.ensures in
    let s = c.first_class-class.ensures in
    let lexeme : found c.lexeme_of.result ≡ Some (lexeme_of (slice_range c.end_of_run-end.new.bytes.text.now (c.taken-from.result - 1) c.end_of_run-end.result.0)) = c.lexeme_of.ensures ∙ ap (λ l. Some (lexeme_of l)) c.part.ensures in
    let f = run-found _ _ _ _ c.in-Run.is s.found in
    let e : f.0 ≡ c.taken-from.result - 1 = omega (arith, f.1, c.taken-from.ensures) in
    let order : c.taken-from.result - 1 < c.end_of_run-end.result.0 = omega (arith, f.1, c.taken-from.ensures, r.on) in
    rw (← c.self.view_is, lexeme) (
      gives-run _ _ _ _ _ _ _ _ (f.2 ∙ ap (λ n. spanned_from n (drop n c.first_class-class.new.bytes.text.now)) e) (ap (λ t. t.now) r.text) order r.ends refl,
      r.ends.taken,
      r.ends.near,
      omega (arith, r.grows, s.grows),
    )

pub returns-in-Nul : goal.returns-in-Nul
returns-in-Nul g c = rw (← c.self.view_is) (let f = c.first_class-class.ensures in (found-nul _ _ _ _ c.in-Nul.is f.stops f.found, refl, refl, f.grows))

pub returns : goal.returns
returns g c =
    let f = c.first_class-class.ensures in
    let e = c.taken-self-inside.ensures in
    rw (← c.self.view_is) (elim c.match-class.branch [
      | in-Open w ↦ rw w.mark-is (gives-open _ _ _ _ _ w.in-Open.is e f.found, omega arith, omega arith, f.grows)
      | in-Close w ↦ rw w.mark-is (gives-close _ _ _ _ _ w.in-Close.is e f.found, omega arith, omega arith, f.grows)
      | in-Comma w ↦ rw w.mark-is (gives-comma _ _ _ _ _ w.in-Comma.is e f.found, omega arith, omega arith, f.grows)
    ])
