-- Tokens as a source.
use Rattle.std.proofs.Common.{◌≡◌, ◌≢◌, ℕ, List, [], ◌∷◌, arith, sym, refl, ap, ◌∙◌, subst, Option, Some, None}
use Rattle.wkt_num.specs.Bytes.{Lexeme}
use Rattle.wkt_read.specs.Stream.{remaining, end_of, first_of, Moves, Looks, StaysUnread, TakesNumber}
use Rattle.wkt_read.specs.Spanned.{Spanned}
use Rattle.wkt_machine.specs.Events.{Event}
use Rattle.wkt_machine.specs.Goes.{Stays, Skips, MakesOneNumber, IsUnread}
use Rattle.wkt_machine.specs.Makers.{Maker}
use Rattle.wkt_machine.specs.View.{sight}
use Rattle.wkt_sources.specs.Views.{seen_found, tokens_view}
use Rattle.wkt_machine.specs.declared.machine.Machine.{Machine}
use Rattle.wkt_machine.specs.declared.part.Axis.{Axis}
use Rattle.wkt_sources.specs.declared.tokens.TokenSource.{TokenSource}
use Rattle.wkt_machine.specs.declared.machine.LexemeKind.TheVariants as seen
use Rattle.wkt_machine.specs.declared.machine.State.TheVariants as next
use Rattle.wkt_access.specs.declared.dimensions.Dimension.{Dimension}
use Rattle.wkt_machine.specs.declared.part.Part.{Part}
use Rattle.wkt_access.specs.declared.dimensions.Dimension.TheVariants.{XY}

-- What the tokenizer's clauses say of tokens as a source.

-- what comes first is what is seen
pub sees_first : (ps : List Spanned) → seen_found (first_of ps) ≡ sight ps
sees_first [] = refl
sees_first (p ∷ ps) = refl

module _ {T : Type 0} (read : List ℕ → Option T) where
  -- nothing is taken
  pub looks : (s t : TokenSource T) → Looks s.tokens.now t.tokens.now → Stays (tokens_view read) s t
  looks s t h = record { remaining = h.remaining; behind = λ end e. h.end ∙ e; keeps = λ j k. let more = h.grows in omega (arith, k, more) }

  -- the source stands right behind a lexeme that is taken
  pub stands : (s t : TokenSource T) (l : Lexeme) → Moves s.tokens.now (Some l) t.tokens.now → (tokens_view read).place t (end_of t.tokens.now)
  stands s t l h = (refl, record { low = h.1; high = h.2 })

  pub passed : (s t : TokenSource T) (l : Lexeme) → Moves s.tokens.now (Some l) t.tokens.now → (n : ℕ) → (tokens_view read).keeps s n → (tokens_view read).keeps t n
  passed s t l h = λ j k. let more = h.3 in omega (arith, k, more)

  -- a lexeme is taken
  pub takes : (s t : TokenSource T) (l : Lexeme) → Moves s.tokens.now (Some l) t.tokens.now → Skips (tokens_view read) s t
  takes s t l h = record {
    lexeme = record { lexeme = l; end = end_of t.tokens.now };
    remaining = h.0;
    place = (refl, record { low = h.1; high = h.2 });
    keeps = λ j k. let more = h.3 in omega (arith, k, more);
  }

  pub skips : (s t : TokenSource T) (o : Option Lexeme) → Moves s.tokens.now o t.tokens.now → sight (remaining s.tokens.now) ≢ seen.Other → Skips (tokens_view read) s t
  skips s t None h some = absurd (some (ap sight h.0))
  skips s t (Some l) h some = takes s t l h

  -- a number is taken, and made, which is read so
  pub numbers : {B : Type 0} (maker : Maker T B) (s t : TokenSource T) (b c : B) (axis : Axis) (x : T) (reads : List ℕ → Option T) → reads ≡ read → TakesNumber read s.tokens.now x t.tokens.now → maker.makes b (Event.Number axis x ∷ []) c → MakesOneNumber reads (tokens_view read) maker s b axis t c
  numbers maker s t b c axis x reads same h made = record {
    run = h.run;
    number = x;
    end = end_of t.tokens.now;
    remaining = h.moves.0;
    place = (refl, record { low = h.moves.1; high = h.moves.2 });
    keeps = λ j k. let more = h.moves.3 in omega (arith, k, more);
    reads = subst (λ r. r h.run ≡ Some x) (sym same) h.reads;
    makes = made;
  }

  -- what stays is no number that is read
  pub unread : (s t : TokenSource T) (reads : List ℕ → Option T) → reads ≡ read → StaysUnread read s.tokens.now t.tokens.now → IsUnread reads (remaining s.tokens.now)
  unread s t reads same h = subst (λ r. IsUnread r (remaining s.tokens.now)) (sym same) (λ run end more is. h.unread run (ap first_of is))

-- the same machine behind a kind word
abbrev pub alone : Machine → Part → Machine
alone m p = record { state = next.Dimension; part = p; dim = XY; depth = m.depth }

abbrev pub opening : Machine → Part → Dimension → Machine
opening m p d = record { state = next.Opening; part = p; dim = d; depth = m.depth }
