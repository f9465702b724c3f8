-- What is known of bytes as a source of lexemes, and of tokens as one.
use Rattle.std.proofs.Common.{subst}
use Rattle.std.specs.Prelude.{ℕ, List, Option, Some, None, ◌≡◌, ◌≢◌, ◌≤◌, length, Bool, true, false}
use Rattle.std.specs.Bool.{OnTrue, OnFalse}
use Rattle.std.specs.Borrow.{MutBor}
use Rattle.wkt_access.specs.declared.dimensions.Dimension.TheVariants as dim
use Rattle.wkt_num.specs.Bytes.{Lexeme}
use Rattle.wkt_read.specs.Spanned.{Standing}
use Rattle.wkt_machine.specs.declared.machine.LexemeKind.{LexemeKind}
use Rattle.wkt_machine.specs.declared.machine.LexemeKind.TheVariants as seen
use Rattle.wkt_events.specs.Remaining.{Legible, remaining_spanned, TakesOne}
use Rattle.wkt_sources.specs.declared.bytes.ByteCursor.{ByteCursor}
use Rattle.wkt_machine.specs.declared.machine.State.TheVariants as next
use Rattle.wkt_machine.specs.declared.part.Axis.TheVariants as axis
use Rattle.wkt_machine.specs.declared.part.Part.{Part}
use Rattle.wkt_machine.specs.declared.part.Part.TheVariants as part
use Rattle.wkt_sources.specs.declared.tokens.TokenSource.{TokenSource}
use Rattle.wkt_machine.specs.Makers.{Maker}
use Rattle.wkt_machine.specs.Room.{HasRoom}
use Rattle.wkt_machine.specs.declared.machine.Machine.{Machine}
use Rattle.wkt_machine.specs.View.{View, IsBetween, IsDark, between_none, seen_of, sight}
use Rattle.wkt_read.specs.Stream as ahead

-- What is known of bytes as a source.

-- The lexeme that comes next is seen so, and it ends there, unless it is a number.
pub record Sees (feed : Bool) (text : List ℕ) (at : ℕ) (k : LexemeKind) (end : ℕ) : Type 0 where
  pub sees : k ≡ sight (remaining_spanned feed text at)
  pub takes : k ≢ seen.Other → k ≢ seen.Number → (l : Lexeme) × TakesOne feed text at l end

-- A lexeme that is no number ends where it was seen to end. A number stands right there.
pub record IsLooked (feed : Bool) (text : List ℕ) (at end : ℕ) : Type 0 where
  pub takes : sight (remaining_spanned feed text at) ≢ seen.Other → sight (remaining_spanned feed text at) ≢ seen.Number → (l : Lexeme) × TakesOne feed text at l end
  pub inside : sight (remaining_spanned feed text at) ≡ seen.Number → at ≤ length text
  pub dark : sight (remaining_spanned feed text at) ≡ seen.Number → IsDark feed text at

-- It stays the same text. A number that is left is a text where the text's line is.
abbrev pub bytes_view : {N : Type 0} {n : ℕ} → Bool → View N (ByteCursor n)
bytes_view feed = record {
  remaining = λ s. remaining_spanned feed s.text.now s.at;
  place = λ s end. s.at ≡ end;
  behind = λ s end. IsBetween feed s.text.now end s.at;
  here = λ s end e. subst (λ end. IsBetween feed s.text.now end s.at) e (between_none feed s.text.now s.at);
  Known = List ℕ;
  keeps = λ s text. (s.text.now ≡ text) × Legible feed s.text.now s.at;
  by_value = ⊥;
  number = λ run. None;
  looked = λ s. IsLooked feed s.text.now s.at s.end;
}

-- whether coordinates stand in the parentheses of a part
abbrev pub has_coordinates : Part → Bool
has_coordinates part.Point = true
has_coordinates part.LineString = true
has_coordinates part.Member = true
has_coordinates part.Ring = true
has_coordinates part.Line = true
has_coordinates part.AreaRing = true
has_coordinates p = false

-- A coordinate of a part that has some may come next, in the text, with room for what is left.
pub record MayRead {N B : Type 0} {n : ℕ} (feed : Bool) (maker : Maker N B) (m : Machine) (s : ByteCursor n) (b : B) : Type 0 where
  pub part : has_coordinates m.part ≡ true
  pub inside : s.at ≤ length s.text.now
  pub room : HasRoom (bytes_view feed) maker 0 s b

-- It comes next, and has two numbers where `is_flat` is true, more where it isn't.
pub record MayBegin {N B : Type 0} {n : ℕ} (is_flat feed : Bool) (maker : Maker N B) (m : Machine) (s : ByteCursor n) (b : B) : Type 0 where
  pub state : m.state ≡ next.Number axis.X
  pub flat : OnTrue is_flat (m.dim ≡ dim.XY)
  pub more : OnFalse is_flat (m.dim ≢ dim.XY)
  pub may : MayRead feed maker m s b

-- What is known of tokens as a source.

-- a lexeme of the tokenizer, as the machine sees it, or the end of the text
abbrev pub seen_found : Option Lexeme → LexemeKind
seen_found None = seen.Other
seen_found (Some l) = seen_of l

-- the tokens that are lent
abbrev pub tokens_of : {T : Type 0} → TokenSource T → MutBor Standing
tokens_of s = s.tokens

-- No byte is passed that isn't a part of a lexeme that was taken, but for one.
abbrev pub tokens_view : {T : Type 0} → (List ℕ → Option T) → View T (TokenSource T)
tokens_view read = record {
  remaining = λ s. ahead.remaining s.tokens.now;
  place = λ s end. (ahead.end_of s.tokens.now ≡ end) × ahead.IsNear s.tokens.now;
  behind = λ s end. ahead.end_of s.tokens.now ≡ end;
  here = λ s end h. h.0;
  Known = ℕ;
  keeps = λ s n. n ≤ ahead.taken_of s.tokens.now;
  by_value = Unit {0};
  number = read;
  looked = λ s. Unit {0};
}
