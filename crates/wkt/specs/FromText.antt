-- What a text, the bytes of a source, a whole text and a JSON value are answered with: the flat value of the geometry, or the error by name.
use Rattle.std.specs.Prelude.{◌≡◌, ℕ, List, Option, Result, Ok, Err, Bool, IsUtf8, drop, [], Some, None, codes}
use Rattle.serde_json.specs.Find.{as_str}
use Rattle.serde_json.specs.View.{view}
use Rattle.serde_json.specs.declared.value.Value.{Value}
use Rattle.wkt_types.specs.Tree.{Tree}
use Rattle.wkt_types.specs.Outcome.{Outcome, value, refused, empty_point, mismatched}
use Rattle.wkt_types.specs.declared.convert.ConvertError.{ConvertError}
use Rattle.wkt_types.specs.declared.convert.ConvertError.TheVariants.{PointConversionError, MismatchedGeometry, InvalidWKT, Reader, Utf8, Memory}
use Rattle.wkt_read.specs.Front.{HasNoFront}
use Rattle.wkt_read.specs.Answered.{IsFront, HasBadNumber, IsFrontTo}
use Rattle.wkt_read.specs.Items.{bad_number}
use Rattle.wkt_read.specs.Refusal.{IsTextRefused}
use Rattle.wkt_convert.specs.Kinds.{FlatKind, only_flat}
use Rattle.wkt_num.specs.Bytes.{AllWhite}
use Rattle.wkt_read.specs.declared.error.ReadError.{ReadError}
use Rattle.wkt.specs.declared.whole.WholeError.{WholeError}
use Rattle.wkt.specs.declared.whole.WholeError.TheVariants.{Read, Rest}
use Rattle.wkt_flat.specs.Tree.{Flat}
use Rattle.wkt_flat.specs.declared.point.Point.{Point}
use Rattle.wkt.specs.declared.json.ValueError.{ValueError}
use Rattle.wkt.specs.declared.json.ValueError.TheVariants.{NotAString, Fault}

-- What a text, and the bytes of a source, are answered with: the flat value of the front's geometry, or the error by name.

-- What an error comes from.
pub data Cause : Type 0 where
  -- the source failed
  source : Cause
  -- memory was lacking
  memory : Cause
  -- the bytes are no text
  not_utf8 : Cause
  -- the text
  in_text : Cause

-- What a conversion's error comes from.
abbrev pub cause_of : ConvertError → Cause
cause_of (Reader e) = source
cause_of (Memory e) = memory
cause_of Utf8 = not_utf8
cause_of _ = in_text

-- What an error of this cause says of the bytes of a source, where `text` is what it says of them as a text.
abbrev pub SaysCause : Cause → List ℕ → Type 0 → Type 0
SaysCause source bytes text = Unit {0}
SaysCause memory bytes text = Unit {0}
SaysCause not_utf8 bytes text = IsUtf8 bytes → ⊥
SaysCause in_text bytes text = IsUtf8 bytes × text

-- All bytes of a source are answered: those that aren't UTF-8 are refused so, and any others are answered as a text. Nothing is said of them if the source fails, or out of memory.
abbrev pub BytesAnswer : {R E : Type 0} → (E → Cause) → (List ℕ → Result R E → Type 0) → List ℕ → Result R E → Type 0
BytesAnswer cause answers bytes (Ok r) = IsUtf8 bytes × answers bytes (Ok r)
BytesAnswer cause answers bytes (Err e) = SaysCause (cause e) bytes (answers bytes (Err e))

-- The fact is claimed of an error of this cause that comes after all bytes were read.
abbrev pub WhenAllRead : Cause → Type 0 → Type 0
WhenAllRead source P = Unit {0}
WhenAllRead memory P = Unit {0}
WhenAllRead not_utf8 P = P
WhenAllRead in_text P = P

-- The fact is claimed where the source failed.
abbrev pub WhenSource : Cause → Type 0 → Type 0
WhenSource source P = P
WhenSource memory P = Unit {0}
WhenSource not_utf8 P = Unit {0}
WhenSource in_text P = Unit {0}

-- The fact is claimed unless the source failed.
abbrev pub UnlessSource : Cause → Type 0 → Type 0
UnlessSource source P = Unit {0}
UnlessSource memory P = P
UnlessSource not_utf8 P = P
UnlessSource in_text P = P

-- The fact is claimed of each answer that comes after all bytes were read.
abbrev pub OnAllRead : {R E : Type 0} → (E → Cause) → Result R E → Type 0 → Type 0
OnAllRead cause (Ok r) P = P
OnAllRead cause (Err e) P = WhenAllRead (cause e) P

-- The fact is claimed where the source failed.
abbrev pub OnSource : {R E : Type 0} → (E → Cause) → Result R E → Type 0 → Type 0
OnSource cause (Ok r) P = Unit {0}
OnSource cause (Err e) P = WhenSource (cause e) P

-- The fact is claimed unless the source failed.
abbrev pub UnlessFailed : {R E : Type 0} → (E → Cause) → Result R E → Type 0 → Type 0
UnlessFailed cause (Ok r) P = P
UnlessFailed cause (Err e) P = UnlessSource (cause e) P

module _ {T : Type 0} (read : List ℕ → Option T) where
  -- The text has a front, and the geometry of it has this outcome.
  abbrev pub FrontGives : {X : Type 0} → (Tree T → Outcome X) → List ℕ → Outcome X → Type 0
  FrontGives turn text o = (t : Tree T) × IsFront read text t × (turn t ≡ o)

  -- The text has no front, and is refused with this message; that on a bad number comes only where the number type refuses some number of it.
  abbrev pub IsNoText : List ℕ → List ℕ → Type 0
  IsNoText text message = HasNoFront read text × IsTextRefused read text message × (message ≡ bad_number → HasBadNumber read text)

  -- A text without a front is refused, and any other has the outcome of its front, out of memory aside; `see` is what the answer holds.
  abbrev pub TextAnswers : {X R : Type 0} → (R → X) → (Tree T → Outcome X) → List ℕ → Result R ConvertError → Type 0
  TextAnswers see turn text (Ok r) = FrontGives turn text (value (see r))
  TextAnswers see turn text (Err PointConversionError) = FrontGives turn text (refused empty_point)
  TextAnswers see turn text (Err (MismatchedGeometry e f)) = FrontGives turn text (refused (mismatched e.now f.now))
  TextAnswers see turn text (Err (InvalidWKT m)) = IsNoText text m.now
  TextAnswers see turn text (Err (Memory e)) = Unit {0}
  TextAnswers see turn text (Err _) = ⊥

  -- A text is answered as one kind of flat value: with its content, or refused by name.
  abbrev pub AnswersKind : {X : Type 0} → (T → T → Bool) → FlatKind T X → List ℕ → Result X ConvertError → Type 0
  AnswersKind eq kind text r = TextAnswers (λ x. x) (only_flat kind eq) text r

  -- Bytes are answered so.
  abbrev pub BytesAnswerKind : {X : Type 0} → (T → T → Bool) → FlatKind T X → List ℕ → Result X ConvertError → Type 0
  BytesAnswerKind eq kind bytes r = BytesAnswer cause_of (AnswersKind eq kind) bytes r

  -- Why a text isn't read.
  abbrev pub IsTextUnread : List ℕ → ConvertError → Type 0
  IsTextUnread text (InvalidWKT m) = IsNoText text m.now
  IsTextUnread text (Memory e) = Unit {0}
  IsTextUnread text _ = ⊥

-- Why the bytes of a source are no text.
abbrev pub AreNoText : List ℕ → ConvertError → Type 0
AreNoText bytes (Reader e) = Unit {0}
AreNoText bytes Utf8 = IsUtf8 bytes → ⊥
AreNoText bytes (Memory e) = Unit {0}
AreNoText bytes _ = ⊥

-- What a text is answered with that has to be one geometry as a whole.

module _ {T : Type 0} (read : List ℕ → Option T) where
  -- The text has a front with nothing but white space after it, and the tree is what the front's value is read as.
  abbrev pub IsWhole : List ℕ → Tree T → Type 0
  IsWhole text t = (end : ℕ) × IsFrontTo read text t end × AllWhite (drop end text)

  -- The text has a front that ends here, and more than white space after it.
  abbrev pub HasRest : List ℕ → ℕ → Type 0
  HasRest text end = (t : Tree T) × IsFrontTo read text t end × (AllWhite (drop end text) → ⊥)

-- This holds of the answer of reading, where reading failed.
abbrev pub OnUnread : {X : Type 0} → Result X WholeError → (Result X ReadError → Type 0) → Type 0
OnUnread (Ok x) P = Unit {0}
OnUnread (Err (Read e)) P = P (Err e)
OnUnread (Err (Rest at)) P = Unit {0}

-- This holds of the place where the rest begins, where the answer names one.
abbrev pub OnRest : {X : Type 0} → Result X WholeError → (ℕ → Type 0) → Type 0
OnRest (Ok x) P = Unit {0}
OnRest (Err (Read e)) P = Unit {0}
OnRest (Err (Rest at)) P = P at

-- What a JSON value is answered with: a string what its text is, and any other value that it is no string.

-- The text of a JSON value that is a string.
abbrev pub text_of : Value → Option (List ℕ)
text_of v = as_str (view v)

-- A string is answered by its text, of which and of the answer the fact holds; any other value is answered as no string.
abbrev pub AsText : {X E : Type 0} → Option (List ℕ) → Result X (ValueError E) → (List ℕ → Result X E → Type 0) → Type 0
AsText None (Ok x) P = ⊥
AsText None (Err NotAString) P = Unit {0}
AsText None (Err (Fault e)) P = ⊥
AsText (Some text) (Ok x) P = P text (Ok x)
AsText (Some text) (Err NotAString) P = ⊥
AsText (Some text) (Err (Fault e)) P = P text (Err e)

-- The point of a geometry that is one, and no point where it is a multipoint without members.
abbrev pub point_if_any : {T : Type 0} → Flat T → Option (Option (Point T))
point_if_any (Flat.point p) = Some (Some p)
point_if_any (Flat.multi_point []) = Some None
point_if_any _ = None

-- The point of a geometry, or none, as a kind that is asked for.
abbrev pub point_or_none_kind : {T : Type 0} → FlatKind T (Option (Point T))
point_or_none_kind = record { name = codes "Point"; content = point_if_any }
