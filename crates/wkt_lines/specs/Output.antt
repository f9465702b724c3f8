-- The output of a program that answers line by line. Numbers are read by `read` and printed by `num`; those of the program
-- are decimals of eighteen places.
use Rattle.std.specs.Prelude.{◌≡◌, ℕ, List, ◌⊎◌, Option, codes, IsUtf8, Result, Ok, Err, ℤ}
use Rattle.wkt_access.specs.Values.{Value}
use Rattle.wkt_access.specs.Shapes.{shape_of}
use Rattle.wkt_access.specs.Texts.{shape_text}
use Rattle.wkt_read.specs.Front.{Front, HasNoFront}
use Rattle.wkt_lines.specs.Lines.{input_lines}
use Rattle.wkt_lines.specs.Replies.{AreReplies}
use Rattle.wkt_lines.specs.declared.lines.RunError.{RunError}
use Rattle.wkt_lines.specs.declared.lines.RunError.TheVariants as run
use Rattle.wkt_num.specs.Decimal.{read_decimal, decimal_text}

-- The output of a program that answers line by line. Numbers are read by `read` and printed by `num`.

module _ {N : Type 0} (read : List ℕ → Option N) (num : N → List ℕ) where
  -- The line is UTF-8 and has a front, and the answer is the text of the front's value.
  pub record IsText (line answer : List ℕ) : Type 0 where
    pub utf8 : IsUtf8 line
    pub value : Value N
    pub end : ℕ
    pub front : Front read line value end
    pub text : answer ≡ shape_text num (shape_of value)

  -- The line isn't UTF-8 or has no front, and the answer is `refused`.
  pub record IsRefusedLine (line answer : List ℕ) : Type 0 where
    pub cause : (IsUtf8 line → ⊥) ⊎ HasNoFront read line
    pub refused : answer ≡ codes "refused"

  -- What a line is answered with.
  abbrev pub IsAnswer : List ℕ → List ℕ → Type 0
  IsAnswer line answer = IsText line answer ⊎ IsRefusedLine line answer

  -- Each line's answer, followed by a line feed.
  abbrev pub AreAnswers : List (List ℕ) → List ℕ → Type 0
  AreAnswers = AreReplies IsAnswer

  -- The answers to all lines of the input.
  abbrev pub IsOutput : List ℕ → List ℕ → Type 0
  IsOutput input out = AreAnswers (input_lines input) out

-- The fact is claimed where the reader failed.
abbrev pub OnRunRead : {A : Type 0} → Result A RunError → Type 0 → Type 0
OnRunRead (Ok x) P = Unit {0}
OnRunRead (Err (run.Read e)) P = P
OnRunRead (Err (run.Write e)) P = Unit {0}
OnRunRead (Err (run.Memory e)) P = Unit {0}

-- The fact is claimed where the writer failed.
abbrev pub OnRunWrite : {A : Type 0} → Result A RunError → Type 0 → Type 0
OnRunWrite (Ok x) P = Unit {0}
OnRunWrite (Err (run.Read e)) P = Unit {0}
OnRunWrite (Err (run.Write e)) P = P
OnRunWrite (Err (run.Memory e)) P = Unit {0}

-- The fact is claimed where the call was out of memory.
abbrev pub OnRunMemory : {A : Type 0} → Result A RunError → Type 0 → Type 0
OnRunMemory (Ok x) P = Unit {0}
OnRunMemory (Err (run.Read e)) P = Unit {0}
OnRunMemory (Err (run.Write e)) P = Unit {0}
OnRunMemory (Err (run.Memory e)) P = P

-- The fact is claimed unless the reader failed.
abbrev pub UnlessRunRead : {A : Type 0} → Result A RunError → Type 0 → Type 0
UnlessRunRead (Ok x) P = P
UnlessRunRead (Err (run.Read e)) P = Unit {0}
UnlessRunRead (Err (run.Write e)) P = P
UnlessRunRead (Err (run.Memory e)) P = P

-- The fact is claimed unless the writer failed.
abbrev pub UnlessRunWrite : {A : Type 0} → Result A RunError → Type 0 → Type 0
UnlessRunWrite (Ok x) P = P
UnlessRunWrite (Err (run.Read e)) P = P
UnlessRunWrite (Err (run.Write e)) P = Unit {0}
UnlessRunWrite (Err (run.Memory e)) P = P

-- The numbers of the program: decimals of eighteen places.

-- What a number of a line is read as.
abbrev pub read_line : List ℕ → Option ℤ
read_line = read_decimal 127 36 18

-- What a number of an answer is printed as.
abbrev pub print_line : ℤ → List ℕ
print_line = decimal_text 18
