-- A reader of lines, and what it has still to give.
use Rattle.std.specs.Prelude.{◌≡◌, ℕ, List, ◌∷◌, ◌++◌, Option, None, Some, take, drop, length, ⊤}
use Rattle.std.specs.Io.KnownBytes.{Consumes, IsAtEnd, prepend_known}
use Rattle.wkt_lines.specs.Lines.{input_lines}
use Rattle.wkt_lines.specs.Buffers.{unanswered}
use Rattle.wkt_lines.specs.declared.reading.Lines.{Lines}

module _ {R : Type 0} where
  -- The source that is read.
  abbrev pub source_of : Lines R → R
  source_of l = l.source

  -- The line that is lent.
  abbrev pub line_of : Lines R → List ℕ
  line_of l = drop l.start (take l.end (unanswered l.buffer))

  -- What was taken from the source and not given yet.
  abbrev pub unread : Lines R → List ℕ
  unread l = drop l.next (unanswered l.buffer)

  -- What is still to come, where the source reveals it: that, and then what is left in the source.
  abbrev pub to_come : (R → Option (List ℕ)) → Lines R → Option (List ℕ)
  to_come left l = prepend_known (unread l) (left (source_of l))

-- The first line of what was to come was given, and the other lines are still to come.
abbrev pub GivesLine : Option (List ℕ) → Option (List ℕ) → List ℕ → Type 0
GivesLine None new line = ⊤
GivesLine (Some bs) None line = ⊥
GivesLine (Some bs) (Some cs) line = input_lines bs ≡ line ∷ input_lines cs

-- So many bytes came from the source, none only where it is at its end. Only private contracts cite it.
pub record MoreCame (old new : List ℕ) (left rest : Option (List ℕ)) (n : ℕ) : Type 0 where
  pub fresh : List ℕ
  pub stands : new ≡ old ++ fresh
  pub many : length fresh ≡ n
  pub came : Consumes left rest fresh
  pub end : n ≡ 0 → IsAtEnd rest
