-- Lines and columns of a text, by its bytes.
use Rattle.std.specs.Prelude.{ℕ, suc, ◌+◌, ◌-◌, ◌^◌, min, List, [], ◌∷◌, ◌++◌, Bool, ◌==◌, ◌&&◌, nat_le, codes, if◌then◌else◌}
use Rattle.std.specs.Fmt.{decimal}

-- how many line feeds there are
abbrev pub feeds : List ℕ → ℕ
feeds [] = 0
feeds (b ∷ rest) = if b == 10 then suc (feeds rest) else feeds rest

-- whether a byte of UTF-8 continues a character, and begins none
abbrev pub continues : ℕ → Bool
continues b = nat_le 128 b && nat_le b 191

-- the column behind these bytes, where the column before them is c: a line feed begins a line, whose first column is 1
abbrev pub column_after : ℕ → List ℕ → ℕ
column_after c [] = c
column_after c (b ∷ rest) = if b == 10 then column_after 1 rest else (if continues b then column_after c rest else column_after (suc c) rest)

-- the byte of the line behind these bytes, where the byte before them is c, by the same rule
abbrev pub byte_after : ℕ → List ℕ → ℕ
byte_after c [] = c
byte_after c (b ∷ rest) = if b == 10 then byte_after 1 rest else byte_after (suc c) rest

-- the number of the line behind these bytes of a text, whose first line has the number `first`
abbrev pub line_after : ℕ → List ℕ → ℕ
line_after first before = min (first + feeds before) (2 ^ 64 - 1)

-- what a place is printed as: the file's name, the line and the column behind these bytes
abbrev pub place_text : List ℕ → ℕ → List ℕ → List ℕ
place_text name first before = name ++ (codes ":" ++ (decimal (line_after first before) ++ (codes ":" ++ (decimal (column_after 1 before) ++ codes ": "))))

-- what is printed of a text that isn't UTF-8 behind these bytes
abbrev pub utf8_text : List ℕ → ℕ → List ℕ → List ℕ
utf8_text name first before =
    name ++ (codes ":" ++ (decimal (line_after first before) ++ (codes ": not UTF-8 at byte " ++ (decimal (byte_after 1 before) ++ codes " of the line\n"))))

-- a line feed for a NUL, a NUL for a line feed, and any other byte for itself
abbrev pub other_end : ℕ → ℕ
other_end b = if b == 0 then 10 else (if b == 10 then 0 else b)
