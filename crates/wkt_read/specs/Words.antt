-- What could stand at a place, in words.
use Rattle.std.specs.Prelude.{ℕ, List, codes}
use Rattle.wkt_read.specs.declared.expected.Expected.{Expected}
use Rattle.wkt_read.specs.declared.expected.Expected.TheVariants.{Kind, Member, Dimension, Opening, Point, X, Y, Z, M, More, Closing}

-- What is displayed of an `Expected`.
abbrev pub words : Expected → List ℕ
words Kind = codes "a kind of geometry, such as POINT,"
words Member = codes "a member of the collection"
words Dimension = codes "`(`, EMPTY, Z, M or ZM"
words Opening = codes "`(` or EMPTY"
words Point = codes "a first number, `(` or EMPTY"
words X = codes "a first number"
words Y = codes "a second number"
words Z = codes "a number z"
words M = codes "a number m"
words More = codes "`,` or `)`"
words Closing = codes "`)`"
