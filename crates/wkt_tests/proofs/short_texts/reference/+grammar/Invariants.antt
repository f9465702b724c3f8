-- The calls of the slow program go one level down.
use Rattle.wkt_tests.proofs.short_texts.reference.+grammar.Given as goal

abbrev pub decreases-one : goal.decreases-one
decreases-one l = l.depth

abbrev pub decreases-listed : goal.decreases-listed
decreases-listed l = l.depth

abbrev pub decreases-many : goal.decreases-many
decreases-many l = l.depth

abbrev pub decreases-body : goal.decreases-body
decreases-body l = l.depth

abbrev pub decreases-geometry : goal.decreases-geometry
decreases-geometry l = l.depth
