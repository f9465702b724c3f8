-- The text is a header and the line strings.
use Rattle.wkt_write.proofs.Bracketed.{multi_line_string_text}
use Rattle.wkt_write.proofs.kinds.MultiLineStringKind.put.Goals as goal

pub returns : goal.returns
returns g c =
    rw (multi_line_string_text g.M.T.WktNum.num (g.M.MultiLineStringTrait.dimension c.args.self.now.0.now) (g.M.MultiLineStringTrait.line_strings c.args.self.now.0.now), ← c.dim.ensures)
    c.put_listed.ensures
