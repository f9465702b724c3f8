-- An empty text has no front, and is refused as what it is.
use Rattle.std.proofs.Common.{◌∙◌, sym}
use Rattle.wkt_sources.proofs.TableMessages as empty
use Rattle.wkt_values.proofs.text.read_text.Goals as goal

pub returns-then-is_empty : goal.returns-then-is_empty
returns-then-is_empty g c =
    let none = empty.no_bytes _ (sym c.is_empty.ensures ∙ c.if-is_empty.true) in
    record {
      found = tt;
      some = tt;
      within = tt;
      boundary = tt;
      no_front = empty.empty_no_front g.T.WktNum.read c.args.text.now none;
      bad = empty.empty_no_bad g.T.WktNum.read c.args.text.now c.text.result.now c.text.ensures;
      refusal = empty.empty_refused g.T.WktNum.read c.args.text.now c.text.result.now none c.text.ensures;
      free = λ v end front small. absurd (empty.empty_no_front g.T.WktNum.read c.args.text.now none v end front);
    }
