-- What is passed stands before what is still to come.
use Rattle.std.proofs.Common.{ℕ, List, take, subst}
use Rattle.std.proofs.lemmas.List.{drop-drop}
use Rattle.std.specs.Io.KnownBytes.{Consumes, prepend_known}
use Rattle.wkt_lines.specs.Buffers.{unanswered}
use Rattle.wkt_lines.specs.Reading.{unread, to_come}
use Rattle.wkt_lines.proofs.Lining.{passed}
use Rattle.wkt_lines.proofs.reading.Lines.pass.Goals as goal

pub returns-clause-past : goal.returns-clause-past
returns-clause-past g c =
    let s = c.args.self.now in
    let left = g.R.ByteSource.left s.source in
    subst (λ (xs : List ℕ). Consumes (to_come g.R.ByteSource.left s) (prepend_known xs left) (take c.args.n (unread s))) (drop-drop c.args.n s.next (unanswered s.buffer)) (passed left (unread s) c.args.n)
