-- The verdict says which line was written.
use Rattle.wkt_command.specs.Canon.{out_bytes}
use Rattle.wkt_command.proofs.Canonizing.{ok-map, canonizes-read, canonizes-refused, utf8-read, none-bytes, none-refused, none-rest, white-utf8}
use Rattle.wkt_command.proofs.run.Run.answer.Goals as goal

pub put_answer-requires : goal.put_answer-requires
put_answer-requires g c =
    let o = c.args.self.now.options.now in
    let out = out_bytes g.W.Write.contents c.args.self.now.out in
    let verdict = rw (c.in-Read.is, c.in-Ok.ensures.cases.0) at c.in_ok-len.ensures in
    record { utf8 = utf8-read o c.args.text.now out out _ c.in-Read.len verdict }

pub returns-in-Read : goal.returns-in-Read
returns-in-Read g c = record {
  options = c.put_answer.ensures.options;
  canon = λ is.
      let verdict = rw (c.in-Read.is, c.in-Ok.ensures.cases.0) at c.in_ok-len.ensures in
      ok-map c.put_answer.result _ _ (canonizes-read c.args.self.now.options.now c.args.text.now _ _ _ c.in-Read.len verdict c.in-Ok.ensures.cases.1) (c.put_answer.ensures.canon is);
}

pub returns-in-Refused : goal.returns-in-Refused
returns-in-Refused g c = record {
  options = c.refuse_or_pass.ensures.options;
  canon = λ is.
      let out = out_bytes g.W.Write.contents c.args.self.now.out in
      let verdict = rw (c.in-Refused.is, c.in-Ok.ensures.cases.0) at c.in_ok-len.ensures in
      rw c.in-Ok.ensures.cases.0 at c.refuse_or_pass.ensures.canon is (none-refused c.args.self.now.options.now c.args.text.now out out _ c.in-Refused.refused verdict);
}

pub returns-clause-canon : goal.returns-clause-canon
returns-clause-canon g c = λ is.
    let out = out_bytes g.W.Write.contents c.args.self.now.out in
    let verdict = rw (c.in-Rest.is, c.in-Ok.ensures.cases.0) at c.in_ok-len.ensures in
    rw c.in-Ok.ensures.cases.0 at c.refuse_or_pass-in-Rest.ensures.canon is (none-rest c.args.self.now.options.now c.args.text.now out out _ c.in-Rest.end verdict)

pub returns-in-Err-clause-canon : goal.returns-in-Err-clause-canon
returns-in-Err-clause-canon g c = λ is.
    let out = out_bytes g.W.Write.contents c.args.self.now.out in
    ok-map c.refuse.result _ _ (canonizes-refused c.args.self.now.options.now c.args.text.now _ _ (none-bytes c.args.self.now.options.now c.args.text.now out out c.in-Err.ensures.cases.0) (λ skip. c.in-Err.ensures.cases.0 (white-utf8 c.args.text.now skip.1))) (c.refuse.ensures.canon is)
