-- The array is out, or a beginning of it where the writer fails.
use Rattle.std.proofs.Common.{sym, ◌∙◌, take, drop, refl}
use Rattle.std.proofs.lemmas.List.{append-nil, take-append-drop}
use Rattle.wkt_bytes.proofs.wrapper.WriterWrapper.empty.Goals as goal

pub returns-in-Ok-clause-ok : goal.returns-in-Ok-clause-ok
returns-in-Ok-clause-ok g c = rw (← c.self.view_is) (
    let h = c.in-Ok.ensures in
    record {
      out = take c.self.inside.len c.self.inside.held;
      went = h.ok;
      whole = refl;
      same = refl;
      taken = refl;
      count = h.kept;
      tied = c.put_all.ensures.keeps;
      still = λ w. let r = rw (← c.self.view_is) at c.requires in cc;
    })

pub returns-in-Err-clause-err : goal.returns-in-Err-clause-err
returns-in-Err-clause-err g c = rw (← c.self.view_is) (
    let h = c.in-Err.ensures in
    let held = take c.self.inside.len c.self.inside.held in
    record {
      out = take h.err.0 held;
      lost = drop h.err.0 held;
      went = h.err.1;
      whole = append-nil held ∙ sym (take-append-drop h.err.0 held);
      failed = refl;
      count = λ _. h.failed;
      untaken = λ _. refl;
      kept = λ w. let r = rw (← c.self.view_is) at c.requires in cc;
      tied = c.put_all.ensures.keeps;
      still = λ w. let r = rw (← c.self.view_is) at c.requires in cc;
    })
