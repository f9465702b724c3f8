-- Nothing of a buffer that is as long as the list is left behind it.
use Rattle.std.proofs.Common.{◌++◌, ◌∙◌, ap, arith, length}
use Rattle.std.proofs.lemmas.List.{append-nil, drop_all}
use Rattle.wkt_calls.proofs.fill.copy_whole.Goals as goal

pub returns : goal.returns
returns g c =
    c.copy_to_front.ensures
    ∙ ap (λ l. c.args.list.now ++ l) (drop_all (length c.args.list.now) c.args.out.now (omega (arith, c.requires)))
    ∙ append-nil c.args.list.now
