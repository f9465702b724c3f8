-- The pieces so far are copied, and the rest is as it was.
use Rattle.std.proofs.Common.{◌+◌, ◌++◌, ◌∙◌, ap, arith, length, drop, take_all}
use Rattle.wkt_calls.proofs.Pieces.{copied-piece}
use Rattle.wkt_calls.proofs.fill.copy_to_front.Goals as goal

pub pieces-preserved : goal.pieces-preserved
pieces-preserved g c = record {
  within = omega arith;
  are = copied-piece c.pieces.at (c.pieces.at + 256) c.args.list.now c.args.out.now c.pieces.out c.copy_from_slice.new.self (omega arith) (omega arith) (omega arith) c.pieces.invariant.are c.copy_from_slice.ensures.after;
}

pub returns : goal.returns
returns g c =
    let all = length c.args.list.now in
    copied-piece c.pieces.at all c.args.list.now c.args.out.now c.pieces.out c.copy_from_slice-2.new.self (omega arith) (omega arith) (omega arith) c.pieces.invariant.are c.copy_from_slice-2.ensures.after
    ∙ ap (λ l. l ++ drop all c.args.out.now) (take_all all c.args.list.now (omega arith))
