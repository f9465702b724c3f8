-- The rows so far are answered, and the next lies within the texts.
use Rattle.std.proofs.Common.{◌≡◌, ◌+◌, ◌≤◌, ap, sym, length, subst, arith}
use Rattle.std.specs.List.{slice_index}
use Rattle.wkt_calls.specs.Answer.{read_at, print_at, places_in, asks_whole}
use Rattle.wkt_calls.specs.Column.{row_count, row, is_null, IsRowAnswer}
use Rattle.wkt_calls.specs.Rows.{HoldsAnswers}
use Rattle.wkt_calls.proofs.Columns.{below, no-rows, one-more}
use Rattle.wkt_calls.proofs.column.answers.Goals as goal

pub slice_bounds-text-end : goal.slice_bounds-text-end
slice_bounds-text-end c = below c.args.given.texts.now c.args.given.offsets.now c.requires.offsets (c.loop-i.i + 1) (omega arith)

pub loop-i-init : goal.loop-i-init
loop-i-init c = record {
  holds = no-rows _ c.in_ok-rows.rows c.in_ok-rows.ensures;
  bound = omega (arith, ap length c.in_ok-rows.ensures.no_texts.no_items);
}

pub loop-i-preserved : goal.loop-i-preserved
loop-i-preserved c =
    let whole = asks_whole c.args.options in
    let read = read_at (places_in c.args.options) in
    let num = print_at (places_in c.args.options) in
    let given = c.args.given in
    let a = c.in_ok-add_answer.ensures.adds in
    record {
      holds = one-more (λ k answer status. IsRowAnswer whole read num (is_null given.valid.now k) (row given.texts.now given.offsets.now k) answer status) c.loop-i.i _ _ a.text a.status c.loop-i.invariant.holds
          (subst (λ n. IsRowAnswer whole read num n (row given.texts.now given.offsets.now c.loop-i.i) a.text a.status) {x = c.is_null-null.result} {y = is_null given.valid.now c.loop-i.i} c.is_null-null.ensures a.is)
          a.added;
      bound = omega (arith, c.in_ok-add_answer.ensures.bound, c.loop-i.invariant.bound, c.requires.offsets.ascend c.loop-i.i (omega arith), below given.texts.now given.offsets.now c.requires.offsets (c.loop-i.i + 1) (omega arith));
    }

pub returns-clause-answers : goal.returns-clause-answers
returns-clause-answers c =
    let all : c.loop-i.i ≡ row_count c.args.given.offsets.now = omega arith in
    subst (λ n. HoldsAnswers (asks_whole c.args.options) (read_at (places_in c.args.options)) (print_at (places_in c.args.options)) c.args.given.texts.now c.args.given.offsets.now c.args.given.valid.now n c.loop-i.rows) all c.loop-i.invariant.holds

pub returns-clause-bound : goal.returns-clause-bound
returns-clause-bound c =
    let all : c.loop-i.i ≡ row_count c.args.given.offsets.now = omega arith in
    let end = subst (λ n. slice_index c.args.given.offsets.now n ≤ length c.args.given.texts.now) (sym all) c.requires.offsets.end in
    omega (arith, c.loop-i.invariant.bound, all, end)
