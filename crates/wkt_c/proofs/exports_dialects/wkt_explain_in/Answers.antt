-- The problem is that of the text that is read, by places of the text as it was given.
use Rattle.std.proofs.Common.{arith, ◌≡◌, ◌%◌, ℕ, List, ap, ◌∙◌}
use Rattle.wkt_read.specs.Messages.{message_number}
use Rattle.wkt_explain.specs.Problems.{IsProblem}
use Rattle.wkt_explain.specs.declared.explanation.Refusal.{Refusal}
use Rattle.wkt_explain.specs.declared.whole.Problem.{Problem}
use Rattle.wkt_explain.specs.declared.whole.Problem.TheVariants.{Refused, Rest}
use Rattle.wkt_calls.specs.Answer.{asks_whole}
use Rattle.wkt_calls.specs.Explained.{IsExplained, expected_number}
use Rattle.wkt_calls.specs.Dialects.{read_plainly, IsAsRead, IsPlaced, IsPlacedProblem, IsProblemIn}
use Rattle.wkt_calls.specs.declared.dialects.AsRead.{AsRead}
use Rattle.wkt_c.proofs.exports_dialects.wkt_explain_in.Goals as goal

abbrev IsRefusedIn : ℕ → List ℕ → Refusal → ℕ → ℕ → Type 0
IsRefusedIn options text why message expected = (r : AsRead) × IsAsRead options text r × (at : ℕ) × (upto : ℕ)
    × IsExplained (read_plainly options) r.text.now message at upto expected × (behind : ℕ) × IsPlaced r at behind why.start why.end

module _ (options : ℕ) (text : List ℕ) (why : Refusal) (p : IsProblemIn options text (Refused why)) (message expected : ℕ) (said : message ≡ message_number why.message) (wanted : expected ≡ expected_number why.expected) where
  refused-as : (q : Problem) → IsProblem (read_plainly options) (asks_whole (options % 512)) p.read.text.now q → IsPlacedProblem p.read q (Refused why) → IsRefusedIn options text why message expected
  refused-as (Refused w) is places = (
    p.read,
    p.as_read,
    w.start,
    w.end,
    record {
      utf8 = p.utf8;
      no_front = is.none;
      what = w.expected;
      refused = is.place;
      number_is = wanted ∙ ap expected_number places.1;
      part = is.part;
      said = (w.message, said ∙ ap message_number places.0, is.message);
    },
    places.2,
    places.3,
  )
  refused-as (Rest at) is places = absurd places

  refused-in : IsRefusedIn options text why message expected
  refused-in = refused-as p.of_other p.is p.places

pub returns-in-Ok-Refused-clause-answers : goal.returns-in-Ok-Refused-clause-answers
returns-in-Ok-Refused-clause-answers c =
    let p = rw c.in-Ok-Refused.field-0-is at c.in-Ok-Refused.ensures in
    record {
      no_dialects = λ n. absurd (n (c.has_dialects.ensures.yes c.if-not-has_dialects.false));
      dialects = λ e _. omega (arith, e);
      explained = λ _. refused-in c.args.places c.args.text.now c.in-Ok-Refused.why p c.number.result c.number_of_expected.result c.number.ensures.number c.number_of_expected.ensures;
      more = λ e. absurd (omega (arith, e));
      others = λ some _ _. absurd (omega (arith, some));
    }
