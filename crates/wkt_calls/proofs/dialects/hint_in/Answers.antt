-- The hint is that of the text that is read.
use Rattle.std.proofs.Common.{◌≡◌, ℕ, ◌%◌, Option, Some, None, List, IsUtf8, sym, ap, subst, ◌∙◌}
use Rattle.wkt_explain.specs.Hints.{hint_at}
use Rattle.wkt_explain.specs.Problems.{IsRefusalOf}
use Rattle.wkt_explain.specs.declared.explanation.Refusal.{Refusal}
use Rattle.wkt_explain.specs.declared.hint.Hint.{Hint}
use Rattle.wkt_calls.specs.Answer.{read_at, places_in}
use Rattle.wkt_calls.specs.Explained.{IsHinted, hint_number}
use Rattle.wkt_calls.specs.Dialects.{IsAsRead, IsHintIn}
use Rattle.wkt_calls.specs.declared.dialects.AsRead.{AsRead}
use Rattle.wkt_calls.proofs.dialects.hint_in.Goals as goal

hinted : (options plain : ℕ) (text : List ℕ) (r : AsRead) (w : Refusal) (hint : Option Hint) (places number : ℕ) → plain ≡ options % 512 → IsAsRead options text r → IsUtf8 r.text.now
    → IsRefusalOf (read_at (places_in plain)) r.text.now w → places ≡ places_in plain → hint ≡ hint_at r.text.now w.start w.end w.expected places → number ≡ hint_number hint
    → IsHintIn options text (Some number)
hinted options plain text r w hint places number is read utf8 refusal few hint-is number-is = record {
  read = r;
  as_read = read;
  utf8 = utf8;
  some = λ n e. let same : number ≡ n = cc in
      subst (λ m. IsHinted (read_at (places_in m)) (places_in m) r.text.now n) is (record {
        utf8 = utf8;
        no_front = refusal.none;
        start = w.start;
        stop = w.end;
        what = w.expected;
        refused = refusal.place;
        number_is = sym same ∙ number-is ∙ ap hint_number (hint-is ∙ ap (λ p. hint_at r.text.now w.start w.end w.expected p) few);
      });
  none = λ e. cc;
}

pub returns-in-Ok-Refused : goal.returns-in-Ok-Refused
returns-in-Ok-Refused g c =
    let k = rw c.in-Ok-Refused.field-0-is at c.in-Ok-Refused.ensures in
    hinted c.args.options c.without_dialects-plain.result c.args.text.now c.in-Ok.read c.in-Ok-Refused.why c.hint.result c.places_of.result c.number_of_hint.result
    c.without_dialects-plain.ensures c.in-Ok.ensures k.0 k.1 c.places_of.ensures c.hint.ensures c.number_of_hint.ensures
