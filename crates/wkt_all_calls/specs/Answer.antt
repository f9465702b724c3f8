-- What is claimed of the answer to a text.
use Rattle.std.specs.Prelude.{Result, Ok, Err}
use Rattle.wkt_all_calls.specs.declared.answers.AnswerError.{AnswerError}
use Rattle.wkt_all_calls.specs.declared.answers.AnswerError.TheVariants as answered

-- The fact is claimed where the text was refused.
abbrev pub OnAnswerRefused : {A : Type 0} → Result A AnswerError → Type 0 → Type 0
OnAnswerRefused (Ok x) P = Unit {0}
OnAnswerRefused (Err (answered.Refused m)) P = P
OnAnswerRefused (Err answered.Differ) P = Unit {0}
OnAnswerRefused (Err (answered.Memory e)) P = Unit {0}

-- The fact is claimed where memory ran out for the answer.
abbrev pub OnAnswerMemory : {A : Type 0} → Result A AnswerError → Type 0 → Type 0
OnAnswerMemory (Ok x) P = Unit {0}
OnAnswerMemory (Err (answered.Refused m)) P = Unit {0}
OnAnswerMemory (Err answered.Differ) P = Unit {0}
OnAnswerMemory (Err (answered.Memory e)) P = P
