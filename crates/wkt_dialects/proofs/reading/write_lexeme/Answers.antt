use Rattle.std.proofs.Common.{rules, ◌≡◌, true, false, ap, ◌∙◌, ◌++◌, codes, get_or, slice_range, drop, append_assoc}
use Rattle.wkt_read.specs.Lexemes.{starts_number}
use Rattle.wkt_dialects.specs.Dialects.{joined_word, kind_name, letters}
use Rattle.wkt_dialects.specs.Pieces.{lexeme_as}
use Rattle.wkt_dialects.proofs.Passed.{appended, not-true, not-false}
use Rattle.wkt_dialects.proofs.Lettering.{plain-as, word-as, starts-run, as-it-stood, as-number, as-word, empty-run, joined-run}
use Rattle.wkt_dialects.proofs.reading.write_lexeme.Goals as goal

pub returns-then-not-dialects : goal.returns-then-not-dialects
returns-then-not-dialects g c =
    let q = c.requires c.in-Same.is in
    let off : c.args.dialects.exponents ≡ false = search (rules, not-true, c.if-not-dialects.true) in
    as-it-stood c.put-then-not-dialects.result c.args.dialects c.args.text.now c.args.there (g.P.Put.written c.args.out.now) (g.P.Put.written c.put-then-not-dialects.new.self) c.in-Same.is q.1 q.2
    (λ m s. plain-as c.args.dialects (slice_range c.args.text.now c.args.there.start c.args.there.end) (drop c.args.there.end c.args.text.now) m s off) c.put-then-not-dialects.ensures

pub write_number-requires-clause-run : goal.write_number-requires-clause-run
write_number-requires-clause-run g c =
    let q = c.requires c.in-Same.is in
    let starts : starts_number (get_or (slice_range c.args.text.now c.args.there.start c.args.there.end) 0 0) ≡ true = cc in
    starts-run (slice_range c.args.text.now c.args.there.start c.args.there.end) (drop c.args.there.end c.args.text.now) q.1 q.2 starts

pub returns-then-begins_number : goal.returns-then-begins_number
returns-then-begins_number g c =
    let starts : starts_number (get_or (slice_range c.args.text.now c.args.there.start c.args.there.end) 0 0) ≡ true = cc in
    let asked : c.args.dialects.exponents ≡ true = search (rules, not-false, c.if-not-dialects.false) in
    as-number c.write_number.result c.args.dialects c.args.text.now c.args.there (g.P.Put.written c.args.out.now) (g.P.Put.written c.write_number.new.out) c.in-Same.is asked starts c.write_number.ensures

pub returns-else-begins_number : goal.returns-else-begins_number
returns-else-begins_number g c =
    let q = c.requires c.in-Same.is in
    let word : starts_number (get_or (slice_range c.args.text.now c.args.there.start c.args.there.end) 0 0) ≡ false = cc in
    as-it-stood c.put-in-Same.result c.args.dialects c.args.text.now c.args.there (g.P.Put.written c.args.out.now) (g.P.Put.written c.put-in-Same.new.self) c.in-Same.is q.1 q.2
    (λ m s. word-as c.args.dialects (slice_range c.args.text.now c.args.there.start c.args.there.end) (drop c.args.there.end c.args.text.now) m s word) c.put-in-Same.ensures

pub returns-in-Empty : goal.returns-in-Empty
returns-in-Empty g c = as-word c.put-in-Empty.result c.args.dialects c.args.text.now c.args.there (g.P.Put.written c.args.out.now) (g.P.Put.written c.put-in-Empty.new.self) (codes "EMPTY") empty-run.run empty-run.word empty-run.utf8 (λ m. ap (λ q. lexeme_as q m) c.in-Empty.is) c.put-in-Empty.ensures

pub returns-in_ok-put-in-Joined : goal.returns-in_ok-put-in-Joined
returns-in_ok-put-in-Joined g c =
    let k = c.in-Joined.kind in
    let d = c.in-Joined.dim in
    let j = joined-run c.in-Joined.kind c.in-Joined.dim in
    as-word c.put-in-Joined.result c.args.dialects c.args.text.now c.args.there (g.P.Put.written c.args.out.now) (g.P.Put.written c.put-in-Joined.new.self) (joined_word k d) j.run j.word j.utf8 (λ m. ap (λ q. lexeme_as q m) c.in-Joined.is)
    (appended c.put-in-Joined.result (g.P.Put.written c.put-in-Joined.new.self) ((g.P.Put.written c.put.new.self) ++ c.letters_of.result.now) ((g.P.Put.written c.args.out.now) ++ joined_word k d)
    (ap (λ l. l ++ c.letters_of.result.now) c.in_ok-put-in-Joined.ensures
    ∙ ap (λ n. ((g.P.Put.written c.args.out.now) ++ n) ++ c.letters_of.result.now) c.name_of.ensures
    ∙ ap (λ n. ((g.P.Put.written c.args.out.now) ++ kind_name k) ++ n) c.letters_of.ensures
    ∙ append_assoc (g.P.Put.written c.args.out.now) (kind_name k) (letters d))
    c.put-in-Joined.ensures)
