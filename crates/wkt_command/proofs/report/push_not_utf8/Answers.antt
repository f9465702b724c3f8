-- What is written has the line and the byte that the two calls return.
use Rattle.std.proofs.Common.{◌≡◌, ◌++◌, subst, OnOk, string_bytes, codes}
use Rattle.std.specs.Fmt.{decimal}
use Rattle.wkt_command.specs.Place.{byte_after}
use Rattle.wkt_command.proofs.report.push_not_utf8.Goals as goal

pub returns : goal.returns
returns c =
    let name = c.args.origin.name.now in
    subst
    (λ l. OnOk c.write.result (string_bytes c.write.new.self ≡ string_bytes c.args.out.now ++ (name ++ (codes ":" ++ (decimal l ++ (codes ": not UTF-8 at byte " ++ (decimal (byte_after 1 c.args.before.now) ++ codes " of the line\n")))))))
    c.line_after-line.ensures
    (subst
    (λ b. OnOk c.write.result (string_bytes c.write.new.self ≡ string_bytes c.args.out.now ++ (name ++ (codes ":" ++ (decimal c.line_after-line.result ++ (codes ": not UTF-8 at byte " ++ (decimal b ++ codes " of the line\n")))))))
    c.byte_after-byte.ensures
    c.write.ensures.bytes)
