-- A piece that the formatter took was written whatever its options.
use Rattle.std.proofs.Common.{refl}
use Rattle.wkt_num.specs.Borrowed.{broke_at_once, shows_none}
use Rattle.wkt_num.proofs.formatted.FormatterTextTextSink.write_str.Goals as goal

pub returns-in-Ok : goal.returns-in-Ok
returns-in-Ok g c = record { given = record { gave = λ p. c.in-Ok.ensures.styled p refl; same = refl }; unfailed = refl }

pub returns-in-Err : goal.returns-in-Err
returns-in-Err g c = record { left = broke_at_once (shows_none _) _ _ _ refl; failed = refl }
