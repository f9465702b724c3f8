-- A piece that the writer took is one call's text; after an error a beginning of it may be out.
use Rattle.std.proofs.Common.{refl, [], ◌∷◌}
use Rattle.std.proofs.lemmas.List.{append-nil}
use Rattle.wkt_num.specs.Borrowed.{broke_at_once, calls_none}
use Rattle.wkt_num.proofs.counted.CountedTextTextSink.write_str.Goals as goal

pub returns-in-Ok : goal.returns-in-Ok
returns-in-Ok g c = record { given = record { gave = record { parts = _ ∷ []; calls = (_, c.in-Ok.ensures.ok refl, refl); whole = append-nil _ }; same = refl }; unfailed = refl }

pub returns-in-Err : goal.returns-in-Err
returns-in-Err g c = record { left = broke_at_once (calls_none _) _ _ _ refl; failed = refl }
