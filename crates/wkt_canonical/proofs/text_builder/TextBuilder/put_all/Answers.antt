-- The bytes stand behind what was written.
use Rattle.std.proofs.Common.{◌≡◌, ◌+◌, ◌-◌, ◌++◌, length, take, refl, ap, ◌∙◌, arith}
use Rattle.std.proofs.lemmas.Slice.{take-put_mid}
use Rattle.wkt_canonical.proofs.TextBuilderOutput.{length-stored}
use Rattle.wkt_canonical.proofs.text_builder.TextBuilder.put_all.Goals as goal

pub returns : goal.returns
returns g c =
    let p = c.args.self in
    let xs = p.out.now in
    let ys = c.copy_from_slice.new.self in
    let same : ys ≡ c.args.text.now = c.copy_from_slice.ensures.after in
    let n = p.len + length c.args.text.now in
    record {
      numbers = refl;
      origin = refl;
      whole = length-stored p.len (n - p.len) xs ys (omega (arith, ap length same)) (omega arith);
      len = refl;
      polygon = refl;
      written = take-put_mid p.len (n - p.len) xs ys n (omega (arith, ap length same)) (omega arith) ∙ ap (λ l. take p.len xs ++ l) same;
    }
