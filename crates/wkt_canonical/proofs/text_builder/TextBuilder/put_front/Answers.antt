-- Of the window that is stored the first bytes count.
use Rattle.std.proofs.Common.{◌≡◌, ◌+◌, ◌++◌, length, take, refl, ap, ◌∙◌, arith, length-take-le}
use Rattle.std.proofs.lemmas.List.{take-take}
use Rattle.std.proofs.lemmas.Simd.{length-put_chunk}
use lib.Lanes.{chunk}
use Rattle.wkt_canonical.proofs.TextBuilderOutput.{front-stored}
use Rattle.wkt_canonical.proofs.text_builder.TextBuilder.put_front.Goals as goal

pub returns : goal.returns
returns g c =
    let p = c.args.self in
    let xs = p.out.now in
    let w = c.args.window.now in
    let n = c.args.n in
    let long : length (take 32 w) ≡ 32 = length-take-le 32 w c.requires.window in
    record {
      numbers = refl;
      origin = refl;
      whole = length-put_chunk p.len xs (chunk 0 32 w);
      len = omega (arith, length-take-le n w (omega arith));
      polygon = refl;
      written = front-stored p.len n (p.len + n) xs (chunk 0 32 w) refl (omega arith) (omega arith) ∙ ap (λ l. take p.len xs ++ l) (take-take n 32 w (omega arith));
    }
