use Rattle.std.proofs.Common.{◌-◌, arith, drop, length, length-take}
use Rattle.usb_serve.proofs.Outputs.{took_more, wrote_more}
use Rattle.usb_serve.proofs.output.write_out.Goals as goal

pub parts-preserved : goal.parts-preserved
parts-preserved g c =
    let xs = c.args.bytes.now in
    let done = c.parts.gone in
    let most = length-take (length xs - done) (drop done xs) in
    let fits = c.in-Ok.ensures.bound in
    record {
      few = omega (arith, most, fits);
      wrote = wrote_more _ _ _ xs done c.in-Ok.n (omega (arith, most, fits))
          c.parts.invariant.wrote c.in-Ok.ensures.bytes;
      unmarked = took_more _ _ c.in-Ok.n _ c.in-Ok.ensures.mark c.in-Ok.n-test.1
          c.parts.invariant.unmarked;
    }
