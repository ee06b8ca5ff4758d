use Rattle.std.proofs.Common.{◌+◌, ◌-◌, ◌∙◌, arith, drop, length, length-drop, length-take}
use Rattle.std.proofs.KnownBytes.{Appends-kept}
use Rattle.usb_serve.specs.{has_ended, held}
use Rattle.usb_serve.proofs.Outputs.{puts_front, took, took_none, wrote_more}
use Rattle.usb_serve.proofs.output.Output.put.Goals as goal

pub returns-in-Ok-eq0 : goal.returns-in-Ok-eq0
returns-in-Ok-eq0 g c =
    let xs = c.args.piece.now in
    let done = c.parts.gone in
    let n = c.in-Ok-eq0.field-0 in
    let most = length-take (length xs - done) (drop done xs) in
    let left = length-drop done xs in
    let fits = c.in-Ok-eq0.ensures.bound in
    puts_front (held g.W.Write.contents) has_ended _ _ _ xs (done + n)
    (wrote_more _ _ _ xs done n (omega (arith, most, fits)) c.parts.invariant.wrote
    c.in-Ok-eq0.ensures.bytes)
    (took_none _ n _ c.in-Ok-eq0.ensures.mark (omega arith) (omega (arith, most, left)))

pub parts-preserved : goal.parts-preserved
parts-preserved g c =
    let xs = c.args.piece.now in
    let done = c.parts.gone in
    let most = length-take (length xs - done) (drop done xs) in
    let fits = c.in-Ok.ensures.bound in
    record {
      few = omega (arith, most, fits);
      wrote = wrote_more _ _ _ xs done c.in-Ok.n (omega (arith, most, fits))
          c.parts.invariant.wrote c.in-Ok.ensures.bytes;
      unmarked = took _ _ c.in-Ok.n _ c.in-Ok.ensures.mark c.in-Ok.n-test.1
          (λ is. (c.in-Ok.ensures.ended is).0) ∙ c.parts.invariant.unmarked;
    }

pub returns-in-Err : goal.returns-in-Err
returns-in-Err g c = puts_front (held g.W.Write.contents) has_ended _ _ _ c.args.piece.now
    c.parts.gone (Appends-kept _ _ _ _ c.parts.invariant.wrote c.in-Err.ensures.bytes)
    c.in-Err.ensures.mark
