use Rattle.std.proofs.Common.{subst, ap, arith, length}
use Rattle.std.specs.Io.KnownBytes.{Appends}
use Rattle.usb_watch.specs.{AppendsFront}
use Rattle.usb_explain.proofs.Lines.{kept_gives, reaches_next, went_in_part, went_other}
use Rattle.usb_explain.proofs.explaining.BegunLine.close.Goals as goal

pub returns-in_default-clause-reaches : goal.returns-in_default-clause-reaches
returns-in_default-clause-reaches g c = λ w text h.
    went_other c.args.only w _ text c.args.self.now c.args.self.now h
    (rw c.as_slice-line.ensures.value at c.in_default.ensures)

pub returns-in-Ok-clause-reaches : goal.returns-in-Ok-clause-reaches
returns-in-Ok-clause-reaches g c = λ w text h.
    let gives = kept_gives c.args.only _ _ _ _ _ c.as_slice-line.ensures.value c.in-Some.ensures in
    reaches_next c.args.only w _ _ text c.args.self.now _ h
    (omega (arith, c.as_slice-line.ensures.fits, ap length c.as_slice-line.ensures.value))
    gives.0 (subst (Appends _ _) gives.1 c.in-Ok.ensures.ok)
    c.saturating_add-self.ensures c.clear.ensures gives.2

pub returns-in-Err-clause-reaches : goal.returns-in-Err-clause-reaches
returns-in-Err-clause-reaches g c = λ w text h.
    let gives = kept_gives c.args.only _ _ _ _ _ c.as_slice-line.ensures.value c.in-Some.ensures in
    went_in_part c.args.only w _ _ text c.args.self.now h
    (omega (arith, c.as_slice-line.ensures.fits, ap length c.as_slice-line.ensures.value)) gives.0
    (subst (AppendsFront _ _) gives.1 c.put_kept.ensures.front)
