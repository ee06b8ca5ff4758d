use Rattle.std.proofs.Common.{◌≡◌, ◌∙◌, arith, refl, sym}
use Rattle.usb_class_drivers.specs.Disks.{all_failed, none_asked, one_failed, was_told}
use Rattle.usb_class_drivers.proofs.Steps.{failed_is}
use Rattle.usb_class_drivers.proofs.disk.Disk.sized.Goals as goal

pub tries-init : goal.tries-init
tries-init g c = none_asked

pub tries-preserved : goal.tries-preserved
tries-preserved g c =
    let failed = failed_is c.take-told.result
    (sym c.is_failed.ensures ∙ c.if-not-is_failed.false) in
    rw c.take-told.ensures.tag
    (one_failed c.tries.invariant (rw failed at c.take-told.ensures.takes))

pub returns-then-not-is_failed : goal.returns-then-not-is_failed
returns-then-not-is_failed g c = was_told c.tries.tries c.tries.transport c.tries.host
    c.take-told.result c.tries-test.true c.tries.invariant c.take-told.ensures.takes
    (sym c.is_failed.ensures ∙ c.if-not-is_failed.true)
    (rw c.take-told.ensures.tag at c.size_told.ensures)

pub returns : goal.returns
returns g c =
    let all : c.tries.tries ≡ 3 = omega arith in
    all_failed c.tries.transport (rw all at c.tries.invariant) refl
