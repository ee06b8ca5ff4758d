use Rattle.usb_class_drivers.specs.{SizesFailed}
use Rattle.usb_class_drivers.proofs.disk.Disk.sized.Given as goal

abbrev pub invariant-tries : goal.invariant-tries
invariant-tries g l =
    SizesFailed g.B.Bus.modelled l.fn.transport l.fn.host l.tries l.transport l.host
