use Rattle.usb_plan.proofs.DigitPairs.{ArePut}
use Rattle.usb_plan.proofs.digits.put_pairs.Given as goal

abbrev pub invariant-pairs : goal.invariant-pairs
invariant-pairs l = ArePut l.digits l.bytes l.i
