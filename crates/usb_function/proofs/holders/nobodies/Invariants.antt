use Rattle.std.proofs.Common.{◌≡◌, length}
use Rattle.usb_function.proofs.holders.nobodies.Given as goal

abbrev pub invariant-all : goal.invariant-all
invariant-all l = length l.all.items ≡ l.counter
