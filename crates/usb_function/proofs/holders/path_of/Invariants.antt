use Rattle.std.proofs.Common.{◌≡◌, [], Some, take}
use Rattle.usb_device.specs.{path_further}
use Rattle.usb_function.proofs.holders.path_of.Given as goal

abbrev pub invariant-numbers : goal.invariant-numbers
invariant-numbers l =
    l.path ≡ path_further (Some (record { items = [] })) (take l.number-index l.numbers)
