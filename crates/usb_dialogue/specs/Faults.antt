-- The numbers of faults, by which programs in C know them.
use Rattle.std.specs.Prelude.{ℕ}
use Rattle.usb_dialogue.specs.declared.fault.DriverFault.{DriverFault}
use Rattle.usb_dialogue.specs.declared.fault.DriverFault.TheVariants.{Memory, OutOfTurn, Kind}
use Rattle.usb_dialogue.specs.declared.fault.DriverFault.TheVariants.{Length, TooMuch, Roots}
use Rattle.usb_dialogue.specs.declared.fault.DriverFault.TheVariants.{Number}

abbrev pub fault_number : DriverFault → ℕ
fault_number Memory = 40
fault_number OutOfTurn = 41
fault_number Kind = 42
fault_number Length = 43
fault_number TooMuch = 44
fault_number Roots = 45
fault_number Number = 46
