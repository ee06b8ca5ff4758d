-- The fault of an entry is the one of least number.
use Rattle.std.specs.Prelude.{◌≡◌, ◌≢◌, ℕ, List, [], ◌∷◌, Option, Some, None, Result, Ok, Err}
use Rattle.std.specs.Prelude.{nat_le, if◌then◌else◌}
use Rattle.hex.specs.declared.error.FromHexError.{FromHexError}
use Rattle.hex.specs.declared.error.FromHexError.TheVariants.{InvalidHexCharacter, OddLength}
use Rattle.hex.specs.declared.error.FromHexError.TheVariants.{InvalidStringLength, OutOfMemory}
use Rattle.usb_plan.specs.declared.fault.Place.{Place}
use Rattle.usb_plan.specs.declared.fault.PlanFault.{PlanFault}
use Rattle.usb_plan.specs.declared.fault.PlanFault.TheVariants as fault
use Rattle.usb_plan.specs.declared.entry_fault.EntryFault.{EntryFault}
use Rattle.usb_plan.specs.declared.entry_fault.EntryFault.TheVariants.{Memory, OnlyFar}
use Rattle.usb_plan.specs.declared.entry_fault.EntryFault.TheVariants.{MissingKey, BadValue}
use Rattle.usb_plan.specs.declared.entry_fault.EntryFault.TheVariants.{BadHex, UnknownDevice}
use Rattle.usb_plan.specs.declared.entry_fault.EntryFault.TheVariants.{BadPath, PortTaken}
use Rattle.usb_plan.specs.declared.entry_fault.EntryFault.TheVariants.{PortEmpty}

-- the number of a fault; refused memory comes before all
abbrev pub rank : EntryFault → ℕ
rank Memory = 0
rank OnlyFar = 1
rank MissingKey = 2
rank BadValue = 3
rank BadHex = 4
rank UnknownDevice = 5
rank BadPath = 6
rank PortTaken = 7
rank PortEmpty = 8

unfoldable pub least : EntryFault → EntryFault → EntryFault
least a b = if nat_le (rank a) (rank b) then a else b

-- the fault of a text that is no hex text, or of which the bytes found no memory
abbrev pub hex_fault : FromHexError → EntryFault
hex_fault OutOfMemory = Memory
hex_fault OddLength = BadHex
hex_fault InvalidStringLength = BadHex
hex_fault (InvalidHexCharacter c index) = BadHex

-- the fault of a part
unfoldable pub fault_in_part : {A : Type 0} → Result A EntryFault → Option EntryFault
fault_in_part (Ok a) = None
fault_in_part (Err k) = Some k

-- a fault beside what is told of others
unfoldable pub sooner : Option EntryFault → Result (Unit {0}) EntryFault
    → Result (Unit {0}) EntryFault
sooner None others = others
sooner (Some k) (Ok u) = Err k
sooner (Some k) (Err l) = Err (least k l)

-- of these faults the one of least number is told
unfoldable pub least_fault : List (Option EntryFault) → Result (Unit {0}) EntryFault
least_fault [] = Ok tt
least_fault (fault ∷ faults) = sooner fault (least_fault faults)

unfoldable pub at : Place → EntryFault → PlanFault
at place Memory = fault.Memory
at place OnlyFar = fault.OnlyFar place
at place MissingKey = fault.MissingKey place
at place BadValue = fault.BadValue place
at place BadHex = fault.BadHex place
at place UnknownDevice = fault.UnknownDevice place
at place BadPath = fault.BadPath place
at place PortTaken = fault.PortTaken place
at place PortEmpty = fault.PortEmpty place

-- an entry, or its fault with the place
unfoldable pub entry_at : {A : Type 0} → Place → Result A EntryFault → Result A PlanFault
entry_at place (Ok a) = Ok a
entry_at place (Err k) = Err (at place k)

infixl 10 ◌>>=◌
abbrev pub ◌>>=◌ : {A B E : Type 0} → Result A E → (A → Result B E) → Result B E
(Ok x) >>= f = f x
(Err e) >>= f = Err e

-- what was read is what is spelled, but where this error says that memory was refused
abbrev pub EqualUnless : {A E : Type 0} → E → Result A E → Result A E → Type 0
EqualUnless memory (Ok x) spelled = spelled ≡ Ok x
EqualUnless memory (Err e) spelled = e ≢ memory → spelled ≡ Err e
