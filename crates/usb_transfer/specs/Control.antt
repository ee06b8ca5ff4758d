-- What a control transfer tells, and how many attempts it may take.
use Rattle.std.specs.Prelude.{ℕ, ◌≡◌, ◌+◌, ◌*◌, Bool, ◌||◌, nat_lt, nat_le, if◌then◌else◌, ⊤}
use Rattle.std.specs.Prelude.{Option, Some, Result, Ok, Err}
use Rattle.usb_world.specs.{BusFault, World, HasFault}
use Rattle.usb_transfer.specs.declared.trans_fault.TransFault.{TransFault}
use Rattle.usb_transfer.specs.declared.trans_fault.TransFault.TheVariants.{Stalled as TransStalled}
use Rattle.usb_transfer.specs.declared.trans_fault.TransFault.TheVariants.{Busy as TransBusy}
use Rattle.usb_transfer.specs.declared.trans_fault.TransFault.TheVariants.{NoAnswer as TransNoAnswer}
use Rattle.usb_transfer.specs.declared.trans_fault.TransFault.TheVariants.{Bus as TransBus}
use Rattle.usb_transfer.specs.Transactions.{AttemptsMade, error_limit, transaction_bound}
use Rattle.usb_transfer.specs.Transactions.{wait_limit}
use Rattle.usb_transfer.specs.declared.fault.PipeFault.{PipeFault}
use Rattle.usb_transfer.specs.declared.fault.PipeFault.TheVariants.{Stalled, Busy, NoAnswer, Broken}
use Rattle.usb_transfer.specs.declared.fault.PipeFault.TheVariants.{Bus, Memory}

-- a transaction's fault as a pipe's
abbrev pub as_pipe_fault : TransFault → PipeFault
as_pipe_fault TransStalled = Stalled
as_pipe_fault TransBusy = Busy
as_pipe_fault TransNoAnswer = NoAnswer
as_pipe_fault (TransBus fault) = Bus fault

-- how few attempts can have come before each fault, where at least n were made before the last
-- transaction
abbrev pub FaultAfter : ℕ → World → PipeFault → World → Type 0
FaultAfter n old Stalled new = AttemptsMade (n + 1) old new
FaultAfter n old Busy new = AttemptsMade (n + wait_limit) old new
FaultAfter n old NoAnswer new = AttemptsMade error_limit old new
FaultAfter n old Broken new = ⊥
FaultAfter n old (Bus fault) new = HasFault fault new
FaultAfter n old Memory new = AttemptsMade (n + 1) old new

-- a packet of this size ends a data stage, where with it `got` of the `wanted` bytes have come
abbrev pub ends_stage : ℕ → ℕ → ℕ → ℕ → Bool
ends_stage size max got wanted = nat_lt size max || nat_le wanted got

-- the most attempts for each byte of a data stage
unfoldable pub byte_bound : ℕ → ℕ
byte_bound max = if nat_le 8 max then 100 else transaction_bound

-- the most attempts of a control transfer without data
abbrev pub write_bound : ℕ
write_bound = 1600

-- the most attempts of a control transfer that reads `length` bytes
unfoldable pub control_bound : ℕ → ℕ → ℕ
control_bound max length = write_bound + byte_bound max * length

-- a fault of the bus is the one that it reported last
abbrev pub BusToldIt : {A : Type 0} → Result A PipeFault → Option BusFault → Type 0
BusToldIt (Ok done) told = ⊤
BusToldIt (Err Stalled) told = ⊤
BusToldIt (Err Busy) told = ⊤
BusToldIt (Err NoAnswer) told = ⊤
BusToldIt (Err Broken) told = ⊤
BusToldIt (Err (Bus fault)) told = told ≡ Some fault
BusToldIt (Err Memory) told = ⊤
