-- What a transaction tells.
use Rattle.std.specs.Prelude.{◌≡◌, ℕ, ◌+◌, ◌<◌, ◌≤◌, List, Option, Some, None, true, Result}
use Rattle.std.specs.Prelude.{Ok, Err, ⊤}
use Rattle.arrayvec.specs.ArrayVec.{ArrayVec}
use Rattle.usb_packet.specs.{Toggle, Zero, OutTok, InTok, SetupTok}
use Rattle.usb_world.specs.{Attempt, BusFault, World, HasFault}
use Rattle.usb_transfer.specs.declared.target.Target.{Target}
use Rattle.usb_transfer.specs.declared.trans_fault.TransFault.{TransFault}
use Rattle.usb_transfer.specs.declared.trans_fault.TransFault.TheVariants.{Stalled, Busy, NoAnswer}
use Rattle.usb_transfer.specs.declared.trans_fault.TransFault.TheVariants.{Bus}

pub record IsTarget (t : Target) : Type 0 where
  pub addr_fits : t.addr < 128
  pub max_least : 1 ≤ t.max
  pub max_most : t.max ≤ 64
  pub pre_low : t.pre ≡ true → t.low ≡ true

abbrev pub packed : List ℕ → ArrayVec ℕ
packed bytes = record { items = bytes }

-- SETUP with DATA0
abbrev pub setup_attempt : Target → List ℕ → Attempt
setup_attempt t bytes = record {
  kind = SetupTok;
  addr = t.addr;
  ep = 0;
  low = t.low;
  pre = t.pre;
  max = 8;
  payload = Some (Zero, packed bytes);
}

abbrev pub in_attempt : Target → ℕ → Attempt
in_attempt t ep = record {
  kind = InTok;
  addr = t.addr;
  ep = ep;
  low = t.low;
  pre = t.pre;
  max = t.max;
  payload = None;
}

abbrev pub out_attempt : Target → ℕ → Toggle → List ℕ → Attempt
out_attempt t ep toggle bytes = record {
  kind = OutTok;
  addr = t.addr;
  ep = ep;
  low = t.low;
  pre = t.pre;
  max = t.max;
  payload = Some (toggle, packed bytes);
}

-- so many errors running end a transaction
abbrev pub error_limit : ℕ
error_limit = 3

-- so many NAKs and discarded repeats together end it
abbrev pub wait_limit : ℕ
wait_limit = 256

-- the most attempts of a transaction: so many waits, with two errors before each of them
abbrev pub transaction_bound : ℕ
transaction_bound = 768

-- at least n attempts were made, and the bus is still at work
pub record AttemptsMade (n : ℕ) (old new : World) : Type 0 where
  pub sound : old.fault ≡ None
  pub least : old.attempts + n ≤ new.attempts
  pub still : new.fault ≡ None

-- how few attempts can have come before each answer
abbrev pub Ends : {A : Type 0} → World → Result A TransFault → World → Type 0
Ends old (Ok done) new = AttemptsMade 1 old new
Ends old (Err Stalled) new = AttemptsMade 1 old new
Ends old (Err Busy) new = AttemptsMade wait_limit old new
Ends old (Err NoAnswer) new = AttemptsMade error_limit old new
Ends old (Err (Bus fault)) new = HasFault fault new

-- SETUP is never stalled, and never waits
abbrev pub SetupEnds : World → Result (List ℕ) TransFault → World → Type 0
SetupEnds old (Ok done) new = AttemptsMade 1 old new
SetupEnds old (Err Stalled) new = ⊥
SetupEnds old (Err Busy) new = ⊥
SetupEnds old (Err NoAnswer) new = AttemptsMade error_limit old new
SetupEnds old (Err (Bus fault)) new = HasFault fault new

-- a fault of the bus is the one that it reported last
abbrev pub BusTold : {A : Type 0} → Result A TransFault → Option BusFault → Type 0
BusTold (Ok done) told = ⊤
BusTold (Err Stalled) told = ⊤
BusTold (Err Busy) told = ⊤
BusTold (Err NoAnswer) told = ⊤
BusTold (Err (Bus fault)) told = told ≡ Some fault
