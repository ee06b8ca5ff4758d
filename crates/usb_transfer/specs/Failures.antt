-- Why a whole transfer fails, where no three attempts running are damaged and the device stays
-- reachable.
use Rattle.usb_device.specs.{Location, State, IsSink, IsSource, PollAt, NeverTold}
use Rattle.usb_device.specs.{in_end, out_end, GivesWithin, HasPackets, IsPrompt}
use Rattle.std.specs.Prelude.{◌≡◌, ◌≢◌, ℕ, ◌≤◌, true, false, Option}
use Rattle.std.specs.Prelude.{Result, Err}
use Rattle.arrayvec.specs.ArrayVec.{ArrayVec}
use Rattle.std.specs.Global.{Vec}
use Rattle.usb_request.specs.{Setup}
use Rattle.usb_transfer.specs.declared.target.Target.{Target}
use Rattle.usb_transfer.specs.TransactionFailures.{Listens}
use Rattle.usb_transfer.specs.TransactionLeaves.{IsStatusEndpoint}
use Rattle.usb_transfer.specs.declared.fault.PipeFault.{PipeFault}
use Rattle.usb_transfer.specs.declared.fault.PipeFault.TheVariants.{Busy, NoAnswer}
use Rattle.usb_transfer.specs.EndpointPipes.{PipeState}
use Rattle.usb_transfer.specs.InterruptPipes.{Interrupt}
use Rattle.usb_transfer.specs.Leaves.{IsMaximum, InPipeInSync}

-- a request for data: a device that listens answers, and only a busy one lets the host wait in vain
pub record ControlReadFailure (t : Target) (request : Setup) (result : Result (Vec ℕ) PipeFault)
    (x : Location) (s v : State) : Type 0 where
  pub answered : Listens t x s → IsMaximum t request.length s → result ≢ Err NoAnswer
  pub waited : Listens t x s → IsMaximum t request.length s → s.spec.busy ≡ false
      → s.spec.naks ≤ 200 → result ≢ Err Busy

-- a request without data
pub record WriteFailure (t : Target) (result : Result (Unit {0}) PipeFault) (x : Location)
    (s v : State) : Type 0 where
  pub answered : Listens t x s → result ≢ Err NoAnswer
  pub waited : Listens t x s → s.spec.busy ≡ false → s.spec.naks ≤ 200 → result ≢ Err Busy

-- a request with data to the device, in packets that are no longer than its maximum: a device that
-- listens answers, and only a busy one lets the host wait in vain
pub record DataWriteFailure (t : Target) (request : Setup) (result : Result (Unit {0}) PipeFault)
    (x : Location) (s v : State) : Type 0 where
  pub answered : Listens t x s → IsMaximum t request.length s → result ≢ Err NoAnswer
  pub waited : Listens t x s → IsMaximum t request.length s → s.spec.busy ≡ false
      → s.spec.naks ≤ 200 → result ≢ Err Busy

-- an endpoint that takes bytes answers, and a prompt one does not keep the host waiting
pub record SendFailure (pipe : PipeState) (result : Result (Unit {0}) PipeFault) (x : Location)
    (s v : State) : Type 0 where
  pub answered : Listens pipe.target x s → IsSink pipe.ep pipe.max s → result ≢ Err NoAnswer
  pub waited : Listens pipe.target x s → IsSink pipe.ep pipe.max s
      → IsPrompt (out_end s pipe.ep).pace → result ≢ Err Busy

-- one that gives packets that are as short as the pipe's answers, and where it has as many as are
-- wanted and is prompt, it does not keep the host waiting
pub record ReceiveFailure (wanted : ℕ) (pipe : PipeState) (result : Result (Vec ℕ) PipeFault)
    (x : Location) (s v : State) : Type 0 where
  pub answered : Listens pipe.target x s → (got : ℕ) → InPipeInSync pipe got s
      → GivesWithin pipe.max pipe.ep pipe.max s → result ≢ Err NoAnswer
  pub waited : Listens pipe.target x s → (got : ℕ) → InPipeInSync pipe got s
      → GivesWithin pipe.max pipe.ep pipe.max s → HasPackets pipe.ep pipe.max got wanted s
      → IsPrompt (in_end s pipe.ep).pace → result ≢ Err Busy

-- one that gives packets that are as short as the pipe's answers a poll, be it by NAK or by STALL
pub record PacketFailure (pipe : PipeState) (result : Result (Option (ArrayVec ℕ)) PipeFault)
    (x : Location) (s v : State) : Type 0 where
  pub answered : Listens pipe.target x s → IsSource pipe.ep pipe.max s
      → GivesWithin pipe.max pipe.ep pipe.max s
      → (result ≢ Err NoAnswer) × (result ≢ Err Busy)
  pub halted : Listens pipe.target x s → IsSource pipe.ep pipe.max s
      → (in_end s pipe.ep).state.halted ≡ true → (result ≢ Err NoAnswer) × (result ≢ Err Busy)

-- a hub's status endpoint that is not halted tells its bits, or that there are none
pub record PollingFailure (pipe : Interrupt) (result : Result (Option (ArrayVec ℕ)) PipeFault)
    (x : Location) (s v : State) : Type 0 where
  pub answered : Listens pipe.target x s → IsStatusEndpoint pipe.target pipe.ep s
      → PollAt NeverTold pipe.toggle s → s.changes.halted ≡ false → (why : PipeFault)
      → result ≢ Err why
