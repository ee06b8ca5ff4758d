-- Why a transaction fails, where no three attempts running are damaged.
use Rattle.usb_device.specs.{Location, State, ending, refused, max_packet, packet_at}
use Rattle.usb_device.specs.{toggle_at, ReadingAt, IsSource, SourceAt, IsSink, PollAt, NeverTold}
use Rattle.usb_device.specs.{Write, writing, in_end, out_end, next_packet, GivesWithin, IsPrompt}
use Rattle.std.specs.Prelude.{◌≡◌, ◌≢◌, ℕ, ◌≤◌, List, length, true, false, Option, Some}
use Rattle.std.specs.Prelude.{is_some, Result, Err}
use Rattle.usb_packet.specs.{Toggle, One}
use Rattle.usb_world.specs.{AtMostTwoRunning, hears_attempt, World, deep_at}
use Rattle.usb_transfer.specs.declared.target.Target.{Target}
use Rattle.usb_transfer.specs.declared.trans_fault.TransFault.{TransFault}
use Rattle.usb_transfer.specs.declared.trans_fault.TransFault.TheVariants.{Busy, NoAnswer}
use Rattle.usb_transfer.specs.TransactionLeaves.{is_at, IsInRead, IsStatusEndpoint}
use Rattle.usb_transfer.specs.Transactions.{in_attempt}

-- no three attempts running are damaged
abbrev pub NoThreeDamaged : World → Type 0
NoThreeDamaged w = AtMostTwoRunning w.damages

-- the device has the target's address, is not silent, and hears what is sent to the target
pub record Listens (t : Target) (x : Location) (s : State) : Type 0 where
  pub at : is_at s t ≡ true
  pub loud : s.spec.silent ≡ false
  pub hears : hears_attempt (in_attempt t 0) (deep_at false x.rest) s ≡ true

-- each packet of the answer is as short as the host wants packets
abbrev pub Fits : Target → ℕ → ℕ → List ℕ → Type 0
Fits t most wanted answer = (k : ℕ) (bytes : List ℕ) → packet_at most wanted answer k ≡ Some bytes
    → length bytes ≤ t.max

-- what the device has for a host that awaits this toggle of endpoint 0: the next packet of a read,
-- a status stage, or a refusal
pub data HasNext (t : Target) (awaited : Toggle) (s : State) : Type 0 where
  data_stage : (answer : List ℕ) (wanted n : ℕ) → awaited ≡ toggle_at n
      → ReadingAt answer wanted n s → is_some (packet_at (max_packet s.spec) wanted answer n) ≡ true
      → Fits t (max_packet s.spec) wanted answer → HasNext t awaited s
  status : (a : Option ℕ) → s.stage ≡ ending a → awaited ≡ One → HasNext t awaited s
  refusal : s.stage ≡ refused → HasNext t awaited s

-- setup data: a device that hears them answers
pub record SetupFailure (t : Target) (result : Result (List ℕ) TransFault) (x : Location)
    (s v : State) : Type 0 where
  pub answered : Listens t x s → result ≢ Err NoAnswer

-- a device that has it answers, and only a busy one goes on waiting
pub record ControlInFailure (t : Target) (awaited : Toggle) (result : Result (List ℕ) TransFault)
    (x : Location) (s v : State) : Type 0 where
  pub answered : Listens t x s → HasNext t awaited s → result ≢ Err NoAnswer
  pub waited : Listens t x s → HasNext t awaited s → s.spec.busy ≡ false → s.naks ≤ 200
      → result ≢ Err Busy

-- the status stage of a control read
pub record StatusReadFailure (t : Target) (result : Result (List ℕ) TransFault) (x : Location)
    (s v : State) : Type 0 where
  pub answered : Listens t x s → IsInRead s → result ≢ Err NoAnswer
  pub waited : Listens t x s → IsInRead s → s.spec.busy ≡ false → s.naks ≤ 200 → result ≢ Err Busy

-- data to endpoint 0: a device in the data stage of a control write takes packets that are no
-- longer than its maximum, and one that refused the request says so; only a busy one goes on
-- waiting
pub data Expects (bytes : List ℕ) (s : State) : Type 0 where
  data_write : (w : Write) → s.stage ≡ writing w → length bytes ≤ max_packet s.spec
      → Expects bytes s
  refused_write : s.stage ≡ refused → Expects bytes s

pub record WriteOutFailure (t : Target) (bytes : List ℕ) (result : Result (List ℕ) TransFault)
    (x : Location) (s v : State) : Type 0 where
  pub answered : Listens t x s → Expects bytes s → result ≢ Err NoAnswer
  pub waited : Listens t x s → Expects bytes s → s.spec.busy ≡ false → s.naks ≤ 200
      → result ≢ Err Busy

-- the status stage of a control write
pub record WriteStatusFailure (t : Target) (result : Result (List ℕ) TransFault) (x : Location)
    (s v : State) : Type 0 where
  pub answered : Listens t x s → (w : Write) → s.stage ≡ writing w → result ≢ Err NoAnswer
  pub waited : Listens t x s → (w : Write) → s.stage ≡ writing w → s.spec.busy ≡ false
      → s.naks ≤ 200 → result ≢ Err Busy

-- IN of an endpoint besides endpoint 0: it answers, where its packets are as short as the host
-- wants them; where it has one and is prompt, or is halted, it does not keep the host waiting
pub record SourceInFailure (t : Target) (ep : ℕ) (awaited : Toggle)
    (result : Result (List ℕ) TransFault) (x : Location) (s v : State) : Type 0 where
  pub answered : Listens t x s → (most got : ℕ) → IsSource ep most s
      → SourceAt ep most got awaited s → GivesWithin t.max ep most s → result ≢ Err NoAnswer
  pub waited : Listens t x s → (most got : ℕ) → IsSource ep most s → 1 ≤ most
      → SourceAt ep most got awaited s → GivesWithin t.max ep most s
      → is_some (next_packet s ep most got) ≡ true → IsPrompt (in_end s ep).pace
      → result ≢ Err Busy
  pub halted : Listens t x s → (most : ℕ) → IsSource ep most s
      → (in_end s ep).state.halted ≡ true → (result ≢ Err NoAnswer) × (result ≢ Err Busy)

-- OUT of an endpoint besides endpoint 0: it answers, and a prompt one does not keep the host
-- waiting
pub record SinkOutFailure (t : Target) (ep : ℕ) (toggle : Toggle) (bytes : List ℕ)
    (result : Result (List ℕ) TransFault) (x : Location) (s v : State) : Type 0 where
  pub answered : Listens t x s → (most : ℕ) → IsSink ep most s → length bytes ≤ most
      → result ≢ Err NoAnswer
  pub waited : Listens t x s → (most : ℕ) → IsSink ep most s → IsPrompt (out_end s ep).pace
      → result ≢ Err Busy

-- a hub's status endpoint that is not halted gives its bytes, or says that there are none
pub record PollFailure (t : Target) (ep : ℕ) (toggle : Toggle)
    (result : Result (Option (List ℕ)) TransFault) (x : Location) (s v : State) : Type 0 where
  pub answered : Listens t x s → IsStatusEndpoint t ep s → PollAt NeverTold toggle s
      → s.changes.halted ≡ false → (fault : TransFault) → result ≡ Err fault → ⊥

-- an endpoint besides endpoint 0 that is polled: it answers, where its packets are as short as the
-- host wants them, or where it is halted. A NAK ends the poll, and repeats are few
pub record SourcePollFailure (t : Target) (ep : ℕ) (awaited : Toggle)
    (result : Result (Option (List ℕ)) TransFault) (x : Location) (s v : State) : Type 0 where
  pub answered : Listens t x s → (most : ℕ) → IsSource ep most s → GivesWithin t.max ep most s
      → (result ≢ Err NoAnswer) × (result ≢ Err Busy)
  pub halted : Listens t x s → (most : ℕ) → IsSource ep most s
      → (in_end s ep).state.halted ≡ true → (result ≢ Err NoAnswer) × (result ≢ Err Busy)
