-- One call of the host's own for the device at a path: what the host says of it, over any bus,
-- and over one that does what its world does.
use Rattle.std.specs.Prelude.{◌≡◌, ℕ, ◌*◌, List, length, Bool, true, Option, Result}
use Rattle.std.specs.Global.{Vec}
use Rattle.arrayvec.specs.ArrayVec.{ArrayVec}
use Rattle.usb_request.specs.{Setup}
use Rattle.usb_transfer.specs.{transaction_bound, write_bound}
use Rattle.usb_table.specs.{At, clears_miss, pipe_to, polls_miss, polls_through, receives_miss}
use Rattle.usb_table.specs.{receives_through, sends_miss, sends_through, unless_broken}
use Rattle.usb_table.specs.{write_target}
use Rattle.usb_host.specs.{ClearOfTells, ControlsAnyBus, HostFault, HostState, MovesAnyBus}
use Rattle.usb_host.specs.{ReceiveTells, ReportTells, SendTells, StopsAsTransfer, WriteTells}
use Rattle.usb_host.specs.{pipe_for}

abbrev pub CallOf : Type 0 → Type 1
CallOf A = HostState → Result A HostFault → HostState → Type 0

-- what the host says of a call
pub record Called {A : Type 0} (modelled : Bool) (AnyBus Tells : CallOf A) (old : HostState)
    (result : Result A HostFault) (new : HostState) : Type 0 where
  pub any_bus : AnyBus old result new
  pub stopped : StopsAsTransfer old result new
  pub tells : modelled ≡ true → Tells old result new

-- bytes were sent to an OUT endpoint
abbrev pub Sends : Bool → List ℕ → ℕ → List ℕ → CallOf (Unit {0})
Sends modelled path endpoint bytes = Called modelled
    (λ old. MovesAnyBus modelled (transaction_bound * length bytes)
    (unless_broken (pipe_for (sends_through (At endpoint)) (sends_miss (At endpoint)) path old))
    old)
    (SendTells path (At endpoint) bytes)

-- so many packets were received from a bulk IN endpoint
abbrev pub Receives : Bool → List ℕ → ℕ → ℕ → CallOf (Vec ℕ)
Receives modelled path endpoint packets = Called modelled
    (λ old. MovesAnyBus modelled (transaction_bound * packets)
    (unless_broken (pipe_for (receives_through (At endpoint)) (receives_miss (At endpoint)) path
    old)) old)
    (ReceiveTells path (At endpoint) packets)

-- an interrupt IN endpoint was asked once
abbrev pub Polls : Bool → List ℕ → ℕ → CallOf (Option (ArrayVec ℕ))
Polls modelled path endpoint = Called modelled
    (λ old. MovesAnyBus modelled transaction_bound
    (unless_broken (pipe_for (polls_through endpoint) (polls_miss endpoint) path old)) old)
    (ReportTells path endpoint)

-- the halt of an endpoint was cleared
abbrev pub Clears : Bool → List ℕ → ℕ → CallOf (Unit {0})
Clears modelled path endpoint = Called modelled
    (λ old. MovesAnyBus modelled write_bound
    (pipe_for (pipe_to endpoint) (clears_miss endpoint) path old) old)
    (ClearOfTells path endpoint)

-- a request was made, with these bytes
abbrev pub Writes : Bool → List ℕ → Setup → List ℕ → CallOf (Unit {0})
Writes modelled path request bytes = Called modelled
    (λ old. ControlsAnyBus modelled (write_target path request old.entries) request old)
    (WriteTells path request bytes)
