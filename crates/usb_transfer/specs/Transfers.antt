-- What each call tells of its transfer: how few attempts were made, which they were and what was
-- heard of each, and what that says of each device.
use Rattle.std.specs.Prelude.{◌≡◌, ◌≢◌, ℕ, ◌+◌, ◌≤◌, List, [], length, Bool, true, false, Option}
use Rattle.std.specs.Prelude.{Result, Err, OnOk, IfOk, MatchResult}
use Rattle.arrayvec.specs.ArrayVec.{ArrayVec}
use Rattle.std.specs.Global.{Vec}
use Rattle.std.specs.Int.{div_ceil}
use Rattle.usb_request.specs.{Setup}
use Rattle.usb_world.specs.{is_harmless, EachWas, World, IsSettled}
use Rattle.usb_transfer.specs.declared.target.Target.{Target}
use Rattle.usb_transfer.specs.Answerers.{Answerer}
use Rattle.usb_transfer.specs.Losses.{begins_no_stretch}
use Rattle.usb_transfer.specs.SparedDevices.{EachSpared}
use Rattle.usb_transfer.specs.Transactions.{AttemptsMade}
use Rattle.usb_transfer.specs.TransactionFailures.{NoThreeDamaged}
use Rattle.usb_transfer.specs.declared.fault.PipeFault.{PipeFault}
use Rattle.usb_transfer.specs.declared.fault.PipeFault.TheVariants.{Memory}
use Rattle.usb_transfer.specs.EndpointPipes.{PipeState, Sends, Receives, Clears, PipePolls}
use Rattle.usb_transfer.specs.Control.{FaultAfter}
use Rattle.usb_transfer.specs.InterruptPipes.{Interrupt, Polls}
use Rattle.usb_transfer.specs.Stages.{PutsData, Reads, Writes}
use Rattle.usb_transfer.specs.Leaves.{IsNoBusFault, ReadLeaves, WriteLeaves, LossesOf, LossesKept}
use Rattle.usb_transfer.specs.Leaves.{SendLeaves, ReceiveLeaves, ClearLeaves, PacketLeaves}
use Rattle.usb_transfer.specs.Leaves.{PollLeaves}
use Rattle.usb_transfer.specs.DataWrites.{DataWriteLeaves}
use Rattle.usb_transfer.specs.Failures.{ControlReadFailure, WriteFailure, SendFailure}
use Rattle.usb_transfer.specs.Failures.{ReceiveFailure, DataWriteFailure, PacketFailure}
use Rattle.usb_transfer.specs.Failures.{PollingFailure}

-- When it is so

-- no address was ever held twice
abbrev pub Unshared : World → Type 0 → Type 0
Unshared new F = new.shared ≡ false → F

-- the bus did not give up either
abbrev pub Completed : {A : Type 0} → Result A PipeFault → World → Type 0 → Type 0
Completed result new F = IsNoBusFault result → new.shared ≡ false → F

-- and no three attempts running are damaged
abbrev pub Undamaged : {A : Type 0} → World → Result A PipeFault → World → Type 0 → Type 0
Undamaged old result new F = NoThreeDamaged old → IsNoBusFault result → new.shared ≡ false → F

-- Control transfers (8.5.3)

-- a control read: if it is done, it gave the bytes that the device answers the request with, as
-- many as were wanted; whatever its
-- answer is, nothing of any device changed but where its own transfer stands
pub record ControlRead (t : Target) (request : Setup) (old : World)
    (result : Result (Vec ℕ) PipeFault) (new : World) : Type 0 where
  pub ends : MatchResult result (λ _. AttemptsMade 3 old new) (λ fault. FaultAfter 1 old fault new)
  pub stages : Reads t request old result new
  pub settled : IsSettled old.roots
  pub most : IfOk result (λ bytes. length bytes.items ≤ request.length)
  pub what : Unshared new (EachWas (ReadLeaves t request result old new) old new)
  pub why : 8 ≤ t.max → Undamaged old result new (EachWas (ControlReadFailure t request result) old
      new)
  pub who : OnOk result (Unshared new (Answerer t old new))
  pub losses : Completed result new (EachWas (LossesKept t old new) old new)

-- a request without data: if it is done, it had its effect in the device, as it was last accepted;
-- SET_ADDRESS has it where the device
-- saw the last ACK (9.4.6). One that failed had it or not, and nothing else changed. Of a device
-- that the reset of a port may have
-- reached nothing is said; a request that clears a change of connection begins another stretch of
-- losses
pub record ControlWrite (t : Target) (request : Setup) (old : World)
    (result : Result (Unit {0}) PipeFault) (new : World) : Type 0 where
  pub ends : MatchResult result (λ _. AttemptsMade 2 old new) (λ fault. FaultAfter 1 old fault new)
  pub stages : Writes t request old result new
  pub settled : IsSettled old.roots
  pub room : result ≢ Err Memory
  pub what : Unshared new (EachSpared t request (WriteLeaves t request result old new) old new)
  pub why : Undamaged old result new (EachSpared t request (WriteFailure t result) old new)
  pub who : OnOk result ((is_harmless request ≡ false → t.addr ≢ 0)
      → Unshared new (Answerer t old new))
  pub losses : begins_no_stretch request ≡ true
      → Completed result new (EachSpared t request (LossesOf t request result old new) old new)

-- a request with data to the device: how few attempts were made, and which: a SETUP, one for each
-- packet, and an IN; if it is done, the device has taken the data once, and if it failed, all or
-- none. It counts no address loss; a request that clears a change of connection begins another
-- stretch of losses
pub record DataWrite (t : Target) (request : Setup) (bytes : List ℕ) (old : World)
    (result : Result (Unit {0}) PipeFault) (new : World) : Type 0 where
  pub ends : MatchResult result (λ _. AttemptsMade (div_ceil (length bytes) t.max + 2) old new)
      (λ fault. FaultAfter 1 old fault new)
  pub stages : PutsData t request bytes old result new
  pub settled : IsSettled old.roots
  pub room : result ≢ Err Memory
  pub what : Unshared new
      (EachSpared t request (DataWriteLeaves t request bytes result old new) old new)
  pub why : Undamaged old result new (EachSpared t request (DataWriteFailure t request result) old
      new)
  pub who : OnOk result ((is_harmless request ≡ false → t.addr ≢ 0)
      → Unshared new (Answerer t old new))
  pub losses : begins_no_stretch request ≡ true
      → Completed result new (EachSpared t request (LossesKept t old new) old new)

-- Pipes to endpoints besides endpoint 0 (5.7, 5.8)

-- bytes that were sent joined what the device took, all of them, in order and once; of a transfer
-- that failed a front did
pub record PipeSend (bytes : List ℕ) (pipe : PipeState) (old : World)
    (result : Result (Unit {0}) PipeFault) (left : PipeState) (new : World) : Type 0 where
  pub sends : Sends bytes pipe old result left new
  pub what : Unshared new (EachWas (SendLeaves bytes pipe result left) old new)
  pub why : Undamaged old result new (EachWas (SendFailure pipe result) old new)
  pub who : OnOk result (bytes ≢ [] → Unshared new (Answerer pipe.target old new))
  pub losses : IsNoBusFault result → new.losses ≡ old.losses

-- bytes that were received are the next packets of the endpoint, end to end, none twice and none
-- left out
pub record PipeReceive (wanted : ℕ) (pipe : PipeState) (old : World)
    (result : Result (Vec ℕ) PipeFault) (left : PipeState) (new : World) : Type 0 where
  pub receives : Receives wanted pipe old result left new
  pub what : Unshared new (EachWas (ReceiveLeaves pipe result left) old new)
  pub why : Undamaged old result new (EachWas (ReceiveFailure wanted pipe result) old new)
  pub who : OnOk result (wanted ≢ 0 → Unshared new (Answerer pipe.target old new))
  pub losses : pipe.ep ≢ 0 → IsNoBusFault result → new.losses ≡ old.losses

-- a clear of a halt moves no bytes (9.4.5); one that is done lets both ends begin again at DATA0,
-- and an endpoint that gives packets goes on with the first whose ACK it has not seen
pub record PipeClear (is_sent : Bool) (pipe : PipeState) (old : World)
    (result : Result (Unit {0}) PipeFault) (left : PipeState) (new : World) : Type 0 where
  pub clears : Clears is_sent pipe old result left new
  pub what : Unshared new (EachWas (ClearLeaves is_sent pipe result left) old new)
  pub why : Undamaged old result new (EachWas (WriteFailure pipe.target result) old new)
  pub who : OnOk result (is_sent ≡ true → Unshared new (Answerer pipe.target old new))

-- a packet that a poll tells is the next one of the endpoint, none twice and none left out; a NAK
-- is an answer, and whatever failed the pipe goes on as it was
pub record PipePoll (pipe : PipeState) (old : World)
    (result : Result (Option (ArrayVec ℕ)) PipeFault) (left : PipeState) (new : World) : Type 0
  where
    pub polls : PipePolls pipe old result left new
    pub what : Unshared new (EachWas (PacketLeaves pipe result left) old new)
    pub why : Undamaged old result new (EachWas (PacketFailure pipe result) old new)
    pub who : OnOk result (Unshared new (Answerer pipe.target old new))
    pub losses : pipe.ep ≢ 0 → IsNoBusFault result → new.losses ≡ old.losses

-- Interrupt pipes (5.7)

-- what a hub's status endpoint gives is the bits of its ports at a moment of the poll, and where it
-- gives nothing, no port told of a change then (11.12.3)
pub record InterruptPoll (pipe : Interrupt) (old : World)
    (result : Result (Option (ArrayVec ℕ)) PipeFault) (left : Interrupt) (new : World) : Type 0
  where
    pub polls : Polls pipe old result left new
    pub settled : IsSettled old.roots
    pub what : Unshared new (EachWas (PollLeaves pipe old result left new) old new)
    pub why : Undamaged old result new (EachWas (PollingFailure pipe result) old new)
    pub who : OnOk result (Unshared new (Answerer pipe.target old new))
    pub losses : pipe.ep ≢ 0 → IsNoBusFault result → new.losses ≡ old.losses
