-- The address losses that transfers of pipes count: none.
use Rattle.std.specs.Global.{Vec}
use Rattle.std.proofs.Common.{arith, ◌≡◌, ℕ, List, Option, refl, ◌∙◌, ◌≢◌, ap, Result, Err}
use Rattle.arrayvec.specs.ArrayVec.{ArrayVec}
use Rattle.usb_packet.specs.{Toggle, flips}
use Rattle.usb_world.specs.{IsSettled, World}
use Rattle.usb_transfer.specs.{Polled, in_attempt, TransFault, Target}
use Rattle.usb_transfer.specs.declared.trans_fault.TransFault.TheVariants as trans
use Rattle.usb_transfer.proofs.AddressLosses.{other_losses, out_losses}
use Rattle.usb_transfer.specs.{PipeState, Sends, Receives, as_pipe_fault, Interrupt, PollAsked}
use Rattle.usb_transfer.specs.{Polls, IsNoBusFault, Gave, Came, SendEnds, ReceiveEnds, PipeFault}
use Rattle.usb_transfer.specs.Moves as moves
use Rattle.usb_transfer.proofs.BulkCalls.{send_by, receive_by, received_settled, gave_settled}
use Rattle.usb_transfer.proofs.ControlSteps.{transacted_ended}

-- Bulk transfers from the host

gave_losses : (t : Target) (ep : ℕ) (first : Toggle) {old : World} {n : ℕ} {sent : List ℕ}
    {new : World} → IsSettled old.roots → Gave t ep first old n sent new → new.losses ≡ old.losses
gave_losses t ep first settled moves.start = refl
gave_losses t ep first {new = new} settled (moves.packet {n} {mid = mid} bytes g full some fits
    puts) =
    out_losses t ep (flips n first) bytes mid new (gave_settled g settled) puts.trail
    ∙ gave_losses t ep first settled g

sent_losses : (t : Target) (ep : ℕ) (first : Toggle) (total : List ℕ)
    (result : Result (Unit {0}) PipeFault) (old new : World) → IsSettled old.roots
    → SendEnds t ep first total old result new → IsNoBusFault result → new.losses ≡ old.losses
sent_losses t ep first total result old new settled x sound =
    grind (arith, gave_losses, gave_settled, out_losses, transacted_ended)

-- what leaves the world as it was counts nothing
pub losses_same : {old new : World} → new ≡ old → new.losses ≡ old.losses
losses_same e = ap (λ w. w.losses) e

pub send_losses : (bytes : List ℕ) (pipe : PipeState) (result : Result (Unit {0}) PipeFault)
    (left : PipeState) (old new : World) → Sends bytes pipe old result left new
    → IsNoBusFault result
    → new.losses ≡ old.losses
send_losses bytes pipe result left old new x sound =
    send_by (new.losses ≡ old.losses) (λ i. losses_same i.world_kept)
    (λ none i. losses_same i.world_kept) (grind (arith, sent_losses)) x

-- Bulk transfers to the host

came_losses : (t : Target) (ep : ℕ) (first : Toggle) {old : World} {n : ℕ} {got : List ℕ}
    {new : World} → ep ≢ 0 → IsSettled old.roots → Came t ep first old n got new
    → new.losses ≡ old.losses
came_losses t ep first other settled moves.start = refl
came_losses t ep first {new = new} other settled (moves.packet {n} {mid = mid} bytes c fetches full)
    =
    other_losses t ep mid new other (received_settled c settled) fetches.trail
    ∙ came_losses t ep first other settled c

received_losses : (t : Target) (ep : ℕ) (first : Toggle) (wanted : ℕ)
    (result : Result (Vec ℕ) PipeFault) (old new : World) → ep ≢ 0 → IsSettled old.roots
    → ReceiveEnds t ep first wanted old result new → IsNoBusFault result → new.losses ≡ old.losses
received_losses t ep first wanted result old new other settled x sound =
    grind (arith, came_losses, other_losses, received_settled, transacted_ended)

pub receive_losses : (wanted : ℕ) (pipe : PipeState) (result : Result (Vec ℕ) PipeFault)
    (left : PipeState)
    (old new : World) → pipe.ep ≢ 0
    → Receives wanted pipe old result left new → IsNoBusFault result → new.losses ≡ old.losses
receive_losses wanted pipe result left old new other x sound =
    grind (arith, losses_same, receive_by, received_losses)

-- Polls

-- one that failed, but for the bus
failed_losses : (pipe : Interrupt) (old new : World) (why : PipeFault) (fault : TransFault)
    → why ≡ as_pipe_fault fault → IsNoBusFault {A = Option (ArrayVec ℕ)} (Err why) → pipe.ep ≢ 0
    → IsSettled old.roots → Polled pipe.toggle (in_attempt pipe.target pipe.ep) old (Err fault) new
    → new.losses ≡ old.losses
failed_losses pipe old new why fault e sound other settled x = grind (arith, other_losses)

asked_losses : (pipe : Interrupt) (result : Result (Option (ArrayVec ℕ)) PipeFault)
    (old new : World) → pipe.ep ≢ 0 → IsSettled old.roots → PollAsked pipe old result new
    → IsNoBusFault result → new.losses ≡ old.losses
asked_losses pipe result old new other settled x sound = grind (arith, failed_losses, other_losses)

pub poll_losses : (pipe : Interrupt) (result : Result (Option (ArrayVec ℕ)) PipeFault)
    (left : Interrupt) (old new : World) → pipe.ep ≢ 0 → IsSettled old.roots
    → Polls pipe old result left new → IsNoBusFault result → new.losses ≡ old.losses
poll_losses pipe result left old new other settled x sound = grind (arith, asked_losses)
