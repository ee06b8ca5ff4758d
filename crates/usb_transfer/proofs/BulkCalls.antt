-- A call through a bulk pipe: it made no attempt, or its transfer.
use Rattle.std.proofs.Common.{◌≡◌, ◌≢◌, ◌⊎◌, inl, inr, refl, arith, ℕ, List, [], ◌∷◌, length, Bool}
use Rattle.std.proofs.Common.{true, false, Option, Result, Ok, Err}
use Rattle.arrayvec.specs.ArrayVec.{ArrayVec}
use Rattle.std.specs.Global.{Vec}
use Rattle.std.specs.Int.{div_ceil}
use Rattle.usb_packet.specs.{Toggle}
use Rattle.usb_world.specs.{IsSettled, World}
use Rattle.usb_transfer.specs.{Target, Condition, PipeFault, PipeState, Idle, MovedOut, Sends}
use Rattle.usb_transfer.specs.{MovedIn, packet_target, Receives, Cleared, Clears, PollsOnce}
use Rattle.usb_transfer.specs.{PipePolls, Gave, Came}
use Rattle.usb_transfer.specs.declared.condition.Condition.TheVariants.{Ready, Halted, Broken}
use Rattle.usb_transfer.specs.declared.fault.PipeFault.TheVariants as pipe_fault
use Rattle.usb_transfer.specs.Moves.{start, packet}
use Rattle.usb_transfer.proofs.ControlSteps.{ended_settled}

-- the device, at the endpoint of a pipe
abbrev pub end_of : PipeState → Target
end_of pipe = packet_target pipe.target pipe.max

-- one that works is ready, or halted
condition_decided : (c d : Condition) → (c ≡ d) ⊎ (c ≢ d)
condition_decided c d = grind arith

pub ready_or : (G : Type 0) (c : Condition) → c ≢ Broken → (c ≡ Ready → G) → (c ≡ Halted → G) → G
ready_or G c works ready halted = grind (arith, condition_decided)

pub send_by : {bytes : List ℕ} {pipe : PipeState} {old : World}
    {result : Result (Unit {0}) PipeFault}
    {left : PipeState} {new : World} (G : Type 0)
    → (Idle (Err pipe_fault.Broken) pipe old result left new → G)
    → (bytes ≡ [] → Idle (Ok tt) pipe old result left new → G)
    → (pipe.condition ≢ Broken → bytes ≢ [] → MovedOut (div_ceil (length bytes) pipe.max) bytes pipe
    old result left new → G) → Sends bytes pipe old result left new → G
send_by {bytes} {pipe} G broken nothing moved x =
    elim (condition_decided pipe.condition Broken) [
      | inl e ↦ broken (x.broken e)
      | inr works ↦ by_bytes works bytes refl
    ]
  where
    by_bytes : pipe.condition ≢ Broken → (b : List ℕ) → bytes ≡ b → G
    by_bytes works [] e = grind arith
    by_bytes works (b ∷ more) e = grind arith

pub receive_by : {wanted : ℕ} {pipe : PipeState} {old : World} {result : Result (Vec ℕ) PipeFault}
    {left : PipeState} {new : World} (G : Type 0)
    → (result ≡ Err pipe_fault.Broken → left ≡ pipe → new ≡ old → G)
    → ((bytes : Vec ℕ) → result ≡ Ok bytes → bytes.items ≡ [] → left ≡ pipe → new ≡ old → G)
    → (pipe.condition ≢ Broken → wanted ≢ 0 → MovedIn wanted pipe old result left new → G)
    → Receives wanted pipe old result left new → G
receive_by G broken nothing moved x = grind (arith, condition_decided)

pub poll_by : {pipe : PipeState} {old : World} {result : Result (Option (ArrayVec ℕ)) PipeFault}
    {left : PipeState} {new : World} (G : Type 0)
    → (Idle (Err pipe_fault.Broken) pipe old result left new → G)
    → (pipe.condition ≢ Broken → PollsOnce pipe old result left new → G)
    → PipePolls pipe old result left new → G
poll_by G broken asked x = grind (arith, condition_decided)

pub clear_by : {is_sent : Bool} {pipe : PipeState} {old : World}
    {result : Result (Unit {0}) PipeFault} {left : PipeState} {new : World} (G : Type 0)
    → (is_sent ≡ false → Idle (Ok tt) pipe old result left new → G)
    → (is_sent ≡ true → Cleared pipe old result left new → G)
    → Clears is_sent pipe old result left new → G
clear_by G ready sent x = grind arith

-- no device remembers a packet between two packets of a transfer

pub gave_settled : {t : Target} {ep : ℕ} {first : Toggle} {old : World} {n : ℕ} {sent : List ℕ}
    {new : World} → Gave t ep first old n sent new → IsSettled old.roots → IsSettled new.roots
gave_settled start h = h
gave_settled (packet bytes g full some fits puts) h = ended_settled puts (gave_settled g h)

pub received_settled : {t : Target} {ep : ℕ} {first : Toggle} {old : World} {n : ℕ} {got : List ℕ}
    {new : World} → Came t ep first old n got new → IsSettled old.roots → IsSettled new.roots
received_settled start h = h
received_settled (packet bytes c fetches full) h = ended_settled fetches (received_settled c h)
