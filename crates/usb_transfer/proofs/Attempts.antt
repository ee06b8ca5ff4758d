-- Which attempts a transfer made, as a course of the world.
use Rattle.std.proofs.Common.{inl, inr, ℕ, List, [], ◌∷◌, ◌++◌, length, take, min, ◌*◌, ◌<◌, ◌≤◌}
use Rattle.std.proofs.Common.{Bool, Option, Result, Ok, Err, refl, ◌≡◌, ◌⊎◌, sym, subst, ◌∙◌, arith}
use Rattle.std.proofs.Common.{append_assoc, append-nil, length-append}
use Rattle.std.specs.Global.{Vec}
use Rattle.std.proofs.lemmas.List.{take_min}
use Rattle.std.proofs.Math.Seq.{take-append_seam, take-length}
use Rattle.arrayvec.specs.ArrayVec.{ArrayVec}
use Rattle.usb_packet.specs.{Toggle, One, flips}
use Rattle.usb_request.specs.{Setup, clear_endpoint_halt, bytes_of}
use Rattle.usb_world.specs.{World, Course, here, Step, attempt, Attempt, BusFault, Outcome}
use Rattle.usb_world.proofs.Interface.{course_joined, course_then, course_wider}
use Rattle.usb_transfer.specs.{Target, TransFault, IsOnly, heard_as, heard_when_sent, set_up_as}
use Rattle.usb_transfer.specs.{TransactionDone, AttemptLog, start as none_yet, next, KeepsTrying}
use Rattle.usb_transfer.specs.{Transacted, in_attempt, out_attempt, setup_attempt}
use Rattle.usb_transfer.specs.declared.trans_fault.TransFault.TheVariants as trans
use Rattle.usb_transfer.proofs.Trails.{polled_attempts, trail_course}
use Rattle.usb_transfer.specs.{IsOfTransfer, TransferAttempts, PipeState, halt_address, Receives}
use Rattle.usb_transfer.specs.{Clears, Sends, as_pipe_fault, packet_target, Interrupt, Polls}
use Rattle.usb_transfer.specs.{PollAsked, IsBehind, Came, ReceiveEnds, Gave, SendsAt, SendEnds}
use Rattle.usb_transfer.specs.{Goes, DataStage, SetUp, DataLost, NoRoom, Reads, Writes, PipeFault}
use Rattle.usb_transfer.specs.{PipePolls}
use Rattle.usb_transfer.specs.Moves as moves
use Rattle.usb_transfer.specs.Stages as stages
use Rattle.usb_transfer.specs.declared.fault.PipeFault.TheVariants as pipe_fault
use Rattle.usb_transfer.proofs.BulkCalls.{receive_by, clear_by, poll_by, send_by}
use Rattle.usb_transfer.proofs.ControlSteps.{transacted_ended}

-- a transaction of IN, or of the OUT that ends a read
pub in_behind : {t : Target} (awaited : Toggle) {old new : World}
    {result : Result (List ℕ) TransFault} → TransactionDone (heard_as awaited) (in_attempt t 0) old
    result new → Course (IsBehind t) old new
in_behind awaited e = trail_course (λ w made. inl refl) e.trail

pub out_behind : {t : Target} {old new : World} {result : Result (List ℕ) TransFault}
    → TransactionDone heard_when_sent (out_attempt t 0 One []) old result new
    → Course (IsBehind t) old new
out_behind e = trail_course (λ w made. inr refl) e.trail

pub goes_behind : {t : Target} {wanted : ℕ} {old : World} {n : ℕ} {got : List ℕ} {new : World}
    → Goes t wanted old n got new → Course (IsBehind t) old new
goes_behind {old = old} stages.start = here old
goes_behind (stages.packet {n} bytes g x l) =
    course_joined (goes_behind g) (in_behind (flips n One) x)

pub stage_behind : {t : Target} {wanted : ℕ} {bytes : List ℕ} {old new : World}
    → DataStage t wanted old bytes new → Course (IsBehind t) old new
stage_behind d = course_joined (goes_behind d.before) (in_behind (flips d.packets One) d.came)

-- Which attempts a transfer made

-- the attempts of a transaction whose attempt is of a kind, while it goes on
module _ (K : Step → World → Type 0) (hear : _) (a : Attempt) {mid : World}
    (kind : (outcomes : List Outcome) (w : World) → AttemptLog a mid outcomes w
    → KeepsTrying hear outcomes → K (attempt a) w) where
  trail_kind : {outcomes : List Outcome} {now : World} → AttemptLog a mid outcomes now
      → KeepsTrying hear outcomes → Course K mid now
  unfolding KeepsTrying
  trail_kind none_yet on = here mid
  trail_kind (next w r made) on = course_then (attempt a) (trail_kind r on.3) (kind _ _ r on.3)

  last_kind : {last : Outcome} {outcomes : List Outcome} {now : World}
      → AttemptLog a mid (last ∷ outcomes) now → KeepsTrying hear outcomes → Course K mid now
  last_kind log on = grind (arith, course_then, trail_kind)

  -- a transfer that failed as its last transaction did
  pub lost_kind : {A : Type 0} {old new : World} (why : PipeFault) (fault : TransFault)
      → why ≡ as_pipe_fault fault → Course K old mid → Transacted hear a mid (Err fault) new
      → TransferAttempts {A = A} K old (Err why) new
  lost_kind why fault told c x =
      grind (arith, course_joined, last_kind, trail_kind, transacted_ended)

-- a call that makes no attempt
idle_kind : {A : Type 0} {K : Step → World → Type 0} {old new : World} {result : Result A PipeFault}
    → new ≡ old → ((fault : BusFault) → result ≡ Err (pipe_fault.Bus fault) → ⊥)
    → TransferAttempts K old result new
idle_kind {K} {old} kept sound = record {
  whole = λ n. subst (λ w. Course K old w) (sym kept) (here old);
  cut = λ f e. absurd (sound f e);
}

-- Control transfers

module _ (t : Target) (request : Setup) where
  abbrev K : Step → World → Type 0
  K = IsOfTransfer t request

  behind : {old new : World} → Course (IsBehind t) old new → Course K old new
  behind c = course_wider (λ s w b. inr b) c

  asked_first : {old new : World} → SetUp t request old (Ok []) new → Course K old new
  asked_first e = trail_course (λ w made. inl refl) e.trail

  no_set_up : {A : Type 0} (why : PipeFault) (fault : TransFault) (old new : World)
      → why ≡ as_pipe_fault fault → SetUp t request old (Err fault) new
      → TransferAttempts {A = A} K old (Err why) new
  no_set_up why fault old new told x = lost_kind K set_up_as (setup_attempt t (bytes_of request))
      (λ o w r on. inl refl) why fault told (here old) x

  no_data : (why : PipeFault) (old mid new : World) → Course K old mid
      → DataLost t request.length mid why new ⊎ NoRoom t request.length mid why new
      → TransferAttempts {A = Vec ℕ} K old (Err why) new
  no_data why old mid new c (inl d) = lost_kind K (heard_as (flips d.packets One)) (in_attempt t 0)
      (λ o w r on. inr (inl refl)) why d.fault d.told
      (course_joined c (behind (goes_behind d.before))) d.lost
  no_data why old mid new c (inr d) = record {
    whole = search (behind, course_joined, goes_behind, in_behind, d.before, d.packets, d.came);
    cut = λ f e. cc (d.told, e);
  }

  pub read_attempts : (result : Result (Vec ℕ) PipeFault) (old new : World)
      → Reads t request old result new → TransferAttempts (IsOfTransfer t request) old result new
  read_attempts (Ok bytes) old new x =
      record {
        whole = λ n. course_joined (asked_first x.set_up)
            (behind (course_joined (stage_behind x.data_stage) (out_behind x.status)));
        cut = λ f e. cc e;
      }
  read_attempts (Err why) old new (inl x) = no_set_up why x.fault old new x.told x.set_up
  read_attempts (Err why) old new (inr (inl x)) =
      no_data why old x.mid new (asked_first x.set_up) x.data_stage
  read_attempts (Err why) old new (inr (inr x)) =
      lost_kind K heard_when_sent (out_attempt t 0 One []) (λ o w r on. inr (inr refl)) why x.fault
      x.told (course_joined (asked_first x.set_up) (behind (stage_behind x.data_stage)))
      x.status

  pub write_attempts : (result : Result (Unit {0}) PipeFault) (old new : World)
      → Writes t request old result new → TransferAttempts (IsOfTransfer t request) old result new
  write_attempts (Ok u) old new x = record {
    whole = λ n. course_joined (asked_first x.set_up) (behind (in_behind One x.status));
    cut = λ f e. cc e;
  }
  write_attempts (Err why) old new (inl x) = no_set_up why x.fault old new x.told x.set_up
  write_attempts (Err why) old new (inr x) = lost_kind K (heard_as One) (in_attempt t 0)
      (λ o w r on. inr (inl refl)) why x.fault x.told (asked_first x.set_up) x.status

pub clear_attempts : (is_sent : Bool) (pipe : PipeState) (result : Result (Unit {0}) PipeFault)
    (left : PipeState) (old new : World) → Clears is_sent pipe old result left new
    → TransferAttempts (IsOfTransfer pipe.target
    (clear_endpoint_halt (halt_address pipe.ep pipe.is_in))) old result new
clear_attempts is_sent pipe result left old new x =
    clear_by _ (grind (arith, idle_kind))
    (grind (arith, write_attempts)) x

-- Pipes to the host

came_attempts : (t : Target) (ep : ℕ) (first : Toggle) {old : World} {n : ℕ} {got : List ℕ}
    {new : World} → Came t ep first old n got new → Course (IsOnly (in_attempt t ep)) old new
came_attempts t ep first {old = old} moves.start = here old
came_attempts t ep first (moves.packet bytes c x full) =
    course_joined (came_attempts t ep first c) (trail_course (λ w made. refl) x.trail)

moved_attempts : (t : Target) (ep : ℕ) (first : Toggle) (wanted : ℕ)
    (result : Result (Vec ℕ) PipeFault) (old new : World)
    → ReceiveEnds t ep first wanted old result new
    → TransferAttempts (IsOnly (in_attempt t ep)) old result new
moved_attempts t ep first wanted result old new x =
    grind (arith, came_attempts, course_joined, lost_kind, trail_course)

pub receive_attempts : (wanted : ℕ) (pipe : PipeState) (result : Result (Vec ℕ) PipeFault)
    (left : PipeState)
    (old new : World) → Receives wanted pipe old result left new
    → TransferAttempts (IsOnly (in_attempt (packet_target pipe.target pipe.max) pipe.ep)) old
    result new
receive_attempts wanted pipe result left old new x =
    receive_by _ (grind (arith, idle_kind))
    (grind (arith, idle_kind))
    (grind (arith, moved_attempts)) x

-- Polls

asked_attempts : (pipe : Interrupt) (result : Result (Option (ArrayVec ℕ)) PipeFault)
    (old new : World) → PollAsked pipe old result new
    → TransferAttempts (IsOnly (in_attempt pipe.target pipe.ep)) old result new
asked_attempts pipe result old new x = grind (arith, polled_attempts, trail_course)

pub poll_attempts : (pipe : Interrupt) (result : Result (Option (ArrayVec ℕ)) PipeFault)
    (left : Interrupt) (old new : World)
    → Polls pipe old result left new → TransferAttempts (IsOnly (in_attempt pipe.target pipe.ep))
    old result new
poll_attempts pipe result left old new x = grind (arith, asked_attempts, x.asked)

pub packet_attempts : (pipe : PipeState) (result : Result (Option (ArrayVec ℕ)) PipeFault)
    (left : PipeState) (old new : World) → PipePolls pipe old result left new
    → TransferAttempts (IsOnly (in_attempt (packet_target pipe.target pipe.max) pipe.ep)) old
    result new
packet_attempts pipe result left old new x =
    poll_by _ (grind (arith, idle_kind))
    (grind (arith, asked_attempts)) x

-- Sends, packet by packet

-- a packet is as many of the bytes from it on as fit, where it is full or nothing is behind it
take-packet : (max : ℕ) (bytes rest : List ℕ) → length bytes ≤ max
    → (0 < length rest → length bytes ≡ max) → take max (bytes ++ rest) ≡ bytes
take-packet max bytes [] short full = let all : min max (length bytes) ≡ length bytes =
    omega (arith, short) in grind (arith, append-nil, take-length, take_min)
take-packet max bytes (b ∷ rest) short full = grind (arith, take-append_seam)

module _ (t : Target) (ep : ℕ) (first : Toggle) (total : List ℕ) (old : World) where
  abbrev Kind : Step → World → Type 0
  Kind = SendsAt t ep first total old

  moment_is : {n : ℕ} {sent : List ℕ} {mid : World} (rest : List ℕ) → Gave t ep first old n sent mid
      → length sent ≡ n * t.max → total ≡ sent ++ rest → (outcomes : List Outcome) (w : World)
      → AttemptLog (out_attempt t ep (flips n first) (take t.max rest)) mid outcomes w
      → KeepsTrying heard_when_sent outcomes
      → Kind (attempt (out_attempt t ep (flips n first) (take t.max rest))) w
  moment_is {n} {sent} {mid} rest g full split outcomes w r on =
      record {
        moment = grind arith;
        is = refl;
      }

  -- packets that were acknowledged, with the rest behind them
  gave_course : {n : ℕ} {sent : List ℕ} {now : World} → Gave t ep first old n sent now
      → (rest : List ℕ) → total ≡ sent ++ rest → (0 < length rest → length sent ≡ n * t.max)
      → Course Kind old now
  gave_course moves.start rest split full = here old
  gave_course {now = now} (moves.packet {n} {sent} {mid} bytes g even some fits puts) rest split
      full =
      let j = length-append sent bytes in
      let front : take t.max (bytes ++ rest) ≡ bytes = grind (arith, take-packet) in
      let behind : total ≡ sent ++ (bytes ++ rest) = split ∙ append_assoc sent bytes rest in
      let went : TransactionDone heard_when_sent
      (out_attempt t ep (flips n first) (take t.max (bytes ++ rest))) mid (Ok []) now =
      rw front puts in
      course_joined (gave_course g (bytes ++ rest) behind (λ lt. even))
      (search (behind, last_kind, moment_is))

  send_ends : (result : Result (Unit {0}) PipeFault) (new : World)
      → SendEnds t ep first total old result new → TransferAttempts Kind old result new
  send_ends (Ok done) new x = record {
    whole = λ n. gave_course x.gone [] (sym (append-nil total)) (grind arith);
    cut = λ f e. cc e;
  }
  send_ends (Err why) new x =
      lost_kind Kind heard_when_sent (out_attempt t ep (flips x.packets first) (take t.max x.rest))
      (moment_is x.rest x.before x.full x.split) why x.fault x.told
      (grind (arith, gave_course)) x.lost

pub send_attempts : (bytes : List ℕ) (pipe : PipeState) (result : Result (Unit {0}) PipeFault)
    (left : PipeState) (old new : World) → Sends bytes pipe old result left new
    → TransferAttempts (SendsAt (packet_target pipe.target pipe.max) pipe.ep pipe.toggle bytes
    old) old result new
send_attempts bytes pipe result left old new x =
    send_by _ (grind (arith, idle_kind))
    (grind (arith, idle_kind)) (grind (arith, send_ends)) x
