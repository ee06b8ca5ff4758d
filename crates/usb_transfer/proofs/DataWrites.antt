-- Control transfers with data to the device: which attempts they make, and who answers them.
use Rattle.std.proofs.Common.{arith, inl, inr, ◌≡◌, ◌≢◌, ℕ, List, [], take, Result, Ok, Err, refl}
use Rattle.std.proofs.Common.{false}
use Rattle.usb_packet.specs.{Toggle, One, flips}
use Rattle.usb_request.specs.{Setup, bytes_of, setup_of}
use Rattle.usb_world.specs.{here, Course, is_harmless, Step, World, IsSettled}
use Rattle.usb_world.proofs.Interface.{course_joined, course_wider}
use Rattle.usb_transfer.specs.{Answerer, heard_as, heard_when_sent, in_attempt, out_attempt}
use Rattle.usb_transfer.specs.{set_up_as, setup_attempt, Target, Transacted, TransactionDone}
use Rattle.usb_transfer.specs.{AllGone, Asks, Gave, IsBehindData, IsOfDataWrite, PipeFault}
use Rattle.usb_transfer.specs.{PutsData, SetUp, TransferAttempts}
use Rattle.usb_transfer.proofs.Trails.{trail_course}
use Rattle.usb_transfer.specs.Moves as moves
use Rattle.usb_transfer.proofs.Answerers.{gave_passed, passed_then, set_up_passed, in_answered}
use Rattle.usb_transfer.proofs.Attempts.{lost_kind}

-- Attempts

module _ (t : Target) where
  pub put_behind : (toggle : Toggle) (bytes : List ℕ) {old new : World}
      {result : Result (List ℕ) _}
      → TransactionDone heard_when_sent (out_attempt t 0 toggle bytes) old result new
      → Course (IsBehindData t) old new
  put_behind toggle bytes e = grind (arith, trail_course)

  pub asked_behind : (awaited : Toggle) {old new : World} {result : Result (List ℕ) _}
      → TransactionDone (heard_as awaited) (in_attempt t 0) old result new
      → Course (IsBehindData t) old new
  asked_behind awaited e = trail_course (λ w made. inl refl) e.trail

  pub gave_behind : {first : Toggle} {old : World} {n : ℕ} {sent : List ℕ} {new : World}
      → Gave t 0 first old n sent new → Course (IsBehindData t) old new
  gave_behind {old = old} moves.start = here old
  gave_behind {first} (moves.packet {n} bytes g full some fits puts) =
      course_joined (gave_behind g) (search put_behind)

module _ (t : Target) (request : Setup) where
  abbrev Kind : Step → World → Type 0
  Kind = IsOfDataWrite t request

  behind_set_up : {old new : World} → Course (IsBehindData t) old new → Course Kind old new
  behind_set_up c = course_wider (λ s w b. inr b) c

  asked_first : {old new : World} → SetUp t request old (Ok []) new → Course Kind old new
  asked_first e = trail_course (λ w made. inl refl) e.trail

  pub put_attempts : (bytes : List ℕ) (result : Result (Unit {0}) PipeFault) (old new : World)
      → PutsData t request bytes old result new
      → TransferAttempts (IsOfDataWrite t request) old result new
  put_attempts bytes (Ok done) old new x = record {
    whole = λ n. course_joined (asked_first x.set_up)
        (behind_set_up (course_joined (gave_behind t x.data_stage.gone) (asked_behind t One
        x.status)));
    cut = λ f e. cc e;
  }
  put_attempts bytes (Err why) old new (inl x) =
      lost_kind Kind set_up_as (setup_attempt t (bytes_of request)) (λ o w r on. inl refl) why
      x.fault x.told (here old) x.set_up
  put_attempts bytes (Err why) old new (inr (inl x)) =
      let d = x.data_stage in
      lost_kind Kind heard_when_sent (out_attempt t 0 (flips d.packets One) (take t.max d.rest))
      (λ o w r on. inr (inr (flips d.packets One, take t.max d.rest, refl))) why d.fault d.told
      (course_joined (asked_first x.set_up) (behind_set_up (gave_behind t d.before))) d.lost
  put_attempts bytes (Err why) old new (inr (inr x)) =
      lost_kind Kind (heard_as One) (in_attempt t 0) (λ o w r on. inr (inl refl)) why x.fault
      x.told (course_joined (asked_first x.set_up) (behind_set_up
      (gave_behind t x.data_stage.gone))) x.status

-- Who answered

pub who_puts : (t : Target) (request : Setup) (bytes : List ℕ) (u : Unit {0}) (old new : World)
    → setup_of (bytes_of request) ≡ request → (is_harmless request ≡ false → t.addr ≢ 0)
    → IsSettled old.roots → PutsData t request bytes old (Ok u) new → new.shared ≡ false
    → Answerer t old new
who_puts t request bytes u old new same addressed settled x single =
    in_answered t 0 One (Ok x.given) (passed_then (set_up_passed t request addressed same x.set_up)
    (gave_passed t 0 One x.data_stage.gone)) settled tt x.status single

-- What its call tells, from what its stages' calls tell

pub put_whole : (t : Target) (request : Setup) (bytes sent given last : List ℕ)
    {old first second new : World} → sent ≡ bytes_of request → given ≡ []
    → Transacted set_up_as (setup_attempt t sent) old (Ok given) first
    → AllGone t 0 One bytes first second → Asks t One second (Ok last) new
    → PutsData t request bytes old (Ok tt) new
put_whole t request bytes sent given last {old} {first} {second} is nothing set_up gone status =
    record {
      first = first;
      set_up = grind arith;
      second = second;
      data_stage = gone;
      given = last;
      status = status;
    }
