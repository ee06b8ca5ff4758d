-- A poll: what it leaves of each device and tells of it, why it fails, and the record of both, from
-- what its transaction's call tells.
use Rattle.usb_device.specs.{Location, State, PollAt, NeverTold, hub_ports, change_bytes, told_bits}
use Rattle.std.proofs.Common.{◌≡◌, sym, ap, subst, refl, false, true, arith, ℕ, List, Option, Some}
use Rattle.std.proofs.Common.{None, Result, Ok, Err, OnOk}
use Rattle.arrayvec.specs.ArrayVec.{ArrayVec}
use Rattle.usb_world.specs.{IsSettled, World, EachWas}
use Rattle.usb_world.proofs.Interface.{each_wider}
use Rattle.usb_transfer.specs.{TransFault, Answerer, NoThreeDamaged, ChangesIn, PollEnds, ToldBy}
use Rattle.usb_transfer.specs.{IsNotOfBus as TransNotOfBus, in_attempt, IsStatusEndpoint, is_at}
use Rattle.usb_transfer.specs.{PipeFault, as_pipe_fault, PollingFailure, Interrupt, Polls}
use Rattle.usb_transfer.specs.{IsNoBusFault, ToldOf, PollTells, PollLeaves, Unshared, InterruptPoll}
use Rattle.usb_transfer.proofs.Answerers.{who_polls}
use Rattle.usb_transfer.proofs.TransferLosses.{poll_losses}
use Rattle.usb_transfer.proofs.Polls.{changes_told}

-- the bytes of a packet are those of the bits that they tell
same_bytes : (ports bits : ℕ) (got packet : ArrayVec ℕ) → got.items ≡ change_bytes ports bits
    → told_bits got.items ≡ bits
    → ◌≡◌ {A = Result (Option (ArrayVec ℕ)) PipeFault} (Ok (Some got)) (Ok (Some packet))
    → packet.items ≡ change_bytes ports (told_bits packet.items)
same_bytes ports bits got packet came back same = grind arith

-- what a poll of a status endpoint says, by its result
abbrev TellsOf : Interrupt → Interrupt → World → World → Result (Option (ArrayVec ℕ)) PipeFault
    → Location → State → State → Type 0
TellsOf pipe left old new result j s v = PollTells (ToldOf pipe old new j) result
    × ((packet : ArrayVec ℕ) → result ≡ Ok (Some packet)
    → packet.items ≡ change_bytes (hub_ports s.spec.hub) (told_bits packet.items))
    × ((got : Option (ArrayVec ℕ)) → result ≡ Ok got → PollAt NeverTold left.toggle v)

-- one device
leaves_by : (pipe left : Interrupt) (old new : World)
    (result : Result (Option (ArrayVec ℕ)) PipeFault) (told : Result (Option (List ℕ)) TransFault)
    (j : Location) (s v : State) → ChangesIn pipe.target pipe.ep pipe.toggle old told new j s v
    → (hub_ports v.spec.hub ≡ hub_ports s.spec.hub
    → PollEnds (hub_ports s.spec.hub) (ToldBy (in_attempt pipe.target pipe.ep) old told new j)
    pipe.toggle told v → TellsOf pipe left old new result j s v)
    → PollLeaves pipe old result left new j s v
leaves_by pipe left old new result told j s v x f = record {
  others = x.others;
  frame = x.frame;
  tells = λ at is even. (said at is even).0;
  bytes = λ at is even. (said at is even).1;
  level = λ at is even. (said at is even).2;
}
  where
    said : is_at s pipe.target ≡ true → IsStatusEndpoint pipe.target pipe.ep s
        → PollAt NeverTold pipe.toggle s → TellsOf pipe left old new result j s v
    said at is even = search (x.frame, x.poll)

pub poll_tells : (pipe : Interrupt) (result : Result (Option (ArrayVec ℕ)) PipeFault)
    (left : Interrupt) (old new : World) → IsSettled old.roots → Polls pipe old result left new
    → new.shared ≡ false → EachWas (PollLeaves pipe old result left new) old new
poll_tells pipe (Ok None) left old new settled x single =
    each_wider _ _ (λ j s v y. leaves_by pipe left old new (Ok None) (Ok None) j s v y.leaves
    (λ counted told. (
      told.0,
      λ packet r. cc r,
      λ got r. subst (λ t. PollAt NeverTold t v) (grind arith) told.1,
    ))) old new
    (changes_told pipe.target pipe.ep pipe.toggle (Ok None) old new settled x.asked single)
poll_tells pipe (Ok (Some got)) left old new settled x single =
    let turned = ap (λ l. l.toggle) x.pipe_left in
    each_wider _ _
    (λ j s v y. leaves_by pipe left old new (Ok (Some got)) (Ok (Some got.items)) j s v y.leaves
    (λ counted told.
    let came : got.items ≡ change_bytes (hub_ports s.spec.hub) told.bits = grind arith in
    let back : told_bits got.items ≡ told.bits = grind arith in (
      record { bits = told.bits; some = told.so.0; so = told.so.2; is = back },
      λ packet r. same_bytes (hub_ports s.spec.hub) told.bits got packet came back r,
      λ other r. subst (λ t. PollAt NeverTold t v) (sym turned) told.between,
    )))
    old new (changes_told pipe.target pipe.ep pipe.toggle (Ok (Some got.items)) old new settled
    x.asked single)
poll_tells pipe (Err why) left old new settled x single =
    each_wider _ _ (grind (arith, leaves_by)) old new
    (changes_told pipe.target pipe.ep pipe.toggle (Err x.asked.fault) old new settled x.asked.polled
    single)

-- Why it fails

poll-not_of_bus : (A : Type 0) (why : PipeFault) (fault : TransFault) → why ≡ as_pipe_fault fault
    → IsNoBusFault {A = A} (Err why) → TransNotOfBus {A = Option (List ℕ)} (Err fault)
poll-not_of_bus A why fault e n = grind arith

pub polling_why : (pipe : Interrupt) (result : Result (Option (ArrayVec ℕ)) PipeFault)
    (left : Interrupt) (old new : World) → IsSettled old.roots → NoThreeDamaged old
    → Polls pipe old result left new
    → IsNoBusFault result → new.shared ≡ false → EachWas (PollingFailure pipe result) old new
polling_why pipe (Ok got) left old new settled three x sound single =
    each_wider _ _ (λ j s v y. record { answered = λ l h at quiet why e. cc e }) old new
    (poll_tells pipe (Ok got) left old new settled x single)
polling_why pipe (Err why) left old new settled three x sound single =
    let n = x.asked in
    each_wider _ _
    (λ j s v y. record {
      answered = λ l h at quiet other e. (y.why three
          (poll-not_of_bus (Option (ArrayVec ℕ)) why n.fault n.told sound)).answered l h at quiet
          n.fault refl;
    }) old new
    (changes_told pipe.target pipe.ep pipe.toggle (Err n.fault) old new settled n.polled single)

-- The record of a poll: the pipe is as it was read
pub poll_told : (read pipe : Interrupt) (result : Result (Option (ArrayVec ℕ)) PipeFault)
    (left : Interrupt) (old new : World) → read ≡ pipe → IsSettled old.roots
    → Polls read old result left new → InterruptPoll pipe old result left new
poll_told read pipe result left old new same settled x =
    subst (λ p. InterruptPoll p old result left new) same (record {
      polls = x;
      settled = settled;
      what = grind (arith, poll_tells);
      why = search polling_why;
      who = who result x;
      losses = search poll_losses;
    })
  where
    who : (r : Result (Option (ArrayVec ℕ)) PipeFault) → Polls read old r left new
        → OnOk r (Unshared new (Answerer read.target old new))
    who (Ok got) x = search who_polls
    who (Err why) x = tt
