-- A poll of an endpoint that gives packets: what it leaves of each device, why it fails, and the
-- record of a call.
use Rattle.std.proofs.Common.{◌≡◌, ◌≢◌, ◌∙◌, refl, sym, subst, arith, true, false, ℕ, ◌≤◌, List}
use Rattle.std.proofs.Common.{Option, None, Some, Result, Ok, Err}
use Rattle.arrayvec.specs.ArrayVec.{ArrayVec}
use Rattle.usb_device.specs.{Location, State, SourceAt, next_place}
use Rattle.usb_world.specs.{IsSettled, World, EachWas, Relation}
use Rattle.usb_world.proofs.Interface.{each_none, each_wider}
use Rattle.usb_transfer.specs.{TransFault, Answerer, NoThreeDamaged, SourcePolled}
use Rattle.usb_transfer.specs.{SourcePollFailure, is_at, toggle_after}
use Rattle.usb_transfer.specs.declared.trans_fault.TransFault.TheVariants as trans
use Rattle.usb_transfer.proofs.BulkTransactions.{source_kept}
use Rattle.usb_transfer.proofs.DeviceRuns.{DeviceTold, told_leaves, told_why}
use Rattle.usb_transfer.proofs.SourcePolls.{source_poll_told}
use Rattle.usb_transfer.specs.{InPipeInSync, IsNoBusFault, PacketFailure, PacketLeaves, PipeFault}
use Rattle.usb_transfer.specs.{PipePoll, PipePolls, PipeState, PollsOnce, Polls, as_pipe_fault}
use Rattle.usb_transfer.specs.{is_broken, pipe_known, polled_pipe}
use Rattle.usb_transfer.specs.declared.condition.Condition.TheVariants.{Ready, Broken}
use Rattle.usb_transfer.specs.declared.fault.PipeFault.TheVariants as pipe_fault
use Rattle.usb_transfer.proofs.Answerers.{of_device, who_polls}
use Rattle.usb_transfer.proofs.BulkCalls.{poll_by, ready_or, end_of}
use Rattle.usb_transfer.proofs.BulkTransfers.{listens_packet}
use Rattle.usb_transfer.proofs.TransferLosses.{losses_same, poll_losses}

-- the answer of a poll, as a call and as its transaction tell it
abbrev Answer : Type 0
Answer = Result (Option (ArrayVec ℕ)) PipeFault

abbrev Told : Type 0
Told = Result (Option (List ℕ)) TransFault

same_told : (why : PipeFault) (fault other : TransFault) → why ≡ as_pipe_fault fault
    → ◌≡◌ {A = Answer} (Err why) (Err (as_pipe_fault other))
    → ◌≡◌ {A = Told} (Err fault) (Err other)
same_told why fault other told e = grind arith

-- the pipe behind a poll
abbrev turned : PipeState → Answer → PipeState
turned pipe result = record pipe { toggle = toggle_after pipe.toggle result }

pipe_turned : (pipe : PipeState) (result : Answer) (left : PipeState) (old new : World)
    → PollsOnce pipe old result left new → left ≡ turned pipe result
pipe_turned pipe result left old new x = grind arith

-- One device and its pipe

module _ (pipe : PipeState) (least : 1 ≤ pipe.max) (works : pipe.condition ≢ Broken) (j : Location)
    (s v : State) where
  -- a pipe that is as it was, where no packet came
  still : (told : Told) → SourcePolled (end_of pipe) pipe.ep pipe.toggle told j s v
      → is_at s pipe.target ≡ true → (got : ℕ) → InPipeInSync pipe got s
      → (pipe.condition ≡ Ready → SourceAt pipe.ep pipe.max got pipe.toggle v)
      → InPipeInSync pipe got v
  still told y h got f at = record {
    endpoint = search (source_kept, y.frame, f.endpoint);
    level = at;
    halted = grind (arith, y.halted, f.halted);
  }

  failed_still : (why : PipeFault) (fault : TransFault) → why ≡ as_pipe_fault fault
      → SourcePolled (end_of pipe) pipe.ep pipe.toggle (Err fault) j s v
      → is_at s pipe.target ≡ true → (got : ℕ) → InPipeInSync pipe got s
      → InPipeInSync (pipe_known {A = Option (ArrayVec ℕ)} (Err why) pipe) got v
  failed_still why trans.Stalled e y h got f =
      rw e (search (still, trans.Stalled, y.source, f.endpoint, f.level))
  failed_still why trans.Busy e y h got f =
      rw e (search (still, trans.Busy, y.source, f.endpoint, f.level))
  failed_still why trans.NoAnswer e y h got f =
      rw e (search (still, trans.NoAnswer, y.source, f.endpoint, f.level))
  failed_still why (trans.Bus fault) e y h got f = rw e (record {
    endpoint = search (source_kept, y.frame, f.endpoint);
    level = λ r. cc r;
    halted = λ r. cc r;
  })

  none_came : SourcePolled (end_of pipe) pipe.ep pipe.toggle (Ok None) j s v
      → PacketLeaves pipe (Ok None) pipe j s v
  none_came y = record {
    others = y.others;
    frame = y.frame pipe.max;
    gave = λ h got f. record {
      behind = got;
      come = refl;
      level = still (Ok None) y h got f
          (λ r. y.source h pipe.max got f.endpoint least (f.level r));
    };
    none = grind arith;
    stalled = λ h i e. cc e;
    halted = λ h i c. grind arith;
    paced = search y.paced;
  }

  one_came : (packet : ArrayVec ℕ)
      → SourcePolled (end_of pipe) pipe.ep pipe.toggle (Ok (Some packet.items)) j s v
      → PacketLeaves pipe (Ok (Some packet)) (turned pipe (Ok (Some packet))) j s v
  one_came packet y = record {
    others = y.others;
    frame = y.frame pipe.max;
    gave = λ h got f.
        let i = f.endpoint in
        ready_or _ pipe.condition works
        (λ r.
        let z = y.source h pipe.max got i least (f.level r) in record {
          behind = next_place s pipe.ep pipe.max got;
          come = (z.0, refl);
          level = record {
            endpoint = search (source_kept, y.frame);
            level = λ q. z.1;
            halted = λ q. cc (sym r ∙ q);
          };
        })
        (λ r. absurd (grind arith));
    none = λ h i few each e. cc e;
    stalled = λ h i e. cc e;
    halted = λ h i c. grind arith;
    paced = search y.paced;
  }

  failed : (why : PipeFault) (fault : TransFault) → why ≡ as_pipe_fault fault
      → SourcePolled (end_of pipe) pipe.ep pipe.toggle (Err fault) j s v
      → PacketLeaves pipe (Err why) pipe j s v
  failed why fault told y = record {
    others = y.others;
    frame = y.frame pipe.max;
    gave = λ h got f.
        record { behind = got; come = refl; level = search failed_still };
    none = λ h i few each e. cc e;
    stalled = grind (arith, same_told);
    halted = grind arith;
    paced = search y.paced;
  }

-- a call that makes no attempt
idle_leaves : (pipe : PipeState) (j : Location) (s : State)
    → PacketLeaves pipe (Err pipe_fault.Broken) pipe j s s
idle_leaves pipe j s = grind arith

-- why it fails

never_failed : (pipe : PipeState) (result : Answer) → result ≢ Err pipe_fault.NoAnswer
    → result ≢ Err pipe_fault.Busy → {j : Location} {s v : State} → PacketFailure pipe result j s v
never_failed pipe result answered waited = grind arith

failed_why : (pipe : PipeState) (why : PipeFault) (fault : TransFault) → why ≡ as_pipe_fault fault
    → (j : Location) (s v : State)
    → SourcePollFailure (end_of pipe) pipe.ep pipe.toggle (Err fault) j s v
    → PacketFailure pipe (Err why) j s v
failed_why pipe why fault told j s v y =
    grind (arith, listens_packet, same_told, y.answered, y.halted)

-- A call

module _ (pipe left : PipeState) (old new : World) (least : 1 ≤ pipe.max)
    (single : new.shared ≡ false) where
  abbrev PacketSaid : PipeState → Answer → Relation
  PacketSaid now result = DeviceTold (PacketLeaves pipe result now) (PacketFailure pipe result) old

  asked_told : (result : Answer) → pipe.condition ≢ Broken → PollsOnce pipe old result left new
      → EachWas (PacketSaid (turned pipe result) result) old new
  asked_told (Ok None) works x =
      each_wider _ _ (λ j s v y. record {
        leaves = search none_came;
        why = grind (arith, never_failed);
      }) old new
      (source_poll_told (end_of pipe) pipe.ep pipe.toggle (Ok None) old new x.settled x.polls.asked
      single)
  asked_told (Ok (Some packet)) works x =
      each_wider _ _ (grind (arith, never_failed, one_came)) old new
      (source_poll_told (end_of pipe) pipe.ep pipe.toggle (Ok (Some packet.items)) old new x.settled
      x.polls.asked single)
  asked_told (Err why) works x =
      let n = x.polls.asked in
      each_wider _ _ (λ j s v y. record {
        leaves = search failed;
        why = grind (arith, failed_why);
      }) old new
      (source_poll_told (end_of pipe) pipe.ep pipe.toggle (Err n.fault) old new x.settled n.polled
      single)

  each_packet : (result : Answer) → PipePolls pipe old result left new
      → EachWas (PacketSaid left result) old new
  each_packet result x =
      grind (arith, asked_told, each_none, idle_leaves, never_failed, pipe_turned, poll_by)

  pub packet_why : (result : Answer) → NoThreeDamaged old → PipePolls pipe old result left new
      → EachWas (PacketFailure pipe result) old new
  packet_why result three x = told_why old new three (each_packet result x)

pub packet_leaves : (pipe : PipeState) (result : Answer) (left : PipeState) (old new : World)
    → 1 ≤ pipe.max → PipePolls pipe old result left new → new.shared ≡ false
    → EachWas (PacketLeaves pipe result left) old new
packet_leaves pipe result left old new least x single =
    told_leaves old new (each_packet pipe left old new least single result x)

-- who answered, and the losses

pub who_packets : (pipe : PipeState) (got : Option (ArrayVec ℕ)) (left : PipeState)
    (old new : World) → PipePolls pipe old (Ok got) left new → new.shared ≡ false
    → Answerer pipe.target old new
who_packets pipe got left old new x single =
    let works : pipe.condition ≢ Broken = λ e. cc (x.broken e).answer in
    let y = x.asked works in
    of_device pipe.target pipe.max
    (who_polls (polled_pipe pipe) got (polled_pipe left) old new y.settled y.polls single)

pub packet_losses : (pipe : PipeState) (result : Answer) (left : PipeState) (old new : World)
    → pipe.ep ≢ 0 → PipePolls pipe old result left new → IsNoBusFault result
    → new.losses ≡ old.losses
packet_losses pipe result left old new other x sound =
    poll_by (new.losses ≡ old.losses) (λ i. losses_same i.world_kept)
    (λ works y. poll_losses (polled_pipe pipe) result (polled_pipe left) old new other y.settled
    y.polls sound) x

-- The record of a call

pub packet_told : (pipe : PipeState) (result : Answer) (left : PipeState) (old new : World)
    → 1 ≤ pipe.max → PipePolls pipe old result left new → PipePoll pipe old result left new
packet_told pipe result left old new least x =
    grind (arith, packet_leaves, packet_losses, packet_why, who_packets)

-- one that was made, and one that a broken pipe refuses; the pipe is as it was read

pub polls_by : (read pipe : PipeState) (result : Answer) (left : PipeState) (old new : World)
    → read ≡ pipe → 1 ≤ read.max → read.condition ≢ Broken
    → Polls (polled_pipe read) old result (polled_pipe left) new
    → left ≡ record read { toggle = left.toggle } → IsSettled old.roots
    → PipePoll pipe old result left new
polls_by read pipe result left old new same least works x is settled =
    subst (λ p. PipePoll p old result left new) same
    (packet_told read result left old new least (grind arith))

pub polls_broken : (pipe : PipeState) (w : World) → 1 ≤ pipe.max
    → is_broken pipe.condition ≡ true → PipePoll pipe w (Err pipe_fault.Broken) pipe w
polls_broken pipe w least e = grind (arith, packet_told)
