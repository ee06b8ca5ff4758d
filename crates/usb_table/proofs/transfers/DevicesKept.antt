-- Transfers through pipes leave each device with its description and registers, ask nothing of
-- ports, and add nothing to what is left to do.
use Rattle.std.proofs.Common.{arith, ◌≡◌, ◌≢◌, ◌⊎◌, inl, inr, ℕ, ◌==◌, true, false, List, Option}
use Rattle.std.proofs.Common.{None, Result, Ok, Err, refl, subst, Bool}
use Rattle.std.specs.Global.{Vec}
use Rattle.std.proofs.lemmas.Bool.{cases_eq}
use Rattle.arrayvec.specs.ArrayVec.{ArrayVec}
use Rattle.usb_packet.specs.{Toggle, One}
use Rattle.usb_port.specs.{PortState}
use Rattle.usb_request.specs.{PORT_OUT, SET_FEATURE, bytes_of, clear_endpoint_halt, Setup}
use Rattle.usb_device.specs.{ServedEndpoint, OnlyControl, Is, Outcome, stalled, unhalts}
use Rattle.usb_device.specs.{on_endpoint, outcome, State, begun_again, begun, accepted, Spec}
use Rattle.usb_device.specs.{Registers, first_stage, ending, Location}
use Rattle.usb_world.specs.{Attempt, BusFault, is_setup, EachWas, DidIn, DidOut, IsMade, IsIn}
use Rattle.usb_world.specs.{IsOut, asks_no_port, LeavesPortAlone, Step, attempt, after}
use Rattle.usb_world.specs.{with_attempt, Course, here, step, World, HasFault, IsSettled}
use Rattle.usb_world.proofs.Interface.{AttemptCut, MadeOrNot, attempt_cases, cut_or_same}
use Rattle.usb_world.proofs.Interface.{data_asks_nothing, each_in, each_joined, each_none, each_out}
use Rattle.usb_world.proofs.Interface.{each_wider, made_here, made_is, made_whole, ready_shared}
use Rattle.usb_world.proofs.Interface.{settled_after, settled_course, settled_wider, unmade}
use Rattle.usb_world.proofs.Interface.{neither, unequal}
use Rattle.usb_hub.specs.{Few, KeepsAll, PortMark}
use Rattle.usb_hub.proofs.Interface.{KeepsStep, all_none, data_allows, keeps-attempt, keeps-chain}
use Rattle.usb_transfer.specs.{IsOnly, GivenUp, heard_as, set_up_as, in_attempt, setup_attempt}
use Rattle.usb_transfer.specs.{Target, PipeFault, PipePolls, TransferAttempts, PipeState, Sends}
use Rattle.usb_transfer.specs.{Receives, Clears, Cleared, polled_pipe, halt_address, packet_target}
use Rattle.usb_transfer.specs.{Interrupt, Polls, SendsAt, WriteLeaves, Writes}
use Rattle.usb_transfer.proofs.Interface.{trail_settled, trail_unshared, transacted_unshared}
use Rattle.usb_transfer.specs.declared.fault.PipeFault.TheVariants as pipe_fault
use Rattle.usb_transfer.proofs.Interface.{given_registers, harmless, poll_attempts}
use Rattle.usb_transfer.proofs.Interface.{receive_attempts, send_attempts}
use Rattle.usb_hub.specs.{KeepsAddresses, TouchesNoPort, Commanded}
use Rattle.usb_hub.proofs.Interface.{Ran, clears_keep, in_kept, keeps_none, out_kept, polls_keep}
use Rattle.usb_hub.proofs.Interface.{receives_keep, sends_keep, each_leaves, order_elsewhere}
use Rattle.usb_hub.proofs.Interface.{write_backlog, write_rests, write_so}
use Rattle.usb_enum.proofs.Interface.{ends_without_fault}
use Rattle.usb_table.specs.{SameSettings, KeepsSettings, OnlyTransfers}
use Rattle.usb_table.proofs.levels.StandingPipes.{broken_or_not, empty_or_not}

-- Each device over such an attempt

abbrev pub RanAs : Location → State → State → Type 0
RanAs j s v = Ran s v

pub data IsBulkAttempt (a : Attempt) : Type 0 where
  into : IsIn a → (a.ep == 0) ≡ false → IsBulkAttempt a
  out : (t : Toggle) (bytes : List ℕ) → IsOut a t bytes → (a.ep == 0) ≡ false → IsBulkAttempt a

far_kind : (a : Attempt) → IsBulkAttempt a → is_setup a.kind ≡ false
far_kind a h = grind arith

as_it_was : (s v : State) → v ≡ s → Ran s v
as_it_was s v e = grind arith

ran_same : (s u v : State) → v ≡ u → Ran s u → Ran s v
ran_same s u v e h = grind arith

did_in : (a : Attempt) (w : World) (j : Location) (s v : State) → (a.ep == 0) ≡ false
    → DidIn a w j s v → RanAs j s v
did_in a w j s v far h = grind (arith, as_it_was, in_kept, ran_same)

did_out : (a : Attempt) (t : Toggle) (bytes : List ℕ) (w : World) (j : Location) (s v : State)
    → (a.ep == 0) ≡ false → DidOut a t bytes w j s v → RanAs j s v
did_out a t bytes w j s v far h = grind (arith, as_it_was, out_kept, ran_same)

each_far : (a : Attempt) (w : World) → IsBulkAttempt a → IsMade a w → (after (attempt a) w).shared
    ≡ false → EachWas RanAs w (after (attempt a) w)
each_far a w (into i far) m single = each_wider (DidIn a w) RanAs (λ j s v. did_in a w j s v far) w
    (after (attempt a) w) (each_in a w m i single)
each_far a w (out t bytes i far) m single =
    each_wider (DidOut a t bytes w) RanAs (search did_out) w
    (after (attempt a) w) (each_out a w t bytes m i single)

each_itself : (w : World) → EachWas RanAs w w
each_itself w = grind (arith, each_none)

each_ran_then : (u w v : World) → EachWas RanAs u w → EachWas RanAs w v → EachWas RanAs u v
each_ran_then u w v x y = each_joined RanAs RanAs RanAs (grind arith) u w v x y

each_ran_at : (u w v : World) → w.roots ≡ v.roots → EachWas RanAs u w → EachWas RanAs u v
each_ran_at u w v e x = grind arith

-- no address was held twice before, and each device stays
record Stayed (w v : World) : Type 0 where
  before : w.shared ≡ false
  each : EachWas RanAs w v

made_single : (a : Attempt) (w : World) → IsMade a w → (after (attempt a) w).shared ≡ false
    → w.shared ≡ false
unfolding with_attempt
made_single a w m single = grind (arith, made_is, neither, ready_shared)

step_stays : (a : Attempt) (w : World) → IsBulkAttempt a → IsSettled w.roots
    → (after (attempt a) w).shared ≡ false → Stayed w (after (attempt a) w)
step_stays a w far settled single = pick (attempt_cases a w)
  where
    pick : MadeOrNot a w (after (attempt a) w) → Stayed w (after (attempt a) w)
    pick (inl e) = grind (arith, each_itself, each_ran_at)
    pick (inr m) = search (each_far, made_here, made_single)

-- Over all attempts of a call

-- what is left of all devices and ports
pub record Spared (old new : World) : Type 0 where
  pub ran : new.shared ≡ false → EachWas RanAs old new
  pub rests : new.fault ≡ None → TouchesNoPort old new
  pub backlog : new.fault ≡ None → KeepsAll old new

abbrev pub IsFarStep : Step → Type 0
IsFarStep s = (a : Attempt) × (s ≡ attempt a) × IsBulkAttempt a

any_stays : (s : Step) (w : World) → IsFarStep s → IsSettled w.roots → (after s w).shared ≡ false
    → Stayed w (after s w)
any_stays s w (a, e, far) settled single = rw e (step_stays a w far settled (rw e at single))

any_rests : (s : Step) (w : World) (x : List ℕ) → IsFarStep s → IsSettled w.roots
    → LeavesPortAlone x s w
any_rests s w x (a, e, far) settled = rw e (data_asks_nothing a w x (far_kind a far) settled)

any_keeps : (m v r : PortMark) (few : Few v r) (s : Step) (w : World) → IsFarStep s
    → IsSettled w.roots → KeepsStep m v r few s w
any_keeps m v r few s w (a, e, far) settled = rw e (search (data_allows, far_kind, keeps-attempt))

module _ (K : Step → World → Type 0) (far : (s : Step) (w : World) → K s w → IsFarStep s) where
  course_stays : {w v : World} → Course K w v → IsSettled w.roots → v.shared ≡ false → Stayed w v
  course_stays (here w) settled single = grind (arith, each_itself)
  course_stays (step s {w} {v} k c) settled single =
      let rest = course_stays c (settled_after s w settled) single in
      let first = any_stays s w (far s w k) settled rest.before in search each_ran_then

  course_rests : (x : List ℕ) {w v : World} → Course K w v → IsSettled w.roots
      → Course (LeavesPortAlone x) w v
  course_rests x c = settled_wider (λ s w k. any_rests s w x (far s w k)) c

  course_backlog : {w v : World} → Course K w v → IsSettled w.roots → KeepsAll w v
  course_backlog c settled = search (any_keeps, keeps-chain, settled_wider)

  cut_stays : (old : World) (fault : BusFault) (new : World) → GivenUp K old fault new
      → IsSettled old.roots → new.shared ≡ false → EachWas RanAs old new
  cut_stays old fault new g settled single =
      pick (grind (arith, cut_or_same, settled_course))
    where
      pick : AttemptCut g.last g.mid new → EachWas RanAs old new
      pick (unmade h each) =
          each_ran_then old g.mid new (course_stays g.course settled h).each
          (each_wider (λ j s x. x ≡ s) RanAs (λ j s v e. as_it_was s v e) g.mid new each)
      pick (made_whole h m u r) =
          each_ran_then old g.mid new (course_stays g.course settled h).each
          (each_ran_at g.mid (after (attempt g.last) g.mid) new r
          (each_far g.last g.mid (let f = far (attempt g.last) g.mid g.is in
          let same : f.0 ≡ g.last = cc f.1 in subst IsBulkAttempt same f.2) m u))

  -- they ran to their end, or the bus gave up
  attempts_cases : {A : Type 0} (old : World) (result : Result A PipeFault) (new : World)
      → TransferAttempts K old result new
      → Course K old new ⊎ ((fault : BusFault) × GivenUp K old fault new)
  attempts_cases old (Err (pipe_fault.Bus fault)) new x = inr (fault, x.cut fault refl)
  attempts_cases old _ new x = inl (x.whole tt)

  attempts_spare : {A : Type 0} (old : World) (result : Result A PipeFault) (new : World)
      → IsSettled old.roots → TransferAttempts K old result new → Spared old new
  attempts_spare old result new settled x = elim (attempts_cases old result new x) [
    | inl c ↦ record {
      ran = grind (arith, course_stays);
      rests = λ sound p. course_rests p c settled;
      backlog = λ sound. course_backlog c settled;
    }
    | inr g ↦ record {
      ran = search cut_stays;
      rests = grind arith;
      backlog = grind arith;
    }
  ]

-- The calls of pipes

only_far : (t : Target) (ep : ℕ) → ep ≢ 0 → (s : Step) (w : World) → IsOnly (in_attempt t ep) s w
    → IsFarStep s
only_far t ep far s w e = grind (arith, unequal)

sends_far : (t : Target) (ep : ℕ) (first : Toggle) (bytes : List ℕ) (old : World) → ep ≢ 0
    → (s : Step) (w : World) → SendsAt t ep first bytes old s w → IsFarStep s
sends_far t ep first bytes old far s w x =
    (_, x.is, out _ _ (record { kind = refl; payload = refl }) (unequal ep 0 far))

spared_none : (w : World) → Spared w w
spared_none w = record {
  ran = λ single. each_itself w;
  rests = λ sound x. here w;
  backlog = λ sound. all_none w;
}

pub polls_spare : (pipe : Interrupt) → pipe.ep ≢ 0 → (old : World)
    (result : Result (Option (ArrayVec ℕ)) PipeFault) (left : Interrupt) (new : World)
    → IsSettled old.roots → Polls pipe old result left new → Spared old new
polls_spare pipe far old result left new settled x =
    search (attempts_spare, only_far, poll_attempts, pipe.target, pipe.ep)

spared_if : {old new : World} → IsSettled old.roots ⊎ (new ≡ old)
    → (IsSettled old.roots → Spared old new) → Spared old new
spared_if h spared = grind (arith, spared_none)

-- What each leaves, with the addresses

only_transfers : (old new : World) → KeepsAddresses old new → Spared old new → OnlyTransfers old new
only_transfers old new addresses x = record {
  addresses = addresses;
  devices = record {
    same = λ single. each_wider RanAs SameSettings (λ j s v k. (k.0, k.1)) old new (x.ran single);
  };
  rests = x.rests;
  backlog = x.backlog;
}

pub same_spares : (old new : World) → new ≡ old → OnlyTransfers old new
same_spares old new e = rw e (only_transfers old old (keeps_none old) (spared_none old))

pub polls_only : (pipe : Interrupt) → pipe.ep ≢ 0 → (old : World)
    (result : Result (Option (ArrayVec ℕ)) PipeFault) (left : Interrupt) (new : World)
    → IsSettled old.roots → Polls pipe old result left new → OnlyTransfers old new
polls_only pipe far old result left new settled x = search (only_transfers, polls_keep, polls_spare)

-- what a call through a pipe leaves of all devices and ports; the bus tells its own fault
pub record PipeKeeps {A : Type 0} (old : World) (answer : Result A PipeFault) (new : World)
    : Type 0 where
  pub worlds : OnlyTransfers old new
  pub told : (fault : BusFault) → answer ≡ Err (pipe_fault.Bus fault) → HasFault fault new

module _ (bytes : List ℕ) (pipe : PipeState) (far : pipe.ep ≢ 0) (old : World)
    (answer : Result (Unit {0}) PipeFault) (left : PipeState) (new : World)
    (x : Sends bytes pipe old answer left new) where
  -- a call that makes no attempt changes nothing; for another the ports are settled
  moved_or_same : IsSettled old.roots ⊎ (new ≡ old)
  moved_or_same = elim (broken_or_not pipe.condition) [
    | inl broken ↦ inr (x.broken broken).world_kept
    | inr works ↦ elim (empty_or_not bytes) [
      | inl nothing ↦ inr (x.nothing works nothing).world_kept
      | inr more ↦ inl (x.moved works more).settled
    ]
  ]

  pub send_keeps : PipeKeeps old answer new
  send_keeps =
      let t = packet_target pipe.target pipe.max in
      let a = send_attempts bytes pipe answer left old new x in
      record {
        worlds = only_transfers old new (sends_keep bytes pipe old answer left new x)
            (spared_if moved_or_same
            (λ settled. attempts_spare (SendsAt t pipe.ep pipe.toggle bytes old)
            (sends_far t pipe.ep pipe.toggle bytes old far) old answer new settled a));
        told = λ fault e. (a.cut fault e).refused.ends;
      }

module _ (wanted : ℕ) (pipe : PipeState) (far : pipe.ep ≢ 0) (old : World)
    (answer : Result (Vec ℕ) PipeFault) (left : PipeState) (new : World)
    (x : Receives wanted pipe old answer left new) where
  came_or_same : IsSettled old.roots ⊎ (new ≡ old)
  came_or_same = grind (arith, broken_or_not, cases_eq)

  pub receive_keeps : PipeKeeps old answer new
  receive_keeps =
      let t = packet_target pipe.target pipe.max in
      let a = receive_attempts wanted pipe answer left old new x in
      record {
        worlds = only_transfers old new (receives_keep wanted pipe far old answer left new x)
            (spared_if came_or_same
            (λ settled. attempts_spare (IsOnly (in_attempt t pipe.ep)) (only_far t pipe.ep far) old
            answer new settled a));
        told = λ fault e. (a.cut fault e).refused.ends;
      }

-- a poll of any endpoint besides endpoint 0
module _ (pipe : PipeState) (far : pipe.ep ≢ 0) (old : World)
    (answer : Result (Option (ArrayVec ℕ)) PipeFault) (left : PipeState) (new : World)
    (x : PipePolls pipe old answer left new) where
  pub packet_keeps : PipeKeeps old answer new
  packet_keeps = elim (broken_or_not pipe.condition) [
    | inl broken ↦
        let idle = x.broken broken in
        record {
          worlds = search same_spares;
          told = grind arith;
        }
    | inr works ↦
        let y = x.asked works in
        let a = poll_attempts (polled_pipe pipe) answer (polled_pipe left) old new y.polls in
        record {
          worlds = search polls_only;
          told = grind arith;
        }
  ]

-- CLEAR_FEATURE(ENDPOINT_HALT)

-- an endpoint halts no more, or the request is refused
abbrev pub IsOfEndpoint : Outcome → Type 0
IsOfEndpoint o = (o ≡ stalled) ⊎ ((which : ServedEndpoint) × (o ≡ unhalts which))

of_endpoint : (which : Option ServedEndpoint) → IsOfEndpoint (on_endpoint unhalts which)
of_endpoint which = grind arith

clear_outcome : (endpoint : ℕ) (spec : Spec) (g : Registers)
    → IsOfEndpoint (outcome spec g (clear_endpoint_halt endpoint))
unfolding clear_endpoint_halt outcome
clear_outcome endpoint spec g = of_endpoint _

begun_spec : (s : State) (which : ServedEndpoint) → (begun_again s which).spec ≡ s.spec
begun_spec s which = grind arith

begun_same : (s : State) (row : List PortState) (n : ℕ) (o : Outcome) → IsOfEndpoint o
    → ((begun s row n o).spec ≡ s.spec) × ((begun s row n o).registers ≡ s.registers)
begun_same s row n o h = grind (arith, begun_spec)

endpoint_takes_no_address : (row : List PortState) (s : State) (n : ℕ) (address : Option ℕ)
    (o : Outcome) → IsOfEndpoint o → first_stage row s n o ≡ ending address → address ≡ None
endpoint_takes_no_address row s n address o h is = grind arith

module _ (t : Target) (request : Setup) (of : (spec : Spec) (g : Registers)
    → IsOfEndpoint (outcome spec g request)) (old new : World) (j : Location) (s v : State) where
  accepted_stays : (row : List PortState) → OnlyControl (accepted s row request) v
      → v.registers ≡ (accepted s row request).registers → SameSettings j s v
  accepted_stays row frame same = grind (arith, begun_same)

  write_stays : (result : Result (Unit {0}) PipeFault) → WriteLeaves t request result old new j s v
      → SameSettings j s v
  write_stays result h =
      grind (arith, accepted_stays, endpoint_takes_no_address, given_registers, write_so)

module _ (endpoint : ℕ) where
  clear_asks_no_port : asks_no_port (clear_endpoint_halt endpoint) ≡ true
  unfolding clear_endpoint_halt
  clear_asks_no_port = refl

  clear_sets_none : Is (clear_endpoint_halt endpoint) PORT_OUT SET_FEATURE ≡ false
  unfolding clear_endpoint_halt
  clear_sets_none = refl

  clear_length : (clear_endpoint_halt endpoint).length ≡ 0
  unfolding clear_endpoint_halt
  clear_length = refl

cleared_ordered : (pipe : PipeState) (old : World) (result : Result (Unit {0}) PipeFault)
    (left : PipeState) (new : World) → Cleared pipe old result left new
    → Commanded pipe.target (clear_endpoint_halt (halt_address pipe.ep pipe.is_in)) old result new
cleared_ordered pipe old result left new x = search (
  order_elsewhere,
  write_backlog,
  write_rests,
  x.settled,
  x.ends,
  x.stages,
  x.room,
  pipe.target,
  pipe.ep,
  pipe.is_in,
)

cleared_keeps_settings : (pipe : PipeState) (old : World) (result : Result (Unit {0}) PipeFault)
    (left : PipeState) (new : World) → Cleared pipe old result left new → KeepsSettings old new
cleared_keeps_settings pipe old result left new x = record {
  same = λ single.
      let request : Setup = clear_endpoint_halt (halt_address pipe.ep pipe.is_in) in
      each_wider (WriteLeaves pipe.target request result old new) SameSettings
      (λ j s v. write_stays pipe.target request (clear_outcome (halt_address pipe.ep pipe.is_in))
      old new j s v result) old new
      (each_leaves pipe.target request (harmless (halt_address pipe.ep pipe.is_in))
      (clear_length (halt_address pipe.ep pipe.is_in)) result old new
      (cleared_ordered pipe old result left new x) single);
}

pub sent_or_not : (b : Bool) → (b ≡ false) ⊎ (b ≡ true)
sent_or_not b = grind arith

module _ (is_sent : Bool) (pipe : PipeState) (old : World)
    (answer : Result (Unit {0}) PipeFault) (left : PipeState) (new : World)
    (x : Clears is_sent pipe old answer left new) where
  clears_told : (fault : BusFault) → answer ≡ Err (pipe_fault.Bus fault) → HasFault fault new
  clears_told fault e = grind (arith, sent_or_not)

  clears_only : OnlyTransfers old new
  clears_only = elim (sent_or_not is_sent) [
    | inl not ↦ same_spares old new (x.ready not).world_kept
    | inr so ↦
        let sent = x.sent so in
        let ordered = cleared_ordered pipe old answer left new sent in
        let which = halt_address pipe.ep pipe.is_in in
        record {
          addresses = grind (arith, clears_keep);
          devices = search cleared_keeps_settings;
          rests = grind (arith, clear_asks_no_port, ends_without_fault);
          backlog = grind (arith, clear_sets_none, ends_without_fault);
        }
  ]

  pub clear_keeps : PipeKeeps old answer new
  clear_keeps = record { worlds = clears_only; told = clears_told }

-- no address was held twice before
write_single : (t : Target) (request : Setup) (result : Result (Unit {0}) PipeFault)
    (old new : World) → IsSettled old.roots → Writes t request old result new → new.shared ≡ false
    → old.shared ≡ false
write_single t request (Ok done) old new settled x single = grind (arith, trail_unshared)
write_single t request (Err why) old new settled (inl x) single =
    transacted_unshared set_up_as (setup_attempt t (bytes_of request)) old new (Err x.fault)
    x.set_up settled single
write_single t request (Err why) old new settled (inr x) single =
    trail_unshared x.set_up.trail
    (transacted_unshared (heard_as One) (in_attempt t 0) x.mid new (Err x.fault) x.status
    (trail_settled x.set_up.trail settled) single)

pub clears_single : (is_sent : Bool) (pipe : PipeState) (old : World)
    (result : Result (Unit {0}) PipeFault) (left : PipeState) (new : World)
    → Clears is_sent pipe old result left new → new.shared ≡ false → old.shared ≡ false
clears_single is_sent pipe old result left new x single = grind (arith, sent_or_not, write_single)
