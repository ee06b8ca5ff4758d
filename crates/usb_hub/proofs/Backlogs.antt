-- What calls on devices and at ports add to what is left to do.
use Rattle.std.proofs.Common.{◌≡◌, ℕ, suc, inl, inr, false, List, [], ◌∷◌, ◌++◌, Result, sym, subst}
use Rattle.std.proofs.Common.{arith}
use Rattle.std.specs.Global.{Vec}
use Rattle.usb_request.specs.{PORT_OUT, SET_FEATURE, bytes_of, IsToHost, Setup}
use Rattle.usb_request.proofs.Interface.{same_setup}
use Rattle.usb_port.specs.{PortCall}
use Rattle.usb_device.specs.{Is, Location, path_to, State}
use Rattle.usb_world.specs.{Attempt, Outcome, HolderIn, IsMade, IsSetup, AtPorts, Course, Step}
use Rattle.usb_world.specs.{after, attempt, World, IsSettled}
use Rattle.usb_world.proofs.Interface.{Allows, course_joined, course_then, holder_or_nobody}
use Rattle.usb_world.proofs.Interface.{made_of, settled_wider, decided}
use Rattle.usb_hub.specs.{CoversCall, Few, KeepsAll, KeepsBy, PortMark}
use Rattle.usb_hub.proofs.BacklogRequests.{Covers, data_allows, holder_allows, payload_sets_none}
use Rattle.usb_hub.proofs.BacklogRequests.{request_sets_none, sets_none}
use Rattle.usb_hub.proofs.BacklogSteps.{KeepsStep, keeps-attempt, keeps-chain, keeps-unheard}
use Rattle.usb_transfer.specs.{Target, AcceptedAt, AttemptLog, setup_attempt, PipeFault}
use Rattle.usb_transfer.specs.{IsOfDataWrite, IsOfTransfer, IsBehind, IsBehindData, IsNoBusFault}
use Rattle.usb_transfer.specs.{PutsData, Reads, Writes}
use Rattle.usb_transfer.proofs.Interface.{trail_course, put_attempts, read_attempts, write_attempts}
use Rattle.usb_hub.proofs.ClaimedHubs.{ClaimedAt, KeepsClaim, claimed_holder, trail_with}
use Rattle.usb_hub.proofs.Steps.{unshared_after}
use Rattle.usb_hub.proofs.ActingCalls.{AsksFor}
use Rattle.usb_hub.proofs.RestingRequests.{behind_data_kind, no_set_up}

is_set_up : (t : Target) (request : Setup)
    → IsSetup (setup_attempt t (bytes_of request)) (bytes_of request)
unfolding bytes_of
is_set_up t request = grind arith

module _ (m v r : PortMark) (few : Few v r) where
  -- a step behind a SETUP
  pub behind_step : (t : Target) (s : Step) (w : World) → IsBehind t s w → IsSettled w.roots
      → KeepsStep m v r few s w
  behind_step t (attempt a) w k h = search (data_allows, keeps-attempt, no_set_up)
  behind_step t _ w k h = elim k [ ]

  pub behind_keeps : (t : Target) {w x : World} → Course (IsBehind t) w x → IsSettled w.roots
      → Course (KeepsStep m v r few) w x
  behind_keeps t c = settled_wider (behind_step t) c

  -- a transfer of a request that sets no feature of a port, whoever hears it
  module _ (t : Target) (request : Setup) (plain : Allows sets_none request) where
    request_step : (s : Step) (w : World) → IsOfTransfer t request s w → IsSettled w.roots
        → KeepsStep m v r few s w
    request_step s w (inl e) h =
        subst (λ s. KeepsStep m v r few s w) (sym e)
        (search (keeps-attempt, payload_sets_none, same_setup))
    request_step s w (inr k) h = behind_step t s w k h

    pub request_keeps : {w x : World} → Course (IsOfTransfer t request) w x → IsSettled w.roots
        → Course (KeepsStep m v r few) w x
    request_keeps c = settled_wider request_step c

  -- the same with data to the device
  module _ (t : Target) (request : Setup) (plain : Allows sets_none request) where
    data_step : (s : Step) (w : World) → IsBehindData t s w → IsSettled w.roots
        → KeepsStep m v r few s w
    data_step (attempt a) w k h = search (behind_data_kind, data_allows, keeps-attempt)
    data_step _ w k h = elim k [ ]

    put_step : (s : Step) (w : World) → IsOfDataWrite t request s w → IsSettled w.roots
        → KeepsStep m v r few s w
    put_step s w (inl e) h = request_step t request plain s w (inl e) h
    put_step s w (inr k) h = data_step s w k h

    pub put_course : {w x : World} → Course (IsOfDataWrite t request) w x → IsSettled w.roots
        → Course (KeepsStep m v r few) w x
    put_course c = settled_wider put_step c

  -- a call at a port of the hub that holds the address
  module _ (t : Target) (q : List ℕ) (i : ℕ) (request : Setup) (c : PortCall)
      (asked : AsksFor request c (suc i)) (covers : (x : Location) → path_to x ≡ q
      → Covers m r x.row x.rest i c) where
    abbrev a : Attempt
    a = setup_attempt t (bytes_of request)

    holder_keeps : (w : World) (x : HolderIn a w) → path_to x.spot ≡ q
        → KeepsStep m v r few (attempt a) w
    holder_keeps w x same ports = keeps-attempt m v r few a w ports
        (elim (decided (Is request PORT_OUT SET_FEATURE)) [
          | inl h ↦
              holder_allows m r a w x (bytes_of request) (is_set_up t request)
              (grind arith)
              i (grind arith) c (grind arith)
              (covers x.spot same)
          | inr h ↦ payload_sets_none m r a w
              (grind arith)
        ])

    call_step : (w : World) → IsMade a w → ClaimedAt q t.addr w → KeepsStep m v r few (attempt a) w
    call_step w made claimed =
        elim (holder_or_nobody a w made (unshared_after claimed.claims a w claimed.owned)) [
          | inl x ↦ holder_keeps w x (search claimed_holder)
          | inr x ↦ λ ports. keeps-unheard m v r few a w ports made x
        ]

    module _ (P : World → Type 0) (follows : KeepsClaim t request q P) where
      calls : {old mid : World} {outcomes : List Outcome} → AttemptLog a old outcomes mid → P old
          → P mid × Course (KeepsStep m v r few) old mid
      calls tr first = trail_with P follows.onward
          (λ w made x. let k : ClaimedAt q t.addr w = follows.claimed w x in
          call_step w (search made_of) k) tr first

      pub call_keeps : {old mid new : World} {outcomes : List Outcome}
          → AttemptLog a old outcomes mid → Course (IsBehind t) mid new → P old → AtPorts old.left
          → KeepsBy m v r old new
      call_keeps {old} {mid} tr behind first ports =
          let x : P mid × Course (KeepsStep m v r few) old mid = calls tr first in
          keeps-chain m v r few ports (course_joined x.1
          (behind_keeps t behind (follows.claimed mid x.0).owned.settled))

      pub acted_keeps : {old mid : World} {outcomes : List Outcome} → AttemptLog a old outcomes mid
          → IsMade a mid → P old → AtPorts old.left → KeepsBy m v r old (after (attempt a) mid)
      acted_keeps {old} {mid} tr there first ports =
          let x : P mid × Course (KeepsStep m v r few) old mid = calls tr first in
          keeps-chain m v r few ports (grind (arith, call_step, course_then))

-- A call that was done: up to the attempt that did it, and since

pub rests_backlog : (t : Target) {w x : World} → Course (IsBehind t) w x → IsSettled w.roots
    → KeepsAll w x
rests_backlog t c settled = search (behind_keeps, keeps-chain)

-- up to the moment at which a request was accepted that sets no feature of a port
pub asked_backlog : (t : Target) (request : Setup) → Is request PORT_OUT SET_FEATURE ≡ false
    → {j : Location} {s v : State} {old now : World} → AcceptedAt t (bytes_of request) old now j s v
    → IsSettled old.roots → KeepsAll old now
asked_backlog t request plain {old} {now} at settled =
    subst (KeepsAll old) (sym at.last)
    (record {
      all = λ ports m v r few.
          keeps-chain m v r few ports
          (request_keeps m v r few t request (request_sets_none request plain)
          (grind (arith, course_then, trail_course)) settled);
    })

-- Whole transfers

read_plain : (request : Setup) → IsToHost request → Is request PORT_OUT SET_FEATURE ≡ false
read_plain request host = grind arith

pub reads_backlog : (t : Target) (request : Setup) (result : Result (Vec ℕ) PipeFault)
    (old new : World) → IsToHost request → IsSettled old.roots → Reads t request old result new
    → IsNoBusFault result → KeepsAll old new
reads_backlog t request result old new host settled reads sound =
    record {
      all = λ ports m v r few. keeps-chain m v r few ports
          (request_keeps m v r few t request (request_sets_none request (read_plain request host))
          (grind (arith, read_attempts)) settled);
    }

pub write_backlog : (t : Target) (request : Setup) (result : Result (Unit {0}) PipeFault)
    (old new : World) → IsSettled old.roots → Writes t request old result new
    → Is request PORT_OUT SET_FEATURE ≡ false → IsNoBusFault result → KeepsAll old new
write_backlog t request result old new settled writes plain sound =
    record {
      all = λ ports m v r few. keeps-chain m v r few ports
          (request_keeps m v r few t request (request_sets_none request plain)
          (grind (arith, write_attempts)) settled);
    }

pub put_backlog : (t : Target) (request : Setup) (bytes : List ℕ)
    (result : Result (Unit {0}) PipeFault) (old new : World) → IsSettled old.roots
    → PutsData t request bytes old result new → Is request PORT_OUT SET_FEATURE ≡ false
    → IsNoBusFault result → KeepsAll old new
put_backlog t request bytes result old new settled puts plain sound =
    record {
      all = λ ports m v r few. keeps-chain m v r few ports
          (put_course m v r few t request (request_sets_none request plain)
          (grind (arith, put_attempts)) settled);
    }

-- the covers of a call at a port, for whoever stands there
pub holder_covers : (m r : PortMark) (q : List ℕ) (i : ℕ) (c : PortCall)
    → CoversCall m r (q ++ (suc i ∷ [])) c → (x : Location) → path_to x ≡ q
    → Covers m r x.row x.rest i c
holder_covers m r q i c covers x same = grind arith
