-- Why a call at a hub's port fails.
use Rattle.std.proofs.Common.{◌≡◌, ◌≢◌, ℕ, suc, ◌-◌, ◌≤◌, inr, true, false, List, [], ◌∷◌, ◌++◌}
use Rattle.std.proofs.Common.{length, slice_get, None, Some, Result, Ok, Err, refl, ap, sym, subst}
use Rattle.std.proofs.Common.{◌∙◌, arith}
use Rattle.std.specs.Global.{Vec}
use Rattle.usb_port.specs.{PortState, status_of, PortCall}
use Rattle.usb_request.specs.{setup_of, bytes_of, get_port_status, Setup}
use Rattle.usb_request.proofs.Interface.{same_setup}
use Rattle.usb_device.specs.{Leaves, Registers, asked_by_setup, outcome, port_named, called_at}
use Rattle.usb_device.specs.{told_port, State, Spec, refused, first_stage, acted, port_at, path_to}
use Rattle.usb_device.specs.{reach_on, port_there}
use Rattle.usb_world.specs.{is_harmless, Was, StillSet, World, address_of, IsSettled}
use Rattle.usb_world.proofs.Interface.{course_bits, course_wider, same_device}
use Rattle.usb_transfer.specs.{Target, AcceptedAt, Listens, NoThreeDamaged, PipeFault, IsNoBusFault}
use Rattle.usb_transfer.specs.{AnswerRead, WasRefused, ReadLeaves, WriteLeaves, ControlReadFailure}
use Rattle.usb_transfer.specs.{WriteFailure}
use Rattle.usb_transfer.specs.declared.fault.PipeFault.TheVariants.{Stalled, Busy, NoAnswer, Broken}
use Rattle.usb_transfer.proofs.Interface.{read_leaves, read_why, write_leaves, write_why}
use Rattle.usb_hub.proofs.Steps.{settled_attempt}
use Rattle.usb_hub.proofs.HubPorts.{place_ports}
use Rattle.usb_hub.proofs.Trees.{port_below_at}
use Rattle.usb_hub.specs.{StaysAs, Queried, ReadAs, Commanded, said_in, HubServes, NoHubFailed}
use Rattle.usb_hub.proofs.ActingCalls.{AsksFor}
use Rattle.usb_hub.proofs.Devices.{write_stays, IsOfPort}
use Rattle.usb_hub.proofs.Statuses.{row_port, read_status, came_status, status_host, status_some}
use Rattle.usb_hub.proofs.Statuses.{status_few, status_length, status_plain}
use Rattle.usb_hub.proofs.RestingRequests.{behind_asks_nothing, resting_course}

-- A port that a configured hub has is named

-- what is so of the device before, which had the same description and registers
module _ (t : Target) (number : ℕ) (new : World) (x : HubServes t number new) (s : State)
    (stays : StaysAs x.spot s x.state) where
  listened : Listens t x.spot s
  listened = grind arith

  was_named : port_named s.spec.hub s.registers number ≡ Some (number - 1)
  was_named = grind arith

-- A call at a port

no_refusal : (c : PortCall) (i : ℕ) (row : List PortState) (d : State) (n : ℕ)
    → first_stage row d n (called_at (Some c) (Some i)) ≡ refused → ⊥
no_refusal c i row d n e = cc e

module _ (t : Target) (number : ℕ) (request : Setup) (c : PortCall)
    (asked : AsksFor request c number) (old new : World) (three : NoThreeDamaged old)
    (single : new.shared ≡ false) (x : HubServes t number new) where
  spared : is_harmless request ≡ false → (t.addr ≢ 0) × (address_of x.state ≢ 0)
  spared h = grind arith

  of_port : (spec : Spec) (g : Registers) → IsOfPort (outcome spec g request)
  of_port spec g = subst IsOfPort (sym (asked.calls spec g)) (grind arith)

  module _ (result : Result (Unit {0}) PipeFault) (ordered : Commanded t request old result new)
    where
      left : Was (WriteLeaves t request result old new) old x.spot x.state
      left = search (spared, write_leaves)

      stayed : StaysAs x.spot left.before x.state
      stayed = grind (arith, write_stays)

      heard : Listens t x.spot left.before
      heard = listened t number new x left.before stayed

      why : IsNoBusFault result → Was (WriteFailure t result) old x.spot x.state
      why n = search (spared, write_why)

      -- it is the same device before
      why_left : (n : IsNoBusFault result) → WriteFailure t result x.spot left.before x.state
      why_left n = grind (arith, why)

      not_refused : result ≡ Err Stalled → ⊥
      not_refused e =
          let r : WasRefused t request old new x.spot left.before = left.so.refused heard.at e in
          no_refusal c (number - 1) r.row left.before request.length
          (subst (λ o. first_stage r.row left.before request.length (called_at (Some c) o)
          ≡ refused)
          (was_named t number new x left.before stayed) (grind arith))

  pub call_served : (result : Result (Unit {0}) PipeFault) → Commanded t request old result new
      → NoHubFailed result
  call_served (Err Stalled) ordered = search not_refused
  call_served (Err Busy) ordered = (why_left (Err Busy) ordered tt).waited
      (heard (Err Busy) ordered) (grind arith) (grind arith) refl
  call_served (Err NoAnswer) ordered = (why_left (Err NoAnswer) ordered tt).answered
      (search heard) refl
  call_served (Err Broken) ordered = grind arith
  call_served result ordered = tt

-- The status of a port

status_of-length : (b : PortState) → length (status_of b) ≡ 4
unfolding status_of
status_of-length b = refl

module _ (t : Target) (i : ℕ) (old new : World) (three : NoThreeDamaged old)
    (single : new.shared ≡ false) (most : 8 ≤ t.max) (x : HubServes t (suc i) new) (b : PortState)
    (stood : port_there old.roots (path_to x.spot ++ (suc i ∷ [])) ≡ Some b) where
  abbrev request : Setup
  request = get_port_status (suc i)

  asks_status : (spec : Spec) (g : Registers)
      → outcome spec g request ≡ told_port (port_named spec.hub g (suc i))
  unfolding get_port_status outcome
  asks_status spec g = refl

  module _ (answer : Result (Vec ℕ) PipeFault) (asked : Queried t request old answer new) where
    read : Was (ReadLeaves t request answer old new) old x.spot x.state
    read = grind (arith, read_leaves, same_setup, status_host, status_some)

    read_stays : StaysAs x.spot read.before x.state
    read_stays = read.so.frame

    read_heard : Listens t x.spot read.before
    read_heard = listened t (suc i) new x read.before read_stays

    read_cause : IsNoBusFault answer → Was (ControlReadFailure t request answer) old x.spot x.state
    read_cause n = grind (arith, read_why, same_setup, status_host, status_some)

    cause_left : (n : IsNoBusFault answer) → ControlReadFailure t request answer x.spot read.before
        x.state
    cause_left n = grind (arith, read_cause)

    -- the port stands in the row that it told of
    row_stands : answer ≡ Err Stalled → ⊥
    row_stands e = cc (none, still.stands)
      where
        r : WasRefused t request old new x.spot read.before
        r = read.so.refused read_heard.at e

        now : World
        now = r.moment.now

        accepted_there : AcceptedAt t (bytes_of request) old now x.spot read.before
            r.moment.accepts.state
        accepted_there = r.moment.accepts.at

        effect : asked_by_setup read.before (setup_of (bytes_of request)) ≡ Leaves
        effect = grind (arith, same_setup)

        missing : slice_get r.row i ≡ None
        missing = grind (arith, asks_status)

        none : port_there now.roots (path_to x.spot ++ (suc i ∷ [])) ≡ None
        none =
            port_below_at now.roots x.spot.row x.spot.rest (suc i) []
            ∙ ap (λ o. port_at (place_ports o) i []) accepted_there.left
            ∙ ap (λ y. port_at (acted y accepted_there.holder.below) i []) effect
            ∙ row_port accepted_there.holder.below i
            ∙ ap (λ y. slice_get y i) (grind arith)
            ∙ missing

        now_settled : IsSettled now.roots
        now_settled = grind (arith, settled_attempt)

        now_on : reach_on now.roots x.spot ≡ true
        now_on = (same_device (path_to x.spot)
            (course_wider (λ s w k. k.rests) (behind_asks_nothing t (path_to x.spot)
            r.moment.since now_settled)) x.on).0

        still : StillSet b (port_there now.roots ((path_to x.spot) ++ (suc i ∷ [])))
        still = course_bits (path_to x.spot) (suc i)
            (course_wider (λ s w k. k.leaves) (resting_course t request (status_plain (suc i)) old
            now accepted_there
            ((path_to x.spot) ++ (suc i ∷ [])))) now_on b stood

  told_status : (bytes : Vec ℕ) → Queried t request old (Ok bytes) new → length bytes.items ≡ 4
  told_status bytes asked = ap length (came_status (suc i) done) ∙ status_of-length
      (read_status (suc i) done).port
    where
      done : AnswerRead t request bytes.items old new x.spot (read (Ok bytes) asked).before x.state
      done = grind arith

  answer_served : {A : Type 0} (says : List ℕ → A) (answer : Result (Vec ℕ) PipeFault)
      → Queried t request old answer new → NoHubFailed (said_in says 4 answer)
  answer_served says (Ok bytes) asked = grind (arith, told_status)
  answer_served says (Err Stalled) asked = search row_stands
  answer_served says (Err Busy) asked =
      (cause_left (Err Busy) asked tt).waited (read_heard (Err Busy) asked)
      (inr (status_few (suc i))) (grind arith)
      (grind arith) refl
  answer_served says (Err NoAnswer) asked =
      (cause_left (Err NoAnswer) asked tt).answered (search read_heard)
      (inr (status_few (suc i))) refl
  answer_served says (Err Broken) asked = grind arith
  answer_served says answer asked = tt

  pub status_served : {A : Type 0} (says : List ℕ → A) (result : Result A PipeFault)
      → ReadAs says t request old result new → NoHubFailed result
  status_served says result told = grind (arith, answer_served, status_length)
