-- What was so of a port at a moment of a call on it.
use Rattle.std.proofs.Common.{◌≡◌, ℕ, zero, suc, ◌-◌, ◌≤◌, true, false, List, [], ◌∷◌, ◌++◌, Some}
use Rattle.std.proofs.Common.{Result, Ok, refl, ap, sym, subst, ◌∙◌, arith}
use Rattle.std.proofs.lemmas.Option.{slice_get-get_or}
use Rattle.std.specs.Global.{Vec}
use Rattle.usb_port.specs.{IsPath, IsPortNumber, PortState, status_in, seen, PortStatus}
use Rattle.usb_port.proofs.Interface.{status_seen}
use Rattle.usb_request.specs.{setup_of, bytes_of, Setup, get_port_status, PORT_OUT, SET_FEATURE}
use Rattle.usb_request.proofs.Interface.{same_setup}
use Rattle.usb_device.specs.{Leaves, effect_of_request, asked_by_setup, Is, outcome, State, port_at}
use Rattle.usb_device.specs.{reach, Location, path_to, reach_on, state_on, port_there, state_there}
use Rattle.usb_world.specs.{LeavesPortAlone, World, IsRootPort, root_port_at as root_port, Course}
use Rattle.usb_world.specs.{here, Was}
use Rattle.usb_world.proofs.Interface.{same_is}
use Rattle.usb_transfer.specs.{Target, Answerer, is_at, AcceptedAt, NoThreeDamaged, PipeFault}
use Rattle.usb_transfer.specs.{AnswerRead, ReadLeaves}
use Rattle.usb_transfer.proofs.Interface.{read_leaves, who_reads}
use Rattle.usb_hub.specs.{AddressMap, MapHolds, WhileBusWorks, IsBelow, HubPort, Root, External}
use Rattle.usb_hub.specs.{PortStatusAt, ReadsPort, IsPort, RootRead, PortRead, Queried, ReadAs}
use Rattle.usb_hub.specs.{HubServes, NoHubFailed, ControlCourse}
use Rattle.usb_hub.proofs.Steps.{settled_attempt}
use Rattle.usb_hub.proofs.HubPorts.{less_one}
use Rattle.usb_hub.proofs.AddressPorts.{is_path-empty, no_root}
use Rattle.usb_hub.proofs.Trees.{port_below_at}
use Rattle.usb_hub.proofs.Transfers.{reads_leave}
use Rattle.usb_hub.proofs.RestingRequests.{behind_asks_nothing, resting_course}
use Rattle.usb_hub.proofs.Backlogs.{asked_backlog, rests_backlog}
use Rattle.usb_hub.proofs.Phases.{all_none}
use Rattle.usb_hub.proofs.Statuses.{row_port, StatusOf, read_status, came_status, status_host}
use Rattle.usb_hub.proofs.Statuses.{status_some, status_plain}
use Rattle.usb_hub.proofs.ToldBytes.{IsReadFrom, said}
use Rattle.usb_hub.proofs.CallFailures.{status_served}
use Rattle.usb_hub.proofs.ControlCourses.{queried_control}

-- Who answered

-- a device that is reached in the end, and had the target's address before
record Answered (t : Target) (old new : World) (j : Location) : Type 0 where
  now : State
  on : reach_on new.roots j ≡ true
  stands : state_on new.roots j ≡ Some now
  before : State
  stood : state_on old.roots j ≡ Some before
  at : is_at before t ≡ true

-- it is at the path that claims the target's address
answered_at : (f : AddressMap) (t : Target) (old new : World) (j : Location) → MapHolds f old
    → f (path_to j) ≡ Some t.addr → Answerer t old new → Answered t old new j
answered_at f t old new j o held a = record {
  now = a.now;
  on = subst (λ x. reach new.roots x ≡ true) same a.on;
  stands = subst (λ x. state_there new.roots x ≡ Some a.now) same a.stands;
  before = a.before;
  stood = subst (λ x. state_there old.roots x ≡ Some a.before) same a.stood;
  at = a.at;
}
  where
    claims : f (path_to a.spot) ≡ Some t.addr
    claims = grind arith

    same : (path_to a.spot) ≡ (path_to j)
    same = same_is (path_to j) (path_to a.spot) (o.distinct (path_to j) (path_to a.spot) t.addr held
        claims)

-- The status of a port of a hub

module _ (t : Target) (j : Location) (i : ℕ) (old new : World) (bytes : Vec ℕ)
    (told : Queried t (get_port_status (suc i)) old (Ok bytes) new) (single : new.shared ≡ false)
    (a : Answered t old new j) where
  abbrev request : Setup
  request = get_port_status (suc i)

  sets_no_port : Is request PORT_OUT SET_FEATURE ≡ false
  unfolding get_port_status
  sets_no_port = refl

  was : Was (ReadLeaves t request (Ok bytes) old new) old j a.now
  was = grind (arith, read_leaves, same_setup, status_host, status_some)

  asked_it : is_at was.before t ≡ true
  asked_it = grind arith

  done : AnswerRead t request bytes.items old new j was.before a.now
  done = was.so.done asked_it bytes refl

  abbrev now : World
  now = done.moment.now

  accepted_there : AcceptedAt t (bytes_of request) old now j was.before done.moment.accepts.state
  accepted_there = done.moment.accepts.at

  status : StatusOf done.row (suc i - 1) done.answer
      (effect_of_request (outcome was.before.spec was.before.registers request))
  status = read_status (suc i) done

  effect : asked_by_setup was.before (setup_of (bytes_of request)) ≡ Leaves
  effect = grind (arith, same_setup, status)

  in_row : port_at accepted_there.holder.below i [] ≡ Some status.port
  unfolding accepted_there
  in_row = grind (arith, done, less_one, row_port, status)

  stood : port_at now.roots j.row (j.rest ++ (suc i ∷ [])) ≡ Some status.port
  stood = grind (arith, accepted_there, effect, in_row, port_below_at)

  told_there : PortStatusAt ((path_to j) ++ (suc i ∷ [])) (status_in bytes.items) old new
  unfolding status
  told_there = record {
    now = now;
    port = status.port;
    stood = stood;
    is = ap status_in (came_status (suc i) done) ∙ status_seen status.port;
    before = search (accepted_there, resting_course, status_plain);
    since = λ x. behind_asks_nothing t x done.moment.since
        (grind (arith, settled_attempt));
    row = record { parent = path_to j; number = suc i; is = refl; reached = a.on };
    untold = asked_backlog t request sets_no_port accepted_there told.settled;
    rested = rests_backlog t done.moment.since (grind (arith, settled_attempt));
    control = search queried_control;
  }

at_hub : (t : Target) (f : AddressMap) (hub : List ℕ) (port : ℕ) (old new : World) (bytes : Vec ℕ)
    → IsPath hub → IsPortNumber port → f hub ≡ Some t.addr → MapHolds f old
    → Queried t (get_port_status port) old (Ok bytes) new
    → PortStatusAt (hub ++ (port ∷ [])) (status_in bytes.items) old new
unfolding get_port_status
at_hub t f [] port old new bytes is number held own told = absurd (is_path-empty is)
at_hub t f (zero ∷ e) port old new bytes is number held own told = absurd (no_root e is)
at_hub t f (suc j ∷ e) zero old new bytes is number held own told = absurd (omega (arith, number.0))
at_hub t f (suc j ∷ e) (suc i) old new bytes is number held own told =
    told_there t (record { row = j; rest = e }) i old new bytes told after.single
    (answered_at f t old new (record { row = j; rest = e }) own held
    (who_reads t (get_port_status (suc i)) bytes old new (omega arith)
    (search same_setup) told.settled told.stages after.single))
  where
    after : MapHolds f new
    after = reads_leave f t (get_port_status (suc i)) (search same_setup) refl
        refl old (Ok bytes) new told.stages own

-- why it is not told
told_served : (t : Target) (n : ℕ) (old : World) (result : Result PortStatus PipeFault)
    (new : World) → ReadAs status_in t (get_port_status n) old result new → NoThreeDamaged old
    → new.shared ≡ false → 8 ≤ t.max
    → (x : HubServes t n new) → (b : PortState) → port_there old.roots (path_to x.spot ++ (n ∷ []))
    ≡ Some b → NoHubFailed result
told_served t zero old result new told three single most x b stood =
    absurd (omega (arith, x.has.least))
told_served t (suc i) old result new told three single most x b stood = search status_served

port_status_why : (hub : Target) (port : ℕ) (old : World) (result : Result PortStatus PipeFault)
    (new : World) → ReadAs status_in hub (get_port_status port) old result new
    → (h : Target) (n : ℕ) → External hub port ≡ External h n → NoThreeDamaged old
    → new.shared ≡ false → 8 ≤ h.max → (x : HubServes h n new)
    → (b : PortState) → port_there old.roots (path_to x.spot ++ (n ∷ [])) ≡ Some b
    → NoHubFailed result
port_status_why hub port old result new told h n same = told_served h n old result new (grind arith)

pub hub_tells : (hub_port : HubPort) (hub : Target) (port : ℕ) (old : World)
    (result : Result PortStatus PipeFault) (new : World) → hub_port ≡ External hub port
    → ReadAs status_in hub (get_port_status port) old result new → ReadsPort hub_port old result new
hub_tells hub_port hub port old result new is told =
    rw is (record {
      tells = λ f p at o status e. tells f p at o status (grind arith);
      why = search port_status_why;
    })
  where
    tells : (f : AddressMap) (p : List ℕ) → IsBelow f hub.addr port p
        → WhileBusWorks (MapHolds f) old → (status : PortStatus)
        → ReadAs status_in hub (get_port_status port) old (Ok status) new
        → PortStatusAt p status old new
    tells f p at o status told =
        let read : IsReadFrom status_in told.answer status = search said in
        subst (λ p. PortStatusAt p status old new) (sym at.path)
        (subst (λ s. PortStatusAt (at.hub ++ (port ∷ [])) s old new) (sym read.read_so)
        (at_hub hub f at.hub port old new read.bytes at.is_path at.number at.held
        (o.so told.ends.sound) (grind arith)))

-- The status of a root port

root_stood : (number : ℕ) (w : World) → IsRootPort w number → port_there w.roots (number ∷ [])
    ≡ Some (root_port w number)
unfolding root_port
root_stood number w is = grind (arith, row_port, slice_get-get_or)

pub root_tells : (port : HubPort) (number : ℕ) (old : World) (result : Result PortStatus PipeFault)
    (new : World) → port ≡ Root number → IsPort old port → PortRead port old result new
    → ReadsPort port old result new
root_tells port number old result new e is read = rw e (root (rw e at is) (rw e at read))
  where
    root : IsRootPort old number → RootRead number old result new
        → ReadsPort (Root number) old result new
    root is r = record {
      tells = λ f p at o status told. record {
        now = old;
        port = root_port old number;
        stood = grind (arith, root_stood);
        is = grind arith;
        before = λ x. here old;
        since = λ x. subst (λ w. Course (LeavesPortAlone x) old w) (sym r.same) (here old);
        row = record { parent = []; number = number; is = at; reached = refl };
        untold = all_none old;
        rested = grind arith;
        control = subst (ControlCourse old) (sym r.same) (here old);
      };
      why = grind arith;
    }
      where
        same_status : (status : PortStatus) → (let a : Result PortStatus PipeFault = Ok status in
            a ≡ Ok (seen (root_port old number))) → status ≡ seen (root_port old number)
        same_status status h = cc
