-- How an enumeration ends: who holds which address then, and what it leaves.
use Rattle.usb_enum.specs.{Cause, EnumFault, Accepted, Finding, Stop, IsSpare, Within, TakesAddress}
use Rattle.usb_enum.specs.{EnumWorks, HostOptions, OnlyCalls, AtPort, EndsOwned, EndsEnumeration}
use Rattle.usb_enum.specs.{KeepsEnumerated, IsRight, FaultsFor, HubPends, IsFairAt, StopsFairly}
use Rattle.usb_enum.specs.{StopsFor, unaddressed_bound, Closes, Disables, GivesUp, IsFair, IsOwn}
use Rattle.usb_enum.specs.{FindingIsTrue, FewAttempts, FindingStands, HasEmptyPorts, IsOccupied}
use Rattle.usb_enum.specs.{IsPlaced, AtPath, Finds, IsInOrder, ReachesDevice, FewFrom, EndsFor}
use Rattle.usb_enum.specs.{Enumerates, Went, Faulted, NoNewStretch, at_port, FaultAllowedAt}
use Rattle.usb_enum.specs.{IsDisabled}
use Rattle.std.proofs.Common.{◌≡◌, ◌⊎◌, ◌≤◌, ◌+◌, inl, inr, ℕ, true, List, Option, None, Some}
use Rattle.std.proofs.Common.{Result, Ok, Err, refl, sym, subst, ◌∙◌, arith, IfErr, get_or-set_same}
use Rattle.std.proofs.Common.{◌-◌, false, slice_index_or}
use Rattle.usb_world.specs.{after_taking, World, root_row, root_port_at, pending}
use Rattle.usb_device.specs.{State, Spec, state_there}
use Rattle.usb_world.proofs.Interface.{false_true}
use Rattle.usb_bus.specs.{StepRun}
use Rattle.usb_port.specs.Pool as pool
use Rattle.usb_port.specs.{Addresses, IsFull, IsTaken, HasAddresses}
use Rattle.usb_hub.specs.{AddressMap, Free, map_without, MapHolds, Enumerating, WhileBusWorks}
use Rattle.usb_hub.specs.{HubPort, IsAt, Isolates, order_bound, KeepsCleared, CommandsPort, Root}
use Rattle.usb_hub.specs.{External, IsPort, PortCleared}
use Rattle.usb_hub.proofs.Interface.{enumerating_begins, owned_as}
use Rattle.usb_enum.specs.declared.fault.EnumFault.TheVariants as fault
use Rattle.usb_enum.specs.declared.finding.Finding.TheVariants.{Device, Refused}
use Rattle.usb_enum.specs.declared.stop.Stop.TheVariants as stop
use Rattle.usb_enum.proofs.devices.Enumerations.{till_weaker, having, at_taking, within_kept}
use Rattle.usb_enum.proofs.courses.Fairness.{fair_before, fair_then, pends_on, called_faulted}
use Rattle.usb_enum.proofs.devices.Frames.{but_taken, calls_then, calls_none, disable_calls}
use Rattle.usb_enum.proofs.devices.ReachedDevices.{occupied_on, disables_none}
use Rattle.usb_enum.proofs.devices.ReachedDevices.{clear_enable_disables}
use Rattle.usb_enum.proofs.Targets.{examined_most}
use Rattle.usb_port.specs.{clear_call, PortState, off}
use Rattle.usb_request.specs.{PORT_ENABLE}
use Rattle.usb_transfer.specs.{PipeFault, FaultAfter}

-- Claims at the port

cleared_taken : (f : AddressMap) (p : List ℕ) (a : ℕ) → Free f p → (x : List ℕ)
    → map_without (after_taking f p a) p x ≡ f x
cleared_taken f p a free x = grind (arith, but_taken)

-- Given up

-- the port is disabled
pub ends_refused : {port : HubPort} (address : ℕ) {old new : World} (cause : Cause)
    → Isolates port old new → EndsEnumeration port address old (Ok (Refused cause)) new
ends_refused {port} address {new} cause bares = record {
  ends = λ f p spare t.
      let h = having f p address t in
      let g : AddressMap = after_taking f p h.has in
      till_weaker (bares.bares g p (at_taking f port p h.has spare.at) h.owned)
      (search (cleared_taken, owned_as));
}

-- there is no finding
pub ends_fault : {port : HubPort} {address : ℕ} {old new : World} (why : EnumFault)
    → Within port address old new → EndsEnumeration port address old (Err why) new
ends_fault {address} {new} why within =
    record { ends = λ f p spare t. by_fault f p why (within.stays f p spare t) }
  where
    by_fault : (f : AddressMap) (p : List ℕ) (why : EnumFault)
        → WhileBusWorks (Enumerating f p address) new → EndsOwned f p (Err why) new
    by_fault f p fault.ParentLost t = grind (arith, but_taken)
    by_fault f p (fault.Bus why) t = t.single
    by_fault f p fault.Memory t = t.single

-- The addresses that are taken

pub zero_untaken : (addresses : Addresses) → HasAddresses addresses → IsTaken addresses 0 → ⊥
zero_untaken addresses has taken = grind arith

pub zero_before : (old new : Addresses) (a : ℕ) → pool.Takes old a new → HasAddresses new
    → IsTaken old 0 → ⊥
zero_before old new a takes has taken = grind arith

pub free_untaken : (old new : Addresses) (a : ℕ) → pool.Takes old a new → IsTaken old a → ⊥
free_untaken old new a takes taken = false_true (sym takes.free.1 ∙ taken)

-- How few attempts are made where no address is free

pub few_unaddressed : (port : HubPort) (addresses : Addresses) {old mid new : World}
    {a b c d : Option (List ℕ)} → StepRun (unaddressed_bound port) old a mid b
    → StepRun (order_bound port) mid c new d → FewAttempts port addresses old new
few_unaddressed port addresses sooner later =
    record {
      few = λ f p wide start most plan. omega (
        arith,
        sooner.spends.most,
        later.spends.most,
        examined_most port most wide,
      );
    }

module _ (port : HubPort) (addresses : Addresses) (address : ℕ) (zero_is : IsTaken addresses 0
    → ⊥) (free : IsTaken addresses address → ⊥) where
  spare : (f : AddressMap) (p : List ℕ) → IsAt f port p → Free f p
      → ((x : List ℕ) (a : ℕ) → f x ≡ Some a → IsTaken addresses a) → IsSpare f port p address
  spare f p at bare claimed = grind arith

  first : {f : AddressMap} {p : List ℕ} {w : World} → IsSpare f port p address
      → WhileBusWorks (MapHolds f) w → WhileBusWorks (Enumerating f p address) w
  first is t = grind (arith, enumerating_begins)

  pub enumerated : {old new : World} (device : Accepted) → device.address ≡ address
      → TakesAddress port address old new → OnlyCalls port address old new
      → KeepsEnumerated port addresses old (Ok (Device device)) new
  enumerated device same takes calls = grind (arith, first)

  given_up : {old mid new : World} {result : Result Finding EnumFault}
      → Within port address old mid → EndsEnumeration port address mid result new
      → OnlyCalls port address old new → KeepsEnumerated port addresses old result new
  given_up within ended calls = grind (arith, first)

  pub found_true : (options : HostOptions) (tier supply : ℕ) {old new : World} (device : Accepted)
      → Finds (IsOwn options tier supply device) port address old new
      → FindingIsTrue port addresses options tier supply old (Ok (Device device)) new
  found_true options tier supply {new} device finds = record {
    truth = λ f p at bare claimed t order other e.
        let is = spare f p at bare claimed in
        subst (λ x. AtPath (IsOwn options tier supply x) p new)
        (let same : device ≡ other = cc in same) (finds.found f p is (first is t) order);
  }

  -- What is found is there

  pub device_placed : {old new : World} (device : Accepted) → ReachesDevice port address old new
      → ((f : AddressMap) (p : List ℕ) → IsSpare f port p address
      → WhileBusWorks (Enumerating f p address) old → IsInOrder old → IsOccupied old p
      → new.fault ≡ None → HasEmptyPorts p device.hub new)
      → FindingStands port addresses old (Ok (Device device)) new
  device_placed {new} device reaches ports = record {
    placed = λ f p start occupied none finding e.
        let is = spare f p start.at start.free start.taken in
        let t = first is start.owned in
        subst (λ x. IsPlaced p x new) (let same : Device device ≡ finding = cc in same)
        (grind arith);
  }

  refused_placed : (last : Stop) {old mid new : World} {result : Result Finding EnumFault}
      → AtPort port address old mid → Went mid new → Disables port address mid result new
      → GivesUp port last mid result new → FindingStands port addresses old result new
  refused_placed last {mid} {new} {result} at went disables gives = record {
    placed = λ f p start occupied none finding e.
        let is = spare f p start.at start.free start.taken in
        let t = first is start.owned in
        record {
          there = grind (arith, occupied_on);
          below = grind arith;
        };
  }

  -- How few attempts are made

  pub few_made : {old mid : World} (new : World) → FewFrom port address old mid
      → new.attempts ≤ mid.attempts + order_bound port → FewAttempts port addresses old new
  few_made new from closing = record {
    few = λ f p wide start most plan.
        let is = spare f p start.at start.free start.taken in
        omega (
          arith,
          from.few f p is (first is start.owned) start.order most plan,
          closing,
          examined_most port most wide,
        );
  }

  -- What is found is warranted

  fair_begun : {f : AddressMap} {p : List ℕ} {old new : World} → IsFair f port p addresses old new
      → IsFairAt f port p address old new
  fair_begun fair = grind (arith, first)

  zero_begun : {f : AddressMap} {p : List ℕ} {old new : World} → IsFair f port p addresses old new
      → WhileBusWorks (Enumerating f p 0) old
  zero_begun fair = grind (arith, enumerating_begins)

  module _ (wrong : Spec → Option Cause) (options : HostOptions) (tier supply : ℕ) (last : Stop)
      (old mid new : World) (result : Result Finding EnumFault) (sooner : Went old mid)
      (later : Went mid new) (at : AtPort port address old mid)
      (stops : StopsFairly wrong port address last old mid)
      (closes : Closes port address last mid result new) (gives : GivesUp port last mid result new)
      (right : (spec : Spec) (cause : Cause) → wrong spec ≡ Some cause → IsRight (IsFull addresses)
      spec options tier supply (Refused cause)) where
    module _ {f : AddressMap} {p : List ℕ} (fair : IsFair f port p addresses old new) where
      whole : IsFairAt f port p address old new
      whole = fair_begun fair

      here : IsFairAt f port p address mid new
      here = fair_then sooner later whole at

      why_stopped : StopsFor wrong f p old last mid
      why_stopped = stops.why f p (fair_before sooner later whole)

      caused : (why : Cause) → StopsFor wrong f p old (stop.Refused why) mid → (s : State)
          → state_there new.roots p ≡ Some s → (pending new.roots p ≡ true)
          ⊎ IsRight (IsFull addresses) s.spec options tier supply (Refused why)
      caused why so s there = elim (pends_on (λ spec. wrong spec ≡ Some why) p
          (closes.only.at f p here.spare here.held here.working).spares here.occupied
          (so (zero_begun fair))) [
            | inl h ↦ inl h
            | inr is ↦ inr (search s.spec)
          ]

    cause_of : (x : Stop) → last ≡ x → (f : AddressMap) (p : List ℕ)
        → IsFair f port p addresses old new → (cause : Cause) (s : State)
        → result ≡ Ok (Refused cause) → state_there new.roots p ≡ Some s
        → (pending new.roots p ≡ true) ⊎ IsRight (IsFull addresses) s.spec options tier supply
        (Refused cause)
    cause_of (stop.Fault why) is f p fair cause s e there = grind arith
    cause_of (stop.Refused why) is f p fair cause s e there =
        let g = subst (λ r. GivesUp port (stop.Refused why) mid r new) e (grind arith) in
        subst (λ y. (pending new.roots p ≡ true)
        ⊎ IsRight (IsFull addresses) s.spec options tier supply y)
        (sym g.0) (caused fair why (subst (λ x. StopsFor wrong f p old x mid) is
        (why_stopped fair)) s there)

    parent_of_stop : (x : Stop) → last ≡ x → (f : AddressMap) (p : List ℕ)
        → IsFair f port p addresses old new → result ≡ Err fault.ParentLost → HubPends p new
    parent_of_stop (stop.Fault why) is f p fair e =
        let g = subst (λ x. GivesUp port x mid result new) is gives in
        let lost : why ≡ fault.ParentLost = cc (sym g.0 ∙ e) in
        subst (λ w. HubPends p w) (sym g.1) (subst (λ y. FaultsFor p y mid) lost
        (subst (λ x. StopsFor wrong f p old x mid) is (why_stopped fair)))
    parent_of_stop (stop.Refused why) is f p fair e =
        (closes.lost why fault.ParentLost is e).why f p (here fair)

    -- all that is so in the end
    pub stopped_ends : EndsFor port addresses options tier supply old result new
        → FewAttempts port addresses old new → EnumWorks result old new
        → Enumerates port addresses options tier supply old result new
    stopped_ends ended few works = record {
      addresses = grind (arith, calls_then, given_up);
      own = grind arith;
      places = grind (arith, refused_placed);
      warrants = record { cause = cause_of last refl; parent = parent_of_stop last refl };
      ended = ended;
      few = few;
      strings = grind arith;
      left = grind arith;
      works = works;
    }

-- The port of a device that is given up

-- nothing was called
pub closed_fault : (port : HubPort) (address : ℕ) (why : EnumFault) (w : World)
    → Closes port address (stop.Fault why) w (Err why) w
closed_fault port address why w = grind (arith, calls_none, ends_fault)

module _ {port : HubPort} (address : ℕ) (cause : Cause) {outcome : Result (Unit {0}) PipeFault}
    {old new : World} (ends : IfErr outcome (λ why. FaultAfter 1 old why new))
    (calls : CommandsPort port (clear_call PORT_ENABLE) old outcome new)
    (keeps : KeepsCleared port PORT_ENABLE old outcome new) where
  pub closed_refused : outcome ≡ Ok tt → Closes port address (stop.Refused cause) old
      (Ok (Refused cause)) new
  closed_refused done = grind (arith, clear_enable_disables, disable_calls, ends_refused)

  pub closed_lost : (why : EnumFault) → Went old new → Err why ≡ at_port outcome
      → FaultAllowedAt port why new → (new.fault ≡ None → NoNewStretch old new)
      → Closes port address (stop.Refused cause) old (Err why) new
  closed_lost why went told fault goes =
      let at : AtPort port address old new = grind (arith, disable_calls, within_kept) in record {
        ends = ends_fault why at.within;
        only = at.only;
        there = search disables_none;
        lost = λ other given is e. subst (λ x. Faulted port address x old new)
            (let same : why ≡ given = cc in same) (called_faulted went at fault
            (record { outcome = outcome; told = told; calls = calls; goes = goes }));
      }

-- where the call worked
pub disabled : (port : HubPort) (old new : World) (result : Result (Unit {0}) PipeFault)
    (done : Unit {0}) → Ok done ≡ at_port result → IsPort old port
    → PortCleared port PORT_ENABLE old result new → IsDisabled port new
unfolding root_port_at
disabled (Root number) old new result done worked is cleared =
    let P : List PortState → Type 0 = λ row. (slice_index_or row (number - 1) off).enable ≡ false in
    let Q : PortState → Type 0 = λ p. p.enable ≡ false in
    subst P (sym cleared.row.row) (subst Q
    (sym (get_or-set_same (root_row old) (number - 1) _ off (omega (arith, is.0, is.1)))) refl)
disabled (External hub port) old new (Ok tt) done worked is cleared = grind arith
disabled (External hub port) old new (Err fault) done worked is cleared = absurd cc
