-- What stays fair in an enumeration from one call to the next, and when a hub is lost.
use Rattle.std.proofs.Common.{arith, ◌≡◌, ◌≢◌, ◌⊎◌, inl, inr, ◌≤◌, ◌&&◌, ◌||◌, not, if◌then◌else◌}
use Rattle.std.proofs.Common.{◌==◌, ℕ, true, false, List, [], ◌∷◌, ◌++◌, Option, None, Some, Result}
use Rattle.std.proofs.Common.{Err, refl, ap, sym, subst, ◌∙◌, IsSomeAnd}
use Rattle.usb_port.specs.{parent_of, PortCall}
use Rattle.usb_port.proofs.Interface.{parent}
use Rattle.usb_device.specs.{State, Location, path_to, reach_on, state_on, Spec}
use Rattle.usb_world.specs.{KeepsPendingAt, Was, LeavesPortAlone, SameAt, Consistent, Course, World}
use Rattle.usb_world.specs.{is_way, has_power, pending, deep_at}
use Rattle.usb_world.proofs.Interface.{course_wider, pending_persists, reach_live, rests_or_pends}
use Rattle.usb_world.proofs.Interface.{stands_or_pends}
use Rattle.usb_transfer.specs.{Target, Listens, PipeFault}
use Rattle.usb_hub.specs.{AddressMap}
use Rattle.usb_hub.proofs.Interface.{live_port, not_way, pend_or_live}
use Rattle.usb_transfer.specs.declared.fault.PipeFault.TheVariants as pipe
use Rattle.usb_hub.specs.{HubPort, Root, External, IsAt, IsBelow, StaysAs, HasPort, HubServes}
use Rattle.usb_hub.specs.{NoHubFailed}
use Rattle.usb_enum.specs.{Cause, EnumFault, Stop, IsSpare, AtPort, CalledAt, StatusAt, ServesAt}
use Rattle.usb_enum.specs.{HasServer, IsFairAt, PendingOr, FaultsFor, StopsFairly, Faulted, OnlyAt}
use Rattle.usb_enum.specs.{IsOccupied, IsReachedAt, AtPath, at_port, FaultAllowedAt, FaultAllowed}
use Rattle.usb_enum.specs.{Went}
use Rattle.usb_enum.specs.declared.fault.EnumFault.TheVariants as fault
use Rattle.usb_enum.specs.declared.stop.Stop.TheVariants.{Refused, Fault}
use Rattle.usb_enum.proofs.courses.Losses.{few_before}
use Rattle.usb_enum.proofs.devices.ReachedDevices.{is_some-value, occupied_on}

-- The hub of a port

-- it serves the port as long as it stays as it was
abbrev pub serves_still : (t : Target) (port : ℕ) (new : World) (j : Location) (s v : State)
    → v.spec ≡ s.spec → v.registers ≡ s.registers → reach_on new.roots j ≡ true
    → state_on new.roots j ≡ Some v → Listens t j s → t.addr ≢ 0 → s.registers.configuration ≢ 0
    → HasPort s.spec port → HubServes t port new
serves_still t port new j s v spec registers on there listens addressed configured has = record {
  spot = j;
  state = v;
  on = on;
  stands = there;
  listens = record {
    at = ap (λ r. r.address == t.addr) registers ∙ listens.at;
    loud = ap (λ x. x.silent) spec ∙ listens.loud;
    hears = ap (λ (x : Spec). if t.low then x.low && (not (deep_at false j.rest) || t.pre)
        else not x.low) spec ∙ listens.hears;
  };
  addressed = addressed;
  configured = λ z. configured (sym (ap (λ r. r.configuration) registers) ∙ z);
  has = subst (λ x. HasPort x port) (sym spec) has;
}

module _ (f : AddressMap) (hub : Target) (n : ℕ) (p : List ℕ) (at : IsBelow f hub.addr n p) where
  pub parent_is : parent_of p ≡ Some at.hub
  parent_is = grind (arith, parent)

  apart : is_way p at.hub ≡ false
  apart = grind (arith, not_way)

  module _ (old new : World) (only : OnlyAt p old new) where
    hub_asks : Course (LeavesPortAlone at.hub) old new
    hub_asks = only.others at.hub apart

    hub_pends_on : pending old.roots at.hub ≡ true → pending new.roots at.hub ≡ true
    hub_pends_on h = pending_persists at.hub (course_wider (λ s w k. k.spares) hub_asks) h

    module _ (sane : Consistent old.roots) (was : ServesAt hub n at.hub old) where
      abbrev j : Location
      j = was.serves.spot

      hub_live : has_power old.roots at.hub ≡ true
      hub_live = grind (arith, reach_live)

      hub_served : (v : State) → reach_on new.roots j ≡ true → state_on new.roots j ≡ Some v
          → ServesAt hub n at.hub new
      hub_served v on there =
          let before : Was StaysAs old j v = grind (arith, apart) in
          let spec : v.spec ≡ was.serves.state.spec = grind arith in
          let registers : v.registers ≡ was.serves.state.registers = grind arith in
          record {
            serves = serves_still hub n new j was.serves.state v spec registers on there
                was.serves.listens was.serves.addressed was.serves.configured was.serves.has;
            there = was.there;
            wide = was.wide;
          }

      hub_same : SameAt old.roots new.roots at.hub → ServesAt hub n at.hub new
      hub_same same =
          let on : reach_on new.roots j ≡ true = grind arith in
          let v = is_some-value (state_on new.roots j) (grind arith) in
          hub_served v.0 on v.1

      serves_on : (pending new.roots at.hub ≡ true) ⊎ ServesAt hub n at.hub new
      serves_on = grind (arith, hub_asks, hub_live, hub_same, rests_or_pends)

pub server_on : (f : AddressMap) (port : HubPort) {p : List ℕ} → IsAt f port p → {old new : World}
    → Consistent old.roots → OnlyAt p old new → HasServer port p old → HasServer port p new
server_on f (Root n) at sane only server = tt
server_on f (External hub n) {p} at {old} {new} sane only server =
    let P : World → List ℕ → Type 0 = λ w q. (pending w.roots q ≡ true) ⊎ ServesAt hub n q w in
    subst (λ o. IsSomeAnd o (P new)) (sym (parent_is f hub n p at))
    (elim (subst (λ o. IsSomeAnd o (P old)) (parent_is f hub n p at) server) [
      | inl h ↦ inl (search hub_pends_on)
      | inr h ↦ serves_on f hub n p at old new only sane h
    ])

-- a hub that serves its port is not lost
pub lost_hub_faults : (f : AddressMap) (port : HubPort) (p : List ℕ) → IsAt f port p
    → (why : EnumFault) (new : World) → FaultAllowedAt port why new → HasServer port p new
    → ((hub : Target) (n : ℕ) → port ≡ External hub n → why ≡ fault.ParentLost
    → (serves : HubServes hub n new) → p ≡ path_to serves.spot ++ (n ∷ []) → 8 ≤ hub.max
    → pending new.roots (path_to serves.spot) ≡ true) → FaultsFor p why new
lost_hub_faults f (Root n) p at fault.ParentLost new told server denies = absurd told
lost_hub_faults f (External hub n) p at fault.ParentLost new told server denies =
    let P : List ℕ → Type 0 = λ q. (pending new.roots q ≡ true) ⊎ ServesAt hub n q new in
    subst (λ o. IsSomeAnd o (λ q. pending new.roots q ≡ true)) (sym (parent_is f hub n p at))
    (elim (subst (λ o. IsSomeAnd o P) (parent_is f hub n p at) server) [
      | inl h ↦ h
      | inr h ↦ subst (λ q. pending new.roots q ≡ true) (sym h.there)
          (denies hub n refl refl h.serves (search at.path) h.wide)
    ])
lost_hub_faults f port p at _ new told server denies = tt

-- a served call loses no hub
pub parent_lost_not_served : {A : Type 0} (outcome : Result A PipeFault) (why : EnumFault)
    → Err why ≡ at_port outcome → why ≡ fault.ParentLost → NoHubFailed outcome → ⊥
parent_lost_not_served outcome why told lost served = grind arith

-- What is fair

-- no device at the port has taken its address yet
pub held_spare : {f : AddressMap} {port : HubPort} {p : List ℕ} {address : ℕ}
    → IsSpare f port p address → IsSpare f port p 0
held_spare spare = grind arith

module _ {f : AddressMap} {port : HubPort} {p : List ℕ} {address : ℕ} {old mid new : World}
    (first : Went old mid) (second : Went mid new) (fair : IsFairAt f port p address old new) where
  pub fair_sound : mid.fault ≡ None
  fair_sound = grind arith

  pub fair_before : IsFairAt f port p address old mid
  fair_before = grind (arith, few_before)

  pub fair_then : AtPort port address old mid → IsFairAt f port p address mid new
  fair_then at =
      let only = at.only.at f p fair.spare fair.held fair_sound in
      record {
        spare = fair.spare;
        held = grind arith;
        order = first.order fair.order;
        occupied = search occupied_on;
        server = grind (arith, server_on);
        few = first.three fair.few;
        kept = fair.kept;
        working = fair.working;
      }

-- what calls at the port keep
pub fair_only : {f : AddressMap} {port : HubPort} {p : List ℕ} {address : ℕ} {old new : World}
    → IsFairAt f port p address old new → AtPort port address old new → OnlyAt p old new
fair_only fair at = grind arith

pub fair_single : {f : AddressMap} {port : HubPort} {p : List ℕ} {address : ℕ} {old new : World}
    → IsFairAt f port p address old new → AtPort port address old new → new.shared ≡ false
fair_single fair at = grind arith

-- Calls at the port

pub called_faulted : {port : HubPort} {address : ℕ} {call : Option PortCall} {why : EnumFault}
    {old new : World} → Went old new → AtPort port address old new → FaultAllowedAt port why new
    → CalledAt port call old (Err why) new → Faulted port address why old new
called_faulted {port} {why} {new} went at told called = record {
  why = λ f p fair.
      lost_hub_faults f port p fair.spare.at why new told (grind (arith, server_on))
      (λ hub i is parent serves there wide. absurd
      (search (fair_single, parent_lost_not_served, called.calls.why)));
}

-- an occupied port has power, where no change is pending at its hub
occupied_powered : (w : World) (j : Location) (n : ℕ) → IsOccupied w (path_to j ++ (n ∷ []))
    → (has_power w.roots (path_to j ++ (n ∷ [])) ≡ true) ⊎ (pending w.roots (path_to j) ≡ true)
occupied_powered w j n (inl h) = pend_or_live w.roots (path_to j) n h
occupied_powered w j n (inr h) = inl h.0

module _ {port : HubPort} {address : ℕ} {why : EnumFault} {old new : World}
    (went : Went old new) (at : AtPort port address old new)
    (told : FaultAllowedAt port why new) (shown : StatusAt port old (Err why) new) where
  pub status_faulted : Faulted port address why old new
  status_faulted = record {
    why = λ f p fair.
        lost_hub_faults f port p fair.spare.at why new told (server_on f port fair.spare.at
        (fair.order (grind arith)).sane (fair_only fair at) fair.server)
        (λ hub i is parent serves there wide.
        let above = path_to serves.spot in
        elim (occupied_powered old serves.spot i (grind arith)) [
          | inl on ↦ (let b = live_port old.roots (above ++ (i ∷ [])) on in
              absurd (parent_lost_not_served shown.outcome why shown.told parent
              (shown.tells.why hub i is fair.few (fair_single fair at) wide serves b.0 b.1)))
          | inr h ↦ pending_persists above (course_wider (λ s w k. k.spares)
              ((fair_only fair at).others above
              (ap (λ x. is_way x above) there ∙ not_way above i))) h
        ]);
  }

-- What ends an enumeration

pub pends_on : (So : Spec → Type 0) (p : List ℕ) {old new : World}
    → Course (KeepsPendingAt p) old new → IsOccupied old p → PendingOr So p old → PendingOr So p new
pends_on So p c h so = grind (arith, pending_persists, stands_or_pends)

-- what is so of the device that is reached is so of the one that stands there
pub pends_reached : (So : Spec → Type 0) (p : List ℕ) (w : World) → IsReachedAt w p
    → AtPath (λ s. So s.spec) p w → PendingOr So p w
pends_reached So p w h so = grind arith

pub stops_wider : {A B : Spec → Option Cause} {port : HubPort} {address : ℕ} (stop : Stop)
    {old new : World} → ((spec : Spec) (cause : Cause) → A spec ≡ Some cause → B spec ≡ Some cause)
    → StopsFairly A port address stop old new → StopsFairly B port address stop old new
stops_wider (Refused cause) more stops = record {
  why = λ f p fair held. elim (stops.why f p fair held) [
    | inl pending ↦ inl pending
    | inr so ↦ inr (λ s there. more s.spec cause (so s there))
  ];
}
stops_wider (Fault why) more stops = record { why = stops.why }

pub faulted_after : {port : HubPort} {address : ℕ} {why : EnumFault} {old mid new : World}
    → Went old mid → Went mid new → AtPort port address old mid → Faulted port address why mid new
    → Faulted port address why old new
faulted_after first second at faulted = grind (arith, fair_then)

-- no port was asked
pub faults_for_told : (p : List ℕ) (why : EnumFault) (w : World) → FaultAllowed why w
    → FaultsFor p why w
faults_for_told p why w told = grind arith
