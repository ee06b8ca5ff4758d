-- What is so of the device at a port, from one call to the next.
use Rattle.std.proofs.Common.{arith, ◌≡◌, ◌⊎◌, inl, ℕ, zero, suc, ◌&&◌, Bool, true, false, List, []}
use Rattle.std.proofs.Common.{◌∷◌, Option, None, Some, option_map, Ok, refl, ap, sym, subst, ◌∙◌}
use Rattle.usb_port.specs.{PortState, is_low, speed_of, seen, PortStatus}
use Rattle.usb_device.specs.{State, Spec, Ports, vacant, taken, reach, state_at, port_at, Location}
use Rattle.usb_device.specs.{path_to, reach_on, state_on, state_there, port_there}
use Rattle.usb_world.specs.{after_taking, Relation, Was, EachWas, spec_of, Consistent, AnyStep}
use Rattle.usb_world.specs.{Course, World, address_of}
use Rattle.usb_hub.proofs.Interface.{live_port, stays-spec}
use Rattle.usb_world.proofs.Interface.{reach_live, between_course, course_wider, each_wider}
use Rattle.usb_world.proofs.Interface.{same_device, undisturbed_keeps, false_true}
use Rattle.usb_transfer.specs.{Target}
use Rattle.usb_hub.specs.{AddressMap, MapHolds, KeepsAddresses, HubPort, Resets, StaysAs}
use Rattle.usb_hub.specs.{KeepsDevices, PortStatusAt, AddressAsked}
use Rattle.usb_enum.specs.{Addressed, Within, StatusAt, Learned, AnswersSo, IsRegular, AtPath}
use Rattle.usb_enum.specs.{Finds, HasDescriptor, HasHead, HasSpeed, IsAddressed, AwaitsAddress}
use Rattle.usb_enum.specs.{AtMaximum, Went, IsResponsive}
use Rattle.usb_enum.proofs.devices.Enumerations.{answered_has, having, at_taking}
use Rattle.usb_enum.proofs.devices.Enumerations.{within-keeps_addresses, within_reset}
use Rattle.usb_enum.proofs.readings.Heads.{head_packet}
use Rattle.usb_enum.proofs.devices.ReachedDevices.{done_at}

-- Over calls that tell of each device

-- a device at a place, before a call that tells of each
pub record StoodAt (p : List ℕ) (w : World) (R : Location → State → Type 0) : Type 0 where
  pub spot : Location
  pub path : p ≡ path_to spot
  pub before : State
  pub on : reach_on w.roots spot ≡ true
  pub stands : state_on w.roots spot ≡ Some before
  pub so : R spot before

pub was_at : (R : Relation) (p : List ℕ) (old new : World) → EachWas R old new → (v : State)
    → reach new.roots p ≡ true → state_there new.roots p ≡ Some v → StoodAt p old (λ j s. R j s v)
was_at R (suc j ∷ e) old new was v on there =
    let w : Was R old (record { row = j; rest = e }) v = grind arith in grind arith
was_at R _ old new was v on there = false_true on

-- what is so of its place is so of its path
pub at_place : (A : State → Type 0) {p : List ℕ} {w : World} {R : Location → State → Type 0}
    → AtPath A p w → (s : StoodAt p w R) → A s.before
at_place A is s = grind arith

-- what was so of it stays so, as the call tells
pub path_on : (R : Relation) (A B : State → Type 0)
    → ((j : Location) (s v : State) → R j s v → A s → B v) → (p : List ℕ) (old new : World)
    → EachWas R old new → AtPath A p old → AtPath B p new
path_on R A B f p old new was a v on there =
    let s = was_at R p old new was v on there in grind arith

-- Its speed, as its port shows it

low_of : (b : Bool) → is_low (speed_of b) ≡ b
low_of b = grind arith

-- a port of a sane row sees the speed of its device
sane_attached : (k : Ports) (j : ℕ) (p : List ℕ) (b : PortState) (s : State) → Consistent k
    → port_at k j p ≡ Some b → state_at k j p ≡ Some s → b.attached ≡ speed_of s.spec.low
unfolding Consistent port_at state_at
sane_attached (vacant c k) (suc j) p b s sane at there = sane_attached k j p b s sane.2 at there
sane_attached (taken c z a k) zero [] b s sane at there = grind arith
sane_attached (taken c z a k) zero (suc i ∷ p) b s sane at there =
    sane_attached a i p b s sane.2 at there
sane_attached (taken c z a k) (suc j) p b s sane at there = sane_attached k j p b s sane.3 at there
sane_attached _ _ _ b s sane at there = absurd cc

-- where a port stands and a reachable device on it
seen_there : (k : Ports) (p : List ℕ) (b : PortState) (s : State) → Consistent k → reach k p ≡ true
    → port_there k p ≡ Some b → state_there k p ≡ Some s → (seen b).low_speed ≡ s.spec.low
seen_there k (suc i ∷ p) b s sane on port stands =
    let live = live_port k (suc i ∷ p) (reach_live k i p sane on) in
    let power : b.power ≡ true = grind arith in
    ap (λ x. x && is_low b.attached) power
    ∙ ap is_low (search sane_attached) ∙ low_of s.spec.low
seen_there k _ b s sane on port stands = false_true on

-- a state of the same description
spec_of-some : (o : Option State) (spec : Spec) → option_map spec_of o ≡ Some spec → (s : State)
    × ((o ≡ Some s) × (s.spec ≡ spec))
spec_of-some o spec e = grind arith

-- the status that was told is that of the port of the device that is reachable in the end
pub told_speed : {p : List ℕ} {status : PortStatus} {old new : World}
    → PortStatusAt p status old new → old.fault ≡ None → IsRegular old
    → AtPath (HasSpeed status.low_speed) p new
told_speed {p} {old} {new} told none order v on there =
    let to_now : Course AnyStep old told.now = course_wider (λ s w x. tt) (told.before p) in
    let since : Course AnyStep told.now new = course_wider (λ s w x. tt) (told.since p) in
    let same = same_device p (course_wider (λ s w x. x.rests) (told.since p)) on in
    let was = spec_of-some (state_there told.now.roots p) v.spec
    (sym (undisturbed_keeps p told.now new since same.1) ∙ ap (option_map spec_of) there) in
    let sane = (between_course to_now (order none)).sane in grind (arith, seen_there)

-- PORT_RESET, its status and the clearing of C_PORT_RESET

pub reset_finds : {port : HubPort} {address : ℕ} {status : PortStatus} {old set told new : World}
    → Went old set → Went set told → Went told new → Resets port old set
    → StatusAt port set (Ok status) told → KeepsDevices told new → Within port address old new
    → new.fault ≡ None → Finds (HasSpeed status.low_speed) port address old new
reset_finds {port} {address} {status} {old} {set} {told} {new} first second third resets shown keeps
    within none = record {
      found = λ f p spare t order.
          let h = having f p address
          ((within_reset port address old set resets).stays f p spare t) in
          let port_told = shown.tells.tells (after_taking f p h.has) p
          (search at_taking) h.owned status (done_at shown.told) in
          path_on StaysAs (HasSpeed status.low_speed) (HasSpeed status.low_speed)
          (grind arith) p told new
          (keeps.stays (within.stays f p spare t).single)
          (told_speed port_told (grind arith) (first.order order));
    }

-- Who holds which address

pub held_at : (f : AddressMap) (p : List ℕ) (has : ℕ) {w : World}
    → MapHolds (after_taking f p has) w → AtPath (λ s. address_of s ≡ has) p w
held_at f p has owned = grind arith

-- what was learned of whoever answered at the address is so of the device at the port, which has it
pub answered_finds : {So : Spec → Type 0} {t : Target} {port : HubPort} {address : ℕ}
    {old mid new : World} → (t.addr ≡ 0) ⊎ (t.addr ≡ address) → AnswersSo So t mid new
    → Went mid new → Within port address old mid → KeepsAddresses mid new
    → Finds (λ s. So s.spec × (address_of s ≡ t.addr)) port address old new
answered_finds {So} {t} {address} {mid} {new} is answered went within keeps =
    record {
      found = λ f p spare t0 order.
          let h = having f p address (within.stays f p spare t0) in
          let claims : AddressMap = after_taking f p h.has in
          let has = answered_has h.has t.addr spare is (answered.who.held claims h.owned) in
          path_on (Learned So t) (λ s. address_of s ≡ h.has) (λ s. So s.spec
          × (address_of s ≡ t.addr)) (grind arith)
          p mid new (answered.learns (keeps.kept claims h.owned).single)
          (held_at f p h.has (h.owned.so (grind arith)));
    }

-- Over calls that come later

-- what was found stays so over a call that leaves a device as it was
pub finds_on : (R : Relation) {A : State → Type 0} (B : State → Type 0) {port : HubPort}
    {address : ℕ} {old mid new : World} → ((j : Location) (s v : State) → R j s v → A s → B v)
    → (new.shared ≡ false → EachWas R mid new) → Within port address old new
    → Finds A port address old mid → Finds B port address old new
finds_on R {A} B {mid} {new} f was within finds = record {
  found = λ g p spare t order. path_on R A B f p mid new (grind arith)
      (grind arith);
}

pub finds_both : {A B : State → Type 0} (C : State → Type 0) {port : HubPort} {address : ℕ}
    {old new : World} → ((s : State) → A s → B s → C s) → Finds A port address old new
    → Finds B port address old new → Finds C port address old new
finds_both C f a b = grind arith

-- The target of a device that has no address yet

unnamed : (target : Target) (s : State) → s.spec.low ≡ target.low
    → HasHead target.low target.max s.spec × (address_of s ≡ target.addr) → target.addr ≡ 0
    → AwaitsAddress target s
unnamed target s low head none = grind arith

pub unaddressed_finds : {port : HubPort} {address : ℕ} (low pre : Bool) (max : ℕ)
    {old mid new : World} → (mid.fault ≡ None → Finds (HasSpeed low) port address old mid)
    → (let asked : Target = record { addr = 0; max = 8; low = low; pre = pre } in
    AnswersSo (HasHead low max) asked mid new) → Went mid new
    → Within port address old mid → KeepsAddresses mid new
    → (let target : Target = record { addr = 0; max = max; low = low; pre = pre } in
    Finds (AwaitsAddress target) port address old new)
unaddressed_finds low pre max {mid} {new} speed answered went within keeps =
    let asked : Target = record { addr = 0; max = 8; low = low; pre = pre } in
    let target : Target = record { addr = 0; max = max; low = low; pre = pre } in
    let stays : new.shared ≡ false → EachWas StaysAs mid new =
    λ single. each_wider (Learned (HasHead low max) asked) StaysAs (λ j s v x. x.frame) mid new
    (answered.learns single) in
    let later = finds_on StaysAs (HasSpeed low)
    (λ j s v x is. ap (λ y. y.low) (stays-spec s v x) ∙ is) stays
    (within-keeps_addresses within keeps) (grind arith) in
    finds_both (AwaitsAddress target) (search unnamed)
    later (answered_finds (inl refl) answered went within keeps)

-- SET_ADDRESS

-- it was allowed to take an address
pub record Granted (low : Bool) (max : ℕ) (spec : Spec) : Type 0 where
  pub speed : spec.low ≡ low
  pub head : HasHead low max spec
  pub allowed : spec.stalls.address ≡ false

-- what answered with that head is responsive
pub responsive : {t : Target} {spec : Spec} → Granted t.low t.max spec → IsResponsive t spec
responsive g = grind (arith, head_packet)

pub granted : (target : Target) (address : ℕ) (old new : World) → target.addr ≡ 0
    → (j : Location) (s v : State) → AddressAsked target address (Ok tt) old new j s v
    → AwaitsAddress target s → Granted target.low target.max v.spec
granted target address old new none j s v x is = grind arith

pub addressed_granted : (device : Addressed) (s : State)
    → Granted device.target.low device.target.max s.spec → AtMaximum device.target
    (HasDescriptor device.bytes) s.spec × (address_of s ≡ device.target.addr) → IsAddressed device s
addressed_granted device s is read = grind (arith, head_packet)

-- what is so of whoever answers at the address that was given
pub spoken_finds : {So : Spec → Type 0} (C : State → Type 0) (target : Target) {t : Target}
    {port : HubPort} {address : ℕ} {old mid given new : World} → target.addr ≡ 0
    → t ≡ record target { addr = address }
    → ((s : State) → Granted t.low t.max s.spec → So s.spec × (address_of s ≡ t.addr) → C s)
    → Finds (AwaitsAddress target) port address old mid
    → (given.shared ≡ false → EachWas (AddressAsked target address (Ok tt) mid given) mid given)
    → Within port address old given → AnswersSo So t given new → Went given new
    → KeepsAddresses given new → Finds C port address old new
spoken_finds {So} C target {t} {port} {address} {old} {mid} {given} {new} none is gives unnamed
    asked
    within answered went keeps =
    let Is : State → Type 0 = λ s. Granted t.low t.max s.spec in
    let allowed : Finds Is port address old given =
    subst (λ t. Finds (λ s. Granted t.low t.max s.spec) port address old given) (sym is)
    (finds_on (AddressAsked target address (Ok tt) mid given)
    (λ s. Granted target.low target.max s.spec) (search granted) asked within unnamed) in
    let later : Finds Is port address old new =
    finds_on (Learned So t) Is (grind arith) answered.learns
    (within-keeps_addresses within keeps) allowed in
    finds_both C gives later (grind (arith, answered_finds))
