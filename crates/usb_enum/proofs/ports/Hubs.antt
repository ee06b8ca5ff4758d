-- A hub: what it tells, what is learned of it, and why it is refused.
use Rattle.std.proofs.Common.{◌≡◌, ◌⊎◌, refl, ap, subst, ℕ, ◌+◌, List, Bool, true, false, ◌&&◌}
use Rattle.std.proofs.Common.{Result, Ok, Err, IfOk, ◌≤◌, ◌<◌, Some, arith, not, take, Option, None}
use Rattle.std.proofs.Common.{option_map, if◌then◌else◌, is_ok}
use Rattle.usb_world.specs.{World, EachWas, Was}
use Rattle.usb_transfer.specs.{Target, PipeFault}
use Rattle.std.specs.Global.{Vec}
use Rattle.usb_request.specs.{PORT_POWER, get_hub_descriptor, set_port_feature}
use Rattle.usb_hub.specs.{Queried, Commanded, DeviceStatus, KeepsDevices, hub_given, HubAsked}
use Rattle.usb_hub.specs.{StatusAsked, unless_refused, External, StaysAs, HasPort, NoHubFailed}
use Rattle.usb_descriptor.specs.{hub_spelled, port_count, most_ports, status_endpoint_of}
use Rattle.usb_descriptor.specs.{DescriptorFault}
use Rattle.usb_descriptor.proofs.Interface.{hub_spelled-wide, status_endpoint-wide}
use Rattle.usb_port.specs.{supply_of}
use Rattle.usb_enum.specs.{Cause, Stop, CountTold, IsPowered, Powered, answered_or, CanServe}
use Rattle.usb_enum.specs.{holds_changes, gives_hub, DeviceFact, AtMaximum, HasPorts, HasSupply}
use Rattle.usb_enum.specs.{IsGoodHub, Went, BadHub, FailureReason, Refuses, hub_fault, Learned}
use Rattle.usb_enum.specs.{HearsSet, Explained, ExplainsSet, IsRefusedFor, RefusesNoPort, no_fault}
use Rattle.usb_enum.specs.{start_fault}
use Rattle.usb_enum.specs.declared.cause.Cause.TheVariants as cause
use Rattle.usb_enum.specs.declared.stop.Stop.TheVariants.{Refused}
use Rattle.usb_enum.proofs.refusals.Refusals.{wrong_refuses, answered_err, explained_wider}
use Rattle.usb_enum.proofs.refusals.Refusals.{explains_set_on}
use Rattle.usb_device.specs.{status_length, Spec, Hub, IsSpec}
use Rattle.usb_port.specs.{IsPortNumber}
use Rattle.usb_enum.proofs.readings.Readings.{given_allows, answer_learned, text_learned}
use Rattle.std.specs.Prelude.{⊤}
use Rattle.usb_world.proofs.Interface.{each_wider}
use Rattle.usb_transfer.specs.declared.fault.PipeFault.TheVariants as pipe
use Rattle.usb_hub.proofs.Interface.{hub_sets, stays-registers, stays-spec}
use Rattle.usb_enum.proofs.courses.Courses.{went_on}
use Rattle.usb_enum.proofs.courses.Fairness.{serves_still}

-- what a port of a hub gives
pub hub_supply : (self_powered : Bool) → (supply_of false self_powered ≡ 500)
    ⊎ (supply_of false self_powered ≡ 100)
unfolding supply_of
hub_supply self_powered = grind arith

-- the descriptor that a hub told
pub count_told : (wide : Bool) {hub : Target} {bytes : Vec ℕ} {view : List ℕ} {old new : World}
    → Queried hub get_hub_descriptor old (Ok bytes) new → Ok view ≡ hub_spelled wide bytes.items
    → view ≡ bytes.items → CountTold hub old new (port_count view)
count_told wide {bytes} asked good same = record {
  bytes = bytes;
  asked = asked;
  good = grind (arith, hub_spelled-wide);
  said = ap port_count same;
}

-- a port whose power was ordered, where that was done
pub powered_by : {hub : Target} (port : ℕ) {old new : World} {outcome : Result (Unit {0}) PipeFault}
    (result : Result (Unit {0}) Stop) → result ≡ answered_or cause.BadHub outcome
    → Commanded hub (set_port_feature PORT_POWER port) old outcome new
    → IfOk result (λ _. IsPowered hub port old new)
powered_by port result is ordered = grind arith

-- one port more
pub powered_more : (hub : Target) (n : ℕ) (old between new : World) → Powered hub n old between
    → IsPowered hub (n + 1) between new → Powered hub (n + 1) old new
powered_more hub n old between new before now = grind arith

module _ (wide : Bool) (text : List ℕ) (number max ports : ℕ)
    (is : Some (number, max) ≡ status_endpoint_of wide text) where
  -- one of its packets holds the changes of so many ports
  pub status_holds : status_length ports ≤ max
      → holds_changes (status_endpoint_of wide text) ports ≡ true
  status_holds fits = grind arith

  -- or none does
  pub status_small : max < status_length ports
      → holds_changes (status_endpoint_of wide text) ports ≡ false
  status_small less = grind arith

  -- so the hub can be served
  pub can_serve : (supply : ℕ) → status_length ports ≤ max → IsPortNumber ports
      → ports ≤ most_ports wide → (supply ≡ 500) ⊎ (supply ≡ 100)
      → CanServe wide text (record { ports = ports; supply = supply })
  can_serve supply fits counted few gives = grind (arith, status_endpoint-wide)

pub ports_learned : {wide : Bool} {t : Target} {bytes : Vec ℕ} {hub : List ℕ} {old : World}
    (new : World) → Ok hub ≡ hub_spelled wide bytes.items → hub ≡ bytes.items
    → (new.shared ≡ false → EachWas (HubAsked t (Ok bytes)) old new)
    → DeviceFact (AtMaximum t (HasPorts wide (port_count hub))) t old new
ports_learned {wide} new good same what =
    text_learned hub_given new what (grind arith)

pub supply_learned : {t : Target} {status : DeviceStatus} {old : World} (new : World)
    → (new.shared ≡ false → EachWas (StatusAsked t (Ok status)) old new)
    → DeviceFact (HasSupply (supply_of false status.self_powered)) t old new
supply_learned {status} new what =
    answer_learned new what (grind arith)

-- The facts of a hub, by the rules of devices

-- a hub that gave this descriptor
record Given (spec : Spec) (text : List ℕ) : Type 0 where
  pub hub : Hub
  pub is : spec.hub ≡ Some hub
  pub descriptor : hub.descriptor ≡ text
  pub allowed : spec.stalls.hub ≡ false

-- it has as many ports as its descriptor says
pub record HadPorts (ports : ℕ) (spec : Spec) : Type 0 where
  pub hub : Hub
  pub is : spec.hub ≡ Some hub
  pub count : ports ≡ hub.ports

pub had_ports : {wide : Bool} {ports : ℕ} {spec : Spec} → HasPorts wide ports spec → IsSpec spec
    → HadPorts ports spec
had_ports p ruled = grind (arith, hub_spelled-wide)

pub is_good_hub_read : {wide : Bool} (text : List ℕ) {ports supply : ℕ} {spec : Spec}
    → holds_changes (status_endpoint_of wide text) ports ≡ true → HasPorts wide ports spec
    → HasSupply supply spec → IsSpec spec
    → IsGoodHub wide text (record { ports = ports; supply = supply }) spec
is_good_hub_read {wide} text {ports} {supply} {spec} endpoint p s ruled =
    let had = had_ports p ruled in grind arith

pub unless_refused-not : {X : Type 0} (refused : Bool) (given : X) → unless_refused refused (Some
    given) ≡ None → not refused ≡ false
unless_refused-not refused given none = grind arith

-- it does not give its descriptor
pub hub_ungiven : (wide : Bool) (spec : Spec) (o : Option Hub)
    → unless_refused spec.stalls.hub (option_map (λ (hub : Hub). hub.descriptor) o) ≡ None
    → gives_hub wide spec o ≡ false
hub_ungiven wide spec o none = grind arith

-- its descriptor is malformed
hub_malformed : (wide : Bool) (spec : Spec) (o : Option Hub) (text : List ℕ)
    → option_map (λ (hub : Hub). hub.descriptor) o ≡ Some text
    → is_ok (hub_spelled wide (take 9 text)) ≡ false → gives_hub wide spec o ≡ false
hub_malformed wide spec o text is bad = grind arith

-- it does not give its status
pub status_ungiven : (wide : Bool) (spec : Spec) (o : Option Hub)
    → not spec.stalls.status ≡ false → gives_hub wide spec o ≡ false
status_ungiven wide spec o h = grind arith

pub bad_hub : (wide : Bool) (spec : Spec) → gives_hub wide spec spec.hub ≡ false
    → hub_fault wide spec ≡ Some BadHub
bad_hub wide spec bad = grind arith

pub count_refused : (wide : Bool) {t : Target} {bytes : Vec ℕ} {fault : DescriptorFault}
    {old : World} (new : World) → hub_spelled wide bytes.items ≡ Err fault
    → (new.shared ≡ false → EachWas (HubAsked t (Ok bytes)) old new)
    → FailureReason (Refuses t (hub_fault wide) (Refused BadHub)) t old new
count_refused wide new bad what =
    wrong_refuses (hub_fault wide) new (text_learned hub_given new what (λ spec text given first.
    bad_hub wide spec (hub_malformed wide spec spec.hub text
    (given_allows spec.stalls.hub (option_map (λ (hub : Hub). hub.descriptor) spec.hub) text
    given).1 (grind arith))))

-- One port

-- it was given power
pub power_explains : {t : Target} (port : ℕ) {outcome : Result (Unit {0}) PipeFault} (stop : Stop)
    {old new : World} → Commanded t (set_port_feature PORT_POWER port) old outcome new
    → Err stop ≡ answered_or BadHub outcome → KeepsDevices old new
    → ExplainsSet (RefusesNoPort t port stop) t old new
power_explains {t} port {outcome} stop {old} {new} ordered is keeps three single j v on there =
    let was : Was StaysAs old j v = grind arith in
    let failed = answered_err BadHub is in
    record {
      before = was.before;
      on = was.on;
      stands = was.stands;
      so = record {
        spec = stays-spec was.before v was.so;
        address = grind arith;
        so = λ h ruled r has.
            let served : NoHubFailed outcome =
            (hub_sets (External t port) t port PORT_POWER old outcome new refl refl ordered).why
            t port refl three single (search (serves_still, stays-registers, stays-spec)) in
            subst (λ x. IsRefusedFor no_fault x was.before.spec) failed.2
            (grind arith);
      };
    }

-- Its ports, one by one

-- where each device stays as it was, nothing more is learned
pub learns_stays : (t : Target) {old new : World} → KeepsDevices old new
    → DeviceFact (λ spec. ⊤) t old new
learns_stays t {old} {new} keeps single = each_wider StaysAs (Learned (λ spec. ⊤) t)
    (grind arith) old new (keeps.stays single)

pub has_earlier : {spec : Spec} (m : ℕ) {n : ℕ} → 1 ≤ m → m ≤ n → HasPort spec n → HasPort spec m
has_earlier m least fewer h = grind arith

-- the ports before it were given power
-- A hub that is started

-- with another fault
module _ (wide : Bool) (text : List ℕ) where
  bad_start : (good endpoint : Bool) (cause : Cause) → (if good then None else Some BadHub)
      ≡ Some cause → (if endpoint && good then None else Some BadHub) ≡ Some cause
  bad_start good endpoint cause is = grind arith

  pub no_endpoint : (t : Target) (spec : Spec) → status_endpoint_of wide text ≡ None
      → Refuses t (start_fault wide text) (Refused BadHub) spec
  no_endpoint t spec none = grind arith

  -- its status endpoint is too small
  pub small_explains : (t : Target) (ports : ℕ) (old new : World)
      → holds_changes (status_endpoint_of wide text) ports ≡ false
      → DeviceFact (AtMaximum t (HasPorts wide ports)) t old new
      → ExplainsSet (Refuses t (start_fault wide text) (Refused BadHub)) t old new
  small_explains t ports old new small counted three single =
      each_wider (Learned (AtMaximum t (HasPorts wide ports)) t)
      (Explained HearsSet (Refuses t (start_fault wide text) (Refused BadHub)) t)
      (grind (arith, had_ports)) old new (counted single)

  -- what it gives was asked
  pub asked_explains : (t : Target) (stop : Stop) (old new : World)
      → FailureReason (Refuses t (hub_fault wide) stop) t old new
      → ExplainsSet (Refuses t (start_fault wide text) stop) t old new
  asked_explains t stop old new explains =
      explained_wider {B = Refuses t (start_fault wide text) stop} new (λ j s h. h.hears) explains
      (grind arith)

  -- its ports were counted, and it gave its status, before they were given power
  pub powered_explains : (t : Target) (ports : ℕ) (stop : Stop) {old a b new : World}
      → IsPortNumber ports → Went old a → DeviceFact (AtMaximum t (HasPorts wide ports)) t old a
      → Went a b → KeepsDevices a b → Went b new → ExplainsSet (RefusesNoPort t ports stop) t b new
      → ExplainsSet (Refuses t (start_fault wide text) stop) t old new
  powered_explains t ports stop {a} fits wa counted wb keeps wn explains =
      explains_set_on {C = Refuses t (start_fault wide text) stop} counted wa (went_on wb wn)
      (explains_set_on (learns_stays t keeps) wb wn explains (λ spec ruled a none. none))
      (grind (arith, had_ports))
