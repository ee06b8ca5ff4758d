-- What calls leave of all other devices and ports, from one call to the next.
use Rattle.std.proofs.Common.{arith, ◌≡◌, inl, inr, ◌==◌, ◌≤◌, ℕ, true, false, List, [], Option}
use Rattle.std.proofs.Common.{None, Some, Result, refl, sym, subst, IfErr}
use Rattle.std.specs.Global.{Vec}
use Rattle.usb_request.specs.{PORT_POWER, PORT_ENABLE, PORT_RESET, set_port_feature}
use Rattle.usb_request.specs.{set_configuration, set_address, Setup}
use Rattle.usb_device.specs.{State, Spec, Location, path_to}
use Rattle.usb_port.specs.{PortCall, SetReset, ClearEnable, set_call, clear_call, PortStatus}
use Rattle.usb_world.specs.{BusFault, after_taking, Relation, Was, EachWas, is_above, here, World}
use Rattle.usb_world.specs.{address_of, is_way, keeps_pending}
use Rattle.usb_world.proofs.Interface.{course_joined, course_wider, each_joined, each_none}
use Rattle.usb_world.proofs.Interface.{each_wider, and_false, decided, self_path}
use Rattle.usb_transfer.specs.{Target, PipeFault, FaultAfter, IsNoBusFault}
use Rattle.usb_hub.specs.{AddressMap, Unused, MapHolds, Enumerating, WhileBusWorks, KeepsAddresses}
use Rattle.usb_hub.specs.{HubPort, Root, External, StaysAs, EachElsewhere, KeepsDevices, KeepsAsked}
use Rattle.usb_hub.specs.{KeepsCleared, Resets, GivesAddress, ReadAsked, IsCall, CommandsPort}
use Rattle.usb_hub.specs.{PortRead, TouchesNoPort, TouchesPortsBelow, EndsAfter, Queried, Commanded}
use Rattle.usb_hub.specs.{AddressAsked, ConfigurationAsked, ControlCourse, EachNamedElsewhere}
use Rattle.usb_hub.specs.{KeepsAll, gives_power}
use Rattle.usb_hub.proofs.Interface.{keeps_none, keeps_then, is_way-same_path, write_nothing}
use Rattle.usb_hub.proofs.Interface.{power_backlog, stays_itself, keeps_devices_none}
use Rattle.usb_hub.proofs.Interface.{commanded_control, queried_control, all_none, all_then}
use Rattle.usb_hub.proofs.Interface.{found_all, found_called, found_then}
use Rattle.usb_enum.specs.{IsSpare, TakesAddress, OnlyCalls, AtPort, FoundAt, OnlyAsks, OnlyTells}
use Rattle.usb_enum.specs.{StaysBut, OnlySets, OnlyAt, Went}
use Rattle.usb_enum.proofs.devices.Enumerations.{Having, having, at_taking, within_then}
use Rattle.usb_enum.proofs.devices.Enumerations.{within-keeps_addresses, within_kept, within_reset}
use Rattle.usb_enum.proofs.devices.Enumerations.{within_given, zero_there}
use Rattle.usb_enum.proofs.readings.Readings.{devices_on}

-- Where the bus is at work, it did not end a call

pub fault_after-not_of_bus : {A : Type 0} (result : Result A PipeFault) (old new : World)
    → IfErr result (λ why. FaultAfter 1 old why new) → new.fault ≡ None → IsNoBusFault result
fault_after-not_of_bus result old new ends none = grind arith

pub ends_without_fault : {A : Type 0} (least : ℕ) (result : Result A PipeFault) (old new : World)
    → EndsAfter least old result new → new.fault ≡ None → IsNoBusFault result
ends_without_fault least result old new ends none = grind arith

-- Requests for data

-- what is attempted over one part, and then over the next
control_then : (old : World) {mid new : World} → (mid.fault ≡ None → ControlCourse old mid)
    → Went mid new → (new.fault ≡ None → ControlCourse mid new) → new.fault ≡ None
    → ControlCourse old new
control_then old a went b none = grind (arith, course_joined)

pub asks_none : (w : World) → OnlyAsks w w
asks_none w = record {
  addresses = keeps_none w;
  devices = keeps_devices_none w;
  ports = λ none x. here w;
  backlog = λ none. all_none w;
  control = λ none. here w;
}

pub asks_then : (old mid new : World) → OnlyAsks old mid → Went old mid → Went mid new
    → OnlyAsks mid new → OnlyAsks old new
asks_then old mid new a first went b = record {
  addresses = grind (arith, keeps_then);
  devices = devices_on a.devices went b.devices;
  ports = λ none x. course_joined (grind arith) (b.ports none x);
  backlog = grind (arith, all_then);
  control = grind (arith, control_then);
}

pub answer_asks : {A X : Type 0} {given : Spec → Option X} {Has : State → A → Type 0} {t : Target}
    {request : Setup} {outcome : Result A PipeFault} {answer : Result (Vec ℕ) PipeFault}
    {old new : World} → Queried t request old answer new → (new.shared ≡ false
    → EachWas (ReadAsked given Has t outcome) old new) → KeepsAddresses old new → OnlyAsks old new
answer_asks {given} {Has} {t} {request} {outcome} {answer} {old} {new} asked what keeps =
    record {
      addresses = keeps;
      devices = record {
        stays = λ single. each_wider (ReadAsked given Has t outcome) StaysAs
            (λ j s v x. x.frame) old new (what single);
      };
      ports = grind arith;
      backlog = grind arith;
      control = grind (arith, queried_control);
    }

-- a port's status; that of a root port is a register
pub status_asks : {port : HubPort} {outcome : Result PortStatus PipeFault} {old new : World}
    → PortRead port old outcome new → IfErr outcome (λ why. FaultAfter 1 old why new)
    → KeepsAsked port old outcome new → OnlyAsks old new
status_asks {port} {outcome} {old} {new} read ends keeps =
    record {
      addresses = keeps.keeps;
      devices = keeps.devices;
      ports = λ none. (by_port port read none).0;
      backlog = λ none. (by_port port read none).1;
      control = λ none. (by_port port read none).2;
    }
  where
    by_port : (port : HubPort) → PortRead port old outcome new → new.fault ≡ None
        → TouchesNoPort old new × KeepsAll old new × ControlCourse old new
    by_port (Root number) read none =
        subst (λ w. TouchesNoPort old w × KeepsAll old w × ControlCourse old w)
        (sym read.same) (λ x. here old, all_none old, here old)
    by_port (External hub n) told none = grind (arith, queried_control)

-- Requests to a hub about its ports

pub tells_asked : (hub : ℕ) (old new : World) → OnlyAsks old new → OnlyTells hub old new
tells_asked hub old new a = grind (arith, found_all)

pub tells_none : (hub : ℕ) (w : World) → OnlyTells hub w w
tells_none hub w = tells_asked hub w w (asks_none w)

-- whoever is owned before a call is so after it
owned_on : {f : AddressMap} {old new : World} → KeepsAddresses old new → new.fault ≡ None
    → MapHolds f old → MapHolds f new
owned_on {f} keeps none own =
    (keeps.kept f (grind arith)).so none

rest_then : (address : ℕ) {old mid new : World} → KeepsAddresses old mid
    → (mid.fault ≡ None → TouchesPortsBelow address old mid) → Went mid new
    → (new.fault ≡ None → TouchesPortsBelow address mid new)
    → new.fault ≡ None → TouchesPortsBelow address old new
rest_then address keeps a went b none f q held own x apart =
    let sound = went.led.sound none in
    course_joined (a sound f q held own x apart)
    (b none f q held (owned_on keeps sound own) x apart)

found_at_then : (address : ℕ) {old mid new : World} → KeepsAddresses old mid
    → (mid.fault ≡ None → FoundAt address old mid) → Went mid new
    → (new.fault ≡ None → FoundAt address mid new) → new.fault ≡ None → FoundAt address old new
found_at_then address keeps a went b none f q held own =
    let sound = went.led.sound none in
    found_then q (a sound f q held own) (b none f q held (owned_on keeps sound own))

pub tells_then : (hub : ℕ) (old mid new : World) → OnlyTells hub old mid → Went old mid
    → Went mid new → OnlyTells hub mid new → OnlyTells hub old new
tells_then hub old mid new a first went b =
    search (control_then, devices_on, found_at_then, keeps_then, rest_then, a.addresses, a.devices)

-- PORT_POWER
pub power_tells : {hub : Target} (port : ℕ) {result : Result (Unit {0}) PipeFault} {old new : World}
    → Commanded hub (set_port_feature PORT_POWER port) old result new → KeepsAddresses old new
    → KeepsDevices old new → OnlyTells hub.addr old new
unfolding set_port_feature
power_tells port ordered keeps devices =
    search (commanded_control, ends_without_fault, power_backlog, ordered.elsewhere)

-- SET_CONFIGURATION, and what goes before and after it

stays_but : (address : ℕ) (j : Location) (s v : State) → StaysAs j s v → StaysBut address j s v
stays_but address j s v x = grind arith

pub sets_told : (address : ℕ) (old new : World) → OnlyTells address old new
    → OnlySets address old new
sets_told address old new a = record {
  addresses = a.addresses;
  spent = grind arith;
  devices = λ single. each_wider StaysAs (StaysBut address) (stays_but address) old new
      (a.devices.stays single);
  ports = a.ports;
  backlog = a.backlog;
  control = a.control;
}

pub sets_asked : (address : ℕ) (old new : World) → OnlyAsks old new → OnlySets address old new
sets_asked address old new a = search (sets_told, tells_asked)

pub sets_at : {m n : ℕ} → m ≡ n → (old new : World) → OnlySets m old new → OnlySets n old new
sets_at same old new sets = grind arith

but_then : (address : ℕ) (j : Location) (s u v : State) → StaysBut address j s u
    → StaysBut address j u v → StaysBut address j s v
but_then address j s u v x y = grind arith

pub sets_then : (address : ℕ) (old mid new : World) → OnlySets address old mid → Went old mid
    → Went mid new → OnlySets address mid new → OnlySets address old new
sets_then address old mid new a first went b = record {
  addresses = grind (arith, keeps_then);
  spent = grind (arith, devices_on);
  devices = λ single. each_joined (StaysBut address) (StaysBut address) (StaysBut address)
      (but_then address) old mid new (grind arith) (b.devices single);
  ports = rest_then address a.addresses a.ports went b.ports;
  backlog = found_at_then address a.addresses a.backlog went b.backlog;
  control = grind (arith, control_then);
}

pub configuration_sets : {t : Target} (value : ℕ) {result : Result (Unit {0}) PipeFault}
    {old new : World} → Commanded t (set_configuration value) old result new
    → (new.shared ≡ false → EachWas (ConfigurationAsked t value result new) old new)
    → KeepsAddresses old new → OnlySets t.addr old new
unfolding set_configuration
configuration_sets {t} value {result} {old} {new} ordered what keeps =
    let sound : new.fault ≡ None → IsNoBusFault result = grind arith in
    record {
      addresses = keeps;
      spent = λ fault before. subst (λ w. KeepsDevices old w) (grind (arith, write_nothing))
          (keeps_devices_none old);
      devices = λ single.
          each_wider (ConfigurationAsked t value result new) (StaysBut t.addr)
          (grind arith) old new (what single);
      ports = search ordered.elsewhere;
      backlog = grind (arith, found_all);
      control = grind (arith, commanded_control);
    }

-- Calls at a port

elsewhere_of : (p : List ℕ) (old new : World) → EachWas StaysAs old new
    → EachElsewhere p StaysAs old new
elsewhere_of p old new was = grind arith

settings_elsewhere_then : (p : List ℕ) (old mid new : World) → EachElsewhere p StaysAs old mid
    → EachElsewhere p StaysAs mid new → EachElsewhere p StaysAs old new
settings_elsewhere_then p old mid new a b j s apart on there =
    let later : Was StaysAs mid j s = b j s apart on there in
    let sooner : Was StaysAs old j later.before = grind arith in grind arith

-- the same of those that have an address
named_of : (p : List ℕ) (old new : World) → EachElsewhere p StaysAs old new
    → EachNamedElsewhere p StaysAs old new
named_of p old new each = grind arith

named_kept : (p : List ℕ) {old new : World} → KeepsDevices old new → new.shared ≡ false
    → EachNamedElsewhere p StaysAs old new
named_kept p keeps single = grind arith

named_then : (p : List ℕ) (old mid new : World) → EachNamedElsewhere p StaysAs old mid
    → EachNamedElsewhere p StaysAs mid new → EachNamedElsewhere p StaysAs old new
named_then p old mid new a b j s apart on there has =
    let later : Was StaysAs mid j s = b j s apart on there has in
    let sooner : Was StaysAs old j later.before = grind arith in grind arith

only_at_then : {p : List ℕ} {old mid new : World} → OnlyAt p old mid → OnlyAt p mid new
    → OnlyAt p old new
only_at_then {p} {old} {mid} {new} a b = record {
  others = grind (arith, course_joined);
  spares = course_joined a.spares b.spares;
  devices = settings_elsewhere_then p old mid new a.devices b.devices;
  backlog = found_then p a.backlog b.backlog;
  control = course_joined a.control b.control;
}

-- where nothing was asked of any port
only_at_rest : (p : List ℕ) {old new : World} → TouchesNoPort old new → KeepsAll old new
    → EachElsewhere p StaysAs old new → ControlCourse old new → OnlyAt p old new
only_at_rest p rests backlog devices control =
    record {
      others = λ x apart. rests x;
      spares = course_wider (λ s w k. k.spares) (rests p);
      devices = devices;
      backlog = found_all p backlog;
      control = control;
    }

pub calls_none : (port : HubPort) (address : ℕ) (w : World) → OnlyCalls port address w w
calls_none port address w = record {
  at =
      λ f p spare t none. only_at_rest p (λ x. here w) (all_none w)
      (elsewhere_of p w w (each_none StaysAs stays_itself w)) (here w);
  named = search;
}

pub at_port_none : (port : HubPort) (address : ℕ) (w : World) → AtPort port address w w
at_port_none port address w = grind (arith, calls_none)

pub calls_then : {port : HubPort} {address : ℕ} {old mid new : World} → AtPort port address old mid
    → Went mid new → OnlyCalls port address mid new → OnlyCalls port address old new
calls_then {old} {mid} {new} a went b = record {
  at = λ f p spare t none. only_at_then (a.only.at f p spare t (went.led.sound none))
      (b.at f p spare (a.within.stays f p spare t) none);
  named = λ f p spare t. named_then p old mid new (a.only.named f p spare t)
      (b.named f p spare (a.within.stays f p spare t));
}

pub at_port_then : (port : HubPort) (address : ℕ) (old mid new : World)
    → AtPort port address old mid → Went mid new → AtPort port address mid new
    → AtPort port address old new
at_port_then port address old mid new a went b = search (calls_then, within_then, a.within)

-- a request for data at any time
pub at_asked : (port : HubPort) (address : ℕ) (old new : World) → OnlyAsks old new
    → AtPort port address old new
at_asked port address old new asks = record {
  within = within_kept asks.addresses;
  only = record {
    at = λ f p spare t none.
        only_at_rest p (asks.ports none) (asks.backlog none)
        (elsewhere_of p old new (asks.devices.stays
        ((within_kept asks.addresses).stays f p spare t).single)) (asks.control none);
    named = λ f p spare t. named_kept p asks.devices
        ((within_kept asks.addresses).stays f p spare t).single;
  };
}

-- the call is one at the port of the path
pub called_is : {f : AddressMap} {port : HubPort} {p : List ℕ} {address : ℕ} {w : World}
    → IsSpare f port p address → (h : Having f p address w)
    → (call : Option PortCall) (c : PortCall) → call ≡ Some c
    → IsCall (after_taking f p h.has) port p call c w
called_is spare h call c is = grind (arith, at_taking, zero_there)

-- a call that clears nothing that is pending at the port
module _ {port : HubPort} (address : ℕ) {call : Option PortCall} (c : PortCall) (is : call ≡ Some c)
    (spared : keeps_pending c [] ≡ true) (quiet : gives_power c ≡ false)
    {result : Result (Unit {0}) PipeFault} {old new : World}
    (ends : IfErr result (λ why. FaultAfter 1 old why new))
    (calls : CommandsPort port call old result new) where
  called_at : {f : AddressMap} {p : List ℕ} → IsSpare f port p address
      → WhileBusWorks (Enumerating f p address) old → new.fault ≡ None
      → ((h : Having f p address old) → EachElsewhere p StaysAs old new) → OnlyAt p old new
  called_at {f} {p} spare t none devices =
      let h = having f p address t in
      let g : AddressMap = after_taking f p h.has in
      let sound = fault_after-not_of_bus result old new ends none in
      let call_is : IsCall g port p call c old = called_is spare h call c is in
      record {
        others = grind arith;
        spares = grind arith;
        devices = devices h;
        backlog = found_called p c quiet (grind arith);
        control = calls.control c is sound;
      }

-- the clearing of a change bit or of PORT_ENABLE
pub clear_calls : {port : HubPort} (address : ℕ) {call : Option PortCall} (c : PortCall)
    → call ≡ Some c → keeps_pending c [] ≡ true → gives_power c ≡ false
    → {feature : ℕ} {result : Result (Unit {0}) PipeFault} {old new : World}
    → IfErr result (λ why. FaultAfter 1 old why new) → CommandsPort port call old result new
    → KeepsCleared port feature old result new → OnlyCalls port address old new
clear_calls address c is spared quiet {old} {new} ends calls keeps = record {
  at = λ f p spare t none.
      called_at address c is spared quiet ends calls spare t none
      (λ h. elsewhere_of p old new (keeps.devices.stays
      (keeps.keeps.kept (after_taking f p h.has) h.owned).single));
  named = λ f p spare t.
      let h = having f p address t in
      named_kept p keeps.devices (keeps.keeps.kept (after_taking f p h.has) h.owned).single;
}

-- PORT_ENABLE
pub disable_calls : {port : HubPort} (address : ℕ) {result : Result (Unit {0}) PipeFault}
    {old new : World} → IfErr result (λ why. FaultAfter 1 old why new)
    → CommandsPort port (clear_call PORT_ENABLE) old result new
    → KeepsCleared port PORT_ENABLE old result new → OnlyCalls port address old new
disable_calls address ends calls keeps =
    clear_calls address ClearEnable refl refl refl ends calls keeps

-- PORT_RESET
pub reset_calls : {port : HubPort} (address : ℕ) {result : Result (Unit {0}) PipeFault}
    {old new : World} → IfErr result (λ why. FaultAfter 1 old why new)
    → CommandsPort port (set_call PORT_RESET) old result new → Resets port old new
    → OnlyCalls port address old new
reset_calls {port} address ends calls resets = record {
  at = λ f p spare t none.
      called_at address SetReset refl refl refl ends calls spare t none
      (λ h. resets.others (after_taking f p h.has) p (search at_taking)
      (zero_there f p h.has spare.none) h.owned none);
  named = λ f p spare t.
      let h = having f p address t in
      resets.named (after_taking f p h.has) p (search at_taking)
      (zero_there f p h.has spare.none) h.owned;
}

pub at_reset : {port : HubPort} {address : ℕ} {old new : World} → Resets port old new
    → OnlyCalls port address old new → AtPort port address old new
at_reset resets only = grind (arith, within_reset)

-- What is claimed elsewhere than at the port

pub but_taken : (f : AddressMap) (p : List ℕ) (a : ℕ) (x : List ℕ) → is_way p x ≡ false
    → after_taking f p a x ≡ f x
but_taken f p a x off = grind (arith, is_way-same_path)

-- a bus is at work, or has given up
by_fault : {P : Type 0} (w : World) → (w.fault ≡ None → P)
    → ((fault : BusFault) → w.fault ≡ Some fault → P) → P
by_fault w works given_up = grind arith

-- those elsewhere stay as they were, where a call changes only a device at an address of none
unheld_stays : (f : AddressMap) (p : List ℕ) (has n : ℕ) {old : World} (new : World)
    → MapHolds (after_taking f p has) old → Unused f n → (R : Relation)
    → ((j : Location) (s v : State) → R j s v → (address_of s == n) ≡ false → StaysAs j s v)
    → EachWas R old new → EachElsewhere p StaysAs old new
unheld_stays f p has n {old} new own unused R stays was j s apart on there =
    let w : Was R old j s = was j s on there in
    let off : (address_of w.before == n) ≡ false = elim (decided (address_of w.before == n)) [
      | inl e ↦ absurd (unused (path_to j) (grind (arith, but_taken)))
      | inr e ↦ e
    ] in grind arith

-- SET_ADDRESS, at address 0
pub at_addressed : {port : HubPort} {address : ℕ} {target : Target}
    {result : Result (Unit {0}) PipeFault} {old mid new : World} → AtPort port address old mid
    → target.addr ≡ 0 → 1 ≤ address → Went mid new
    → Commanded target (set_address address) mid result new
    → (new.shared ≡ false → EachWas (AddressAsked target address result mid new) mid new)
    → GivesAddress target.addr address mid new → AtPort port address old new
unfolding set_address
at_addressed {port} {address} {target} {result} {old} {mid} {new} at zero_is least went ordered what
    gives =
    let within = within_given port zero_is least gives in
    at_port_then port address old mid new at went (record {
      within = within;
      only = record {
        at = λ f p spare t none.
            let h = having f p address t in
            let sound = ends_without_fault 2 result mid new ordered.ends none in
            only_at_rest p (ordered.rests refl sound) (grind arith)
            (unheld_stays f p h.has 0 new (grind arith)
            spare.none (AddressAsked target address result mid new)
            (grind arith) (grind arith)) (grind (arith, commanded_control));
        named = λ f p spare t. by_fault mid (λ none.
            let h = having f p address t in
            named_of p mid new (unheld_stays f p h.has 0 new (h.owned.so none) spare.none
            (AddressAsked target address result mid new)
            (grind arith) (grind arith)))
            (λ fault before. subst (λ w. EachNamedElsewhere p StaysAs mid w)
            (sym (write_nothing target (set_address address) mid new fault before result
            ordered.stages)) (named_kept p (keeps_devices_none mid) t.single));
      };
    })

pub held_there : (f : AddressMap) (p : List ℕ) (address : ℕ)
    → after_taking f p address p ≡ Some address
held_there f p address = search self_path

pub is_above-self : (p : List ℕ) → is_above p p ≡ false
is_above-self p = search (and_false, self_path)

-- what comes after the device has its address
pub at_configured : {port : HubPort} {address : ℕ} {old mid new : World}
    → AtPort port address old mid → TakesAddress port address old mid → Went mid new
    → OnlySets address mid new → AtPort port address old new
at_configured {address} {old} {mid} {new} at takes went sets = record {
  within = within-keeps_addresses at.within sets.addresses;
  only = record {
    at = λ f p spare t none.
        let sound = went.led.sound none in
        let taken = takes.took f p spare t in
        let own = taken.so sound in
        let rests = sets.ports none (after_taking f p address) p (held_there f p address) own in
        only_at_then (grind arith) (record {
          others = grind arith;
          spares = course_wider (λ s w k. k.spares) (rests p (is_above-self p));
          devices = unheld_stays f p address address new own spare.spare (StaysBut address)
              (grind arith)
              (sets.devices (sets.addresses.kept (after_taking f p address) taken).single);
          backlog = search (held_there, sets.backlog);
          control = sets.control none;
        });
    named = λ f p spare t.
        let taken = takes.took f p spare t in
        let single = (sets.addresses.kept (after_taking f p address) taken).single in
        named_then p old mid new (at.only.named f p spare t) (by_fault mid
        (λ none. named_of p mid new (unheld_stays f p address address new (taken.so none)
        spare.spare (StaysBut address) (grind arith) (sets.devices single)))
        (grind arith));
  };
}
