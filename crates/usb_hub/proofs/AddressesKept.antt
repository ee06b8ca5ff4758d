-- What the calls on devices and ports do to the addresses that devices hold.
use Rattle.std.proofs.Common.{arith, ◌≡◌, ◌≢◌, ◌⊎◌, refl, sym, subst, true, false, ℕ, List, None}
use Rattle.std.proofs.Common.{Some, Result, Ok, Err, OnOk}
use Rattle.std.specs.Global.{Vec}
use Rattle.usb_request.specs.{PORT_ENABLE, PORT_RESET, PORT_POWER, SET_ADDRESS, DEVICE_OUT}
use Rattle.usb_request.specs.{IsToHost, clear_hub_feature, Setup, get_port_status, set_port_feature}
use Rattle.usb_request.specs.{clear_port_feature, set_address, set_configuration, set_interface}
use Rattle.usb_request.proofs.Interface.{same_setup}
use Rattle.usb_port.specs.{status_in, PortStatus, PortCall, SetPower, SetReset, is_reset}
use Rattle.usb_port.specs.{IsClearFeature}
use Rattle.usb_port.proofs.Interface.{call_is}
use Rattle.usb_device.specs.{Is, State, Location, path_to, reach_on, state_on}
use Rattle.usb_world.specs.{World, SetsRoot, ClearsRoot, root_call, after, after_reset}
use Rattle.usb_world.specs.{after_taking, is_harmless, address_of, is_way}
use Rattle.usb_transfer.specs.{Target, Answerer, PipeFault, Reads}
use Rattle.usb_transfer.proofs.Interface.{host_harmless}
use Rattle.usb_hub.specs.{AddressMap, map_without, MapHolds, WhileBusWorks, KeepsAddresses, HubPort}
use Rattle.usb_hub.specs.{Root, External, StaysAs, EachElsewhere, KeepsDevices, IsBelow}
use Rattle.usb_hub.specs.{EachNamedElsewhere, IsClaimed, Resets, GivesAddress, KeepsAnswered}
use Rattle.usb_hub.specs.{KeepsAsked, KeepsSet, KeepsCleared, PortRead, EndsAfter, ReadAs}
use Rattle.usb_hub.specs.{Commanded}
use Rattle.usb_hub.proofs.Answerers.{answerer_claims}
use Rattle.usb_hub.proofs.TransferSequences.{either_alone, read_keeps, write_keeps, write_till}
use Rattle.usb_hub.proofs.Transfers.{gives_address}
use Rattle.usb_hub.proofs.AddressPorts.{not_way, reset_till}
use Rattle.usb_hub.proofs.Setups.{reads_other}
use Rattle.usb_hub.proofs.Roots.{root_keeps, root_resets, root_shut}
use Rattle.usb_hub.proofs.PortResets.{is_way-same_path}
use Rattle.usb_hub.proofs.Devices.{keeps_devices_none, port_status_keeps, clear_feature_keeps}
use Rattle.usb_hub.proofs.Devices.{set_stays, reset_stays, root_stays, root_elsewhere}
use Rattle.usb_hub.proofs.BaredPorts.{port_told_bares, done_bares}
use Rattle.usb_hub.proofs.Calls.{hub_clears, root_clears}
use Rattle.usb_hub.proofs.Moments.{hub_tells}

-- Requests to a device

pub reads_keeps_addresses : (target : Target) (request : Setup) (old : World)
    (result : Result (Vec ℕ) PipeFault) (new : World) → IsToHost request
    → EndsAfter 3 old result new → Reads target request old result new
    → OnOk result (new.shared ≡ false → Answerer target old new)
    → KeepsAnswered target.addr old result new
reads_keeps_addresses target request old result new reads ends stages who =
    let keeps = read_keeps target request (same_setup request) (host_harmless request reads)
    (reads_other request reads) 3 1 old new result ends stages in
    record { keeps = keeps; who = told result ends who keeps }
  where
    told : (result : Result (Vec ℕ) PipeFault) → EndsAfter 3 old result new
        → OnOk result (new.shared ≡ false → Answerer target old new) → KeepsAddresses old new
        → OnOk result (IsClaimed target.addr old)
    told (Ok bytes) ends who keeps = record {
      held =
          λ f o. answerer_claims f target old new (o.so ends.sound) (who (keeps.kept f o).single);
    }
    told (Err fault) ends who keeps = tt

pub ordered_keeps : (target : Target) (request : Setup) (old : World)
    (result : Result (Unit {0}) PipeFault) (new : World) → is_harmless request ≡ true
    → Is request DEVICE_OUT SET_ADDRESS ≡ false → Commanded target request old result new
    → KeepsAddresses old new
ordered_keeps target request old result new harmless other ordered =
    write_keeps target request (same_setup request) harmless other 2 1 old new result ordered.ends
    ordered.stages

pub configured : (target : Target) (value : ℕ) (old : World) (result : Result (Unit {0}) PipeFault)
    (new : World) → Commanded target (set_configuration value) old result new
    → KeepsAddresses old new
unfolding set_configuration
configured target value old result new h = grind (arith, ordered_keeps)

pub interface_set : (target : Target) (interface setting : ℕ) (old : World)
    (result : Result (Unit {0}) PipeFault) (new : World)
    → Commanded target (set_interface interface setting) old result new → KeepsAddresses old new
unfolding set_interface
interface_set target interface setting old result new h = grind (arith, ordered_keeps)

pub address_given : (target : Target) (address : ℕ) (old : World)
    (result : Result (Unit {0}) PipeFault) (new : World)
    → Commanded target (set_address address) old result new
    → GivesAddress target.addr address old new
unfolding set_address
address_given target address old result new ordered = record {
  gives = λ f p at spare differ o.
      write_till (λ w. MapHolds f w ⊎ MapHolds (after_taking f p address) w)
      (search either_alone) old new 2 1 target (set_address address)
      o.single result ordered.ends ordered.stages
      (λ sound. gives_address f target (set_address address) (search same_setup) refl
      p at spare differ old result new ordered.stages (o.so sound));
}

-- Requests to a hub

pub hub_feature_keeps : (hub : Target) (feature : ℕ) (old : World)
    (result : Result (Unit {0}) PipeFault) (new : World)
    → Commanded hub (clear_hub_feature feature) old result new → KeepsAddresses old new
unfolding clear_hub_feature
hub_feature_keeps hub feature old result new h = grind (arith, ordered_keeps)

-- Requests to a port of a hub

pub cleared_keeps : (hub : Target) (feature port : ℕ) (old : World)
    (result : Result (Unit {0}) PipeFault) (new : World)
    → Commanded hub (clear_port_feature feature port) old result new → KeepsAddresses old new
unfolding clear_port_feature
cleared_keeps hub feature port old result new h = grind (arith, ordered_keeps)

pub set_keeps : (hub : Target) (feature port : ℕ) (old : World)
    (result : Result (Unit {0}) PipeFault) (new : World) → feature ≢ PORT_RESET
    → Commanded hub (set_port_feature feature port) old result new → KeepsAddresses old new
unfolding set_port_feature
set_keeps hub feature port old result new other h = grind (arith, ordered_keeps)

-- what is not at a path nor below it is not claimed at 0, where 0 is claimed there alone
reset_elsewhere : (f : AddressMap) (p : List ℕ) (w : World)
    → ((x : List ℕ) → f x ≡ Some 0 → is_way p x ≡ true) → MapHolds f w
    ⊎ MapHolds (after_reset f p) w
    → (j : Location) (s : State) → is_way p (path_to j) ≡ false → reach_on w.roots j ≡ true
    → state_on w.roots j ≡ Some s → address_of s ≢ 0
reset_elsewhere f p w only h j s apart on there = grind (arith, is_way-same_path)

hub_resets : (hub : Target) (port : ℕ) (old : World) (result : Result (Unit {0}) PipeFault)
    (new : World) → Commanded hub (set_port_feature PORT_RESET port) old result new
    → Resets (External hub port) old new
hub_resets hub port old result new ordered =
    record { resets = resets; others = others; named = kept }
  where
    resets : (f : AddressMap) (p : List ℕ) → IsBelow f hub.addr port p
        → ((x : List ℕ) → f x ≡ Some 0 → is_way p x ≡ true) → WhileBusWorks (MapHolds f) old
        → WhileBusWorks (λ w. MapHolds f w ⊎ MapHolds (after_reset f p) w) new
    resets f p at only o =
        subst (λ p. WhileBusWorks (λ w. MapHolds f w ⊎ MapHolds (after_reset f p) w) new)
        (sym at.path)
        (reset_till hub 2 1 old new f at.hub port result at.held ordered.ends ordered.stages
        (grind arith) o)

    named : (f : AddressMap) (p : List ℕ) → IsBelow f hub.addr port p
        → ((x : List ℕ) → f x ≡ Some 0 → is_way p x ≡ true) → hub.addr ≢ 0
    named f p at only zero_is = grind (arith, not_way)

    kept : (f : AddressMap) (p : List ℕ) → IsBelow f hub.addr port p
        → ((x : List ℕ) → f x ≡ Some 0 → is_way p x ≡ true) → WhileBusWorks (MapHolds f) old
        → EachNamedElsewhere p StaysAs old new
    kept f p at only o j s apart on there =
        reset_stays hub port old result new (named f p at only) ordered (resets f p at only
        o).single j s on there

    others : (f : AddressMap) (p : List ℕ) → IsBelow f hub.addr port p
        → ((x : List ℕ) → f x ≡ Some 0 → is_way p x ≡ true) → WhileBusWorks (MapHolds f) old
        → new.fault ≡ None → EachElsewhere p StaysAs old new
    others f p at only o none j s apart on there =
        kept f p at only o j s apart on there
        (reset_elsewhere f p new only ((resets f p at only o).so none) j s apart on there)

-- Root ports

-- each call that sets or clears is one of these
root_set_is : (number feature : ℕ) (old new : World) → SetsRoot number feature old new
    → feature ≡ PORT_POWER → new ≡ after (root_call SetPower number) old
root_set_is number feature old new sets e = grind arith

root_reset_is : (number feature : ℕ) (old new : World) → SetsRoot number feature old new
    → feature ≡ PORT_RESET → new ≡ after (root_call SetReset number) old
root_reset_is number feature old new sets e = grind arith

-- a call that resets none
pub record CalledQuietly (number : ℕ) (old new : World) : Type 0 where
  pub call : PortCall
  pub quiet : is_reset call ≡ false
  pub is : new ≡ after (root_call call number) old

power_is_quiet : (number feature : ℕ) (old new : World) → SetsRoot number feature old new
    → feature ≡ PORT_POWER → CalledQuietly number old new
power_is_quiet number feature old new sets e =
    record { call = SetPower; quiet = refl; is = search root_set_is }

clear_is_quiet : (number feature : ℕ) (old new : World) → IsClearFeature feature
    → ClearsRoot number feature old new → CalledQuietly number old new
clear_is_quiet number feature old new named clears = grind (arith, call_is)

keeps_quietly : (number : ℕ) (old new : World) → CalledQuietly number old new
    → KeepsAddresses old new
keeps_quietly number old new x = grind (arith, root_keeps)

stays_quietly : (number : ℕ) (old new : World) → CalledQuietly number old new → KeepsDevices old new
stays_quietly number old new x = grind (arith, root_stays)

-- Any port

pub status_keeps : (port : HubPort) (old : World) (result : Result PortStatus PipeFault)
    (new : World) → (number : ℕ) → port ≡ Root number → PortRead port old result new
    → KeepsAsked port old result new
status_keeps port old result new number e read = rw e (root (rw e at read))
  where
    root : PortRead (Root number) old result new → KeepsAsked (Root number) old result new
    root r = record {
      keeps = grind arith;
      devices = grind (arith, keeps_devices_none);
      bare = λ status told off. record {
        bares = λ f p at o. subst (λ w. WhileBusWorks (MapHolds (map_without f p)) w) (sym r.same)
            (subst (λ p. WhileBusWorks (MapHolds (map_without f p)) old) (sym at)
            (root_shut f number old (grind arith) o));
      };
    }

pub hub_status_keeps : (port : HubPort) (hub : Target) (number : ℕ) (old : World)
    (result : Result PortStatus PipeFault) (new : World) → port ≡ External hub number
    → ReadAs status_in hub (get_port_status number) old result new → KeepsAddresses old new
    → KeepsAsked port old result new
hub_status_keeps port hub number old result new e told keeps = rw e (record {
  keeps = keeps;
  devices = search port_status_keeps;
  bare = λ status is off.
      port_told_bares (External hub number) status old new keeps
      (hub_tells (External hub number) hub number old (Ok status) new refl (grind arith)) off;
})

pub root_set_keeps : (port : HubPort) (number feature : ℕ) (old new : World) → port ≡ Root number
    → SetsRoot number feature old new → KeepsSet port feature old new
root_set_keeps port number feature old new e sets = rw e (record {
  keeps = λ is. keeps_quietly number old new (grind (arith, power_is_quiet));
  devices = λ is. stays_quietly number old new (grind (arith, power_is_quiet));
  resets = λ is. record {
    resets = λ f p at only o.
        subst (λ w. WhileBusWorks (λ w. MapHolds f w ⊎ MapHolds (after_reset f p) w) w)
        (grind arith)
        (subst (λ p. WhileBusWorks (λ w. MapHolds f w ⊎ MapHolds (after_reset f p) w)
        (after (root_call SetReset number) old)) (sym at)
        (root_resets number old f (grind arith) o));
    others = λ f p at only o none.
        subst (λ w. EachElsewhere p StaysAs old w)
        (sym (root_reset_is number feature old new sets is)) (grind (arith, root_elsewhere));
    named = λ f p at only o.
        subst (λ w. EachNamedElsewhere p StaysAs old w)
        (sym (root_reset_is number feature old new sets is)) (grind (arith, root_elsewhere));
  };
})

pub hub_set_keeps : (port : HubPort) (hub : Target) (number feature : ℕ) (old : World)
    (result : Result (Unit {0}) PipeFault) (new : World) → port ≡ External hub number
    → Commanded hub (set_port_feature feature number) old result new → KeepsSet port feature old new
hub_set_keeps port hub number feature old result new e ordered =
    grind (arith, hub_resets, set_keeps, set_stays)

pub root_clear_keeps_port : (port : HubPort) (number feature : ℕ) (old new : World)
    → port ≡ Root number → IsClearFeature feature → ClearsRoot number feature old new
    → KeepsCleared port feature old (Ok tt) new
root_clear_keeps_port port number feature old new e named clears = rw e (record {
  keeps = keeps_quietly number old new (grind (arith, clear_is_quiet));
  devices = stays_quietly number old new (grind (arith, clear_is_quiet));
  bare = λ is done.
      done_bares (Root number) old new (keeps_quietly number old new
      (grind (arith, clear_is_quiet))) (grind (arith, root_clears));
})

pub hub_clear_keeps : (port : HubPort) (hub : Target) (number feature : ℕ) (old : World)
    (result : Result (Unit {0}) PipeFault) (new : World) → port ≡ External hub number
    → Commanded hub (clear_port_feature feature number) old result new
    → KeepsCleared port feature old result new
hub_clear_keeps port hub number feature old result new e ordered = rw e (record {
  keeps = grind (arith, cleared_keeps);
  devices = grind (arith, clear_feature_keeps);
  bare = λ is done.
      done_bares (External hub number) old new (grind (arith, cleared_keeps))
      (hub_clears (External hub number) hub number PORT_ENABLE old (Ok tt) new refl refl
      (grind arith));
})
