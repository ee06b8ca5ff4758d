-- Calls on ports that leave each device as it was.
use Rattle.std.proofs.Common.{◌≡◌, ◌≢◌, ℕ, zero, suc, true, false, List, [], ◌∷◌, Option, Some}
use Rattle.std.proofs.Common.{option_map, Result, refl, arith}
use Rattle.usb_request.specs.{PORT_RESET, get_port_status, set_port_feature, clear_port_feature}
use Rattle.usb_request.specs.{Setup}
use Rattle.usb_request.proofs.Interface.{same_setup}
use Rattle.usb_port.specs.{PortState, status_in, PortStatus, PortCall, is_reset}
use Rattle.usb_device.specs.{Registers, OnlyControl, OnlyStage, Outcome, stalled, calls_port}
use Rattle.usb_device.specs.{outcome, State, accepted, Spec, Ports, Location, reach_on, state_on}
use Rattle.usb_world.specs.{is_harmless, Was, EachWas, root_call, after, World, address_of, is_way}
use Rattle.usb_world.specs.{call_resets, reset_if}
use Rattle.usb_world.proofs.Interface.{call_reach, call_state, each_wider}
use Rattle.usb_transfer.specs.{Target, PipeFault, ReadLeaves, WriteLeaves}
use Rattle.usb_transfer.proofs.Interface.{read_leaves, write_leaves}
use Rattle.usb_hub.specs.{StaysAs, EachElsewhere, KeepsDevices, ReadAs, Commanded}
use Rattle.usb_hub.proofs.Settings.{each_leaves, write_so}

pub stays_itself : (j : Location) (s : State) → StaysAs j s s
stays_itself j s = refl

-- it has the description that it had
pub stays-spec : (s v : State) → OnlyStage s v → v.spec ≡ s.spec
stays-spec s v stays = grind arith

-- and the registers
pub stays-registers : (s v : State) → OnlyStage s v → v.registers ≡ s.registers
stays-registers s v stays = grind arith

pub stays_joined : (j : Location) (s t v : State) → StaysAs j s t → StaysAs j t v → StaysAs j s v
stays_joined j s t v x y = grind arith

pub stays_as_same : (j : Location) (s v : State) → v ≡ s → StaysAs j s v
stays_as_same j s v e = grind arith

-- where its registers may have changed too, and are the same
pub control_stays : (j : Location) (s v : State) → OnlyControl s v → v.registers ≡ s.registers
    → StaysAs j s v
control_stays j s v frame same = grind arith

pub keeps_devices_none : (w : World) → KeepsDevices w w
keeps_devices_none w = grind arith

-- Requests to a port of a hub

-- what asks nothing of the device itself
abbrev pub IsOfPort : Outcome → Type 0
IsOfPort stalled = Unit {0}
IsOfPort (calls_port c i) = Unit {0}
IsOfPort _ = ⊥

module _ (t : Target) (request : Setup) (of_port : (spec : Spec) (g : Registers)
    → IsOfPort (outcome spec g request)) (old new : World) (j : Location) (s v : State) where
  accepted_stays : (row : List PortState) → OnlyControl (accepted s row request) v
      → v.registers ≡ (accepted s row request).registers → StaysAs j s v
  accepted_stays row frame same = grind arith

  pub write_stays : (result : Result (Unit {0}) PipeFault)
      → WriteLeaves t request result old new j s v → StaysAs j s v
  write_stays =
      write_so t request old new j s v (StaysAs j s v) accepted_stays
      (grind arith) (search control_stays)

ordered_stays : (t : Target) (request : Setup)
    → ((spec : Spec) (g : Registers) → IsOfPort (outcome spec g request))
    → is_harmless request ≡ true → request.length ≡ 0
    → (old : World) (result : Result (Unit {0}) PipeFault) (new : World)
    → Commanded t request old result new → KeepsDevices old new
ordered_stays t request of_port harmless nothing old result new ordered = record {
  stays = λ single.
      each_wider (WriteLeaves t request result old new) StaysAs (grind arith) old new
      (grind (arith, each_leaves));
}

pub clear_feature_keeps : (hub : Target) (feature port : ℕ) (old : World)
    (result : Result (Unit {0}) PipeFault) (new : World)
    → Commanded hub (clear_port_feature feature port) old result new → KeepsDevices old new
unfolding clear_port_feature outcome
clear_feature_keeps hub feature port old result new h = grind (arith, ordered_stays)

pub set_stays : (hub : Target) (feature port : ℕ) (old : World)
    (result : Result (Unit {0}) PipeFault) (new : World) → feature ≢ PORT_RESET
    → Commanded hub (set_port_feature feature port) old result new → KeepsDevices old new
unfolding set_port_feature outcome
set_stays hub feature port old result new other h = grind (arith, ordered_stays)

-- PORT_RESET, of a device that has an address
pub reset_stays : (hub : Target) (port : ℕ) (old : World) (result : Result (Unit {0}) PipeFault)
    (new : World) → hub.addr ≢ 0 → Commanded hub (set_port_feature PORT_RESET port) old result new
    → new.shared ≡ false
    → (j : Location) (s : State) → reach_on new.roots j ≡ true → state_on new.roots j ≡ Some s
    → address_of s ≢ 0 → Was StaysAs old j s
unfolding set_port_feature outcome
reset_stays hub port old result new addressed ordered single j s on there named =
    let request : Setup = set_port_feature PORT_RESET port in
    let was : Was (WriteLeaves hub request result old new) old j s =
    grind (arith, same_setup, write_leaves) in grind arith

-- the status of one
pub port_status_keeps : (hub : Target) (port : ℕ) (old : World)
    (result : Result PortStatus PipeFault) (new : World)
    → ReadAs status_in hub (get_port_status port) old result new → KeepsDevices old new
unfolding get_port_status
port_status_keeps hub port old result new told = record {
  stays = λ single.
      each_wider (ReadLeaves hub (get_port_status port) told.answer old new) StaysAs
      (λ j s v x. x.frame) old new (grind (arith, read_leaves, same_setup));
}

-- Root ports

reset_if-kept : (o : Option State) (b : _) (s : State) → b ≡ false
    → option_map (reset_if b) o ≡ Some s → o ≡ Some s
reset_if-kept o b s e h = grind arith

root_was : (c : PortCall) (i : ℕ) (old : World) (j : Location) (s : State)
    → call_resets c old.roots i j.row j.rest ≡ false
    → reach_on (after (root_call c (suc i)) old).roots j ≡ true
    → state_on (after (root_call c (suc i)) old).roots j ≡ Some s → Was StaysAs old j s
unfolding after
root_was c i old j s rests on there = record {
  before = s;
  on = grind (arith, call_reach);
  stands = reset_if-kept (state_on old.roots j) (call_resets c old.roots i j.row j.rest) s rests
      (grind (arith, call_state));
  so = refl;
}

root_each : (c : PortCall) (number : ℕ) (old : World) → is_reset c ≡ false
    → EachWas StaysAs old (after (root_call c number) old)
unfolding after
root_each c zero old quiet j s on there = grind arith
root_each c (suc i) old quiet j s on there =
    root_was c i old j s (grind arith) on there

call_elsewhere : (c : PortCall) (k : Ports) (i j : ℕ) (p : List ℕ) → is_way (suc i ∷ []) (suc j ∷ p)
    ≡ false → call_resets c k i j p ≡ false
unfolding is_way
call_elsewhere c k i j p apart = grind arith

-- any call, of devices that are not at or below its port
pub root_elsewhere : (c : PortCall) (number : ℕ) (old : World)
    → EachElsewhere (number ∷ []) StaysAs old (after (root_call c number) old)
unfolding after
root_elsewhere c zero old j s apart on there = grind arith
root_elsewhere c (suc i) old j s apart on there =
    root_was c i old j s (grind (arith, call_elsewhere)) on there

pub root_stays : (c : PortCall) (number : ℕ) (old : World) → is_reset c ≡ false
    → KeepsDevices old (after (root_call c number) old)
root_stays c number old quiet = grind (arith, root_each)
