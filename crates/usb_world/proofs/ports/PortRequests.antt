-- What a request can ask of the ports of a device that hears it.
use Rattle.std.proofs.Common.{◌≡◌, ℕ, suc, ◌==◌, not, if◌then◌else◌, Bool, true, false, List, []}
use Rattle.std.proofs.Common.{length, Option, None, Some, arith, refl, nat_le, ◌&&◌}
use Rattle.arrayvec.specs.ArrayVec.{ArrayVec}
use Rattle.usb_packet.specs.{Payload, Toggle, Zero}
use Rattle.usb_request.specs.{GET_STATUS, CLEAR_FEATURE, SET_FEATURE, SET_ADDRESS, GET_DESCRIPTOR}
use Rattle.usb_request.specs.{GET_CONFIGURATION, SET_CONFIGURATION, GET_INTERFACE, SET_INTERFACE}
use Rattle.usb_request.specs.{DEVICE_IN, DEVICE_OUT, INTERFACE_IN, INTERFACE_OUT, ENDPOINT_IN}
use Rattle.usb_request.specs.{ENDPOINT_OUT, HUB_IN, PORT_IN, PORT_OUT, Setup, setup_of, PORT_RESET}
use Rattle.usb_device.specs.{ServedEndpoint, Content, Whole, Broken, Sent, Effect, Leaves, Calls}
use Rattle.usb_device.specs.{PortsOff, Registers, RememberedPacket, Spec, Hub, Outcome, halts}
use Rattle.usb_device.specs.{unhalts, Is, unless, asked_descriptor, asked_interface_status}
use Rattle.usb_device.specs.{asked_setting, asked_interface, asked_endpoint_status, on_endpoint}
use Rattle.usb_device.specs.{asked_hub_descriptor, told_port, port_feature, outcome, State, asks}
use Rattle.usb_device.specs.{asked_by_data, asked_by_setup, effect_of_request, asked_by, effect_of}
use Rattle.usb_device.specs.{Ports, is_value}
use Rattle.usb_port.specs.{PortCall, set_call, clear_call, is_reset}
use Rattle.usb_device.specs.declared.transfer.RememberedPacket.TheVariants.{SetupSeen}
use Rattle.usb_device.proofs.Interface.{asked_own-any}
use Rattle.usb_world.specs.{Damage, Attempt, marked, marked_some, payload_of, payload_out}
use Rattle.usb_world.specs.{asks_no_port, is_harmless, IfOut, effect_resets, resets_at}
use Rattle.usb_world.proofs.packets.Packets.{is_left}
use Rattle.usb_world.proofs.OnWays.{resets_if}

abbrev pub payload_asks_no_port : Option (Toggle × ArrayVec ℕ) → Bool
payload_asks_no_port None = true
payload_asks_no_port (Some x) = asks_no_port (setup_of x.1.items)

-- a test that holds of all that a request can ask of ports
pub record Allows (T : Effect → Bool) (r : Setup) : Type 0 where
  pub rests : T Leaves ≡ true
  pub off : Is r DEVICE_OUT SET_CONFIGURATION ≡ true → T PortsOff ≡ true
  pub set : Is r PORT_OUT SET_FEATURE ≡ true → (c : PortCall) (i : ℕ) → set_call r.value ≡ Some c
      → r.index ≡ suc i → T (Calls c i) ≡ true
  pub clear : Is r PORT_OUT CLEAR_FEATURE ≡ true → (c : PortCall) (i : ℕ)
      → clear_call r.value ≡ Some c → r.index ≡ suc i → T (Calls c i) ≡ true

module _ (T : Effect → Bool) (r : Setup) (h : Allows T r) where
  abbrev Good : Outcome → Type 0
  Good o = T (effect_of_request o) ≡ true

  both_ways : (b : Bool) (x y : Outcome) → Good x → Good y → Good (if b then x else y)
  both_ways b x y f g = grind arith

  branch : (b : Bool) (x y : Outcome) → (b ≡ true → Good x) → Good y → Good (if b then x else y)
  branch b x y f g = grind arith

  by_descriptor : (s : Spec) (v : ℕ) → Good (asked_descriptor s v)
  by_descriptor s v = grind arith

  by_endpoint : (f : ServedEndpoint → Outcome) → ((w : ServedEndpoint) → Good (f w))
      → (o : Option ServedEndpoint) → Good (on_endpoint f o)
  by_endpoint f c o = grind arith

  by_interface : (s : Spec) (g : Registers) → Good (asked_interface_status s g r)
  by_interface s g = grind arith

  by_setting : (s : Spec) (g : Registers) → Good (asked_setting s g r)
  by_setting s g = grind arith

  by_new_setting : (s : Spec) (g : Registers)
      → Good (unless s.stalls.interface (asked_interface s g r))
  by_new_setting s g = grind arith

  by_halt : (s : Spec) (g : Registers) → Good (asked_endpoint_status s g r)
  by_halt s g = grind arith

  by_hub : (o : Option Hub) → Good (asked_hub_descriptor o r)
  by_hub o = grind arith

  by_status : (o : Option ℕ) → Good (told_port o)
  by_status o = grind arith

  by_feature : (c : Option PortCall) (s : Spec) (g : Registers)
      → ((x : PortCall) (i : ℕ) → c ≡ Some x → r.index ≡ suc i → T (Calls x i) ≡ true)
      → Good (port_feature c s g r)
  by_feature c s g f = grind arith

  good_outcome : (s : Spec) (g : Registers) → Good (outcome s g r)
  unfolding outcome
  good_outcome s g =
      both_ways (Is r DEVICE_IN GET_DESCRIPTOR) _ _ (by_descriptor s r.value)
      (both_ways (Is r DEVICE_IN GET_STATUS) _ _
      (both_ways s.stalls.status _ _ h.rests
      (both_ways (r.value == 0 && r.index == 0) _ _ h.rests h.rests))
      (both_ways (Is r DEVICE_IN GET_CONFIGURATION) _ _ h.rests
      (both_ways (Is r DEVICE_OUT SET_ADDRESS) _ _
      (both_ways s.stalls.address _ _ h.rests
      (both_ways (nat_le r.value 127 && r.length == 0) _ _ h.rests h.rests))
      (branch (Is r DEVICE_OUT SET_CONFIGURATION) _ _
      (λ e. both_ways s.stalls.set_config _ _ h.rests
      (both_ways (not (g.address == 0) && is_value s.configs r.value && r.length == 0) _ _ (h.off e)
      h.rests))
      (both_ways (Is r INTERFACE_IN GET_STATUS) _ _ (by_interface s g)
      (both_ways (Is r INTERFACE_IN GET_INTERFACE) _ _ (by_setting s g)
      (both_ways (Is r INTERFACE_OUT SET_INTERFACE) _ _ (by_new_setting s g)
      (both_ways (Is r ENDPOINT_IN GET_STATUS) _ _ (by_halt s g)
      (both_ways (Is r ENDPOINT_OUT CLEAR_FEATURE) _ _ (by_endpoint unhalts (λ w. h.rests) _)
      (both_ways (Is r ENDPOINT_OUT SET_FEATURE) _ _ (by_endpoint halts (λ w. h.rests) _)
      (both_ways (Is r HUB_IN GET_DESCRIPTOR) _ _
      (both_ways s.stalls.hub _ _ h.rests (by_hub s.hub))
      (both_ways (Is r PORT_IN GET_STATUS) _ _ (by_status _)
      (branch (Is r PORT_OUT SET_FEATURE) _ _ (λ e. by_feature _ s g (h.set e))
      (branch (Is r PORT_OUT CLEAR_FEATURE) _ _ (λ e. by_feature _ s g (h.clear e))
      (asked_own-any Good h.rests s.requests g r (λ bytes. h.rests) h.rests
      (λ kept. h.rests))))))))))))))))

  setup_allowed : (s : State) → T (asked_by_setup s r) ≡ true
  setup_allowed s = good_outcome s.spec s.registers

-- the same of a packet with such a request, or one that is broken
abbrev pub AllowsOut : (Effect → Bool) → Content → Type 0
AllowsOut T (Whole (Payload t bytes)) = Allows T (setup_of bytes.items)
AllowsOut T Broken = T Leaves ≡ true
AllowsOut T (Whole p) = ⊥

data_allowed : (T : Effect → Bool) (s : State) (m : RememberedPacket) (t : Toggle) (b : List ℕ)
    → Allows T (setup_of b) → T (asked_by_data s m t b) ≡ true
data_allowed T s SetupSeen Zero b h = elim (length b == 8)
    as (λ x. T (if x then asked_by_setup s (setup_of b) else Leaves) ≡ true) [
      | true ↦ setup_allowed T (setup_of b) h s
      | false ↦ h.rests
    ]
data_allowed T s _ _ b h = h.rests

content_allowed : (T : Effect → Bool) (c : Content) (s : State) → AllowsOut T c
    → T (asked_by c s) ≡ true
unfolding asks
content_allowed T (Whole (Payload t b)) s h = elim s.spec.silent
    as (λ x. T (if x then Leaves else asked_by_data s s.memory t b.items) ≡ true) [
      | true ↦ h.rests
      | false ↦ data_allowed T s s.memory t b.items h
    ]
content_allowed T Broken s h = h
content_allowed T c s h = elim h [ ]

pub sent_allowed : (T : Effect → Bool) → T Leaves ≡ true → (q : Sent) → AllowsOut T q.content
    → (deep : Bool) (s : State) → T (effect_of q deep s) ≡ true
unfolding effect_of
sent_allowed T l q c deep s = grind (arith, content_allowed)

-- What the host sends

abbrev pub PayloadAllows : (Effect → Bool) → Option (Toggle × ArrayVec ℕ) → Type 0
PayloadAllows T None = Unit {0}
PayloadAllows T (Some x) = Allows T (setup_of x.1.items)

pub payload_allowed : (T : Effect → Bool) → T Leaves ≡ true → (a : Attempt) (d : Option Damage)
    → PayloadAllows T a.payload → IfOut (AllowsOut T) (payload_out a d)
unfolding payload_of marked_some marked
payload_allowed T e a d h = grind arith

-- Requests that ask nothing

pub payload_no_port_allows : (o : Option (Toggle × ArrayVec ℕ)) → payload_asks_no_port o ≡ true
    → PayloadAllows is_left o
payload_no_port_allows o h = grind arith

-- Setup data whose request is not PORT_RESET reset no device, whoever hears them.

-- data that are no such request
abbrev pub IsHarmlessOut : Content → Type 0
IsHarmlessOut (Whole (Payload t bytes)) = is_harmless (setup_of bytes.items) ≡ true
IsHarmlessOut Broken = Unit {0}
IsHarmlessOut (Whole p) = ⊥

-- no call of a reset
abbrev no_reset : Effect → Bool
no_reset (Calls c i) = not (is_reset c)
no_reset e = true

set_resets : (v : ℕ) (c : PortCall) → set_call v ≡ Some c → (v == PORT_RESET) ≡ false
    → not (is_reset c) ≡ true
set_resets v c e h = grind arith

clear_resets : (v : ℕ) (c : PortCall) → clear_call v ≡ Some c → not (is_reset c) ≡ true
clear_resets v c e = grind arith

harmless_allows : (r : Setup) → is_harmless r ≡ true → Allows no_reset r
harmless_allows r h = grind (arith, clear_resets, set_resets)

harmless_out : (c : Content) → IsHarmlessOut c → AllowsOut no_reset c
harmless_out c h = grind (arith, harmless_allows)

effect_resets-none : (e : Effect) (a : Ports) (j : ℕ) (p : List ℕ) → no_reset e ≡ true
    → effect_resets e a j p ≡ false
effect_resets-none e a j p h = grind arith

pub harmless_resets : (q : Sent) → IsHarmlessOut q.content
    → (deep : Bool) (k : Ports) (j : ℕ) (p : List ℕ) → resets_at q deep k j p ≡ false
harmless_resets q c deep k j p =
    resets_if q deep k j p (λ e m r t z at dp a. effect_resets-none (effect_of q dp t) a m r
    (sent_allowed no_reset refl q (harmless_out q.content c) dp t))
