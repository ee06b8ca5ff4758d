-- Which requests ask a device to take an address.
use Rattle.std.proofs.Common.{◌≡◌, ℕ, ◌==◌, ◌&&◌, not, nat_le, if◌then◌else◌, Bool, true, false}
use Rattle.std.proofs.Common.{List, [], ◌∷◌, Option, None, Some, slice_get, refl, rules}
use Rattle.usb_request.specs.{HUB, GET_STATUS, CLEAR_FEATURE, SET_FEATURE, SET_ADDRESS}
use Rattle.usb_request.specs.{GET_DESCRIPTOR, GET_CONFIGURATION, SET_CONFIGURATION, DEVICE_IN}
use Rattle.usb_request.specs.{DEVICE_OUT, ENDPOINT_OUT, HUB_IN, PORT_IN, PORT_OUT, descriptor_value}
use Rattle.usb_request.specs.{INTERFACE_IN, INTERFACE_OUT, ENDPOINT_IN, GET_INTERFACE}
use Rattle.usb_request.specs.{SET_INTERFACE, Setup}
use Rattle.usb_port.specs.{PortState, PortCall, set_call, clear_call}
use Rattle.usb_device.specs.{ServedEndpoint, Registers, Spec, Hub, Outcome, stalled, takes_address}
use Rattle.usb_device.specs.{takes_configuration, halts, unhalts, tells_port, Is, unless}
use Rattle.usb_device.specs.{text_asked, asked_descriptor, asked_status, asked_address, is_value}
use Rattle.usb_device.specs.{asked_configuration, endpoint_of, on_endpoint, asked_hub_descriptor}
use Rattle.usb_device.specs.{port_named, told_port, called_at, asked_port_status, port_feature}
use Rattle.usb_device.specs.{outcome, reading, ending, reads, reads_port, first_stage}
use Rattle.usb_device.specs.{answers_taken, takes, writes, writing, ends_if, first_write}
use Rattle.usb_device.specs.{asked_interface_status, asked_setting, asked_interface, flag_bytes}
use Rattle.usb_device.specs.{asked_endpoint_status, is_endpoint_0, tells_halt, told_halt, served}
use Rattle.usb_device.specs.{takes_setting, told_bytes, State}
use Rattle.usb_device.specs.Request.{answers}
use Rattle.usb_device.proofs.Interface.{asked_own-any}
use Rattle.usb_hub.specs.Aims.{Aims}
use Rattle.usb_hub.specs.{TakesOnly}

module _ (Q : ℕ → Type 0) where
  only_if : (b : Bool) (x y : Outcome) → TakesOnly Q x → TakesOnly Q y
      → TakesOnly Q (if b then x else y)
  only_if true x y h g = h
  only_if false x y h g = g

  only_unless : (b : Bool) (x : Outcome) → TakesOnly Q x → TakesOnly Q (unless b x)
  only_unless b x h = only_if b stalled x tt h

  text_only : (texts : List (List ℕ)) (i : ℕ) → TakesOnly Q (text_asked texts i)
  text_only texts i = split (slice_get texts i)
    where
      split : (o : Option (List ℕ)) → TakesOnly Q (elim o
          as (λ _. Outcome) [ None ↦ stalled | Some text ↦ answers text ])
      split None = tt
      split (Some text) = tt

  descriptor_only : (s : Spec) (value : ℕ) → TakesOnly Q (asked_descriptor s value)
  descriptor_only s value = search (rules, only_if, only_unless, text_only)

  endpoint_only : (f : ServedEndpoint → Outcome) → ((x : ServedEndpoint) → TakesOnly Q (f x))
      → (o : Option ServedEndpoint) → TakesOnly Q (on_endpoint f o)
  endpoint_only f h None = tt
  endpoint_only f h (Some x) = h x

  hub_only : (o : Option Hub) (r : Setup) → TakesOnly Q (asked_hub_descriptor o r)
  hub_only None r = tt
  hub_only (Some hub) r = only_if (r.value == descriptor_value HUB 0) (answers hub.descriptor)
      stalled tt tt

  told_only : (o : Option ℕ) → TakesOnly Q (told_port o)
  told_only None = tt
  told_only (Some i) = tt

  halt_only : (o : Option ServedEndpoint) → TakesOnly Q (told_halt o)
  halt_only None = tt
  halt_only (Some endpoint) = tt

  called_only : (c : Option PortCall) (o : Option ℕ) → TakesOnly Q (called_at c o)
  called_only (Some c) None = tt
  called_only c o = tt

  address_only : (b : Bool) (x y : Outcome) → (b ≡ true → TakesOnly Q x) → TakesOnly Q y
      → TakesOnly Q (if b then x else y)
  address_only true x y h g = h refl
  address_only false x y h g = g

  -- only SET_ADDRESS asks for an address, its own
  pub outcome_only : (s : Spec) (g : Registers) (r : Setup)
      → (Is r DEVICE_OUT SET_ADDRESS ≡ true → Q r.value) → TakesOnly Q (outcome s g r)
  unfolding outcome
  outcome_only s g r h =
      only_if (Is r DEVICE_IN GET_DESCRIPTOR) (asked_descriptor s r.value) _
      (descriptor_only s r.value)
      (only_if (Is r DEVICE_IN GET_STATUS) (unless s.stalls.status (asked_status s r)) _
      (only_unless s.stalls.status (asked_status s r)
      (only_if (r.value == 0 && r.index == 0) _ stalled tt tt))
      (only_if (Is r DEVICE_IN GET_CONFIGURATION) (answers (g.configuration ∷ [])) _ tt
      (address_only (Is r DEVICE_OUT SET_ADDRESS) (unless s.stalls.address (asked_address r)) _
      (λ e. only_unless s.stalls.address (asked_address r)
      (only_if (nat_le r.value 127 && r.length == 0) (takes_address r.value) stalled (h e)
      tt))
      (only_if (Is r DEVICE_OUT SET_CONFIGURATION)
      (unless s.stalls.set_config (asked_configuration s g r)) _
      (only_unless s.stalls.set_config (asked_configuration s g r)
      (only_if (not (g.address == 0) && is_value s.configs r.value && r.length == 0)
      (takes_configuration r.value) stalled tt tt))
      (only_if (Is r INTERFACE_IN GET_STATUS) (asked_interface_status s g r) _
      (only_if _ (answers (flag_bytes false)) stalled tt tt)
      (only_if (Is r INTERFACE_IN GET_INTERFACE) (asked_setting s g r) _
      (only_if _ (answers _) stalled tt tt)
      (only_if (Is r INTERFACE_OUT SET_INTERFACE)
      (unless s.stalls.interface (asked_interface s g r)) _
      (only_unless s.stalls.interface (asked_interface s g r)
      (only_if _ (takes_setting r.index r.value) stalled tt tt))
      (only_if (Is r ENDPOINT_IN GET_STATUS) (asked_endpoint_status s g r) _
      (only_if (not (r.value == 0)) stalled _ tt
      (only_if (is_endpoint_0 r.index) (tells_halt None) _ tt (halt_only (served s g r.index))))
      (only_if (Is r ENDPOINT_OUT CLEAR_FEATURE) (on_endpoint unhalts (endpoint_of s g r)) _
      (endpoint_only unhalts (λ x. tt) (endpoint_of s g r))
      (only_if (Is r ENDPOINT_OUT SET_FEATURE) (on_endpoint halts (endpoint_of s g r)) _
      (endpoint_only halts (λ x. tt) (endpoint_of s g r))
      (only_if (Is r HUB_IN GET_DESCRIPTOR) (unless s.stalls.hub (asked_hub_descriptor s.hub r)) _
      (only_unless s.stalls.hub (asked_hub_descriptor s.hub r) (hub_only s.hub r))
      (only_if (Is r PORT_IN GET_STATUS) (asked_port_status s g r) _
      (told_only (port_named s.hub g r.index))
      (only_if (Is r PORT_OUT SET_FEATURE) (port_feature (set_call r.value) s g r) _
      (only_if (r.length == 0) (called_at (set_call r.value) (port_named s.hub g r.index))
      stalled (called_only (set_call r.value) (port_named s.hub g r.index)) tt)
      (only_if (Is r PORT_OUT CLEAR_FEATURE) (port_feature (clear_call r.value) s g r) _
      (only_if (r.length == 0) (called_at (clear_call r.value) (port_named s.hub g r.index))
      stalled (called_only (clear_call r.value) (port_named s.hub g r.index)) tt)
      (asked_own-any (TakesOnly Q) tt s.requests g r (λ bytes. tt) tt (λ kept. tt))))))))))))))))

  reads_aim : (wanted : ℕ) (bytes : List ℕ) → Aims Q (reads wanted bytes)
  reads_aim wanted bytes = split (wanted == 0)
    where
      split : (b : Bool) → Aims Q (if b then ending None else reading bytes wanted 0)
      split true = tt
      split false = tt

  port_aims : (wanted : ℕ) (o : Option PortState) → Aims Q (reads_port wanted o)
  port_aims wanted None = tt
  port_aims wanted (Some p) = reads_aim wanted _

  writes_aim : (wanted : ℕ) (kept : Bool) → Aims Q (writes wanted kept)
  writes_aim wanted kept = split (wanted == 0) kept
    where
      split : (b kept : Bool) → Aims Q (if b then ends_if kept
          else writing (first_write wanted kept))
      split true true = tt
      split true false = tt
      split false kept = tt

  pub first_aims : (row : List PortState) (d : State) (wanted : ℕ) (o : Outcome)
      → TakesOnly Q o → Aims Q (first_stage row d wanted o)
  first_aims row d wanted (answers bytes) h = reads_aim wanted bytes
  first_aims row d wanted (takes_address a) h = h
  first_aims row d wanted (tells_port i) h = port_aims wanted (slice_get row i)
  first_aims row d wanted answers_taken h = reads_aim wanted d.taken
  first_aims row d wanted (tells_halt endpoint) h = reads_aim wanted (told_bytes d endpoint)
  first_aims row d wanted (takes kept) h = writes_aim wanted kept
  first_aims row d wanted o h = tt
