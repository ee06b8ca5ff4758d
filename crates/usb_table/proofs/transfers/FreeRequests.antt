-- Requests and calls that leave endpoints as they were.
use Rattle.std.proofs.Common.{◌≡◌, ◌⊎◌, refl, ℕ, ◌==◌, ◌≤◌, nat_lt, Bool, true, sym, false, arith}
use Rattle.std.proofs.Common.{◌&&◌, if◌then◌else◌, List, Option, None, Some, subst, eq-eqb, get_or}
use Rattle.std.proofs.lemmas.Bool.{lt-ltb}
use Rattle.std.proofs.lemmas.Bool.Decides.{nat_tests}
use Rattle.usb_world.proofs.Interface.{neither}
use Rattle.usb_request.specs.{CLEAR_FEATURE, SET_FEATURE, SET_ADDRESS, SET_CONFIGURATION}
use Rattle.usb_request.specs.{DEVICE_OUT, ENDPOINT_OUT, PORT_OUT, ENDPOINT_HALT, DEVICE_IN, HUB_IN}
use Rattle.usb_request.specs.{PORT_IN, GET_DESCRIPTOR, GET_STATUS, GET_CONFIGURATION, IsToDevice}
use Rattle.usb_request.specs.{IsToHost, Setup, ENDPOINT_IN, GET_INTERFACE, INTERFACE_IN}
use Rattle.usb_request.specs.{INTERFACE_OUT, SET_INTERFACE, is_reserved}
use Rattle.usb_device.specs.{Is, Outcome, Registers, Spec, stalled, halts, unhalts, tells_port}
use Rattle.usb_device.specs.{outcome, on_endpoint, endpoint_of, ServedEndpoint, told_port}
use Rattle.usb_device.specs.{asked_descriptor, asked_hub_descriptor, answers_taken, takes}
use Rattle.usb_device.specs.{tells_halt, told_halt, asked_endpoint_status, BulkIn, BulkOut, in_end}
use Rattle.usb_device.specs.{InEnd, no_in, no_out, NothingMoved, out_end, OutEnd, State, with_at}
use Rattle.usb_device.specs.{OnlyChanges, OnlyStage, Location}
use Rattle.usb_device.specs.Request.{answers}
use Rattle.usb_device.proofs.Interface.{asked_own-any, at_each}
use Rattle.usb_world.specs.{asks_no_port, is_harmless}
use Rattle.usb_transfer.specs.{OnlyEndpoint}
use Rattle.usb_table.specs.{SparesBulk}

-- What a request asks of a device that changes no address, no configuration, no toggle and no
-- port.

request_type-other : (n type : ℕ) (b : Bool) → 128 ≤ n → nat_lt type 128 ≡ true
    → (n == type && b) ≡ false
request_type-other n type b h g = grind (arith, nat_tests, h, g)

-- a read, or no request that changes what the host knows of a function
pub record IsFree (to_hub : Bool) (r : Setup) : Type 0 where
  pub reads : IsToHost r ⊎ (to_hub ≡ false)
  pub address : Is r DEVICE_OUT SET_ADDRESS ≡ false
  pub configuration : Is r DEVICE_OUT SET_CONFIGURATION ≡ false
  pub interface : Is r INTERFACE_OUT SET_INTERFACE ≡ false
  pub halt : (Is r ENDPOINT_OUT CLEAR_FEATURE && r.value == ENDPOINT_HALT) ≡ false
  pub clears_port : Is r PORT_OUT CLEAR_FEATURE ≡ false
  pub sets_port : Is r PORT_OUT SET_FEATURE ≡ false

pub read_is_free : (to_hub : Bool) (r : Setup) → IsToHost r → IsFree to_hub r
read_is_free to_hub r host = grind (arith, request_type-other)

other_half : (a b : Bool) → a ≡ true → (a && b) ≡ false → b ≡ false
other_half a b on none = grind arith

-- what the host alone may not send
pub unreserved_is_free : (to_hub : Bool) (r : Setup) → IsToDevice r → is_reserved to_hub r ≡ false
    → IsFree to_hub r
unfolding is_reserved
unreserved_is_free to_hub r writes none = grind (arith, lt-ltb, neither, other_half)

module _ {to_hub : Bool} (r : Setup) (free : IsFree to_hub r) where
  pub free_is_harmless : is_harmless r ≡ true
  free_is_harmless = rw free.sets_port refl

  pub free_asks_no_port : asks_no_port r ≡ true
  free_asks_no_port = grind arith

-- What it asks

-- bytes, the host's data, a refusal, or, of a function, that an endpoint halts
abbrev pub IsAllowed : Bool → Outcome → Type 0
IsAllowed to_hub stalled = Unit {0}
IsAllowed to_hub (answers bytes) = Unit {0}
IsAllowed to_hub (tells_port i) = Unit {0}
IsAllowed to_hub (halts which) = to_hub ≡ false
IsAllowed to_hub answers_taken = Unit {0}
IsAllowed to_hub (takes kept) = Unit {0}
IsAllowed to_hub (tells_halt endpoint) = Unit {0}
IsAllowed to_hub o = ⊥

module _ (to_hub : Bool) where
  abbrev pub Fine : Outcome → Type 0
  Fine = IsAllowed to_hub

  either_fine : (b : Bool) (x y : Outcome) → Fine x → Fine y → Fine (if b then x else y)
  either_fine b x y h g = grind arith

  not_asked : (b : Bool) (x y : Outcome) → b ≡ false → Fine y → Fine (if b then x else y)
  not_asked b x y e g = grind arith

  where_asked : (b : Bool) (x y : Outcome) → (b ≡ true → Fine x) → Fine y
      → Fine (if b then x else y)
  where_asked b x y h g = grind arith

  text_fine : (o : Option (List ℕ)) → Fine (elim o
      as (λ _. Outcome) [ None ↦ stalled | Some text ↦ answers text ])
  text_fine o = grind arith

  descriptor_fine : (s : Spec) (value : ℕ) → Fine (asked_descriptor s value)
  descriptor_fine s value = grind (arith, either_fine, text_fine)

  hub_fine : (s : Spec) (r : Setup) → Fine (asked_hub_descriptor s.hub r)
  hub_fine s r = grind (arith, either_fine)

  port_fine : (i : Option ℕ) → Fine (told_port i)
  port_fine i = grind arith

  told_fine : (which : Option ServedEndpoint) → Fine (told_halt which)
  told_fine which = grind arith

  endpoint_fine : (s : Spec) (g : Registers) (r : Setup) → Fine (asked_endpoint_status s g r)
  endpoint_fine s g r = grind (arith, either_fine, told_fine)

  halt_fine : (which : Option ServedEndpoint) → to_hub ≡ false → Fine (on_endpoint halts which)
  halt_fine which e = grind arith

  clear_fine : (s : Spec) (g : Registers) (r : Setup) → (r.value == ENDPOINT_HALT) ≡ false
      → Fine (on_endpoint unhalts (endpoint_of s g r))
  clear_fine s g r other = rw other tt

  pub outcome_fine : (s : Spec) (g : Registers) (r : Setup) → IsFree to_hub r
      → Fine (outcome s g r)
  unfolding outcome
  outcome_fine s g r free =
      either_fine (Is r DEVICE_IN GET_DESCRIPTOR) _ _ (descriptor_fine s r.value)
      (either_fine (Is r DEVICE_IN GET_STATUS) _ _ (grind (arith, either_fine))
      (either_fine (Is r DEVICE_IN GET_CONFIGURATION) _ _ tt
      (not_asked (Is r DEVICE_OUT SET_ADDRESS) _ _ free.address
      (not_asked (Is r DEVICE_OUT SET_CONFIGURATION) _ _ free.configuration
      (either_fine (Is r INTERFACE_IN GET_STATUS) _ _ (grind (arith, either_fine))
      (either_fine (Is r INTERFACE_IN GET_INTERFACE) _ _ (grind (arith, either_fine))
      (not_asked (Is r INTERFACE_OUT SET_INTERFACE) _ _ free.interface
      (either_fine (Is r ENDPOINT_IN GET_STATUS) _ _ (endpoint_fine s g r)
      (where_asked (Is r ENDPOINT_OUT CLEAR_FEATURE) _ _ (grind (arith, clear_fine))
      (where_asked (Is r ENDPOINT_OUT SET_FEATURE) _ _
      (grind (arith, halt_fine, request_type-other))
      (either_fine (Is r HUB_IN GET_DESCRIPTOR) _ _
      (either_fine s.stalls.hub _ _ tt (hub_fine s r))
      (either_fine (Is r PORT_IN GET_STATUS) _ _ (port_fine _)
      (grind (arith, asked_own-any, not_asked))))))))))))))

-- A clear of the halt of one endpoint moves no byte, and leaves all others.

pub same_rows-moved : (s v : State) → v.outs ≡ s.outs → v.ins ≡ s.ins → NothingMoved s v
same_rows-moved s v outs ins = grind arith

pub moved_then : (s u v : State) → NothingMoved s u → NothingMoved u v → NothingMoved s v
moved_then s u v x y = grind arith

-- one endpoint halts or begins again
pub out_moved : (s v : State) (e : ℕ) (end : OutEnd) → end.sink ≡ (out_end s e).sink
    → end.pace.until_halt ≡ (out_end s e).pace.until_halt → v.outs ≡ with_at no_out e end s.outs
    → v.ins ≡ s.ins → NothingMoved s v
out_moved s v e end sink until_halt outs ins = record {
  taken = subst (λ row. (a : ℕ) → ((get_or row a no_out).sink ≡ (out_end s a).sink)
      × ((get_or row a no_out).pace.until_halt ≡ (out_end s a).pace.until_halt)) (sym outs)
      (at_each no_out (λ x y. (y.sink ≡ x.sink) × (y.pace.until_halt ≡ x.pace.until_halt))
      (λ x. (refl, refl)) e end s.outs (sink, until_halt));
  given = grind (arith, same_rows-moved);
}

pub in_moved : (s v : State) (e : ℕ) (end : InEnd) → end.place ≡ (in_end s e).place
    → end.pace.until_halt ≡ (in_end s e).pace.until_halt → v.outs ≡ s.outs
    → v.ins ≡ with_at no_in e end s.ins → NothingMoved s v
in_moved s v e end place until_halt outs ins = record {
  taken = grind (arith, same_rows-moved);
  given = subst (λ row. (a : ℕ) → ((get_or row a no_in).place ≡ (in_end s a).place)
      × ((get_or row a no_in).pace.until_halt ≡ (in_end s a).pace.until_halt)) (sym ins)
      (at_each no_in (λ x y. (y.place ≡ x.place) × (y.pace.until_halt ≡ x.pace.until_halt))
      (λ x. (refl, refl)) e end s.ins (place, until_halt));
}

-- what a clear through an OUT pipe leaves
pub record OutCleared (e : ℕ) (s v : State) : Type 0 where
  pub moved : NothingMoved s v
  pub ins : (a : ℕ) → in_end v a ≡ in_end s a
  pub others : (a : ℕ) → (a == e) ≡ false → out_end v a ≡ out_end s a

pub out_cleared : (e : ℕ) (s v : State) → OnlyEndpoint (BulkOut e) s v → OutCleared e s v
out_cleared e s v only = grind (arith, eq-eqb)

-- and one through an IN pipe
pub record InCleared (e : ℕ) (s v : State) : Type 0 where
  pub moved : NothingMoved s v
  pub outs : (a : ℕ) → out_end v a ≡ out_end s a
  pub others : (a : ℕ) → (a == e) ≡ false → in_end v a ≡ in_end s a

pub in_cleared : (e : ℕ) (s v : State) → OnlyEndpoint (BulkIn e) s v → InCleared e s v
in_cleared e s v only = grind (arith, eq-eqb)

-- What leaves the bulk endpoints of devices as they were.

-- a device that stays as it was
pub spares-same : (j : Location) (s v : State) → v ≡ s → SparesBulk j s v
spares-same j s v e = grind arith

-- one of which only the status endpoint moved
pub spares-changes : (j : Location) (s v : State) → OnlyChanges s v → SparesBulk j s v
spares-changes j s v e = grind arith

-- one of which only the control transfer moved
pub spares-stage : (j : Location) (s v : State) → OnlyStage s v → SparesBulk j s v
spares-stage j s v e = grind arith

-- one thing after the other
pub spares-then : (j : Location) (s u v : State) → SparesBulk j s u → SparesBulk j u v
    → SparesBulk j s v
spares-then j s u v d e = grind arith
