-- What steps do on the way to a path, and which device stands there after them.
use Rattle.std.specs.Prelude.{◌≡◌, ◌⊎◌, ℕ, zero, suc, ◌==◌, ◌&&◌, not, Bool, true, false, List, []}
use Rattle.std.specs.Prelude.{◌∷◌, ◌++◌, Option, None, Some, option_map, ⊤}
use Rattle.usb_port.specs.{PortCall, is_reset}
use Rattle.arrayvec.specs.ArrayVec.{ArrayVec}
use Rattle.usb_packet.specs.{Toggle, TokenKind, OutTok, InTok, SetupTok}
use Rattle.usb_request.specs.{PORT_RESET, SET_FEATURE, PORT_OUT, setup_of, Setup}
use Rattle.usb_device.specs.{Is, Spec, Ports, reach, place, state_there}
use Rattle.usb_world.specs.declared.event.Event.{Event}
use Rattle.usb_world.specs.PlainAttempts.{Attempt}
use Rattle.usb_world.specs.declared.types.BusFault.{BusFault}
use Rattle.usb_world.specs.Paths.{has_power, pending, address_of, same_path}
use Rattle.usb_world.specs.WayEffects.{IsNew, call_resets, call_keeps_pending}
use Rattle.usb_world.specs.AttemptPackets.{attempt_resets, attempt_keeps_pending}
use Rattle.usb_world.specs.Worlds.{World}
use Rattle.usb_world.specs.Exchanges.{token_out, payload_out}
use Rattle.usb_world.specs.Steps.{names_path, at_attempt, damage_in, Step, attempt, root_call}
use Rattle.usb_world.specs.Steps.{event, report}

-- no event of these is at the path or at a port on its way
abbrev pub NoneNames : List Spec → List Event → List ℕ → Type 0
NoneNames devices [] p = ⊤
NoneNames devices (e ∷ events) p = (names_path devices e.action p ≡ false)
    × NoneNames devices events p

-- no event between two worlds was at the path or on its way: the same device, or none, stood there
-- throughout
pub record Undisturbed (w v : World) (p : List ℕ) : Type 0 where
  pub events : List Event
  pub split : w.left ≡ events ++ v.left
  pub silent : NoneNames w.devices events p
  pub devices : v.devices ≡ w.devices

abbrev pub at_path : (ℕ → List ℕ → Bool) → Bool → List ℕ → Bool
at_path f none [] = none
at_path f none (zero ∷ p) = none
at_path f none (suc j ∷ p) = f j p

-- whether an attempt is made, and not refused
abbrev pub is_made : Option BusFault → World → Bool
is_made (Some f) w = false
is_made None w = not (w.attempts == w.limit)

abbrev pub made_resets : Attempt → World → List ℕ → Bool
made_resets a w p = at_path (attempt_resets (token_out a (damage_in w))
    (payload_out a (damage_in w)) w.roots) false p

abbrev pub made_keeps_pending : Attempt → World → List ℕ → Bool
made_keeps_pending a w p = at_path (attempt_keeps_pending (token_out a (damage_in w))
    (payload_out a (damage_in w)) w.roots) true p

abbrev pub root_resets : PortCall → ℕ → Ports → List ℕ → Bool
root_resets c zero k p = false
root_resets c (suc i) k p = at_path (call_resets c k i) false p

abbrev pub root_keeps_pending : PortCall → ℕ → List ℕ → Bool
root_keeps_pending c zero p = true
root_keeps_pending c (suc i) p = at_path (call_keeps_pending c i) true p

-- whether a step resets the device at just this path
unfoldable pub resets : Step → World → List ℕ → Bool
resets (attempt a) w p = is_made w.fault w && made_resets a (at_attempt w) p
resets (root_call c n) w p = root_resets c n w.roots p
resets event w p = false
resets (report line) w p = false

-- whether a step leaves pending what is pending there: it clears no change of connection there or
-- on the way, and
-- neither resets a device on the way nor takes its power or configuration
unfoldable pub step_keeps_pending : Step → World → List ℕ → Bool
step_keeps_pending (attempt a) w p = made_keeps_pending a (at_attempt w) p
step_keeps_pending (root_call c n) w p = root_keeps_pending c n p
step_keeps_pending event w p = true
step_keeps_pending (report line) w p = true

-- reachable before and not disturbed since, or just reset
abbrev pub Reached : World → World → List ℕ → Bool → Type 0
Reached w v p was_reset = ((was_reset ≡ false) × (reach w.roots p ≡ true) × Undisturbed w v p)
    ⊎ ((was_reset ≡ true) × IsNew (place v.roots p))

-- powered on its whole way and not disturbed, or pending
abbrev pub UndisturbedOrPends : World → World → List ℕ → Type 0
UndisturbedOrPends w v p = ((has_power v.roots p ≡ true) × Undisturbed w v p)
    ⊎ (pending v.roots p ≡ true)

abbrev pub NoReset : List ℕ → Step → World → Type 0
NoReset p s w = resets s w p ≡ false

abbrev pub KeepsPendingAt : List ℕ → Step → World → Type 0
KeepsPendingAt p s w = step_keeps_pending s w p ≡ true

-- a request that is not PORT_RESET of a port
abbrev pub is_harmless : Setup → Bool
is_harmless r = not (Is r PORT_OUT SET_FEATURE && r.value == PORT_RESET)

-- the address of a device, where one stands there
abbrev pub address_at : Ports → List ℕ → Option ℕ
address_at k p = option_map address_of (state_there k p)

-- each reachable device holds the address that a map gives its path
abbrev pub HoldsMapped : (List ℕ → Option ℕ) → World → Type 0
HoldsMapped f w = (p : List ℕ) → reach w.roots p ≡ true → address_at w.roots p ≡ f p

-- no two paths have one address
abbrev pub Injective : (List ℕ → Option ℕ) → Type 0
Injective f = (p q : List ℕ) (a : ℕ) → f p ≡ Some a → f q ≡ Some a → same_path p q ≡ true

-- steps that reset no device and give none an address: events, reports, root calls but PORT_RESET,
-- and setup data whose
-- request is not PORT_RESET
abbrev pub quiet_data : TokenKind → Option (Toggle × ArrayVec ℕ) → Bool
quiet_data SetupTok None = true
quiet_data SetupTok (Some x) = is_harmless (setup_of x.1.items)
quiet_data OutTok o = false
quiet_data InTok o = false

abbrev pub is_quiet : Step → Bool
is_quiet (attempt a) = quiet_data a.kind a.payload
is_quiet (root_call c n) = not (is_reset c)
is_quiet s = true

abbrev pub QuietStep : Step → World → Type 0
QuietStep s w = is_quiet s ≡ true
