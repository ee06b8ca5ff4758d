-- What a call at a port, and a packet, does on the way to a path: whether it resets the device
-- there, and whether it
-- leaves what is pending.
use Rattle.std.specs.Prelude.{◌≡◌, ℕ, zero, suc, ◌&&◌, ◌||◌, not, Bool, true, false, List, [], ◌∷◌}
use Rattle.std.specs.Prelude.{Option, None, Some}
use Rattle.usb_device.specs.{is_attached, PortCall, SetReset, ClearPower, ClearConnectionChange}
use Rattle.usb_device.specs.{is_reset}
use Rattle.usb_device.specs.declared.transfer.RememberedPacket.TheVariants.{Nothing}
use Rattle.usb_device.specs.{State, reset_state, Effect, Leaves, Calls, PortsOff, Ports, ended}
use Rattle.usb_device.specs.{vacant, taken, all_off, empty, full, place_at, effect_of, Sent, Place}
use Rattle.usb_world.specs.Paths.{same_number}

-- a device that was just reset: at address 0, not configured, it remembers nothing, and its ports
-- are off
abbrev pub IsNew : Option Place → Type 0
IsNew None = ⊥
IsNew (Some (empty b)) = ⊥
IsNew (Some (full b s a)) = (s.registers.address ≡ 0) × (s.registers.configuration ≡ 0)
    × (s.memory ≡ Nothing) × (all_off a ≡ a)

-- whether PORT_RESET resets a device there: one stands there, the port is powered and sees it
abbrev pub takes_reset : Option Place → Bool
takes_reset None = false
takes_reset (Some (empty b)) = false
takes_reset (Some (full b s a)) = b.power && is_attached b.attached

-- whether a call at port i of a row resets the device at just this path
abbrev pub call_resets : PortCall → Ports → ℕ → ℕ → List ℕ → Bool
call_resets c k i j [] = is_reset c && (same_number i j && takes_reset (place_at k j []))
call_resets c k i j (n ∷ p) = false

-- the same of what a device asks of its ports
abbrev pub effect_resets : Effect → Ports → ℕ → List ℕ → Bool
effect_resets Leaves a j p = false
effect_resets (Calls c i) a j p = call_resets c a i j p
effect_resets PortsOff a j p = false

-- whether a packet resets the device at just this path
unfoldable pub resets_at : Sent → Bool → Ports → ℕ → List ℕ → Bool
resets_at q deep ended i p = false
resets_at q deep (vacant b k) zero p = false
resets_at q deep (vacant b k) (suc i) p = resets_at q deep k i p
resets_at q deep (taken b s a k) zero [] = false
resets_at q deep (taken b s a k) zero (zero ∷ p) = false
resets_at q deep (taken b s a k) zero (suc j ∷ p) =
    b.enable && (effect_resets (effect_of q deep s) a j p || resets_at q true a j p)
resets_at q deep (taken b s a k) (suc i) p = resets_at q deep k i p

-- a device's state, where it is reset or not
abbrev pub reset_if : Bool → State → State
reset_if true s = reset_state s
reset_if false s = s

-- whether a call at a port leaves pending what is at this port, or at a path below it
abbrev pub keeps_pending : PortCall → List ℕ → Bool
keeps_pending ClearConnectionChange p = false
keeps_pending ClearPower p = false
keeps_pending SetReset [] = true
keeps_pending SetReset (n ∷ p) = false
keeps_pending c p = true

abbrev pub call_keeps_pending : PortCall → ℕ → ℕ → List ℕ → Bool
call_keeps_pending c i j p = not (same_number i j) || keeps_pending c p

abbrev pub effect_keeps_pending : Effect → ℕ → List ℕ → Bool
effect_keeps_pending Leaves j p = true
effect_keeps_pending (Calls c i) j p = call_keeps_pending c i j p
effect_keeps_pending PortsOff j p = false

-- whether each device on the way to a path leaves pending what is pending there
unfoldable pub packet_keeps_pending : Sent → Bool → Ports → ℕ → List ℕ → Bool
packet_keeps_pending q deep ended i p = true
packet_keeps_pending q deep (vacant b k) zero p = true
packet_keeps_pending q deep (vacant b k) (suc i) p = packet_keeps_pending q deep k i p
packet_keeps_pending q deep (taken b s a k) zero [] = true
packet_keeps_pending q deep (taken b s a k) zero (zero ∷ p) = true
packet_keeps_pending q deep (taken b s a k) zero (suc j ∷ p) =
    not b.enable || (effect_keeps_pending (effect_of q deep s) j p && packet_keeps_pending q true a
    j p)
packet_keeps_pending q deep (taken b s a k) (suc i) p = packet_keeps_pending q deep k i p

-- whether no device on the way asks anything of the port at a path, or of one above it
abbrev pub leaves_port : Effect → ℕ → Bool
leaves_port Leaves j = true
leaves_port (Calls c i) j = not (same_number i j)
leaves_port PortsOff j = false

unfoldable pub way_leaves : Sent → Bool → Ports → ℕ → List ℕ → Bool
way_leaves q deep ended i p = true
way_leaves q deep (vacant b k) zero p = true
way_leaves q deep (vacant b k) (suc i) p = way_leaves q deep k i p
way_leaves q deep (taken b s a k) zero [] = true
way_leaves q deep (taken b s a k) zero (zero ∷ p) = true
way_leaves q deep (taken b s a k) zero (suc j ∷ p) =
    not b.enable || (leaves_port (effect_of q deep s) j && way_leaves q true a j p)
way_leaves q deep (taken b s a k) (suc i) p = way_leaves q deep k i p
