-- What is left to do at the ports of a tree, where some ports count as if a change were set there.
use Rattle.std.specs.Prelude.{◌≡◌, ◌≤◌, ℕ, zero, suc, ◌+◌, ◌*◌, ◌&&◌, ◌||◌, not, Bool, true, false}
use Rattle.std.specs.Prelude.{List, [], ◌∷◌, ◌++◌, Some}
use Rattle.usb_port.specs.{is_attached, bit, PortCall, is_reset}
use Rattle.usb_device.specs.{Sent, Effect, Leaves, Calls, PortsOff, effect_of, State, Ports, ended}
use Rattle.usb_device.specs.{vacant, taken, new_ports, state_at}
use Rattle.usb_world.specs.{AtPorts, World, same_number, same_path}
use Rattle.usb_hub.specs.PortSettings.{gives_power}

-- whether a port is marked, by its number on a row, counted from 0, and the rest of its path
abbrev pub PortMark : Type 0
PortMark = ℕ → List ℕ → Bool

-- the same of the ports of the device on the first port of a row, and of the ports after it
abbrev pub below_first : PortMark → PortMark
below_first m i p = m zero (suc i ∷ p)

abbrev pub after_first : PortMark → PortMark
after_first m i p = m (suc i) p

-- no port is, the one at a path, each port of the device there
abbrev pub unmarked : PortMark
unmarked i p = false

abbrev pub just : ℕ → List ℕ → PortMark
just j e i p = same_number j i && same_path e p

abbrev pub is_nil : List ℕ → Bool
is_nil [] = true
is_nil (n ∷ p) = false

-- whether one number more leads from a path to another
abbrev pub is_child : List ℕ → List ℕ → Bool
is_child [] [] = false
is_child [] (n ∷ p) = is_nil p
is_child (m ∷ x) [] = false
is_child (m ∷ x) (n ∷ p) = same_number m n && is_child x p

abbrev pub ports_of : ℕ → List ℕ → PortMark
ports_of j e i p = same_number j i && is_child e p

-- so many, where it is so
abbrev pub charged : Bool → ℕ → ℕ
charged true n = n
charged false n = 0

-- the devices at these ports and below them
unfoldable pub devices_in : Ports → ℕ
devices_in ended = 0
devices_in (vacant b k) = devices_in k
devices_in (taken b s a k) = 1 + devices_in a + devices_in k

-- the devices at marked ports
unfoldable pub devices_by : PortMark → Ports → ℕ
devices_by m ended = 0
devices_by m (vacant b k) = devices_by (after_first m) k
devices_by m (taken b s a k) = charged (m zero []) 1 + devices_by (below_first m) a + devices_by
    (after_first m) k

-- the marked ports that there are
unfoldable pub ports_by : PortMark → Ports → ℕ
ports_by m ended = 0
ports_by m (vacant b k) = charged (m zero []) 1 + ports_by (after_first m) k
ports_by m (taken b s a k) = charged (m zero []) 1 + ports_by (below_first m) a + ports_by
    (after_first m) k

-- the looks that are owed, where marked ports count as if their connection had changed
unfoldable pub looks_by : PortMark → Ports → ℕ
looks_by m ended = 0
looks_by m (vacant b k) = looks_by (after_first m) k
looks_by m (taken b s a k) = charged (m zero [] || b.connection_changed) (1 + devices_in a) +
    looks_by (below_first m) a + looks_by (after_first m) k

-- the changes that ask for no look, where empty ports and resets are marked; an empty port that
-- sees something counts as if its connection had changed
unfoldable pub strays_by : PortMark → PortMark → Ports → ℕ
strays_by v r ended = 0
strays_by v r (vacant b k) = bit (v zero [] || (is_attached b.attached || b.connection_changed)) +
    bit b.enable_changed + bit (r zero [] || b.reset_changed) + strays_by (after_first v)
    (after_first r) k
strays_by v r (taken b s a k) = bit b.enable_changed + bit (r zero [] || b.reset_changed) +
    strays_by (below_first v) (below_first r) a + strays_by (after_first v) (after_first r) k

-- whether what a device asks gives power to marked ports alone, and resets marked ports alone
abbrev pub allowed : (ℕ → Bool) → (ℕ → Bool) → Effect → Bool
allowed m r Leaves = true
allowed m r (Calls c i) = (m i || not (gives_power c)) && (r i || not (is_reset c))
allowed m r PortsOff = true

-- so it is of each device at a packet
abbrev pub AllowsMarks : PortMark → PortMark → Sent → Ports → Type 0
AllowsMarks m r q k = (j : ℕ) (e : List ℕ) (t : State) → state_at k j e ≡ Some t → (deep : Bool)
    → allowed (λ i. m j (e ++ (suc i ∷ []))) (λ i. r j (e ++ (suc i ∷ []))) (effect_of q deep t)
    ≡ true

-- the ports of a device to be plugged at a path
abbrev pub shifted : PortMark → ℕ → List ℕ → PortMark
shifted m i p j q = m i (p ++ (suc j ∷ q))

-- of the ports of a device that is plugged at most one is marked
abbrev pub Few : PortMark → PortMark → Type 0
Few v r = (i : ℕ) (p : List ℕ) (n : ℕ) → strays_by (shifted v i p) (shifted r i p) (new_ports n) ≤ 1

-- no more is left to do than before, but by events: seven looks, one device and one change that
-- asks for no look for each
pub record KeepsBy (m v r : PortMark) (old new : World) : Type 0 where
  pub looks : looks_by m new.roots + 7 * old.taken ≤ looks_by m old.roots + 7 * new.taken
  pub strays : strays_by v r new.roots + old.taken ≤ strays_by v r old.roots + new.taken
  pub devices : (d : PortMark) → devices_by d new.roots + old.taken ≤ devices_by d old.roots +
      new.taken
  pub left : AtPorts new.left
  pub onward : old.taken ≤ new.taken
  -- where no event came, the same ports are there
  pub still : new.taken ≡ old.taken → (d : PortMark) → ports_by d new.roots ≡ ports_by d old.roots

-- The marks of calls at a port

-- the port at a path, and each port of the device there
abbrev pub only : List ℕ → PortMark
only [] = unmarked
only (zero ∷ e) = unmarked
only (suc j ∷ e) = just j e

abbrev pub ports_at : List ℕ → PortMark
ports_at [] = unmarked
ports_at (zero ∷ e) = unmarked
ports_at (suc j ∷ e) = ports_of j e

abbrev pub is_marked : PortMark → List ℕ → Bool
is_marked m [] = true
is_marked m (zero ∷ e) = true
is_marked m (suc j ∷ e) = m j e

-- a port is marked that a call gives power, or resets
pub record CoversCall (m r : PortMark) (p : List ℕ) (c : PortCall) : Type 0 where
  pub power : gives_power c ≡ true → is_marked m p ≡ true
  pub reset : is_reset c ≡ true → is_marked r p ≡ true

-- whatever is marked, no more is left to do than before, but by events
pub record KeepsAll (old new : World) : Type 0 where
  pub all : AtPorts old.left → (m v r : PortMark) → Few v r → KeepsBy m v r old new

-- the same where the marks cover a call at a port
pub record KeepsCall (p : List ℕ) (c : PortCall) (old new : World) : Type 0 where
  pub covered : AtPorts old.left → (m v r : PortMark) → Few v r → CoversCall m r p c
      → KeepsBy m v r old new

-- the same from the clearing of a port's change to the end of an enumeration there: the ports of
-- the device that stands there are marked, and the port's own reset
pub record KeepsFound (p : List ℕ) (old new : World) : Type 0 where
  pub found : AtPorts old.left → KeepsBy (ports_at p) unmarked (only p) old new
