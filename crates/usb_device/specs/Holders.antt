-- Which device holds which address, among those that packets reach.
use Rattle.std.specs.Prelude.{◌≡◌, ℕ, ◌+◌, ◌-◌, ◌<◌, ◌==◌, ◌||◌, ◌&&◌, not, if◌then◌else◌, Bool}
use Rattle.std.specs.Prelude.{true, false, List, [], ◌∷◌, ◌++◌, length, nat_le, slice_index_or}
use Rattle.std.specs.Prelude.{slice_set, fold, Option, None, Some, ⊤}
use Rattle.arrayvec.specs.ArrayVec.{ArrayVec}
use Rattle.usb_device.specs.declared.holders.Holder.{Holder}
use Rattle.usb_device.specs.declared.holders.Holder.TheVariants.{Nobody, One, Several}
use Rattle.usb_port.specs.{PortState, PortCall, SetPower, SetReset, ClearEnable, ClearPower}
use Rattle.usb_port.specs.{ClearConnectionChange, ClearEnableChange, ClearResetChange}
use Rattle.usb_device.specs.declared.effect.Effect.{Effect}
use Rattle.usb_device.specs.declared.effect.Effect.TheVariants.{Leaves, Calls, PortsOff}
use Rattle.usb_device.specs.Tree.{Ports, ended, vacant, taken, Plugged, Place, empty, full, before}
use Rattle.usb_device.specs.Tree.{reach, plugged_in, device_there}
use Rattle.usb_device.specs.Delivery.{held_addresses}

-- the path of a port on a row below another path, where it is at most eight numbers long
abbrev pub path_below : Option (ArrayVec ℕ) → ℕ → Option (ArrayVec ℕ)
path_below None n = None
path_below (Some p) n = if nat_le 8 (length p.items) || nat_le 256 n then None else Some
    (record { items = p.items ++ n ∷ [] })

-- the devices that packets reach, from a row whose first port has the number n: the address of
-- each, and its path
unfoldable pub reached : Option (ArrayVec ℕ) → ℕ → Ports → List (ℕ × Option (ArrayVec ℕ))
reached above n ended = []
reached above n (vacant b k) = reached above (n + 1) k
reached above n (taken b s a k) =
    if b.enable then (s.registers.address, path_below above n) ∷
    (reached (path_below above n) 1 a ++ reached above (n + 1) k) else reached above (n + 1) k

-- a device by its path, and those that packets reach below it
abbrev pub reached_whole : Option (ArrayVec ℕ) → Plugged → List (ℕ × Option (ArrayVec ℕ))
reached_whole path t = (t.own.registers.address, path) ∷ reached path 1 t.ports

-- the same on a port of that number and below it
abbrev pub reached_in : Option (ArrayVec ℕ) → ℕ → PortState → Option Plugged
    → List (ℕ × Option (ArrayVec ℕ))
reached_in above n b None = []
reached_in above n b (Some t) = if b.enable then reached_whole (path_below above n) t else []

-- the same devices at two places and below them, wherever these stand
abbrev pub ReachedSame : Place → Place → Type 0
ReachedSame q r = (above : Option (ArrayVec ℕ)) (n : ℕ) → reached above n (before q ended)
    ≡ reached above n (before r ended)

abbrev pub all_reached : Ports → List (ℕ × Option (ArrayVec ℕ))
all_reached k = reached (Some (record { items = [] })) 1 k

-- the device at a path, where packets reach it
abbrev pub reached_there : Ports → List ℕ → Option Plugged
reached_there k p = if reach k p then device_there k p else None

-- the same from a place on, whose port has to be enabled too
abbrev pub reach_in : Place → List ℕ → Bool
reach_in (empty b) p = false
reach_in (full b s a) [] = b.enable
reach_in (full b s a) (n ∷ p) = b.enable && reach a (n ∷ p)

abbrev pub reached_below : Place → List ℕ → Option Plugged
reached_below q p = if reach_in q p then plugged_in q p else None

-- the path of these numbers below another path, where it is at most eight numbers long
abbrev pub path_further : Option (ArrayVec ℕ) → List ℕ → Option (ArrayVec ℕ)
path_further above p = fold path_below above p

-- the devices that packets reach at a path and below it
abbrev pub reached_from : Option (ArrayVec ℕ) → Option Plugged → List (ℕ × Option (ArrayVec ℕ))
reached_from path None = []
reached_from path (Some t) = reached_whole path t

abbrev pub reached_at_path : Ports → List ℕ → List (ℕ × Option (ArrayVec ℕ))
reached_at_path k p =
    reached_from (path_further (Some (record { items = [] })) p) (reached_there k p)

-- the paths of those that hold an address
abbrev pub paths_at : ℕ → List (ℕ × Option (ArrayVec ℕ)) → List (Option (ArrayVec ℕ))
paths_at n [] = []
paths_at n (x ∷ xs) = if x.0 == n then x.1 ∷ paths_at n xs else paths_at n xs

abbrev pub holder_among : List (Option (ArrayVec ℕ)) → Holder
holder_among [] = Nobody
holder_among (None ∷ []) = Several
holder_among (Some p ∷ []) = One p
holder_among (p ∷ q ∷ ps) = Several

-- who holds an address
abbrev pub holder_of : ℕ → Ports → Holder
holder_of n k = holder_among (paths_at n (all_reached k))

-- each byte as an address leads to who holds it
abbrev pub IsIndex : List Holder → Ports → Type 0
IsIndex holders k = (n : ℕ) → n < 256 → slice_index_or holders n Nobody ≡ holder_of n k

abbrev pub AreNobody : List Holder → Type 0
AreNobody holders = (n : ℕ) → slice_index_or holders n Nobody ≡ Nobody

-- calls that leave each port enabled or not, and reset no device (11.24.2)
abbrev pub keeps_enable : PortCall → Bool
keeps_enable SetPower = true
keeps_enable SetReset = false
keeps_enable ClearEnable = false
keeps_enable ClearPower = false
keeps_enable ClearConnectionChange = true
keeps_enable ClearEnableChange = true
keeps_enable ClearResetChange = true

-- what is asked of ports and leaves the same devices reached, but for those on the port of a
-- number, counted from 1, and below it
abbrev pub keeps_others : ℕ → Effect → Bool
keeps_others port Leaves = true
keeps_others port (Calls c i) = keeps_enable c || (not (port == 0) && port - 1 == i)
keeps_others port PortsOff = false

-- each number is a byte
abbrev pub AreBytes : List ℕ → Type 0
AreBytes [] = ⊤
AreBytes (n ∷ ns) = (n < 256) × AreBytes ns

-- How an index is made: one device after the other joins those that were met.

abbrev pub is_known : Holder → Bool
is_known Nobody = false
is_known (One p) = true
is_known Several = true

abbrev pub joined_holder : Holder → Option (ArrayVec ℕ) → Holder
joined_holder Nobody None = Several
joined_holder Nobody (Some p) = One p
joined_holder (One p) q = Several
joined_holder Several q = Several

abbrev pub noted : List (ℕ × Option (ArrayVec ℕ)) → List Holder → List Holder
noted [] holders = holders
noted (x ∷ xs) holders = noted xs (slice_set holders x.0
    (joined_holder (slice_index_or holders x.0 Nobody) x.1))

-- some address is met twice
abbrev pub meets_again : List (ℕ × Option (ArrayVec ℕ)) → List Holder → Bool
meets_again [] holders = false
meets_again (x ∷ xs) holders = is_known (slice_index_or holders x.0 Nobody) ||
    meets_again xs (slice_set holders x.0 (joined_holder (slice_index_or holders x.0 Nobody) x.1))

-- How those at a path and below it are taken out of an index: nobody holds their addresses any
-- more.

abbrev pub held_whole : Plugged → List ℕ
held_whole t = t.own.registers.address ∷ held_addresses t.ports

abbrev pub held_from : Option Plugged → List ℕ
held_from None = []
held_from (Some t) = held_whole t

abbrev pub released : List ℕ → List Holder → List Holder
released [] holders = holders
released (n ∷ ns) holders = released ns (slice_set holders n Nobody)
