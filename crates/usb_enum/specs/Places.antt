-- That what is listed at a port is there.
use Rattle.std.specs.Prelude.{◌≡◌, ◌⊎◌, ◌≤◌, ℕ, List, [], ◌∷◌, ◌++◌, Option, None, Some, IsSome}
use Rattle.std.specs.Prelude.{IfSome, true, false}
use Rattle.usb_device.specs.{Ports, reach, state_there, port_there}
use Rattle.usb_world.specs.{has_power, pending, World}
use Rattle.usb_enum.specs.declared.finding.Accepted.{Accepted}
use Rattle.usb_enum.specs.declared.finding.Finding.{Finding}
use Rattle.usb_enum.specs.declared.finding.Finding.TheVariants.{Device, Refused}
use Rattle.usb_enum.specs.declared.hub.HubFacts.{HubFacts}

-- the port at a path, where there is one, passes nothing on
abbrev pub IsDisabledAt : Ports → List ℕ → Type 0
IsDisabledAt k path = IfSome (port_there k path) (λ b. b.enable ≡ false)

-- what is listed at a port is there: nothing where nothing is plugged; an accepted device, which is
-- reached; or a refused one, whose port is disabled
abbrev pub IsThere : World → List ℕ → Option Finding → Type 0
IsThere w path None = state_there w.roots path ≡ None
IsThere w path (Some (Device device)) = reach w.roots path ≡ true
IsThere w path (Some (Refused cause)) = IsSome (state_there w.roots path)
    × IsDisabledAt w.roots path

-- a change of connection is pending at a port, or it has power and what is listed is there
abbrev pub IsKnownAs : World → List ℕ → Option Finding → Type 0
IsKnownAs w path listed = (pending w.roots path ≡ true)
    ⊎ ((has_power w.roots path ≡ true) × IsThere w path listed)

-- a change of connection is pending at a port, or it has power and a device stands there
abbrev pub IsOccupied : World → List ℕ → Type 0
IsOccupied w path = (pending w.roots path ≡ true)
    ⊎ ((has_power w.roots path ≡ true) × IsSome (state_there w.roots path))

-- a change of connection is pending at a port, or it has power and the device there is reached
abbrev pub IsReachedAt : World → List ℕ → Type 0
IsReachedAt w path = (pending w.roots path ≡ true)
    ⊎ ((has_power w.roots path ≡ true) × (reach w.roots path ≡ true))

-- of the ports of a hub nothing is listed yet
abbrev pub HasEmptyPorts : List ℕ → Option HubFacts → World → Type 0
HasEmptyPorts path told w = (facts : HubFacts) (number : ℕ) → told ≡ Some facts → 1 ≤ number
    → number ≤ facts.ports → IsKnownAs w (path ++ (number ∷ [])) None

-- a finding is there, and of the ports of a hub that was accepted nothing is listed yet
pub record IsPlaced (path : List ℕ) (finding : Finding) (w : World) : Type 0 where
  pub there : IsKnownAs w path (Some finding)
  pub below : (device : Accepted) → finding ≡ Device device → HasEmptyPorts path device.hub w
