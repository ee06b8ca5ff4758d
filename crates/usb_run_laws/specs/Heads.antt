-- What a device had taken and given when it was found, as against the moment before (5.8).
use Rattle.std.specs.Prelude.{◌≡◌, ◌⊎◌, ⊤, ℕ, List, [], true, Option, None, Some}
use Rattle.usb_device.specs.{Location, State, path_to, reach_on, state_on, in_end, out_end}
use Rattle.usb_world.specs.{World}

-- it has neither taken a byte nor given one
pub record IsUntouched (v : State) : Type 0 where
  pub sink : (e : ℕ) → (out_end v e).sink ≡ []
  pub place : (e : ℕ) → (in_end v e).place ≡ 0

-- it has taken and given what this one had
pub record SameStreams (s v : State) : Type 0 where
  pub sink : (e : ℕ) → (out_end v e).sink ≡ (out_end s e).sink
  pub place : (e : ℕ) → (in_end v e).place ≡ (in_end s e).place

-- what stands there has taken and given what stood there before had; or it was plugged since, and
-- has neither taken nor given
abbrev pub KeepsStreams : Option State → Option State → Type 0
KeepsStreams o None = ⊤
KeepsStreams None (Some v) = IsUntouched v
KeepsStreams (Some s) (Some v) = SameStreams s v ⊎ IsUntouched v

-- so it is of each device that is plugged, reached or not
abbrev pub MovesNothing : World → World → Type 0
MovesNothing old new = (x : Location) → KeepsStreams (state_on old.roots x) (state_on new.roots x)

-- so it is of the device that is reached at a path
abbrev pub HeadAt : List ℕ → World → World → Type 0
HeadAt path old new = (x : Location) (v : State) → path ≡ path_to x → reach_on new.roots x ≡ true
    → state_on new.roots x ≡ Some v → KeepsStreams (state_on old.roots x) (Some v)
