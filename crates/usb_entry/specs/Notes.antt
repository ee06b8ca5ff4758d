-- What Linux has of a device beside its descriptors.
use Rattle.std.specs.Prelude.{◌≡◌, ◌≢◌, ◌⊎◌, ◌++◌, ℕ, List, [], codes, Option, Some, None}
use Rattle.std.specs.Borrow.{Bor}
use Rattle.usb_entry.specs.declared.notes.LinuxSpeed.{LinuxSpeed}
use Rattle.usb_entry.specs.declared.notes.LinuxSpeed.TheVariants.{Full, Low}

-- the file `speed` has Mbit/s; a device of high speed has full speed in a plan
abbrev pub IsSpeedText : List ℕ → LinuxSpeed → Type 0
IsSpeedText text Low = text ≡ codes "1.5\n"
IsSpeedText text Full = (text ≡ codes "12\n") ⊎ (text ≡ codes "480\n")

abbrev pub IsSpeedRead : List ℕ → Option LinuxSpeed → Type 0
IsSpeedRead text (Some speed) = IsSpeedText text speed
IsSpeedRead text None = (speed : LinuxSpeed) → IsSpeedText text speed → ⊥

-- the file `product` has one line, which is not empty
abbrev pub IsProductRead : List ℕ → Option (Bor (List ℕ)) → Type 0
IsProductRead text (Some product) = (text ≡ product.now ++ codes "\n") × (product.now ≢ [])
IsProductRead text None = (product : List ℕ) → product ≢ [] → text ≢ product ++ codes "\n"
