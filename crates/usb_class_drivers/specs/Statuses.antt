-- The wrapper in which the status of a command comes back (Bulk-Only Transport, 5.2).
use Rattle.std.specs.Prelude.{◌≡◌, ◌≢◌, ℕ, ◌<◌, ◌^◌, List, [], ◌∷◌, ◌++◌, Bool, true, false, nat_le}
use Rattle.std.specs.Prelude.{Result, Ok, Err}
use Rattle.std.specs.Int.{w32, to_le_bytes}
use Rattle.usb_class_drivers.specs.declared.fault.DriverFault.{DriverFault}
use Rattle.usb_class_drivers.specs.declared.fault.DriverFault.TheVariants.{Failed as NotDone}
use Rattle.usb_class_drivers.specs.declared.fault.DriverFault.TheVariants.{OutOfStep}
use Rattle.usb_class_drivers.specs.declared.status.Outcome.{Outcome}
use Rattle.usb_class_drivers.specs.declared.status.Outcome.TheVariants.{Passed, Failed, PhaseError}
use Rattle.usb_class_drivers.specs.declared.status.Status.{Status}

abbrev pub outcome_byte : Outcome → ℕ
outcome_byte Passed = 0
outcome_byte Failed = 1
outcome_byte PhaseError = 2

-- "USBS", the tag of the command, how many data bytes were not moved, and what became of it
abbrev pub status_bytes : ℕ → Status → List ℕ
status_bytes tag status =
    0x55 ∷ 0x53 ∷ 0x42 ∷ 0x53 ∷ to_le_bytes w32 tag ++ to_le_bytes w32 status.residue
    ++ (outcome_byte status.outcome ∷ [])

-- the bytes are no status of the command with this tag
abbrev pub IsNoStatus : ℕ → List ℕ → Type 0
IsNoStatus tag bytes =
    (status : Status) → status.residue < 2 ^ 32 → bytes ≢ status_bytes tag status

-- what a status says of a command with so many data bytes: how many of them were not moved, if it
-- was done. With more of them than there are a status means nothing (6.3.2)
abbrev pub residue_if : Bool → Outcome → ℕ → Result ℕ DriverFault
residue_if false outcome residue = Err OutOfStep
residue_if true Passed residue = Ok residue
residue_if true Failed residue = Err NotDone
residue_if true PhaseError residue = Err OutOfStep

abbrev pub residue_told : ℕ → Status → Result ℕ DriverFault
residue_told length status = residue_if (nat_le status.residue length) status.outcome status.residue

-- what these bytes say of the command with this tag and so many data bytes
pub data StatusTold (tag length : ℕ) (bytes : List ℕ) (told : Result ℕ DriverFault) : Type 0 where
  has_status : (status : Status) → bytes ≡ status_bytes tag status
      → told ≡ residue_told length status → StatusTold tag length bytes told
  has_none : IsNoStatus tag bytes → told ≡ Err OutOfStep → StatusTold tag length bytes told
