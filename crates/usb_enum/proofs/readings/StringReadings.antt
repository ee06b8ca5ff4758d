-- What is learned of a device's strings, for which it is never refused.
use Rattle.std.proofs.Common.{arith, ◌≡◌, ℕ, List, take, Option, None, Some, option_map}
use Rattle.std.proofs.Common.{option_and_then, refl, Result, Err}
use Rattle.std.specs.Global.{Vec}
use Rattle.usb_device.specs.{Spec}
use Rattle.usb_world.specs.{World}
use Rattle.usb_transfer.specs.{Target, PipeFault}
use Rattle.usb_transfer.specs.declared.fault.PipeFault.TheVariants as pipe
use Rattle.usb_hub.specs.{string_given}
use Rattle.usb_enum.specs.{Strings, string_read, string_at, DeviceFact, Answered, HasString}
use Rattle.usb_enum.specs.{bytes_given, language_of, string_in, stop_of, AsksLanguage, AsksString}
use Rattle.usb_enum.specs.{ReadsString, named, string_units, first_language_of, Stop, OnlyAsks}
use Rattle.usb_enum.specs.{KeepingSteps, StopsRead, Cause, IsResponsive, IsRefusedFor, answered_or}
use Rattle.usb_enum.specs.{no_fault}
use Rattle.usb_enum.proofs.readings.Readings.{learns_wider, learns_on}
use Rattle.std.specs.Prelude.{⊤}
use Rattle.usb_enum.proofs.stops.Reasons.{told_after}
use Rattle.usb_enum.proofs.refusals.Refusals.{FailsForSpec, explains_on}

-- One string

pub string_read-given : (spec : Spec) (index : ℕ)
    → string_read spec index ≡ option_map (take 255) (string_given index spec)
string_read-given spec index = grind arith

-- only a STALL is no stop
pub stall_alone : (fault : PipeFault) → stop_of fault ≡ None → fault ≡ pipe.Stalled
stall_alone fault none = grind arith

-- what is read of its bytes
pub string_named : (t : Target) (index language : ℕ) (bytes : Option (Vec ℕ))
    (string : Option (List ℕ)) {old new : World} → (index ≡ 0 → ⊥)
    → string ≡ option_and_then string_units (bytes_given bytes)
    → Answered t (AsksString t index language) (HasString index) old new bytes
    → Answered t (ReadsString t index language) (λ x spec. x ≡ string_in spec index) old new string
string_named t index language bytes string {new} is_named is read = record {
  told = named is_named bytes read.told is;
  so = learns_wider new read.so (grind arith);
}

pub language_asked : (t : Target) (bytes : Option (Vec ℕ)) (language : Option ℕ) {old new : World}
    → language ≡ option_and_then first_language_of (bytes_given bytes)
    → Answered t (AsksString t 0 0) (HasString 0) old new bytes
    → Answered t (AsksLanguage t) (λ x spec. x ≡ language_of spec) old new language
language_asked t bytes language {new} is read = record {
  told = grind arith;
  so = learns_wider new read.so (grind arith);
}

-- The strings that a descriptor names

pub at_language : (spec : Spec) (index : ℕ) {language : ℕ} → Some language ≡ language_of spec
    → string_at spec index ≡ string_in spec index
unfolding string_at
at_language spec index is = grind arith

pub string_at-no_language : (spec : Spec) (index : ℕ) → None ≡ language_of spec
    → string_at spec index ≡ None
unfolding string_at
string_at-no_language spec index is = grind arith

pub string_at-zero : (spec : Spec) (index : ℕ) → index ≡ 0 → string_at spec index ≡ None
unfolding string_at
string_at-zero spec index is = rw is refl

pub same_strings : {a b c x y z : Option (List ℕ)} → a ≡ x → b ≡ y → c ≡ z
    → record { manufacturer = a; product = b; serial_number = c }
    ≡ (let s : Strings = record { manufacturer = x; product = y; serial_number = z } in s)
same_strings e f g = rw (e, f, g) refl

-- Why none is read

pub never_stop : {t : Target} (index : ℕ) {spec : Spec} → IsResponsive t spec
    → (fault : PipeFault) (stop : Stop) → stop_of fault ≡ Some stop
    → FailsForSpec (string_given index) fault spec → IsRefusedFor no_fault stop spec
never_stop index r fault stop is why = grind arith

-- a fault that is a stop is told as that, whatever a STALL means
pub stopped_read : {A : Type 0} (stalled : Cause) (outcome : Result A PipeFault) (fault : PipeFault)
    (stop : Stop) → outcome ≡ Err fault → stop_of fault ≡ Some stop
    → Err stop ≡ answered_or stalled outcome
stopped_read stalled outcome fault stop is some = grind arith

-- a read that stops behind others
pub string_stops : (So : Spec → Type 0) {t : Target} {m n : ℕ} {old mid new : World}
    {a b c : Option (List ℕ)} (stop : Stop) → KeepingSteps OnlyAsks m old a mid b
    → DeviceFact So t old mid → KeepingSteps OnlyAsks n mid b new c
    → StopsRead t no_fault mid new stop → StopsRead t no_fault old new stop
string_stops So stop first fact next stops = search (explains_on, told_after, first.went)

-- that each was read
pub strings_read : {A B : Spec → Type 0} (t : Target) {n : ℕ} {old mid new : World}
    {a b : Option (List ℕ)} → DeviceFact A t old mid → KeepingSteps OnlyAsks n mid a new b
    → DeviceFact B t mid new → DeviceFact (λ spec. ⊤) t old new
strings_read t first steps next = search learns_on
