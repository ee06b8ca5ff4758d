-- How the strings of a device are asked for (9.6.7): string 0 in language 0, and each other in the
-- first language that string 0 lists.
use Rattle.std.specs.Prelude.{◌≡◌, ◌≢◌, ℕ, List, Option, None, Some, option_and_then, Ok, Err}
use Rattle.std.specs.Global.{Vec}
use Rattle.usb_request.specs.{get_string_descriptor}
use Rattle.usb_world.specs.{World}
use Rattle.usb_transfer.specs.{Target, Reads}
use Rattle.usb_transfer.specs.declared.fault.PipeFault.TheVariants.{Stalled}
use Rattle.usb_hub.specs.{HubPort}
use Rattle.usb_enum.specs.declared.finding.Accepted.{Accepted}
use Rattle.usb_enum.specs.declared.strings.StringIndexes.{StringIndexes}
use Rattle.usb_enum.specs.declared.strings.Strings.{Strings}
use Rattle.usb_enum.specs.Device.{needs_pre, string_indexes, target_of}
use Rattle.usb_enum.specs.LastRequests.{Leads}
use Rattle.usb_enum.specs.Readings.{bytes_given, no_strings}
use Rattle.usb_enum.specs.Text.{first_language_of, string_units}

-- a string was asked for in a language, and given, or answered by STALL
pub data AsksString (t : Target) (index language : ℕ) (old new : World) : Option (Vec ℕ)
    → Type 0 where
  given : (bytes : Vec ℕ) → Reads t (get_string_descriptor index language) old (Ok bytes) new
      → AsksString t index language old new (Some bytes)
  refused : Reads t (get_string_descriptor index language) old (Err Stalled) new
      → AsksString t index language old new None

-- the string of an index: index 0 names none, and nothing is asked; any other is asked for in the
-- language
pub data ReadsString (t : Target) (index language : ℕ) (old new : World)
    (string : Option (List ℕ)) : Type 0 where
  unnamed : index ≡ 0 → string ≡ None → new ≡ old → ReadsString t index language old new string
  named : index ≢ 0 → (bytes : Option (Vec ℕ)) → AsksString t index language old new bytes
      → string ≡ option_and_then string_units (bytes_given bytes)
      → ReadsString t index language old new string

-- the first language, which string 0 lists, asked for in language 0
pub record AsksLanguage (t : Target) (old new : World) (language : Option ℕ) : Type 0 where
  pub bytes : Option (Vec ℕ)
  pub asked : AsksString t 0 0 old new bytes
  pub said : language ≡ option_and_then first_language_of (bytes_given bytes)

-- the strings of these indexes in a language, one after the other
pub record ReadsIn (t : Target) (indexes : StringIndexes) (language : ℕ) (old new : World)
    (strings : Strings) : Type 0 where
  pub first : World
  pub manufacturer : ReadsString t indexes.manufacturer language old first strings.manufacturer
  pub second : World
  pub product : ReadsString t indexes.product language first second strings.product
  pub serial_number : ReadsString t indexes.serial_number language second new strings.serial_number

-- where there is a language, in it; else none is asked for
abbrev pub ReadsBy : Target → StringIndexes → Option ℕ → World → World → Strings → Type 0
ReadsBy t indexes None old new strings = (strings ≡ no_strings) × (new ≡ old)
ReadsBy t indexes (Some language) old new strings = ReadsIn t indexes language old new strings

-- no string is named
pub record NamesNone (indexes : StringIndexes) : Type 0 where
  pub manufacturer : indexes.manufacturer ≡ 0
  pub product : indexes.product ≡ 0
  pub serial_number : indexes.serial_number ≡ 0

-- nothing is asked where no string is named; else the language, and then the strings
pub data ReadsStrings (t : Target) (indexes : StringIndexes) (old new : World) (strings : Strings) :
    Type 0 where
  unnamed : NamesNone indexes → strings ≡ no_strings → new ≡ old
      → ReadsStrings t indexes old new strings
  asked : (mid : World) (language : Option ℕ) → AsksLanguage t old mid language
      → ReadsBy t indexes language mid new strings → ReadsStrings t indexes old new strings

-- these were the last requests
pub record EndsWithStrings (t : Target) (indexes : StringIndexes) (old new : World)
    (strings : Strings) : Type 0 where
  pub before : World
  pub led : Leads old before
  pub read : ReadsStrings t indexes before new strings

-- so the strings of an accepted device were read, at its endpoint 0
pub record AsksStrings (port : HubPort) (old new : World) (device : Accepted) : Type 0 where
  pub target : Target
  pub is : target ≡ record (target_of device (needs_pre port)) { max = target.max }
  pub ends : EndsWithStrings target (string_indexes device.bytes) old new device.strings
