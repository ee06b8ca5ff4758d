-- What is written of devices.
use Rattle.std.specs.Prelude.{◌≡◌, ◌≢◌, ◌⊎◌, ◌++◌, ℕ, List, [], ◌∷◌, Bool, true, Option, Result, Ok}
use Rattle.std.specs.Prelude.{Err, length}
use Rattle.std.specs.List.{AllByRecursion}
use Rattle.std.specs.Io.KnownBytes.{Appends}
use Rattle.usb_watch.specs.{AppendsFront}
use Rattle.usb_entry.specs.declared.fault.EntryFault.{EntryFault}
use Rattle.usb_entry.specs.declared.fault.EntryFault.TheVariants.{NoName, Write}
use Rattle.usb_entry.specs.declared.source.Source.{Source}
use Rattle.usb_entry.specs.EntryData.{EntryData, HasEntryFault, IsEntry}
use Rattle.usb_entry.specs.Text.{entry_text}

-- the device whose bytes these are, and a name for it
pub record IsNamedEntry (name bytes : List ℕ) (e : EntryData) : Type 0 where
  pub named : name ≢ []
  pub read : IsEntry bytes e

-- the text is the table of the source's device
pub record IsTable (ports : ℕ) (source : Source) (text : List ℕ) : Type 0 where
  pub device : EntryData
  pub is_device : IsNamedEntry source.name.now source.bytes.now device
  pub written : text ≡ entry_text source.name.now ports source.notes device

-- the table of the source's device is behind what was there
abbrev pub AddsTable : ℕ → Source → List ℕ → List ℕ → Type 0
AddsTable ports source before now = (table : List ℕ) × IsTable ports source table
    × (now ≡ before ++ table)

-- the text is the tables of all sources, in order
abbrev pub AreTables : ℕ → List Source → List ℕ → Type 0
AreTables ports [] text = text ≡ []
AreTables ports (source ∷ sources) text = (table : List ℕ) × (rest : List ℕ)
    × IsTable ports source table × AreTables ports sources rest × (text ≡ table ++ rest)

-- why a source makes no entry: it has no name, or its bytes have this fault
abbrev pub HasSourceFault : Source → EntryFault → Type 0
HasSourceFault source fault = ((fault ≡ NoName) × (source.name.now ≡ []))
    ⊎ ((source.name.now ≢ []) × HasEntryFault source.bytes.now fault)

-- each source is a device with a name
abbrev pub IsSource : Source → Type 0
IsSource source = (device : EntryData) × IsNamedEntry source.name.now source.bytes.now device

-- the source at this place is the first that makes no entry, and why
pub record StopsAt (sources : List Source) (place : ℕ) (fault : EntryFault) : Type 0 where
  pub before : List Source
  pub source : Source
  pub rest : List Source
  pub split : sources ≡ before ++ source ∷ rest
  pub count : place ≡ length before
  pub each : AllByRecursion IsSource before
  pub why : HasSourceFault source fault

-- all tables are written, or a front of them where the writer failed; nothing where a source makes
-- no entry
abbrev pub WritesEntries : ℕ → List Source → Option (List ℕ) → Result (Unit {0}) (ℕ × EntryFault)
    → Option (List ℕ) → Type 0
WritesEntries ports sources before (Ok tt) now = (tables : List ℕ)
    × AreTables ports sources tables × Appends before now tables
WritesEntries ports sources before (Err (place, Write)) now = (tables : List ℕ)
    × AreTables ports sources tables × AppendsFront before now tables × (place ≡ length sources)
WritesEntries ports sources before (Err (place, fault)) now = StopsAt sources place fault
    × (now ≡ before)

-- the writer is marked where it failed, and else as it was
abbrev pub MarksAtWrite : Result (Unit {0}) (ℕ × EntryFault) → Bool → Bool → Type 0
MarksAtWrite (Err (place, Write)) before now = now ≡ true
MarksAtWrite result before now = now ≡ before
