-- The table, as its callers see it: what was found at each path, and the pipes to it.
use Rattle.std.specs.Prelude.{◌≡◌, ℕ, List, [], true, false, Option, None, Some, unwrap_or}
use Rattle.std.specs.BTreeMap.{is_at, insert_entry}
use Rattle.std.specs.Map.{lookup, remove_entry}
use Rattle.arrayvec.specs.ArrayVec.{ArrayVec}
use Rattle.usb_port.specs.{path_cmp}
use Rattle.usb_enum.specs.{Finding}
use Rattle.usb_enum.specs.declared.finding.Finding.TheVariants.{Device, Refused}
use Rattle.usb_table.specs.declared.pipes.Pipes.{Pipes}
use Rattle.usb_table.specs.declared.pipes.Pipes.TheVariants.{Absent, Function, Hub}
use Rattle.usb_table.specs.TableEntries.{Entries, is_at_or_below}
use Rattle.usb_table.specs.Findings.{accepted_device_at}
use Rattle.usb_table.specs.KnownPorts.{is_below_hub}
use Rattle.usb_table.specs.TablePipes.{ArePipesIf, new_pipes, no_pipes}

-- both by rising path
pub record Table : Type 0 where
  pub entries : Entries
  pub pipes : List (List ℕ × Pipes)

abbrev pub empty : Table
empty = record { entries = []; pipes = [] }

-- the pipes to what stands at a path
abbrev pub pipes_at : List ℕ → Table → Pipes
pipes_at path table = unwrap_or (lookup (is_at (path_cmp path)) table.pipes) no_pipes

-- those to the accepted device there, and none where none is known; PRE goes before each packet to
-- a device at low speed whose path is below a hub
abbrev pub ArePipesAt : List ℕ → Table → Type 0
ArePipesAt path table = ArePipesIf (accepted_device_at path table.entries) (is_below_hub path)
    (pipes_at path table)

-- what is kept of what a device said
abbrev pub said_in : Pipes → List ℕ
said_in (Hub pipe) = []
said_in (Function pipes) = []
said_in (Absent said) = said.items

-- what a refused device said of itself; of no other it is kept
abbrev pub said_of : Option Finding → Pipes → Option (List ℕ)
said_of None pipes = None
said_of (Some (Device device)) pipes = None
said_of (Some (Refused cause)) pipes = Some (said_in pipes)

-- the one at a path
abbrev pub said_at : List ℕ → Table → Option (List ℕ)
said_at path table = said_of (lookup (is_at (path_cmp path)) table.entries) (pipes_at path table)

-- what was just found is entered at a path, with new pipes, or with what it said
abbrev pub entered : List ℕ → Finding → ArrayVec ℕ → Table → Table
entered path finding said table = record {
  entries = insert_entry path_cmp table.entries path finding;
  pipes = insert_entry path_cmp table.pipes path (new_pipes finding (is_below_hub path) said);
}

-- what was found is entered at a path, with the pipes to it
abbrev pub with_entry : List ℕ → Finding → Pipes → Table → Table
with_entry path finding pipes table = record {
  entries = insert_entry path_cmp table.entries path finding;
  pipes = insert_entry path_cmp table.pipes path pipes;
}

abbrev pub removed : List ℕ → Table → Table
removed path table = record {
  entries = remove_entry (is_at (path_cmp path)) table.entries;
  pipes = remove_entry (is_at (path_cmp path)) table.pipes;
}

-- what stood at the path or below it is taken out
pub record TakesOut (path : List ℕ) (finding : Finding) (old new : Table) : Type 0 where
  pub first : List ℕ
  pub at : is_at_or_below first path ≡ true
  pub found : lookup (is_at (path_cmp first)) old.entries ≡ Some finding
  pub rest : new ≡ removed first old

-- a call through the pipes at a path: they are to the device that is known there, and nothing but
-- them changes; what a refused device said stays
pub record GoesThrough (path : List ℕ) (old new : Table) : Type 0 where
  pub fits : ArePipesAt path old
  pub entries : new.entries ≡ old.entries
  pub others : (other : List ℕ) → is_at (path_cmp path) other ≡ false
      → pipes_at other new ≡ pipes_at other old
  pub said : said_at path new ≡ said_at path old
