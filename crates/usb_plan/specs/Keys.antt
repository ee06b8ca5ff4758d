-- The keys of a table.
use Rattle.std.specs.Prelude.{ℕ, List, Bool, true, ◌&&◌, Option, Some, None, Result, Ok, Err}
use Rattle.std.specs.Prelude.{if◌then◌else◌}
use Rattle.std.specs.List.{list_any}
use Rattle.std.specs.Str.{bytes_eq}
use Rattle.toml.specs.Data.{Data, Members, no_members, member}
use Rattle.usb_plan.specs.declared.entry_fault.EntryFault.{EntryFault}
use Rattle.usb_plan.specs.declared.entry_fault.EntryFault.TheVariants.{OnlyFar, BadValue}

-- each key is one of the names
unfoldable pub only_named : List (List ℕ) → Members → Bool
only_named names no_members = true
only_named names (member k d ms) = list_any (bytes_eq k) names && only_named names ms

-- no key but these
unfoldable pub keys_at : List (List ℕ) → Members → Result (Unit {0}) EntryFault
keys_at names ms = if only_named names ms then Ok tt else Err BadValue

-- the key `when`, if it must be absent: its place is found in the run of another host alone
unfoldable pub no_when : Option Data → Result (Unit {0}) EntryFault
no_when None = Ok tt
no_when (Some d) = Err OnlyFar
