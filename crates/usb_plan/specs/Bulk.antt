-- The keys of a device's bulk endpoints.
use Rattle.std.specs.Prelude.{ℕ, ℤ, codes, List, [], ◌∷◌, Option, Some, None, Result, Ok}
use Rattle.toml.specs.Data.{Data, Members, get_member, as_integer}
use Rattle.usb_plan.specs.declared.entry_fault.EntryFault.{EntryFault}
use Rattle.usb_plan.specs.declared.bulk.Bulk.{Bulk}
use Rattle.usb_plan.specs.EntryFault.{fault_in_part, least_fault, ◌>>=◌}
use Rattle.usb_plan.specs.Value.{number_in, hex_in}

-- the key `source`; absent it is empty
unfoldable pub source_at : Option Data → Result (List ℕ) EntryFault
source_at None = Ok []
source_at (Some d) = hex_in 65535 d

unfoldable pub halt_in : Option ℤ → Result (Option ℕ) EntryFault
halt_in number = number_in 1 65535 number >>= λ packets. Ok (Some packets)

-- the key `halt_after`; absent nothing halts
unfoldable pub halt_at : Option Data → Result (Option ℕ) EntryFault
halt_at None = Ok None
halt_at (Some d) = halt_in (as_integer d)

unfoldable pub bulk_with : Result (List ℕ) EntryFault → Result (Option ℕ) EntryFault
    → Result Bulk EntryFault
bulk_with source halt_after = do
  u ← least_fault (fault_in_part source ∷ fault_in_part halt_after ∷ [])
  bytes ← source
  packets ← halt_after
  Ok (record { source = bytes; halt_after = packets })

-- the keys of bulk endpoints
unfoldable pub read_bulk : Members → Result Bulk EntryFault
read_bulk ms =
    bulk_with (source_at (get_member (codes "source") ms))
    (halt_at (get_member (codes "halt_after") ms))
