-- Arrays of hex texts, and of other items.
use Rattle.std.specs.Prelude.{ℕ, List, [], ◌∷◌, ◌++◌, length, Result, Ok, Err, nat_le}
use Rattle.std.specs.Prelude.{if◌then◌else◌}
use Rattle.toml.specs.Data.{Data}
use Rattle.usb_plan.specs.declared.entry_fault.EntryFault.{EntryFault}
use Rattle.usb_plan.specs.declared.entry_fault.EntryFault.TheVariants.{BadValue}
use Rattle.usb_plan.specs.EntryFault.{fault_in_part, least_fault, ◌>>=◌}
use Rattle.usb_plan.specs.Value.{read_items, hex_in}

-- the items with one more at their end, or the fault of least number
unfoldable pub with_item : {A : Type 0} → Result (List A) EntryFault → Result A EntryFault
    → Result (List A) EntryFault
with_item items item = do
  u ← least_fault (fault_in_part items ∷ fault_in_part item ∷ [])
  xs ← items
  x ← item
  Ok (xs ++ x ∷ [])

-- the items so far and those that are read of the values, or the fault of least number
unfoldable pub items_from : {A : Type 0} → (Data → Result A EntryFault)
    → Result (List A) EntryFault → List Data → Result (List A) EntryFault
items_from read items [] = items
items_from read items (d ∷ ds) = items_from read (with_item items (read d)) ds

-- at most so many texts of at most so many bytes
unfoldable pub texts_in : ℕ → ℕ → Data → Result (List (List ℕ)) EntryFault
texts_in count most d =
    read_items d >>= λ ds. if nat_le (length ds) count
    then items_from (hex_in most) (Ok []) ds else Err BadValue
