-- The index that a bus keeps of a tree of devices.
use Rattle.std.specs.Prelude.{◌≡◌, ℕ, List, slice_index_or, None}
use Rattle.usb_device.specs.{Holder, Ports, changed, put, held_addresses, repeats, IsIndex}
use Rattle.usb_device.specs.declared.holders.Holder.TheVariants.{Nobody}
use Rattle.usb_function.specs.declared.holders.Holders.{Holders}

-- who holds an address, as the index has it
abbrev pub holder_in : Holders → ℕ → Holder
holder_in h n = slice_index_or h.holders.items n Nobody

-- it has of each address who holds it in the tree, and whether some address is held twice
abbrev pub IsIndexOf : Holders → Ports → Type 0
IsIndexOf h k = IsIndex h.holders.items k × (h.shared ≡ repeats (held_addresses k))

-- it is the index of a tree as it were with nothing at a path
abbrev pub IsIndexWithout : Holders → Ports → List ℕ → Type 0
IsIndexWithout h k p = IsIndexOf h (changed (put None) k p)
