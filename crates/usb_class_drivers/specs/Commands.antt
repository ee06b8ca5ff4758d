-- What a disk is asked, and the wrapper in which a command goes to it (Bulk-Only Transport, 5.1).
use Rattle.std.specs.Prelude.{ℕ, List, [], ◌∷◌, ◌++◌, Bool, true, false, if◌then◌else◌}
use Rattle.std.specs.Int.{w16, w32, to_le_bytes, to_be_bytes}
use Rattle.usb_class_drivers.specs.declared.command.Command.{Command}
use Rattle.usb_class_drivers.specs.declared.command.Command.TheVariants.{Inquiry, Capacity, Read}
use Rattle.usb_class_drivers.specs.declared.command.Command.TheVariants.{Write}

-- its data come from the disk
abbrev pub is_in : Command → Bool
is_in Inquiry = true
is_in Capacity = true
is_in (Read first blocks) = true
is_in (Write first blocks) = false

-- how many bytes of its block count
abbrev pub size_of : Command → ℕ
size_of Inquiry = 6
size_of _ = 10

-- numbers in a block have their high byte first
abbrev pub moving_block : ℕ → ℕ → ℕ → List ℕ
moving_block code first blocks =
    code ∷ 0 ∷ to_be_bytes w32 first ++ (0 ∷ to_be_bytes w16 blocks)
    ++ (0 ∷ 0 ∷ 0 ∷ 0 ∷ 0 ∷ 0 ∷ 0 ∷ [])

-- 16 bytes: what is asked, and zeros
abbrev pub block_of : Command → List ℕ
block_of Inquiry = 0x12 ∷ 0 ∷ 0 ∷ 0 ∷ 36 ∷ 0 ∷ 0 ∷ 0 ∷ 0 ∷ 0 ∷ 0 ∷ 0 ∷ 0 ∷ 0 ∷ 0 ∷ 0 ∷ []
block_of Capacity = 0x25 ∷ 0 ∷ 0 ∷ 0 ∷ 0 ∷ 0 ∷ 0 ∷ 0 ∷ 0 ∷ 0 ∷ 0 ∷ 0 ∷ 0 ∷ 0 ∷ 0 ∷ 0 ∷ []
block_of (Read first blocks) = moving_block 0x28 first blocks
block_of (Write first blocks) = moving_block 0x2A first blocks

-- "USBC", the tag, the number of data bytes, their direction, the first unit, and the block with
-- its size; numbers here have their low byte first
abbrev pub wrapper : ℕ → ℕ → Command → List ℕ
wrapper tag length command =
    0x55 ∷ 0x53 ∷ 0x42 ∷ 0x43 ∷ to_le_bytes w32 tag ++ to_le_bytes w32 length
    ++ ((if is_in command then 0x80 else 0) ∷ 0 ∷ size_of command ∷ block_of command)
