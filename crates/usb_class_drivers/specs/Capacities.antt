-- What a disk answers to READ CAPACITY (10).
use Rattle.std.specs.Prelude.{◌≢◌, ℕ, ◌<◌, ◌≤◌, ◌^◌, List, ◌++◌}
use Rattle.std.specs.Int.{w32, to_be_bytes}

-- the number of its last block, and how many bytes a block has; both have their high byte first
abbrev pub capacity_bytes : ℕ → ℕ → List ℕ
capacity_bytes last block = to_be_bytes w32 last ++ to_be_bytes w32 block

-- the bytes are no such answer, or the blocks have no byte or more than 2,048
abbrev pub IsNoCapacity : List ℕ → Type 0
IsNoCapacity bytes = (last block : ℕ) → last < 2 ^ 32 → 1 ≤ block → block ≤ 2048
    → bytes ≢ capacity_bytes last block
