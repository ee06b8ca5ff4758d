-- A packet that is for one device of a tree at most, at a path; the empty path is the whole tree's.
use Rattle.std.specs.Prelude.{◌≡◌, ℕ, zero, suc, ◌&&◌, Bool, true, false, List, [], ◌∷◌, ◌++◌}
use Rattle.std.specs.Prelude.{Option, None, Some, ⊤}
use Rattle.usb_device.specs.{Sent, State, Ports, Location, changed, put, device_there, state_at}
use Rattle.usb_device.specs.{reach_at, reach_on, effect_by, all_reached, keeps_others}
use Rattle.usb_device.specs.declared.transfer.RememberedPacket.TheVariants.{Nothing}
use Rattle.usb_world.specs.Paths.{same_number, same_path}
use Rattle.usb_world.specs.AttemptPackets.{deep_at, calls_on, IsSettled, OneHolds}

-- no other device remembers anything
abbrev pub OthersForgot : Ports → Location → Type 0
OthersForgot k x = (i : ℕ) (e : List ℕ) (t : State) → (same_number i x.row && same_path e x.rest)
    ≡ false → state_at k i e ≡ Some t → t.memory ≡ Nothing

-- what goes out is for no other device that it reaches
abbrev pub OthersUncalled : Option Sent → Ports → Location → Type 0
OthersUncalled o k x = (q : Sent) → o ≡ Some q → (i : ℕ) (e : List ℕ) (t : State)
    → (same_number i x.row && same_path e x.rest) ≡ false → state_at k i e ≡ Some t
    → reach_at k i e ≡ true → calls_on q.content t ≡ false

-- the device there is reached, no other remembers anything, and what goes out is for no other
pub record Alone (o : Option Sent) (k : Ports) (x : Location) : Type 0 where
  pub on : reach_on k x ≡ true
  pub forgot : OthersForgot k x
  pub uncalled : OthersUncalled o k x

abbrev pub AloneAt : Option Sent → Ports → List ℕ → Type 0
AloneAt o k [] = ⊤
AloneAt o k (zero ∷ p) = ⊥
AloneAt o k (suc j ∷ p) = Alone o k (record { row = j; rest = p })

-- one reachable device holds the address, at the path; or the path is the whole tree's
abbrev pub IsWayTo : ℕ → Ports → List ℕ → Type 0
IsWayTo n k [] = ⊤
IsWayTo n k (zero ∷ p) = ⊥
IsWayTo n k (suc j ∷ p) = OneHolds n k (record { row = j; rest = p })

-- the path leads below a device
abbrev pub is_deep : List ℕ → Bool
is_deep [] = false
is_deep (n ∷ p) = deep_at false p

-- it stands for the whole tree
abbrev pub is_whole_tree : List ℕ → Bool
is_whole_tree [] = true
is_whole_tree (n ∷ p) = false

-- the tree with nothing on a port of the device at a path
abbrev pub without_port : ℕ → Ports → List ℕ → Ports
without_port port k p = changed (put None) k (p ++ port ∷ [])

-- what the device there asks of its ports at what goes out leaves the same devices reached, but for
-- those on its port of a number and below
abbrev pub IsQuiet : ℕ → Option Sent → Ports → List ℕ → Type 0
IsQuiet port None k p = ⊤
IsQuiet port (Some q) k p = keeps_others port (effect_by q (is_deep p) (device_there k p)) ≡ true

-- the path is a device's, and if that one alone held its address, the same devices are reached,
-- with the same addresses, but for those on its port of a number and below
abbrev pub KeptAt : ℕ → ℕ → Ports → Ports → List ℕ → Type 0
KeptAt n port old new [] = ⊥
KeptAt n port old new (zero ∷ p) = ⊥
KeptAt n port old new (suc j ∷ p) =
    IsSettled old → OneHolds n old (record { row = j; rest = p })
    → all_reached (without_port port new (suc j ∷ p))
    ≡ all_reached (without_port port old (suc j ∷ p))
