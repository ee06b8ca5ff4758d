-- What the host leaves at a path when it stops there.
use Rattle.std.specs.Prelude.{◌≡◌, ◌⊎◌, ℕ, List, true, None}
use Rattle.usb_world.specs.{is_way}
use Rattle.usb_table.specs.{Entries, without}
use Rattle.usb_host.specs.BulkPipes.{StaysWhere}
use Rattle.usb_host.specs.HostStates.{HostState}

-- what is known stays, or what was found at the port and below it is forgotten
abbrev pub StaysOrForgets : List ℕ → Entries → Entries → Type 0
StaysOrForgets path old new = (new ≡ old) ⊎ (new ≡ without path old)

-- the same of the path, or of one on its way
pub record ForgetsOnWay (path : List ℕ) (old new : Entries) : Type 0 where
  pub on : List ℕ
  pub way : is_way on path ≡ true
  pub left : StaysOrForgets on old new

-- the host stopped at a path: nothing is entered, and at most what was found there, or at a hub on
-- its way, and below it is forgotten. Each device that is still listed keeps its pipes. Its
-- endpoints are as they were, if it has an address or the bus still works
pub record CutAt (path : List ℕ) (old new : HostState) : Type 0 where
  pub entries : ForgetsOnWay path old.entries new.entries
  pub bulk : StaysWhere (new.world.fault ≡ None) old new
