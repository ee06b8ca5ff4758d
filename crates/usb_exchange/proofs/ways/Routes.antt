-- A packet that goes straight to the one device that it is for does what it does in the whole tree.
use Rattle.usb_exchange.specs.{way_in}
use Rattle.std.proofs.Common.{arith, ◌≡◌, ◌<◌, ℕ, List}
use Rattle.usb_device.specs.{Ports}
use Rattle.usb_function.specs.{IsIndexOf}
use Rattle.usb_function.specs.declared.holders.Holders.{Holders}
use Rattle.usb_device.proofs.Interface.{one_is_held}
use Rattle.usb_world.specs.{IsWayTo}
use Rattle.usb_world.proofs.ways.Routes.{one_at}

-- the way that is taken: to the one that the index names, or the whole tree's
pub way_by_index : (n : ℕ) (k : Ports) (h : Holders) (p : List ℕ) → n < 256 → IsIndexOf h k
    → p ≡ way_in h n → IsWayTo n k p
way_by_index n k h p small is e = grind (arith, one_at, one_is_held)
