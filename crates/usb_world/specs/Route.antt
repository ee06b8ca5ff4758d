-- The way of an attempt to the device that holds its address.
use Rattle.std.specs.Prelude.{ℕ, Bool, true, false, List, []}
use Rattle.usb_device.specs.{Holder}
use Rattle.usb_device.specs.declared.holders.Holder.TheVariants.{Nobody, One, Several}

-- the path of the one holder, or the whole tree's: where two devices hold one address, also for the
-- others
abbrev pub holder_path : Bool → Holder → List ℕ
holder_path true x = []
holder_path false Nobody = []
holder_path false (One path) = path.items
holder_path false Several = []
