-- The way of an attempt to the device that holds its address.
use Rattle.std.specs.Prelude.{ℕ, List}
use Rattle.usb_function.specs.{holder_in}
use Rattle.usb_function.specs.declared.holders.Holders.{Holders}
use Rattle.usb_world.specs.{holder_path}

abbrev pub way_in : Holders → ℕ → List ℕ
way_in h n = holder_path h.shared (holder_in h n)
