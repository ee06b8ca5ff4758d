-- A device that is reset or not, or forgets what it remembers.
use Rattle.std.proofs.Common.{◌≡◌, Bool, true, false, Option, None, Some, option_map, refl, sym, ap}
use Rattle.usb_device.specs.{State, forgotten}
use Rattle.usb_device.specs.declared.transfer.RememberedPacket.TheVariants.{Nothing}
use Rattle.usb_world.specs.{address_of, reset_if}
use Rattle.usb_world.proofs.Booleans.{false_true}

pub forgotten-nothing : (s : State) → s.memory ≡ Nothing → forgotten s ≡ s
forgotten-nothing s m = ap (λ x. record s { memory = x }) (sym m)

pub reset_if-false : (o : Option State) → o ≡ option_map (reset_if false) o
reset_if-false None = refl
reset_if-false (Some s) = refl

pub unreset : (b : Bool) (o : Option State) → b ≡ false → option_map (reset_if b) o ≡ o
unreset true o h = false_true (sym h)
unreset false None h = refl
unreset false (Some s) h = refl

pub kept_address : (b : Bool) (o : Option State) → b ≡ false
    → option_map address_of (option_map (reset_if b) o) ≡ option_map address_of o
kept_address true o h = false_true (sym h)
kept_address false None h = refl
kept_address false (Some s) h = refl

pub forgotten_address : (o : Option State) → option_map address_of (option_map forgotten o)
    ≡ option_map address_of o
forgotten_address None = refl
forgotten_address (Some s) = refl
