-- Who answered claims the address that was asked.
use Rattle.usb_device.specs.{path_to}
use Rattle.std.proofs.Common.{◌≡◌, ℕ, List, Some, option_map, sym, ap, ◌∙◌}
use Rattle.usb_world.specs.{address_of, World}
use Rattle.usb_transfer.specs.{Target, Answerer}
use Rattle.usb_hub.specs.{AddressMap, MapHolds}
use Rattle.usb_world.proofs.Interface.{equal_same}

pub answerer_claims : (f : AddressMap) (t : Target) (old new : World) → MapHolds f old
    → Answerer t old new → (p : List ℕ) × (f p ≡ Some t.addr)
answerer_claims f t old new o a = (
  path_to a.spot,
  sym (o.own (path_to a.spot) a.was_on) ∙ ap (option_map address_of) a.stood
      ∙ ap (λ n. Some n) (equal_same (address_of a.before) t.addr a.at),
)
