-- What a hub is asked once it is configured (11.24.2).
use Rattle.std.specs.Prelude.{◌≡◌, ℕ, zero, suc, true, false, Ok}
use Rattle.std.specs.Global.{Vec}
use Rattle.usb_request.specs.{PORT_POWER, get_hub_descriptor, get_status, set_port_feature}
use Rattle.usb_world.specs.{World}
use Rattle.usb_transfer.specs.{Target}
use Rattle.usb_descriptor.specs.{hub_spelled, port_count}
use Rattle.usb_port.specs.{supply_of}
use Rattle.usb_hub.specs.{DeviceStatus, Queried, ReadAs, Commanded, device_status}
use Rattle.usb_enum.specs.declared.hub.HubFacts.{HubFacts}

-- its descriptor, which is good and says how many ports it has
pub record CountTold (hub : Target) (old new : World) (count : ℕ) : Type 0 where
  pub bytes : Vec ℕ
  pub asked : Queried hub get_hub_descriptor old (Ok bytes) new
  pub good : hub_spelled true bytes.items ≡ Ok bytes.items
  pub said : count ≡ port_count bytes.items

-- its status, which says what its ports give
pub record SupplyTold (hub : Target) (old new : World) (supply : ℕ) : Type 0 where
  pub status : DeviceStatus
  pub told : ReadAs device_status hub get_status old (Ok status) new
  pub said : supply ≡ supply_of false status.self_powered

-- one of its ports was given power
abbrev pub IsPowered : Target → ℕ → World → World → Type 0
IsPowered hub port old new = Commanded hub (set_port_feature PORT_POWER port) old (Ok tt) new

-- its ports were given power up to this number, one by one
abbrev pub Powered : Target → ℕ → World → World → Type 0
Powered hub zero old new = new ≡ old
Powered hub (suc n) old new = (between : World)
    × (Powered hub n old between × IsPowered hub (suc n) between new)

-- it told its facts, and then its ports were given power
pub record Started (hub : Target) (old new : World) (facts : HubFacts) : Type 0 where
  pub counted : World
  pub count : CountTold hub old counted facts.ports
  pub asked : World
  pub supply : SupplyTold hub counted asked facts.supply
  pub powered : Powered hub facts.ports asked new
