-- How often a device lost the host's ACK at which it was to take its address.
use Rattle.std.specs.Prelude.{◌≡◌, ℕ, ◌+◌, ◌≤◌, max, Bool, List, if◌then◌else◌}
use Rattle.usb_device.specs.{State, idle}
use Rattle.usb_world.specs.declared.damage.Damage.{Damage}
use Rattle.usb_world.specs.Wire.{damages_until}
use Rattle.usb_world.specs.declared.losses.Losses.{Losses}
use Rattle.usb_world.specs.Worlds.{World}

abbrev pub no_losses : Losses
no_losses = record { all = 0; run = 0; worst = 0 }

-- one loss more
unfoldable pub one_more : Losses → Losses
one_more l = record { all = l.all + 1; run = l.run + 1; worst = max l.worst (l.run + 1) }

abbrev pub counted : Bool → Losses → Losses
counted lost l = if lost then one_more l else l

-- where a change of connection is cleared, the losses that come are another stretch's
abbrev pub after_clearing : Bool → Losses → Losses
after_clearing cleared l = if cleared then record l { run = 0 } else l

-- there is a damage for each loss, to one of the attempts so far
pub record AreOfDamages (attempts : ℕ) (damages : List Damage) (l : Losses) : Type 0 where
  pub all : l.all ≤ damages_until attempts damages
  pub run : l.run ≤ l.all
  pub worst : l.worst ≤ l.all

-- a device has taken an address; or it has not, and one loss more is counted
pub data TookOrLost (a : ℕ) (old new : World) (s v : State) : Type 0 where
  took : v.stage ≡ idle → v.registers ≡ record s.registers { address = a } → new.losses ≡ old.losses
      → TookOrLost a old new s v
  lost : v.stage ≡ s.stage → v.registers ≡ s.registers → new.losses ≡ one_more old.losses
      → TookOrLost a old new s v
