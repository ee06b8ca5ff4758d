-- How often the addresses of devices may be lost.
use Rattle.std.specs.Prelude.{◌≤◌}
use Rattle.usb_world.specs.{World}

-- between two changes of connection that are cleared, no address is lost three times
abbrev pub FewLosses : World → Type 0
FewLosses w = w.losses.worst ≤ 2

-- over these steps no other stretch of losses begins
pub record NoNewStretch (old new : World) : Type 0 where
  pub run : old.losses.run ≤ new.losses.run
