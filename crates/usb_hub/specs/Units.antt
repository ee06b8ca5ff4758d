-- What a handling pays of what is left to do.
use Rattle.std.specs.Prelude.{◌≤◌, ◌⊎◌, ◌+◌, ◌*◌}
use Rattle.usb_world.specs.{World}
use Rattle.usb_hub.specs.Marks.{devices_in, looks_by, strays_by, unmarked}

-- no more is left to do, but by events
pub record KeepsPlain (old new : World) : Type 0 where
  pub looks : looks_by unmarked new.roots + 7 * old.taken ≤ looks_by unmarked old.roots + 7 *
      new.taken
  pub strays : strays_by unmarked unmarked new.roots + old.taken ≤ strays_by unmarked unmarked
      old.roots + new.taken

-- nothing is paid: a look may be owed again for each device, and a reset may be left
pub record OwesAnew (old new : World) : Type 0 where
  pub looks : looks_by unmarked new.roots + 7 * old.taken ≤ looks_by unmarked old.roots + devices_in
      old.roots + 7 * new.taken
  pub strays : strays_by unmarked unmarked new.roots + old.taken ≤ strays_by unmarked unmarked
      old.roots + 1 + new.taken

-- a look is paid, or events came; a reset may be left, which asks for none
pub record PaysLook (old new : World) : Type 0 where
  pub looks : looks_by unmarked new.roots + 1 + 8 * old.taken ≤ looks_by unmarked old.roots + 8 *
      new.taken
  pub strays : strays_by unmarked unmarked new.roots + old.taken ≤ strays_by unmarked unmarked
      old.roots + 1 + new.taken

-- and one change that asks for no look is gone, or an event came
pub record PaysStray (old new : World) : Type 0 where
  pub looks : looks_by unmarked new.roots + 7 * old.taken ≤ looks_by unmarked old.roots + 7 *
      new.taken
  pub strays : strays_by unmarked unmarked new.roots + old.taken ≤ strays_by unmarked unmarked
      old.roots + new.taken
  pub paid : (strays_by unmarked unmarked new.roots + 1 + old.taken ≤ strays_by unmarked unmarked
      old.roots + new.taken) ⊎ (old.taken + 1 ≤ new.taken)

-- a look is paid, or a change that asks for none is gone, or an event came
pub record PaysBare (old new : World) : Type 0 where
  pub looks : looks_by unmarked new.roots + 7 * old.taken ≤ looks_by unmarked old.roots + 7 *
      new.taken
  pub strays : strays_by unmarked unmarked new.roots + old.taken ≤ strays_by unmarked unmarked
      old.roots + new.taken
  pub paid : (looks_by unmarked new.roots + 1 + 7 * old.taken ≤ looks_by unmarked old.roots + 7 *
      new.taken)
      ⊎ (strays_by unmarked unmarked new.roots + 1 + old.taken ≤ strays_by unmarked unmarked
      old.roots + new.taken)
      ⊎ (old.taken + 1 ≤ new.taken)
