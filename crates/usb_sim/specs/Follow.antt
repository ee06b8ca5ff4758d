-- A bus that follows another plan.
use Rattle.std.specs.Prelude.{◌==◌, ◌&&◌, Bool, drop, length}
use Rattle.usb_world.specs.{PlanData, World, damages_until}

-- it has as many devices, and as many damages to the attempts so far
abbrev pub is_alike : PlanData → World → Bool
is_alike p w =
    (length p.devices == length w.devices)
    && (damages_until w.attempts p.damages == damages_until w.attempts w.damages)

-- its events behind as many as came are to come, and its damages
abbrev pub followed : PlanData → World → World
followed p w = record w { left = drop w.taken p.events; damages = p.damages }
