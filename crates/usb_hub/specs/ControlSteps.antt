-- Steps that move nothing through any endpoint but endpoint 0 (5.5).
use Rattle.std.specs.Prelude.{◌≡◌, ⊤}
use Rattle.usb_world.specs.{Course, Step, World, attempt, event, report, root_call}

-- an attempt at endpoint 0, or a step that is no attempt
abbrev pub IsControlStep : Step → World → Type 0
IsControlStep (attempt a) w = a.ep ≡ 0
IsControlStep (root_call c n) w = ⊤
IsControlStep event w = ⊤
IsControlStep (report line) w = ⊤

-- over these steps nothing was attempted but at endpoint 0
abbrev pub ControlCourse : World → World → Type 0
ControlCourse old new = Course IsControlStep old new
