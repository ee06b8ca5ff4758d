-- What is unplugged together.
use Rattle.std.specs.Prelude.{ℕ, List, [], ◌∷◌, Option, Some, None, nat_eq, if◌then◌else◌}
use Rattle.std.specs.List.{starts_with}
use Rattle.usb_world.specs.{PluggedMap}

-- the first place at the path or below it
unfoldable pub first_through : List ℕ → PluggedMap → Option (List ℕ)
first_through path [] = None
first_through path (place ∷ tree) = if starts_with nat_eq place.0 path then Some place.0
    else first_through path tree
