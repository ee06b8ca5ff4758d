-- The alternate setting of each interface, by its number (9.2.3).
use Rattle.std.specs.Prelude.{ℕ, List, get_or, replicate, slice_set}

-- each interface has setting 0, as in a device that was just configured (9.1.1.5)
unfoldable pub default_settings : List ℕ
default_settings = replicate 256 0

abbrev pub setting_of : List ℕ → ℕ → ℕ
setting_of settings interface = get_or settings interface 0

-- one interface has another setting
abbrev pub with_setting : ℕ → ℕ → List ℕ → List ℕ
with_setting interface setting settings = slice_set settings interface setting
