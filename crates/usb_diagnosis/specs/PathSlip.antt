-- Why a text is a bad path.
use Rattle.std.specs.Prelude.{◌≡◌, ℕ, List, Bool, Option, Some, None, if◌then◌else◌}
use Rattle.usb_plan.specs.{has_numbers_of}
use Rattle.usb_port.specs.{parent_of, path_of}
use Rattle.usb_diagnosis.specs.declared.path_slip.PathSlip.{PathSlip}
use Rattle.usb_diagnosis.specs.declared.path_slip.PathSlip.TheVariants.{NoHub, NoPath, NoPort}
use Rattle.usb_diagnosis.specs.declared.path_slip.PathSlip.TheVariants.{NoRoot, Nothing, TooDeep}

-- a path, where a plan that has wide hubs or not has such ports
abbrev pub path_within : Bool → Option (List ℕ) → Option (List ℕ)
path_within wide None = None
path_within wide (Some path) = if has_numbers_of wide path then Some path else None

-- the path of such ports that a text spells
abbrev pub path_in : Bool → List ℕ → Option (List ℕ)
path_in wide text = path_within wide (path_of text)

-- the text spells a path whose last port is one of what is plugged here
pub record IsPortOf (wide : Bool) (text parent : List ℕ) : Type 0 where
  pub path : List ℕ
  pub spelled : path_in wide text ≡ Some path
  pub port : parent_of path ≡ Some parent

-- the text spells a path
pub record SpellsPath (wide : Bool) (text : List ℕ) : Type 0 where
  pub path : List ℕ
  pub spelled : path_in wide text ≡ Some path

-- a place that is named is this
abbrev pub IsAt : List ℕ → PathSlip → Type 0
IsAt parent (NoPath wide) = ⊥
IsAt parent TooDeep = ⊥
IsAt parent (NoRoot roots) = ⊥
IsAt parent (Nothing at) = at ≡ parent
IsAt parent (NoHub at name) = at ≡ parent
IsAt parent (NoPort at name count) = at ≡ parent

-- no path is called one, and each place that is named is that of the path's hub
abbrev pub IsPathSlip : Bool → List ℕ → PathSlip → Type 0
IsPathSlip wide text (NoPath told) = (told ≡ wide) × (path_in wide text ≡ None)
IsPathSlip wide text TooDeep = path_in wide text ≡ None
IsPathSlip wide text (NoRoot roots) = SpellsPath wide text
IsPathSlip wide text (Nothing parent) = IsPortOf wide text parent
IsPathSlip wide text (NoHub parent name) = IsPortOf wide text parent
IsPathSlip wide text (NoPort parent name count) = IsPortOf wide text parent
