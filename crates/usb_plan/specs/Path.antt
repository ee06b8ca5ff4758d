-- The key `path` of an event.
use Rattle.std.specs.Prelude.{ℕ, List, Bool, not, ◌&&◌, nat_le, Option, ok_or, Result, Ok, Err}
use Rattle.std.specs.Prelude.{if◌then◌else◌}
use Rattle.std.specs.List.{list_all}
use Rattle.toml.specs.Data.{Data}
use Rattle.usb_descriptor.specs.{most_ports}
use Rattle.usb_port.specs.{path_of}
use Rattle.usb_plan.specs.declared.entry_fault.EntryFault.{EntryFault}
use Rattle.usb_plan.specs.declared.entry_fault.EntryFault.TheVariants.{BadPath, PortTaken}
use Rattle.usb_plan.specs.declared.entry_fault.EntryFault.TheVariants.{PortEmpty}
use Rattle.usb_plan.specs.EntryFault.{◌>>=◌}
use Rattle.usb_plan.specs.Value.{read_text}
use Rattle.usb_plan.specs.Scene.{SceneData, is_port}
use Rattle.usb_world.specs.{is_rooted, is_taken}

-- each number is one that a port of a hub may have
unfoldable pub has_numbers_of : Bool → List ℕ → Bool
has_numbers_of wide path = list_all (λ n. nat_le n (most_ports wide)) path

-- a path whose first number is a root port's, with a number above 7 only with wide hubs
unfoldable pub read_path : SceneData → Option Data → Result (List ℕ) EntryFault
read_path scene d = do
  text ← read_text d
  path ← ok_or (path_of text) BadPath
  if is_rooted scene.roots path && has_numbers_of scene.wide path then Ok path else Err BadPath

-- a path where there is a port, and nothing is plugged
unfoldable pub free_path : SceneData → Result (List ℕ) EntryFault → Result (List ℕ) EntryFault
free_path scene path =
    path >>= λ p. if not (is_port scene p) then Err BadPath
    else if is_taken scene.plugged p then Err PortTaken else Ok p

-- a path where something is plugged
unfoldable pub taken_path : SceneData → Result (List ℕ) EntryFault → Result (List ℕ) EntryFault
taken_path scene path = path >>= λ p. if is_taken scene.plugged p then Ok p else Err PortEmpty
