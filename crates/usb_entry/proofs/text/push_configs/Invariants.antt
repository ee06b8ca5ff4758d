use Rattle.std.proofs.Common.{◌≡◌, ◌++◌, flat_map, take}
use Rattle.usb_entry.specs.{configuration_lines}
use Rattle.usb_entry.proofs.text.push_configs.Given as goal

-- the lines of the configurations so far are written
abbrev pub invariant-configs : goal.invariant-configs
invariant-configs l = l.out.items ≡ l.fn.out.items ++ flat_map configuration_lines
    (take l.config-index l.configs)
