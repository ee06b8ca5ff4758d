use Rattle.std.proofs.Common.{◌≡◌, ◌++◌, take}
use Rattle.usb_dialogue.specs.{config_records}
use Rattle.usb_dialogue.proofs.told.push_configs.Given as goal

-- the configurations so far
abbrev pub invariant-texts : goal.invariant-texts
invariant-texts l = l.told.items ≡ l.fn.told.items ++ config_records (take l.text-index l.texts)
