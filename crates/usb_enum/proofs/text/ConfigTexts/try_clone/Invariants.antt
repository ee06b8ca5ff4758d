use Rattle.std.proofs.Common.{◌≡◌, take}
use Rattle.usb_enum.proofs.text.ConfigTexts.try_clone.Given as goal

abbrev pub invariant-loop-text : goal.invariant-loop-text
invariant-loop-text l = l.texts.items ≡ take l.text-index l.text-items
