use Rattle.std.proofs.Common.{◌∙◌, refl}
use Rattle.usb_device.specs.{plugged_in_end}
use Rattle.usb_device.proofs.JoinedRows.{numbered-all}
use Rattle.usb_function.proofs.ends.InEnds.new.Goals as goal

pub returns-then-not-is_empty : goal.returns-then-not-is_empty
returns-then-not-is_empty c =
    c.plug_ins.ensures ∙ numbered-all (plugged_in_end c.args.spec.now) _ refl
