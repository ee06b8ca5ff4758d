use Rattle.std.proofs.Common.{◌≡◌, ◌++◌, flat_map, take, string_bytes}
use Rattle.usb_remarks.specs.{remark_of}
use Rattle.usb_diagnosis.specs.{line_if}
use Rattle.usb_diagnosis.proofs.report.push_remarks.Given as goal

-- the lines so far are written
abbrev pub invariant-devices : goal.invariant-devices
invariant-devices l = string_bytes l.out ≡ string_bytes l.fn.out
    ++ flat_map (λ spec. line_if l.wide spec (remark_of l.wide spec))
    (take l.device-index l.devices)
