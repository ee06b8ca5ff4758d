use Rattle.std.proofs.Common.{◌≡◌, ◌++◌, take}
use Rattle.std.specs.Prelude.{flat_map}
use Rattle.usb_judge.specs.{told_lack}
use Rattle.usb_judge.proofs.verdict.judge_rest.Given as goal

-- what the first devices have is told
abbrev pub invariant-devices : goal.invariant-devices
invariant-devices l = l.judgements.items ≡ l.fn.judgements.items
    ++ flat_map (told_lack l.listing) (take l.device-index l.plugged)
