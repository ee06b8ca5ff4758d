use Rattle.std.proofs.Common.{◌≡◌, ◌++◌, take}
use Rattle.std.specs.Prelude.{flat_map}
use Rattle.usb_judge.specs.{scene_in, told_at}
use Rattle.usb_judge.proofs.verdict.judge_ports.Given as goal

-- what the first ports have is told
abbrev pub invariant-ports : goal.invariant-ports
invariant-ports l = l.judgements.items ≡ l.fn.judgements.items
    ++ flat_map (told_at (scene_in l.plugged) l.listing) (take l.port-index l.listing)
