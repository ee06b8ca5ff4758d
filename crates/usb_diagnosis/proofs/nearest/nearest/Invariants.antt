use Rattle.std.proofs.Common.{map, get_or}
use Rattle.usb_diagnosis.specs.{edits_between}
use Rattle.usb_diagnosis.proofs.BestSoFar.{BestSoFar}
use Rattle.usb_diagnosis.proofs.nearest.nearest.Given as goal

-- the nearest of the names so far, and the fewest edits
abbrev pub invariant-names : goal.invariant-names
invariant-names l = BestSoFar (λ j. get_or (map (λ n. edits_between l.word n.now) l.names) j 0) l.i
    l.found l.fewest
