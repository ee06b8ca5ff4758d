use Rattle.std.proofs.Common.{[], ◌∷◌, take}
use Rattle.std.specs.Prelude.{flat_map}
use Rattle.usb_far.specs.{played_of}
use Rattle.usb_bench.specs.{Says, judgement_said}
use Rattle.usb_bench.proofs.listing.put_judgements.Given as goal

-- those of the first judgements are written
abbrev pub invariant-judgements : goal.invariant-judgements
invariant-judgements g l = Says (played_of l.fn.far)
    (flat_map (λ j. judgement_said (played_of l.fn.far).far.world.attempts j ∷ [])
    (take l.judgement-index l.judgements)) (played_of l.far)
