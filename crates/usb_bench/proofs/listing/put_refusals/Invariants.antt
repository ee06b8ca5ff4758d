use Rattle.std.proofs.Common.{take}
use Rattle.std.specs.Prelude.{flat_map}
use Rattle.usb_far.specs.{played_of}
use Rattle.usb_bench.specs.{Says, refusal}
use Rattle.usb_bench.proofs.listing.put_refusals.Given as goal

-- those of the first ports are written
abbrev pub invariant-ports : goal.invariant-ports
invariant-ports g l = Says (played_of l.fn.far)
    (flat_map (refusal (played_of l.fn.far).far.world.attempts) (take l.port-index l.ports))
    (played_of l.far)
