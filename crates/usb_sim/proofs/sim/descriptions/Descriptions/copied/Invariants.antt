use Rattle.std.proofs.Common.{◌≡◌, take, map}
use Rattle.usb_sim.proofs.sim.descriptions.Descriptions.copied.Given as goal

abbrev pub invariant-specs : goal.invariant-specs
invariant-specs l = map (λ spec. spec.value) l.all.items ≡ take l.spec-index l.specs
