use Rattle.std.proofs.Common.{subst}
use Rattle.usb_judge.specs.{Scene, Judges}
use Rattle.usb_judge.proofs.laws.judged_world.Goals as goal

-- scenes that are the same path by path are one
pub returns : goal.returns
returns c plugged w same listing judgements h =
    subst (λ (scene : Scene). Judges scene listing judgements) (λ i path. same path i) h
