use Rattle.std.proofs.Common.{◌≤◌, sym, arith, subst}
use Rattle.usb_dialogue.specs.declared.progress.Progress.{Progress}
use Rattle.usb_dialogue.proofs.HearingLaws.{begun_on}
use Rattle.usb_dialogue.proofs.heard.Heard.begin.Goals as goal

pub invariant_of-result : goal.invariant_of-result
invariant_of-result g c = record {
  some_root = c.requires.least;
  few_roots = c.requires.most;
  few_attempts = subst (λ (p : Progress). p.attempts ≤ p.used) (sym c.begin.ensures) (omega arith);
  ports = c.requires.roots;
  heard = c.requires.answers;
  course = ∣ begun_on g.B.Begun.roots g.B.Begun.statuses g.B.Begun.answers c.args.statuses
      c.begin.result c.begin.ensures c.requires.statuses ∣₁;
}
