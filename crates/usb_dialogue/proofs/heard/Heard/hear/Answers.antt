use Rattle.std.proofs.Common.{ℕ, ◌≤◌, ◌∙◌, sym, subst}
use Rattle.std.proofs.Math.Logic.{∥∥₁_map}
use Rattle.usb_dialogue.specs.{IsQuestion}
use Rattle.usb_dialogue.specs.declared.progress.Progress.{Progress}
use Rattle.usb_dialogue.proofs.HearingLaws.{counted_on, heard_on}
use Rattle.usb_dialogue.proofs.heard.Heard.hear.Goals as goal

pub invariant_of-self : goal.invariant_of-self
invariant_of-self g c =
    let old = c.args.self.now in
    record {
      some_root = old.some_root;
      few_roots = old.few_roots;
      few_attempts = subst (λ (p : Progress). p.attempts ≤ p.used) (sym c.hear.ensures.asks)
          (counted_on c.as_slice.result.now old.so_far c.args.question old.few_attempts);
      ports = old.ports;
      heard = old.heard;
      course = ∥∥₁_map old.course
          (λ h. heard_on g.B.Begun.roots g.B.Begun.statuses g.B.Begun.answers c.as_slice.result.now
          old.so_far c.hear.new.self c.args.question (c.as_slice.ensures.value ∙ old.heard)
          c.hear.ensures.asks
          (subst (λ (n : ℕ). IsQuestion n c.args.question) old.ports c.requires) h);
    }
