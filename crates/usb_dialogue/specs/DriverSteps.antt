-- How far a call came, as a driver sees it.
use Rattle.std.specs.Prelude.{◌≡◌, ℕ, ◌≤◌, List, Option, Some, None, Result, Ok}
use Rattle.std.specs.Global.{Box, Vec}
use Rattle.usb_host.specs.{HostState}
use Rattle.usb_dialogue.specs.Drivers.{Call, CallState, EndsWith, NeedsAnswer}
use Rattle.usb_dialogue.specs.declared.answer.Answer.{Answer}
use Rattle.usb_dialogue.specs.declared.driver.Step.{Step}
use Rattle.usb_dialogue.specs.declared.driver.Step.TheVariants as step
use Rattle.usb_dialogue.specs.declared.progress.Progress.{Progress}

abbrev pub CallIs : CallState → Step → Type 0
CallIs c (step.Asks q) = NeedsAnswer c q
CallIs c (step.Done host told) = EndsWith c host.value told.items

abbrev pub the_call : Call → ℕ → List (List ℕ) → List Answer → CallState
the_call call roots statuses heard = record {
  call = call;
  roots = roots;
  statuses = statuses;
  heard = heard;
}

-- of a private function: a question waits; or all was used, and these are the records
abbrev pub StepOf : {E : Type 0} → Result (Option (Box HostState × Vec ℕ)) E → Progress → ℕ → Step
    → Type 0
StepOf told p heard (step.Asks q) = p.asked ≡ Some q
StepOf told p heard (step.Done host bytes) =
    (p.asked ≡ None) × (heard ≤ p.used) × (told ≡ Ok (Some (host, bytes)))
