-- Where damage is fair up to the end of a call, it is so up to each part of the call, and from
-- there on.
use Rattle.std.proofs.Common.{List, Option, ℕ}
use Rattle.usb_world.specs.{World}
use Rattle.usb_bus.specs.{StepRun}
use Rattle.usb_enum.proofs.Interface.{few_before, went_course, went_three}
use Rattle.usb_host.proofs.StepSums.{went_before}
use Rattle.usb_host.specs.{IsFairTo}

module _ {n : ℕ} {old mid new : World} {t s : Option (List ℕ)} where
  -- up to a part
  pub fair_before : StepRun n mid t new s → IsFairTo old new → IsFairTo old mid
  fair_before went f = record {
    still = went_before went f.still;
    few = f.few;
    kept = few_before (went_course n _ _ went f.still) f.kept;
  }

  -- from there on
  pub fair_after : StepRun n old t mid s → IsFairTo old new → IsFairTo mid new
  fair_after went f = search went_three
