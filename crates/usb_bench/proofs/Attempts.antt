-- What the judge says of an attempt.
use Rattle.std.proofs.Common.{◌≡◌, ℕ, ◌++◌, subst, sym}
use Rattle.std.specs.Prelude.{Option}
use Rattle.usb_world.specs.{World}
use Rattle.usb_world.specs.declared.types.Attempt.{Attempt}
use Rattle.usb_far.specs.{Played}
use Rattle.usb_judge.specs.{told_before}
use Rattle.usb_judge.specs.declared.remark.Remark.{Remark}
use Rattle.usb_bench.specs.{BeforeJudged, IsSeen, Says, faults_with, next_number, remark_lines}
use Rattle.usb_bench.specs.declared.coming.Coming.{Coming}
use Rattle.usb_bench.specs.declared.judge.Judge.{Judge}
use Rattle.usb_bench.proofs.Saying.{says_then}

-- an attempt that was seen, by its own name
pub seen_in : (a : Attempt) (c : Coming) (w v : World) → IsSeen a w c → w ≡ v
    → IsSeen c.attempt v c
seen_in a c w v seen is = subst (λ u. IsSeen c.attempt u c) is
    (subst (λ b. IsSeen b w c) (sym seen.attempt) seen)

-- both remarks before it, one behind the other
pub before_judged : (j mid_judge new_judge : Judge) (old mid new : Played) (c : Coming)
    (number : ℕ) (skipped : Option Remark) → IsSeen c.attempt old.far.world c
    → number ≡ next_number old.far.world → skipped ≡ told_before j.outs c.attempt
    → Says old (remark_lines number c.attempt c.remark) mid
    → Says mid (remark_lines number c.attempt skipped) new
    → mid_judge ≡ record j { faults = faults_with c.remark j.faults }
    → new_judge ≡ record mid_judge { faults = faults_with skipped mid_judge.faults }
    → BeforeJudged j old c new_judge new
before_judged j mid_judge new_judge old mid new c number skipped seen number_is skipped_is first
    next mid_is new_is = record {
      seen = seen;
      said = subst (λ n. Says old (remark_lines n c.attempt c.remark
          ++ remark_lines n c.attempt (told_before j.outs c.attempt)) new) number_is
          (subst (λ r. Says old (remark_lines number c.attempt c.remark
          ++ remark_lines number c.attempt r) new) skipped_is
          (says_then old mid new (remark_lines number c.attempt c.remark)
          (remark_lines number c.attempt skipped) first next));
      judge = cc;
    }
