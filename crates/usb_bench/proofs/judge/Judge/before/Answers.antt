use Rattle.std.proofs.Common.{rules, Some, ap, sym, ◌∙◌}
use Rattle.usb_sim.specs.{world_of}
use Rattle.usb_far.specs.{played_of}
use Rattle.usb_bench.proofs.Attempts.{before_judged, seen_in}
use Rattle.usb_bench.proofs.judge.Judge.before.Goals as goal

pub returns-in_ok-put-in-Some-2-2-clause-foreseen :
    goal.returns-in_ok-put-in-Some-2-2-clause-foreseen
returns-in_ok-put-in-Some-2-2-clause-foreseen g c = (
  sym c.attempt_of.ensures.asked ∙ c.in-Some.is
      ∙ ap Some (sym c.in_ok-coming-in-Some-2.ensures.attempt),
  search rules,
  before_judged c.args.self.now c.put.new.self c.put-in-Some-2.new.self
      (played_of c.args.far.now) (played_of c.put.new.far) (played_of c.put-in-Some-2.new.far)
      c.in_ok-coming-in-Some-2.coming c.saturating_add-number.result c.before-skipped.result
      (seen_in c.in-Some.field-0 c.in_ok-coming-in-Some-2.coming
      (world_of c.bus-in-Some-2.result.now) (world_of c.args.far.now.bus)
      c.in_ok-coming-in-Some-2.ensures c.bus-in-Some-2.ensures.world)
      (search rules) (search rules)
      c.in_ok-put-in-Some-2.ensures.said c.in_ok-put-in-Some-2-2.ensures.said
      c.in_ok-put-in-Some-2.ensures.counted c.in_ok-put-in-Some-2-2.ensures.counted,
)
