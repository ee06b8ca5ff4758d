use Rattle.std.proofs.Common.{◌≡◌, ◌+◌, ◌∙◌, sym, ap, length, arith, Ok, Err}
use Rattle.toml.specs.Data.{as_table}
use Rattle.toml.specs.View.{view}
use Rattle.usb_plan.specs.declared.fault.PlanFault.TheVariants as fault
use Rattle.usb_plan.specs.{damage_entry, last_from, entry_at}
use Rattle.usb_plan.specs.declared.fault.Place.TheVariants as place
use Rattle.usb_plan.proofs.Parts.{damage_entry_ok, entry_at_ok}
use Rattle.usb_plan.proofs.MemoryRefusals.{unless_handed}
use Rattle.usb_plan.proofs.Growth.{damages_from-next, damages_from-end, damages_fit-push}
use Rattle.usb_plan.proofs.Growth.{last_from-push}
use Rattle.usb_plan.proofs.damage.damages_of.Goals as goal

pub loop-i-init : goal.loop-i-init
unfolding last_from
loop-i-init c = record {
  so_far = rw c.new-done.ensures;
  fit = rw c.new-done.ensures;
  last = rw c.new-done.ensures;
  most = omega arith;
}

pub returns-in_err-damage-clause-value : goal.returns-in_err-damage-clause-value
returns-in_err-damage-clause-value c =
    let v = c.index-values-i.result in
    let spelled = damage_entry (last_from 0 c.loop-i.done) (length c.loop-i.done)
    (as_table (view v)) in
    let e : c.damage_entry-read.result ≡ spelled = c.damage_entry-read.ensures
    ∙ rw (c.loop-i.invariant.last, c.as_slice.ensures.value, c.as_table.ensures) in
    let why = c.in_err-damage.field-0.0 in
    unless_handed fault.Memory c.from_residual.result _ why c.from_residual.ensures.1
    (λ _. sym c.loop-i.invariant.so_far ∙ damages_from-next c.loop-i.done c.args.values.now
    c.loop-i.i v (Err why) c.loop-i-test.true c.index-values-i.is
    (ap (entry_at (place.Damage (c.loop-i.i + 1))) (sym e) ∙ sym c.entry_at.ensures
    ∙ c.in_err-damage.was))

pub loop-i-preserved : goal.loop-i-preserved
loop-i-preserved c =
    let v = c.index-values-i.result in
    let damage = c.in_ok-damage.damage in
    let spelled = damage_entry (last_from 0 c.loop-i.done) (length c.loop-i.done)
    (as_table (view v)) in
    let e : c.damage_entry-read.result ≡ spelled = c.damage_entry-read.ensures
    ∙ rw (c.loop-i.invariant.last, c.as_slice.ensures.value, c.as_table.ensures) in
    let good = ap (entry_at (place.Damage (c.loop-i.i + 1))) (sym e) ∙ sym c.entry_at.ensures
    ∙ c.in_ok-damage.was in
    let comes = damage_entry_ok (last_from 0 c.loop-i.done) (length c.loop-i.done)
    (as_table (view v)) damage (entry_at_ok _ spelled damage good) in
    record {
      so_far = rw c.in_ok-push.ensures.ok (sym (damages_from-next c.loop-i.done c.args.values.now
          c.loop-i.i v (Ok damage) c.loop-i-test.true c.index-values-i.is good)
          ∙ c.loop-i.invariant.so_far);
      fit = rw c.in_ok-push.ensures.ok (damages_fit-push 0 c.loop-i.done damage
          c.loop-i.invariant.fit comes.fits);
      last = rw c.in_ok-push.ensures.ok (sym (last_from-push 0 c.loop-i.done damage));
      most = comes.most;
    }

pub push-requires : goal.push-requires
push-requires c =
    let v = c.index-values-i.result in
    let read = c.damage_entry-read.result in
    let damage = c.in_ok-damage.damage in
    let e : read ≡ damage_entry (last_from 0 c.loop-i.done) (length c.loop-i.done)
    (as_table (view v)) = c.damage_entry-read.ensures
    ∙ rw (c.loop-i.invariant.last, c.as_slice.ensures.value, c.as_table.ensures) in
    let good = sym c.entry_at.ensures ∙ c.in_ok-damage.was in
    record {
      room = (damage_entry_ok (last_from 0 c.loop-i.done) (length c.loop-i.done)
          (as_table (view v)) damage (sym e ∙ entry_at_ok _ read damage good)).room;
    }

pub returns-clause-value : goal.returns-clause-value
returns-clause-value c = sym c.loop-i.invariant.so_far
    ∙ damages_from-end (c.loop-i.i + 1) c.loop-i.done c.args.values.now c.loop-i.i
    c.loop-i-test.false
