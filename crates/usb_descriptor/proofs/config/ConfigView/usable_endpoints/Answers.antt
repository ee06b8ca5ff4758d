use Rattle.std.proofs.Common.{◌∙◌, refl, sym, ap}
use Rattle.usb_descriptor.specs.{end_at, usable_at, usable_in, usable_under}
use Rattle.usb_descriptor.proofs.Texts.{config_of-is}
use Rattle.usb_descriptor.proofs.UsableItems.{taken_all, taken_then}
use Rattle.usb_descriptor.proofs.config.ConfigView.usable_endpoints.Goals as goal

pub loop-item-init : goal.loop-item-init
unfolding usable_at
loop-item-init c = record {
  next = tt;
  ends = tt;
  so_far = λ to_host e. rw (
    c.none-table.ensures to_host e,
    c.into_iter-item-iterator.ensures.into_iter_gives,
    c.items-item-items.ensures.items,
  ) refl;
}

pub loop-item-preserved-in-Some-inside : goal.loop-item-preserved-in-Some-inside
loop-item-preserved-in-Some-inside c = record {
  next = tt;
  ends = tt;
  so_far = λ to_host e.
      let before = rw (c.in-Some-inside.is, c.in-Some.ensures.steps, c.in-Endpoint.is)
      at (c.loop-item.invariant.so_far to_host e) in
      taken_then c.args.settings.now c.args.low to_host e c.in-Some-inside.interface
      c.in-Endpoint.endpoint c.next.new.self (end_at c.loop-item.table to_host e)
      (end_at c.take.new.self to_host e) (c.take.ensures to_host e) ∙ before;
}

pub returns-clause-text : goal.returns-clause-text
unfolding usable_under
returns-clause-text c = λ to_host e.
    sym (taken_all c.args.settings.now c.args.low to_host e c.loop-item.inside
    (end_at c.loop-item.table to_host e))
    ∙ (rw c.in-None.ensures.steps.0 at (c.loop-item.invariant.so_far to_host e))
    ∙ sym (ap (usable_in c.args.settings.now c.args.low to_host e)
    (config_of-is c.args.self.now _ c.items-item-items.ensures.whole))
