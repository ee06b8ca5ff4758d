use Rattle.std.proofs.Common.{[], ap, ◌∙◌}
use Rattle.usb_places.specs.{damages_known}
use Rattle.usb_places.proofs.Fits.{events_fit_known, damages_by}
use Rattle.usb_places.proofs.known.plan_known.Goals as goal

pub new-requires : goal.new-requires
new-requires c =
    let p = c.args.plan.now in
    let ss = c.args.sought.now in
    let is = c.devices.ensures.plan in
    record {
      limit = rw c.limit.ensures.value is.limit;
      some_root = rw c.roots.ensures.value is.some_root;
      few_roots = rw c.roots.ensures.value is.few_roots;
      devices = rw (c.in_ok-devices.ensures, c.devices.ensures.value) is.devices;
      events = rw (
        c.roots.ensures.value,
        c.in_ok-devices.ensures,
        c.devices.ensures.value,
        c.in_ok-events.ensures,
        c.new-none.ensures,
        c.as_slice.ensures.value,
        c.events.ensures.value,
      ) (events_fit_known p.roots p.devices [] ss 0 p.events
          c.as_slice.ensures.good is.events);
      damages = damages_by p.damages ss c.in_ok-damages.damages c.in_ok-fixed.fixed.items
          c.in_ok-known.known.items (c.in_ok-fixed.ensures.items ∙ c.damages.ensures.value)
          (c.in_ok-known.ensures ∙ ap (damages_known c.in_ok-fixed.fixed.items)
          c.as_slice-2.ensures.value)
          (c.in_ok-damages.ensures ∙ (c.as_slice-3.ensures.value ∙ c.truncate.ensures.items))
          c.as_slice.ensures.good is.damages;
    }
