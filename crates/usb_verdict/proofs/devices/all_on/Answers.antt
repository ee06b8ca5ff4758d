use Rattle.std.proofs.Common.{◌≡◌, ap, subst, ◌∙◌, ℕ, List, [], Option, arith}
use Rattle.std.proofs.Common.{slice_get, option_map}
use Rattle.usb_verdict.specs.{AddsPorts}
use Rattle.usb_judge.specs.declared.plugged.PluggedDevice.{PluggedDevice}
use Rattle.usb_verdict.proofs.Found.{all_plugged, all_walked}
use Rattle.usb_verdict.proofs.Once.{once_begun, once_on}
use Rattle.usb_verdict.proofs.devices.all_on.Goals as goal

pub devices-init : goal.devices-init
devices-init c = once_begun c.args.roots.now c.add_ports.new.found.items
    (subst (λ (xs : List PluggedDevice). AddsPorts c.args.roots.now [] 16 xs
    c.add_ports.new.found.items) c.new-found.ensures.items c.in_ok-add_ports.ensures)

-- the path that was read is the one at its place
found_at : (xs ys : List PluggedDevice) (i : ℕ) (o : Option (List ℕ))
    → o ≡ option_map (λ d. d.path) (slice_get xs i) → xs ≡ ys
    → o ≡ option_map (λ d. d.path) (slice_get ys i)
found_at xs ys i o read same = read ∙ ap (λ (zs : List PluggedDevice).
    option_map (λ (d : PluggedDevice). d.path) (slice_get zs i)) same

pub returns-in-None : goal.returns-in-None
returns-in-None c = record {
  are = all_plugged c.args.roots.now c.devices.found.items c.devices.i
      c.devices.invariant.walked (all_walked c.devices.found.items c.devices.i
      (found_at _ c.devices.found.items c.devices.i _ c.in-None.ensures c.as_slice.ensures.value));
  once = c.devices.invariant.once;
}

pub devices-preserved : goal.devices-preserved
devices-preserved c = once_on c.args.roots.now c.devices.i c.in-Some.above c.devices.found.items
    c.add_ports-in-Some.new.found.items c.devices.invariant
    (found_at _ c.devices.found.items c.devices.i _ c.in-Some.ensures c.as_slice.ensures.value)
    c.in_ok-add_ports-in-Some.ensures

pub returns : goal.returns
returns c = record {
  are = all_plugged c.args.roots.now c.devices.found.items c.devices.i
      c.devices.invariant.walked (omega (arith, c.devices-test.false, c.devices.found.small));
  once = c.devices.invariant.once;
}
