use Rattle.std.proofs.Common.{rules, refl}
use Rattle.usb_bench.proofs.attempt.look_at.Goals as goal

pub returns : goal.returns
returns g c = record {
  plugged = c.in_ok-devices.devices.items;
  are = c.in_ok-devices.ensures.are;
  once = c.in_ok-devices.ensures.once;
  attempt = refl;
  holder = search rules;
  taken = search rules;
  remark = search rules;
}
