use Rattle.std.proofs.Common.{◌≡◌, ◌≤◌, ◌*◌, take}
use Rattle.std.specs.List.{sum_by}
use Rattle.usb_device.specs.{said_length}
use Rattle.usb_plan.proofs.attempts.said_lengths.Given as goal

abbrev pub invariant-texts : goal.invariant-texts
invariant-texts l = record {
  so_far : l.sum ≡ sum_by said_length (take l.text-index l.texts);
  few : l.sum ≤ l.text-index * 65535;
}
