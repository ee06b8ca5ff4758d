use Rattle.std.proofs.Common.{◌≡◌, ◌+◌, ◌≤◌, take}
use Rattle.std.specs.List.{fold}
use Rattle.usb_diagnosis.specs.{behind}
use Rattle.usb_diagnosis.proofs.place.behind_all.Given as goal

-- the line and the column behind the bytes so far, of which there are no fewer
abbrev pub invariant-bytes : goal.invariant-bytes
invariant-bytes l = record {
  so_far : l.at ≡ fold behind (1, 1) (take l.byte-index l.before);
  line : l.at.0 ≤ l.byte-index + 1;
  column : l.at.1 ≤ l.byte-index + 1;
}
