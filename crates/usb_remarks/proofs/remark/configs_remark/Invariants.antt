use Rattle.std.proofs.Common.{◌≡◌, None}
use Rattle.usb_remarks.specs.{configs_remark}
use Rattle.usb_remarks.proofs.remark.configs_remark.Given as goal

-- no configuration so far is bad
abbrev pub invariant-configs : goal.invariant-configs
invariant-configs l = configs_remark l.configs l.index ≡ None
