use Rattle.std.proofs.Common.{refl, sym, ◌∙◌}
use Rattle.usb_remarks.specs.{configs_remark}
use Rattle.usb_remarks.proofs.Configs.{configs_found, configs_passed}
use Rattle.usb_remarks.proofs.remark.configs_remark.Goals as goal

pub configs-init : goal.configs-init
unfolding configs_remark
configs-init c = refl

pub returns-in-Some : goal.returns-in-Some
returns-in-Some c =
    sym (configs_found c.args.configs.now c.configs.index c.args.count c.in-Some.remark
    c.configs-test.true c.configs.invariant (sym c.config_remark.ensures ∙ c.in-Some.is))

pub configs-preserved : goal.configs-preserved
configs-preserved c = configs_passed c.args.configs.now c.configs.index c.configs.invariant
    (sym c.config_remark.ensures ∙ c.in_default.is)
