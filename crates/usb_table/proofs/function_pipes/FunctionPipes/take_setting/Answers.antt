use Rattle.std.proofs.Common.{◌≡◌, ◌∙◌, ap, refl, true, false, List, ℕ}
use Rattle.usb_descriptor.specs.{default_settings, with_setting}
use Rattle.usb_enum.specs.{configuration_of}
use Rattle.usb_table.specs.{cleared_row}
use Rattle.usb_table.proofs.levels.SetLevels.{row_is}
use Rattle.usb_table.proofs.function_pipes.FunctionPipes.take_setting.Goals as goal

pub returns-clause-value : goal.returns-clause-value
returns-clause-value c =
    let text_is : c.known-text.result ≡ configuration_of c.args.device.now =
    c.known-text.ensures ∙ c.as_slice.ensures.value ∙ c.configuration.ensures in
    let settings_are : c.set.new.self
    ≡ with_setting c.args.interface c.args.setting default_settings =
    c.set.ensures ∙ ap (with_setting c.args.interface c.args.setting) c.all_zero-settings.ensures in
    let rows = row_is c.args.device.now c.args.below_hub c.args.interface c.args.setting
    c.set.new.self c.known-text.result c.usable_endpoints-ends.result c.target_to-target.result
    text_is settings_are c.usable_endpoints-ends.ensures.text c.target_to-target.ensures.value in
    rw (
      rows false c.new-outs.result c.new-outs.ensures c.args.self.now.outs c.replace.new.self
          c.replace.ensures.value,
      rows true c.new-ins.result c.new-ins.ensures c.args.self.now.ins c.replace-2.new.self
          c.replace-2.ensures.value,
      c.clear.ensures.value
          ∙ ap (λ (t : List ℕ). cleared_row t c.args.interface false c.args.self.now.lost_outs)
          text_is,
      c.clear-2.ensures.value
          ∙ ap (λ (t : List ℕ). cleared_row t c.args.interface true c.args.self.now.lost_ins)
          text_is,
    ) refl
