use Rattle.std.proofs.Common.{◌≡◌, ◌*◌, None, length, false, true}
use Rattle.usb_enum.specs.{configuration_bound, Gone, OnlyAsks, DeviceFact, AtMaximum}
use Rattle.usb_enum.specs.{HasConfigurations, ValuesDiffer, TextsAsked, is_over, left_of}
use Rattle.usb_enum.specs.{texts_length}
use Rattle.usb_enum.proofs.readings.TextLengths.{TextsRead}
use Rattle.usb_enum.proofs.configurations.read_configurations.Given as goal

abbrev pub invariant-loop-index : goal.invariant-loop-index
invariant-loop-index g l = record {
  gone : Gone g.B.Bus.modelled g.B.Bus.world g.B.Bus.trace g.B.Bus.spent g.B.Bus.ports
      g.B.Bus.failed OnlyAsks (l.index * configuration_bound) l.initial.bus None l.bus;
  read : length l.texts ≡ l.index;
  differ : ValuesDiffer l.texts;
  left : l.room ≡ left_of l.fn.budget (texts_length l.texts);
  within : is_over l.fn.budget (texts_length l.texts) ≡ false;
  asked : g.B.Bus.modelled ≡ true
      → TextsAsked l.target (g.B.Bus.world l.initial.bus) l.texts (g.B.Bus.world l.bus);
  counted : g.B.Bus.modelled ≡ true
      → TextsRead l.target l.index (g.B.Bus.world l.initial.bus) (g.B.Bus.world l.bus);
  learned : g.B.Bus.modelled ≡ true
      → DeviceFact (AtMaximum l.target (HasConfigurations l.fn.budget l.index l.texts)) l.target
      (g.B.Bus.world l.initial.bus) (g.B.Bus.world l.bus);
}
