use Rattle.std.proofs.Common.{Err, refl}
use Rattle.usb_transfer.specs.{heard_as, polled_as}
use Rattle.usb_transfer.proofs.Calls.{had_one, who_in, who_out, who_set_up}
use Rattle.usb_transfer.proofs.transaction_laws.who_had_the_address.Goals as goal

pub returns : goal.returns
returns c = record {
  set_up = λ t bytes fault old new eight addressed settled y x single. had_one
      (who_set_up t bytes (Err fault) old new eight addressed settled y x single);
  into = λ t ep awaited fault old new settled y x single. had_one
      (who_in t ep (heard_as awaited) refl (Err fault) old new settled y x single);
  out = λ t ep toggle bytes fault old new settled y x single. had_one
      (who_out t ep toggle bytes (Err fault) old new settled y x single);
  polled = λ t ep toggle fault old new settled y x single. had_one
      (who_in t ep (polled_as toggle) refl (Err fault) old new settled y x single);
}
