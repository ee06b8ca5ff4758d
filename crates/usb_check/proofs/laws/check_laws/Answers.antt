use Rattle.std.proofs.Common.{[], ◌∷◌, true, false}
use Rattle.usb_check.proofs.Division.{check_is_one}
use Rattle.usb_check.proofs.CheckLaws.{codewords_apart}
use Rattle.usb_check.proofs.laws.check_laws.Goals as goal

pub returns : goal.returns
returns c = record {
  one_field = check_is_one;
  five_bits = codewords_apart (false ∷ false ∷ true ∷ false ∷ []);
  sixteen_bits = codewords_apart (true ∷ false ∷ false ∷ false ∷ false ∷ false ∷ false ∷ false ∷
      false ∷ false ∷ false ∷ false ∷ false ∷ true ∷ false ∷ []);
}
