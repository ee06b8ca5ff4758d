-- What of a run `explain` prints, by the text that names it.
use Rattle.std.specs.Prelude.{◌≡◌, ◌≤◌, ◌++◌, ℕ, List, codes}
use Rattle.std.specs.Str.Parse.{IsNumeral, digits_value, without_leading_plus}
use Rattle.usb_port.specs.{IsPath, path_text}
use Rattle.usb_words.specs.declared.selection.Selection.{Selection}
use Rattle.usb_words.specs.declared.selection.Selection.TheVariants.{All, Address, Path, Setup}
use Rattle.usb_words.specs.declared.selection.Selection.TheVariants.{Damage}

-- `address:` and a numeral of 0 to 127
pub record NamesAddress (text : List ℕ) (address : ℕ) : Type 0 where
  pub digits : List ℕ
  pub written : text ≡ codes "address:" ++ digits
  pub is_numeral : IsNumeral 10 (without_leading_plus digits)
  pub value : address ≡ digits_value 10 (without_leading_plus digits)
  pub most : address ≤ 127

-- `path:` and the text of a path
pub record NamesPath (text path : List ℕ) : Type 0 where
  pub is_path : IsPath path
  pub written : text ≡ codes "path:" ++ path_text path

abbrev pub NamesSelection : List ℕ → Selection → Type 0
NamesSelection text All = text ≡ codes "all"
NamesSelection text (Address address) = NamesAddress text address
NamesSelection text (Path path) = NamesPath text path
NamesSelection text Setup = text ≡ codes "setup"
NamesSelection text Damage = text ≡ codes "damage"
