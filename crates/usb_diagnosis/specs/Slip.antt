-- Where a text fails to be hexadecimal digits, two for each byte.
use Rattle.std.specs.Prelude.{ℕ, ◌+◌, ◌%◌, ◌==◌, not, codes, decimal, List, ◌++◌, length, get_or}
use Rattle.std.specs.Prelude.{position, Option, Some, None, if◌then◌else◌}
use Rattle.std.specs.Char.{is_ascii_hexdigit}
use Rattle.usb_diagnosis.specs.declared.slip.DigitSlip.{DigitSlip}
use Rattle.usb_diagnosis.specs.declared.slip.DigitSlip.TheVariants.{Character, Odd}
use Rattle.usb_diagnosis.specs.Shown.{char_shown}

-- of letters of which the first that is no digit is at this index
abbrev pub slip_at : List ℕ → Option ℕ → Option DigitSlip
slip_at letters (Some i) = Some (Character (i + 1) (get_or letters i 0))
slip_at letters None = if length letters % 2 == 1 then Some (Odd (length letters)) else None

-- the first slip of a text with these letters
unfoldable pub digit_slip : List ℕ → Option DigitSlip
digit_slip letters = slip_at letters (position (λ c. not (is_ascii_hexdigit c)) letters)

-- words with a number
unfoldable pub counted_words : List ℕ → ℕ → List ℕ
counted_words words count = words ++ decimal count

-- a character between words
unfoldable pub letter_words : List ℕ → ℕ → List ℕ → List ℕ
letter_words before letter after = before ++ char_shown letter ++ after

-- a slip in words; a place is counted from 1
unfoldable pub slip_words : DigitSlip → List ℕ
slip_words (Character place letter) = counted_words (codes "character ") place
    ++ letter_words (codes " is `") letter (codes "`, no hexadecimal digit")
slip_words (Odd count) = counted_words (codes "an odd number of digits: ") count
