-- How the bytes of a line follow each other.
use Rattle.std.proofs.Common.{◌≢◌, ℕ, List, [], ◌∷◌, ◌++◌}
use Rattle.std.proofs.lemmas.List.Elements.{All-push}
use Rattle.usb_watch.specs.{IsUnbroken}

-- a byte more that is no newline
pub unbroken_more : (line : List ℕ) (byte : ℕ) → IsUnbroken line → byte ≢ 10
    → IsUnbroken (line ++ byte ∷ [])
unbroken_more line byte h other = All-push (λ c. c ≢ 10) line byte h other
