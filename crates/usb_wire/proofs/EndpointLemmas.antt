-- The address of an endpoint, as the code reads it.
use Rattle.std.proofs.Common.{◌≡◌, ℕ, ◌≤◌, List, [], ◌∷◌, length, Option, Some, None, Ok}
use Rattle.std.proofs.Common.{Err, refl, sym, ap, arith}
use Rattle.std.specs.Option.{option_and_then}
use Rattle.usb_wire.specs.{WireFault, address_spelled, bytes_of_word, address_named, hex_value}
use Rattle.usb_wire.proofs.ReadLaws.{read_bytes}
use Rattle.usb_wire.proofs.SaidLaws.{bytes_of_word-data}

-- at most one byte was read
pub address_named-bytes : (word xs : List ℕ) → bytes_of_word 1 word ≡ Ok xs
    → address_spelled word xs ≡ address_named word
address_named-bytes word xs e =
    ap (option_and_then (address_spelled word)) (sym (bytes_of_word-data 1 word xs e).value)

no_bytes : (word : List ℕ) (o : Option (List ℕ)) → hex_value word ≡ o
    → ((xs : List ℕ) → length xs ≤ 1 → hex_value word ≡ Some xs → ⊥)
    → option_and_then (address_spelled word) o ≡ None
no_bytes word None e h = refl
no_bytes word (Some []) e h = refl
no_bytes word (Some (b ∷ [])) e h = absurd (h (b ∷ []) (omega arith) e)
no_bytes word (Some (b ∷ c ∷ more)) e h = refl

-- none was, or more are there
pub address_named-none : (word : List ℕ) (fault : WireFault) → bytes_of_word 1 word ≡ Err fault
    → None ≡ address_named word
address_named-none word fault e =
    sym (no_bytes word (hex_value word) refl (λ xs few is.
    let read = read_bytes 1 word xs is few in cc))
