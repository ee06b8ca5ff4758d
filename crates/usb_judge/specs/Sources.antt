-- The places in a device's source at which the next data may begin.
use Rattle.std.specs.Prelude.{◌≡◌, ℕ, ◌+◌, ◌-◌, ◌≤◌, nat_eq, nat_le, List, ◌++◌, length, drop}
use Rattle.std.specs.Prelude.{Bool, ◌&&◌, Option, None, Some}
use Rattle.std.specs.List.{starts_with}
use Rattle.usb_judge.specs.declared.window.Window.{Window}

-- the source goes on from a place with these bytes
pub record GoesOn (source bytes : List ℕ) (place : ℕ) : Type 0 where
  pub before : List ℕ
  pub after : List ℕ
  pub text : source ≡ before ++ bytes ++ after
  pub at : length before ≡ place

-- whether it does
abbrev pub goes_on : List ℕ → List ℕ → ℕ → Bool
goes_on source bytes place =
    nat_le place (length source) && starts_with nat_eq (drop place source) bytes

-- so it does from a place of the window
pub record IsPlace (source bytes : List ℕ) (w : Window) (place : ℕ) : Type 0 where
  pub least : w.least ≤ place
  pub most : place ≤ w.most
  pub goes_on : GoesOn source bytes place

abbrev pub HasNoPlace : List ℕ → List ℕ → Window → Type 0
HasNoPlace source bytes w = (place : ℕ) → IsPlace source bytes w place → ⊥

-- from the first such place to the last
pub record Narrows (source bytes : List ℕ) (w narrow : Window) : Type 0 where
  pub first : IsPlace source bytes w narrow.least
  pub last : IsPlace source bytes w narrow.most
  pub each : (place : ℕ) → IsPlace source bytes w place
      → (narrow.least ≤ place) × (place ≤ narrow.most)

-- the window with a place more at its end
abbrev pub with_place : Option Window → ℕ → Window
with_place None place = record { least = place; most = place }
with_place (Some w) place = record w { most = place }

-- that number of bytes on
abbrev pub moved : ℕ → Window → Window
moved bytes w = record { least = w.least + bytes; most = w.most + bytes }

-- after the bytes, wherever in the window they are
pub record IsAfter (source bytes : List ℕ) (w new : Window) : Type 0 where
  pub narrow : Window
  pub narrows : Narrows source bytes w narrow
  pub at : new ≡ moved (length bytes) narrow

-- at the plug: the source's beginning
abbrev pub at_plug : Window
at_plug = record { least = 0; most = 0 }

-- some data may have been lost: anywhere from there to the source's end
abbrev pub after_loss : List ℕ → Window → Window
after_loss source w = record w { most = length source }

-- the last packet, of at most 64 bytes, may come again
abbrev pub after_clear : Window → Window
after_clear w = record w { least = w.least - 64 }
