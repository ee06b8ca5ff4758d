-- How the eight bytes of setup data carry its fields (9.3).
use Rattle.std.specs.Prelude.{ℕ, ◌+◌, ◌*◌, ◌/◌, ◌%◌, ◌<◌, ◌≤◌, List, [], ◌∷◌, slice_index}
use Rattle.usb_request.specs.Codes.{DIRECTION_IN}
use Rattle.usb_request.specs.declared.setup.Setup.{Setup}

-- a field of two bytes goes low byte first
unfoldable pub bytes_of : Setup → List ℕ
bytes_of s =
    s.request_type
    ∷ s.request
    ∷ (s.value % 256) ∷ (s.value / 256)
    ∷ (s.index % 256) ∷ (s.index / 256)
    ∷ (s.length % 256) ∷ (s.length / 256)
    ∷ []

-- the two bytes at a place as one number, the low byte first (8.1)
abbrev pub word_at : List ℕ → ℕ → ℕ
word_at bytes place = slice_index bytes place + 256 * slice_index bytes (place + 1)

unfoldable pub setup_of : List ℕ → Setup
setup_of bytes = record {
  request_type = slice_index bytes 0;
  request = slice_index bytes 1;
  value = word_at bytes 2;
  index = word_at bytes 4;
  length = word_at bytes 6;
}

-- the data stage goes to the host: bit 7 of the request type is set
abbrev pub IsToHost : Setup → Type 0
IsToHost s = DIRECTION_IN ≤ s.request_type

-- what data there are go to the device
abbrev pub IsToDevice : Setup → Type 0
IsToDevice s = s.request_type < DIRECTION_IN
