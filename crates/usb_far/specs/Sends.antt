-- A send that takes several lines.
use Rattle.std.specs.Prelude.{ℕ, ◌+◌, ◌*◌, ◌&&◌, nat_le, Bool, List, length, Option, Some, None}
use Rattle.usb_port.specs.{path_text}
use Rattle.usb_wire.specs.{send_limit, send_room, send_to_limit}

-- bytes that are still to go to the device at a port: to the endpoint that is named, or to the
-- first bulk one
pub record ToSend : Type 0 where
  pub path : List ℕ
  pub endpoint : Option ℕ
  pub bytes : List ℕ

-- the most bytes of one line
abbrev pub line_limit : Option ℕ → ℕ
line_limit None = send_limit
line_limit (Some endpoint) = send_to_limit

-- one line has room for all of them
unfoldable pub fits_line : ToSend → Bool
fits_line s =
    nat_le (length s.bytes) (line_limit s.endpoint)
    && nat_le (length (path_text s.path) + 2 * length s.bytes) send_room
