-- The requests of a device's own, as a plan describes them: of its class, or of its vendor (9.3.1).
use Rattle.std.specs.Prelude.{ℕ, ◌==◌, nat_le, not, ◌&&◌, Bool, true, List, [], slice_get, Option}
use Rattle.std.specs.Prelude.{None, Some}
use Rattle.std.specs.List.{position}
use Rattle.usb_request.specs.{Setup, DIRECTION_IN}
use Rattle.usb_device.specs.declared.own_request.OwnAnswer.{OwnAnswer}
use Rattle.usb_device.specs.declared.own_request.OwnAnswer.TheVariants.{RefuseData, RefuseStatus}
use Rattle.usb_device.specs.declared.own_request.OwnAnswer.TheVariants.{Give, GiveTaken, Take}
use Rattle.usb_device.specs.declared.own_request.OwnRequest.{OwnRequest}

-- a number that is fixed, or may be any
abbrev pub is_or_any : Option ℕ → ℕ → Bool
is_or_any None n = true
is_or_any (Some m) n = n == m

-- the data go to the host (9.3.1)
abbrev pub is_to_host : Setup → Bool
is_to_host r = nat_le DIRECTION_IN r.request_type

-- bytes are given where data go to the host, and taken where they go to the device
abbrev pub goes_so : OwnAnswer → Bool → Bool
goes_so RefuseData to_host = true
goes_so RefuseStatus to_host = not to_host
goes_so (Give bytes) to_host = to_host
goes_so GiveTaken to_host = to_host
goes_so Take to_host = not to_host

-- the setup data are those of the row
abbrev pub fits : OwnRequest → Setup → Bool
fits row r =
    r.request_type == row.request_type && r.request == row.request &&
    is_or_any row.value r.value && is_or_any row.index r.index && is_or_any row.length r.length &&
    goes_so row.answer (is_to_host r)

-- the place of the first row that they fit
abbrev pub own_place : List OwnRequest → Setup → Option ℕ
own_place rows r = position (λ row. fits row r) rows

-- the bytes that a row gives
abbrev pub bytes_given : OwnAnswer → List ℕ
bytes_given (Give bytes) = bytes
bytes_given answer = []

abbrev pub row_bytes : Option OwnRequest → List ℕ
row_bytes None = []
row_bytes (Some row) = bytes_given row.answer

abbrev pub own_bytes : List OwnRequest → ℕ → List ℕ
own_bytes rows i = row_bytes (slice_get rows i)
