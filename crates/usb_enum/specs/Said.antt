-- What a device said of itself: its device descriptor (9.6.1), as far as an enumeration read it.
use Rattle.std.specs.Prelude.{◌≡◌, ◌⊎◌, ⊤, ℕ, Bool, true, List, [], take}
use Rattle.usb_request.specs.{DEVICE_LENGTH, get_device_descriptor}
use Rattle.usb_port.specs.{Addresses, IsFree}
use Rattle.usb_device.specs.{Spec}
use Rattle.usb_world.specs.{World}
use Rattle.usb_transfer.specs.{Target}
use Rattle.usb_hub.specs.{HubPort}
use Rattle.usb_enum.specs.declared.cause.Cause.{Cause}
use Rattle.usb_enum.specs.declared.finding.Finding.{Finding}
use Rattle.usb_enum.specs.declared.finding.Finding.TheVariants as finding
use Rattle.usb_enum.specs.declared.stop.Stop.{Stop}
use Rattle.usb_enum.specs.declared.stop.Stop.TheVariants.{Refused, Fault}
use Rattle.usb_enum.specs.Device.{is_device}
use Rattle.usb_enum.specs.LastRequests.{Leads}
use Rattle.usb_enum.specs.PresentDevices.{AnswersSo, Finds}
use Rattle.usb_enum.specs.Reasons.{EndsReading, IsSpokenTo}
use Rattle.usb_enum.specs.Stops.{ComesEarly}

-- the descriptor begins with these bytes
abbrev pub BeginsWith : List ℕ → Spec → Type 0
BeginsWith said spec = (count : ℕ) × (said ≡ take count spec.descriptor)

-- Of one request

-- a request for so many bytes of it was answered by these, and of whoever answered this is so
pub record IsAnswer (So : Spec → Type 0) (t : Target) (size : ℕ) (said : List ℕ)
    (old new : World) : Type 0 where
  pub bytes : List ℕ
  pub read : EndsReading t (get_device_descriptor size) bytes old new
  pub same : said ≡ take DEVICE_LENGTH bytes
  pub answers : AnswersSo So t old new

-- they are such an answer, or were said before
abbrev pub Answers : (Spec → Type 0) → Target → ℕ → List ℕ → List ℕ → World → World → Type 0
Answers So t size before said old new = (said ≡ before) ⊎ IsAnswer So t size said old new

-- Of an enumeration

-- a request to the device at the port was answered by these bytes; with them begins the descriptor
-- of the one that stood there at that moment, where it was reachable
pub record WasSaid (port : HubPort) (address : ℕ) (said : List ℕ) (old new : World) : Type 0 where
  pub target : Target
  pub is : IsSpokenTo port address target
  pub size : ℕ
  pub bytes : List ℕ
  pub moment : World
  pub read : EndsReading target (get_device_descriptor size) bytes old moment
  pub same : said ≡ take DEVICE_LENGTH bytes
  pub own : Finds (λ s. BeginsWith said s.spec) port address old moment
  pub led : Leads moment new

-- so it is of them, or they were said before
abbrev pub Says : HubPort → ℕ → List ℕ → List ℕ → World → World → Type 0
Says port address before said old new = (said ≡ before) ⊎ WasSaid port address said old new

-- the cause comes before the whole descriptor is read, or these bytes are one
abbrev pub IsSaidFor : Cause → List ℕ → Type 0
IsSaidFor why said = ComesEarly why ⊎ ((low : Bool) × (is_device low said ≡ true))

-- so it is at a stop
abbrev pub IsSaidAt : Stop → List ℕ → Type 0
IsSaidAt (Refused why) said = IsSaidFor why said
IsSaidAt (Fault why) said = ⊤

-- an accepted device said its whole descriptor, and so did one that is refused behind it
abbrev pub IsSaidWhole : Finding → List ℕ → Type 0
IsSaidWhole (finding.Device device) said = said ≡ device.bytes
IsSaidWhole (finding.Refused why) said = IsSaidFor why said

-- the device said these bytes, at address 0 or at one that was free; or it said none
pub record IsSaid (port : HubPort) (addresses : Addresses) (said : List ℕ) (old new : World)
    (finding : Finding) : Type 0 where
  pub whole : IsSaidWhole finding said
  pub read : (address : ℕ) × (((address ≡ 0) ⊎ IsFree addresses address)
      × Says port address [] said old new)
