-- What the line of an entry says of what was found there.
use Rattle.std.specs.Prelude.{ℕ, List, [], ◌∷◌, ◌++◌, Bool, Option, None, Some, nat_lt, codes}
use Rattle.std.specs.Prelude.{decimal, if◌then◌else◌, slice_index, ◌+◌}
use Rattle.hex.specs.Hex.{encode_lower}
use Rattle.usb_enum.specs.{Cause, Silent, Busy, Stalled, BadDevice, TooDeep, BadConfiguration}
use Rattle.usb_enum.specs.{TooLarge, NoPower, BadHub, Lost, NoAddress, Request, Accepted, Finding}
use Rattle.usb_enum.specs.{Strings, configuration_of, need_of}
use Rattle.usb_enum.specs.declared.cause.Request.TheVariants as request
use Rattle.usb_enum.specs.declared.finding.Finding.TheVariants.{Device, Refused}
use Rattle.usb_drawing.specs.declared.art.Style.{Style}
use Rattle.usb_descriptor.specs.{class_text}
use Rattle.usb_drawing.specs.Classes.{codes_of, ports_text}
use Rattle.usb_drawing.specs.Texts.{labelled_text}

-- an address, with blanks up to three digits
abbrev pub address_column : ℕ → List ℕ
address_column address = codes "address " ++ decimal address ++
    (if nat_lt address 10 then codes "    " else if nat_lt address 100 then codes "   " else codes
    "  ")

abbrev pub speed_column : Bool → List ℕ
speed_column low = if low then codes "low   " else codes "full  "

-- a word of two bytes, of which the low one stands at the index, in four digits
abbrev pub word_digits : List ℕ → ℕ → List ℕ
word_digits bytes at = encode_lower (slice_index bytes (at + 1) ∷ slice_index bytes at ∷ [])

-- idVendor and idProduct
abbrev pub ids_text : List ℕ → List ℕ
ids_text bytes = word_digits bytes 8 ++ codes ":" ++ word_digits bytes 10 ++ codes " "

-- what the chosen configuration draws, of what the port gives where that is known
abbrev pub power_text : Option ℕ → ℕ → List ℕ
power_text None drawn = codes "  " ++ decimal drawn ++ codes " mA"
power_text (Some granted) drawn = codes "  " ++ decimal drawn ++ codes " of " ++ decimal granted ++
    codes " mA"

-- address, speed, vendor and product, class
unfoldable pub identity_text : Accepted → List ℕ
identity_text d = address_column d.address ++ speed_column d.low ++ ids_text d.bytes ++ class_text
    (codes_of d) ++ ports_text d.hub

-- the strings that there are, each behind its label
unfoldable pub strings_text : Style → Strings → List ℕ
strings_text style strings =
    labelled_text style (codes " ") strings.product
    ++ labelled_text style (codes " by ") strings.manufacturer
    ++ labelled_text style (codes " serial ") strings.serial_number

abbrev pub device_text : Style → Option ℕ → Accepted → List ℕ
device_text style granted d = identity_text d ++ strings_text style d.strings ++ power_text granted
    (need_of (configuration_of d))

abbrev pub stall_words : Request → List ℕ
stall_words request.Device = codes "stalls the request for its device descriptor"
stall_words request.Address = codes "stalls the request to take an address"
stall_words request.Config = codes "stalls the request for a configuration"
stall_words request.SetConfig = codes "stalls the request to be configured"

-- the words of a cause, up to the number that some have
abbrev pub cause_words : Cause → List ℕ
cause_words Silent = codes "gives no answer"
cause_words Busy = codes "is busy for too long"
cause_words (Stalled r) = stall_words r
cause_words BadDevice = codes "its device descriptor is malformed"
cause_words TooDeep = codes "a hub in the seventh tier"
cause_words (BadConfiguration index) = codes "malformed or repeated: configuration "
cause_words TooLarge = codes "its configurations have more bytes than the host takes"
cause_words NoPower = codes "each configuration needs more than its port gives"
cause_words BadHub = codes "a hub that cannot be served"
cause_words Lost = codes "its port was not enabled by the reset"
cause_words NoAddress = codes "no address is free"

abbrev pub supply_text : Option ℕ → List ℕ
supply_text None = []
supply_text (Some granted) = codes ", " ++ decimal granted ++ codes " mA"

-- the number behind the words of a cause: which configuration, or what the port gives
abbrev pub cause_number : Option ℕ → Cause → List ℕ
cause_number granted Silent = []
cause_number granted Busy = []
cause_number granted (Stalled r) = []
cause_number granted BadDevice = []
cause_number granted TooDeep = []
cause_number granted (BadConfiguration index) = decimal index
cause_number granted TooLarge = []
cause_number granted NoPower = supply_text granted
cause_number granted BadHub = []
cause_number granted Lost = []
cause_number granted NoAddress = []

abbrev pub refused_text : Option ℕ → Cause → List ℕ
refused_text granted cause = codes "refused: " ++ cause_words cause ++ cause_number granted cause

abbrev pub finding_text : Style → Option ℕ → Finding → List ℕ
finding_text style granted (Device device) = device_text style granted device
finding_text style granted (Refused cause) = refused_text granted cause
