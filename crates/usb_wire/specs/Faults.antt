-- What is wrong with a line of the far end: the table of faults, of which the first counts.
use Rattle.std.specs.Prelude.{ℕ, ◌==◌, ◌&&◌, ◌||◌, nat_lt, Bool, false, not, List, [], ◌∷◌, length}
use Rattle.std.specs.Prelude.{codes, Option, Some, None, is_none, if◌then◌else◌, true}
use Rattle.std.specs.Str.{bytes_eq}
use Rattle.usb_port.specs.{path_of}
use Rattle.usb_request.specs.{setup_of}
use Rattle.usb_wire.specs.declared.question.Asked.{Asked}
use Rattle.usb_wire.specs.declared.question.Asked.TheVariants.{Hello, Attempt, Port, Wait}
use Rattle.usb_wire.specs.declared.fault.WireFault.{WireFault}
use Rattle.usb_wire.specs.declared.fault.WireFault.TheVariants.{LineTooLong, BadCharacter, NoAnswer}
use Rattle.usb_wire.specs.declared.fault.WireFault.TheVariants.{BadHex, BadLength, BadNumber}
use Rattle.usb_wire.specs.declared.fault.WireFault.TheVariants.{BadPath}
use Rattle.usb_wire.specs.Answers.{send_limit, send_to_limit, write_limit}
use Rattle.usb_wire.specs.Fields.{address_named, hex_length, hex_value, is_dash, is_hex}
use Rattle.usb_wire.specs.Fields.{is_other_request, number_within}
use Rattle.usb_wire.specs.Words.{all_printable, words}

-- what a word after the first one is: bytes, at most so many; the four of a status; the eight of a
-- request with bytes for the device, or of one without; how many root ports there are, the version,
-- the number of a root port, how many packets, the number of an interface or of its setting; the
-- address of an endpoint; a path
pub data Field : Type 0 where
  bytes_field : ℕ → Field
  status_field : Field
  request_field : Bool → Field
  roots_field : Field
  version_field : Field
  root_field : Field
  packets_field : Field
  setting_field : Field
  endpoint_field : Field
  path_field : Field

-- the first word of a line, and what stands behind it
pub record Form : Type 0 where
  pub word : List ℕ
  pub fields : List Field

abbrev pub form : List ℕ → List Field → Form
form word fields = record { word = word; fields = fields }

-- the status of a root port
abbrev pub push : Form
push = form (codes "port") (root_field ∷ status_field ∷ [])

-- the lines that may stand behind each question
abbrev pub forms : Asked → List Form
forms Hello =
    form (codes "roots") (roots_field ∷ [])
    ∷ form (codes "roots") (roots_field ∷ version_field ∷ [])
    ∷ []
forms Attempt =
    push
    ∷ form (codes "ACK") []
    ∷ form (codes "NAK") []
    ∷ form (codes "STALL") []
    ∷ form (codes "none") []
    ∷ form (codes "DATA0") (bytes_field 64 ∷ [])
    ∷ form (codes "DATA1") (bytes_field 64 ∷ [])
    ∷ []
forms Port = push ∷ form (codes "ok") [] ∷ []
forms Wait =
    push
    ∷ form (codes "ok") []
    ∷ form (codes "show") []
    ∷ form (codes "end") []
    ∷ form (codes "news") []
    ∷ form (codes "clear") (path_field ∷ [])
    ∷ form (codes "look") (path_field ∷ [])
    ∷ form (codes "send") (path_field ∷ bytes_field send_limit ∷ [])
    ∷ form (codes "receive") (path_field ∷ packets_field ∷ [])
    ∷ form (codes "control") (path_field ∷ request_field false ∷ [])
    ∷ form (codes "control") (path_field ∷ request_field true ∷ bytes_field write_limit ∷ [])
    ∷ form (codes "interrupt") (path_field ∷ endpoint_field ∷ [])
    ∷ form (codes "clear") (path_field ∷ endpoint_field ∷ [])
    ∷ form (codes "send") (path_field ∷ endpoint_field ∷ bytes_field send_to_limit ∷ [])
    ∷ form (codes "receive") (path_field ∷ endpoint_field ∷ packets_field ∷ [])
    ∷ form (codes "interface") (path_field ∷ setting_field ∷ setting_field ∷ [])
    ∷ []

-- the first word is the form's, and so many words stand behind it
abbrev pub form_fits : List ℕ → List (List ℕ) → Form → Bool
form_fits word arguments f = (length arguments == length f.fields) && bytes_eq word f.word

abbrev pub fields_in : List Form → List ℕ → List (List ℕ) → Option (List Field)
fields_in [] word arguments = None
fields_in (f ∷ fs) word arguments = if form_fits word arguments f then Some f.fields else fields_in
    fs word arguments

-- eight bytes of setup data, but of a request without bytes for the device where one with bytes is
-- due, or the other way round
abbrev pub is_other_setup : Bool → Option (List ℕ) → Bool
is_other_setup with_bytes (Some bytes) = (length bytes == 8) && is_other_request with_bytes
    (setup_of bytes)
is_other_setup with_bytes None = false

abbrev pub is_no_request : Field → List ℕ → Bool
is_no_request (request_field with_bytes) word = is_other_setup with_bytes (hex_value word)
is_no_request _ word = false

-- neither pairs of digits, of either case, nor a dash
abbrev pub is_bad_hex : Field → List ℕ → Bool
is_bad_hex (bytes_field most) word = not (is_dash word || is_hex word)
is_bad_hex status_field word = not (is_dash word || is_hex word)
is_bad_hex (request_field with_bytes) word = not (is_dash word || is_hex word)
is_bad_hex _ word = false

-- too many bytes, not the four of a status, or not the eight of a request
abbrev pub is_bad_length : Field → List ℕ → Bool
is_bad_length (bytes_field most) word = nat_lt most (hex_length word)
is_bad_length status_field word = not (hex_length word == 4)
is_bad_length (request_field with_bytes) word = not (hex_length word == 8)
is_bad_length _ word = false

-- the bytes after setup data are not wLength of them
abbrev pub is_other_count : Option (List ℕ) → ℕ → Bool
is_other_count (Some setup) count = not ((setup_of setup).length == count)
is_other_count None count = false

abbrev pub has_other_count : List Field → List (List ℕ) → Bool
has_other_count (request_field true ∷ bytes_field most ∷ []) (setup ∷ bytes ∷ []) =
    is_other_count (hex_value setup) (hex_length bytes)
has_other_count (field ∷ fields) (word ∷ more) = has_other_count fields more
has_other_count _ _ = false

-- no number, or one that is out of its range; no endpoint's address in two upper-case digits
abbrev pub is_bad_number : ℕ → Field → List ℕ → Bool
is_bad_number count roots_field word = is_none (number_within 1 7 word)
is_bad_number count version_field word = is_none (number_within 2 2 word)
is_bad_number count root_field word = is_none (number_within 1 count word)
is_bad_number count packets_field word = is_none (number_within 0 1000 word)
is_bad_number count setting_field word = is_none (number_within 0 255 word)
is_bad_number count endpoint_field word = is_none (address_named word)
is_bad_number count _ word = false

abbrev pub is_bad_path : Field → List ℕ → Bool
is_bad_path path_field word = is_none (path_of word)
is_bad_path _ word = false

-- one of the words is
abbrev pub is_some_bad : (Field → List ℕ → Bool) → List Field → List (List ℕ) → Bool
is_some_bad is_bad (field ∷ fields) (word ∷ more) =
    is_bad field word || is_some_bad is_bad fields more
is_some_bad is_bad _ _ = false

-- the first fault of the words after the first one
abbrev pub argument_fault : ℕ → List Field → List (List ℕ) → Option WireFault
argument_fault count fields arguments =
    if is_some_bad is_no_request fields arguments then Some NoAnswer
    else if is_some_bad is_bad_hex fields arguments then Some BadHex
    else if is_some_bad is_bad_length fields arguments || has_other_count fields arguments then Some
    BadLength
    else if is_some_bad (is_bad_number count) fields arguments then Some BadNumber
    else if is_some_bad is_bad_path fields arguments then Some BadPath
    else None

abbrev pub fault_by : ℕ → Option (List Field) → List (List ℕ) → Option WireFault
fault_by count None arguments = Some NoAnswer
fault_by count (Some fields) arguments = argument_fault count fields arguments

-- the first fault of words, where there are so many root ports
abbrev pub words_fault : Asked → ℕ → List (List ℕ) → Option WireFault
words_fault asked count [] = Some NoAnswer
words_fault asked count (word ∷ arguments) = fault_by count (fields_in (forms asked) word arguments)
    arguments

-- the first fault of a line that is of no form behind a question, where there are so many root
-- ports
abbrev pub form_fault : Asked → ℕ → List ℕ → Option WireFault
form_fault asked count line =
    if nat_lt 1024 (length line) then Some LineTooLong
    else if not (all_printable line) then Some BadCharacter
    else words_fault asked count (words line)
