-- How lines are read, for the private functions.
use Rattle.std.specs.Prelude.{ℕ, ◌&&◌, ◌||◌, nat_lt, ◌==◌, Bool, true, false, List, [], ◌∷◌, length}
use Rattle.std.specs.Prelude.{codes, Option, Some, None, ok_or, Result, Ok, Err, if◌then◌else◌}
use Rattle.std.specs.Str.{bytes_eq}
use Rattle.usb_packet.specs.{Toggle, Zero, One as OneToggle}
use Rattle.usb_port.specs.{path_of}
use Rattle.usb_request.specs.{DIRECTION_IN, setup_of, Setup as SetupData}
use Rattle.usb_wire.specs.declared.answer.Answer.{Answer}
use Rattle.usb_wire.specs.declared.answer.Answer.TheVariants.{Roots, Ack, Nak, Stall, Nothing, Data}
use Rattle.usb_wire.specs.declared.answer.Answer.TheVariants.{Done, Show, End, Send, Receive, Clear}
use Rattle.usb_wire.specs.declared.answer.Answer.TheVariants.{ControlIn, ControlOut, Look, News}
use Rattle.usb_wire.specs.declared.answer.Answer.TheVariants.{ClearOf, Poll, ReceiveFrom, SendTo}
use Rattle.usb_wire.specs.declared.answer.Answer.TheVariants.{Interface, RootsAndRows}
use Rattle.usb_wire.specs.declared.answer.Said.{Said}
use Rattle.usb_wire.specs.declared.answer.Said.TheVariants.{Changed, Answered}
use Rattle.usb_wire.specs.declared.fault.WireFault.{WireFault}
use Rattle.usb_wire.specs.declared.fault.WireFault.TheVariants.{LineTooLong, BadCharacter, NoAnswer}
use Rattle.usb_wire.specs.declared.fault.WireFault.TheVariants.{BadHex, BadLength, BadNumber}
use Rattle.usb_wire.specs.declared.fault.WireFault.TheVariants.{BadPath}
use Rattle.usb_wire.specs.declared.question.Asked.{Asked}
use Rattle.usb_wire.specs.declared.question.Asked.TheVariants.{Hello, Attempt, Port, Wait}
use Rattle.usb_wire.specs.declared.words.Words.{Words}
use Rattle.usb_wire.specs.declared.words.Words.TheVariants.{One, Two, Three, Four, More}
use Rattle.usb_wire.specs.Answers.{send_limit, send_to_limit, write_limit}
use Rattle.usb_wire.specs.Fields.{address_named, hex_length, hex_value, is_dash, is_hex}
use Rattle.usb_wire.specs.Fields.{is_other_request, number_within}
use Rattle.usb_wire.specs.Words.{all_printable, words}
use Rattle.usb_wire.specs.Writes.{Write}

infixl 10 ◌>>=◌
abbrev pub ◌>>=◌ : {A B : Type 0} → Result A WireFault → (A → Result B WireFault)
    → Result B WireFault
(Ok x) >>= f = f x
(Err e) >>= f = Err e

-- the fault that was told
abbrev pub fault_in : {A : Type 0} → Result A WireFault → Option WireFault
fault_in (Ok x) = None
fault_in (Err e) = Some e

-- what was read, seen by a view
abbrev pub result_map : {A B : Type 0} → (A → B) → Result A WireFault → Result B WireFault
result_map view (Ok x) = Ok (view x)
result_map view (Err e) = Err e

-- how many bytes a word spells
unfoldable pub count_in : List ℕ → Result ℕ WireFault
count_in word = if is_dash word || is_hex word then Ok (hex_length word) else Err BadHex

unfoldable pub bytes_of_word : ℕ → List ℕ → Result (List ℕ) WireFault
bytes_of_word most word = do
  count ← count_in word
  if nat_lt most count then Err BadLength else ok_or (hex_value word) BadHex

unfoldable pub status_of_word : List ℕ → Result (List ℕ) WireFault
status_of_word word = do
  count ← count_in word
  if count == 4 then ok_or (hex_value word) BadHex else Err BadLength

-- the fields of setup data, if they are of eight bytes
abbrev pub setup_in_bytes : List ℕ → Option SetupData
setup_in_bytes bytes = if length bytes == 8 then Some (setup_of bytes) else None

-- a request with bytes for the device, or one without
abbrev pub request_with : Bool → SetupData → Result SetupData WireFault
request_with with_bytes setup = if is_other_request with_bytes setup then Err NoAnswer else Ok setup

unfoldable pub request_of_word : Bool → List ℕ → Result SetupData WireFault
request_of_word with_bytes word = do
  bytes ← bytes_of_word 8 word
  setup ← ok_or (setup_in_bytes bytes) BadLength
  request_with with_bytes setup

-- both, or the first fault of the two
abbrev pub both : {A B : Type 0} → Result A WireFault → Result B WireFault
    → Result (A × B) WireFault
both (Ok x) (Ok y) = Ok (x, y)
both (Ok x) (Err fault) = Err fault
both (Err BadLength) (Err fault) = Err fault
both (Err fault) other = Err fault

-- a request to the device, and wLength bytes go with it
abbrev pub is_write : SetupData → List ℕ → Bool
is_write setup bytes = nat_lt setup.request_type DIRECTION_IN && (setup.length == length bytes)

abbrev pub counted_write : SetupData × List ℕ → Result Write WireFault
counted_write write =
    if is_write write.0 write.1 then Ok (record { setup = write.0; bytes = write.1 })
    else Err BadLength

unfoldable pub write_of_words : List ℕ → List ℕ → Result Write WireFault
write_of_words setup bytes = both (request_of_word true setup) (bytes_of_word write_limit bytes) >>=
    counted_write

unfoldable pub number_of_word : ℕ → ℕ → List ℕ → Result ℕ WireFault
number_of_word least most word = ok_or (number_within least most word) BadNumber

unfoldable pub endpoint_named : List ℕ → Result ℕ WireFault
endpoint_named word = ok_or (address_named word) BadNumber

unfoldable pub path_in : List ℕ → Result (List ℕ) WireFault
path_in word = ok_or (path_of word) BadPath

-- the answers of one word
unfoldable pub alone : Asked → List ℕ → Result Answer WireFault
alone Hello word = Err NoAnswer
alone Attempt word =
    if bytes_eq word (codes "ACK") then Ok Ack
    else if bytes_eq word (codes "NAK") then Ok Nak
    else if bytes_eq word (codes "STALL") then Ok Stall
    else if bytes_eq word (codes "none") then Ok Nothing
    else Err NoAnswer
alone Port word = if bytes_eq word (codes "ok") then Ok Done else Err NoAnswer
alone Wait word =
    if bytes_eq word (codes "ok") then Ok Done
    else if bytes_eq word (codes "show") then Ok Show
    else if bytes_eq word (codes "end") then Ok End
    else if bytes_eq word (codes "news") then Ok News
    else Err NoAnswer

unfoldable pub roots_answer : List ℕ → Result Answer WireFault
roots_answer word = do
  roots ← number_of_word 1 7 word
  Ok (Roots roots)

unfoldable pub second_answer : List ℕ → List ℕ → Result Answer WireFault
second_answer first second = do
  roots ← number_of_word 1 7 first
  version ← number_of_word 2 2 second
  Ok (RootsAndRows roots)

unfoldable pub data_answer : Toggle → List ℕ → Result Answer WireFault
data_answer toggle word = do
  bytes ← bytes_of_word 64 word
  Ok (Data (record { toggle = toggle; bytes = record { items = bytes } }))

unfoldable pub clear_answer : List ℕ → Result Answer WireFault
clear_answer word = do
  path ← path_in word
  Ok (Clear path)

unfoldable pub look_answer : List ℕ → Result Answer WireFault
look_answer word = do
  path ← path_in word
  Ok (Look path)

-- the answers of two words
unfoldable pub with_one : Asked → List ℕ → List ℕ → Result Answer WireFault
with_one Hello word argument = if bytes_eq word (codes "roots") then roots_answer argument else Err
    NoAnswer
with_one Attempt word argument =
    if bytes_eq word (codes "DATA0") then data_answer Zero argument
    else if bytes_eq word (codes "DATA1") then data_answer OneToggle argument
    else Err NoAnswer
with_one Port word argument = Err NoAnswer
with_one Wait word argument =
    if bytes_eq word (codes "clear") then clear_answer argument
    else if bytes_eq word (codes "look") then look_answer argument
    else Err NoAnswer

unfoldable pub send_answer : List ℕ → List ℕ → Result Answer WireFault
send_answer first second = do
  bytes ← bytes_of_word send_limit second
  path ← path_in first
  Ok (Send path (record { items = bytes }))

unfoldable pub receive_answer : List ℕ → List ℕ → Result Answer WireFault
receive_answer first second = do
  packets ← number_of_word 0 1000 second
  path ← path_in first
  Ok (Receive path packets)

-- a request without bytes for the device
abbrev pub bare_control : List ℕ → SetupData → Answer
bare_control path setup =
    if nat_lt setup.request_type DIRECTION_IN then ControlOut path
    (record { setup = setup; bytes = [] })
    else ControlIn path setup

unfoldable pub control_answer : List ℕ → List ℕ → Result Answer WireFault
control_answer first second = do
  setup ← request_of_word false second
  path ← path_in first
  Ok (bare_control path setup)

unfoldable pub poll_answer : List ℕ → List ℕ → Result Answer WireFault
poll_answer first second = do
  endpoint ← endpoint_named second
  path ← path_in first
  Ok (Poll path endpoint)

unfoldable pub clear_of_answer : List ℕ → List ℕ → Result Answer WireFault
clear_of_answer first second = do
  endpoint ← endpoint_named second
  path ← path_in first
  Ok (ClearOf path endpoint)

-- the answers of three words
unfoldable pub with_two : Asked → List ℕ → List ℕ → List ℕ → Result Answer WireFault
with_two Hello word first second =
    if bytes_eq word (codes "roots") then second_answer first second else Err NoAnswer
with_two Wait word first second =
    if bytes_eq word (codes "send") then send_answer first second
    else if bytes_eq word (codes "receive") then receive_answer first second
    else if bytes_eq word (codes "control") then control_answer first second
    else if bytes_eq word (codes "interrupt") then poll_answer first second
    else if bytes_eq word (codes "clear") then clear_of_answer first second
    else Err NoAnswer
with_two _ word first second = Err NoAnswer

unfoldable pub write_answer : List ℕ → List ℕ → List ℕ → Result Answer WireFault
write_answer first second third = do
  write ← write_of_words second third
  path ← path_in first
  Ok (ControlOut path write)

unfoldable pub send_to_answer : List ℕ → List ℕ → List ℕ → Result Answer WireFault
send_to_answer first second third = do
  bytes ← bytes_of_word send_to_limit third
  endpoint ← endpoint_named second
  path ← path_in first
  Ok (SendTo path endpoint (record { items = bytes }))

unfoldable pub receive_from_answer : List ℕ → List ℕ → List ℕ → Result Answer WireFault
receive_from_answer first second third = do
  packets ← number_of_word 0 1000 third
  endpoint ← endpoint_named second
  path ← path_in first
  Ok (ReceiveFrom path endpoint packets)

unfoldable pub interface_answer : List ℕ → List ℕ → List ℕ → Result Answer WireFault
interface_answer first second third = do
  setting ← number_of_word 0 255 third
  interface ← number_of_word 0 255 second
  path ← path_in first
  Ok (Interface path interface setting)

-- the answers of four words
unfoldable pub with_three : Asked → List ℕ → List ℕ → List ℕ → List ℕ → Result Answer WireFault
with_three Wait word first second third =
    if bytes_eq word (codes "control") then write_answer first second third
    else if bytes_eq word (codes "send") then send_to_answer first second third
    else if bytes_eq word (codes "receive") then receive_from_answer first second third
    else if bytes_eq word (codes "interface") then interface_answer first second third
    else Err NoAnswer
with_three _ word first second third = Err NoAnswer

-- the status of a root port
unfoldable pub status_change : ℕ → List ℕ → List ℕ → Result Said WireFault
status_change count first second = do
  status ← status_of_word second
  number ← number_of_word 1 count first
  Ok (Changed number status)

abbrev pub may_push : Asked → Bool
may_push Hello = false
may_push _ = true

abbrev pub said_of : Result Answer WireFault → Result Said WireFault
said_of (Ok answer) = Ok (Answered answer)
said_of (Err fault) = Err fault

-- what three words say
unfoldable pub three_say : Asked → ℕ → List ℕ → List ℕ → List ℕ → Result Said WireFault
three_say asked count word first second =
    if may_push asked && bytes_eq word (codes "port") then status_change count first second
    else said_of (with_two asked word first second)

-- what words say
unfoldable pub words_say : Asked → ℕ → List (List ℕ) → Result Said WireFault
words_say asked count [] = Err NoAnswer
words_say asked count (word ∷ []) = said_of (alone asked word)
words_say asked count (word ∷ argument ∷ []) = said_of (with_one asked word argument)
words_say asked count (word ∷ first ∷ second ∷ []) = three_say asked count word first second
words_say asked count (word ∷ first ∷ second ∷ third ∷ []) =
    said_of (with_three asked word first second third)
words_say asked count (word ∷ first ∷ second ∷ third ∷ fourth ∷ more) = Err NoAnswer

unfoldable pub shape_says : Asked → ℕ → Words → Result Said WireFault
shape_says asked count (One word) = said_of (alone asked word.now)
shape_says asked count (Two word argument) = said_of (with_one asked word.now argument.now)
shape_says asked count (Three word first second) =
    three_say asked count word.now first.now second.now
shape_says asked count (Four word first second third) =
    said_of (with_three asked word.now first.now second.now third.now)
shape_says asked count More = Err NoAnswer

-- what is wrong with the text of a line
unfoldable pub text_of_line : List ℕ → Result (List ℕ) WireFault
text_of_line line =
    if nat_lt 1024 (length line) then Err LineTooLong
    else if all_printable line then Ok line
    else Err BadCharacter

-- what a line says
unfoldable pub line_says : Asked → ℕ → List ℕ → Result Said WireFault
line_says asked count line = do
  text ← text_of_line line
  words_say asked count (words text)
