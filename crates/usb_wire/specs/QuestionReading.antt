-- How the lines of the host are read, for the private functions.
use Rattle.std.specs.Prelude.{ℕ, ◌==◌, Bool, true, false, List, [], ◌∷◌, codes, Option, Some, None}
use Rattle.std.specs.Prelude.{length, option_map, if◌then◌else◌}
use Rattle.std.specs.Result.{result_ok}
use Rattle.std.specs.Str.{bytes_eq}
use Rattle.usb_packet.specs.{Speed, Full, Low, LowBelowHub}
use Rattle.usb_packet.specs.{Toggle, Zero, One}
use Rattle.usb_port.specs.{PortCall, SetPower, SetReset, ClearEnable, ClearPower}
use Rattle.usb_port.specs.{ClearConnectionChange, ClearEnableChange, ClearResetChange}
use Rattle.usb_request.specs.{Setup as SetupData}
use Rattle.usb_wire.specs.declared.question.Endpoint.{Endpoint}
use Rattle.usb_wire.specs.declared.question.Question.{Question}
use Rattle.usb_wire.specs.declared.question.Question.TheVariants.{Hello, Setup, Out, In, Port}
use Rattle.usb_wire.specs.declared.question.Question.TheVariants.{Ins, Outs, Restart, Wait}
use Rattle.usb_wire.specs.Answers.{row_limit}
use Rattle.usb_wire.specs.Reading.{bytes_of_word, number_of_word, setup_in_bytes, text_of_line}

infixl 10 ◌>>=◌
abbrev pub ◌>>=◌ : {A B : Type 0} → Option A → (A → Option B) → Option B
(Some x) >>= f = f x
None >>= f = None

-- what stands before the first mark, and behind it
unfoldable pub cut_at : ℕ → List ℕ → Option (List ℕ × List ℕ)
cut_at mark [] = None
cut_at mark (c ∷ text) = if c == mark then Some ([], text) else option_map
    (λ cut. (c ∷ cut.0, cut.1)) (cut_at mark text)

unfoldable pub endpoint_in : List ℕ → Option Endpoint
endpoint_in word = do
  cut ← cut_at 46 word
  address ← result_ok (number_of_word 0 127 cut.0)
  number ← result_ok (number_of_word 0 15 cut.1)
  Some (record { address = address; number = number })

unfoldable pub behind_pre_word : List ℕ → Option (List ℕ)
behind_pre_word text = do
  cut ← cut_at 32 text
  if bytes_eq cut.0 (codes "PRE") then Some cut.1 else None

unfoldable pub after_pre : Speed → List ℕ → Option (List ℕ)
after_pre Full text = Some text
after_pre Low text = Some text
after_pre LowBelowHub text = behind_pre_word text

unfoldable pub toggle_named : List ℕ → Option Toggle
toggle_named word =
    if bytes_eq word (codes "DATA0") then Some Zero
    else if bytes_eq word (codes "DATA1") then Some One
    else None

unfoldable pub data_behind : Speed → List ℕ → Option (Toggle × List ℕ)
data_behind speed text = do
  cut ← cut_at 32 text
  rest ← if bytes_eq cut.0 (codes "/") then after_pre speed cut.1 else None
  named ← cut_at 32 rest
  toggle ← toggle_named named.0
  Some (toggle, named.1)

abbrev pub setup_by : Toggle → List ℕ → Option SetupData
setup_by Zero bytes = setup_in_bytes bytes
setup_by One bytes = None

unfoldable pub setup_in : Toggle → List ℕ → Option SetupData
setup_in toggle digits = do
  bytes ← result_ok (bytes_of_word 64 digits)
  setup_by toggle bytes

unfoldable pub setup_question : Speed → List ℕ → Option Question
setup_question speed text = do
  cut ← cut_at 32 text
  endpoint ← endpoint_in cut.0
  sent ← data_behind speed cut.1
  setup ← setup_in sent.0 sent.1
  Some (Setup speed endpoint setup)

unfoldable pub out_question : Speed → List ℕ → Option Question
out_question speed text = do
  cut ← cut_at 32 text
  endpoint ← endpoint_in cut.0
  sent ← data_behind speed cut.1
  bytes ← result_ok (bytes_of_word 64 sent.1)
  Some (Out speed endpoint (record { toggle = sent.0; bytes = record { items = bytes } }))

unfoldable pub in_question : Speed → List ℕ → Option Question
in_question speed text = do
  cut ← cut_at 32 text
  endpoint ← endpoint_in cut.0
  most ← result_ok (number_of_word 1 64 cut.1)
  Some (In speed endpoint most)

unfoldable pub ins_question : Speed → List ℕ → Option Question
ins_question speed text = do
  cut ← cut_at 32 text
  endpoint ← endpoint_in cut.0
  row ← cut_at 32 cut.1
  most ← result_ok (number_of_word 1 64 row.0)
  named ← cut_at 32 row.1
  toggle ← toggle_named named.0
  packets ← result_ok (number_of_word 1 64 named.1)
  Some (Ins speed endpoint most toggle packets)

unfoldable pub some_bytes : List ℕ → Option (List ℕ)
some_bytes digits = do
  bytes ← result_ok (bytes_of_word row_limit digits)
  if length bytes == 0 then None else Some bytes

unfoldable pub outs_question : Speed → List ℕ → Option Question
outs_question speed text = do
  cut ← cut_at 32 text
  endpoint ← endpoint_in cut.0
  sent ← data_behind speed cut.1
  row ← cut_at 32 sent.1
  bytes ← some_bytes row.0
  most ← result_ok (number_of_word 1 64 row.1)
  Some (Outs speed endpoint most sent.0 (record { items = bytes }))

-- the row, or else the single attempt
abbrev pub row_or : Option Question → Option Question → Option Question
row_or (Some row) single = Some row
row_or None single = single

unfoldable pub token_of_words : Speed → List ℕ → List ℕ → Option Question
token_of_words speed word text =
    if bytes_eq word (codes "SETUP") then setup_question speed text
    else if bytes_eq word (codes "OUT")
    then row_or (outs_question speed text) (out_question speed text)
    else if bytes_eq word (codes "IN")
    then row_or (ins_question speed text) (in_question speed text)
    else None

unfoldable pub token_behind : Speed → List ℕ → Option Question
token_behind speed text = do
  cut ← cut_at 32 text
  token_of_words speed cut.0 cut.1

unfoldable pub call_in : List ℕ → Option PortCall
call_in text =
    if bytes_eq text (codes "set PORT_POWER") then Some SetPower
    else if bytes_eq text (codes "set PORT_RESET") then Some SetReset
    else if bytes_eq text (codes "clear PORT_ENABLE") then Some ClearEnable
    else if bytes_eq text (codes "clear PORT_POWER") then Some ClearPower
    else if bytes_eq text (codes "clear C_PORT_CONNECTION") then Some ClearConnectionChange
    else if bytes_eq text (codes "clear C_PORT_ENABLE") then Some ClearEnableChange
    else if bytes_eq text (codes "clear C_PORT_RESET") then Some ClearResetChange
    else None

unfoldable pub port_question : List ℕ → Option Question
port_question text = do
  cut ← cut_at 32 text
  number ← result_ok (number_of_word 1 7 cut.0)
  call ← call_in cut.1
  Some (Port number call)

unfoldable pub direction_in : List ℕ → Option Bool
direction_in word =
    if bytes_eq word (codes "in") then Some true
    else if bytes_eq word (codes "out") then Some false
    else None

unfoldable pub restart_question : List ℕ → Option Question
restart_question text = do
  cut ← cut_at 32 text
  endpoint ← endpoint_in cut.0
  is_in ← direction_in cut.1
  if endpoint.number == 0 then None else Some (Restart endpoint is_in)

unfoldable pub asked_in : List ℕ → Option Question
asked_in text = do
  cut ← cut_at 32 text
  if bytes_eq cut.0 (codes "port") then port_question cut.1
      else if bytes_eq cut.0 (codes "restart") then restart_question cut.1
      else if bytes_eq cut.0 (codes "low") then token_behind Low cut.1
      else if bytes_eq cut.0 (codes "PRE") then token_behind LowBelowHub cut.1
      else token_of_words Full cut.0 cut.1

unfoldable pub question_of : List ℕ → Option Question
question_of line = do
  text ← result_ok (text_of_line line)
  if bytes_eq text (codes "wait") then Some Wait
      else if bytes_eq text (codes "usbplan live 1") then Some Hello
      else asked_in text
