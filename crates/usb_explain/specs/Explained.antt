-- What goes out of a run's text: line by line, the line and the words of its request.
use Rattle.std.specs.Prelude.{◌⊎◌, ◌≡◌, ◌≢◌, ℕ, ◌+◌, ◌-◌, ◌^◌, ◌<◌, ◌≤◌, ◌==◌, ◌&&◌, not, Bool}
use Rattle.std.specs.Prelude.{true, false, List, [], ◌∷◌, ◌++◌, length, nat_eq, All, codes, Option}
use Rattle.std.specs.Prelude.{Some, None, Result, Ok, Err, if◌then◌else◌}
use Rattle.std.specs.Cmp.Lexicographic.{pointwise}
use Rattle.std.specs.Io.KnownBytes.{Appends}
use Rattle.usb_packet.specs.{Packet, Token, Sof, Payload, Ack, Nak, Stall, Pre}
use Rattle.usb_port.specs.{path_text}
use Rattle.usb_request.specs.{Setup}
use Rattle.usb_world.specs.{Exchange, Outgoing}
use Rattle.usb_watch.specs.{AppendsFront}
use Rattle.usb_pcap.specs.{IsRunLine, TracedAttempt, longest, next_number, read_attempt}
use Rattle.usb_explain.specs.declared.explaining.BegunLine.{BegunLine}
use Rattle.usb_explain.specs.declared.explaining.ExplainFault.{ExplainFault}
use Rattle.usb_explain.specs.declared.explaining.ExplainFault.TheVariants as fault
use Rattle.usb_explain.specs.declared.known.Known.{Known}
use Rattle.usb_explain.specs.declared.only.Kept.{Kept}
use Rattle.usb_explain.specs.declared.only.Kept.TheVariants as kept
use Rattle.usb_explain.specs.declared.only.Only.{Only}
use Rattle.usb_explain.specs.declared.only.Only.TheVariants as only
use Rattle.usb_explain.specs.Places.{address_in, known_after, nothing_known, path_of}
use Rattle.usb_explain.specs.Requests.{is_setup, is_whole, request_of}
use Rattle.usb_explain.specs.Table.{rows}
use Rattle.usb_explain.specs.Words.{row_for, row_text}

-- ---- the words of an attempt

-- the words of a request, by the table
abbrev pub request_words : Setup → List ℕ
request_words s = row_text (row_for rows s) s

-- a device at address 0 has its path said, where it is known
abbrev pub path_said : ℕ → Known → Option (List ℕ)
path_said address k = if address == 0 then path_of address k else None

abbrev pub path_words : Option (List ℕ) → List ℕ
path_words (Some path) = codes ", path " ++ path_text path
path_words None = []

-- ---- which lines are kept

abbrev pub is_all : Only → Bool
is_all only.All = true
is_all (only.Address address) = false
is_all (only.Path path) = false
is_all only.Setup = false
is_all only.Damage = false

-- a token for the address
abbrev pub is_for : ℕ → Packet → Bool
is_for address (Token kind addr ep) = addr == address
is_for address (Sof frame) = false
is_for address (Payload toggle bytes) = false
is_for address Ack = false
is_for address Nak = false
is_for address Stall = false
is_for address Pre = false

abbrev pub sent_whole : Option Outgoing → Bool
sent_whole None = true
sent_whole (Some s) = is_whole s.mark

-- damage hit the token, the host's data, the answer or the host's ACK
abbrev pub is_damaged : Exchange → Bool
is_damaged x = not (is_whole x.token.mark && sent_whole x.payload && is_whole x.answer_mark &&
    sent_whole x.reply)

-- this path
abbrev pub is_path : List ℕ → Option (List ℕ) → Bool
is_path path (Some found) = pointwise nat_eq found path
is_path path None = false

abbrev pub keeps_attempt : Only → Known → Exchange → Bool
keeps_attempt only.All k x = true
keeps_attempt (only.Address address) k x = is_for address x.token.packet
keeps_attempt (only.Path path) k x = is_path path.now (path_of (address_in x.token.packet) k)
keeps_attempt only.Setup k x = is_setup x.token.packet
keeps_attempt only.Damage k x = is_damaged x

abbrev pub explained_by : Option Setup → Option (List ℕ) → Kept
explained_by None path = kept.Line
explained_by (Some s) path = kept.Explained s path

abbrev pub kept_attempt : Only → Known → Exchange → Kept
kept_attempt only k x = if keeps_attempt only k x
    then explained_by (request_of x) (path_said (address_in x.token.packet) k)
    else kept.Nothing

abbrev pub kept_told : Only → Kept
kept_told only = if is_all only then kept.Line else kept.Nothing

-- what is kept of a line: of an attempt's by the attempt, of another one only if all lines are
abbrev pub kept_of : Only → Known → Option TracedAttempt → Kept
kept_of only k (Some a) = kept_attempt only k a.exchange
kept_of only k None = kept_told only

-- a path that is said ends a line
abbrev pub path_end : Option (List ℕ) → List ℕ
path_end path = path_words path ++ 10 ∷ []

-- four spaces, the words of a request and its device's path, which end a line
abbrev pub words_behind : Setup → Option (List ℕ) → List ℕ
words_behind s path = codes "    " ++ request_words s ++ path_end path

abbrev pub kept_text : Kept → List ℕ → List ℕ
kept_text kept.Nothing line = []
kept_text kept.Line line = line ++ 10 ∷ []
kept_text (kept.Explained s path) line = line ++ words_behind s path

-- the text of a line, by what is known before it
abbrev pub line_text : Only → Known → List ℕ → List ℕ
line_text only k line = kept_text (kept_of only k (read_attempt line)) line

-- ---- the text

-- a line of a run: none is longer, but a plug with a name of more than 131000 bytes
abbrev pub IsReadLine : List ℕ → Type 0
IsReadLine line = All (λ c. c ≢ 10) line × (length line ≤ longest) × IsRunLine line

-- n lines, what is known after them, and what goes out of them
pub data IsExplained (only : Only) : ℕ → Known → List ℕ → List ℕ → Type 0 where
  no_line : IsExplained only 0 nothing_known [] []
  next_line : {n : ℕ} {k : Known} {text out : List ℕ} (line : List ℕ) → IsReadLine line
      → IsExplained only n k text out
      → IsExplained only (n + 1) (known_after line k) (text ++ line ++ 10 ∷ [])
      (out ++ line_text only k line)

-- a text begins with a line that no run writes, or that is too long
pub data BeginsOtherwise : List ℕ → Type 0 where
  other : (line rest : List ℕ) → All (λ c. c ≢ 10) line → (IsRunLine line → ⊥)
      → BeginsOtherwise (line ++ 10 ∷ rest)
  long : (line rest : List ℕ) → All (λ c. c ≢ 10) line → longest < length line
      → BeginsOtherwise (line ++ rest)

-- nothing ends the line with which a text begins
abbrev pub IsUnended : List ℕ → Type 0
IsUnended rest = (rest ≢ []) × All (λ c. c ≢ 10) rest

-- the first n lines were read, up to the rest; what goes out of them went out
pub record ExplainedTo (only : Only) (old new : Option (List ℕ)) (text rest : List ℕ) (n : ℕ) :
    Type 0 where
  pub front : List ℕ
  pub out : List ℕ
  pub known : Known
  pub split : text ≡ front ++ rest
  pub explained : IsExplained only n known front out
  pub gone : Appends old new out

-- the same where the writer failed: a prefix of it went out
pub record ExplainedInPart (only : Only) (old new : Option (List ℕ)) (text : List ℕ) : Type 0 where
  pub n : ℕ
  pub front : List ℕ
  pub rest : List ℕ
  pub out : List ℕ
  pub known : Known
  pub split : text ≡ front ++ rest
  pub explained : IsExplained only n known front out
  pub gone : AppendsFront old new out

-- what went out of a text: what goes out of all of it, or of the lines before the fault
abbrev pub ExplainsText : Only → Option (List ℕ) → Option (List ℕ) → List ℕ
    → Result (Unit {0}) ExplainFault → Type 0
ExplainsText only old new text (Ok done) = (n : ℕ) × ExplainedTo only old new text [] n
ExplainsText only old new text (Err (fault.Line number)) =
    (n : ℕ) × (rest : List ℕ) × (number ≡ next_number n) × ExplainedTo only old new text rest n
    × (BeginsOtherwise rest ⊎ IsUnended rest)
ExplainsText only old new text (Err fault.Write) = ExplainedInPart only old new text
ExplainsText only old new text (Err fault.Read) =
    (n : ℕ) × (rest : List ℕ) × ExplainedTo only old new text rest n
ExplainsText only old new text (Err fault.TooLong) =
    (n : ℕ) × (rest : List ℕ) × ExplainedTo only old new text rest n
    × (2 ^ 64 - 1 ≤ length text)

-- ---- of the private functions

-- whole lines went out; after them a line has begun
pub record Reaches (only : Only) (old new : Option (List ℕ)) (text : List ℕ) (state : BegunLine) :
    Type 0 where
  pub n : ℕ
  pub went : ExplainedTo only old new text state.bytes.items n
  pub one : All (λ c. c ≢ 10) state.bytes.items
  pub number : state.number ≡ next_number n
  pub known : state.known ≡ went.known

-- what is kept of a line, and known after it; None where no run writes it
abbrev pub KeepsLine : Only → Known → List ℕ → Option Kept → Known → Type 0
KeepsLine only old line (Some kept) new = IsRunLine line
    × (kept ≡ kept_of only old (read_attempt line)) × (new ≡ known_after line old)
KeepsLine only old line None new = IsRunLine line → ⊥

-- what came of the text so far
abbrev pub ReachesOr : Only → Option (List ℕ) → Option (List ℕ) → List ℕ
    → Result (Unit {0}) ExplainFault → BegunLine → Type 0
ReachesOr only old new text (Ok done) state = Reaches only old new text state
ReachesOr only old new text (Err (fault.Line number)) state =
    (n : ℕ) × (rest : List ℕ) × (number ≡ next_number n) × ExplainedTo only old new text rest n
    × BeginsOtherwise rest
ReachesOr only old new text (Err fault.Write) state = ExplainedInPart only old new text
ReachesOr only old new text (Err fault.Read) state = ⊥
ReachesOr only old new text (Err fault.TooLong) state = ⊥
