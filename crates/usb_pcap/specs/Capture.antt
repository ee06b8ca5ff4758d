-- What a text's pcap file is: its header, and the records of each line in their order.
use Rattle.std.specs.Prelude.{◌⊎◌, ◌≡◌, ◌≢◌, ℕ, ◌+◌, ◌-◌, ◌^◌, ◌<◌, ◌≤◌, nat_lt, min, List, []}
use Rattle.std.specs.Prelude.{◌∷◌, ◌++◌, length, take, All, Option, Some, None, Result, Ok, Err}
use Rattle.std.specs.Prelude.{true, false}
use Rattle.arrayvec.specs.ArrayVec.{ArrayVec}
use Rattle.std.specs.Io.KnownBytes.{Appends}
use Rattle.usb_watch.specs.{AppendsFront}
use Rattle.usb_pcap.specs.declared.attempt.TracedAttempt.{TracedAttempt}
use Rattle.usb_pcap.specs.declared.capturing.OpenLine.{OpenLine}
use Rattle.usb_pcap.specs.declared.capturing.PcapFault.{PcapFault}
use Rattle.usb_pcap.specs.declared.capturing.PcapFault.TheVariants.{Read, Line as BadLine, TooLong}
use Rattle.usb_pcap.specs.declared.capturing.PcapFault.TheVariants.{NoAttempt, Write}
use Rattle.usb_pcap.specs.Attempt.{IsAttemptLine}
use Rattle.usb_pcap.specs.Report.{IsPlug, IsReport}
use Rattle.usb_pcap.specs.Shown.{Begins, IsShownText}
use Rattle.usb_pcap.specs.Record.{AreRecords, attempt_packets, header}

-- no line of a run is longer, but that of a plug: a configuration of 65535 bytes, and what stands
-- beside it
abbrev pub longest : ℕ
longest = 131200

-- a line of an event, a listing, a transfer, a look, news or a bound
abbrev pub IsTold : List ℕ → Type 0
IsTold line = (IsPlug line × IsShownText line) ⊎ ((length line ≤ longest) × IsReport line)

abbrev pub IsTraceLine : List ℕ → TracedAttempt → Type 0
IsTraceLine line a = (length line ≤ longest) × IsAttemptLine line a

-- a line of a run
abbrev pub IsRunLine : List ℕ → Type 0
IsRunLine line = IsTold line ⊎ ((a : TracedAttempt) × IsTraceLine line a)

-- the records of a line: of an attempt's line those of its packets, of any other line of a run none
pub data LineRecords (line : List ℕ) : List ℕ → Type 0 where
  told : IsTold line → LineRecords line []
  attempt : (a : TracedAttempt) (records : List ℕ) → IsTraceLine line a
      → AreRecords a.number (attempt_packets a.pre a.exchange) records → LineRecords line records

-- a text of n lines, and its file
pub data IsCapture : ℕ → List ℕ → List ℕ → Type 0 where
  none : IsCapture 0 [] header
  line : {n : ℕ} {text file : List ℕ} (line records : List ℕ) → All (λ c. c ≢ 10) line
      → LineRecords line records
      → IsCapture n text file → IsCapture (n + 1) (text ++ line ++ 10 ∷ []) (file ++ records)

-- the number of the line behind n lines
abbrev pub next_number : ℕ → ℕ
next_number n = min (n + 1) (2 ^ 64 - 1)

-- the first n lines of the text were captured, and their file has gone out
pub record WroteLines (old new : Option (List ℕ)) (text : List ℕ) (n : ℕ) : Type 0 where
  pub front : List ℕ
  pub rest : List ℕ
  pub file : List ℕ
  pub split : text ≡ front ++ rest
  pub captured : IsCapture n front file
  pub gone : Appends old new file

-- the same where the writer failed: a front of the file has gone out
pub record WroteFront (old new : Option (List ℕ)) (text : List ℕ) (n : ℕ) : Type 0 where
  pub front : List ℕ
  pub rest : List ℕ
  pub file : List ℕ
  pub split : text ≡ front ++ rest
  pub captured : IsCapture n front file
  pub gone : AppendsFront old new file

-- the same where the next line is none of a run
pub record RefusedLine (old new : Option (List ℕ)) (text : List ℕ) (n : ℕ) : Type 0 where
  pub front : List ℕ
  pub line : List ℕ
  pub rest : List ℕ
  pub file : List ℕ
  pub split : text ≡ front ++ line ++ 10 ∷ rest
  pub one : All (λ c. c ≢ 10) line
  pub other : IsRunLine line → ⊥
  pub captured : IsCapture n front file
  pub gone : Appends old new file

-- the same where nothing ends the next line
pub record OpenEnd (old new : Option (List ℕ)) (text : List ℕ) (n : ℕ) : Type 0 where
  pub front : List ℕ
  pub line : List ℕ
  pub file : List ℕ
  pub split : text ≡ front ++ line
  pub one : All (λ c. c ≢ 10) line
  pub begun : line ≢ []
  pub captured : IsCapture n front file
  pub gone : Appends old new file

-- what went out of a text: its file, or that of the lines before the fault; the header alone is the
-- file of a text that has no attempt
abbrev pub Captures : Option (List ℕ) → Option (List ℕ) → List ℕ → Result (Unit {0}) PcapFault
    → Type 0
Captures old new text (Ok done) = (n : ℕ) × (file : List ℕ) × IsCapture n text file
    × Appends old new file × (file ≢ header)
Captures old new text (Err NoAttempt) = (n : ℕ) × IsCapture n text header × Appends old new header
Captures old new text (Err (BadLine number)) = (n : ℕ) × (number ≡ next_number n)
    × (RefusedLine old new text n ⊎ OpenEnd old new text n)
Captures old new text (Err Write) = (n : ℕ) × WroteFront old new text n
Captures old new text (Err Read) = (n : ℕ) × WroteLines old new text n
Captures old new text (Err TooLong) = (n : ℕ) × WroteLines old new text n
    × (2 ^ 64 - 1 ≤ length text)

-- ---- of the private functions

-- whole lines were captured, and their file has gone out; behind them a line has begun
pub record StandsBehind (old new : Option (List ℕ)) (text : List ℕ) (state : OpenLine) : Type 0
  where
    pub n : ℕ
    pub front : List ℕ
    pub line : List ℕ
    pub file : List ℕ
    pub split : text ≡ front ++ line
    pub captured : IsCapture n front file
    pub gone : Appends old new file
    pub one : All (λ c. c ≢ 10) line
    pub begins : state.front.items ≡ take longest line
    pub long : state.is_long ≡ nat_lt longest (length line)
    pub shown : Begins line state.begun.items
    pub packets : state.has_packets ≡ true → length header < length file
    pub bare : state.has_packets ≡ false → file ≡ header
    pub number : state.number ≡ next_number n

-- the records of a line, None where it is none of a run
abbrev pub RecordsOf : List ℕ → Option (ArrayVec ℕ) → Type 0
RecordsOf text (Some records) = LineRecords text records.items
RecordsOf text None = IsRunLine text → ⊥

-- what came of the text so far
abbrev pub ComesOf : Option (List ℕ) → Option (List ℕ) → List ℕ → Result (Unit {0}) PcapFault
    → OpenLine → Type 0
ComesOf old new text (Ok done) state = StandsBehind old new text state
ComesOf old new text (Err (BadLine number)) state = (n : ℕ) × (number ≡ next_number n)
    × RefusedLine old new text n
ComesOf old new text (Err Write) state = (n : ℕ) × WroteFront old new text n
ComesOf old new text (Err Read) state = ⊥
ComesOf old new text (Err TooLong) state = ⊥
ComesOf old new text (Err NoAttempt) state = ⊥
