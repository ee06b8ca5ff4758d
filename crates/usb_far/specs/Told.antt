-- The host's lines one by one: what each is, and what is wrong with one.
use Rattle.std.specs.Prelude.{◌≡◌, ◌≢◌, ◌⊎◌, ℕ, ◌^◌, ◌≤◌, Bool, true, false, ◌||◌}
use Rattle.std.specs.Prelude.{if◌then◌else◌, List, [], ◌∷◌, ◌++◌, take, codes, length, nat_eq}
use Rattle.std.specs.Prelude.{Option, Result, Ok, Err}
use Rattle.std.specs.List.{starts_with}
use Rattle.std.specs.Str.{bytes_eq}
use Rattle.std.specs.Io.KnownBytes.{Consumes, IsAtEnd}
use Rattle.usb_sim.specs.{Ghosts}
use Rattle.usb_watch.specs.{Watched, IsUnbroken, Pipe, Reads, pipe_of}
use Rattle.usb_wire.specs.{IsQuestion, IsQuestionLine, all_printable, Question}
use Rattle.usb_far.specs.declared.far_end.FarEnd.{FarEnd}
use Rattle.usb_far.specs.declared.far_end.Phase.{Phase}
use Rattle.usb_far.specs.declared.far_end.Phase.TheVariants.{New, Asks, Tells}
use Rattle.usb_far.specs.declared.fault.FarFault.{FarFault}
use Rattle.usb_far.specs.declared.fault.FarFault.TheVariants as fault
use Rattle.usb_far.specs.declared.told.HostLine.{HostLine}
use Rattle.usb_far.specs.declared.told.HostLine.TheVariants.{Ended, Told, Asked}
use Rattle.usb_far.specs.FarEnd.{Played, may_ask, played_of}

abbrev pub begins_with : List ℕ → List ℕ → Bool
begins_with line word = starts_with nat_eq line word

-- the first line of a listing, or of news
abbrev pub begins_block : List ℕ → Bool
begins_block line = begins_with line (codes "listing ") || bytes_eq line (codes "news")

-- how a transfer or a look went
abbrev pub is_report : List ℕ → Bool
is_report line =
    begins_with line (codes "send ")
    || begins_with line (codes "receive ")
    || begins_with line (codes "interrupt ")
    || begins_with line (codes "clear ")
    || begins_with line (codes "interface ")
    || begins_with line (codes "control ")
    || begins_with line (codes "look ")

-- a line of a listing or of news, or how a transfer or a look went
abbrev pub is_told : Phase → List ℕ → Bool
is_told New line = false
is_told Asks line = begins_block line || is_report line
is_told Tells line = true

-- a listing goes on up to its end, and so do news
abbrev pub phase_behind : Phase → List ℕ → Phase
phase_behind New line = New
phase_behind Asks line = if begins_block line then Tells else Asks
phase_behind Tells line = if bytes_eq line (codes "end") then Asks else Tells

-- ---- what was read

-- the far end with its trace, and the reader of the host's lines
pub record Reading : Type 0 where
  pub played : Played
  pub reader : Pipe

abbrev pub reading : {T R : Type 0} {g : Ghosts T} → (R → Option (List ℕ)) → FarEnd T g → Watched R
    → Reading
reading remaining far reader = record {
  played = played_of far;
  reader = pipe_of remaining reader;
}

-- nothing was left to read, and nothing was done
pub record ReadsEnd (old new : Reading) : Type 0 where
  pub nothing : Reads old.reader [] new.reader
  pub ended : IsAtEnd new.reader.bytes
  pub same : new.played ≡ old.played

-- a line was read that reports something, and it begins so: in its first 1,024 bytes
pub record ReadsTold (old : Reading) (front : List ℕ) (new : Reading) : Type 0 where
  pub line : List ℕ
  pub unbroken : IsUnbroken line
  pub whole : Reads old.reader (line ++ 10 ∷ []) new.reader
  pub begins : front ≡ take 1024 line
  pub told : is_told old.played.far.phase front ≡ true
  pub moved : new.played ≡ record old.played {
    far = record old.played.far { phase = phase_behind old.played.far.phase front };
  }

-- a line was read that asks a question which may stand there
pub record ReadsQuestion (phase : Phase) (old : Pipe) (q : Question) (new : Pipe) : Type 0 where
  pub line : List ℕ
  pub unbroken : IsUnbroken line
  pub whole : Reads old (line ++ 10 ∷ []) new
  pub question : IsQuestion q
  pub asks : IsQuestionLine line q
  pub may : may_ask phase q ≡ true

-- ---- what is wrong with a line

-- this much was read, and nothing was done
pub record OnlyReads (old : Reading) (bytes : List ℕ) (new : Reading) : Type 0 where
  pub unbroken : IsUnbroken bytes
  pub read : Consumes old.reader.bytes new.reader.bytes bytes
  pub played : new.played ≡ old.played

-- the reader did not fail
abbrev pub ReadsOn : Reading → Reading → Type 0
ReadsOn old new = new.reader.failed ≡ old.reader.failed

-- a line may go on behind these bytes
abbrev pub MayGoOn : Phase → List ℕ → Type 0
MayGoOn phase bytes = is_told phase (take 1024 bytes) ≡ false → length bytes ≤ 1024

-- a line of at most 1,024 bytes was read that reports nothing, and nothing was done
pub record OnlyReadsLine (old : Reading) (line : List ℕ) (new : Reading) : Type 0 where
  pub unbroken : IsUnbroken line
  pub short : length line ≤ 1024
  pub other : is_told old.played.far.phase line ≡ false
  pub whole : Reads old.reader (line ++ 10 ∷ []) new.reader
  pub played : new.played ≡ old.played

-- the cause of each fault of a line, with what was read
pub data Misread (old new : Reading) : FarFault → Type 0 where
  unread : (bytes : List ℕ) → OnlyReads old bytes new → MayGoOn old.played.far.phase bytes
      → new.reader.failed ≡ true → Misread old new fault.Read
  cut_off : (bytes : List ℕ) → bytes ≢ [] → OnlyReads old bytes new
      → MayGoOn old.played.far.phase bytes
      → ReadsOn old new → IsAtEnd new.reader.bytes ⊎ (2 ^ 64 ≤ length bytes)
      → Misread old new fault.HostGone
  too_long : (bytes : List ℕ) → OnlyReads old bytes new → length bytes ≡ 1025
      → is_told old.played.far.phase (take 1024 bytes) ≡ false → ReadsOn old new
      → Misread old new fault.LineTooLong
  unprintable : (line : List ℕ) → OnlyReadsLine old line new → all_printable line ≡ false
      → Misread old new fault.BadCharacter
  no_question : (line : List ℕ) → OnlyReadsLine old line new → all_printable line ≡ true
      → ((q : Question) → IsQuestion q → IsQuestionLine line q → may_ask old.played.far.phase q
      ≡ false)
      → Misread old new fault.NoQuestion

-- ---- the next line

abbrev pub TakesLine : Reading → Result HostLine FarFault → Reading → Type 0
TakesLine old (Ok Ended) new = ReadsEnd old new
TakesLine old (Ok (Told front)) new = ReadsTold old front.items new
TakesLine old (Ok (Asked q)) new =
    ReadsQuestion old.played.far.phase old.reader q new.reader × (new.played ≡ old.played)
TakesLine old (Err f) new = Misread old new f

-- of the private functions

-- a line that asks nothing which may stand there
abbrev pub HasNoQuestion : Phase → List ℕ → FarFault → Type 0
HasNoQuestion phase line f =
    ((f ≡ fault.BadCharacter) × (all_printable line ≡ false))
    ⊎ ((f ≡ fault.NoQuestion) × (all_printable line ≡ true)
    × ((q : Question) → IsQuestion q → IsQuestionLine line q → may_ask phase q ≡ false))

-- a line that asks this question, which may stand there
pub record HasQuestion (phase : Phase) (line : List ℕ) (q : Question) : Type 0 where
  pub is : IsQuestion q
  pub asks : IsQuestionLine line q
  pub may : may_ask phase q ≡ true
