-- What is read and what goes out, line by line, and why it ends.
use Rattle.std.specs.Prelude.{◌≡◌, ◌⊎◌, ℕ, ◌+◌, ◌-◌, ◌^◌, Bool, true, false, not, ◌&&◌, ◌||◌}
use Rattle.std.specs.Prelude.{List, [], ◌∷◌, ◌++◌, take}
use Rattle.std.specs.Prelude.{Option, None, Some, Result, Ok, Err}
use Rattle.std.specs.Io.KnownBytes.{Appends, Consumes, IsAtEnd}
use Rattle.usb_sim.specs.{Ghosts}
use Rattle.usb_watch.specs.{Watched, is_some_text, Flushes, IsUnbroken, OutPipe, Pipe, out_pipe_of}
use Rattle.usb_watch.specs.{pipe_of}
use Rattle.usb_wire.specs.{IsQuestion, IsQuestionLine, Question}
use Rattle.usb_far.specs.declared.far_end.FarEnd.{FarEnd}
use Rattle.usb_far.specs.declared.fault.FarFault.{FarFault}
use Rattle.usb_far.specs.declared.fault.FarFault.TheVariants as fault
use Rattle.usb_far.specs.FarEnd.{Far, HasNoReply, IsReplied, IsUnanswered, Played, done}
use Rattle.usb_far.specs.FarEnd.{played_of, rest_behind}
use Rattle.usb_far.specs.Told.{Misread, Reading, ReadsQuestion, is_told, phase_behind}

-- ---- lines that are answered

-- what went through: bytes of the host, bytes to the host, and those of the trace
pub record Passed : Type 0 where
  pub asked : List ℕ
  pub said : List ℕ
  pub traced : List ℕ

abbrev pub passed : List ℕ → List ℕ → List ℕ → Passed
passed asked said traced = record { asked = asked; said = said; traced = traced }

-- one behind the other
abbrev pub and_then : Passed → Passed → Passed
and_then p q = passed (p.asked ++ q.asked) (p.said ++ q.said) (p.traced ++ q.traced)

-- the first attempts of a row were replied to, each moved its packet, and this is left of the row
pub data GoesOn (asked : Question) (old : Far) : List ℕ → List ℕ → Far → Question → Type 0 where
  begun : GoesOn asked old [] [] old asked
  more : {said traced lines : List ℕ} {mid new : Far} {q rest : Question}
      → GoesOn asked old said traced mid q → (r : IsReplied q mid new lines)
      → rest_behind q r.answer ≡ Some rest
      → GoesOn asked old (said ++ lines) (traced ++ (done q mid).traced) new rest

-- the replies to a question: one; or one to each attempt of a row, until one moved no packet or
-- none was left
pub data RowReplied (asked : Question) (old : Far) : List ℕ → List ℕ → Far → Type 0 where
  over : {said traced lines : List ℕ} {mid new : Far} {q : Question}
      → GoesOn asked old said traced mid q → (r : IsReplied q mid new lines)
      → rest_behind q r.answer ≡ None
      → RowReplied asked old (said ++ lines) (traced ++ (done q mid).traced) new

-- a line was read, and its reply is this: of a question its lines, of what is told none. Of a told
-- line
-- of more than 1,024 bytes the first 1,024 count
pub data LineReplied (old : Far) : Passed → Far → Type 0 where
  asked : {new : Far} {reply traced : List ℕ} (line : List ℕ) (q : Question)
      → IsUnbroken line → IsQuestion q → IsQuestionLine line q → RowReplied q old reply traced new
      → LineReplied old (passed (line ++ 10 ∷ []) reply traced) new
  told : (line : List ℕ) → IsUnbroken line → is_told old.phase (take 1024 line) ≡ true
      → LineReplied old (passed (line ++ 10 ∷ []) [] [])
      (record old { phase = phase_behind old.phase (take 1024 line) })

-- so many lines were read, one after the other, and their replies are these
pub data AllReplied (old : Far) : ℕ → Passed → Far → Type 0 where
  none : AllReplied old 0 (passed [] [] []) old
  next : {count : ℕ} {mid new : Far} {p q : Passed} → AllReplied old count p mid
      → LineReplied mid q new → AllReplied old (count + 1) (and_then p q) new

-- ---- what is seen of all that

-- the far end with its trace, the reader of the host's lines and the writer of the replies
pub record Scene : Type 0 where
  pub played : Played
  pub reader : Pipe
  pub writer : OutPipe

abbrev pub scene : {T R W : Type 0} {g : Ghosts T} → (R → Option (List ℕ)) → (W → Option (List ℕ))
    → FarEnd T g → Watched R → Watched W → Scene
scene remaining contents far reader writer = record {
  played = played_of far;
  reader = pipe_of remaining reader;
  writer = out_pipe_of contents writer;
}

-- exactly that went through, what was said was flushed, and neither the reader nor the writer
-- failed
pub record Passes (old : Scene) (p : Passed) (new : Scene) : Type 0 where
  pub read : Consumes old.reader.bytes new.reader.bytes p.asked
  pub written : Appends old.writer.bytes new.writer.bytes p.said
  pub traced : Appends old.played.trace.bytes new.played.trace.bytes p.traced
  pub reads : new.reader.failed ≡ old.reader.failed
  pub writes : new.writer.failed ≡ old.writer.failed
  pub flushed : new.writer.pending ≡ (old.writer.pending && not (is_some_text p.said))

abbrev pub reading_in : Scene → Reading
reading_in s = record { played = s.played; reader = s.reader }

-- ---- why a line stops the far end

-- the replies to the first attempts of a row have gone out, each was flushed before the next
-- attempt, and this is left of the row; nothing yet, where all of the question is left
pub data RowFront (asked : Question) (old : Played) (before : OutPipe) : Played → OutPipe → Question
    → Type 0 where
  begun : RowFront asked old before old before asked
  further : {mid new : Played} {w now : OutPipe} {q rest : Question} {lines : List ℕ}
      → RowFront asked old before mid w q → (r : IsReplied q mid.far new.far lines)
      → rest_behind q r.answer ≡ Some rest
      → Appends mid.trace.bytes new.trace.bytes (done q mid.far).traced → Flushes w lines now
      → RowFront asked old before new now rest

-- the reply was made and traced, and the writer failed: a front of it has gone out; or all of it,
-- and the flush failed. Nothing of the next line was read
pub record IsUnwritten (q : Question) (old : Played) (before : OutPipe) (new : Played)
    (now : OutPipe) : Type 0 where
  pub gone : List ℕ
  pub rest : List ℕ
  pub replied : IsReplied q old.far new.far (gone ++ rest)
  pub written : Appends before.bytes now.bytes gone
  pub traced : Appends old.trace.bytes new.trace.bytes (done q old.far).traced
  pub failed : now.failed ≡ true
  pub pending : now.pending ≡ (before.pending || is_some_text gone)

-- the cause of each fault, with what was read, done and written in that line
pub data CauseOf (old new : Scene) : FarFault → Type 0 where
  misread : {f : FarFault} → Misread (reading_in old) (reading_in new) f → new.writer ≡ old.writer
      → CauseOf old new f
  unanswered : {mid : Played} {w : OutPipe} (f : FarFault) (q left : Question)
      → ReadsQuestion old.played.far.phase old.reader q new.reader
      → RowFront q old.played old.writer mid w left
      → IsUnanswered left mid f new.played → new.writer ≡ w → CauseOf old new f
  unwritten : {mid : Played} {w : OutPipe} (q left : Question)
      → ReadsQuestion old.played.far.phase old.reader q new.reader
      → RowFront q old.played old.writer mid w left
      → IsUnwritten left mid w new.played new.writer → CauseOf old new fault.Write

-- ---- the whole

-- one line was read, and its reply has gone out and was flushed
pub record ServedOne (old new : Scene) : Type 0 where
  pub passed : Passed
  pub replied : LineReplied old.played.far passed new.played.far
  pub passes : Passes old passed new

-- so many lines, each answered before the next one was read: between two of them just those before
-- were read, and just their replies have gone out and were flushed
pub data InTurn (old : Scene) : ℕ → Scene → Type 0 where
  none : InTurn old 0 old
  next : {count : ℕ} {mid new : Scene} → InTurn old count mid → ServedOne mid new
      → InTurn old (count + 1) new

-- all of it was read and answered, line by line, and at last nothing was left to read
pub record ServedAll (old new : Scene) : Type 0 where
  pub count : ℕ
  pub mid : Scene
  pub turns : InTurn old count mid
  pub over : Passes mid (passed [] [] []) new
  pub passed : Passed
  pub replies : AllReplied old.played.far count passed new.played.far
  pub passes : Passes old passed new
  pub ended : IsAtEnd new.reader.bytes

-- no more lines than that are counted
abbrev pub IsLastLine : Scene → ℕ → FarFault → Scene → Type 0
IsLastLine old number f new = (number ≡ 2 ^ 64 - 1) × (f ≡ fault.LineTooLong) × (new ≡ old)

-- the lines before the one of this number were answered, and that one has this fault
pub record ServedUpTo (old : Scene) (number : ℕ) (f : FarFault) (new : Scene) : Type 0 where
  pub count : ℕ
  pub passed : Passed
  pub mid : Scene
  pub turns : InTurn old count mid
  pub replies : AllReplied old.played.far count passed mid.played.far
  pub passes : Passes old passed mid
  pub next : number ≡ count + 1
  pub stops : CauseOf mid new f ⊎ IsLastLine mid number f new

abbrev pub ServesHost : Scene → Result (Unit {0}) (ℕ × FarFault) → Scene → Type 0
ServesHost old (Ok _) new = ServedAll old new
ServesHost old (Err end) new = ServedUpTo old end.0 end.1 new

-- of the private functions: the lines so far, and that none is left

pub record ServedSome (old : Scene) (count : ℕ) (new : Scene) : Type 0 where
  pub turns : InTurn old count new
  pub passed : Passed
  pub replies : AllReplied old.played.far count passed new.played.far
  pub passes : Passes old passed new

pub record ServedNone (old new : Scene) : Type 0 where
  pub passes : Passes old (passed [] [] []) new
  pub ended : IsAtEnd new.reader.bytes
  pub same : new.played.far ≡ old.played.far

abbrev pub ServesNext : Scene → Result Bool FarFault → Scene → Type 0
ServesNext old (Ok true) new = ServedOne old new
ServesNext old (Ok false) new = ServedNone old new
ServesNext old (Err f) new = CauseOf old new f

-- all replies to a question have gone out, each was flushed: behind the last one nothing is left
pub record AllReplies (asked : Question) (before : OutPipe) (old new : Played) (now : OutPipe) :
    Type 0 where
  pub mid : Played
  pub w : OutPipe
  pub last : Question
  pub lines : List ℕ
  pub front : RowFront asked old before mid w last
  pub replied : IsReplied last mid.far new.far lines
  pub over : rest_behind last replied.answer ≡ None
  pub traced : Appends mid.trace.bytes new.trace.bytes (done last mid.far).traced
  pub gone : Flushes w lines now

-- the next attempt has no reply, or its reply could not be written
abbrev pub RowEnds : Question → Played → OutPipe → FarFault → Played → OutPipe → Type 0
RowEnds left mid w f new now =
    (HasNoReply left mid f new × (now ≡ w))
    ⊎ ((f ≡ fault.Write) × IsUnwritten left mid w new now)

pub record RowStops (asked : Question) (before : OutPipe) (old : Played) (f : FarFault)
    (new : Played) (now : OutPipe) : Type 0 where
  pub mid : Played
  pub w : OutPipe
  pub left : Question
  pub front : RowFront asked old before mid w left
  pub stops : RowEnds left mid w f new now

abbrev pub RepliesAll : Question → OutPipe → Played → Result (Unit {0}) FarFault → Played → OutPipe
    → Type 0
RepliesAll q before old (Ok _) new now = AllReplies q before old new now
RepliesAll q before old (Err f) new now = RowStops q before old f new now
