-- A bus behind a stream of lines: what a question reads and writes, and what is kept of that.
use Rattle.std.specs.Prelude.{◌≡◌, ◌≢◌, ◌⊎◌, ℕ, zero, suc, ◌+◌, ◌-◌, ◌^◌, min, ◌<◌, ◌≤◌}
use Rattle.std.specs.Prelude.{nat_lt, Bool, true, false, if◌then◌else◌, List, [], ◌∷◌, ◌++◌, length}
use Rattle.std.specs.Prelude.{replicate, slice_index_or, slice_set, Option, Some, None, Result, Ok}
use Rattle.std.specs.Prelude.{Err, ◌*◌, ◌/◌, ◌&&◌, take, drop}
use Rattle.std.specs.Int.{div_ceil}
use Rattle.std.specs.Io.KnownBytes.{IsAtEnd}
use Rattle.usb_request.specs.{setup_of}
use Rattle.usb_port.specs.{PortCall}
use Rattle.usb_watch.specs.{FailsToFlush, Flushes, IsUnbroken, OutPipe, Pipe, ReadPart, Reads}
use Rattle.usb_watch.specs.{out_pipe_of, pipe_of}
use Rattle.usb_wire.specs.{Hubs, IsSaidLine, MaySay, MaySayTo, kind_asked, line_fault}
use Rattle.usb_wire.specs.{question_line, Answer, Said, LineTooLong, WireFault, Changed, Answered}
use Rattle.usb_wire.specs.{Asked, DataPacket, Endpoint, Question, row_limit}
use Rattle.usb_packet.specs.{Toggle, flips}
use Rattle.usb_bus.specs.{RowDone, RowEnd, Whole, Answered as EndAnswered, Faulted, is_full}
use Rattle.usb_wire.specs.declared.answer.Answer.TheVariants as answer
use Rattle.usb_wire.specs.declared.question.Asked.TheVariants as asked
use Rattle.usb_wire.specs.declared.question.Question.TheVariants.{Hello, Setup, Out, In, Port}
use Rattle.usb_wire.specs.declared.question.Question.TheVariants.{Ins, Outs, Restart}
use Rattle.usb_world.specs.{Destination, destination_of, Outcome, no_losses, World, BusFault}
use Rattle.usb_world.specs.declared.types.Attempt.{Attempt}
use Rattle.usb_world.specs.declared.types.Attempt.TheVariants as attempt
use Rattle.usb_world.specs.declared.types.Outcome.TheVariants.{Payload, Ack, Nak, Stall, Nothing}
use Rattle.usb_stream.specs.declared.bus.StreamBus.{StreamBus}
use Rattle.usb_stream.specs.declared.fault.LiveFault.{LiveFault}
use Rattle.usb_stream.specs.declared.fault.LiveFault.TheVariants.{LimitReached, Write}
use Rattle.usb_stream.specs.declared.fault.LiveFault.TheVariants as fault
use Rattle.usb_device.specs.{new_ports}
use Rattle.usb_world.specs.declared.types.BusFault.TheVariants as bus

-- ---- attempts as questions

abbrev pub endpoint_of : Destination → Endpoint
endpoint_of to = record { address = to.address; number = to.number }

-- the question for an attempt
abbrev pub question_for : Attempt → Question
question_for (attempt.Setup to bytes) = Setup to.speed (endpoint_of to) (setup_of bytes)
question_for (attempt.Out to toggle bytes) =
    Out to.speed (endpoint_of to) (record { toggle = toggle; bytes = bytes })
question_for (attempt.In to) = In to.speed (endpoint_of to) to.max

-- more data than the endpoint's maximum packet are none (8.7.4)
abbrev pub data_for : ℕ → DataPacket → Outcome
data_for most sent = if nat_lt most (length sent.bytes.items) then Nothing else Payload sent.toggle
    sent.bytes

abbrev pub outcome_for : ℕ → Answer → Outcome
outcome_for most (answer.Data sent) = data_for most sent
outcome_for most answer.Ack = Ack
outcome_for most answer.Nak = Nak
outcome_for most answer.Stall = Stall
outcome_for most answer.Nothing = Nothing
outcome_for most _ = Nothing

-- ---- what is kept

-- how many root ports there are, whether hubs may have 8 to 15 ports, whether the far end takes
-- rows and how many answers of the row that was asked last are still to come, the statuses of the
-- root ports as they were told last, how many more questions may be asked, for how many attempts
-- one went out, how many lines were read, and why nothing is asked any more
pub record Kept : Type 0 where
  pub roots : ℕ
  pub wide : Bool
  pub rows : Bool
  pub ahead : ℕ
  pub statuses : List (List ℕ)
  pub left : ℕ
  pub attempts : ℕ
  pub lines : ℕ
  pub fault : Option LiveFault

abbrev pub kept_of : {R W : Type 0} → StreamBus R W → Kept
kept_of b = record {
  roots = b.roots;
  wide = b.wide;
  rows = b.rows;
  ahead = b.ahead;
  statuses = b.statuses;
  left = b.left;
  attempts = b.attempts;
  lines = b.lines;
  fault = b.fault;
}

-- the ports that are known
abbrev pub hubs_of : Kept → Hubs
hubs_of k = record { roots = k.roots; wide = k.wide }

-- the reader and the writer of a bus
abbrev pub unread_of : {R W : Type 0} → (R → Option (List ℕ)) → StreamBus R W → Pipe
unread_of remaining b = pipe_of remaining b.reader

abbrev pub written_of : {R W : Type 0} → (W → Option (List ℕ)) → StreamBus R W → OutPipe
written_of contents b = out_pipe_of contents b.writer

-- ---- what is read and written

-- the reader and the writer, before and after
pub record StreamPipes : Type 0 where
  pub unread : Pipe
  pub left : Pipe
  pub before : OutPipe
  pub now : OutPipe

abbrev pub streams : Pipe → Pipe → OutPipe → OutPipe → StreamPipes
streams unread left before now = record { unread = unread; left = left; before = before; now = now }

-- so many lines more are counted, up to the greatest u64
abbrev pub counted_on : ℕ → ℕ → ℕ
counted_on lines zero = lines
counted_on lines (suc more) = min (counted_on lines more + 1) (2 ^ 64 - 1)

-- so many lines that tell statuses of root ports were read, each is kept
pub data StatusesRead (a : Asked) (roots : ℕ) (old : List (List ℕ)) : ℕ → List ℕ → List (List ℕ)
    → Type 0 where
  none : StatusesRead a roots old 0 [] old
  next : {n : ℕ} {text : List ℕ} {mid : List (List ℕ)} (line : List ℕ) (number : ℕ)
      (status : List ℕ)
      → StatusesRead a roots old n text mid → IsUnbroken line
      → MaySay a roots (Changed number status) → IsSaidLine line (Changed number status)
      → StatusesRead a roots old (n + 1) (text ++ (line ++ 10 ∷ []))
      (slice_set mid (number - 1) status)

-- the same, with what is kept; neither did the reader fail
pub record PushesRead (a : Asked) (pushed : ℕ) (unread left : Pipe) (old new : Kept) : Type 0 where
  pub text : List ℕ
  pub told : StatusesRead a old.roots old.statuses pushed text new.statuses
  pub read : Reads unread text left

-- a line was read that says this
pub record SaidLine (a : Asked) (hubs : Hubs) (unread left : Pipe) (said : Said) : Type 0 where
  pub line : List ℕ
  pub unbroken : IsUnbroken line
  pub may : MaySayTo a hubs said
  pub says : IsSaidLine line said
  pub read : Reads unread (line ++ 10 ∷ []) left

-- the input has ended in place of what is wanted
pub record SaidEnd (a : Asked) (unread left : Pipe) (said : Said) : Type 0 where
  pub wanted : a ≡ asked.Wait
  pub is : said ≡ Answered answer.End
  pub read : Reads unread [] left
  pub ended : IsAtEnd left.bytes

abbrev pub Says : Asked → Hubs → Pipe → Pipe → Said → Type 0
Says a hubs unread left said = SaidLine a hubs unread left said ⊎ SaidEnd a unread left said

-- at most 64 statuses, and then the answer: each is a line, and is counted
pub record AnswerLinesRead (a : Asked) (unread left : Pipe) (old : Kept) (got : Answer)
    (new : Kept) : Type 0 where
  pub pushed : ℕ
  pub few : pushed ≤ 64
  pub mid : Pipe
  pub told : PushesRead a pushed unread mid old new
  pub answered : Says a (hubs_of old) mid left (Answered got)
  pub lines : new.lines ≡ counted_on old.lines (pushed + 1)

-- ---- why an answer was not heard

-- a line that says nothing: it has this fault, or more than 1,024 bytes, of which the first 1,025
-- were read
pub data BadLine (a : Asked) (hubs : Hubs) (unread left : Pipe) : WireFault → Type 0 where
  whole : {f : WireFault} (line : List ℕ) → IsUnbroken line → line_fault a hubs line ≡ Some f
      → Reads unread (line ++ 10 ∷ []) left → BadLine a hubs unread left f
  long : (bytes : List ℕ) → IsUnbroken bytes → length bytes ≡ 1025 → Reads unread bytes left
      → BadLine a hubs unread left LineTooLong

-- the reader failed in a line
pub record FailsToRead (unread left : Pipe) : Type 0 where
  pub part : ReadPart unread.bytes left.bytes
  pub marked : left.failed ≡ true

-- the input ended in mid-line, or in place of an answer that is not of what is wanted
pub record EndsEarly (a : Asked) (unread left : Pipe) : Type 0 where
  pub part : List ℕ
  pub unbroken : IsUnbroken part
  pub gone : part ≢ [] ⊎ a ≢ asked.Wait
  pub read : Reads unread part left
  pub ended : IsAtEnd left.bytes

-- what is wrong with the next line
abbrev pub CauseOfLine : Asked → Hubs → Pipe → Pipe → LiveFault → Type 0
CauseOfLine a hubs unread left fault.Read = FailsToRead unread left
CauseOfLine a hubs unread left (fault.Line f) = BadLine a hubs unread left f
CauseOfLine a hubs unread left fault.Gone = EndsEarly a unread left
CauseOfLine a hubs unread left fault.TooManyPushes = ⊥
CauseOfLine a hubs unread left Write = ⊥
CauseOfLine a hubs unread left LimitReached = ⊥

-- at most 64 statuses came, and then a line, or none, with this fault
pub record HeardUpTo (a : Asked) (unread left : Pipe) (old new : Kept) (f : LiveFault) : Type 0
  where
    pub pushed : ℕ
    pub few : pushed ≤ 64
    pub mid : Pipe
    pub told : PushesRead a pushed unread mid old new
    pub cause : CauseOfLine a (hubs_of old) mid left f
    pub lines : new.lines ≡ counted_on old.lines (pushed + 1)

-- 65 statuses came before an answer
pub record HeardTooMany (a : Asked) (unread left : Pipe) (old new : Kept) : Type 0 where
  pub told : PushesRead a 65 unread left old new
  pub lines : new.lines ≡ counted_on old.lines 65

abbrev pub CauseOfHearing : Asked → Pipe → Pipe → Kept → Kept → LiveFault → Type 0
CauseOfHearing a unread left old new fault.Read = HeardUpTo a unread left old new fault.Read
CauseOfHearing a unread left old new (fault.Line f) =
    HeardUpTo a unread left old new (fault.Line f)
CauseOfHearing a unread left old new fault.Gone = HeardUpTo a unread left old new fault.Gone
CauseOfHearing a unread left old new fault.TooManyPushes = HeardTooMany a unread left old new
CauseOfHearing a unread left old new Write = ⊥
CauseOfHearing a unread left old new LimitReached = ⊥

-- ---- a question

-- the line of a question
abbrev pub asking : Question → List ℕ
asking q = question_line q ++ 10 ∷ []

-- how many attempts so many questions of a kind are
abbrev pub attempts_in : Asked → ℕ → ℕ
attempts_in asked.Attempt n = n
attempts_in asked.Hello n = 0
attempts_in asked.Port n = 0
attempts_in asked.Wait n = 0

-- how many answers come behind the first one, at most: those of the other attempts of a row
abbrev pub more_answers : Question → ℕ
more_answers (Ins speed endpoint most toggle packets) = packets - 1
more_answers (Outs speed endpoint most toggle bytes) = div_ceil (length bytes.items) most - 1
more_answers _ = 0

-- a question went out as one line and was flushed, one question less is left, an attempt is counted
-- where it asks for one, and its answer was heard, of a row the first one
pub record AskedWell (q : Question) (s : StreamPipes) (old : Kept) (got : Answer) (new : Kept) :
    Type 0 where
  pub written : Flushes s.before (asking q) s.now
  pub heard : AnswerLinesRead (kind_asked q) s.unread s.left old got new
  pub one : new.left + 1 ≡ old.left
  pub attempts : new.attempts ≡ old.attempts + attempts_in (kind_asked q) 1
  pub roots : new.roots ≡ old.roots
  pub wide : new.wide ≡ old.wide
  pub rows : new.rows ≡ old.rows
  pub ahead : new.ahead ≡ more_answers q
  pub sound : new.fault ≡ None

-- how many questions went out, or a front of one, that ended with a fault
abbrev pub questions : LiveFault → ℕ
questions fault.Read = 1
questions (fault.Line f) = 1
questions fault.TooManyPushes = 1
questions fault.Gone = 1
questions fault.Write = 1
questions fault.LimitReached = 0

-- the question went out and was flushed, and its answer was not heard
pub record IsUnheard (q : Question) (s : StreamPipes) (old : Kept) (f : LiveFault) (new : Kept) :
    Type 0 where
  pub written : Flushes s.before (asking q) s.now
  pub heard : CauseOfHearing (kind_asked q) s.unread s.left old new f

-- the writer failed before anything was read
pub record IsUnwritten (q : Question) (s : StreamPipes) (old new : Kept) : Type 0 where
  pub torn : FailsToFlush s.before (asking q) s.now
  pub unread : s.left ≡ s.unread
  pub statuses : new.statuses ≡ old.statuses
  pub lines : new.lines ≡ old.lines

-- no question was left, and nothing was written or read
pub record IsAtLimit (s : StreamPipes) (old new : Kept) : Type 0 where
  pub none : old.left ≡ 0
  pub unread : s.left ≡ s.unread
  pub unwritten : s.now ≡ s.before
  pub statuses : new.statuses ≡ old.statuses
  pub lines : new.lines ≡ old.lines

-- the cause of each fault
abbrev pub CauseOf : Question → StreamPipes → Kept → Kept → LiveFault → Type 0
CauseOf q s old new fault.Read = IsUnheard q s old fault.Read new
CauseOf q s old new (fault.Line f) = IsUnheard q s old (fault.Line f) new
CauseOf q s old new fault.TooManyPushes = IsUnheard q s old fault.TooManyPushes new
CauseOf q s old new fault.Gone = IsUnheard q s old fault.Gone new
CauseOf q s old new Write = IsUnwritten q s old new
CauseOf q s old new LimitReached = IsAtLimit s old new

-- a fault is kept, for its cause; one question less is left, and what asks for an attempt is
-- counted; at the limit neither
pub record AsksNoMore (q : Question) (s : StreamPipes) (old : Kept) (f : LiveFault) (new : Kept) :
    Type 0 where
  pub kept : new.fault ≡ Some f
  pub cause : CauseOf q s old new f
  pub spent : new.left + questions f ≡ old.left
  pub attempts : new.attempts ≡ old.attempts + attempts_in (kind_asked q) (questions f)
  pub roots : new.roots ≡ old.roots
  pub wide : new.wide ≡ old.wide
  pub rows : new.rows ≡ old.rows

abbrev pub AsksOnce : Question → StreamPipes → Kept → Result Answer LiveFault → Kept → Type 0
AsksOnce q s old (Ok got) new = AskedWell q s old got new
AsksOnce q s old (Err f) new = AsksNoMore q s old f new

-- the same of a bus that has not kept the fault yet
abbrev pub FailsOnce : Question → StreamPipes → Kept → Result Answer LiveFault → Kept → Type 0
FailsOnce q s old (Ok got) new = AskedWell q s old got new
FailsOnce q s old (Err f) new = AsksNoMore q s old f (record new { fault = Some f })

-- nothing was asked
pub record AsksNoQuestion (s : StreamPipes) (old new : Kept) : Type 0 where
  pub same : new ≡ old
  pub unread : s.left ≡ s.unread
  pub unwritten : s.now ≡ s.before

-- an attempt was asked for, and this is what its answer gives
pub record GivesAs (q : Question) (most : ℕ) (s : StreamPipes) (old : Kept) (outcome : Outcome)
    (new : Kept) : Type 0 where
  pub got : Answer
  pub asked : AskedWell q s old got new
  pub is : outcome ≡ outcome_for most got

-- what a fault is to a host: the limit is reached, or else the bus itself failed
abbrev pub bus_fault : LiveFault → BusFault
bus_fault fault.Read = bus.Failed
bus_fault (fault.Line f) = bus.Failed
bus_fault fault.TooManyPushes = bus.Failed
bus_fault fault.Gone = bus.Failed
bus_fault fault.Write = bus.Failed
bus_fault fault.LimitReached = bus.Limit

-- an attempt was asked for, and a fault is kept, which is told as it is to a host
pub record FailsByLine (q : Question) (s : StreamPipes) (old : Kept) (told : BusFault)
    (new : Kept) : Type 0 where
  pub f : LiveFault
  pub asked : AsksNoMore q s old f new
  pub is : told ≡ bus_fault f

abbrev pub AttemptsBy : Question → ℕ → StreamPipes → Kept → Result Outcome BusFault → Kept → Type 0
AttemptsBy q most s old (Ok outcome) new = GivesAs q most s old outcome new
AttemptsBy q most s old (Err told) new = FailsByLine q s old told new

-- an attempt is one question
abbrev pub AttemptsByLine : Attempt → StreamPipes → Kept → Result Outcome BusFault → Kept → Type 0
AttemptsByLine a s old result new =
    AttemptsBy (question_for a) (destination_of a).max s old result new

-- ---- rows

-- one more answer of the row that was asked last was heard, and nothing was written; an attempt is
-- counted
pub record HeardMore (s : StreamPipes) (old : Kept) (got : Answer) (new : Kept) : Type 0 where
  pub unwritten : s.now ≡ s.before
  pub heard : AnswerLinesRead asked.Attempt s.unread s.left old got new
  pub due : old.ahead ≡ new.ahead + 1
  pub left : new.left ≡ old.left
  pub attempts : new.attempts ≡ old.attempts + 1
  pub roots : new.roots ≡ old.roots
  pub wide : new.wide ≡ old.wide
  pub rows : new.rows ≡ old.rows
  pub sound : new.fault ≡ None

-- the same, and it was not heard: that fault is kept, for its cause
pub record HearsNoMore (s : StreamPipes) (old : Kept) (f : LiveFault) (new : Kept) : Type 0 where
  pub kept : new.fault ≡ Some f
  pub unwritten : s.now ≡ s.before
  pub cause : CauseOfHearing asked.Attempt s.unread s.left old new f
  pub due : old.ahead ≡ new.ahead + 1
  pub left : new.left ≡ old.left
  pub attempts : new.attempts ≡ old.attempts + 1
  pub roots : new.roots ≡ old.roots
  pub wide : new.wide ≡ old.wide
  pub rows : new.rows ≡ old.rows

abbrev pub HearsMore : StreamPipes → Kept → Result Answer LiveFault → Kept → Type 0
HearsMore s old (Ok got) new = HeardMore s old got new
HearsMore s old (Err f) new = HearsNoMore s old f new

-- an attempt of a row stands in the line that was asked last: it is not the first of the row, and
-- an answer is still to come
abbrev pub was_asked : ℕ → ℕ → Bool
was_asked moved ahead = nat_lt 0 moved && nat_lt 0 ahead

-- so one more answer is heard, or else this is asked
abbrev pub StepBy : Bool → Question → StreamPipes → Kept → Result Answer LiveFault → Kept → Type 0
StepBy true q s old result new = HearsMore s old result new
StepBy false q s old result new = AsksOnce q s old result new

abbrev pub RowStep : ℕ → Question → StreamPipes → Kept → Result Answer LiveFault → Kept → Type 0
RowStep moved q s old result new = StepBy (was_asked moved old.ahead) q s old result new

-- the question of INs of which so many packets are left: a row of all of them where the far end
-- takes rows, and else, as for one packet, a single attempt
abbrev pub ins_for : Bool → Destination → Toggle → ℕ → Question
ins_for rows to due left =
    if rows && nat_lt 1 left then Ins to.speed (endpoint_of to) to.max due left
    else In to.speed (endpoint_of to) to.max

-- as many bytes as a line has room for, in whole packets
abbrev pub room_of : ℕ → ℕ
room_of max = row_limit / max * max

-- the question of OUTs of which these bytes are left
abbrev pub outs_for : Bool → Destination → Toggle → List ℕ → Question
outs_for rows to due rest =
    if rows && nat_lt to.max (length rest)
    then Outs to.speed (endpoint_of to) to.max due (record { items = take (room_of to.max) rest })
    else Out to.speed (endpoint_of to)
    (record { toggle = due; bytes = record { items = take to.max rest } })

-- the data that an outcome brings
abbrev pub bytes_in : Outcome → List ℕ
bytes_in (Payload toggle bytes) = bytes.items
bytes_in _ = []

abbrev pub is_ack : Outcome → Bool
is_ack Ack = true
is_ack _ = false

-- the questions of a row by the number of packets that were moved before, which outcome moves the
-- next one, and the maximum packet
pub record RowPlan : Type 0 where
  pub ask : ℕ → Question
  pub moves : ℕ → Outcome → Bool
  pub max : ℕ

-- so many packets of a row were moved, each by the answer that was heard next; these data came
pub data RowHeard (plan : RowPlan) (unread : Pipe) (before : OutPipe) (old : Kept) : ℕ → List ℕ
    → Pipe → OutPipe → Kept → Type 0 where
  none_heard : RowHeard plan unread before old 0 [] unread before old
  one_heard : {n : ℕ} {got : List ℕ} {r left : Pipe} {w now : OutPipe} {j k : Kept}
      (answer : Answer)
      → RowHeard plan unread before old n got r w j
      → RowStep n (plan.ask n) (streams r left w now) j (Ok answer) k
      → plan.moves n (outcome_for plan.max answer) ≡ true
      → RowHeard plan unread before old (n + 1) (got ++ bytes_in (outcome_for plan.max answer)) left
      now k

-- the next answer moved no packet, and is the outcome that is told
pub record RowStops (plan : RowPlan) (moved : ℕ) (s : StreamPipes) (old : Kept)
    (outcome : Outcome) (new : Kept) : Type 0 where
  pub answer : Answer
  pub asked : RowStep moved (plan.ask moved) s old (Ok answer) new
  pub is : outcome ≡ outcome_for plan.max answer
  pub stops : plan.moves moved outcome ≡ false

-- a fault is kept in place of the next answer, and is told as it is to a host
pub record RowFails (plan : RowPlan) (moved : ℕ) (s : StreamPipes) (old : Kept) (told : BusFault)
    (new : Kept) : Type 0 where
  pub f : LiveFault
  pub asked : RowStep moved (plan.ask moved) s old (Err f) new
  pub is : told ≡ bus_fault f

-- behind the packets that were moved, of so many at most
abbrev pub RowEndsBy : RowPlan → ℕ → ℕ → StreamPipes → Kept → RowEnd → Kept → Type 0
RowEndsBy plan moved most s old Whole new = (moved ≡ most) × AsksNoQuestion s old new
RowEndsBy plan moved most s old (EndAnswered outcome) new = (moved < most)
    × RowStops plan moved s old outcome new
RowEndsBy plan moved most s old (Faulted told) new = (moved < most)
    × RowFails plan moved s old told new

pub record RowBy (plan : RowPlan) (most : ℕ) (s : StreamPipes) (old : Kept) (done : RowDone)
    (got : List ℕ) (new : Kept) : Type 0 where
  pub mid : Pipe
  pub between : OutPipe
  pub kept : Kept
  pub heard : RowHeard plan s.unread s.before old done.moved got mid between kept
  pub ends : RowEndsBy plan done.moved most (streams mid s.left between s.now) kept done.end new

-- a row of INs: each packet but those of the outcome that ended it is full, of the toggle that is
-- due
abbrev pub ins_plan : Bool → Destination → Toggle → ℕ → RowPlan
ins_plan rows to first most = record {
  ask = λ n. ins_for rows to (flips n first) (most - n);
  moves = λ n outcome. is_full to.max (flips n first) outcome;
  max = to.max;
}

abbrev pub InsByLine : Destination → Toggle → ℕ → StreamPipes → Kept → RowDone → List ℕ → Kept
    → Type 0
InsByLine to first most s old done got new =
    RowBy (ins_plan old.rows to first most) most s old done got new

-- a row of OUTs: each packet but the last is full, and all but the last that went were acknowledged
abbrev pub outs_plan : Bool → Destination → Toggle → List ℕ → RowPlan
outs_plan rows to first total = record {
  ask = λ n. outs_for rows to (flips n first) (drop (n * to.max) total);
  moves = λ n outcome. is_ack outcome;
  max = to.max;
}

abbrev pub OutsByLine : Destination → Toggle → List ℕ → StreamPipes → Kept → RowDone → Kept
    → Type 0
OutsByLine to first total s old done new = (got : List ℕ)
    × RowBy (outs_plan old.rows to first total) (div_ceil (length total) to.max) s old done got new

-- a bus with a fault tells it at the first attempt of a row, and nothing changes
abbrev pub RefusesRow : {R W : Type 0} → ℕ → LiveFault → StreamBus R W → RowDone → StreamBus R W
    → Type 0
RefusesRow most f old done new = (new ≡ old)
    × (0 < most → done ≡ record { moved = 0; end = Faulted (bus_fault f) })

-- a call is one question
pub record AsksCall (q : Question) (s : StreamPipes) (old new : Kept) : Type 0 where
  pub result : Result Answer LiveFault
  pub asked : AsksOnce q s old result new

-- at a root port that there is
abbrev pub Calls : ℕ → Option PortCall → StreamPipes → Kept → Kept → Type 0
Calls port None s old new = AsksNoQuestion s old new
Calls port (Some c) s old new = (1 ≤ port → port ≤ old.roots → AsksCall (Port port c) s old new)
    × (port ≡ 0 → AsksNoQuestion s old new) × (old.roots < port → AsksNoQuestion s old new)

-- an endpoint of the device at an address begins again
abbrev pub restart_of : ℕ → ℕ → Bool → Question
restart_of address number is_in = Restart (record { address = address; number = number }) is_in

abbrev pub Restarts : ℕ → ℕ → Bool → StreamPipes → Kept → Kept → Type 0
Restarts address number is_in s old new = AsksCall (restart_of address number is_in) s old new

-- lines were told and flushed, or a front of them where the writer failed, and that is kept
abbrev pub WritesLines : List ℕ → OutPipe → OutPipe → Kept → Result (Unit {0}) LiveFault → Kept
    → Type 0
WritesLines lines before now old (Ok done) new = Flushes before lines now × (new ≡ old)
WritesLines lines before now old (Err f) new =
    FailsToFlush before lines now × (f ≡ Write) × (new ≡ record old { fault = Some Write })

-- as it was told last
abbrev pub kept_status : Kept → ℕ → List ℕ
kept_status k port = slice_index_or k.statuses (port - 1) []

-- before the hello all statuses are 0
abbrev pub unasked : Bool → ℕ → Kept
unasked wide limit = record {
  roots = 1;
  wide = wide;
  rows = false;
  ahead = 0;
  statuses = replicate 7 (replicate 4 0);
  left = limit;
  attempts = 0;
  lines = 0;
  fault = None;
}

-- the answer to the hello is how many root ports there are, 1 to 7
abbrev pub roots_if : ℕ → Kept → Kept
roots_if roots k = if nat_lt roots 1 then k else if nat_lt 7 roots then k else record k {
  roots =
      roots;
}

abbrev pub greeted_by : Answer → Kept → Kept
greeted_by (answer.Roots roots) k = roots_if roots k
greeted_by (answer.RootsAndRows roots) k = record (roots_if roots k) { rows = true }
greeted_by _ k = k

abbrev pub greeted : Result Answer LiveFault → Kept → Kept
greeted (Ok got) k = greeted_by got k
greeted (Err f) k = k

-- the hello was asked
pub record SaysHello (wide : Bool) (limit : ℕ) (s : StreamPipes) (new : Kept) : Type 0 where
  pub result : Result Answer LiveFault
  pub mid : Kept
  pub asked : AsksOnce Hello s (unasked wide limit) result mid
  pub kept : new ≡ greeted result mid

-- the world of a bus of which no world is said
pub no_world : World
no_world = record {
  roots = new_ports 0;
  devices = [];
  left = [];
  taken = 0;
  attempts = 0;
  attempts_then = 0;
  limit = 0;
  damages = [];
  losses = no_losses;
  shared = false;
  fault = None;
}
