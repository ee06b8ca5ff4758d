-- What a host and a far end say to each other, from the hello on.
use Rattle.std.specs.Prelude.{◌≡◌, ⊤, ℕ, ◌+◌, ◌≤◌, ◌==◌, ◌&&◌, nat_le, nat_lt, Bool, true, false}
use Rattle.std.specs.Prelude.{List, [], length, Option, Some, None, Result, Ok, Err}
use Rattle.std.specs.Global.{Vec}
use Rattle.std.specs.Str.{bytes_eq}
use Rattle.usb_run.specs.{Agrees, At, Done, EndpointChoice, Entries, FirstBulk, HostOptions, Item}
use Rattle.usb_run.specs.{Listing, Looked, Polled, Quiet, Received, Round, Sent, Task, TaskEnd}
use Rattle.usb_run.specs.{TransferFault, Worked, item_lines, lines_text, listing_lines, number_of}
use Rattle.usb_run.specs.{usual_options}
use Rattle.usb_wire.specs.{Answer, Question}
use Rattle.usb_wire.specs.declared.answer.Answer.TheVariants as answer
use Rattle.usb_wire.specs.declared.question.Question.TheVariants.{Hello, Wait}
use Rattle.usb_bus.specs.{RowDone}
use Rattle.usb_packet.specs.{Toggle}
use Rattle.usb_world.specs.{Destination}
use Rattle.usb_watch.specs.{OutPipe, Pipe}
use Rattle.usb_port.specs.{Addresses}
use Rattle.usb_run.specs.declared.item.Item.TheVariants as item
use Rattle.usb_run.specs.declared.item.Task.TheVariants as task
use Rattle.usb_stream.specs.{AskedWell, AsksNoQuestion, AsksOnce, InsByLine, Kept, OutsByLine}
use Rattle.usb_stream.specs.{WritesLines, greeted, more_answers}
use Rattle.usb_stream.specs.{questions, streams, unasked, LiveFault}
use Rattle.usb_live.specs.declared.end.LiveEnd.{LiveEnd}
use Rattle.usb_live.specs.declared.end.LiveEnd.TheVariants.{Line, Memory, Rounds}
use Rattle.usb_live.specs.declared.owed.Owed.{Owed}
use Rattle.usb_live.specs.declared.owed.Owed.TheVariants as owed
use Rattle.usb_live.specs.declared.owed.EndOwed.{EndOwed}
use Rattle.usb_live.specs.declared.owed.EndOwed.TheVariants as ends
use Rattle.usb_live.specs.declared.stage.Stage.{Stage}
use Rattle.usb_live.specs.declared.stage.Stage.TheVariants.{Asks, EndWanted, Over}

-- the lines of a listing, or of how a transfer went, end to end
abbrev pub told_text : ℕ → Item → List ℕ
told_text number item = lines_text (item_lines number item)

-- what is owed after an answer to `wait`
abbrev pub owed_by : Result Answer LiveFault → Owed
owed_by (Ok answer.Show) = owed.Listing
owed_by (Ok answer.End) = owed.Listing
owed_by (Ok answer.News) = owed.News
owed_by (Ok (answer.Send path bytes)) =
    owed.Answer path (task.Send FirstBulk) (ends.Sent (length bytes.items))
owed_by (Ok (answer.SendTo path endpoint bytes)) =
    owed.Answer path (task.Send (At endpoint)) (ends.Sent (length bytes.items))
owed_by (Ok (answer.Receive path packets)) =
    owed.Answer path (task.Receive FirstBulk) ends.Received
owed_by (Ok (answer.ReceiveFrom path endpoint packets)) =
    owed.Answer path (task.Receive (At endpoint)) ends.Received
owed_by (Ok (answer.Clear path)) = owed.Answer path task.Clear ends.Done
owed_by (Ok (answer.ClearOf path endpoint)) = owed.Answer path (task.ClearOf endpoint) ends.Done
owed_by (Ok (answer.Poll path endpoint)) = owed.Answer path (task.Poll endpoint) ends.Polled
owed_by (Ok (answer.Interface path interface setting)) =
    owed.Answer path (task.SetInterface interface setting) ends.Done
owed_by (Ok (answer.ControlIn path request)) =
    owed.Answer path task.ControlIn (ends.ReceivedWithin request.length)
owed_by (Ok (answer.ControlOut path write)) =
    owed.Answer path task.ControlOut (ends.Sent (length write.bytes))
owed_by (Ok (answer.Look path)) = owed.Answer path task.Look ends.Looked
owed_by other = owed.Nothing

abbrev pub is_nothing : Owed → Bool
is_nothing owed.Nothing = true
is_nothing other = false

abbrev pub is_count : ℕ → Result ℕ TransferFault → Bool
is_count count (Ok all) = all == count
is_count count (Err fault) = true

abbrev pub is_within : ℕ → Result (Vec ℕ) TransferFault → Bool
is_within most (Ok bytes) = nat_le (length bytes.items) most
is_within most (Err fault) = true

abbrev pub same_choice : EndpointChoice → EndpointChoice → Bool
same_choice FirstBulk FirstBulk = true
same_choice (At endpoint) (At named) = endpoint == named
same_choice choice other = false

-- at that endpoint, or of that setting of that interface
abbrev pub same_task : Task → Task → Bool
same_task (task.Send choice) (task.Send used) = same_choice choice used
same_task (task.Receive choice) (task.Receive used) = same_choice choice used
same_task task.Clear task.Clear = true
same_task (task.ClearOf endpoint) (task.ClearOf named) = endpoint == named
same_task (task.Poll endpoint) (task.Poll named) = endpoint == named
same_task (task.SetInterface interface setting) (task.SetInterface number chosen) =
    (interface == number) && (setting == chosen)
same_task task.ControlIn task.ControlIn = true
same_task task.ControlOut task.ControlOut = true
same_task task.Look task.Look = true
same_task t other = false

-- a task ended with what it is to end with. If it did not fail, a send or a write moved all bytes,
-- and a read at most those asked for
abbrev pub fits : EndOwed → TaskEnd → Bool
fits (ends.Sent count) (Sent sent) = is_count count sent
fits ends.Received (Received received) = true
fits (ends.ReceivedWithin most) (Received received) = is_within most received
fits ends.Done (Done done) = true
fits ends.Polled (Polled polled) = true
fits ends.Looked (Looked looked) = true
fits o other = false

-- the item is the one that is owed: a listing, news, or how that task at that path ended
abbrev pub settles : Owed → Item → Bool
settles owed.Listing (Listing entries taken said) = true
settles owed.News (item.News news) = true
settles (owed.Answer path t o) (item.Answer at u end) =
    bytes_eq path at && same_task t u && fits o end
settles other item = false

-- what is owed still, behind an item that was told, or a front of it
abbrev pub owed_left : Owed → Result (Unit {0}) LiveFault → Owed
owed_left o (Ok done) = owed.Nothing
owed_left o (Err f) = o

abbrev pub is_wait : Question → Bool
is_wait Wait = true
is_wait other = false

-- of a private function: where a listing is wanted, it is of these entries
abbrev pub ListsEntries : Answer → Entries → Option Item → Type 0
ListsEntries answer.Show entries item = item ≡ Some (Listing entries 0 [])
ListsEntries answer.End entries item = item ≡ Some (Listing entries 0 [])
ListsEntries other entries item = ⊤

-- a host: whether it takes wide hubs, and the most questions that it asks
pub record LiveHost : Type 0 where
  pub wide : Bool
  pub limit : ℕ

abbrev pub live_host : Bool → ℕ → LiveHost
live_host wide limit = record { wide = wide; limit = limit }

-- how many questions went out, or a front of one
abbrev pub questions_in : Result Answer LiveFault → ℕ
questions_in (Ok got) = 1
questions_in (Err f) = questions f

-- how many items are owed
abbrev pub owes : Owed → ℕ
owes owed.Nothing = 0
owes other = 1

-- entries that a host of these options may hold: they rise by path, each is at a root port or at a
-- port of a hub that is listed, no two have one address, and accepted devices are whole
abbrev pub MayHold : HostOptions → Entries → Type 0
MayHold options entries = (addresses : Addresses) × Agrees options entries addresses

-- a listing is of entries that such a host may hold. What refused devices said is not told
abbrev pub IsShown : HostOptions → Item → Type 0
IsShown options (Listing entries taken said) = MayHold options entries × (said ≡ [])
IsShown options other = ⊤

-- how many listings were told, behind an item that was told, or a front of it
abbrev pub listed : ℕ → Item → Result (Unit {0}) LiveFault → ℕ
listed count item (Ok done) = number_of item count
listed count item (Err f) = count

-- so many questions were asked, from the hello on, each was answered by the lines that were read
-- next or left a fault, a row of attempts by those of each attempt up to the first one that moved
-- no packet. Items were told between them: behind what was wanted the one that this owes, once, and
-- before it is asked again what is wanted; behind a fault nothing was asked or told. So many
-- listings were told, numbered from 1 on
pub data LiveCourse (host : LiveHost) (unread : Pipe) (before : OutPipe) : Owed → ℕ → Pipe → OutPipe
    → Kept → ℕ → Type 0 where
  opened : {left : Pipe} {now : OutPipe} (k : Kept) (result : Result Answer LiveFault)
      → AsksOnce Hello (streams unread left before now) (unasked host.wide host.limit) result k
      → LiveCourse host unread before owed.Nothing 0 left now (greeted result k)
      (questions_in result)
  asked : {o : Owed} {m : ℕ} {r left : Pipe} {w now : OutPipe} {j k : Kept} {n : ℕ} (q : Question)
      (result : Result Answer LiveFault)
      → LiveCourse host unread before o m r w j n → j.fault ≡ None → is_wait q ≡ false
      → more_answers q ≡ 0 → AsksOnce q (streams r left w now) j result k
      → LiveCourse host unread before o m left now k (n + questions_in result)
  ins : {o : Owed} {m : ℕ} {r left : Pipe} {w now : OutPipe} {j k : Kept} {n : ℕ} (to : Destination)
      (first : Toggle) (most : ℕ) (done : RowDone) (got : List ℕ) (more : ℕ)
      → LiveCourse host unread before o m r w j n → j.fault ≡ None
      → InsByLine to first most (streams r left w now) j done got k → more + k.left ≡ j.left
      → LiveCourse host unread before o m left now k (n + more)
  outs : {o : Owed} {m : ℕ} {r left : Pipe} {w now : OutPipe} {j k : Kept} {n : ℕ}
      (to : Destination) (first : Toggle) (total : List ℕ) (done : RowDone) (more : ℕ)
      → LiveCourse host unread before o m r w j n → j.fault ≡ None
      → OutsByLine to first total (streams r left w now) j done k → more + k.left ≡ j.left
      → LiveCourse host unread before o m left now k (n + more)
  wanted : {m : ℕ} {r left : Pipe} {w now : OutPipe} {j k : Kept} {n : ℕ}
      (result : Result Answer LiveFault)
      → LiveCourse host unread before owed.Nothing m r w j n → j.fault ≡ None
      → AsksOnce Wait (streams r left w now) j result k
      → LiveCourse host unread before (owed_by result) m left now k (n + questions_in result)
  told : {o : Owed} {m : ℕ} {left : Pipe} {w now : OutPipe} {j k : Kept} {n : ℕ} (item : Item)
      (result : Result (Unit {0}) LiveFault)
      → LiveCourse host unread before o m left w j n → j.fault ≡ None → settles o item ≡ true
      → IsShown (usual_options host.wide) item
      → WritesLines (told_text (number_of item m) item) w now j result k
      → LiveCourse host unread before (owed_left o result) (listed m item result) left now k n
  still : {o : Owed} {m : ℕ} {r left : Pipe} {w now : OutPipe} {j k : Kept} {n : ℕ}
      → LiveCourse host unread before o m r w j n
      → AsksNoQuestion (streams r left w now) j k
      → LiveCourse host unread before o m left now k n

-- the host asked last what is wanted, and that was the end; so many listings were told before
pub record WantsEnd (host : LiveHost) (count : ℕ) (unread : Pipe) (before : OutPipe) (left : Pipe)
    (now : OutPipe) (k : Kept) (n : ℕ) : Type 0 where
  pub r : Pipe
  pub w : OutPipe
  pub j : Kept
  pub m : ℕ
  pub course : LiveCourse host unread before owed.Nothing count r w j m
  pub sound : j.fault ≡ None
  pub ended : AskedWell Wait (streams r left w now) j answer.End k
  pub one : n ≡ m + 1

-- behind that it told a listing, the next one, and nothing more
pub record IsOver (host : LiveHost) (unread : Pipe) (before : OutPipe) (left : Pipe) (now : OutPipe)
    (k : Kept) (n : ℕ) : Type 0 where
  pub count : ℕ
  pub w : OutPipe
  pub j : Kept
  pub wanted : WantsEnd host count unread before left w j n
  pub entries : Entries
  pub shown : MayHold (usual_options host.wide) entries
  pub listed : WritesLines (lines_text (listing_lines (count + 1) entries [])) w now j (Ok tt) k

-- how far it is behind an answer to what is wanted, and behind an item that was told
abbrev pub stage_behind_answer : Result Answer LiveFault → Stage
stage_behind_answer (Ok answer.End) = EndWanted
stage_behind_answer other = Asks

abbrev pub stage_behind : Stage → Item → Stage
stage_behind EndWanted (Listing entries taken said) = Over
stage_behind stage item = Asks

abbrev pub StandsAtStage : Stage → LiveHost → ℕ → Pipe → OutPipe → Pipe → OutPipe → Kept
    → ℕ → Type 0
StandsAtStage Asks host count unread before left now k n = ⊤
StandsAtStage EndWanted host count unread before left now k n =
    WantsEnd host count unread before left now k n
StandsAtStage Over host count unread before left now k n = IsOver host unread before left now k n

-- a course of at most so many questions, each item told behind a question that it answers
pub record CourseTo (stage : Stage) (o : Owed) (host : LiveHost) (count : ℕ) (unread : Pipe)
    (before : OutPipe) (left : Pipe) (now : OutPipe) (k : Kept) : Type 0 where
  pub asked : ℕ
  pub course : LiveCourse host unread before o count left now k asked
  pub few : asked + k.left ≡ host.limit
  pub numbered : count + owes o ≤ asked
  pub at : StandsAtStage stage host count unread before left now k asked

-- it ended because the end was wanted, or because of a fault, which is told with the number of
-- lines that were read; Rounds tells that as many questions were asked as there may be
abbrev pub EndsLiveAs : Result (Unit {0}) LiveEnd → LiveHost → Pipe → OutPipe → Pipe → OutPipe
    → Kept → ℕ → Type 0
EndsLiveAs (Ok done) host unread before left now k n = IsOver host unread before left now k n
EndsLiveAs (Err (Line number f)) host unread before left now k n = (k.fault ≡ Some f)
    × (number ≡ k.lines)
EndsLiveAs (Err (Rounds number)) host unread before left now k n = (k.fault ≡ None)
    × (number ≡ k.lines) × (n ≡ host.limit)
EndsLiveAs (Err Memory) host unread before left now k n = k.fault ≡ None

-- of a private function: why it ended, by the fault that is kept, the number of lines that were
-- read, and how many questions are left
abbrev pub EndsBy : Option LiveFault → ℕ → ℕ → Stage → Result (Unit {0}) LiveEnd → Type 0
EndsBy fault lines left stage (Ok done) = (fault ≡ None) × (stage ≡ Over)
EndsBy fault lines left stage (Err (Line number f)) = (fault ≡ Some f) × (number ≡ lines)
EndsBy fault lines left stage (Err (Rounds number)) =
    (fault ≡ None) × (number ≡ lines) × (left ≡ 0)
EndsBy fault lines left stage (Err Memory) = fault ≡ None

-- of a private function: another round is made before it is asked what is wanted
abbrev pub goes_on : Round → ℕ → Bool
goes_on Worked busy = nat_lt busy 256
goes_on Quiet busy = false

-- a whole course: at most so many questions were asked
pub record Lives (host : LiveHost) (unread left : Pipe) (before now : OutPipe)
    (ended : Result (Unit {0}) LiveEnd) : Type 0 where
  pub asked : ℕ
  pub kept : Kept
  pub owes : Owed
  pub listings : ℕ
  pub course : LiveCourse host unread before owes listings left now kept asked
  pub few : asked ≤ host.limit
  pub ends : EndsLiveAs ended host unread before left now kept asked
