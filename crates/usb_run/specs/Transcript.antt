-- A run, item by item, with the text of each item where it was made.
use Rattle.std.specs.Prelude.{◌≡◌, ℕ, List, [], ◌∷◌, ◌++◌, Bool, true, false, Option, None, Some}
use Rattle.std.specs.Prelude.{IsSome, Result, Ok, Err, OnOk, OnErr}
use Rattle.std.specs.Io.KnownBytes.{Appends}
use Rattle.usb_world.specs.declared.event.Ask.{Ask}
use Rattle.usb_world.specs.{BusFault, PutLine}
use Rattle.usb_watch.specs.{AppendsFront}
use Rattle.usb_host.specs.{HostState}
use Rattle.usb_run.specs.declared.item.Item.{Item}
use Rattle.usb_run.specs.declared.runs.RunFault.{RunFault}
use Rattle.usb_run.specs.declared.mode.Mode.{Mode}
use Rattle.usb_run.specs.declared.mode.Mode.TheVariants.{Tree, Run}
use Rattle.usb_run.specs.declared.runs.RunFault.TheVariants.{Memory}
use Rattle.usb_run.specs.Moments.{TellsRight}
use Rattle.usb_run.specs.RunSegments.{Arrives, Ran, Reaches, Settled, Unsettled}
use Rattle.usb_run.specs.Run.{listing_of, run_fault}
use Rattle.usb_text.specs.{lines_text}
use Rattle.usb_run.specs.ItemLines.{item_lines, number_of}
use Rattle.usb_run.specs.Transfers.{IsItemOf, StopsAt}

-- how many listings are among items
unfoldable pub listings : List Item → ℕ
listings [] = 0
listings (item ∷ items) = number_of item (listings items)

-- the text of an item in such lines, which take the number of a listing; those made before it are
-- given, the newest first
abbrev pub item_text : (ℕ → Item → List (List ℕ)) → List Item → Item → List ℕ
item_text lines items item = lines_text (lines (number_of item (listings items)) item)

-- the text of items in such lines, of which the newest stands first
unfoldable pub items_text : (ℕ → Item → List (List ℕ)) → List Item → List ℕ
items_text lines [] = []
items_text lines (item ∷ items) = items_text lines items ++ item_text lines items item

-- what stands of an item in the text of a run: its lines, where attempts and events have theirs
abbrev pub shown : Mode → List Item → Item → List ℕ
shown Tree items item = []
shown Run items item = item_text item_lines items item

-- how the next item is made: an event asks for it, and the host does what the event asks and no
-- more; the last one behind all events, and the run is over
pub data Makes (old : HostState) : Item → Bool → HostState → Type 0 where
  asked : {item : Item} {mid new : HostState} (due : Option Ask) → Reaches old (Ok (Some due)) mid
      → IsItemOf due (Some item) mid new → TellsRight due item mid new → Makes old item false new
  last : {new : HostState} → Reaches old (Ok None) new → Settled new
      → Makes old (listing_of false new) true new

-- where a run stopped on the way to its next item, and with which fault: in a round, at an event,
-- in what an event asked, or where memory was refused for the last listing
pub data RunStops (old : HostState) : RunFault → HostState → Type 0 where
  in_round : {behind new : HostState} {fault : RunFault} → Ran old behind
      → Unsettled behind fault new → RunStops old fault new
  at_event : {new : HostState} (fault : BusFault) → Reaches old (Err fault) new
      → RunStops old (run_fault fault) new
  in_item : {mid new : HostState} {fault : RunFault} (due : Option Ask)
      → Reaches old (Ok (Some due)) mid → StopsAt due fault mid new → RunStops old fault new
  in_last : {new : HostState} → Reaches old (Ok None) new → RunStops old Memory new

-- the next event
abbrev pub NextEvent : HostState → Result (Option (Option Ask)) RunFault → HostState → Type 0
NextEvent old (Ok due) new = Arrives old (Ok due) new
NextEvent old (Err fault) new = RunStops old fault new

-- the next item that an event asks for, none where no event is left
abbrev pub NextAsked : HostState → Result (Option Item) RunFault → HostState → Type 0
NextAsked old (Ok None) new = Reaches old (Ok None) new
NextAsked old (Ok (Some item)) new = Makes old item false new
NextAsked old (Err fault) new = RunStops old fault new

-- the next item of a run, none where it was over, or where it stopped
abbrev pub Next : Bool → HostState → Result (Option Item) RunFault → Bool → HostState → Type 0
Next was old (Ok None) over new = (was ≡ true) × (over ≡ true) × (new ≡ old)
Next was old (Ok (Some item)) over new = (was ≡ false) × Makes old item over new
Next was old (Err fault) over new = (was ≡ false) × RunStops old fault new

-- a text was written behind what had been written, and nothing else changed
pub record AppendsText (text : List ℕ) (old new : HostState) : Type 0 where
  pub all : Appends old.trace new.trace text
  pub rest : new ≡ record old { trace = new.trace }

-- a front of a text was written, and nothing else changed but the fault that the bus told
pub record CutsText (text : List ℕ) (old new : HostState) : Type 0 where
  pub front : AppendsFront old.trace new.trace text
  pub rest : new ≡ record old {
    world = record old.world { fault = new.world.fault };
    trace =
        new.trace;
  }
  pub still : new.world.fault ≡ None → new.world ≡ old.world

-- a line of report was put into the trace, or a front of it where the bus told its fault; after a
-- fault nothing more is
pub record PutsLine (line : List ℕ) (old : HostState) (result : Result (Unit {0}) BusFault)
    (new : HostState) : Type 0 where
  pub step : PutLine old.world result new.world
  pub rests : new ≡ record old { world = new.world; trace = new.trace }
  pub front : AppendsFront old.trace new.trace (line ++ 10 ∷ [])
  pub ok : OnOk result (Appends old.trace new.trace (line ++ 10 ∷ []))
  pub again : IsSome old.world.fault → new ≡ old

-- all of it, or a front where that failed
pub record Prints {E : Type 0} (text : List ℕ) (old : HostState) (result : Result (Unit {0}) E)
    (new : HostState) : Type 0 where
  pub done : OnOk result (AppendsText text old new)
  pub failed : OnErr result (CutsText text old new)

-- a run with its items, the newest first, and whether it is over; what was written is the text of
-- its attempts and events and of each item where it was made
pub data Transcript (mode : Mode) (was : Bool) (old : HostState) : List Item → Bool → HostState
    → Type 0 where
  begun : Transcript mode was old [] was old
  told : {items : List Item} {item : Item} {over : Bool} {h k new : HostState}
      → Transcript mode was old items false h → Makes h item over k
      → AppendsText (shown mode items item) k new
      → Transcript mode was old (item ∷ items) over new

-- a run that stopped: on the way to the next item with its fault, or in the text of an item where
-- that is cut; else at an item of which nothing was written, or behind one
pub data StoppedRun (mode : Mode) (IsOf : RunFault → Type 0) (IsCut : Type 0) (was : Bool)
    (old : HostState) : List Item → HostState → Type 0 where
  on_the_way : {items : List Item} {h new : HostState} {fault : RunFault} → IsOf fault
      → Transcript mode was old items false h → RunStops h fault new
      → StoppedRun mode IsOf IsCut was old items new
  unwritten : {items : List Item} {item : Item} {over : Bool} {h new : HostState} → (IsCut → ⊥)
      → Transcript mode was old items false h → Makes h item over new
      → StoppedRun mode IsOf IsCut was old items new
  behind : {items : List Item} {over : Bool} {new : HostState} → (IsCut → ⊥)
      → Transcript mode was old items over new → StoppedRun mode IsOf IsCut was old items new
  in_text : {items : List Item} {item : Item} {over : Bool} {h k new : HostState} → IsCut
      → Transcript mode was old items false h → Makes h item over k
      → CutsText (shown mode items item) k new
      → StoppedRun mode IsOf IsCut was old (item ∷ items) new

-- a run that is done is over; one that stopped tells its fault in these words, and has the text of
-- an item cut at certain faults, and at no other
abbrev pub RunsTo : {A E : Type 0} → Mode → (RunFault → E) → (E → Type 0) → Bool → HostState
    → List Item → Result A E → HostState → Type 0
RunsTo mode words CutsAt was old items (Ok done) new = Transcript mode was old items true new
RunsTo mode words CutsAt was old items (Err fault) new =
    StoppedRun mode (λ why. fault ≡ words why) (CutsAt fault) was old items new

-- the fault of a run to the one who runs it
abbrev pub itself : RunFault → RunFault
itself fault = fault

-- no item is cut
abbrev pub never : {E : Type 0} → E → Type 0
never fault = ⊥
