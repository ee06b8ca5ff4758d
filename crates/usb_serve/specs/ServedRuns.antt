-- Where a plan's run ends, and what serving a plan wrote of it.
use Rattle.std.specs.Prelude.{◌≡◌, ◌≢◌, ◌<◌, ◌≤◌, ⊤, ◌⊎◌, ℕ, List, [], ◌∷◌, ◌++◌, length, Option}
use Rattle.std.specs.Prelude.{Bool, true, false, Result, Ok, Err, IsErrOf, IfErr, IfSome, IsUtf8}
use Rattle.std.specs.Io.KnownBytes.{Appends}
use Rattle.usb_world.specs.{PlanData}
use Rattle.usb_watch.specs.{AppendsFront}
use Rattle.usb_run.specs.{HostState, Item, LimitReached, ListsRight, Mode, Opens, RunsTo, Tree}
use Rattle.usb_run.specs.{item_lines, items_text, plug_events}
use Rattle.usb_plan.specs.{PlanFault, bound_of, spelled_plan}
use Rattle.usb_plan.specs.declared.fault.PlanFault.TheVariants as plan
use Rattle.usb_run.specs.declared.mode.Mode.TheVariants.{Run}
use Rattle.usb_serve.specs.declared.serving.ServeFault.{ServeFault}
use Rattle.usb_serve.specs.declared.serving.ServeFault.TheVariants as serve
use Rattle.usb_serve.specs.ServeResults.{IsCausedInRun, IsOfRun, MarksWriter}
use Rattle.usb_text.specs.{bound_line}
use Rattle.usb_run.specs.Transcript.{Transcript}
use Rattle.usb_serve.specs.ServedTranscripts.{at_write, of_run}
use Rattle.usb_serve.specs.WrittenItems.{IsUnopened, ItemsText, UntracedRun}

-- what is written in mode Run: the text of a run of the plan, at no attempt of which two reachable
-- devices held one address, and which tells what is right
pub record RunWritten (plan : PlanData) (before : Option (List ℕ))
    (result : Result (Unit {0}) ServeFault) (now : Option (List ℕ)) : Type 0 where
  pub first : HostState
  pub opens : Opens plan before first
  pub items : List Item
  pub last : HostState
  pub ends : RunsTo Run of_run at_write false first items result last
  pub caused : IfErr result (λ fault. IsCausedInRun fault last.world)
  pub limit : last.world.limit ≡ plan.limit
  pub single : last.world.shared ≡ false
  pub lists : ListsRight plan items last.world
  pub text : now ≡ last.trace

-- the text of mode Tree: the lines of all items that were made, and behind a run that is over the
-- plan's bound; a front of that only where the writer failed
abbrev pub TreeText : PlanData → List Item → Type 0 → Option (List ℕ) → Result (Unit {0}) ServeFault
    → Option (List ℕ) → Type 0
TreeText plan items IsOver before (Ok done) now =
    Appends before now (items_text item_lines items ++ (bound_line (bound_of plan) ++ 10 ∷ []))
TreeText plan items IsOver before (Err fault) now =
    ItemsText item_lines items before (Err fault) now
    ⊎ ((fault ≡ serve.Write) × IsOver × AppendsFront before now (items_text item_lines items ++
    (bound_line (bound_of plan) ++ 10 ∷ [])))

-- what is written in mode Tree: the text of the items of such a run, whose trace is thrown away
abbrev pub TreeWritten : PlanData → Option (List ℕ) → Result (Unit {0}) ServeFault
    → Option (List ℕ) → Type 0
TreeWritten plan before result now = UntracedRun plan result (λ first items last.
    TreeText plan items (Transcript Tree false first items true last) before result now)

abbrev pub IsWritten : Mode → PlanData → Option (List ℕ) → Result (Unit {0}) ServeFault
    → Option (List ℕ) → Type 0
IsWritten Tree plan before result now = IsUnopened before result now
    ⊎ TreeWritten plan before result now
IsWritten Run plan before result now = IsUnopened before result now
    ⊎ RunWritten plan before result now

-- why a text is no plan: what is no UTF-8 has no syntax; in what is, the fault that it has, where
-- memory was not refused
pub record IsNoPlan (text : List ℕ) (fault : PlanFault) : Type 0 where
  pub spelled : IsUtf8 text → fault ≢ plan.Memory → spelled_plan text ≡ Err fault
  pub garbled : (IsUtf8 text → ⊥) → fault ≡ plan.Syntax

-- a fault that is told before any run: of the reader, or of the text that it had
abbrev pub IsUnread : Option (List ℕ) → ServeFault → Type 0
IsUnread text serve.Read = ⊤
IsUnread text serve.TooLong = ⊤
IsUnread text (serve.Plan fault) = IfSome text (λ t. IsNoPlan t fault)
IsUnread text (serve.Run fault) = ⊥
IsUnread text serve.Write = ⊥
IsUnread text serve.Memory = ⊤

-- a plan of at most 127 plugs whose limit is its bound never comes to its limit
abbrev pub NeverAtLimit : PlanData → Result (Unit {0}) ServeFault → Type 0
NeverAtLimit plan result = plug_events plan.events ≤ 127 → bound_of plan ≤ plan.limit
    → result ≢ Err (serve.Run LimitReached)

-- what serving a text wrote: nothing, where no plan was read; else what the mode asks for, of a run
-- of the plan that the text spells, and then no fault is the text's or the reader's
pub data IsServed (mode : Mode) (text before : Option (List ℕ))
    (result : Result (Unit {0}) ServeFault) (now : Option (List ℕ)) : Type 0 where
  unread : (fault : ServeFault) → result ≡ Err fault → IsUnread text fault → now ≡ before
      → IsServed mode text before result now
  of_plan : (plan : PlanData) → IfSome text (λ t. spelled_plan t ≡ Ok plan) → IsOfRun result
      → IsWritten mode plan before result now → NeverAtLimit plan result
      → IsServed mode text before result now

-- the fault of a reader is told exactly if it has failed, and a text is called too long only if it
-- is
pub record Reads {A : Type 0} (text : Option (List ℕ)) (result : Result A ServeFault)
    (torn : Bool) : Type 0 where
  pub read : IsErrOf result serve.Read → torn ≡ true
  pub whole : result ≢ Err serve.Read → torn ≡ false
  pub too_long : IsErrOf result serve.TooLong → IfSome text (λ t. 1048576 < length t)

-- all that serving a text says of its reader, its writer and what was written
pub record Serves (mode : Mode) (text : Option (List ℕ)) (torn : Bool) (before : Option (List ℕ))
    (result : Result (Unit {0}) ServeFault) (failed : Bool) (now : Option (List ℕ)) : Type 0 where
  pub reads : Reads text result torn
  pub writer : MarksWriter mode result failed
  pub served : IsServed mode text before result now
