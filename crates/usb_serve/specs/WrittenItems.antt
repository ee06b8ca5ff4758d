-- What is written of a run with no trace, item by item.
use Rattle.std.specs.Prelude.{◌≡◌, ◌⊎◌, ℕ, List, Option, false, Result, Ok, Err, IfErr}
use Rattle.std.specs.Io.KnownBytes.{Appends}
use Rattle.usb_world.specs.{PlanData}
use Rattle.usb_watch.specs.{AppendsFront}
use Rattle.usb_run.specs.{HostState}
use Rattle.usb_run.specs.{Item, ListsRight, Memory, Opens, RunsTo, Tree, items_text, never}
use Rattle.usb_serve.specs.declared.serving.ServeFault.{ServeFault}
use Rattle.usb_serve.specs.declared.serving.ServeFault.TheVariants as serve
use Rattle.usb_serve.specs.ServeResults.{IsCausedInTree}
use Rattle.usb_serve.specs.ServedTranscripts.{of_run}

-- a text is written: all of it, a front where the writer failed, nothing where memory was refused
abbrev pub TextWritten : List ℕ → Option (List ℕ) → Result (Unit {0}) ServeFault → Option (List ℕ)
    → Type 0
TextWritten text before (Ok done) now = Appends before now text
TextWritten text before (Err serve.Read) now = ⊥
TextWritten text before (Err serve.TooLong) now = ⊥
TextWritten text before (Err (serve.Plan fault)) now = ⊥
TextWritten text before (Err (serve.Run fault)) now = ⊥
TextWritten text before (Err serve.Write) now = AppendsFront before now text
TextWritten text before (Err serve.Memory) now = now ≡ before

-- all items that were made are written in their lines, but for the last one where memory was
-- refused for it; a front of that where the writer failed
abbrev pub ItemsText : (ℕ → Item → List (List ℕ)) → List Item → Option (List ℕ)
    → Result (Unit {0}) ServeFault → Option (List ℕ) → Type 0
ItemsText lines items before (Ok done) now = Appends before now (items_text lines items)
ItemsText lines items before (Err serve.Read) now = ⊥
ItemsText lines items before (Err serve.TooLong) now = ⊥
ItemsText lines items before (Err (serve.Plan fault)) now = ⊥
ItemsText lines items before (Err (serve.Run fault)) now =
    Appends before now (items_text lines items)
ItemsText lines items before (Err serve.Write) now =
    AppendsFront before now (items_text lines items)
ItemsText lines items before (Err serve.Memory) now = Appends before now (items_text lines items)

-- a run of a plan whose trace is thrown away, of which such a text is written; each of its items is
-- right when it is made
pub record UntracedRun (plan : PlanData) (result : Result (Unit {0}) ServeFault)
    (IsText : HostState → List Item → HostState → Type 0) : Type 0 where
  pub thrown : Option (List ℕ)  -- where the trace goes
  pub first : HostState
  pub opens : Opens plan thrown first
  pub items : List Item
  pub last : HostState
  pub ends : RunsTo Tree of_run never false first items result last
  pub caused : IfErr result (λ fault. IsCausedInTree fault last.world)
  pub limit : last.world.limit ≡ plan.limit
  pub single : last.world.shared ≡ false
  pub lists : ListsRight plan items last.world
  pub text : IsText first items last

-- memory was refused for the bus of a run, and nothing was done
pub record IsUnopened (before : Option (List ℕ)) (result : Result (Unit {0}) ServeFault)
    (now : Option (List ℕ)) : Type 0 where
  pub refused : result ≡ Err (serve.Run Memory)
  pub nothing : now ≡ before

-- what is written of a plan's run whose items are in such lines
abbrev pub ItemsWritten : PlanData → (ℕ → Item → List (List ℕ)) → Option (List ℕ)
    → Result (Unit {0}) ServeFault → Option (List ℕ) → Type 0
ItemsWritten plan lines before result now = IsUnopened before result now
    ⊎ UntracedRun plan result (λ first items last. ItemsText lines items before result now)
