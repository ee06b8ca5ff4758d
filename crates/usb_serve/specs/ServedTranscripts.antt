-- How a run with its text ends, to the one who is served.
use Rattle.std.specs.Prelude.{◌≡◌, ◌≢◌, ◌⊎◌, ℕ, List, Bool, Result, Ok, Err}
use Rattle.usb_run.specs.{HostState}
use Rattle.usb_run.specs.{AppendsText, CutsText, Item, RunFault, RunsTo}
use Rattle.usb_run.specs.declared.mode.Mode.TheVariants.{Run}
use Rattle.usb_serve.specs.declared.serving.ServeFault.{ServeFault}
use Rattle.usb_serve.specs.declared.serving.ServeFault.TheVariants.{Write}
use Rattle.usb_serve.specs.declared.serving.ServeFault.TheVariants as serve
use Rattle.usb_serve.specs.ServeResults.{IsCausedInRun}

-- to the one who is served
abbrev pub of_run : RunFault → ServeFault
of_run fault = serve.Run fault

-- where the writer failed in a line of report
abbrev pub at_write : ServeFault → Type 0
at_write fault = fault ≡ Write

-- how a run with its text ends, with the items that it made
pub record RunEnds (was : Bool) (old : HostState) (result : Result (Unit {0}) ServeFault)
    (new : HostState) : Type 0 where
  pub items : List Item
  pub ends : RunsTo Run of_run at_write was old items result new

-- lines of report were put behind a run: all, a front where the writer failed, and none for another
-- fault, which the bus had told before
abbrev pub LinesPut : List ℕ → HostState → Result (Unit {0}) ServeFault → HostState → Type 0
LinesPut text old (Ok done) new = AppendsText text old new
LinesPut text old (Err fault) new = IsCausedInRun fault new.world
    × (((fault ≡ Write) × CutsText text old new) ⊎ ((fault ≢ Write) × (new ≡ old)))
