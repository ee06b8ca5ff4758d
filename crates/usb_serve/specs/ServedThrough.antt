-- What serving a plan through a buffer tells and writes.
use Rattle.std.specs.Prelude.{◌≡◌, ℕ, List, Option, Bool, true, false, Result, Ok, Err}
use Rattle.std.specs.Io.KnownBytes.{Keeps}
use Rattle.usb_run.specs.{LimitReached, Memory, TraceFailed, Mode}
use Rattle.usb_serve.specs.declared.serving.ServeFault.{ServeFault}
use Rattle.usb_serve.specs.declared.serving.ServeFault.TheVariants as serve
use Rattle.usb_serve.specs.Outputs.{LeavesFront}
use Rattle.usb_serve.specs.ServedRuns.{Serves}

-- what a writer that failed is told as, of a run that ended so: TraceFailed if it ended at the line
-- of an attempt or an event, else Write
abbrev pub writer_fault : Result (Unit {0}) ServeFault → ServeFault
writer_fault (Ok done) = serve.Write
writer_fault (Err serve.Read) = serve.Write
writer_fault (Err serve.TooLong) = serve.Write
writer_fault (Err (serve.Plan fault)) = serve.Write
writer_fault (Err (serve.Run LimitReached)) = serve.Write
writer_fault (Err (serve.Run Memory)) = serve.Write
writer_fault (Err (serve.Run TraceFailed)) = serve.Run TraceFailed
writer_fault (Err serve.Write) = serve.Write
writer_fault (Err serve.Memory) = serve.Write

-- what waits in a buffer is let out: all goes out, and the result stays; or the writer has failed,
-- a
-- prefix has gone out, and that is told
pub data LetsOut (told : Result (Unit {0}) ServeFault) (marked : Bool) (written : Option (List ℕ))
    (result : Result (Unit {0}) ServeFault) (failed : Bool) (now : Option (List ℕ)) : Type 0 where
  all : marked ≡ false → failed ≡ false → result ≡ told → Keeps written now
      → LetsOut told marked written result failed now
  cut : failed ≡ true → result ≡ Err (writer_fault told) → LeavesFront written now
      → LetsOut told marked written result failed now

-- all that serving into a buffer says, and then what waits in it is let out
pub record ServesThrough (mode : Mode) (text : Option (List ℕ)) (torn : Bool)
    (before : Option (List ℕ)) (result : Result (Unit {0}) ServeFault) (failed : Bool)
    (now : Option (List ℕ)) : Type 0 where
  pub told : Result (Unit {0}) ServeFault
  pub marked : Bool
  pub written : Option (List ℕ)
  pub serves : Serves mode text torn before told marked written
  pub out : LetsOut told marked written result failed now
