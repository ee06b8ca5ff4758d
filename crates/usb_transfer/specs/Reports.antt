-- What polls through one pipe tell, one after another (5.7).
use Rattle.std.specs.Prelude.{◌≡◌, ℕ, List, [], ◌++◌, true, false, None, Option, Result}
use Rattle.arrayvec.specs.ArrayVec.{ArrayVec}
use Rattle.usb_device.specs.{State, Location, GivesOn, IsSource, OnlySource, in_data}
use Rattle.usb_world.specs.{World}
use Rattle.usb_transfer.specs.TransactionLeaves.{is_at}
use Rattle.usb_transfer.specs.declared.fault.PipeFault.{PipeFault}
use Rattle.usb_transfer.specs.EndpointPipes.{PipeState}
use Rattle.usb_transfer.specs.Leaves.{InPipeInSync, report_in}
use Rattle.usb_transfer.specs.Transfers.{PipePoll}

-- polls were made through a pipe, one after another, and told these packets
pub data PollsInTurn (pipe : PipeState) (old : World) : List (List ℕ) → PipeState → World
    → Type 0 where
  start : PollsInTurn pipe old [] pipe old
  poll : {packets : List (List ℕ)} {mid left : PipeState} {now new : World}
      {result : Result (Option (ArrayVec ℕ)) PipeFault} → PollsInTurn pipe old packets mid now
      → PipePoll mid now result left new
      → PollsInTurn pipe old (packets ++ report_in result) left new

-- through a pipe that had got what stands before a place these packets came, which are the next
-- ones; while the bus is at work, the pipe that is left has got what stands before the place behind
pub record GaveReports (pipe : PipeState) (got : ℕ) (packets : List (List ℕ)) (left : PipeState)
    (new : World) (s v : State) : Type 0 where
  pub behind : ℕ
  pub come : GivesOn (in_data s pipe.ep) pipe.max got packets behind
  pub level : new.fault ≡ None → InPipeInSync left behind v

-- one device over polls through one pipe
pub record ReportsLeave (pipe : PipeState) (packets : List (List ℕ)) (left : PipeState)
    (new : World) (x : Location) (s v : State) : Type 0 where
  pub others : is_at s pipe.target ≡ false → v ≡ s
  pub frame : IsSource pipe.ep pipe.max s → OnlySource pipe.ep s v
  pub gave : is_at s pipe.target ≡ true → (got : ℕ) → InPipeInSync pipe got s
      → GaveReports pipe got packets left new s v
