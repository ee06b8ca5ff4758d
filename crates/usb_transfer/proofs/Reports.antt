-- Polls through one pipe, one after another: what they tell are the next packets of the endpoint.
use Rattle.std.proofs.Common.{◌≡◌, ◌≢◌, ◌∙◌, refl, ap, arith, true, false, ℕ, List, [], ◌++◌}
use Rattle.std.proofs.Common.{Option, None, Some, Result, Ok, Err, append-nil}
use Rattle.arrayvec.specs.ArrayVec.{ArrayVec}
use Rattle.usb_device.specs.{GivesOn, IsSource, Location, OnlySource, State, in_data}
use Rattle.usb_device.proofs.Interface.{gives-append}
use Rattle.usb_world.specs.{IsSettled, BusFault, EachWas, World}
use Rattle.usb_world.proofs.Interface.{each_joined, each_none}
use Rattle.usb_transfer.specs.{in_attempt, is_at, polled_as, FaultAfter, GaveReports, InPipeInSync}
use Rattle.usb_transfer.specs.{Interrupt, PacketLeaves, PipeFault, PipePolls, PipeState, PollAsked}
use Rattle.usb_transfer.specs.{PollsInTurn, ReportsLeave, pipe_known, report_in}
use Rattle.usb_transfer.proofs.DeviceRuns.{others_stay_then}
use Rattle.usb_transfer.proofs.BulkTransactions.{source_at_kept, source_kept}
use Rattle.usb_transfer.proofs.Trails.{trail_unshared, transacted_unshared}
use Rattle.usb_transfer.specs.Reports.{start, poll}
use Rattle.usb_transfer.specs.declared.fault.PipeFault.TheVariants as pipe_fault
use Rattle.usb_transfer.proofs.BulkCalls.{poll_by}

abbrev Answer : Type 0
Answer = Result (Option (ArrayVec ℕ)) PipeFault

-- One poll

-- no address was held twice before
asked_unshared : (pipe : Interrupt) (result : Answer) (old new : World) → IsSettled old.roots
    → PollAsked pipe old result new → new.shared ≡ false → old.shared ≡ false
asked_unshared pipe (Ok None) old new settled x single = trail_unshared x.trail single
asked_unshared pipe (Ok (Some packet)) old new settled x single = trail_unshared x.trail single
asked_unshared pipe (Err why) old new settled x single =
    transacted_unshared (polled_as pipe.toggle) (in_attempt pipe.target pipe.ep) old new
    (Err x.fault) x.polled settled single

poll_unshared : {pipe left : PipeState} {result : Answer} {old new : World}
    → PipePolls pipe old result left new → new.shared ≡ false → old.shared ≡ false
poll_unshared x single = grind (arith, asked_unshared, poll_by)

-- of a pipe only the toggle changes
poll_keeps : {pipe left : PipeState} {result : Answer} {old new : World}
    → PipePolls pipe old result left new → left ≡ record pipe { toggle = left.toggle }
poll_keeps x = grind (arith, poll_by)

-- a bus that has given up tells no packet, and does not go on
module _ (why : PipeFault) (old new : World) (fault : BusFault) where
  given_up : FaultAfter 0 old why new → old.fault ≡ Some fault → new.fault ≢ None
  given_up ends gone = grind arith

none_told : {pipe left : PipeState} {old new : World} (result : Answer) (fault : BusFault)
    → old.fault ≡ Some fault → PipePolls pipe old result left new
    → (report_in result ≡ []) × (new.fault ≢ None)
none_told = grind (arith, given_up, poll_by)

-- while the bus is at work the pipe that is left is the one that is known
known_left : {pipe left : PipeState} {old new : World} (result : Answer) → new.fault ≡ None
    → PipePolls pipe old result left new → pipe_known result left ≡ left
known_left result works x = grind (arith, poll_by)

-- Polls in turn

turn_keeps : {pipe : PipeState} {old : World} {packets : List (List ℕ)} {left : PipeState}
    {new : World}
    → PollsInTurn pipe old packets left new → left ≡ record pipe { toggle = left.toggle }
turn_keeps start = refl
turn_keeps {pipe} {left} (poll x p) = poll_keeps p.polls
    ∙ ap {B = PipeState} (λ q. record q { toggle = left.toggle }) (turn_keeps x)

-- one device over one poll more
module _ (pipe mid left : PipeState) (packets : List (List ℕ)) (result : Answer) (now new : World)
    (kept : mid ≡ record pipe { toggle = mid.toggle }) (p : PipePolls mid now result left new)
    (j : Location) (s u v : State) (x : ReportsLeave pipe packets mid now j s u)
    (y : PacketLeaves mid result left j u v) where
  module _ (i : IsSource pipe.ep pipe.max s) where
    source_then : IsSource pipe.ep pipe.max u
    source_then = grind (arith, source_kept)

    frame_then : OnlySource pipe.ep u v
    frame_then = grind (arith, source_then)

    same_data : in_data u pipe.ep ≡ in_data s pipe.ep
    same_data = grind arith

    frame_both : OnlySource pipe.ep s v
    frame_both = grind (arith, frame_then)

    at_then : is_at s pipe.target ≡ true → is_at u mid.target ≡ true
    at_then h = grind (arith, source_at_kept)

  gave_then : is_at s pipe.target ≡ true → (got : ℕ) → InPipeInSync pipe got s
      → GaveReports pipe got (packets ++ report_in result) left new s v
  gave_then h got f = by_bus now.fault refl
    where
      before : GaveReports pipe got packets mid now s u
      before = x.gave h got f

      by_bus : (fault : Option BusFault) → now.fault ≡ fault
          → GaveReports pipe got (packets ++ report_in result) left new s v
      by_bus (Some fault) gone =
          let z = none_told result fault gone p in record {
            behind = before.behind;
            come = grind (arith, append-nil);
            level = λ works. absurd (z.1 works);
          }
      by_bus None able =
          let z = y.gave (at_then f.endpoint h) before.behind (before.level able) in
          let come : GivesOn (in_data s pipe.ep) pipe.max before.behind
          (report_in result) z.behind =
          grind (arith, same_data) in record {
            behind = z.behind;
            come = grind (arith, gives-append);
            level = grind (arith, known_left);
          }

  reports_then : ReportsLeave pipe (packets ++ report_in result) left new j s v
  reports_then = grind (arith, frame_both, gave_then, others_stay_then)

reports_none : (pipe : PipeState) (w : World) (j : Location) (s : State)
    → ReportsLeave pipe [] pipe w j s s
reports_none pipe w j s = grind arith

pub reports_leave : (pipe : PipeState) (old : World) (packets : List (List ℕ)) (left : PipeState)
    (new : World) → PollsInTurn pipe old packets left new → new.shared ≡ false
    → EachWas (ReportsLeave pipe packets left new) old new
reports_leave pipe old packets left new start single = each_none _ (reports_none pipe old) old
reports_leave pipe old packets left new (poll {packets = told} {mid} {now} {result} x p) single =
    each_joined _ _ _ (grind (arith, reports_then, turn_keeps)) old
    now new (reports_leave pipe old told mid now x (poll_unshared p.polls single)) (p.what single)
