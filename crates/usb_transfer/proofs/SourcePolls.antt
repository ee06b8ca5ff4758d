-- A poll of an endpoint that gives packets (5.7): what it leaves of the endpoint, and why it fails.
use Rattle.std.proofs.Common.{◌≡◌, ◌≢◌, ℕ, false, List, Option, None, Some, Result, Ok, sym, ap}
use Rattle.std.proofs.Common.{◌∙◌, arith}
use Rattle.arrayvec.specs.ArrayVec.{ArrayVec}
use Rattle.usb_packet.specs.{Toggle}
use Rattle.usb_device.specs.{Location, State, GivesWithin, in_end, SourceOn}
use Rattle.usb_device.proofs.Interface.{is_same-refl, other-other}
use Rattle.usb_world.specs.{DidIn, EachWas, Outcome, World, damage_in, outcome_in, IsSettled}
use Rattle.usb_transfer.specs.{Target, TransFault, HeardOutcome, Moved, heard_as, polled, polled_as}
use Rattle.usb_transfer.specs.{IsNoEnd, NoThreeDamaged, Polled, SourcePollEnds, SourcePolled}
use Rattle.usb_transfer.specs.{SourcePollFailure, in_attempt, packed, IsNotOfBus}
use Rattle.usb_transfer.proofs.BulkTransactions.{SourceGave, did_in, hesitates_end, stepped_end}
use Rattle.usb_transfer.proofs.BulkTransactions.{HearsRead, IsShort, away_in, cut_source, frame_in}
use Rattle.usb_transfer.proofs.BulkTransactions.{halted_answered, short_answered, stays_short}
use Rattle.usb_transfer.proofs.BulkTransactions.{whole_in}
use Rattle.usb_transfer.proofs.DeviceRuns.{IsOfBus, IsPollEnd, RunThrough, Turns, each_device}
use Rattle.usb_transfer.proofs.DeviceRuns.{over_poll, in_kind, DeviceTold, few_repeats, of_bus}
use Rattle.usb_transfer.proofs.DeviceRuns.{PollGot, result_of}
use Rattle.usb_world.specs.declared.types.Outcome.TheVariants.{Nothing}
use Rattle.usb_transfer.proofs.LastOutcomes.{no_packet, packet_heard, packet_of}

-- where a poll goes on, a read goes on; what it hears of an error or of a packet, a read hears
pub as_poll : (awaited : Toggle) → HearsRead awaited (polled_as awaited)
as_poll awaited = grind arith

unpolled : (h : HeardOutcome) (b : ArrayVec ℕ) → polled h ≡ Moved b → h ≡ Moved b
unpolled h b e = grind arith

poll_brought : (awaited : Toggle) (result : Result (Option (List ℕ)) TransFault) (o : Outcome)
    (outcomes : List Outcome) → IsPollEnd awaited result o outcomes → IsNotOfBus result
    → packet_heard (heard_as awaited o) ≡ packet_of (λ got. got) result
poll_brought awaited result o outcomes e n = grind (arith, as_poll, no_packet, unpolled)

module _ {e most max : ℕ} {awaited : Toggle} {Clear : Type 0} {s : State} where
  -- the toggle that the endpoint gives, where each of its packets is as short as the host wants it
  turn : {h : HeardOutcome} {v : State} → SourceGave e most max awaited Clear s h v
      → GivesWithin max e most s → IsNoEnd (polled h)
      → Turns awaited (in_end s e).state.toggle (in_end v e).state.toggle (polled h) (Clear → ⊥)
  turn g m n = grind (arith, hesitates_end, is_same-refl, other-other, stepped_end)

-- The device over a poll

module _ (t : Target) (ep : ℕ) (awaited : Toggle) (result : Result (Option (List ℕ)) TransFault)
    (old new : World) (j : Location) (s v : State) (run : RunThrough (DidIn (in_attempt t ep))
    (in_attempt t ep) (polled_as awaited) (IsPollEnd awaited result) (IsOfBus result) old new j s v)
  where
    up : IsOfBus result → (outcomes : List Outcome) → IsPollEnd awaited result Nothing outcomes
    up gave outcomes = grind (arith, of_bus)

    as_answer : (o : Outcome) (outcomes : List Outcome) (r : Result (Option (List ℕ)) TransFault)
        → result ≡ r → IsPollEnd awaited result o outcomes → IsPollEnd awaited r o outcomes
    as_answer o outcomes r e h = grind arith

    what : SourcePolled t ep awaited result j s v
    what = record {
      others = away_in t ep awaited (as_poll awaited) run up;
      frame = frame_in t ep awaited (as_poll awaited) run up;
      source = λ h most n i m at.
          let (o, outcomes, is, x) = whole_in t ep awaited (as_poll awaited) run up h most i in
          result_of (λ got. got) (λ c. SourceOn ep most n awaited s c v)
          (λ r. SourcePollEnds ep most n awaited s r v) (λ b z. z) (λ z. (z, z, z))
          (grind (arith, cut_source)) result
          (packet_heard (heard_as awaited o)) (search poll_brought)
          (x.goes n m at);
      stalled = λ h most i e.
          let (o, outcomes, is, x) = whole_in t ep awaited (as_poll awaited) run up h most i in
          x.stalls (grind (arith, as_answer));
      halted = λ h most i c.
          let (o, outcomes, is, x) = whole_in t ep awaited (as_poll awaited) run up h most i in
          let z = x.halted c in (
            z.0,
            λ got e. elim got as (λ got. result ≡ Ok got → ⊥) [
              | None ↦ λ e. z.2 (grind (arith, as_answer))
              | Some bytes ↦ λ e. cc (sym z.1 ∙ ap packet_heard (unpolled (heard_as awaited o)
                  (packed bytes) (grind (arith, as_answer))))
            ] e,
          );
      paced = λ h most limit i.
          (whole_in t ep awaited (as_poll awaited) run up h most i).3.paced limit;
      empty = λ h most i none each e.
          let (o, outcomes, is, x) = whole_in t ep awaited (as_poll awaited) run up h most i in
          x.spent (grind (arith, as_answer))
          (omega (arith, none), omega (arith, each));
    }

    -- Why it fails

    turned : (most : ℕ) (w : World) (u y : State) → DidIn (in_attempt t ep) w j u y
        → IsShort t ep awaited most j u
        → IsNoEnd (polled_as awaited (outcome_in (in_attempt t ep) w))
        → Turns awaited (in_end u ep).state.toggle (in_end y ep).state.toggle
        (polled_as awaited (outcome_in (in_attempt t ep) w)) (damage_in w ≢ None)
    turned most w u y d is n =
        let x = turn (did_in t ep awaited most w j u y d is.0.0.at is.0.1) is.1 n in
        record {
          even = x.even;
          behind = grind arith;
        }

    why : NoThreeDamaged old → SourcePollFailure t ep awaited result j s v
    why three = record {
      answered = λ l most i m. (
        short_answered t ep awaited (as_poll awaited) (PollGot awaited) result run most (l, i)
            three m,
        few_repeats (PollGot awaited) result run (IsShort t ep awaited most j)
            (search stays_short) ((l, i), m) awaited
            (λ u. (in_end u ep).state.toggle) three (search turned),
      );
      halted = λ l most i. halted_answered t ep awaited (as_poll awaited) (PollGot awaited) result
          run most (l, i) three;
    }

-- Each device

pub source_poll_told : (t : Target) (ep : ℕ) (awaited : Toggle)
    (result : Result (Option (List ℕ)) TransFault) (old new : World) → IsSettled old.roots
    → Polled awaited (in_attempt t ep) old result new → new.shared ≡ false
    → EachWas (DeviceTold (SourcePolled t ep awaited result) (SourcePollFailure t ep awaited result)
    old)
    old new
source_poll_told t ep awaited result old new settled x single =
    each_device old new
    (search (what, why)) (over_poll (in_kind t ep) old settled awaited new single result x)
