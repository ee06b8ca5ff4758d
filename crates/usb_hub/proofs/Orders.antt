-- A request without data that resets no port asks nothing but of ports below the device that has
-- its address.
use Rattle.std.proofs.Common.{arith, ◌≡◌, ℕ, inl, inr, true, false, List, Result, refl, ap, ◌∙◌}
use Rattle.usb_request.specs.{Setup}
use Rattle.usb_request.proofs.Interface.{same_setup}
use Rattle.usb_world.specs.{Attempt, is_harmless, AsksNothing, is_above, LeavesPortAlone, Course}
use Rattle.usb_world.specs.{attempt, after, World, Made}
use Rattle.usb_world.proofs.Interface.{course_joined, elsewhere, holder_or_nobody, made_of}
use Rattle.usb_transfer.specs.{Target, PipeFault, Writes, IsNoBusFault}
use Rattle.usb_hub.specs.{MapHolds, TouchesPortsBelow}
use Rattle.usb_hub.proofs.ClaimedHubs.{ClaimedAt, KeepsClaim, claimed_holder, quiet_follows}
use Rattle.usb_hub.proofs.ClaimedHubs.{trail_with}
use Rattle.usb_hub.proofs.UnheldAddresses.{nobody_asks_nothing}
use Rattle.usb_hub.proofs.Steps.{unshared_after}
use Rattle.usb_hub.proofs.Calls.{Sent, writes_sent}
use Rattle.usb_hub.proofs.RestingRequests.{behind_asks_nothing}

-- an attempt for an address that a path claims
attempt_elsewhere : (a : Attempt) (w : World) (q x : List ℕ) → ClaimedAt q a.addr w
    → Made w (after (attempt a) w) → is_above q x ≡ false → AsksNothing (attempt a) w x
attempt_elsewhere a w q x claimed made apart =
    elim (holder_or_nobody a w (grind (arith, made_of))
    (unshared_after claimed.claims a w claimed.owned)) [
      | inl h ↦ elsewhere a w h x (ap (λ y. is_above y x)
          (claimed_holder q a.addr w claimed a refl h) ∙ apart)
      | inr h ↦ nobody_asks_nothing a w x h claimed.owned.settled
    ]

pub order_elsewhere : (t : Target) (request : Setup) (result : Result (Unit {0}) PipeFault)
    (old new : World) → Writes t request old result new → is_harmless request ≡ true
    → IsNoBusFault result → TouchesPortsBelow t.addr old new
order_elsewhere t request result old new writes harmless sound f q held own x apart =
    course_joined trail.1 (behind_asks_nothing t x sent.behind trail.0.settled)
  where
    sent : Sent t request old new
    sent = grind (arith, writes_sent)

    follows : KeepsClaim t request q (MapHolds f)
    follows = grind (arith, quiet_follows, same_setup)

    trail : MapHolds f sent.mid × Course (LeavesPortAlone x) old sent.mid
    trail = trail_with (MapHolds f) follows.onward (search attempt_elsewhere) sent.trail own
