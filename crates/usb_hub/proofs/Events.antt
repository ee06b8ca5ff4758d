-- What events do to the addresses that devices hold.
use Rattle.std.proofs.Common.{◌≡◌, false, Option, None, Some, Result, Ok, Err, refl, ap, ◌∙◌, OnOk}
use Rattle.usb_world.specs.declared.event.Ask.{Ask}
use Rattle.usb_world.specs.{BusFault, Limit, Memory, Failed, event, after, TookEvent}
use Rattle.usb_world.specs.{World}
use Rattle.usb_world.proofs.Interface.{settled_after, step_own, step_unshared}
use Rattle.usb_hub.specs.{AddressMap, MapHolds, WhileBusWorks, KeepsAddresses}
use Rattle.usb_hub.proofs.Endpoints.{same_keeps}

event_owned : (f : AddressMap) (w : World) → MapHolds f w → MapHolds f (after event w)
event_owned f w o = record {
  distinct = o.distinct;
  own = step_own f event w refl o.own;
  single = step_unshared f o.distinct event w o.own o.single;
  settled = settled_after event w o.settled;
}

-- where the bus gave up in a world, only its fault is new
gave_up : (P : World → Type 0) (fault : BusFault) (w new : World)
    → new ≡ record w { fault = Some fault } → w.shared ≡ false → WhileBusWorks P new
gave_up P fault w new is single = record {
  so = λ h. absurd (cc (h, ap (λ v. v.fault) is));
  single = ap (λ v. v.shared) is ∙ single;
}

came_keeps : (old new : World) → old.fault ≡ None → new ≡ after event old → KeepsAddresses old new
unfolding after
came_keeps old new e is = record {
  kept = λ f o. let kept : MapHolds f (after event old) =
      event_owned f old (o.so e) in rw is (record { so = λ _. kept; single = kept.single });
}

-- an event that came, and none that was left; where the bus gave up, the event came or it did not
pub event_keeps : (old : World) (result : Result (Option (Option Ask)) BusFault) (new : World)
    → TookEvent old result new → OnOk result (new ≡ after event old)
    → (result ≡ Err Memory → old.fault ≡ None → new ≡ record old { fault = Some Memory })
    → (result ≡ Err Failed → old.fault ≡ None
    → new ≡ record (after event old) { fault = Some Failed })
    → (result ≡ Err Limit → old.fault ≡ None → ⊥) → KeepsAddresses old new
event_keeps old result new took_it exact refused cut other = split old.fault refl
  where
    sound : (r : Result (Option (Option Ask)) BusFault) → result ≡ r
        → OnOk r (new ≡ after event old) → old.fault ≡ None → KeepsAddresses old new
    sound (Ok due) is came e = came_keeps old new e came
    sound (Err Memory) is came e = record {
      kept = λ f o. gave_up (MapHolds f) Memory old new (refused is e) o.single;
    }
    sound (Err Failed) is came e =
        record {
          kept = λ f o. gave_up (MapHolds f) Failed (after event old) new (cut is e)
              (event_owned f old (o.so e)).single;
        }
    sound (Err Limit) is came e = elim (other is e) [ ]

    split : (x : Option BusFault) → old.fault ≡ x → KeepsAddresses old new
    split None e = sound result refl exact e
    split (Some fault) e = same_keeps old new (took_it.again fault e).1
