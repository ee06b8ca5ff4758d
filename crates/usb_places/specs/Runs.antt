-- How far a run is, as its places count it, and the plan that they make of it.
use Rattle.std.specs.Prelude.{◌-◌, nat_lt, Bool}
use Rattle.usb_world.specs.{PlanData, World}
use Rattle.usb_places.specs.declared.seen.Deed.{Deed}
use Rattle.usb_places.specs.declared.seen.Seen.{Seen}
use Rattle.usb_places.specs.Known.{plan_known}
use Rattle.usb_places.specs.Places.{PlacesData, after_seen, found_in}

-- how far the run is before a deed
abbrev pub seen_at : World → Deed → Seen
seen_at w d = record {
  attempts = w.attempts;
  since = w.attempts - w.attempts_then;
  taken = w.taken;
  deed = d;
}

-- a place more is found then
abbrev pub finds : Seen → PlacesData → Bool
finds x p = nat_lt (found_in p.sought) (found_in (after_seen x p).sought)

-- the plan as far as its places are known
abbrev pub plan_in : PlacesData → PlanData
plan_in p = plan_known p.plan p.sought
