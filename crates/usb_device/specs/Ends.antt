-- The two rows of endpoints besides endpoint 0: each is kept by its number and its direction, from
-- the plug on, whether a configuration has it or not (9.6.6).
use Rattle.std.specs.Prelude.{ℕ, zero, suc, ◌+◌, ◌-◌, if◌then◌else◌, List, [], ◌∷◌, ◌++◌, ◌&&◌}
use Rattle.std.specs.Prelude.{Bool, Option, None, Some}
use Rattle.usb_request.specs.{DIRECTION_IN}
use Rattle.usb_device.specs.declared.bulk.EndpointState.{EndpointState}
use Rattle.usb_device.specs.declared.endpoint_spec.EndpointSpec.{EndpointSpec}
use Rattle.usb_device.specs.declared.ends.InEnd.{InEnd}
use Rattle.usb_device.specs.declared.ends.Pace.{Pace}
use Rattle.usb_packet.specs.{other}
use Rattle.usb_device.specs.DeviceSpecs.{Spec}
use Rattle.usb_device.specs.EndpointSpecs.{endpoint_row}
use Rattle.usb_device.specs.Bulk.{rested, count_down, is_last}

-- an endpoint that gives no NAK where it has a packet, and never halts by itself
abbrev pub steady : Pace
steady = record { naks = 0; each = 0; until_halt = None }

-- after one of its NAKs
abbrev pub hesitated : Pace → Pace
hesitated pace = record pace { naks = pace.naks - 1 }

-- at a beginning: all its NAKs come before the next packet
abbrev pub renewed : Pace → Pace
renewed pace = record pace { naks = pace.each }

-- after a packet that moved
abbrev pub paced_on : Pace → Pace
paced_on pace = record {
  naks = pace.each;
  each = pace.each;
  until_halt = count_down pace.until_halt;
}

-- an OUT endpoint
pub record OutEnd : Type 0 where
  pub state : EndpointState
  pub pace : Pace
  -- what it has taken since the plug
  pub sink : List ℕ

-- one that has taken nothing
abbrev pub no_out : OutEnd
no_out = record { state = rested; pace = steady; sink = [] }

-- an IN endpoint that has given nothing
abbrev pub no_in : InEnd
no_in = record { state = rested; pace = steady; place = 0 }

-- as a plan describes it; the halt that it says without an address is for OUT endpoints
abbrev pub pace_by : Option EndpointSpec → Option ℕ → Pace
pace_by None halt_after = record { naks = 0; each = 0; until_halt = halt_after }
pace_by (Some row) halt_after =
    record { naks = row.naks; each = row.naks; until_halt = row.halt_after }

-- as they are at the plug
abbrev pub plugged_out : Spec → ℕ → OutEnd
plugged_out s e = record no_out { pace = pace_by (endpoint_row s.endpoints e) s.halt_after }

abbrev pub plugged_in_end : Spec → ℕ → InEnd
plugged_in_end s e =
    record no_in { pace = pace_by (endpoint_row s.endpoints (DIRECTION_IN + e)) None }

-- the numbers of a direction, endpoint 0 included
abbrev pub end_numbers : List ℕ
end_numbers =
    0 ∷ 1 ∷ 2 ∷ 3 ∷ 4 ∷ 5 ∷ 6 ∷ 7 ∷ 8 ∷ 9 ∷ 10 ∷ 11 ∷ 12 ∷ 13 ∷ 14 ∷ 15 ∷ []

-- as a configuration leaves them: what they took and gave stays
abbrev pub rested_out : OutEnd → OutEnd
rested_out end = record end { state = rested; pace = renewed end.pace }

abbrev pub rested_in : InEnd → InEnd
rested_in end = record end { state = rested; pace = renewed end.pace }

-- the endpoint begins again, if this is so
abbrev pub begun_if : {A : Type 0} → Bool → (A → A) → A → A
begun_if begins rested end = if begins then rested end else end

-- each end of a row, changed by its number; the first one has the number that is given
unfoldable pub numbered_from : {A : Type 0} → (ℕ → A → A) → ℕ → List A → List A
numbered_from change e [] = []
numbered_from change e (end ∷ row) = change e end ∷ numbered_from change (e + 1) row

-- the endpoint after a packet that joined its sink; its plan may say that it halts
abbrev pub taken_on : Bool → List ℕ → OutEnd → OutEnd
taken_on halts bytes end = record {
  state =
      record {
        toggle = other end.state.toggle;
        halted = halts && is_last end.pace.until_halt;
      };
  pace = paced_on end.pace;
  sink = end.sink ++ bytes;
}

-- the endpoint after the host's ACK of a packet, which is at this place then
abbrev pub given_on : ℕ → InEnd → InEnd
given_on place end = record {
  state =
      record { toggle = other end.state.toggle; halted = is_last end.pace.until_halt };
  pace = paced_on end.pace;
  place = place;
}

-- the row with another end at a number; beyond the row each end is the one that is said first
unfoldable pub with_at : {A : Type 0} → A → ℕ → A → List A → List A
with_at none zero x [] = x ∷ []
with_at none zero x (y ∷ row) = x ∷ row
with_at none (suc n) x [] = none ∷ with_at none n x []
with_at none (suc n) x (y ∷ row) = y ∷ with_at none n x row
