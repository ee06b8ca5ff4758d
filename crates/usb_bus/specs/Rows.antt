-- Rows: attempts to one endpoint, one after the other, each of which moves its packet until one
-- does not.
use Rattle.std.specs.Prelude.{◌≡◌, ◌≢◌, ℕ, ◌+◌, ◌*◌, ◌<◌, ◌≤◌, ◌==◌, ◌&&◌, List, [], ◌++◌, length}
use Rattle.std.specs.Prelude.{take, Bool, true, false, Option, Some, Ok, Err, ⊤}
use Rattle.usb_packet.specs.{Toggle, flips, is_same}
use Rattle.usb_world.specs.declared.types.Attempt.TheVariants.{In, Out}
use Rattle.usb_world.specs.declared.types.Outcome.TheVariants.{Payload, Ack, Nak, Stall, Nothing}
use Rattle.usb_world.specs.{Attempt, BusFault, Destination, Outcome, World, FitsMaximum}
use Rattle.usb_world.specs.{attempt_data}
use Rattle.usb_bus.specs.declared.rows.RowDone.{RowDone}
use Rattle.usb_bus.specs.declared.rows.RowEnd.{RowEnd}
use Rattle.usb_bus.specs.declared.rows.RowEnd.TheVariants.{Whole, Answered, Faulted}
use Rattle.usb_bus.specs.Traces.{Attempts}

-- an endpoint that attempts may be for
pub record IsDestination (to : Destination) : Type 0 where
  pub address : to.address < 128
  pub number : to.number < 16
  pub least : 1 ≤ to.max
  pub most : to.max ≤ 64

-- the attempts of a row: IN, and OUT with a packet
abbrev pub in_packet : Destination → Attempt
in_packet to = attempt_data (In to)

abbrev pub out_packet : Destination → Toggle → List ℕ → Attempt
out_packet to toggle bytes = attempt_data (Out to toggle (record { items = bytes }))

-- what ended a row: nothing, where all was moved; or its next attempt, for which something was
-- left. That one's outcome moved no packet, or the bus gave it up
abbrev pub RowEnds : (All More : Type 0) → Attempt → (Outcome → Type 0) → RowEnd → World
    → Option (List ℕ) → World → Option (List ℕ) → Type 0
RowEnds All More next Stops Whole old before new now = All × (new ≡ old) × (now ≡ before)
RowEnds All More next Stops (Answered outcome) old before new now = More × Stops outcome
    × Attempts next old before (Ok outcome) new now
RowEnds All More next Stops (Faulted fault) old before new now = More
    × Attempts next old before (Err fault) new now

-- INs

-- the outcome is a full packet of the toggle that is due
abbrev pub is_full : ℕ → Toggle → Outcome → Bool
is_full max due (Payload given bytes) = is_same due given && (length bytes.items == max)
is_full max due Ack = false
is_full max due Nak = false
is_full max due Stall = false
is_full max due Nothing = false

-- so many INs were made, and each was answered by a full packet, with toggles by turns from
-- `first`; these bytes came
pub data FullCame (to : Destination) (first : Toggle) (old : World) (before : Option (List ℕ)) :
    ℕ → List ℕ → World → Option (List ℕ) → Type 0 where
  none_came : FullCame to first old before 0 [] old before
  one_came : {n : ℕ} {got : List ℕ} {w v : World} {t s : Option (List ℕ)} (bytes : List ℕ)
      → FullCame to first old before n got w t
      → Attempts (in_packet to) w t (Ok (Payload (flips n first) (record { items = bytes }))) v s
      → length bytes ≡ to.max → FullCame to first old before (n + 1) (got ++ bytes) v s

-- a row of INs was made, for so many packets at most; these bytes came in full packets
pub record InsMade (to : Destination) (first : Toggle) (most : ℕ) (old : World)
    (before : Option (List ℕ)) (done : RowDone) (got : List ℕ) (new : World)
    (now : Option (List ℕ)) : Type 0 where
  pub mid : World
  pub between : Option (List ℕ)
  pub came : FullCame to first old before done.moved got mid between
  pub ends : RowEnds (done.moved ≡ most) (done.moved < most) (in_packet to)
      (λ outcome. is_full to.max (flips done.moved first) outcome ≡ false) done.end mid between new
      now

-- a full packet that was due joined the bytes; nothing did where the outcome is no such packet
abbrev pub AddsFull : ℕ → Toggle → Outcome → List ℕ → Bool → List ℕ → Type 0
AddsFull max due outcome old true new = (bytes : List ℕ)
    × (outcome ≡ Payload due (record { items = bytes })) × (length bytes ≡ max)
    × (new ≡ old ++ bytes)
AddsFull max due outcome old false new = (is_full max due outcome ≡ false) × (new ≡ old)

-- OUTs

-- so many OUTs were made, and each was acknowledged, with toggles by turns from `first`; these
-- bytes went, none of the packets was empty, and one went only after full ones
pub data AllTaken (to : Destination) (first : Toggle) (old : World) (before : Option (List ℕ)) :
    ℕ → List ℕ → World → Option (List ℕ) → Type 0 where
  none_taken : AllTaken to first old before 0 [] old before
  one_taken : {n : ℕ} {sent : List ℕ} {w v : World} {t s : Option (List ℕ)} (bytes : List ℕ)
      → AllTaken to first old before n sent w t → length sent ≡ n * to.max → 0 < length bytes
      → length bytes ≤ to.max
      → Attempts (out_packet to (flips n first) bytes) w t (Ok Ack) v s
      → AllTaken to first old before (n + 1) (sent ++ bytes) v s

-- a row of OUTs was made, for these bytes: each packet has as many of those that are left as fit
pub record OutsMade (to : Destination) (first : Toggle) (total : List ℕ) (old : World)
    (before : Option (List ℕ)) (done : RowDone) (new : World) (now : Option (List ℕ)) : Type 0 where
  pub sent : List ℕ
  pub rest : List ℕ
  pub split : total ≡ sent ++ rest
  pub full : 0 < length rest → length sent ≡ done.moved * to.max
  pub mid : World
  pub between : Option (List ℕ)
  pub taken : AllTaken to first old before done.moved sent mid between
  pub ends : RowEnds (rest ≡ []) (0 < length rest)
      (out_packet to (flips done.moved first) (take to.max rest)) (λ outcome. outcome ≢ Ack)
      done.end mid between new now

-- Over any bus

-- one attempt for each packet, and one more that ended the row
abbrev pub row_attempts : ℕ → RowEnd → ℕ
row_attempts moved Whole = moved
row_attempts moved (Answered outcome) = moved + 1
row_attempts moved (Faulted fault) = moved + 1

-- so many packets of so many: all of them where the row is whole
abbrev pub RowCounts : ℕ → ℕ → RowEnd → Type 0
RowCounts moved most Whole = moved ≡ most
RowCounts moved most (Answered outcome) = moved < most
RowCounts moved most (Faulted fault) = moved < most

-- data that ended the row are at most the maximum
abbrev pub RowFits : ℕ → RowEnd → Type 0
RowFits max Whole = ⊤
RowFits max (Answered outcome) = FitsMaximum max outcome
RowFits max (Faulted fault) = ⊤

pub record CountsRow (max most : ℕ) (done : RowDone) : Type 0 where
  pub counts : RowCounts done.moved most done.end
  pub fits : RowFits max done.end

-- the fault that ended the row is the one that the bus reported last
abbrev pub RowTold : RowEnd → Option BusFault → Type 0
RowTold Whole told = ⊤
RowTold (Answered outcome) told = ⊤
RowTold (Faulted fault) told = told ≡ Some fault
