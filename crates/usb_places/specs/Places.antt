-- The places of a host's run, by what it did.
use Rattle.std.specs.Prelude.{◌≡◌, ℕ, List, [], ◌∷◌, ◌+◌, ◌-◌, Bool, true, false, ◌&&◌, ◌||◌, ◌==◌}
use Rattle.std.specs.Prelude.{nat_eq, nat_le, ◌≤◌, All, IfSome, map, Option, None, Some, is_none}
use Rattle.std.specs.Prelude.{is_some, if◌then◌else◌}
use Rattle.std.specs.List.{count_by}
use Rattle.std.specs.Cmp.Lexicographic.{pointwise}
use Rattle.usb_port.specs.{is_reset}
use Rattle.usb_request.specs.{Setup}
use Rattle.usb_world.specs.{PlanData, after_most, damage_fits}
use Rattle.usb_places.specs.declared.request.Asked.{Asked}
use Rattle.usb_places.specs.declared.seen.Deed.{Deed}
use Rattle.usb_places.specs.declared.seen.Deed.TheVariants as deed
use Rattle.usb_places.specs.declared.seen.Seen.{Seen}
use Rattle.usb_places.specs.declared.sought.Sought.{Sought}
use Rattle.usb_places.specs.declared.sought.Whose.{Whose}
use Rattle.usb_places.specs.declared.sought.Whose.TheVariants.{Event, Damage}
use Rattle.usb_places.specs.declared.transfer.Transfer.{Transfer}
use Rattle.usb_places.specs.declared.when.Moment.{Moment}
use Rattle.usb_places.specs.declared.when.Moment.TheVariants as moment
use Rattle.usb_places.specs.declared.when.Sign.{Sign}
use Rattle.usb_places.specs.declared.when.Sign.TheVariants.{Request, Reset, Status, Wait}
use Rattle.usb_places.specs.declared.when.When.{When}
use Rattle.usb_places.specs.Deeds.{begins, moment_in, transfer_after}
use Rattle.usb_places.specs.Requests.{is_asked}

-- the path of a device is this one
abbrev pub is_at : List ℕ → Option (List ℕ) → Bool
is_at device None = false
is_at device (Some path) = pointwise nat_eq device path

-- it is a counted request of the device
abbrev pub suits : Asked → List ℕ → Setup → Option (List ℕ) → Bool
suits asked device setup path = is_asked asked setup && is_at device path

abbrev pub suits_some : Asked → List ℕ → Option Setup → Option (List ℕ) → Bool
suits_some asked device None path = false
suits_some asked device (Some setup) path = suits asked device setup path

-- a counted request of the device begins
unfoldable pub starts : Asked → List ℕ → Option Transfer → Deed → Bool
starts asked device t (deed.Attempt a path) = suits_some asked device (begins t a) path
starts asked device t (deed.Call port call) = false
starts asked device t (deed.Status port) = false
starts asked device t deed.Wait = false

abbrev pub same_moment : Moment → Moment → Bool
same_moment moment.Token moment.Token = true
same_moment moment.Data moment.Data = true
same_moment moment.Answer moment.Answer = true
same_moment moment.After moment.After = true
same_moment a b = false

abbrev pub is_moment : Moment → Option Moment → Bool
is_moment at None = false
is_moment at (Some begun) = same_moment at begun

-- this part of a counted request of the device begins
unfoldable pub goes_on : Moment → Asked → List ℕ → Option Transfer → Deed → Bool
goes_on at asked device None d = false
goes_on at asked device (Some t) d =
    is_moment at (moment_in t d) && suits asked device t.setup t.path

unfoldable pub request_met : Moment → Asked → List ℕ → Option Transfer → Deed → Bool
request_met moment.Token asked device t d = starts asked device t d
request_met moment.Data asked device t d = goes_on moment.Data asked device t d
request_met moment.Answer asked device t d = goes_on moment.Answer asked device t d
request_met moment.After asked device t d = goes_on moment.After asked device t d

-- it is a reset of the root port
abbrev pub resets : ℕ → Deed → Bool
resets port (deed.Call called call) = called == port && is_reset call
resets port d = false

-- it reads the status of the root port
abbrev pub asks_status : ℕ → Deed → Bool
asks_status port (deed.Status read) = read == port
asks_status port d = false

abbrev pub is_wait : Deed → Bool
is_wait deed.Wait = true
is_wait d = false

abbrev pub is_attempt : Deed → Bool
is_attempt (deed.Attempt a path) = true
is_attempt d = false

-- the host does what the sign says, beside the transfer in progress
unfoldable pub is_met : Sign → Option Transfer → Deed → Bool
is_met (Request asked device at) t d = request_met at asked device t d
is_met (Reset port) t d = resets port d
is_met (Status port) t d = asks_status port d
is_met Wait t d = is_wait d

-- how many more times the sign is to be met
unfoldable pub left_after : Sign → ℕ → Option Transfer → Deed → ℕ
left_after sign left t d = if is_met sign t d then left - 1 else left

-- the place is right before that, once its sign was met often enough: a damage's before an attempt,
-- an event's before an attempt too, if it is the next event; it comes at a wait at the latest
unfoldable pub stands : Whose → Bool → Seen → Bool
stands (Event before) reached x =
    x.taken == before && nat_le x.since after_most
    && (is_wait x.deed || (reached && is_attempt x.deed))
stands (Damage d) reached x = reached && is_attempt x.deed

-- the number of the place there: of an event the attempts since the one before, of a damage that of
-- the attempt
unfoldable pub number_at : Whose → Seen → ℕ
number_at (Event before) x = x.since
number_at (Damage d) x = x.attempts + 1

-- the number of the first place in what a host did, of which this is left before
unfoldable pub place_from : Whose → Sign → ℕ → Option Transfer → List Seen → Option ℕ
place_from whose sign left t [] = None
place_from whose sign left t (x ∷ xs) =
    if stands whose (left_after sign left t x.deed == 0) x then Some (number_at whose x)
    else place_from whose sign (left_after sign left t x.deed) (transfer_after t x.deed) xs

-- the number of a place in all that a host did
unfoldable pub place_of : Whose → When → List Seen → Option ℕ
place_of whose when history = place_from whose when.sign when.nth None history

-- what is left behind that
unfoldable pub left_from : Sign → ℕ → Option Transfer → List Seen → ℕ
left_from sign left t [] = left
left_from sign left t (x ∷ xs) =
    left_from sign (left_after sign left t x.deed) (transfer_after t x.deed) xs

unfoldable pub transfer_from : Option Transfer → List Seen → Option Transfer
transfer_from t [] = t
transfer_from t (x ∷ xs) = transfer_from (transfer_after t x.deed) xs

-- a place that is sought, after one more of what the host does
unfoldable pub seen_by : Option Transfer → Seen → Sought → Sought
seen_by t x s = record s {
  left = left_after s.when.sign s.left t x.deed;
  found = if is_none s.found && stands s.whose (left_after s.when.sign s.left t x.deed == 0) x
      then Some (number_at s.whose x) else s.found;
}

-- it can stand in a plan, wherever its place is
abbrev pub IsGoodFor : Whose → Option ℕ → Type 0
IsGoodFor (Event before) found = IfSome found (λ n. n ≤ after_most)
IsGoodFor (Damage d) found = (damage_fits 0 d ≡ true) × IfSome found (λ n. 1 ≤ n)

abbrev pub IsGood : Sought → Type 0
IsGood s = IsGoodFor s.whose s.found

-- how many are found
abbrev pub found_in : List Sought → ℕ
found_in sought = count_by (λ s. is_some s.found) sought

-- what is known of a place that is sought is what the host's history says
pub record IsSoughtAfter (history : List Seen) (s : Sought) : Type 0 where
  pub left : s.left ≡ left_from s.when.sign s.when.nth None history
  pub found : s.found ≡ place_of s.whose s.when history

pub record PlacesData : Type 0 where
  pub plan : PlanData  -- all events, and the damages without a place
  pub sought : List Sought
  pub transfer : Option Transfer

abbrev pub places_data : PlanData → List Sought → Option Transfer → PlacesData
places_data plan sought transfer = record { plan = plan; sought = sought; transfer = transfer }

-- after one more of what the host does
unfoldable pub after_seen : Seen → PlacesData → PlacesData
after_seen x p = record p {
  sought = map (seen_by p.transfer x) p.sought;
  transfer = transfer_after p.transfer x.deed;
}

-- what is known is what the host's history says
pub record IsKnown (history : List Seen) (p : PlacesData) : Type 0 where
  pub transfer : p.transfer ≡ transfer_from None history
  pub places : All (IsSoughtAfter history) p.sought
