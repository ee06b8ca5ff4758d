-- Which packets of a host have no answer, and what that says of its toggles.
use Rattle.std.specs.Prelude.{ℕ, ◌==◌, ◌&&◌, not, nat_lt, List, [], ◌∷◌, ◌++◌, length, map, filter}
use Rattle.std.specs.Prelude.{if◌then◌else◌, Bool, true, false, Option, None, Some}
use Rattle.std.specs.List.{list_any}
use Rattle.usb_packet.specs.{Toggle, is_same}
use Rattle.usb_world.specs.declared.types.Attempt.{Attempt}
use Rattle.usb_world.specs.declared.types.Attempt.TheVariants.{Setup, Out, In}
use Rattle.usb_world.specs.{Destination, Outcome}
use Rattle.usb_world.specs.declared.types.Outcome.TheVariants as outcome
use Rattle.usb_judge.specs.declared.outs.Unanswered.{Unanswered}
use Rattle.usb_judge.specs.declared.remark.Remark.{Remark}
use Rattle.usb_judge.specs.declared.remark.Remark.TheVariants as remark

-- The endpoints

abbrev pub is_of : ℕ → ℕ → Unanswered → Bool
is_of address number u = u.address == address && u.number == number

-- the endpoint has acknowledged nothing since it left a packet without an answer
abbrev pub is_unanswered : List Unanswered → ℕ → ℕ → Bool
is_unanswered left address number = list_any (is_of address number) left

-- An OUT before it is made

abbrev pub is_other : Toggle → Option Toggle → Bool
is_other toggle None = false
is_other toggle (Some sent) = not (is_same sent toggle)

-- the packet that this endpoint left without an answer had the other toggle
abbrev pub is_skipped : Destination → Toggle → Unanswered → Bool
is_skipped to toggle u = is_of to.address to.number u && is_other toggle u.toggle

-- 8.6.4
abbrev pub skips_retry : List Unanswered → Attempt → Bool
skips_retry left (Setup to bytes) = false
skips_retry left (Out to toggle bytes) = list_any (is_skipped to toggle) left
skips_retry left (In to) = false

abbrev pub told_before : List Unanswered → Attempt → Option Remark
told_before left a = if skips_retry left a then Some remark.SkippedRetry else None

-- An OUT after it was made

abbrev pub is_ack : Outcome → Bool
is_ack outcome.Ack = true
is_ack other = false

-- the endpoint is not endpoint 0, and neither of them left a packet without an answer
abbrev pub is_sure : List Unanswered → Destination → Bool
is_sure left to = not (to.number == 0) && not (is_unanswered left to.address to.number)
    && not (is_unanswered left to.address 0)

-- the host got ACK for data that the device did not take, and not because they came again (8.6)
abbrev pub is_dropped : List Unanswered → Attempt → Outcome → Bool → Bool
is_dropped left (Setup to bytes) o took = false
is_dropped left (Out to toggle bytes) o took =
    is_ack o && not took && nat_lt 0 (length bytes.items) && is_sure left to
is_dropped left (In to) o took = false

abbrev pub told_after : List Unanswered → Attempt → Outcome → ℕ → ℕ → Option Remark
told_after left a o before after = if is_dropped left a o (not (after == before))
    then Some remark.OtherToggle else None

-- What an attempt leaves

-- SETUP may begin the toggles of a device anew (9.4.5)
abbrev pub toggle_forgotten : ℕ → Unanswered → Unanswered
toggle_forgotten address u = if u.address == address then record u { toggle = None } else u

abbrev pub after_token : List Unanswered → Attempt → List Unanswered
after_token left (Setup to bytes) = map (toggle_forgotten to.address) left
after_token left (Out to toggle bytes) = left
after_token left (In to) = left

abbrev pub unanswered : Destination → Option Toggle → Unanswered
unanswered to toggle = record { address = to.address; number = to.number; toggle = toggle }

-- the endpoint that the attempt leaves so where it has no answer; an IN endpoint besides endpoint 0
-- is another one than the OUT endpoint of its number
abbrev pub left_by : Attempt → Option Unanswered
left_by (Setup to bytes) = Some (unanswered to None)
left_by (Out to toggle bytes) = Some (unanswered to (Some toggle))
left_by (In to) = if to.number == 0 then Some (unanswered to None) else None

abbrev pub without : ℕ → ℕ → List Unanswered → List Unanswered
without address number left = filter (λ u. not (is_of address number u)) left

-- an endpoint is left so without an answer, and no longer with ACK
abbrev pub after_answer : List Unanswered → Option Unanswered → Outcome → List Unanswered
after_answer left None o = left
after_answer left (Some u) outcome.Nothing = without u.address u.number left ++ u ∷ []
after_answer left (Some u) outcome.Ack = without u.address u.number left
after_answer left (Some u) other = left

abbrev pub after_attempt : List Unanswered → Attempt → Outcome → List Unanswered
after_attempt left a o = after_answer (after_token left a) (left_by a) o
