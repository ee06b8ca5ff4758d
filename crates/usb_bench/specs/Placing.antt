-- The places of a plan, found in what the host does.
use Rattle.std.specs.Prelude.{◌≡◌, ℕ, ◌+◌, true, false, List, [], ◌∷◌, Option}
use Rattle.std.specs.Prelude.{None, Some, option_map, if◌then◌else◌, ⊤}
use Rattle.usb_world.specs.declared.types.Attempt.{Attempt}
use Rattle.std.specs.Str.{bytes_eq}
use Rattle.usb_world.specs.{PlanData, World}
use Rattle.usb_sim.specs.{is_alike}
use Rattle.usb_wire.specs.{Question}
use Rattle.usb_wire.specs.declared.question.Question.TheVariants.{Port, Wait}
use Rattle.usb_far.specs.{Far, Follows, Played}
use Rattle.usb_judge.specs.{ArePlugged}
use Rattle.usb_verdict.specs.{ListsOnce}
use Rattle.usb_judge.specs.declared.plugged.PluggedDevice.{PluggedDevice}
use Rattle.usb_places.specs.{PlacesData, after_seen, finds, plan_in, seen_at, try_of}
use Rattle.usb_places.specs.declared.seen.Deed.{Deed}
use Rattle.usb_places.specs.declared.seen.Deed.TheVariants as deed
use Rattle.usb_bench.specs.declared.fault.BenchFault.{BenchFault}
use Rattle.usb_bench.specs.declared.fault.BenchFault.TheVariants as fault
use Rattle.usb_bench.specs.declared.judge.Judge.{Judge}
use Rattle.usb_bench.specs.Attempts.{attempt_asked, holder_of}

-- what a question has the host do, as places count it: an attempt at the port of the device that
-- holds its address, a call at a root port, or a wait
abbrev pub try_in : List PluggedDevice → Option Attempt → Option Deed
try_in plugged a = option_map (λ b. deed.Attempt (try_of b) (holder_of plugged b)) a

abbrev pub deed_of : List PluggedDevice → Question → Option Deed
deed_of plugged (Port number call) = Some (deed.Call number call)
deed_of plugged Wait = Some deed.Wait
deed_of plugged other = try_in plugged (attempt_asked other)

-- by the devices that are plugged in a world
pub record IsDeedIn (asked : Question) (w : World) (d : Option Deed) : Type 0 where
  pub plugged : List PluggedDevice
  pub are : ArePlugged plugged w
  pub once : ListsOnce plugged
  pub is : d ≡ deed_of plugged asked

-- the deed is seen; where a place is found, the plan as far as it is known is played from now on
pub record DeedPlaced (d : Deed) (p : PlacesData) (old : Played) (q : PlacesData) (new : Played) :
    Type 0 where
  pub seen : q ≡ after_seen (seen_at old.far.world d) p
  pub found : finds (seen_at old.far.world d) p ≡ true → Follows (plan_in q) old new
  pub other : finds (seen_at old.far.world d) p ≡ false → new ≡ old

abbrev pub AnyPlaced : Option Deed → PlacesData → Played → PlacesData → Played → Type 0
AnyPlaced None p old q new = (q ≡ p) × (new ≡ old)
AnyPlaced (Some d) p old q new = DeedPlaced d p old q new

-- what a question has the host do is seen, by the devices that are plugged then
pub record QuestionPlaced (asked : Question) (p : PlacesData) (old : Played) (q : PlacesData)
    (new : Played) : Type 0 where
  pub plugged : List PluggedDevice
  pub are : ArePlugged plugged old.far.world
  pub once : ListsOnce plugged
  pub placed : AnyPlaced (deed_of plugged asked) p old q new

pub record JudgePlaced (asked : Question) (p : PlacesData) (j : Judge) (old : Played)
    (new_judge : Judge) (new : Played) : Type 0 where
  pub q : PlacesData
  pub placed : QuestionPlaced asked p old q new
  pub judge : new_judge ≡ record j { places = Some q }

-- before a question; where no place is sought, nothing is done
abbrev pub PlacedIn : Option PlacesData → Question → Judge → Played → Judge → Played → Type 0
PlacedIn None asked j old new_judge new = (new_judge ≡ j) × (new ≡ old)
PlacedIn (Some p) asked j old new_judge new = JudgePlaced asked p j old new_judge new

abbrev pub Placed : Question → Judge → Played → Judge → Played → Type 0
Placed asked j old new_judge new = PlacedIn j.places asked j old new_judge new

-- memory was refused, or the plan is not of the far end's kind
abbrev pub IsUnfollowed : PlanData → Played → BenchFault → Type 0
IsUnfollowed p old fault.Memory = ⊤
IsUnfollowed p old fault.OtherPlan = is_alike p old.far.world ≡ false
IsUnfollowed p old other = ⊥

-- the plan that is known at a question is not of the far end's kind
pub record IsOtherPlan (asked : Question) (p : PlacesData) (old : Played) : Type 0 where
  pub plugged : List PluggedDevice
  pub are : ArePlugged plugged old.far.world
  pub once : ListsOnce plugged
  pub d : Deed
  pub deed : deed_of plugged asked ≡ Some d
  pub unlike : is_alike (plan_in (after_seen (seen_at old.far.world d) p)) old.far.world ≡ false

-- why a question is not placed
abbrev pub IsUnmoved : Question → PlacesData → Played → BenchFault → Type 0
IsUnmoved asked p old fault.Memory = ⊤
IsUnmoved asked p old fault.OtherPlan = IsOtherPlan asked p old
IsUnmoved asked p old other = ⊥

abbrev pub UnplacedIn : Option PlacesData → Question → Played → BenchFault → Type 0
UnplacedIn None asked old f = ⊥
UnplacedIn (Some p) asked old f = IsUnmoved asked p old f

abbrev pub IsUnplaced : Question → Judge → Played → BenchFault → Type 0
IsUnplaced asked j old f = UnplacedIn j.places asked old f

-- behind a reply, the status of each root port that was reported with it is seen

abbrev pub told_at : World → ℕ → List ℕ → List ℕ → PlacesData → PlacesData
told_at w number before now p =
    if bytes_eq before now then p else after_seen (seen_at w (deed.Status number)) p

-- of the ports from a number on
unfoldable pub told_from : World → ℕ → List (List ℕ) → List (List ℕ) → PlacesData → PlacesData
told_from w number [] now p = p
told_from w number (s ∷ before) [] p = p
told_from w number (s ∷ before) (t ∷ now) p = told_from w (number + 1) before now
    (told_at w number s t p)

abbrev pub told_beside : Far → List (List ℕ) → Judge → Judge
told_beside f before j = record j {
  places = option_map (told_from f.world 1 before f.told) j.places;
}

abbrev pub told_to : Played → Played → Judge → Judge
told_to old new j = told_beside new.far old.far.told j
