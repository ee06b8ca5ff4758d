-- The `event` entries of the document.
use Rattle.std.specs.Prelude.{ℕ, codes, List, [], ◌∷◌, ◌++◌, ◌+◌, length, Option, ok_or, Result, Ok}
use Rattle.std.specs.Prelude.{Bool, Err, nat_lt, if◌then◌else◌}
use Rattle.toml.specs.Data.{Data, Members, get_member, as_table}
use Rattle.usb_plan.specs.declared.entry_fault.EntryFault.{EntryFault}
use Rattle.usb_plan.specs.declared.entry_fault.EntryFault.TheVariants.{BadValue}
use Rattle.usb_plan.specs.declared.verb.Verb.{Verb}
use Rattle.usb_plan.specs.declared.fault.Place.TheVariants as place
use Rattle.usb_plan.specs.declared.fault.PlanFault.{PlanFault}
use Rattle.usb_plan.specs.EntryFault.{fault_in_part, least_fault, entry_at, ◌>>=◌}
use Rattle.usb_plan.specs.Keys.{no_when}
use Rattle.usb_plan.specs.Value.{number_or}
use Rattle.usb_plan.specs.Verb.{verb_at, other_keys, action_of}
use Rattle.usb_plan.specs.EventMembers.{EventValues, event_values}
use Rattle.usb_plan.specs.Action.{keys_of, keys_given}
use Rattle.usb_plan.specs.Scene.{SceneData, scene_after}
use Rattle.usb_device.specs.{Spec}
use Rattle.usb_world.specs.{Action, Event}

-- the key `after`
unfoldable pub after_at : Option Data → Result ℕ EntryFault
after_at d = number_or 0 0 1000000000 d

-- at most 10,000 events
unfoldable pub event_room : ℕ → Result (Unit {0}) EntryFault
event_room count = if nat_lt count 10000 then Ok tt else Err BadValue

unfoldable pub event_with :
    Result Action EntryFault → Result ℕ EntryFault → Result (Unit {0}) EntryFault
    → Result (Unit {0}) EntryFault
    → Result Event EntryFault
event_with action after keys room = do
  u ← least_fault (fault_in_part action ∷ fault_in_part after ∷ fault_in_part keys ∷ fault_in_part
      room ∷ [])
  n ← after
  a ← action
  Ok (record { after = n; action = a })

-- the event of these values, whose `do` is that verb, in the scene, after so many others
unfoldable pub event_given : Verb → SceneData → ℕ → EventValues → Result Event EntryFault
event_given verb scene count v =
    event_with (action_of verb scene v) (after_at v.after) (keys_given (other_keys verb) v)
    (event_room count)

-- the event of a table whose `do` is that verb, in the scene, after so many others
unfoldable pub event_of : Verb → SceneData → ℕ → Members → Result Event EntryFault
event_of verb scene count ms =
    event_with (action_of verb scene (event_values ms)) (after_at (get_member (codes "after") ms))
    (keys_of (other_keys verb) ms) (event_room count)

-- nothing else of an event is looked at where its `do` is absent or unknown, nor beside `when`
unfoldable pub event_in : SceneData → ℕ → Option Members → Result Event EntryFault
event_in scene count table = do
  ms ← ok_or table BadValue
  verb ← verb_at (get_member (codes "do") ms)
  u ← no_when (get_member (codes "when") ms)
  event_of verb scene count ms

-- the events so far and those of the values; the first is number n, and so many ports are said of
-- each device
unfoldable pub events_from : ℕ → Bool → List Spec → List ℕ → ℕ → List Event → List Data
    → Result (List Event) PlanFault
events_from roots wide devices ports n done [] = Ok done
events_from roots wide devices ports n done (d ∷ ds) =
    entry_at (place.Event n)
    (event_in (scene_after roots wide devices ports done) (length done) (as_table d))
    >>= λ e. events_from roots wide devices ports (n + 1) (done ++ e ∷ []) ds
