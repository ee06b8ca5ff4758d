-- The lines of the trace that steps write, and what an event asks of the host.
use Rattle.std.specs.Prelude.{ℕ, ◌+◌, ◌-◌, ◌==◌, if◌then◌else◌, List, [], ◌∷◌, ◌++◌, take, flat_map}
use Rattle.std.specs.Prelude.{map, slice_get, Option, Some, None}
use Rattle.usb_world.specs.{Spec, Action, Plug, Unplug, Attempt, World, at_attempt, made_in, ask_of}
use Rattle.usb_world.specs.{plug_line, unplug_line, attempt_line}
use Rattle.usb_world.specs.declared.event.Action.TheVariants.{Change, Ask}
use Rattle.usb_world.specs.declared.event.Ask.{Ask as Asked}
use Rattle.usb_watch.specs.{shown_name}

-- the names of devices, as they are shown
abbrev pub shown_names : List Spec → List (List ℕ)
shown_names devices = map (λ (d : Spec). shown_name d.name) devices

-- the line of an event, by those names
unfoldable pub event_line : Action → List (List ℕ) → List ℕ
event_line (Change (Plug path device)) names =
    elim (slice_get names device) [ None ↦ [] | Some shown ↦ plug_line path shown ++ 10 ∷ [] ]
event_line (Change (Unplug path)) names = unplug_line path ++ 10 ∷ []
event_line (Ask ask) names = []

abbrev pub action_line : Action → List Spec → List ℕ
action_line action devices = event_line action (shown_names devices)

unfoldable pub next_due : World → Option (Option Asked)
next_due w = elim w.left [ [] ↦ None | e ∷ events ↦ Some (ask_of e.action) ]

-- the lines of the events that came between two worlds
unfoldable pub lines_between : World → World → List ℕ
lines_between w v = flat_map (λ e. action_line e.action w.devices) (take (v.taken - w.taken) w.left)

-- the line of the next attempt
abbrev pub made_line : Attempt → World → List ℕ
made_line a w = attempt_line (w.attempts + 1) a.pre (made_in a w) ++ 10 ∷ []

-- the lines of a step that may have made an attempt: those of the events that came, and the
-- attempt's where it was made
unfoldable pub step_lines : Attempt → World → World → List ℕ
step_lines a w v = lines_between w v ++ (if v.attempts == w.attempts then [] else made_line a
    (at_attempt w))
