-- New pipes to a device that was just configured, and its endpoint 0.
use Rattle.std.proofs.Common.{◌≡◌, ap, true, ℕ, List, Option, None, Some, is_some, arith, ◌≤◌, ◌<◌}
use Rattle.std.proofs.Common.{Bool, ◌∙◌, refl, sym, false, ◌==◌, not, if◌then◌else◌, [], length}
use Rattle.std.proofs.Common.{get_or, slice_index, slice_index_or}
use Rattle.usb_descriptor.specs.{status_endpoint_of, UsableEndpoint, max_of_usable}
use Rattle.usb_descriptor.specs.{default_settings}
use Rattle.usb_enum.specs.{Accepted, HasFacts, HubFacts, configuration_of, target_of, IsAs}
use Rattle.usb_enum.specs.{texts_of, is_good_hub, gives_hub, holds_changes, is_hub_device}
use Rattle.usb_enum.specs.{HostOptions, IsOwn}
use Rattle.usb_table.specs.{IsSoundDevice, Function, PipesInSync, new_status, pipe_at, lost_at}
use Rattle.usb_table.specs.{none_lost, AreFunctionPipes, IsPipe, first_endpoint, first_number}
use Rattle.usb_table.specs.{new_function, new_pipe, new_pipes, number_of, row_of_ends, usable_end}
use Rattle.usb_table.specs.{end_under}
use Rattle.std.proofs.lemmas.Bool.{and_parts, cases_lt}
use Rattle.usb_transfer.specs.{IsTarget, Target}
use Rattle.usb_enum.proofs.Interface.{device_fits, AcceptsChosen, HasChosen, accepts, has_chosen}
use Rattle.std.proofs.lemmas.Bool.Decides.{nat_tests}
use Rattle.std.proofs.lemmas.Option.{same_Some}
use Rattle.std.proofs.lemmas.List.{get_or-map, get_or-replicate, get_or_past}
use Rattle.std.proofs.lemmas.List.FromFn.{get_or-range_with_len}
use Rattle.arrayvec.specs.ArrayVec.{ArrayVec}
use Rattle.usb_descriptor.proofs.Interface.{length-default_settings, status_endpoint-wide}
use Rattle.usb_descriptor.proofs.Interface.{usable_under-small}
use Rattle.usb_device.specs.{rested, served_at, tells_changes, text_of, hub_ports, status_length}
use Rattle.usb_device.specs.{State, IsSpec, in_end}
use Rattle.usb_world.proofs.Interface.{and_false}
use Rattle.usb_hub.specs.{IsFresh}
use Rattle.usb_enum.specs.declared.finding.Finding.TheVariants.{Device}
use Rattle.usb_transfer.proofs.Interface.{is_some_byte}
use Rattle.usb_table.proofs.levels.FittingPipes.{FitsWay, state_at, way-none}

-- A hub that is accepted has a status endpoint (11.12.1).

has_by : (bytes text : List ℕ) (hub : Option HubFacts) → HasFacts bytes text hub
    → is_some hub ≡ true → is_some (status_endpoint_of true text) ≡ true
has_by bytes text hub has hub1 = grind arith

pub sound_status : (device : Accepted) → IsSoundDevice device → is_some device.hub ≡ true
    → is_some (status_endpoint_of true (configuration_of device)) ≡ true
sound_status device sound hub = grind (arith, has_by)

-- Endpoint 0 of a device that was accepted.

pub sound_target_fits : (device : Accepted) (below_hub : Bool) → IsSoundDevice device
    → device.address < 128 → IsTarget (target_of device below_hub)
sound_target_fits device below_hub sound address = grind (arith, and_parts, device_fits)

pub sound_target_wide : (device : Accepted) (below_hub : Bool) → IsSoundDevice device
    → 8 ≤ (target_of device below_hub).max
sound_target_wide device below_hub sound = grind (arith, device_fits)

-- New pipes to a device that was just configured are level.

-- New pipes stand at the endpoints that a pipe can use

pub row_of_ends-at : (target : Target) (is_in : Bool) (ends : ℕ → Option UsableEndpoint)
    → ((e : ℕ) → 16 ≤ e → ends e ≡ None) → (e : ℕ)
    → get_or (row_of_ends target is_in ends) e None ≡ new_pipe target is_in e (ends e)
row_of_ends-at target is_in ends none e =
    grind (arith, cases_lt, get_or-map, get_or-range_with_len, get_or_past)

-- an endpoint that a pipe can use has a number below 16
pub none_at : (settings : List ℕ) (device : Accepted) (is_in : Bool) (e : ℕ) → 16 ≤ e
    → end_under settings device is_in e ≡ None
none_at settings device is_in e beyond = grind (arith, usable_under-small)

new_at : (device : Accepted) (below_hub is_in : Bool) (e : ℕ)
    → pipe_at is_in e (new_function device below_hub)
    ≡ new_pipe (target_of device below_hub) is_in e (usable_end device is_in e)
new_at device below_hub true e = grind (arith, none_at, row_of_ends-at)
new_at device below_hub false e = grind (arith, none_at, row_of_ends-at)

none_marked : (e : ℕ) → get_or none_lost e None ≡ None
none_marked e = grind (arith, cases_lt, get_or-replicate, get_or_past)

new_lost : (device : Accepted) (below_hub is_in : Bool) (e : ℕ)
    → lost_at is_in e (new_function device below_hub) ≡ None
new_lost device below_hub is_in e = grind (arith, none_marked)

-- a new pipe is to its endpoint
pub new_pipe_fits : (device : Accepted) (below_hub is_in : Bool) (e : ℕ)
    (end : Option UsableEndpoint)
    → IsPipe device below_hub is_in e end (new_pipe (target_of device below_hub) is_in e end)
new_pipe_fits device below_hub is_in e end = grind arith

-- an endpoint that has not moved since it began
pub record IsNewEnd (is_in : Bool) (e : ℕ) (end : UsableEndpoint) (s : State) : Type 0 where
  pub most : max_of_usable (served_at s.spec s.registers is_in e) ≡ Some end.max
  pub far : (e == 0) ≡ false
  pub rests : state_at is_in s e ≡ rested
  pub quiet : tells_changes s.spec s.registers ≡ false

-- and is as far as the pipe
pub new_fits : (target : Target) (is_in : Bool) (e : ℕ) (o : Option UsableEndpoint) (s : State)
    → ((end : UsableEndpoint) → o ≡ Some end → IsNewEnd is_in e end s)
    → FitsWay is_in (new_pipe target is_in e o) s
new_fits target is_in e None s new = way-none is_in s
new_fits target false e (Some end) s new =
    let x = new end refl in
    record {
      endpoint = record { endpoint = x.most; not_zero = x.far };
      level = grind arith;
      halted = λ halts. cc halts;
    }
new_fits target true e (Some end) s new =
    let x = new end refl in (
      (in_end s e).place,
      record {
        endpoint = record {
          endpoint = x.most;
          not_zero = x.far;
          alone = grind (arith, and_false);
        };
        level = grind arith;
        halted = λ halts. cc halts;
      },
    )

pub new_function_fits : (device : Accepted) (below_hub : Bool) → is_some device.hub ≡ false
    → AreFunctionPipes device below_hub (new_function device below_hub)
new_function_fits device below_hub function = record {
  function = function;
  settings = default_settings;
  all = length-default_settings;
  each = search (new_at, new_lost, new_pipe_fits);
  first = by_way;
}
  where
    by_way : (is_in : Bool) → first_number is_in (new_function device below_hub)
        ≡ number_of (first_endpoint is_in device)
    by_way true = refl
    by_way false = refl

module _ (options : HostOptions) (tier supply : ℕ) (device : Accepted) (below_hub : Bool)
    (said : ArrayVec ℕ) (s : State)
    (ruled : IsSpec s.spec) (own : IsOwn options tier supply device s) where
  listed : IsAs s.spec device
  listed = own.0.1

  fresh : IsFresh s
  fresh = own.2

  abbrev wide : Bool
  wide = options.wide_hubs

  accepted : AcceptsChosen s.spec options supply device.chosen
  accepted = search accepts

  chosen : HasChosen s.spec device.chosen
  chosen = search (accepted, has_chosen)

  text_is : configuration_of device ≡ slice_index_or (texts_of s.spec) device.chosen []
  text_is = grind (arith, listed)

  configured : s.registers.configuration ≡ slice_index chosen.text 5
  configured = grind (arith, chosen, text_is)

  some_value : not (s.registers.configuration == 0) ≡ true
  some_value = grind (arith, chosen, configured, is_some_byte)

  -- the endpoints that it serves are those of the text that the host has
  text_same : text_of s.spec s.registers ≡ configuration_of device
  text_same = grind (arith, chosen, text_is)

  -- A hub

  is_hub_spec : is_some device.hub ≡ is_hub_device s.spec.descriptor
  is_hub_spec = grind (arith, listed)

  module _ (hub : is_some device.hub ≡ true) where
    good : is_good_hub wide s.spec (configuration_of device) ≡ true
    good = grind (arith, accepted, is_hub_spec, text_is)

    good_parts : (holds_changes (status_endpoint_of wide (configuration_of device))
        (hub_ports s.spec.hub) ≡ true) × (gives_hub wide s.spec s.spec.hub ≡ true)
    good_parts = grind (arith, and_parts, good)

    has_ports : is_some s.spec.hub ≡ true
    has_ports = grind (arith, good_parts)

    tells : tells_changes s.spec s.registers ≡ true
    tells = grind (arith, has_ports, some_value)

    -- one packet of the status endpoint holds the changes of its ports
    holds : (endpoint : ℕ × ℕ) → status_endpoint_of true (configuration_of device) ≡ Some endpoint
        → status_length (hub_ports s.spec.hub) ≤ endpoint.1
    holds endpoint is = grind (arith, good_parts, nat_tests, same_Some, status_endpoint-wide)

    status_level : (o : Option (ℕ × ℕ)) → status_endpoint_of true (configuration_of device) ≡ o
        → PipesInSync device (new_status device below_hub o) s
    status_level None is = tt
    status_level (Some endpoint) is = record {
      to = grind (arith, holds, tells, text_same);
      level = grind (arith, fresh);
      runs = grind (arith, fresh);
    }

  -- A function

  module _ (function : is_some device.hub ≡ false) where
    no_ports : is_some s.spec.hub ≡ false
    no_ports = grind (arith, and_parts, is_hub_spec)

    pub quiet : tells_changes s.spec s.registers ≡ false
    quiet = grind (arith, no_ports)

    zero_not : (s.registers.configuration == 0) ≡ false
    zero_not = grind (arith, chosen, configured, is_some_byte)

    served_is : (is_in : Bool) (e : ℕ)
        → served_at s.spec s.registers is_in e ≡ usable_end device is_in e
    served_is is_in e = grind (arith, fresh, listed, text_same, zero_not)

    not_zero : (is_in : Bool) (e : ℕ) (end : UsableEndpoint)
        → usable_end device is_in e ≡ Some end → (e == 0) ≡ false
    not_zero is_in e end usable = grind (arith, nat_tests, usable_under-small)

    pub rests : (is_in : Bool) (e : ℕ) → state_at is_in s e ≡ rested
    rests is_in e = grind (arith, fresh)

    level : (is_in : Bool) (e : ℕ)
        → FitsWay is_in (pipe_at is_in e (new_function device below_hub)) s
    level is_in e = rw (new_at device below_hub is_in e)
        (new_fits (target_of device below_hub) is_in e (usable_end device is_in e) s
        (grind (arith, not_zero, quiet, rests, served_is)))

  by_kind : (b : Bool) → is_some device.hub ≡ b → PipesInSync device
      (if b then new_status device below_hub
      (status_endpoint_of true (configuration_of device))
      else Function (new_function device below_hub)) s
  by_kind true e = grind (arith, status_level)
  by_kind false e = record {
    text = text_same;
    low = sym listed.low;
    quiet = quiet e;
    settings = ap length fresh.settings ∙ length-default_settings;
    outs = level e false;
    ins = level e true;
  }

  -- of a device whose finding is its own, and that keeps the rules of devices
  pub new_level : PipesInSync device (new_pipes (Device device) below_hub said) s
  new_level = search by_kind
