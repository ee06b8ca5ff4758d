-- The pipes to a device.
use Rattle.std.specs.Prelude.{◌≡◌, ⊤, ℕ, ◌≤◌, Bool, true, false, List, map, Option, Some, None}
use Rattle.std.specs.Prelude.{[], ◌∷◌, is_none, is_some, if◌then◌else◌, length, replicate, ◌&&◌}
use Rattle.std.specs.Option.{option_map}
use Rattle.arrayvec.specs.ArrayVec.{ArrayVec}
use Rattle.usb_descriptor.specs.{EndpointKind, UsableEndpoint, default_settings}
use Rattle.usb_descriptor.specs.{status_endpoint_of, usable_under}
use Rattle.usb_device.specs.{end_numbers}
use Rattle.usb_packet.specs.{Zero}
use Rattle.usb_transfer.specs.{Target, PipeState, packet_target, Interrupt}
use Rattle.usb_transfer.specs.declared.condition.Condition.TheVariants.{Ready}
use Rattle.usb_enum.specs.{Accepted, Finding, target_of, configuration_of}
use Rattle.usb_enum.specs.declared.finding.Finding.TheVariants.{Device, Refused}
use Rattle.usb_table.specs.declared.function_pipes.FunctionPipes.{FunctionPipes}
use Rattle.usb_table.specs.declared.pipes.Pipes.{Pipes}
use Rattle.usb_table.specs.declared.pipes.Pipes.TheVariants.{Hub, Function, Absent}
use Rattle.usb_table.specs.Findings.{accepted_device_of, first_endpoint}
use Rattle.usb_table.specs.PipeRows.{first_number, lost_at, pipe_at}

-- a pipe to the status endpoint of a hub, which stands below another one or on the root
pub record IsStatusPipe (device : Accepted) (below_hub : Bool) (pipe : Interrupt) : Type 0 where
  pub target : pipe.target ≡ packet_target (target_of device below_hub) pipe.target.max
  pub endpoint : status_endpoint_of true (configuration_of device)
      ≡ Some (pipe.ep, pipe.target.max)
  pub other : 1 ≤ pipe.ep  -- not endpoint 0

-- a pipe to an endpoint of a function
pub record IsEndPipe (device : Accepted) (below_hub is_in : Bool) (e : ℕ) (end : UsableEndpoint)
    (pipe : PipeState) : Type 0 where
  pub target : pipe.target ≡ target_of device below_hub
  pub number : pipe.ep ≡ e
  pub kind : pipe.kind ≡ end.kind
  pub max : pipe.max ≡ end.max
  pub way : pipe.is_in ≡ is_in

-- a pipe where there is an endpoint
abbrev pub IsPipe : Accepted → Bool → Bool → ℕ → Option UsableEndpoint → Option PipeState → Type 0
IsPipe device below_hub is_in e None None = ⊤
IsPipe device below_hub is_in e None (Some pipe) = ⊥
IsPipe device below_hub is_in e (Some end) None = ⊥
IsPipe device below_hub is_in e (Some end) (Some pipe) = IsEndPipe device below_hub is_in e end pipe

-- what a pipe can use of a device while its interfaces have these settings, by direction and number
abbrev pub end_under : List ℕ → Accepted → Bool → ℕ → Option UsableEndpoint
end_under settings device is_in e =
    usable_under settings device.low is_in e (configuration_of device)

-- while each has setting 0
abbrev pub usable_end : Accepted → Bool → ℕ → Option UsableEndpoint
usable_end device is_in e = end_under default_settings device is_in e

-- no pipe where one is lost, and else a pipe where there is an endpoint
abbrev pub IsPlace : Accepted → Bool → Bool → ℕ → Option UsableEndpoint → Option EndpointKind
    → Option PipeState → Type 0
IsPlace device below_hub is_in e end None pipe = IsPipe device below_hub is_in e end pipe
IsPlace device below_hub is_in e end (Some kind) pipe = pipe ≡ None

-- the number of an endpoint
abbrev pub number_of : Option (ℕ × ℕ) → Option ℕ
number_of endpoint = option_map (λ end. end.0) endpoint

-- pipes to all endpoints of a function that a pipe can use while its interfaces have some settings,
-- but to those that are lost
pub record AreFunctionPipes (device : Accepted) (below_hub : Bool) (pipes : FunctionPipes)
    : Type 0 where
  pub function : is_some device.hub ≡ false
  pub settings : List ℕ
  pub all : length settings ≡ 256
  pub each : (is_in : Bool) (e : ℕ) → IsPlace device below_hub is_in e
      (end_under settings device is_in e) (lost_at is_in e pipes) (pipe_at is_in e pipes)
  pub first : (is_in : Bool) → first_number is_in pipes ≡ number_of (first_endpoint is_in device)

abbrev pub ArePipesTo : Accepted → Bool → Pipes → Type 0
ArePipesTo device below_hub (Hub pipe) = (is_some device.hub ≡ true)
    × IsStatusPipe device below_hub pipe
ArePipesTo device below_hub (Function pipes) = AreFunctionPipes device below_hub pipes
ArePipesTo device below_hub (Absent said) = ⊥

-- there are none; at most it is kept what a refused device said
abbrev pub AreAbsent : Pipes → Type 0
AreAbsent pipes = (said : ArrayVec ℕ) × (pipes ≡ Absent said)

-- the pipes to an accepted device, and none where there is none
abbrev pub ArePipesIf : Option Accepted → Bool → Pipes → Type 0
ArePipesIf None below_hub pipes = AreAbsent pipes
ArePipesIf (Some device) below_hub pipes = ArePipesTo device below_hub pipes

-- the pipes to what was found
abbrev pub ArePipesOf : Finding → Bool → Pipes → Type 0
ArePipesOf finding = ArePipesIf (accepted_device_of (Some finding))

-- none, where nothing was said
abbrev pub no_pipes : Pipes
no_pipes = Absent (record { items = [] })

-- Pipes that were just made: none has moved a packet

-- to a hub's status endpoint; each hub that is accepted has one
abbrev pub new_status : Accepted → Bool → Option (ℕ × ℕ) → Pipes
new_status device below_hub None = no_pipes
new_status device below_hub (Some endpoint) =
    Hub (record {
      target = packet_target (target_of device below_hub) endpoint.1;
      ep = endpoint.0;
      toggle = Zero;
    })

-- to an endpoint of a function, if there is one
abbrev pub new_pipe : Target → Bool → ℕ → Option UsableEndpoint → Option PipeState
new_pipe target is_in e None = None
new_pipe target is_in e (Some end) = Some (record {
  target = target;
  ep = e;
  kind = end.kind;
  max = end.max;
  is_in = is_in;
  toggle = Zero;
  condition = Ready;
})

-- none of these numbers of a direction has an endpoint
abbrev pub has_no_end : (ℕ → Option UsableEndpoint) → List ℕ → Bool
has_no_end ends [] = true
has_no_end ends (e ∷ more) = is_none (ends e) && has_no_end ends more

-- to those of a direction, by their numbers
abbrev pub row_of_ends : Target → Bool → (ℕ → Option UsableEndpoint) → List (Option PipeState)
row_of_ends target is_in ends = map (λ e. new_pipe target is_in e (ends e)) end_numbers

abbrev pub new_row : Accepted → Bool → Bool → List (Option PipeState)
new_row device below_hub is_in =
    row_of_ends (target_of device below_hub) is_in (usable_end device is_in)

-- none of them is lost
abbrev pub none_lost : List (Option EndpointKind)
none_lost = replicate 16 None

abbrev pub new_function : Accepted → Bool → FunctionPipes
new_function device below_hub = record {
  outs = new_row device below_hub false;
  ins = new_row device below_hub true;
  first_out = number_of (first_endpoint false device);
  first_in = number_of (first_endpoint true device);
  lost_outs = none_lost;
  lost_ins = none_lost;
}

abbrev pub new_pipes_to : Accepted → Bool → Pipes
new_pipes_to device below_hub =
    if is_some device.hub
    then new_status device below_hub (status_endpoint_of true (configuration_of device))
    else Function (new_function device below_hub)

-- to what was found; of a refused device it is kept what it said
abbrev pub new_pipes : Finding → Bool → ArrayVec ℕ → Pipes
new_pipes (Device device) below_hub said = new_pipes_to device below_hub
new_pipes (Refused cause) below_hub said = Absent said
