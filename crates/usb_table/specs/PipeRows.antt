-- The pipes to a function: one to each endpoint that a pipe can use, by its direction and number;
-- which of them a transfer goes through, and why there is none.
use Rattle.std.specs.Prelude.{◌≡◌, ℕ, ◌%◌, nat_le, ◌&&◌, ◌||◌, not, Bool, true, false}
use Rattle.std.specs.Prelude.{if◌then◌else◌, is_some, length}
use Rattle.std.specs.Prelude.{List, map, Option, Some, None, Result, Ok, Err, get_or, IfSome}
use Rattle.std.specs.Option.{option_map}
use Rattle.usb_request.specs.{DIRECTION_IN}
use Rattle.usb_descriptor.specs.{EndpointKind}
use Rattle.usb_descriptor.specs.declared.usable.EndpointKind.TheVariants.{Bulk, Interrupt}
use Rattle.usb_device.specs.{with_at}
use Rattle.usb_transfer.specs.{PipeState, is_broken, pipe_made, interrupt_made}
use Rattle.usb_table.specs.declared.choice.EndpointChoice.{EndpointChoice}
use Rattle.usb_table.specs.declared.choice.EndpointChoice.TheVariants.{FirstBulk, At}
use Rattle.usb_table.specs.declared.fault.TransferFault.{TransferFault}
use Rattle.usb_table.specs.declared.fault.TransferFault.TheVariants.{Broken, NoDevice, NoEndpoint}
use Rattle.usb_table.specs.declared.function_pipes.FunctionPipes.{FunctionPipes}
use Rattle.usb_table.specs.declared.pipes.Pipes.{Pipes}
use Rattle.usb_table.specs.declared.pipes.Pipes.TheVariants.{Hub, Function, Absent}

-- The pipes of a direction, by the numbers of their endpoints

abbrev pub row_at : Bool → FunctionPipes → List (Option PipeState)
row_at true pipes = pipes.ins
row_at false pipes = pipes.outs

-- the pipe to the endpoint of a direction (true: IN) with a number
abbrev pub pipe_at : Bool → ℕ → FunctionPipes → Option PipeState
pipe_at is_in e pipes = get_or (row_at is_in pipes) e None

-- the number of the first bulk endpoint of a direction
abbrev pub first_number : Bool → FunctionPipes → Option ℕ
first_number true pipes = pipes.first_in
first_number false pipes = pipes.first_out

abbrev pub pipe_if : Bool → Option ℕ → FunctionPipes → Option PipeState
pipe_if is_in None pipes = None
pipe_if is_in (Some e) pipes = pipe_at is_in e pipes

-- the pipe to the endpoint with an address: bit 7 is its direction, and what is left its number
abbrev pub pipe_to : ℕ → FunctionPipes → Option PipeState
pipe_to a pipes = pipe_at (nat_le DIRECTION_IN a) (a % DIRECTION_IN) pipes

-- each row has as many places as a direction has numbers (9.6.6)
pub record AreWhole (pipes : FunctionPipes) : Type 0 where
  pub outs : length pipes.outs ≡ 16
  pub ins : length pipes.ins ≡ 16
  pub lost_outs : length pipes.lost_outs ≡ 16
  pub lost_ins : length pipes.lost_ins ≡ 16

-- each pipe stands at its own direction and number
abbrev pub AreInPlace : FunctionPipes → Type 0
AreInPlace pipes = (is_in : Bool) (e : ℕ)
    → IfSome (pipe_at is_in e pipes) (λ pipe. (pipe.is_in ≡ is_in) × (pipe.ep ≡ e))

-- Marks of pipes that are lost, since the setting of their interface is not known

abbrev pub lost_row : Bool → FunctionPipes → List (Option EndpointKind)
lost_row true pipes = pipes.lost_ins
lost_row false pipes = pipes.lost_outs

-- the kind of the one that stood at the endpoint of a direction with a number
abbrev pub lost_at : Bool → ℕ → FunctionPipes → Option EndpointKind
lost_at is_in e pipes = get_or (lost_row is_in pipes) e None

abbrev pub lost_if : Bool → Option ℕ → FunctionPipes → Option EndpointKind
lost_if is_in None pipes = None
lost_if is_in (Some e) pipes = lost_at is_in e pipes

-- that of the first bulk endpoint of a direction
abbrev pub first_lost : Bool → FunctionPipes → Option EndpointKind
first_lost is_in pipes = lost_if is_in (first_number is_in pipes) pipes

-- that of the endpoint with an address
abbrev pub lost_to : ℕ → FunctionPipes → Option EndpointKind
lost_to a pipes = lost_at (nat_le DIRECTION_IN a) (a % DIRECTION_IN) pipes

-- if that has this direction
abbrev pub lost_way : Bool → ℕ → FunctionPipes → Option EndpointKind
lost_way true a pipes = if nat_le DIRECTION_IN a then lost_to a pipes else None
lost_way false a pipes = if nat_le DIRECTION_IN a then None else lost_to a pipes

-- Which pipe a transfer goes through

-- a pipe, if it is one of these
abbrev pub only_if : (PipeState → Bool) → Option PipeState → Option PipeState
only_if test None = None
only_if test (Some pipe) = if test pipe then Some pipe else None

abbrev pub is_bulk_kind : EndpointKind → Bool
is_bulk_kind Bulk = true
is_bulk_kind Interrupt = false

abbrev pub moves_bulk : PipeState → Bool
moves_bulk pipe = is_bulk_kind pipe.kind

-- the pipe to the first bulk endpoint of a direction, while it is one in bulk
abbrev pub first_pipe : Bool → FunctionPipes → Option PipeState
first_pipe is_in pipes = only_if moves_bulk (pipe_if is_in (first_number is_in pipes) pipes)

abbrev pub takes_bytes : PipeState → Bool
takes_bytes pipe = not pipe.is_in

abbrev pub gives_bytes : PipeState → Bool
gives_bytes pipe = pipe.is_in && is_bulk_kind pipe.kind

abbrev pub gives_reports : PipeState → Bool
gives_reports pipe = pipe.is_in && not (is_bulk_kind pipe.kind)

-- the pipe to the endpoint with an address, if that has this direction
abbrev pub way_to : Bool → ℕ → FunctionPipes → Option PipeState
way_to true a pipes = only_if (λ pipe. pipe.is_in) (pipe_to a pipes)
way_to false a pipes = only_if takes_bytes (pipe_to a pipes)

-- bytes are sent to an OUT endpoint of either kind
abbrev pub sends_through : EndpointChoice → FunctionPipes → Option PipeState
sends_through FirstBulk pipes = first_pipe false pipes
sends_through (At a) pipes = only_if takes_bytes (pipe_to a pipes)

-- packets are received from a bulk IN endpoint
abbrev pub receives_through : EndpointChoice → FunctionPipes → Option PipeState
receives_through FirstBulk pipes = first_pipe true pipes
receives_through (At a) pipes = only_if gives_bytes (pipe_to a pipes)

-- an interrupt IN endpoint is polled
abbrev pub polls_through : ℕ → FunctionPipes → Option PipeState
polls_through a pipes = only_if gives_reports (pipe_to a pipes)

-- Why there is none

-- a mark, if it is of such a kind
abbrev pub mark_if : (EndpointKind → Bool) → Option EndpointKind → Option EndpointKind
mark_if test None = None
mark_if test (Some kind) = if test kind then Some kind else None

-- one that would fit is lost, or there is no such endpoint
abbrev pub miss_of : Option EndpointKind → TransferFault
miss_of None = NoEndpoint
miss_of (Some kind) = Broken

abbrev pub is_interrupt_kind : EndpointKind → Bool
is_interrupt_kind kind = not (is_bulk_kind kind)

abbrev pub sends_miss : EndpointChoice → FunctionPipes → TransferFault
sends_miss FirstBulk pipes = miss_of (mark_if is_bulk_kind (first_lost false pipes))
sends_miss (At a) pipes = miss_of (lost_way false a pipes)

abbrev pub receives_miss : EndpointChoice → FunctionPipes → TransferFault
receives_miss FirstBulk pipes = miss_of (mark_if is_bulk_kind (first_lost true pipes))
receives_miss (At a) pipes = miss_of (mark_if is_bulk_kind (lost_way true a pipes))

abbrev pub polls_miss : ℕ → FunctionPipes → TransferFault
polls_miss a pipes = miss_of (mark_if is_interrupt_kind (lost_way true a pipes))

abbrev pub clears_miss : ℕ → FunctionPipes → TransferFault
clears_miss a pipes = miss_of (lost_to a pipes)

-- why the halt of the first bulk endpoint of a direction cannot be cleared: another pipe stands
-- there, or one is lost; where there is nothing, there is nothing to clear
abbrev pub unclear : Option PipeState → Option EndpointKind → Option TransferFault
unclear (Some pipe) lost = if moves_bulk pipe then None else Some NoEndpoint
unclear None None = None
unclear None (Some kind) = Some (miss_of (mark_if is_bulk_kind (Some kind)))

abbrev pub first_unclear : Bool → FunctionPipes → Option TransferFault
first_unclear is_in pipes =
    unclear (pipe_if is_in (first_number is_in pipes) pipes) (first_lost is_in pipes)

-- something stands or stood there
abbrev pub has_first : Bool → FunctionPipes → Bool
has_first is_in pipes =
    is_some (first_pipe is_in pipes) || is_some (first_unclear is_in pipes)

-- why a clear of both first halts is not begun
abbrev pub clear_miss_if : Bool → Option TransferFault → Option TransferFault
clear_miss_if false why = Some NoEndpoint
clear_miss_if true why = why

abbrev pub clear_miss : FunctionPipes → Option TransferFault
clear_miss pipes =
    clear_miss_if (has_first false pipes || has_first true pipes) (first_unclear false pipes)

-- The pipes with another one

-- at its own direction and number
abbrev pub with_pipe : PipeState → FunctionPipes → FunctionPipes
with_pipe pipe pipes =
    if pipe.is_in then record pipes { ins = with_at None pipe.ep (Some pipe) pipes.ins }
    else record pipes { outs = with_at None pipe.ep (Some pipe) pipes.outs }

-- with what is left of a pipe, if a call went through one
abbrev pub with_rest : Option PipeState → FunctionPipes → FunctionPipes
with_rest None pipes = pipes
with_rest (Some pipe) pipes = with_pipe pipe pipes

-- The pipes to what stands at a port

-- those to a function
abbrev pub function_of : Pipes → Option FunctionPipes
function_of (Hub pipe) = None
function_of (Function pipes) = Some pipes
function_of (Absent said) = None

-- each of them stands in its place
abbrev pub ArePlaced : Pipes → Type 0
ArePlaced pipes = IfSome (function_of pipes) AreInPlace

-- the one that is picked among them
abbrev pub through : (FunctionPipes → Option PipeState) → Pipes → Option PipeState
through pick (Hub pipe) = None
through pick (Function pipes) = pick pipes
through pick (Absent said) = None

-- the pipe that a call goes through, or why there is none
abbrev pub pipe_asked : TransferFault → Option PipeState → Result PipeState TransferFault
pipe_asked miss None = Err miss
pipe_asked miss (Some pipe) = Ok pipe

abbrev pub asked_through : (FunctionPipes → Option PipeState) → (FunctionPipes → TransferFault)
    → Pipes → Result PipeState TransferFault
asked_through pick miss (Hub pipe) = Err NoEndpoint
asked_through pick miss (Function pipes) = pipe_asked (miss pipes) (pick pipes)
asked_through pick miss (Absent said) = Err NoDevice

-- nor does a broken one do more than tell so
abbrev pub unless_broken : Result PipeState TransferFault → Result PipeState TransferFault
unless_broken (Ok pipe) = if is_broken pipe.condition then Err Broken else Ok pipe
unless_broken (Err fault) = Err fault

-- Pipes as they were made

abbrev pub row_made : List (Option PipeState) → List (Option PipeState)
row_made row = map (option_map pipe_made) row

abbrev pub function_made : FunctionPipes → FunctionPipes
function_made pipes = record pipes { outs = row_made pipes.outs; ins = row_made pipes.ins }

abbrev pub pipes_made : Pipes → Pipes
pipes_made (Hub pipe) = Hub (interrupt_made pipe)
pipes_made (Function pipes) = Function (function_made pipes)
pipes_made (Absent said) = Absent said
