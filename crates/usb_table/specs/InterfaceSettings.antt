-- What SET_INTERFACE to the device at a path is (9.4.10).
use Rattle.std.specs.Prelude.{◌≡◌, ◌⊎◌, ℕ, not, ◌&&◌, if◌then◌else◌, Bool, true, false, List}
use Rattle.std.specs.Prelude.{get_or, Option, Some, None, Result, Ok, Err, IfErr, is_some}
use Rattle.usb_request.specs.{set_interface}
use Rattle.usb_descriptor.specs.{EndpointKind, default_settings, names_in, settable_in}
use Rattle.usb_descriptor.specs.{with_setting}
use Rattle.usb_device.specs.{OnlyStage, State, numbered_from}
use Rattle.usb_world.specs.{EachWas, World}
use Rattle.usb_bus.specs.{StepRun}
use Rattle.usb_transfer.specs.{Target, PipeFault, PipeState, write_bound}
use Rattle.usb_transfer.specs.declared.fault.PipeFault.TheVariants.{Stalled, Busy, NoAnswer, Broken}
use Rattle.usb_transfer.specs.declared.fault.PipeFault.TheVariants.{Bus, Memory}
use Rattle.usb_hub.specs.{KeepsAddresses, Commanded, InterfaceAsked, TookSetting}
use Rattle.usb_enum.specs.{Accepted, configuration_of, target_of}
use Rattle.usb_table.specs.declared.fault.TableFault.{TableFault}
use Rattle.usb_table.specs.declared.fault.TableFault.TheVariants.{Transfer}
use Rattle.usb_table.specs.declared.fault.TransferFault.{TransferFault}
use Rattle.usb_table.specs.declared.fault.TransferFault.TheVariants.{NoDevice, NoInterface}
use Rattle.usb_table.specs.declared.function_pipes.FunctionPipes.{FunctionPipes}
use Rattle.usb_table.specs.declared.pipes.Pipes.{Pipes}
use Rattle.usb_table.specs.declared.pipes.Pipes.TheVariants.{Hub, Function, Absent}
use Rattle.usb_table.specs.Deliveries.{ChangesAt}
use Rattle.usb_table.specs.Findings.{accepted_device_at}
use Rattle.usb_table.specs.KnownPorts.{is_below_hub}
use Rattle.usb_table.specs.Levels.{IsHeld, KeepsLevels}
use Rattle.usb_table.specs.TableEntries.{Entries}
use Rattle.usb_table.specs.TablePipes.{end_under, new_pipe}
use Rattle.usb_table.specs.Tables.{Table, pipes_at}
use Rattle.usb_table.specs.Transfers.{NotTried, OnlySets, TableFaultAllowed, table_answer}

-- Whether it is sent

-- endpoint 0 of a function that has this setting of the interface, and whose interfaces share no
-- endpoint with that one
abbrev pub setting_asked : Bool → ℕ → ℕ → Accepted → Result Target TransferFault
setting_asked below_hub interface setting device =
    if not (is_some device.hub) && settable_in interface setting (configuration_of device)
    then Ok (target_of device below_hub) else Err NoInterface

abbrev pub interface_asked : Bool → ℕ → ℕ → Option Accepted → Result Target TransferFault
interface_asked below_hub interface setting None = Err NoDevice
interface_asked below_hub interface setting (Some device) =
    setting_asked below_hub interface setting device

abbrev pub interface_target : List ℕ → ℕ → ℕ → Entries → Result Target TransferFault
interface_target path interface setting entries =
    interface_asked (is_below_hub path) interface setting (accepted_device_at path entries)

-- What it makes of the pipes

-- at the endpoints that an interface of the text has in some setting, what is said takes the place
-- of what was there
abbrev pub replaced_if : {A : Type 0} → List ℕ → ℕ → Bool → (ℕ → A → A) → ℕ → A → A
replaced_if text interface is_in change e had =
    if names_in interface is_in e text then change e had else had

abbrev pub replaced_row : {A : Type 0} → List ℕ → ℕ → Bool → (ℕ → A → A) → List A → List A
replaced_row text interface is_in change row =
    numbered_from (replaced_if text interface is_in change) 0 row

-- the new pipe, if there is one, while this interface has this setting
abbrev pub set_pipe : Accepted → Bool → ℕ → ℕ → Bool → ℕ → Option PipeState
set_pipe device below_hub interface setting is_in e = new_pipe (target_of device below_hub) is_in e
    (end_under (with_setting interface setting default_settings) device is_in e)

-- the interface has the setting: its pipes are new
abbrev pub set_row : Accepted → Bool → ℕ → ℕ → Bool → List (Option PipeState)
    → List (Option PipeState)
set_row device below_hub interface setting is_in =
    replaced_row (configuration_of device) interface is_in
    (λ e had. set_pipe device below_hub interface setting is_in e)

-- nothing is there: no pipe, or no mark
abbrev pub cleared_row : {A : Type 0} → List ℕ → ℕ → Bool → List (Option A) → List (Option A)
cleared_row text interface is_in = replaced_row text interface is_in (λ e had. None)

-- and none of them is lost
abbrev pub set_function : Accepted → Bool → ℕ → ℕ → FunctionPipes → FunctionPipes
set_function device below_hub interface setting pipes = record pipes {
  outs = set_row device below_hub interface setting false pipes.outs;
  ins = set_row device below_hub interface setting true pipes.ins;
  lost_outs = cleared_row (configuration_of device) interface false pipes.lost_outs;
  lost_ins = cleared_row (configuration_of device) interface true pipes.lost_ins;
}

-- the kind of the pipe at a place, or the mark that was there
abbrev pub mark_of : Option PipeState → Option EndpointKind → Option EndpointKind
mark_of None mark = mark
mark_of (Some pipe) mark = Some pipe.kind

abbrev pub marked_row : List ℕ → ℕ → Bool → List (Option PipeState) → List (Option EndpointKind)
    → List (Option EndpointKind)
marked_row text interface is_in pipes =
    replaced_row text interface is_in (λ e mark. mark_of (get_or pipes e None) mark)

-- its setting is not known: its pipes are lost
abbrev pub lost_function : Accepted → ℕ → FunctionPipes → FunctionPipes
lost_function device interface pipes = record pipes {
  outs = cleared_row (configuration_of device) interface false pipes.outs;
  ins = cleared_row (configuration_of device) interface true pipes.ins;
  lost_outs =
      marked_row (configuration_of device) interface false pipes.outs pipes.lost_outs;
  lost_ins =
      marked_row (configuration_of device) interface true pipes.ins pipes.lost_ins;
}

-- the device refused the request
abbrev pub is_refusal : PipeFault → Bool
is_refusal Stalled = true
is_refusal Busy = false
is_refusal NoAnswer = false
is_refusal Broken = false
is_refusal (Bus fault) = false
is_refusal Memory = false

-- by the answer: a refused one changes nothing
abbrev pub function_set : Accepted → Bool → ℕ → ℕ → Result (Unit {0}) PipeFault → FunctionPipes
    → FunctionPipes
function_set device below_hub interface setting (Ok done) pipes =
    set_function device below_hub interface setting pipes
function_set device below_hub interface setting (Err why) pipes =
    if is_refusal why then pipes else lost_function device interface pipes

abbrev pub pipes_set : Option Accepted → Bool → ℕ → ℕ → Result (Unit {0}) PipeFault → Pipes → Pipes
pipes_set None below_hub interface setting answer pipes = pipes
pipes_set (Some device) below_hub interface setting answer (Hub pipe) = Hub pipe
pipes_set (Some device) below_hub interface setting answer (Function pipes) =
    Function (function_set device below_hub interface setting answer pipes)
pipes_set (Some device) below_hub interface setting answer (Absent said) = Absent said

-- over any bus: where it is not sent, this is told, and nothing changes; else the answer is the
-- request's own, and says what is left of the pipes
abbrev pub SetOrRefused : {P W : Type 0} → Result Target TransferFault
    → (Result (Unit {0}) PipeFault → P → P) → P → W → Result (Unit {0}) TableFault → P → W
    → Type 0
SetOrRefused (Ok target) set pipes old result left new = (answer : Result (Unit {0}) PipeFault)
    × (result ≡ table_answer answer) × (left ≡ set answer pipes)
SetOrRefused (Err fault) set pipes old result left new = (result ≡ Err (Transfer fault))
    × (left ≡ pipes) × (new ≡ old)

-- What it makes of the device

-- done, the interface has the setting, and the endpoints that it has before or after have begun
-- again; refused, nothing changed; else either
abbrev pub SettingLeft : ℕ → ℕ → Result (Unit {0}) PipeFault → State → State → Type 0
SettingLeft interface setting (Ok done) s v = TookSetting interface setting s v
SettingLeft interface setting (Err Stalled) s v = OnlyStage s v
SettingLeft interface setting (Err why) s v = OnlyStage s v ⊎ TookSetting interface setting s v

-- it was sent to a target: what it was, what it left of all devices, and what is left of the pipes
pub record InterfaceSent {P : Type 0} (target : Target) (interface setting : ℕ)
    (set : Result (Unit {0}) PipeFault → P → P) (pipes : P) (old : World)
    (result : Result (Unit {0}) TableFault) (left : P) (new : World) : Type 0 where
  pub answer : Result (Unit {0}) PipeFault
  pub told : result ≡ table_answer answer
  pub is : Commanded target (set_interface interface setting) old answer new
  pub each : new.shared ≡ false → EachWas (InterfaceAsked target interface setting answer) old new
  pub addresses : KeepsAddresses old new
  pub left_is : left ≡ set answer pipes

-- or it was not
abbrev pub InterfaceSentIf : {P : Type 0} → Result Target TransferFault → ℕ → ℕ
    → (Result (Unit {0}) PipeFault → P → P) → P → World → Result (Unit {0}) TableFault → P → World
    → Type 0
InterfaceSentIf (Ok target) interface setting set pipes old result left new =
    InterfaceSent target interface setting set pipes old result left new
InterfaceSentIf (Err fault) interface setting set pipes old result left new =
    NotTried fault pipes old result left new

-- to the device at a path: what it was, what is left of the pipes, and what of that device; each
-- other one is as it was
pub record InterfaceSet (path : List ℕ) (interface setting : ℕ) (old : Table) (target : Target)
    (before : World) (result : Result (Unit {0}) TableFault) (new : Table) (after : World)
    : Type 0 where
  pub answer : Result (Unit {0}) PipeFault
  pub told : result ≡ table_answer answer
  pub is : Commanded target (set_interface interface setting) before answer after
  pub pipes : pipes_at path new ≡ pipes_set (accepted_device_at path old.entries)
      (is_below_hub path) interface setting answer (pipes_at path old)
  pub left : IsHeld old before → after.shared ≡ false
      → EachWas (ChangesAt path (SettingLeft interface setting answer)) before after

abbrev pub InterfaceSetIf : List ℕ → ℕ → ℕ → Table → Result Target TransferFault → World
    → Result (Unit {0}) TableFault → Table → World → Type 0
InterfaceSetIf path interface setting old (Ok target) before result new after =
    InterfaceSet path interface setting old target before result new after
InterfaceSetIf path interface setting old (Err fault) before result new after =
    (result ≡ Err (Transfer fault)) × (pipes_at path new ≡ pipes_at path old) × (after ≡ before)

-- the device at a path: how many attempts were made at most and the text of their steps, why it
-- failed, what it was, and what it left of all devices and pipes
pub record TableSetsInterface (path : List ℕ) (interface setting : ℕ) (old : Table)
    (before : World) (text : Option (List ℕ)) (result : Result (Unit {0}) TableFault) (new : Table)
    (after : World) (now : Option (List ℕ)) : Type 0 where
  pub went : StepRun write_bound before text after now
  pub told : IfErr result (λ fault. TableFaultAllowed fault after)
  pub did : InterfaceSetIf path interface setting old
      (interface_target path interface setting old.entries) before result new after
  pub keeps : KeepsLevels OnlySets path (after.fault ≡ None) old before new after
