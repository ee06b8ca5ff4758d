-- What SET_INTERFACE leaves of the endpoints of a device: it moves nothing.
use Rattle.std.proofs.Common.{◌≡◌, ◌⊎◌, inl, inr, ◌∙◌, refl, sym, ap, Bool, true, false, ℕ, List}
use Rattle.std.proofs.Common.{[], Option, None, Some, Result, Ok, Err}
use Rattle.usb_device.specs.{OnlyStage, Registers, State, begun_if, is_of_setting, no_out}
use Rattle.usb_device.specs.{out_end, rested_out, with_interface}
use Rattle.usb_world.specs.{SetInterface}
use Rattle.usb_transfer.specs.{PipeFault}
use Rattle.usb_transfer.specs.declared.fault.PipeFault.TheVariants as fault
use Rattle.usb_hub.specs.{TookSetting}
use Rattle.usb_enum.specs.{Accepted}
use Rattle.usb_table.specs.{FunctionPipes, Pipes, Hub, Function, Absent, SettingLeft, first_number}
use Rattle.usb_table.specs.{function_set, pipes_set}
use Rattle.usb_run_laws.specs.{Endpoint, FailsPlain, ToldItem, bytes_for, endpoint_at, first_of}
use Rattle.usb_run_laws.specs.{is_done}
use Rattle.usb_run_laws.proofs.Bytes.{joins_none}
use Rattle.usb_run_laws.proofs.Devices.{DeviceMoves, SameButSettings}
use Rattle.usb_run_laws.proofs.Heads.{begun_sink, numbered_each}
use Rattle.usb_run_laws.proofs.PipeEnds.{SinksStay}

-- The device

record SetLeaves (s v : State) : Type 0 where
  sinks : SinksStay s v
  device : SameButSettings s v

took_leaves : (i a : ℕ) (s v : State) → TookSetting i a s v → SetLeaves s v
took_leaves i a s v took =
    let now : v.registers ≡ with_interface i a s.registers =
    ap (λ (d : State). d.registers) took.is in
    record {
      sinks = λ e. ap (λ (d : State). (out_end d e).sink) took.is
          ∙ numbered_each no_out (λ x y. y.sink ≡ x.sink) (λ x. refl) (λ k.
          begun_if (is_of_setting s.spec s.registers i a false k) rested_out)
          (λ k x. begun_sink (is_of_setting s.spec s.registers i a false k) x) 0 e s.outs;
      device = record {
        spec = ap (λ (d : State). d.spec) took.is;
        registers = now
            ∙ ap (λ (g : Registers). record s.registers { settings = g.settings }) (sym now);
      };
    }

stage_leaves : (s v : State) → OnlyStage s v → SetLeaves s v
stage_leaves s v only =
    let now : v.registers ≡ s.registers = ap (λ (d : State). d.registers) only in
    record {
      sinks = λ e. ap (λ (d : State). (out_end d e).sink) only;
      device = record {
        spec = ap (λ (d : State). d.spec) only;
        registers = now
            ∙ ap (λ (g : Registers). record s.registers { settings = g.settings }) (sym now);
      };
    }

either_leaves : (i a : ℕ) (s v : State) → OnlyStage s v ⊎ TookSetting i a s v → SetLeaves s v
either_leaves i a s v (inl only) = stage_leaves s v only
either_leaves i a s v (inr took) = took_leaves i a s v took

left_leaves : (i a : ℕ) (answer : Result (Unit {0}) PipeFault) (s v : State)
    → SettingLeft i a answer s v → SetLeaves s v
left_leaves i a (Ok done) s v left = took_leaves i a s v left
left_leaves i a (Err fault.Stalled) s v left = stage_leaves s v left
left_leaves i a (Err fault.Busy) s v left = either_leaves i a s v left
left_leaves i a (Err fault.NoAnswer) s v left = either_leaves i a s v left
left_leaves i a (Err fault.Broken) s v left = either_leaves i a s v left
left_leaves i a (Err (fault.Bus why)) s v left = either_leaves i a s v left
left_leaves i a (Err fault.Memory) s v left = either_leaves i a s v left

-- The pipes

-- the first bulk endpoints stay
function_first : (device : Accepted) (below : Bool) (i a : ℕ)
    (answer : Result (Unit {0}) PipeFault) (pipes : FunctionPipes) (d : Bool)
    → first_number d (function_set device below i a answer pipes) ≡ first_number d pipes
function_first device below i a (Ok done) pipes true = refl
function_first device below i a (Ok done) pipes false = refl
function_first device below i a (Err fault.Stalled) pipes d = refl
function_first device below i a (Err fault.Busy) pipes true = refl
function_first device below i a (Err fault.Busy) pipes false = refl
function_first device below i a (Err fault.NoAnswer) pipes true = refl
function_first device below i a (Err fault.NoAnswer) pipes false = refl
function_first device below i a (Err fault.Broken) pipes true = refl
function_first device below i a (Err fault.Broken) pipes false = refl
function_first device below i a (Err (fault.Bus why)) pipes true = refl
function_first device below i a (Err (fault.Bus why)) pipes false = refl
function_first device below i a (Err fault.Memory) pipes true = refl
function_first device below i a (Err fault.Memory) pipes false = refl

pipes_first : (known : Option Accepted) (below : Bool) (i a : ℕ)
    (answer : Result (Unit {0}) PipeFault) (pipes : Pipes) (d : Bool)
    → first_of d (pipes_set known below i a answer pipes) ≡ first_of d pipes
pipes_first None below i a answer pipes d = refl
pipes_first (Some device) below i a answer (Hub pipe) d = refl
pipes_first (Some device) below i a answer (Function pipes) d =
    function_first device below i a answer pipes d
pipes_first (Some device) below i a answer (Absent said) d = refl

-- The item

pub setting_moves : (path : List ℕ) (t : ToldItem) (i a : ℕ)
    → t.due ≡ Some (SetInterface path i a) → (known : Option Accepted) (below : Bool)
    (answer : Result (Unit {0}) PipeFault) (pipes left : Pipes) (s v : State)
    → left ≡ pipes_set known below i a answer pipes → SettingLeft i a answer s v
    → ((end : Endpoint) → bytes_for end t.due ≡ []) → ((d : Bool) → FailsPlain d path t)
    → DeviceMoves path t pipes left s v
setting_moves path t i a asked known below answer pipes left s v now is asks plain =
    let leaves = left_leaves i a answer s v is in
    record {
      outs = λ e.
          let end : Endpoint = endpoint_at path false e pipes in
          record {
            there = λ unset. absurd (unset i a asked);
            none = λ gone. leaves.sinks e;
            sink = joins_none (is_done t.item) (bytes_for end t.due) (out_end s e).sink
                (out_end v e).sink (asks end) (leaves.sinks e);
            took = λ alone. absurd (alone.set i a asked);
          };
      ins = λ e alone. absurd (alone.set i a asked);
      first = λ d. ap (first_of d) now ∙ pipes_first known below i a answer pipes d;
      plain = λ d none. plain d;
      device = leaves.device;
      settings = λ unset. absurd (unset i a asked);
    }
