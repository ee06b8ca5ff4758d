-- What calls and transfers through pipes leave of the device at their other ends: it is as far as
-- the pipes.
use Rattle.usb_device.specs.{Location, EndpointData, EndpointState, Registers, SourceAt, PollAt}
use Rattle.usb_device.specs.{NeverTold, OnlyStage, OnlySink, OnlySource, OnlyWrite, Spec, State}
use Rattle.usb_device.specs.{in_data, in_end, IsSource, in_max, out_end, out_max, status_number}
use Rattle.usb_device.specs.{tells_changes, text_of}
use Rattle.std.proofs.Common.{arith, ◌≡◌, ◌∙◌, refl, sym, subst, true, false, ℕ, ◌==◌, ◌&&◌, List}
use Rattle.std.proofs.Common.{[], Option, None, Some, Result, Ok, Err, IsOk, Bool, IfSome, eqb-true}
use Rattle.std.proofs.Common.{◌≢◌}
use Rattle.arrayvec.specs.ArrayVec.{ArrayVec}
use Rattle.usb_packet.specs.{Toggle}
use Rattle.usb_world.specs.{address_of, World, BusFault, Relation, EachWas}
use Rattle.usb_transfer.specs.{IsStatusEndpoint, Target, PipeFault, PipeState, Interrupt}
use Rattle.usb_transfer.specs.{OutPipeInSync, InPipeInSync, pipe_known, got_after, SendLeaves}
use Rattle.usb_transfer.specs.{ClearLeaves, PollLeaves, interrupt_made, pipe_made}
use Rattle.usb_enum.specs.{Accepted}
use Rattle.usb_table.specs.{AreInPlace, FunctionInSync, FunctionPipes, pipe_at, with_pipe, Pipes}
use Rattle.usb_table.specs.{Hub, Function, Absent, StatusPipeInSync, FitsOut, FitsIn, PipesInSync}
use Rattle.usb_table.specs.{SameSettings}
use Rattle.usb_table.proofs.levels.StandingPipes.{at_elsewhere, at_with, same_number, same_way}
use Rattle.usb_table.proofs.levels.StandingPipes.{IsPipeOf, addressed}
use Rattle.usb_table.proofs.transfers.FreeRequests.{in_cleared, out_cleared}
use Rattle.usb_table.proofs.transfers.DevicesKept.{RanAs, PipeKeeps}
use Rattle.usb_transfer.specs.declared.fault.PipeFault.TheVariants as pipe_fault
use Rattle.usb_enum.proofs.Interface.{each_joint}

-- What each call through pipes leaves of the device at their other ends: it is as far as the
-- pipes.

-- An endpoint that nothing moved at

-- the settings are the same wherever a device stands
abbrev pub root : Location
root = record { row = 0; rest = [] }

-- the state of an endpoint of a direction (true: IN)
abbrev pub state_at : Bool → State → ℕ → EndpointState
state_at true s e = (in_end s e).state
state_at false s e = (out_end s e).state

-- a pipe of a direction, if there is one, is as far as its endpoint
abbrev pub FitsWay : Bool → Option PipeState → State → Type 0
FitsWay true = FitsIn
FitsWay false = FitsOut

pub way-none : (is_in : Bool) (s : State) → FitsWay is_in None s
way-none is_in s = grind arith

-- what depends on the settings alone
same_seen : {X : Type 0} (seen : Spec → Registers → X) (s v : State) → SameSettings root s v
    → seen v.spec v.registers ≡ seen s.spec s.registers
same_seen seen s v k = grind arith

-- the text of its configuration
same_text : (s v : State) → SameSettings root s v
    → text_of v.spec v.registers ≡ text_of s.spec s.registers
same_text = same_seen text_of

-- whether an IN endpoint is a hub's status endpoint
abbrev pub is_status : State → ℕ → Bool
is_status s e = e == status_number s.spec s.registers && tells_changes s.spec s.registers

same_status : (e : ℕ) (s v : State) → SameSettings root s v → is_status v e ≡ is_status s e
same_status e = grind (arith, same_seen)

-- the endpoint that tells of changes, and how many bytes it gives (11.12.4)
status_same : (t : Target) (ep : ℕ) (s v : State) → SameSettings root s v
    → IsStatusEndpoint t ep s → IsStatusEndpoint t ep v
status_same t ep s v k to = record {
  number = grind (arith, same_seen);
  tells = grind (arith, same_seen);
  fits = grind (arith, same_seen);
}

pub same_in_data : (e : ℕ) (s v : State) → SameSettings root s v → in_data v e ≡ in_data s e
same_in_data e s v h = grind (arith, same_seen)

-- an endpoint keeps its toggle, and its halt
abbrev pub MayHalt : EndpointState → EndpointState → Type 0
MayHalt before after = (after.toggle ≡ before.toggle) × (before.halted ≡ true
    → after.halted ≡ true)

pub same_halts : (before after : EndpointState) → after ≡ before → MayHalt before after
same_halts before after e = grind arith

-- the endpoint of an OUT pipe is as large as it was
pub sink_level : (pipe : PipeState) (s v : State) → out_max v pipe.ep ≡ out_max s pipe.ep
    → MayHalt (out_end s pipe.ep).state (out_end v pipe.ep).state → OutPipeInSync pipe s
    → OutPipeInSync pipe v
sink_level pipe s v most may f = grind arith

-- what comes next of an endpoint that is where it was
same_next : {X : Type 0} (seen : EndpointData → ℕ → X) (ep : ℕ) (s v : State)
    → in_data v ep ≡ in_data s ep → (in_end v ep).place ≡ (in_end s ep).place
    → seen (in_data v ep) (in_end v ep).place ≡ seen (in_data s ep) (in_end s ep).place
same_next seen ep s v data_same place = grind arith

source_at-same : (ep most got : ℕ) (t : Toggle) (s v : State) → in_data v ep ≡ in_data s ep
    → (in_end v ep).place ≡ (in_end s ep).place
    → (in_end v ep).state.toggle ≡ (in_end s ep).state.toggle
    → SourceAt ep most got t s → SourceAt ep most got t v
source_at-same ep most got t s v same place e h = grind (arith, same_next)

-- that of an IN pipe is as large as it was, and where it was
pub source_level : (pipe : PipeState) (got : ℕ) (s v : State)
    → in_max v pipe.ep ≡ in_max s pipe.ep → is_status v pipe.ep ≡ is_status s pipe.ep
    → in_data v pipe.ep ≡ in_data s pipe.ep
    → (in_end v pipe.ep).place ≡ (in_end s pipe.ep).place
    → MayHalt (in_end s pipe.ep).state (in_end v pipe.ep).state → InPipeInSync pipe got s
    → InPipeInSync pipe got v
source_level pipe got s v most alone same place may f = grind (arith, source_at-same)

-- no setting changed
pub set_sink : (pipe : PipeState) (s v : State) → SameSettings root s v
    → MayHalt (out_end s pipe.ep).state (out_end v pipe.ep).state → OutPipeInSync pipe s
    → OutPipeInSync pipe v
set_sink pipe s v k h h1 = grind (arith, same_seen, sink_level)

pub set_source : (pipe : PipeState) (got : ℕ) (s v : State) → SameSettings root s v
    → (in_end v pipe.ep).place ≡ (in_end s pipe.ep).place
    → MayHalt (in_end s pipe.ep).state (in_end v pipe.ep).state → InPipeInSync pipe got s
    → InPipeInSync pipe got v
set_source pipe got s v k h h1 h2 =
    grind (arith, same_in_data, same_seen, same_status, source_level)

-- the endpoint of an IN pipe is as far as it was
pub still_source : (pipe : PipeState) (got : ℕ) (s v : State) → SameSettings root s v
    → (in_end v pipe.ep).place ≡ (in_end s pipe.ep).place
    → (in_end v pipe.ep).state ≡ (in_end s pipe.ep).state → InPipeInSync pipe got s
    → InPipeInSync pipe got v
still_source pipe got s v k place e = set_source pipe got s v k place (same_halts _ _ e)

still_out : (out : Option PipeState) (s v : State) → SameSettings root s v
    → ((e : ℕ) → out_end v e ≡ out_end s e) → FitsOut out s → FitsOut out v
still_out out s v k e f = grind (arith, same_halts, set_sink)

fits_in-same : (into : Option PipeState) (s v : State) → SameSettings root s v
    → ((e : ℕ) → in_end v e ≡ in_end s e) → FitsIn into s → FitsIn into v
fits_in-same into s v k e f = grind (arith, still_source)

still_poll : (t : Toggle) (s v : State) → v.changes ≡ s.changes → v.held ≡ s.held
    → PollAt NeverTold t s → PollAt NeverTold t v
still_poll t s v e held (PollAt.level a b) = grind arith
still_poll t s v e held (PollAt.told bits so a b) = absurd so
still_poll t s v e held (PollAt.ahead bits a b) =
    PollAt.ahead bits (held ∙ a) (grind arith)

pub still_status : (pipe : Interrupt) (s v : State) → SameSettings root s v → v.changes ≡ s.changes
    → v.held ≡ s.held → StatusPipeInSync pipe s → StatusPipeInSync pipe v
still_status pipe s v k e held f =
    search (status_same, still_poll, pipe.target, pipe.ep, f.to, pipe.toggle, f.level, f.runs)

-- where no setting changed, the pipes that fit are level
pub function_level : {device : Accepted} {pipes : FunctionPipes} (left : FunctionPipes)
    (s v : State) → SameSettings root s v → FunctionInSync device pipes s
    → ((e : ℕ) → FitsOut (pipe_at false e left) v) → ((e : ℕ) → FitsIn (pipe_at true e left) v)
    → FunctionInSync device left v
function_level left s v k f outs ins = grind (arith, same_seen, same_text)

-- no setting changed, nor where an endpoint stands but endpoint 0
record StillEnds (s v : State) : Type 0 where
  settings : SameSettings root s v
  changes : v.changes ≡ s.changes
  held : v.held ≡ s.held
  outs : (e : ℕ) → out_end v e ≡ out_end s e
  ins : (e : ℕ) → in_end v e ≡ in_end s e

still_ends : (device : Accepted) (pipes : Pipes) (s v : State) → StillEnds s v
    → PipesInSync device pipes s → PipesInSync device pipes v
still_ends device (Hub pipe) s v x f = still_status pipe s v x.settings x.changes x.held f
still_ends device (Function pipes) s v x f = grind (arith, fits_in-same, function_level, still_out)
still_ends device (Absent said) s v x f = tt

-- where nothing changed but where the device's transfer stands
pub still_level : (device : Accepted) (pipes : Pipes) (s v : State) → OnlyStage s v
    → PipesInSync device pipes s → PipesInSync device pipes v
still_level device pipes s v frame f = grind (arith, still_ends)

-- and the data that control transfers brought
pub written_level : (device : Accepted) (pipes : Pipes) (s v : State) → OnlyWrite s v
    → PipesInSync device pipes s → PipesInSync device pipes v
written_level device pipes s v frame f = grind (arith, still_ends)

-- The pipes to a function, of which a call went through one

-- another one at its own endpoint, where nothing moved
out_beside : (e : ℕ) (out : Option PipeState) (s v : State)
    → IfSome out (λ (p : PipeState). (p.is_in ≡ false) × (p.ep ≡ e)) → SameSettings root s v
    → out_end v e ≡ out_end s e → FitsOut out s → FitsOut out v
out_beside e out s v place k same f = grind (arith, same_halts, set_sink)

in_beside : (e : ℕ) (into : Option PipeState) (s v : State)
    → IfSome into (λ (p : PipeState). (p.is_in ≡ true) × (p.ep ≡ e)) → SameSettings root s v
    → in_end v e ≡ in_end s e → FitsIn into s → FitsIn into v
in_beside e into s v place k same f = grind (arith, still_source)

module _ (device : Accepted) (pipes : FunctionPipes) (placed : AreInPlace pipes)
    (left : PipeState) (s v : State) (k : SameSettings root s v)
    (f : FunctionInSync device pipes s) where
  out_fits : left.is_in ≡ false → OutPipeInSync left v
      → ((e : ℕ) → (e == left.ep) ≡ false → out_end v e ≡ out_end s e)
      → ((e : ℕ) → in_end v e ≡ in_end s e) → FunctionInSync device (with_pipe left pipes) v
  out_fits way fits outs ins = function_level (with_pipe left pipes) s v k f
      (λ e. by_number e (e == left.ep) refl) (grind (arith, at_elsewhere, fits_in-same, way))
    where
      by_number : (e : ℕ) (b : Bool) → (e == left.ep) ≡ b
          → FitsOut (pipe_at false e (with_pipe left pipes)) v
      by_number e true at =
          rw (at_with left pipes false e way (sym (eqb-true e left.ep at))) fits
      by_number e false apart = rw (at_elsewhere left pipes false e (λ same. apart))
          (out_beside e (pipe_at false e pipes) s v (placed false e) k (outs e apart) (f.outs e))

  in_fits : left.is_in ≡ true → FitsIn (Some left) v → ((e : ℕ) → out_end v e ≡ out_end s e)
      → ((e : ℕ) → (e == left.ep) ≡ false → in_end v e ≡ in_end s e)
      → FunctionInSync device (with_pipe left pipes) v
  in_fits way fits outs ins = function_level (with_pipe left pipes) s v k f
      (grind (arith, at_elsewhere, still_out, way))
      (λ e. by_number e (e == left.ep) refl)
    where
      by_number : (e : ℕ) (b : Bool) → (e == left.ep) ≡ b
          → FitsIn (pipe_at true e (with_pipe left pipes)) v
      by_number e true at =
          rw (at_with left pipes true e way (sym (eqb-true e left.ep at))) fits
      by_number e false apart = rw (at_elsewhere left pipes true e (λ same. apart))
          (in_beside e (pipe_at true e pipes) s v (placed true e) k (ins e apart) (f.ins e))

-- where it stands among them
module _ {device : Accepted} {pipes : FunctionPipes} (pipe : PipeState)
    (at : pipe_at pipe.is_in pipe.ep pipes ≡ Some pipe) (s : State)
    (f : FunctionInSync device pipes s) where
  pub out_of : pipe.is_in ≡ false → OutPipeInSync pipe s
  out_of out = grind arith

  pub in_of : pipe.is_in ≡ true → FitsIn (Some pipe) s
  in_of into = grind arith

-- A call through the pipes to the device of an address

-- another device is as it was; where the call ends so, this one is as far as the pipes that are
-- left
pub record PipesMove (device : Accepted) (address : ℕ) (ends : Type 0) (pipes left : Pipes)
    (j : Location) (s v : State) : Type 0 where
  pub others : (address_of s == address) ≡ false → v ≡ s
  pub same : address_of v ≡ address_of s
  pub itself : ends → (address_of s == address) ≡ true → PipesInSync device pipes s
      → PipesInSync device left v

-- where the answer is not the bus's own
known_itself : {A : Type 0} (ends : Type 0) (answer : Result A PipeFault) (left : PipeState)
    (s : State) (Fits : PipeState → State → Type 0) → (ends → pipe_known answer left ≡ left) → ends
    → Fits (pipe_known answer left) s → Fits left s
known_itself ends answer left s Fits is e f = grind arith

pub poll_moves : (device : Accepted) (pipe left : Interrupt) (old new : World)
    (result : Result (Option (ArrayVec ℕ)) PipeFault) (j : Location) (s v : State)
    → interrupt_made left ≡ interrupt_made pipe
    → PollLeaves pipe old result left new j s v → RanAs j s v
    → PipesMove device pipe.target.addr (IsOk result) (Hub pipe) (Hub left) j s v
poll_moves device pipe left old new (Ok got) j s v made x ran = record {
  others = x.others;
  same = grind arith;
  itself = λ e at f. record {
    to = grind (arith, status_same);
    level = x.level at f.to f.level got refl;
    runs = ran.2 ∙ f.runs;
  };
}
poll_moves device pipe left old new (Err why) j s v made x ran = grind arith

-- through a pipe of a function

module _ (device : Accepted) (ends : Type 0) (pipes : FunctionPipes) (placed : AreInPlace pipes)
    (pipe left : PipeState) (at : pipe_at pipe.is_in pipe.ep pipes ≡ Some pipe)
    (made : pipe_made left ≡ pipe_made pipe) where
  way : left.is_in ≡ pipe.is_in
  way = same_way pipe left made

  number : left.ep ≡ pipe.ep
  number = same_number pipe left made

  apart_of : (e : ℕ) → (e == left.ep) ≡ false → (e == pipe.ep) ≡ false
  apart_of e apart = search number

  pub send_moves : (bytes : List ℕ) (answer : Result (Unit {0}) PipeFault) (j : Location)
      (s v : State) → (ends → pipe_known answer left ≡ left) → pipe.is_in ≡ false
      → SendLeaves bytes pipe answer left j s v → SameSettings j s v
      → PipesMove device pipe.target.addr ends (Function pipes) (Function (with_pipe left pipes)) j
      s v
  send_moves bytes answer j s v is out x k = record {
    others = x.others;
    same = grind arith;
    itself = λ e there f.
        let level = out_of pipe at s f out in
        let frame : OnlySink pipe.ep s v = x.frame level.endpoint in
        out_fits device pipes placed left s v k f (way ∙ out) (grind (arith, known_itself))
        (grind (arith, apart_of)) (grind arith);
  }

  -- an IN pipe, by what it got then
  pub given_moves : {A : Type 0} (answer : Result A PipeFault) (j : Location) (s v : State)
      → (ends → pipe_known answer left ≡ left) → pipe.is_in ≡ true
      → ((address_of s == pipe.target.addr) ≡ false → v ≡ s)
      → (IsSource pipe.ep pipe.max s → OnlySource pipe.ep s v)
      → ((address_of s == pipe.target.addr) ≡ true → (got : ℕ) → InPipeInSync pipe got s
      → FitsIn (Some (pipe_known answer left)) v) → SameSettings j s v
      → PipesMove device pipe.target.addr ends (Function pipes) (Function (with_pipe left pipes)) j
      s v
  given_moves answer j s v is into others frame gave k = record {
    others = others;
    same = grind arith;
    itself = λ e there f.
        let level = in_of pipe at s f into in
        let only : OnlySource pipe.ep s v = frame level.1.endpoint in
        in_fits device pipes placed left s v k f (way ∙ into)
        (known_itself ends answer left v (λ b w. FitsIn (Some b) w) is e
        (gave there level.0 level.1)) (grind arith) (grind (arith, apart_of));
  }

  pub clear_moves : (is_sent : Bool) (answer : Result (Unit {0}) PipeFault) (j : Location)
      (s v : State) → (ends → pipe_known answer left ≡ left)
      → ClearLeaves is_sent pipe answer left j s v → SameSettings j s v
      → PipesMove device pipe.target.addr ends (Function pipes) (Function (with_pipe left pipes)) j
      s v
  clear_moves is_sent answer j s v is x k = record {
    others = x.others;
    same = grind arith;
    itself = by_way pipe.is_in refl;
  }
    where
      by_way : (b : Bool) → pipe.is_in ≡ b → ends → (address_of s == pipe.target.addr) ≡ true
          → FunctionInSync device pipes s → FunctionInSync device (with_pipe left pipes) v
      by_way false out e there f =
          let level = out_of pipe at s f out in
          let only = out_cleared pipe.ep s v (grind arith) in
          out_fits device pipes placed left s v k f (way ∙ out) (grind (arith, known_itself))
          (grind (arith, apart_of)) only.ins
      by_way true into e there f =
          let level = in_of pipe at s f into in
          let got : ℕ = got_after is_sent level.0 answer (in_end s pipe.ep).place in
          let only = in_cleared pipe.ep s v (grind arith) in
          in_fits device pipes placed left s v k f (way ∙ into) (
            got,
            known_itself ends answer left v (λ b w. InPipeInSync b got w) is e
                (x.source there into level.0 level.1).0,
          )
          only.outs (grind (arith, apart_of))

-- What transfers leave of the pipes to a device.

-- each device over a call, where no address was held twice
abbrev pub EachMoves : Accepted → ℕ → Type 0 → Pipes → Pipes → World → World → Type 0
EachMoves device address ends pipes left old new = new.shared ≡ false
    → EachWas (PipesMove device address ends pipes left) old new

-- Where the bus is at work, the answer is not its own

pub known_left : {A : Type 0} (answer : Result A PipeFault) (left : PipeState)
    → ((fault : BusFault) → answer ≢ Err (pipe_fault.Bus fault)) → pipe_known answer left ≡ left
known_left answer left other = grind arith

sound_known : {A : Type 0} (old : World) (answer : Result A PipeFault) (left : PipeState)
    (w : World)
    → PipeKeeps old answer w → w.fault ≡ None → pipe_known answer left ≡ left
sound_known old answer left w kept sound = grind (arith, known_left)

-- Through one pipe to a device that was found, by what is left of each device
module _ {device : Accepted} {below_hub : Bool} {pipes : FunctionPipes} (pipe left : PipeState)
    (of : IsPipeOf device below_hub pipes pipe) where
  pub call_each : {A : Type 0} (old : World) (answer : Result A PipeFault) (new : World)
      (L : Relation) → PipeKeeps old answer new → (new.shared ≡ false → EachWas L old new)
      → ((j : Location) (s v : State) → (new.fault ≡ None → pipe_known answer left ≡ left)
      → L j s v → SameSettings j s v → PipesMove device pipe.target.addr (new.fault ≡ None)
      (Function pipes) (Function (with_pipe left pipes)) j s v)
      → EachMoves device device.address (new.fault ≡ None) (Function pipes)
      (Function (with_pipe left pipes)) old new
  call_each old answer new L kept leaves moves =
      subst (λ a. EachMoves device a (new.fault ≡ None) (Function pipes)
      (Function (with_pipe left pipes)) old new) (addressed pipe of)
      (λ single. each_joint L SameSettings _ (grind (arith, sound_known)) old new (leaves single)
      (grind arith))
