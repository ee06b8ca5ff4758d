-- What a clear of a halt leaves of each device, why it fails, and the record of a call.
use Rattle.usb_device.specs.{Location, ServedEndpoint, BulkOut, BulkIn, Registers, Spec, served}
use Rattle.usb_device.specs.{outcome, unhalts, on_endpoint, first_stage, ending, rested, State}
use Rattle.usb_device.specs.{begun_again, rested_in, rested_out, accepted, IsSink, IsSource}
use Rattle.usb_device.specs.{StatusGiven, OnlyControl, OnlyStage, in_end, out_end}
use Rattle.usb_device.proofs.Interface.{at_other, at_same, served-in, served-out}
use Rattle.std.proofs.Common.{◌≡◌, ◌≢◌, ◌⊎◌, inl, inr, ◌∙◌, refl, arith, false, true, Bool, ℕ, ◌+◌}
use Rattle.std.proofs.Common.{◌*◌, ◌/◌, ◌%◌, List, None, Option, Result, Ok, Err, OnOk, MatchResult}
use Rattle.std.proofs.lemmas.Bool.Decides.{nat_tests}
use Rattle.usb_request.specs.{Setup, bytes_of, setup_of, clear_endpoint_halt}
use Rattle.usb_port.specs.{PortState}
use Rattle.usb_world.specs.{is_harmless, World, EachWas, Relation}
use Rattle.usb_world.proofs.Interface.{each_none, each_wider}
use Rattle.usb_transfer.specs.{Answerer, is_at, AttemptsMade, PipeFault, PipeState, needs_clear}
use Rattle.usb_transfer.specs.{halt_address, cleared, Cleared, Clears, FaultAfter, WriteFailure}
use Rattle.usb_transfer.specs.{EffectOrNone, none, some, WasRefused, WriteLeaves, OutPipeInSync}
use Rattle.usb_transfer.specs.{InPipeInSync, ClearLeaves, OnlyEndpoint, PipeClear, Unshared}
use Rattle.usb_transfer.proofs.SetupTransactions.{spared_all}
use Rattle.usb_transfer.proofs.DeviceRuns.{DeviceTold, told_leaves, told_why}
use Rattle.usb_transfer.specs.declared.condition.Condition.TheVariants.{Broken}
use Rattle.usb_transfer.specs.declared.fault.PipeFault.TheVariants as pipe_fault
use Rattle.usb_transfer.proofs.Answerers.{who_writes}
use Rattle.usb_transfer.proofs.BulkCalls.{clear_by}
use Rattle.usb_transfer.proofs.ControlSteps.{only_stage}
use Rattle.usb_transfer.proofs.ControlTransfers.{each_write_told}

-- The request

outcome-clear_halt : (s : Spec) (g : Registers) (index : ℕ)
    → outcome s g (clear_endpoint_halt index) ≡ on_endpoint unhalts (served s g index)
unfolding outcome clear_endpoint_halt
outcome-clear_halt s g index = refl

clear_halt-length : (index : ℕ) → (clear_endpoint_halt index).length ≡ 0
unfolding clear_endpoint_halt
clear_halt-length index = refl

pub harmless : (index : ℕ) → is_harmless (clear_endpoint_halt index) ≡ true
unfolding clear_endpoint_halt
harmless index = refl

pub two_bytes_word : (n : ℕ) → n % 256 + 256 * (n / 256) ≡ n
two_bytes_word n = omega arith

same_request : (index : ℕ) → setup_of (bytes_of (clear_endpoint_halt index))
    ≡ clear_endpoint_halt index
unfolding clear_endpoint_halt bytes_of setup_of
same_request index = rw (two_bytes_word index)

-- the request of a clear
abbrev pub clear_of : PipeState → Setup
clear_of pipe = clear_endpoint_halt (halt_address pipe.ep pipe.is_in)

pub asks_out : (pipe : PipeState) (s : State) → pipe.is_in ≡ false → IsSink pipe.ep pipe.max s
    → outcome s.spec s.registers (clear_of pipe) ≡ unhalts (BulkOut pipe.ep)
asks_out pipe s out i = grind (arith, outcome-clear_halt, served-out)

pub clear_of-in : (pipe : PipeState) (s : State) → pipe.is_in ≡ true → IsSource pipe.ep pipe.max s
    → outcome s.spec s.registers (clear_of pipe) ≡ unhalts (BulkIn pipe.ep)
clear_of-in pipe s is i = outcome-clear_halt s.spec s.registers (halt_address pipe.ep pipe.is_in)
    ∙ rw (is, served-in pipe.ep pipe.max s i)

-- An endpoint that begins again: each other one is as it was, and nothing moved

out_rests : (e : ℕ) (s : State)
    → out_end (begun_again s (BulkOut e)) e ≡ rested_out (out_end s e)
out_rests e s = grind (arith, at_same)

in_rests : (e : ℕ) (s : State) → in_end (begun_again s (BulkIn e)) e ≡ rested_in (in_end s e)
in_rests e s = grind (arith, at_same)

module _ (e a : ℕ) (s : State) where
  -- this one is the one that begins again, or is as it was
  out_begun : ((e ≡ a) × (out_end (begun_again s (BulkOut e)) a ≡ rested_out (out_end s a)))
      ⊎ (out_end (begun_again s (BulkOut e)) a ≡ out_end s a)
  out_begun = grind (arith, at_other, nat_tests, out_rests)

  in_begun : ((e ≡ a) × (in_end (begun_again s (BulkIn e)) a ≡ rested_in (in_end s a)))
      ⊎ (in_end (begun_again s (BulkIn e)) a ≡ in_end s a)
  in_begun = grind (arith, at_other, in_rests, nat_tests)

only_begun : (which : ServedEndpoint) (s : State) → OnlyEndpoint which s (begun_again s which)
only_begun which s = grind (arith, in_begun, out_begun)

only_none : (which : ServedEndpoint) (s : State) → OnlyEndpoint which s s
only_none which s = grind arith

-- the stage of endpoint 0 is none of it
only_staged : (which : ServedEndpoint) (s u v : State) → OnlyEndpoint which s u → OnlyStage u v
    → OnlyEndpoint which s v
only_staged which s u v x o = grind (arith, x.rest, x.moved.taken, x.moved.given)

-- What the request leaves of a device that has the endpoint: only the endpoint began again, or
-- nothing but the stage is another

abbrev OnlyRested : ServedEndpoint → State → State → Type 0
OnlyRested which s v = OnlyStage (begun_again s which) v

only_rested : (which : ServedEndpoint) (s v : State) → OnlyRested which s v → OnlyEndpoint which s v
only_rested which s v o = grind (arith, only_begun, only_staged)

only_either : (which : ServedEndpoint) (s v : State) → OnlyStage s v ⊎ OnlyRested which s v
    → OnlyEndpoint which s v
only_either which s v (inl o) = only_staged which s s v (only_none which s) o
only_either which s v (inr o) = only_rested which s v o

-- a device that was asked, or any other
only_by : (which : ServedEndpoint) (s v : State) (at : Bool) → (at ≡ false → v ≡ s)
    → (at ≡ true → OnlyEndpoint which s v) → OnlyEndpoint which s v
only_by which s v at others asked = grind (arith, only_none)

registers_kept : (which : ServedEndpoint) (s : State)
    → (begun_again s which).registers ≡ s.registers
registers_kept which s = grind arith

-- a status stage that gives no address leaves the registers
pub given_registers : (address : Option ℕ) (s v : State) → address ≡ None → StatusGiven address s v
    → v.registers ≡ s.registers
given_registers address s v e x = grind arith

module _ (request : Setup) (which : ServedEndpoint) (s : State)
    (is : outcome s.spec s.registers request ≡ unhalts which) where
  accepted_rests : (row : List PortState) (v : State) → OnlyControl (accepted s row request) v
      → v.registers ≡ (accepted s row request).registers → OnlyRested which s v
  accepted_rests row v o e = grind (arith, only_stage, registers_kept)

  ended_rests : (row : List PortState) (address : Option ℕ) (v : State)
      → first_stage row s request.length (outcome s.spec s.registers request) ≡ ending address
      → StatusGiven address (accepted s row request) v
      → OnlyControl (accepted s row request) v → OnlyRested which s v
  ended_rests row address v h g o = grind (arith, accepted_rests, given_registers)

  failed_rests : {t : _} {fault : PipeFault} {old : World} {j : Location} (v : State)
      → EffectOrNone t request fault old j s v → OnlyStage s v ⊎ OnlyRested which s v
  failed_rests v effect = grind (arith, accepted_rests, ended_rests, only_stage)

  not_refused : {t : _} {old new : World} {j : Location} → WasRefused t request old new j s → ⊥
  not_refused r = grind (arith, r.is)

-- One device and its pipe

-- a clear that is done
done_leaves : (pipe : PipeState) (done : Unit {0}) → {old new : World} (j : Location) (s v : State)
    → WriteLeaves pipe.target (clear_of pipe) (Ok done) old new j s v
    → ClearLeaves true pipe (Ok done) (cleared pipe (Ok done)) j s v
done_leaves pipe done j s v x = record {
  others = x.others;
  sink = grind (arith, asks_out, ended_rests, out_rests, x.done);
  source = grind (arith, clear_of-in, ended_rests, in_rests, x.done);
  only_sink = λ out i. only_by (BulkOut pipe.ep) s v (is_at s pipe.target) x.others (λ at.
      let d = x.done at done refl in
      only_rested (BulkOut pipe.ep) s v (grind (arith, asks_out, ended_rests)));
  only_source = λ is i. only_by (BulkIn pipe.ep) s v (is_at s pipe.target) x.others (λ at.
      let d = x.done at done refl in
      only_rested (BulkIn pipe.ep) s v (grind (arith, clear_of-in, ended_rests)));
}

-- one that failed

failed_sink : (pipe : PipeState) (s v : State) → OutPipeInSync pipe s → OnlyStage s v
    ⊎ OnlyRested (BulkOut pipe.ep) s v
    → OutPipeInSync (record pipe { condition = Broken }) v
    × ((out_end v pipe.ep).sink ≡ (out_end s pipe.ep).sink)
    × (((out_end v pipe.ep).state ≡ (out_end s pipe.ep).state)
    ⊎ ((out_end v pipe.ep).state ≡ rested))
failed_sink pipe s v f h = grind (arith, out_rests)

failed_source : (pipe : PipeState) (got : ℕ) (s v : State) → InPipeInSync pipe got s → OnlyStage s v
    ⊎ OnlyRested (BulkIn pipe.ep) s v
    → InPipeInSync (record pipe { condition = Broken }) got v
    × ((in_end v pipe.ep).place ≡ (in_end s pipe.ep).place)
    × (((in_end v pipe.ep).state ≡ (in_end s pipe.ep).state)
    ⊎ ((in_end v pipe.ep).state ≡ rested))
failed_source pipe got s v f h = grind (arith, in_rests)

failed_leaves : (pipe : PipeState) (why : PipeFault) (old new : World) → FaultAfter 1 old why new
    → (j : Location) (s v : State) → WriteLeaves pipe.target (clear_of pipe) (Err why) old new j s v
    → ClearLeaves true pipe (Err why) (cleared pipe (Err why)) j s v
failed_leaves pipe why old new ends j s v x = record {
  others = x.others;
  sink = λ at out f.
      let is = asks_out pipe s out f.endpoint in
      let told : why ≢ pipe_fault.Stalled =
      λ e. grind (arith, not_refused) in
      grind (
        arith,
        ends,
        failed_sink pipe s v f (grind (arith, failed_rests)),
      );
  source = λ at way got f.
      let is = clear_of-in pipe s way f.endpoint in
      let told : why ≢ pipe_fault.Stalled =
      λ e. grind (arith, not_refused) in
      grind (
        arith,
        ends,
        failed_source pipe got s v f (grind (arith, failed_rests)),
      );
  only_sink = λ out i. only_either (BulkOut pipe.ep) s v (grind (arith, asks_out, failed_rests));
  only_source = λ is i. only_either (BulkIn pipe.ep) s v (grind (arith, clear_of-in, failed_rests));
}

-- one that makes no request
none_leaves : (pipe : PipeState) (j : Location) (s : State)
    → ClearLeaves false pipe (Ok tt) pipe j s s
none_leaves pipe j s = grind (arith, only_none)

-- A call

abbrev pub ClearTold : Bool → PipeState → Result (Unit {0}) PipeFault → PipeState → World → Relation
ClearTold is_sent pipe result left =
    DeviceTold (ClearLeaves is_sent pipe result left) (WriteFailure pipe.target result)

module _ (pipe left : PipeState) (old new : World) (single : new.shared ≡ false) where
  sent_told : (result : Result (Unit {0}) PipeFault) → Cleared pipe old result left new
      → EachWas (ClearTold true pipe result (cleared pipe result) old) old new
  sent_told result y = by_result result y.ends
      (grind (arith, clear_halt-length, each_write_told, harmless, same_request, spared_all))
    where
      by_result : (r : Result (Unit {0}) PipeFault)
          → MatchResult r (λ done. AttemptsMade 2 old new) (λ why. FaultAfter 1 old why new)
          → EachWas (DeviceTold (WriteLeaves pipe.target (clear_of pipe) r old new)
          (WriteFailure pipe.target r) old) old new
          → EachWas (ClearTold true pipe r (cleared pipe r) old) old new
      by_result (Ok done) ends w = each_wider _ _ (grind (arith, done_leaves)) old new w
      by_result (Err why) ends w = each_wider _ _ (grind (arith, failed_leaves)) old new w

each_clear : (is_sent : Bool) (pipe : PipeState) (result : Result (Unit {0}) PipeFault)
    (left : PipeState) (old new : World) → Clears is_sent pipe old result left new
    → new.shared ≡ false → EachWas (ClearTold is_sent pipe result left old) old new
each_clear is_sent pipe result left old new x single =
    clear_by (EachWas (ClearTold is_sent pipe result left old) old new)
    (λ none i. rw (none, i.answer, i.pipe_kept, i.world_kept)
    (grind (arith, each_none, none_leaves)))
    (λ some y. rw (some, y.pipe_left) (search sent_told)) x

pub clear_leaves : (is_sent : Bool) (pipe : PipeState) (result : Result (Unit {0}) PipeFault)
    (left : PipeState) (old new : World) → Clears is_sent pipe old result left new
    → new.shared ≡ false → EachWas (ClearLeaves is_sent pipe result left) old new
clear_leaves is_sent pipe result left old new x single =
    told_leaves old new (each_clear is_sent pipe result left old new x single)

clear_who : (is_sent : Bool) (pipe : PipeState) (result : Result (Unit {0}) PipeFault)
    (left : PipeState) (old new : World) → Clears is_sent pipe old result left new
    → OnOk result (is_sent ≡ true → Unshared new (Answerer pipe.target old new))
clear_who is_sent pipe (Ok done) left old new x = λ some.
    let c = x.sent some in
    who_writes pipe.target (clear_of pipe) done old new (same_request _)
    (grind (arith, harmless)) c.settled c.stages
clear_who is_sent pipe (Err why) left old new x = tt

pub clear_told : (is_sent : Bool) (pipe : PipeState) (result : Result (Unit {0}) PipeFault)
    (left : PipeState) (old new : World) → Clears is_sent pipe old result left new
    → PipeClear is_sent pipe old result left new
clear_told is_sent pipe result left old new x =
    record {
      clears = x;
      what = grind (arith, clear_leaves);
      why = λ three sound single. told_why old new three
          (each_clear is_sent pipe result left old new x single);
      who = grind (arith, clear_who);
    }

-- The three ways to a clear: it is asked for, it is needed, or it is not

pub clear_sent : (pipe : PipeState) (result : Result (Unit {0}) PipeFault) (left : PipeState)
    (old new : World) → Cleared pipe old result left new → PipeClear true pipe old result left new
clear_sent pipe result left old new y =
    clear_told true pipe result left old new (grind arith)

pub clear_needed : (pipe : PipeState) (result : Result (Unit {0}) PipeFault) (left : PipeState)
    (old new : World) → needs_clear pipe ≡ true → PipeClear true pipe old result left new
    → PipeClear (needs_clear pipe) pipe old result left new
clear_needed pipe result left old new needed x = grind arith

pub clear_unneeded : (pipe : PipeState) (w : World) → needs_clear pipe ≡ false
    → PipeClear (needs_clear pipe) pipe w (Ok tt) pipe w
clear_unneeded pipe w unneeded = grind (arith, clear_told)
