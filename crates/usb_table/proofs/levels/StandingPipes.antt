-- Pipes of a function that stand in their places, and those that are picked among them.
use Rattle.std.proofs.Common.{◌≡◌, ◌≢◌, ◌∙◌, refl, sym, ap, arith, Bool, true, false, ℕ, zero, suc}
use Rattle.std.proofs.Common.{◌==◌, ◌≤◌, ◌<◌, not, List, [], ◌∷◌, length, get_or, slice_set, Option}
use Rattle.std.proofs.Common.{Some, None, IfSome, if◌then◌else◌, inl, inr, ◌⊎◌}
use Rattle.std.specs.Option.{option_map}
use Rattle.usb_descriptor.specs.{EndpointKind, UsableEndpoint}
use Rattle.usb_descriptor.proofs.Interface.{usable_under-small}
use Rattle.usb_device.specs.{with_at}
use Rattle.usb_device.proofs.Interface.{at_mapped, at_other, at_same}
use Rattle.usb_world.proofs.Interface.{both, not-true}
use Rattle.usb_transfer.specs.{PipeState, pipe_made, Interrupt, interrupt_made, Condition}
use Rattle.usb_enum.specs.{Accepted, Finding}
use Rattle.usb_table.specs.{AreFunctionPipes, AreInPlace, At, EndpointChoice, FirstBulk}
use Rattle.usb_table.specs.{FunctionPipes, end_under, first_lost, first_unclear, IsPlace, lost_at}
use Rattle.usb_table.specs.{IsEndPipe, first_number, first_pipe, function_made, only_if, pipe_at}
use Rattle.usb_table.specs.{pipe_if, pipe_to, polls_through, receives_through, row_made}
use Rattle.usb_table.specs.{sends_through, way_to, with_pipe, with_rest, Pipes, Absent, AreAbsent}
use Rattle.usb_table.specs.{lost_row, IsStatusPipe, IsPipe, ArePipesTo, ArePipesOf, pipes_made}
use Rattle.arrayvec.specs.ArrayVec.{ArrayVec}
use Rattle.usb_transfer.specs.declared.condition.Condition.TheVariants.{Broken}

-- Rows

none_less : {P : Type 0} (n : ℕ) → n < 0 → P
none_less n h = grind arith

module _ {A : Type 0} (none : A) where
  pub slice_set-row : (n : ℕ) (x : A) (row : List A) → n < length row
      → slice_set row n x ≡ with_at none n x row
  unfolding with_at
  slice_set-row n x [] h = none_less n h
  slice_set-row zero x (y ∷ row) h = refl
  slice_set-row (suc n) x (y ∷ row) h =
      ap (λ more. y ∷ more) (slice_set-row n x row (omega (arith, h)))

row_same : (n : ℕ) (pipe : PipeState) (row : List (Option PipeState))
    → get_or row n None ≡ Some pipe → with_at None n (Some pipe) row ≡ row
unfolding with_at
row_same zero pipe [] e = absurd (cc e)
row_same zero pipe (y ∷ row) e = ap (λ x. x ∷ row) (sym e)
row_same (suc n) pipe [] e = absurd (cc e)
row_same (suc n) pipe (y ∷ row) e = ap (λ more. y ∷ more) (row_same n pipe row e)

row_made-with : (n : ℕ) (pipe left : PipeState) (row : List (Option PipeState))
    → get_or row n None ≡ Some pipe → pipe_made left ≡ pipe_made pipe
    → row_made (with_at None n (Some left) row) ≡ row_made row
unfolding with_at
row_made-with zero pipe left [] e same = absurd (cc e)
row_made-with zero pipe left (y ∷ row) e same = grind arith
row_made-with (suc n) pipe left [] e same = absurd (cc e)
row_made-with (suc n) pipe left (y ∷ row) e same =
    grind (arith, row_made-with n pipe left row e same)

-- The pipes with another one

module _ (pipe : PipeState) (pipes : FunctionPipes) where
  -- it stands there
  pub at_with : (is_in : Bool) (e : ℕ) → pipe.is_in ≡ is_in → pipe.ep ≡ e
      → pipe_at is_in e (with_pipe pipe pipes) ≡ Some pipe
  at_with is_in e way number = grind (arith, at_same)

  -- all others stay
  pub at_elsewhere : (is_in : Bool) (e : ℕ) → (pipe.is_in ≡ is_in → (e == pipe.ep) ≡ false)
      → pipe_at is_in e (with_pipe pipe pipes) ≡ pipe_at is_in e pipes
  at_elsewhere is_in e h = grind (arith, at_other)

  first_with : (is_in : Bool)
      → first_number is_in (with_pipe pipe pipes) ≡ first_number is_in pipes
  first_with is_in = grind arith

  -- the marks stay
  lost_with : (is_in : Bool) (e : ℕ)
      → lost_at is_in e (with_pipe pipe pipes) ≡ lost_at is_in e pipes
  lost_with is_in e = grind arith

  -- if it stood there, nothing changes
  pub with_same : pipe_at pipe.is_in pipe.ep pipes ≡ Some pipe → with_pipe pipe pipes ≡ pipes
  with_same h = grind (arith, row_same)

  with_made : (was : PipeState) → pipe_at pipe.is_in pipe.ep pipes ≡ Some was
      → pipe_made pipe ≡ pipe_made was → function_made (with_pipe pipe pipes) ≡ function_made pipes
  with_made was at same = grind (arith, row_made-with)

lost_first : (is_in : Bool) (pipe : PipeState) (pipes : FunctionPipes)
    → first_lost is_in (with_pipe pipe pipes) ≡ first_lost is_in pipes
lost_first is_in pipe pipes = grind (arith, first_with, lost_with)

-- what a call leaves of a pipe is to the same endpoint

pub same_way : (pipe left : PipeState) → pipe_made left ≡ pipe_made pipe → left.is_in ≡ pipe.is_in
same_way pipe left same = grind arith

pub same_number : (pipe left : PipeState) → pipe_made left ≡ pipe_made pipe → left.ep ≡ pipe.ep
same_number pipe left same = grind arith

pub made_with : (pipe left : PipeState) (pipes : FunctionPipes)
    → pipe_at pipe.is_in pipe.ep pipes ≡ Some pipe → pipe_made left ≡ pipe_made pipe
    → function_made (with_pipe left pipes) ≡ function_made pipes
made_with pipe left pipes at same = grind (arith, same_number, same_way, with_made)

-- of pipes as they were made each is as it was made
at_row : (is_in : Bool) (e : ℕ) (pipes : FunctionPipes)
    → pipe_at is_in e (function_made pipes) ≡ option_map pipe_made (pipe_at is_in e pipes)
at_row is_in e pipes = grind (arith, at_mapped)

at_made : (is_in : Bool) (e : ℕ) (pipes left : FunctionPipes)
    → function_made left ≡ function_made pipes
    → option_map pipe_made (pipe_at is_in e left) ≡ option_map pipe_made (pipe_at is_in e pipes)
at_made is_in e pipes left same =
    sym (at_row is_in e left) ∙ ap (pipe_at is_in e) same ∙ at_row is_in e pipes

-- Pipes that are picked

place_of : (pipes : FunctionPipes) → AreInPlace pipes → (is_in : Bool) (e : ℕ)
    (pipe : PipeState) → pipe_at is_in e pipes ≡ Some pipe → (pipe.is_in ≡ is_in) × (pipe.ep ≡ e)
place_of pipes placed is_in e pipe at = grind arith

-- pipes to the same endpoints stand so, too
pub placed_made : (pipes left : FunctionPipes) → function_made left ≡ function_made pipes
    → AreInPlace pipes → AreInPlace left
placed_made pipes left same placed is_in e =
    by_pipe (pipe_at is_in e pipes) (pipe_at is_in e left) (search at_made)
    (placed is_in e)
  where
    by_pipe : (was now : Option PipeState)
        → option_map pipe_made now ≡ option_map pipe_made was
        → IfSome was (λ (p : PipeState). (p.is_in ≡ is_in) × (p.ep ≡ e))
        → IfSome now (λ (p : PipeState). (p.is_in ≡ is_in) × (p.ep ≡ e))
    by_pipe was None made place = tt
    by_pipe None (Some left) made place = absurd (cc made)
    by_pipe (Some pipe) (Some left) made place = grind (arith, same_number, same_way)

-- one stands in its place, and what is left of it is picked again
pub record PickedAt (pick : FunctionPipes → Option PipeState) (pipes : FunctionPipes)
    (pipe : PipeState) : Type 0 where
  pub at : pipe_at pipe.is_in pipe.ep pipes ≡ Some pipe
  pub again : (left : PipeState) → pipe_made left ≡ pipe_made pipe
      → pick (with_pipe left pipes) ≡ Some left

abbrev pub Picks : (FunctionPipes → Option PipeState) → Type 0
Picks pick = (pipes : FunctionPipes) (pipe : PipeState) → AreInPlace pipes
    → pick pipes ≡ Some pipe → PickedAt pick pipes pipe

at_picks : (is_in : Bool) (e : ℕ) → Picks (pipe_at is_in e)
at_picks is_in e = grind (arith, at_with, place_of, same_number, same_way)

pub to_picks : (a : ℕ) → Picks (pipe_to a)
to_picks a = grind (arith, at_picks)

-- the one at the number of the first bulk endpoint
abbrev at_first : Bool → FunctionPipes → Option PipeState
at_first is_in pipes = pipe_if is_in (first_number is_in pipes) pipes

number_picks : (is_in : Bool) → Picks (at_first is_in)
number_picks is_in = grind (arith, at_picks, first_with)

pub only_some : (test : PipeState → Bool) (o : Option PipeState) (pipe : PipeState)
    → only_if test o ≡ Some pipe → (o ≡ Some pipe) × (test pipe ≡ true)
only_some test o pipe h = grind arith

only_picks : (test : PipeState → Bool) → ((pipe left : PipeState)
    → pipe_made left ≡ pipe_made pipe → test left ≡ test pipe)
    → (pick : FunctionPipes → Option PipeState) → Picks pick
    → Picks (λ pipes. only_if test (pick pipes))
only_picks test still pick picks pipes pipe placed h =
    let one = only_some test (pick pipes) pipe h in
    let x = picks pipes pipe placed one.0 in grind arith

pub first_picks : (is_in : Bool) → Picks (first_pipe is_in)
first_picks is_in = grind (arith, number_picks, only_picks)

pub sends_picks : (choice : EndpointChoice) → Picks (sends_through choice)
sends_picks FirstBulk = first_picks false
sends_picks (At a) = grind (arith, only_picks, to_picks)

pub receives_picks : (choice : EndpointChoice) → Picks (receives_through choice)
receives_picks FirstBulk = first_picks true
receives_picks (At a) = grind (arith, only_picks, to_picks)

pub polls_picks : (a : ℕ) → Picks (polls_through a)
polls_picks a = grind (arith, only_picks, to_picks)

-- Their directions

pub first_way : (is_in : Bool) (pipes : FunctionPipes) (pipe : PipeState) → AreInPlace pipes
    → first_pipe is_in pipes ≡ Some pipe → pipe.is_in ≡ is_in
first_way is_in pipes pipe placed h = grind (arith, only_some, place_of)

pub sends_way : (choice : EndpointChoice) (pipes : FunctionPipes) (pipe : PipeState)
    → AreInPlace pipes → sends_through choice pipes ≡ Some pipe → pipe.is_in ≡ false
sends_way FirstBulk pipes pipe placed h = search first_way
sends_way (At a) pipes pipe placed h = grind (arith, not-true, only_some)

pub receives_way : (choice : EndpointChoice) (pipes : FunctionPipes) (pipe : PipeState)
    → AreInPlace pipes → receives_through choice pipes ≡ Some pipe → pipe.is_in ≡ true
receives_way FirstBulk pipes pipe placed h = search first_way
receives_way (At a) pipes pipe placed h = grind (arith, both, only_some)

pub polls_way : (a : ℕ) (pipes : FunctionPipes) (pipe : PipeState)
    → polls_through a pipes ≡ Some pipe → pipe.is_in ≡ true
polls_way a pipes pipe h = grind (arith, both, only_some)

-- Pipes to a function that was found

pub in_place : (device : Accepted) (below_hub : Bool) (pipes : FunctionPipes)
    → AreFunctionPipes device below_hub pipes → AreInPlace pipes
in_place device below_hub pipes are = grind arith

-- one of them
pub record IsPipeOf (device : Accepted) (below_hub : Bool) (pipes : FunctionPipes)
    (pipe : PipeState) : Type 0 where
  pub are : AreFunctionPipes device below_hub pipes
  pub at : pipe_at pipe.is_in pipe.ep pipes ≡ Some pipe
  pub end : UsableEndpoint
  pub usable : end_under are.settings device pipe.is_in pipe.ep ≡ Some end
  pub is : IsEndPipe device below_hub pipe.is_in pipe.ep end pipe

pub pipe_of : (device : Accepted) (below_hub : Bool) (pipes : FunctionPipes) (pipe : PipeState)
    → AreFunctionPipes device below_hub pipes → pipe_at pipe.is_in pipe.ep pipes ≡ Some pipe
    → IsPipeOf device below_hub pipes pipe
pipe_of device below_hub pipes pipe are at =
    by_end (end_under are.settings device pipe.is_in pipe.ep) refl
    (lost_at pipe.is_in pipe.ep pipes) (grind arith)
  where
    by_end : (o : Option UsableEndpoint) → end_under are.settings device pipe.is_in pipe.ep ≡ o
        → (lost : Option EndpointKind)
        → IsPlace device below_hub pipe.is_in pipe.ep o lost (Some pipe)
        → IsPipeOf device below_hub pipes pipe
    by_end None usable None is = absurd is
    by_end (Some end) usable None is =
        record { are = are; at = at; end = end; usable = usable; is = is }
    by_end o usable (Some kind) is = absurd (cc is)

module _ {device : Accepted} {below_hub : Bool} {pipes : FunctionPipes} (pipe : PipeState)
    (of : IsPipeOf device below_hub pipes pipe) where
  pub addressed : pipe.target.addr ≡ device.address
  addressed = grind arith

  pub far_end : pipe.ep ≢ 0
  far_end = grind (arith, usable_under-small)

  pub some_bytes : 1 ≤ pipe.max
  some_bytes = grind (arith, usable_under-small)

-- What is left of a pipe, if there is one

abbrev pub IsRest : Option PipeState → Option PipeState → Type 0
IsRest None rest = rest ≡ None
IsRest (Some pipe) None = ⊥
IsRest (Some pipe) (Some left) = pipe_made left ≡ pipe_made pipe

pub same_rest : (pipe : Option PipeState) → IsRest pipe pipe
same_rest pipe = grind arith

-- it goes the same way
pub rest_way : (is_in : Bool) (o rest : Option PipeState)
    → IfSome o (λ (pipe : PipeState). pipe.is_in ≡ is_in) → IsRest o rest
    → IfSome rest (λ (pipe : PipeState). pipe.is_in ≡ is_in)
rest_way is_in o rest way is = grind (arith, same_way)

pub first_ways : (is_in : Bool) (pipes : FunctionPipes) → AreInPlace pipes
    → IfSome (first_pipe is_in pipes) (λ (pipe : PipeState). pipe.is_in ≡ is_in)
first_ways is_in pipes placed = grind (arith, first_way)

-- put back it is picked again, and the pipes are to the same endpoints
pub rest_again : (pick : FunctionPipes → Option PipeState) → Picks pick → (pipes : FunctionPipes)
    → AreInPlace pipes → (o rest : Option PipeState) → pick pipes ≡ o → IsRest o rest
    → pick (with_rest rest pipes) ≡ rest
rest_again pick picks pipes placed None rest at is = grind arith
rest_again pick picks pipes placed (Some pipe) None at is = absurd is
rest_again pick picks pipes placed (Some pipe) (Some left) at is =
    (picks pipes pipe placed at).again left is

pub rest_made : (pick : FunctionPipes → Option PipeState) → Picks pick → (pipes : FunctionPipes)
    → AreInPlace pipes → (o rest : Option PipeState) → pick pipes ≡ o → IsRest o rest
    → function_made (with_rest rest pipes) ≡ function_made pipes
rest_made pick picks pipes placed None rest at is = grind arith
rest_made pick picks pipes placed (Some pipe) None at is = absurd is
rest_made pick picks pipes placed (Some pipe) (Some left) at is =
    made_with pipe left pipes (picks pipes pipe placed at).at is

-- where a pipe is put back as it was, nothing changes
pub rest_same : (pick : FunctionPipes → Option PipeState) → Picks pick → (pipes : FunctionPipes)
    → AreInPlace pipes → (o : Option PipeState) → pick pipes ≡ o → with_rest o pipes ≡ pipes
rest_same pick picks pipes placed o at = grind (arith, with_same)

-- a pipe of the other direction is not the first bulk one of this one
number_apart : (is_in : Bool) (left : PipeState) (pipes : FunctionPipes)
    → (left.is_in ≡ is_in → ⊥) → at_first is_in (with_pipe left pipes) ≡ at_first is_in pipes
number_apart is_in left pipes apart = grind (arith, at_elsewhere, first_with)

pub first_beside : (is_in other : Bool) (rest : Option PipeState) (pipes : FunctionPipes)
    → IfSome rest (λ (pipe : PipeState). pipe.is_in ≡ other) → (other ≡ is_in → ⊥)
    → first_pipe is_in (with_rest rest pipes) ≡ first_pipe is_in pipes
first_beside is_in other rest pipes way apart = grind (arith, number_apart)

-- nor does it change whether the halt of the first one can be cleared
pub unclear_beside : (is_in other : Bool) (rest : Option PipeState) (pipes : FunctionPipes)
    → IfSome rest (λ (pipe : PipeState). pipe.is_in ≡ other) → (other ≡ is_in → ⊥)
    → first_unclear is_in (with_rest rest pipes) ≡ first_unclear is_in pipes
unclear_beside is_in other rest pipes way apart = grind (arith, lost_first, number_apart)

-- The pipe to an address, by its direction

-- one of a direction (true: IN), and none of the other
abbrev pub one_way : Bool → Option PipeState → Bool → Option PipeState
one_way is_in pipe true = if is_in then pipe else None
one_way is_in pipe false = if not is_in then pipe else None

pub way_to-one : (is_in : Bool) (a : ℕ) (pipes : FunctionPipes) (pipe : PipeState)
    → pipe_to a pipes ≡ Some pipe → way_to is_in a pipes ≡ one_way pipe.is_in (Some pipe) is_in
way_to-one is_in a pipes pipe at = grind arith

-- A transfer leaves pipes to the same endpoints.

pub broken_or_not : (c : Condition) → (c ≡ Broken) ⊎ (c ≢ Broken)
broken_or_not c = grind arith

pub empty_or_not : (xs : List ℕ) → (xs ≡ []) ⊎ (xs ≢ [])
empty_or_not [] = inl refl
empty_or_not (x ∷ xs) = inr (λ h. cc)

-- Pipes are to a device just where they are as they were made

end_to : (device : Accepted) (below_hub is_in : Bool) (e : ℕ) (end : Option UsableEndpoint)
    (pipe left : Option PipeState) → option_map pipe_made left ≡ option_map pipe_made pipe
    → IsPipe device below_hub is_in e end pipe → IsPipe device below_hub is_in e end left
end_to device below_hub is_in e end pipe left same to = grind arith

same_first : (is_in : Bool) (pipes left : FunctionPipes)
    → function_made left ≡ function_made pipes
    → first_number is_in left ≡ first_number is_in pipes
same_first is_in pipes left same = grind arith

same_lost : (is_in : Bool) (pipes left : FunctionPipes)
    → function_made left ≡ function_made pipes → lost_row is_in left ≡ lost_row is_in pipes
same_lost is_in pipes left same = grind arith

place_to : (device : Accepted) (below_hub is_in : Bool) (e : ℕ) (end : Option UsableEndpoint)
    (lost : Option EndpointKind) (pipe left : Option PipeState)
    → option_map pipe_made left ≡ option_map pipe_made pipe
    → IsPlace device below_hub is_in e end lost pipe
    → IsPlace device below_hub is_in e end lost left
place_to device below_hub is_in e end lost pipe left same to = grind (arith, end_to)

pub function_to : (device : Accepted) (below_hub : Bool) (pipes left : FunctionPipes)
    → function_made left ≡ function_made pipes → AreFunctionPipes device below_hub pipes
    → AreFunctionPipes device below_hub left
function_to device below_hub pipes left same are = record {
  function = are.function;
  settings = are.settings;
  all = are.all;
  each = λ is_in e.
      rw (same_lost is_in pipes left same) (grind (arith, at_made, place_to));
  first = grind (arith, same_first);
}

status_to : (device : Accepted) (below_hub : Bool) (pipe left : Interrupt)
    → interrupt_made left ≡ interrupt_made pipe → IsStatusPipe device below_hub pipe
    → IsStatusPipe device below_hub left
status_to device below_hub pipe left same to = grind arith

pipes_to : (device : Accepted) (below_hub : Bool) (pipes left : Pipes)
    → pipes_made left ≡ pipes_made pipes → ArePipesTo device below_hub pipes
    → ArePipesTo device below_hub left
pipes_to device below_hub pipes left same are = grind (arith, function_to, status_to)

made_absent : (left : Pipes) (said : ArrayVec ℕ) → pipes_made left ≡ Absent said → AreAbsent left
made_absent left said same = grind arith

-- Calls keep them

abbrev pub Keep : Finding → Pipes → Pipes → Type 0
Keep finding pipes left = (below_hub : Bool) → ArePipesOf finding below_hub pipes
    → ArePipesOf finding below_hub left

pub same_keep : (finding : Finding) (pipes left : Pipes) → pipes_made left ≡ pipes_made pipes
    → Keep finding pipes left
same_keep finding pipes left same = grind (arith, made_absent, pipes_to)
