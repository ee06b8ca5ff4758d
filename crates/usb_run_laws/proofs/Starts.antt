-- At which place of what it gives an endpoint begins of a device that was found anew.
use Rattle.std.proofs.Common.{◌≡◌, ◌∙◌, refl, sym, ap, subst, Bool, true, false, ℕ, zero, suc, List}
use Rattle.std.proofs.Common.{[], ◌∷◌, map, get_or, Option, None, Some, option_map, is_some}
use Rattle.std.proofs.Common.{if◌then◌else◌, ◌<◌, length, arith}
use Rattle.std.proofs.lemmas.List.FromFn.{get_or-range_with_len}
use Rattle.usb_packet.specs.{Zero, other}
use Rattle.usb_device.specs.{EndpointState, rested, SourceAt, State, end_numbers, in_end}
use Rattle.usb_transfer.specs.{Target, PipeState, InPipeInSync}
use Rattle.usb_transfer.specs.declared.condition.Condition.TheVariants.{Ready}
use Rattle.usb_descriptor.specs.{UsableEndpoint, status_endpoint_of}
use Rattle.usb_enum.specs.{Accepted, configuration_of, target_of}
use Rattle.usb_table.specs.{Function, new_function, new_pipe, new_pipes_to, new_status}
use Rattle.usb_table.specs.{usable_end}
use Rattle.usb_run_laws.specs.{pipe_of}

-- new pipes

none_of_hub : (device : Accepted) (below : Bool) (endpoint : Option (ℕ × ℕ)) (e : ℕ)
    → pipe_of true e (new_status device below endpoint) ≡ None
none_of_hub device below None e = refl
none_of_hub device below (Some endpoint) e = refl

-- a pipe that was just made works, and awaits DATA0
pub record IsNew (n : ℕ) (pipe : PipeState) : Type 0 where
  pub number : pipe.ep ≡ n
  pub works : pipe.condition ≡ Ready
  pub first : pipe.toggle ≡ Zero

new_end : (target : Target) (is_in : Bool) (n : ℕ) (end : Option UsableEndpoint)
    (pipe : PipeState) → new_pipe target is_in n end ≡ Some pipe → IsNew n pipe
new_end target is_in n None pipe e = absurd (cc e)
new_end target is_in n (Some end) pipe e =
    let number : Some n ≡ Some pipe.ep = ap (option_map (λ (p : PipeState). p.ep)) e in
    let works : Some Ready ≡ Some pipe.condition =
    ap (option_map (λ (p : PipeState). p.condition)) e in
    let first : Some Zero ≡ Some pipe.toggle = ap (option_map (λ (p : PipeState). p.toggle)) e in
    record { number = cc number; works = cc works; first = cc first }

-- what stands in a row that was made
made_from : (f : ℕ → Option PipeState) (row : List ℕ) (e : ℕ) (pipe : PipeState)
    → get_or (map f row) e None ≡ Some pipe → (e < length row) × (f (get_or row e 0) ≡ Some pipe)
made_from f [] e pipe is = absurd (cc is)
made_from f (n ∷ row) zero pipe is = (omega arith, is)
made_from f (n ∷ row) (suc e) pipe is =
    let more = made_from f row e pipe is in (omega (arith, more.0), more.1)

new_numbered : (f : ℕ → Option PipeState) (e : ℕ) (pipe : PipeState)
    → get_or (map f end_numbers) e None ≡ Some pipe → f e ≡ Some pipe
new_numbered f e pipe is =
    let found = made_from f end_numbers e pipe is in
    let few : e < 16 = found.0 in
    let same : get_or end_numbers e 0 ≡ e = omega (arith, get_or-range_with_len 0 16 e 0 few) in
    sym (ap f same) ∙ found.1

-- so is each IN pipe to a device that was found anew
pub new_in : (device : Accepted) (below : Bool) (e : ℕ) (pipe : PipeState)
    → pipe_of true e (new_pipes_to device below) ≡ Some pipe → IsNew e pipe
new_in device below e pipe is = by_hub (is_some device.hub) refl
  where
    by_hub : (hub : Bool) → is_some device.hub ≡ hub → IsNew e pipe
    by_hub true hub =
        let status = status_endpoint_of true (configuration_of device) in
        let there : pipe_of true e (new_status device below status) ≡ Some pipe =
        sym (ap (λ b. pipe_of true e (if b then new_status device below status
        else Function (new_function device below))) hub) ∙ is in
        absurd (cc (sym (none_of_hub device below status e) ∙ there))
    by_hub false hub =
        let there : pipe_of true e (Function (new_function device below)) ≡ Some pipe =
        sym (ap (λ b. pipe_of true e (if b
        then new_status device below (status_endpoint_of true (configuration_of device))
        else Function (new_function device below))) hub) ∙ is in
        new_end (target_of device below) true e (usable_end device true e) pipe
        (new_numbered (λ n. new_pipe (target_of device below) true n (usable_end device true n)) e
        pipe there)

-- through such a pipe to an endpoint that has begun again, the host has got what stands before the
-- device's own place
pub begun_place : (pipe : PipeState) (got : ℕ) (s : State) → pipe.condition ≡ Ready
    → pipe.toggle ≡ Zero → (in_end s pipe.ep).state ≡ rested → InPipeInSync pipe got s
    → InPipeInSync pipe (in_end s pipe.ep).place s
begun_place pipe got s works first begun fits = by_source (fits.level works)
  where
    by_source : SourceAt pipe.ep pipe.max got pipe.toggle s
        → InPipeInSync pipe (in_end s pipe.ep).place s
    by_source (SourceAt.level place toggle) = subst (λ n. InPipeInSync pipe n s) (sym place) fits
    by_source (SourceAt.ahead place more toggle) =
        absurd (cc (sym (ap (λ (x : EndpointState). x.toggle) begun) ∙ toggle ∙ ap other first))
