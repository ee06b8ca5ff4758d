-- How far a call came, and what a driver makes of it.
use Rattle.std.proofs.Common.{◌≡◌, ℕ, ◌≤◌, inr, false, List, [], length, Option}
use Rattle.std.proofs.Common.{Some, None, Result, Ok, Err, IfOk, IfSome, subst, ap}
use Rattle.std.proofs.Common.{arith}
use Rattle.std.proofs.Common.{◌∙◌}
use Rattle.std.proofs.Math.Bridge.{le_prop}
use Rattle.std.proofs.Math.Logic.{∥∥₁_elim, ∥∥₁_map}
use Rattle.std.specs.Global.{Box, Vec}
use Rattle.usb_host.specs.{HostState}
use Rattle.usb_dialogue.specs.{Makes, CallIs, StepOf, the_call, Asks, AsksNone, Call, DriverState}
use Rattle.usb_dialogue.specs.{EndsWith, IsTold, IsUnderWay, MakesCall, NeedsAnswer, call_in}
use Rattle.usb_dialogue.specs.{call_under_way, on_bus, Hears, failed_by, spent_in, Answer, Question}
use Rattle.usb_dialogue.specs.{CallState, Want, row_max}
use Rattle.usb_dialogue.specs.declared.call.Done.{Done}
use Rattle.usb_dialogue.specs.declared.driver.Step.{Step}
use Rattle.usb_dialogue.specs.declared.driver.Step.TheVariants as step
use Rattle.usb_dialogue.specs.declared.progress.Progress.{Progress}
use Rattle.usb_dialogue.proofs.HearingLaws.{question_asked, within_heard}
use Rattle.usb_dialogue.proofs.RowLaws.{row_max-fits}

-- a call went so, by the host behind it and by how far it came
pub record WentSo (answers : List Answer) (p : Progress) (host : HostState) : Type 0 where
  pub spent : host.counts.spent ≡ spent_in p
  pub failed : host.counts.failed ≡ failed_by p.asked

asks_so : (roots : ℕ) (statuses : List (List ℕ)) (answers : List Answer) (p : Progress)
    (host : HostState) (d : Done) (q : Question) → p.asked ≡ Some q → WentSo answers p host
    → (call : Call) → MakesCall call d host → Hears roots statuses answers p
    → NeedsAnswer (the_call call roots statuses answers) q
asks_so roots statuses answers p host d q asked went call made h = record {
  done = d;
  end = host;
  goes = record {
    end = p;
    course = h;
    used = (within_heard h).all q asked;
    asked = asked;
    made = made;
    spent = went.spent;
    failed = went.failed ∙ ap failed_by asked;
  };
}

ends_so : (roots : ℕ) (statuses : List (List ℕ)) (answers : List Answer) (p : Progress)
    (host kept : HostState) (d : Done) (records : List ℕ) → p.asked ≡ None
    → length answers ≤ p.used → IsTold host d kept records → WentSo answers p host
    → (call : Call) → MakesCall call d host → Hears roots statuses answers p
    → EndsWith (the_call call roots statuses answers) kept records
ends_so roots statuses answers p host kept d records none all is went call made h =
    let few = (within_heard h).few in
    record {
      done = d;
      end = host;
      goes = record {
        end = p;
        course = h;
        used = omega (arith, few, all);
        asked = none;
        made = made;
        spent = went.spent;
        failed = went.failed ∙ ap failed_by none;
      };
      is = is;
    }

told_so : {E : Type 0} (told : Result (Option (Box HostState × Vec ℕ)) E) (host : HostState)
    (kept : Box HostState) (d : Done) (bytes : Vec ℕ)
    → IfOk told (λ t. IfSome t (λ it. IsTold host d it.0.value it.1.items))
    → told ≡ Ok (Some (kept, bytes)) → IsTold host d kept.value bytes.items
told_so {E} told host kept d bytes is e =
    subst (λ (t : Result (Option (Box HostState × Vec ℕ)) E).
    IfOk t (λ o. IfSome o (λ it. IsTold host d it.0.value it.1.items))) e is

pub finished_on : {E F : Type 0} (told : Result (Option (Box HostState × Vec ℕ)) E) (p : Progress)
    (n : ℕ) (r : Result Step F) (roots : ℕ) (statuses : List (List ℕ)) (answers : List Answer)
    (host : HostState) (d : Done) → IfOk r (StepOf told p n) → n ≡ length answers
    → ∥ Hears roots statuses answers p ∥₁ → WentSo answers p host
    → IfOk told (λ t. IfSome t (λ it. IsTold host d it.0.value it.1.items))
    → IfOk r (λ s. (call : Call) → MakesCall call d host
    → ∥ CallIs (the_call call roots statuses answers) s ∥₁)
finished_on told p n (Ok (step.Asks q)) roots statuses answers host d is count h went all =
    λ call made. ∥∥₁_map h (λ x. asks_so roots statuses answers p host d q is went call made x)
finished_on told p n (Ok (step.Done kept bytes)) roots statuses answers host d is count h went all =
    λ call made. ∥∥₁_map h (λ x. ends_so roots statuses answers p host kept.value d
    bytes.items is.0
    (subst (λ (m : ℕ). m ≤ p.used) count is.1) (told_so told host kept d bytes all is.2) went call
    made x)
finished_on told p n (Err f) roots statuses answers host d is count h went all = tt

-- the same of a call that begins where it is said
pub calls_on : {F : Type 0} (r : Result Step F) (roots m : ℕ) (statuses s : List (List ℕ))
    (answers a : List Answer) (host : HostState) (d : Done) (call : Call) → roots ≡ m
    → statuses ≡ s → answers ≡ a → MakesCall call d host
    → IfOk r (λ x. (c : Call) → MakesCall c d host → ∥ CallIs (the_call c m s a) x ∥₁)
    → IfOk r (λ x. ∥ CallIs (the_call call roots statuses answers) x ∥₁)
calls_on (Ok x) roots m statuses s answers a host d call e f g made h =
    rw (e, f, g) (h call made)
calls_on (Err y) roots m statuses s answers a host d call e f g made h = tt

pub makes_on : (want : Want) (h old new : HostState) (d : Done) → old ≡ on_bus h
    → Makes false want old d new → MakesCall (Call.wants h want) d new
makes_on want h old new d e made = subst (λ (x : HostState). Makes false want x d new) e made

-- ---- a driver

pub asks_on : {F : Type 0} (old : DriverState) (back heard : List Answer) (r : Result Step F)
    (q p : Question) → r ≡ Ok (step.Asks p) → q ≡ p → heard ≡ old.heard → back ≡ heard
    → IfOk r (λ s. ∥ CallIs (the_call (call_under_way old) old.roots old.statuses heard) s ∥₁)
    → old.asked ≡ None → IsUnderWay old
    → ∥ Asks q old (record old { heard = back; asked = Some p }) ∥₁
asks_on {F} old back heard r q p e same kept returned is none under =
    let goes : ∥ NeedsAnswer (the_call (call_under_way old) old.roots old.statuses heard) p ∥₁ =
    subst (λ (x : Result Step F). IfOk x (λ s.
    ∥ CallIs (the_call (call_under_way old) old.roots old.statuses heard) s ∥₁)) e is in
    let here : ∥ NeedsAnswer (call_in old) p ∥₁ =
    subst (λ (x : List Answer).
    ∥ NeedsAnswer (the_call (call_under_way old) old.roots old.statuses x) p ∥₁) kept goes in
    let all : record old { heard = back; asked = Some p } ≡ record old { asked = Some p } =
    ap (λ (x : List Answer). record old { heard = x; asked = Some p }) (returned ∙ kept) in
    rw (same) (∥∥₁_map here (λ n. inr (none, under, n, all)))

pub done_on : {F : Type 0} (old : DriverState) (heard empty : List Answer) (r : Result Step F)
    (host : Box HostState) (bytes : Vec ℕ) → r ≡ Ok (step.Done host bytes) → heard ≡ old.heard
    → empty ≡ []
    → IfOk r (λ s. ∥ CallIs (the_call (call_under_way old) old.roots old.statuses heard) s ∥₁)
    → old.asked ≡ None → IsUnderWay old
    → ∥ AsksNone old (record old {
      host = Some host.value;
      want = None;
      heard = empty;
      told = bytes.items;
    }) ∥₁
done_on {F} old heard empty r host bytes e kept none_heard is none under =
    let goes : ∥ EndsWith (the_call (call_under_way old) old.roots old.statuses heard) host.value
    bytes.items ∥₁ =
    subst (λ (x : Result Step F). IfOk x (λ s.
    ∥ CallIs (the_call (call_under_way old) old.roots old.statuses heard) s ∥₁)) e is in
    let here : ∥ EndsWith (call_in old) host.value bytes.items ∥₁ =
    subst (λ (x : List Answer).
    ∥ EndsWith (the_call (call_under_way old) old.roots old.statuses x) host.value
    bytes.items ∥₁)
    kept goes in
    ∥∥₁_map here (λ ends. inr (record {
      none = none;
      under = under;
      host = host.value;
      told = bytes.items;
      ends = ends;
      rest = ap (λ (x : List Answer). record old {
        host = Some host.value;
        want = None;
        heard = x;
        told = bytes.items;
      }) none_heard;
    }))

-- a question that a call came to fits a packet
pub row_fits_on : {F : Type 0} (c : CallState) (r : Result Step F) (p : Question)
    → r ≡ Ok (step.Asks p) → IfOk r (λ s. ∥ CallIs c s ∥₁) → row_max (Some p) ≤ 64
row_fits_on {F} c r p e is =
    let goes : ∥ NeedsAnswer c p ∥₁ =
    subst (λ (x : Result Step F). IfOk x (λ s. ∥ CallIs c s ∥₁)) e is in
    ∥∥₁_elim goes le_prop
    (λ n. row_max-fits c.roots p (question_asked n.goes.course p n.goes.asked))
