-- How an attempt or an event ends that a fault may cut.
use Rattle.std.proofs.Common.{◌≡◌, Bool, true, false, if◌then◌else◌, Option, Some, None, Result, Ok}
use Rattle.std.proofs.Common.{Err, OnOk, IfErr, IsErrAnd, ◌≢◌, ◌||◌, refl, sym, subst, ap, ◌∙◌}
use Rattle.std.proofs.Common.{arith, ℕ, ◌==◌, List, IfOk, IsSome, is_some, ◌+◌}
use Rattle.std.specs.Bool.{⊤}
use Rattle.std.proofs.lemmas.Bool.{eq-eqb}
use Rattle.usb_world.specs.declared.event.Ask.{Ask}
use Rattle.usb_world.specs.{Attempt, Outcome, BusFault, Limit, Memory, Failed, World, at_attempt}
use Rattle.usb_world.specs.{with_attempt, attempted, attempt, event, event_taken, after_first_event}
use Rattle.usb_world.specs.{after, fault_of, Left, Coming, at_event, at_packet, at_line}
use Rattle.usb_world.specs.{AttemptFails, IsCut, damage_in, AttemptsWithin, FitsMaximum, to_come}
use Rattle.usb_world.specs.{EventEnds}
use Rattle.usb_device.specs.{Ports, held_addresses, repeats}
use Rattle.usb_world.proofs.Interface.{spends_none, spends_wider, unequal}
use Rattle.usb_bus.specs.{step_lines, WritesText, Attempts, TakesEvent}
use Rattle.usb_sim.specs.{AttemptMade, OneEventCame}
use Rattle.usb_sim.proofs.Arrivals.{writes_none, writes_alone}

pub after_fault : (a : Attempt) (w : World) (f : BusFault) → w.fault ≡ Some f
    → w ≡ after (attempt a) w
unfolding after
after_fault a w f e = ap (λ o. attempted a o w) (sym e)

if_true_is : {X : Type 0} (b : Bool) (x y : X) → b ≡ true → x ≡ (if b then x else y)
if_true_is true x y h = refl
if_true_is false x y h = cc

if_false_is : {X : Type 0} (b : Bool) (x y : X) → b ≡ false → y ≡ (if b then x else y)
if_false_is false x y h = refl
if_false_is true x y h = cc

-- nothing is applied where the attempts equal the limit
pub after-limit : (a : Attempt) (w : World) → w.fault ≡ None → w.attempts ≡ w.limit
    → record w { fault = Some Limit } ≡ after (attempt a) w
unfolding after
after-limit a w sound e = if_true_is (w.attempts == w.limit)
    (record w { fault = Some Limit }) (with_attempt a (at_attempt w))
    (eq-eqb w.attempts w.limit e) ∙ ap (λ o. attempted a o w) (sym sound)

-- else the attempt is made
pub made : (a : Attempt) (w : World) → w.fault ≡ None → (w.attempts ≡ w.limit → ⊥)
    → with_attempt a (at_attempt w) ≡ after (attempt a) w
unfolding after
made a w sound e = if_false_is (w.attempts == w.limit) (record w { fault = Some Limit })
    (with_attempt a (at_attempt w)) (unequal w.attempts w.limit e)
    ∙ ap (λ o. attempted a o w) (sym sound)

pub without_fault : (w v : World) (f : Option BusFault) → w ≡ v → w.fault ≡ None → f ≡ None
    → record w { fault = f } ≡ v
without_fault w v f e sound is = ap (λ x. record w { fault = x }) (is ∙ sym sound) ∙ e

pub event_exact : (r : Result (Option (Option Ask)) BusFault) (w m : World) → w.fault ≡ None
    → OnOk r (m ≡ after_first_event w.left w) → OnOk r (m ≡ after event w)
unfolding after
event_exact (Ok o) w m sound e = e ∙ ap (λ o. event_taken o w) (sym sound)
event_exact (Err x) w m sound e = e

pub event_cut : (w m : World) → w.fault ≡ None
    → m ≡ record (after_first_event w.left w) { fault = Some Failed }
    → m ≡ record (after event w) { fault = Some Failed }
unfolding after
event_cut w m sound e = e ∙ ap (λ o. record (event_taken o w) { fault = Some Failed })
    (sym sound)

-- an event that was due could not come
pub left_at_event : {T : Type 0} (r : Result T BusFault) (a : Attempt) (w m : World) → Coming w m
    → IfErr r (λ f. Left a w f m)
left_at_event (Ok x) a w m c = tt
left_at_event (Err f) a w m c = at_event c

-- memory was refused while the host's data went
pub left_at_packet : {T : Type 0} (r : Result T BusFault) (a : Attempt) (w m v : World) (k : Ports)
    → IsErrAnd r (λ f. f ≡ Memory) → m ≡ at_attempt w → IsCut a (damage_in m) m.roots k
    → v ≡ record m { roots = k; shared = m.shared || repeats (held_addresses m.roots) }
    → IfErr r (λ f. Left a w f v)
left_at_packet (Ok x) a w m v k is e cut made = tt
left_at_packet (Err f) a w m v k is e cut made =
    let P : World → Type 0 = λ x. IsCut a (damage_in x) x.roots k in
    let left : World → World = λ x. record x {
      roots = k;
      shared = x.shared || repeats (held_addresses x.roots);
    } in
    at_packet k is (subst P e cut) (made ∙ ap left e)

-- only the line was not written
pub left_at_line : {T : Type 0} (r : Result T BusFault) (a : Attempt) (w v : World)
    → IsErrAnd r (λ f. f ≡ Failed) → v ≡ with_attempt a (at_attempt w)
    → IfErr r (λ f. Left a w f v)
left_at_line (Ok x) a w v is e = tt
left_at_line (Err f) a w v is e = at_line is e

pub fails_at : (r : Result Outcome BusFault) (a : Attempt) (w m : World) → m.fault ≡ fault_of r
    → (w.attempts ≡ w.limit → ⊥) → IfErr r (λ x. x ≢ Limit)
    → IfErr r (λ x. Left a w x (record m { fault = None })) → AttemptFails a w r m
fails_at (Ok o) a w m is below other left = tt
fails_at (Err Limit) a w m is below other left = absurd (other refl)
fails_at (Err f) a w m is below other left = record {
  below = below;
  left = record m { fault = None };
  so_far = left;
  told = ap (λ x. record m { fault = x }) is;
}

-- What an attempt is, at each of its ends

abbrev fault_result : BusFault → Result Outcome BusFault
fault_result f = Err f

at_limit_spends : (w : World) → AttemptsWithin 1 w (record w { fault = Some Limit })
at_limit_spends w = record {
  limit = refl;
  roots = refl;
  later = omega arith;
  most = omega arith;
  within = λ h. h;
  events = refl;
  onward = omega arith;
  served = omega arith;
}

same_err : (f x : BusFault) → Some f ≡ Some x → fault_result f ≡ fault_result x
same_err f x e = cc e

nothing_written : (f : BusFault) (a : Attempt) (w v : World) (t : Option (List ℕ))
    → v.taken ≡ w.taken → v.attempts ≡ w.attempts
    → WritesText (fault_result f) t t (step_lines a w v)
nothing_written f a w v t e same = writes_alone (fault_result f) a w v t t same
    (writes_none (fault_result f) w v t e)

-- a fault was told before
pub again_attempts : (a : Attempt) (w : World) (t : Option (List ℕ)) (f : BusFault)
    → Some f ≡ w.fault → (w.fault ≡ Some Limit → w.attempts ≡ w.limit)
    → Attempts a w t (Err f) w t
again_attempts a w t f told limit = record {
  counts = record {
    spends = spends_wider 0 1 w w (spends_none w) (omega arith);
    ends = record { told = sym told; at_limit = λ e. limit (sym told ∙ ap Some e) };
    fits = tt;
    again = λ x e. (same_err f x (told ∙ e), refl);
  };
  exact = tt;
  outcome = tt;
  fails = λ none. absurd (cc (told, none));
  text = nothing_written f a w w t refl refl;
}

-- the attempts equal the limit
pub limit_attempts : (a : Attempt) (w : World) (t : Option (List ℕ)) → w.fault ≡ None
    → w.attempts ≡ w.limit → Attempts a w t (Err Limit)
    (record w { fault = Some Limit }) t
limit_attempts a w t sound e = record {
  counts = record {
    spends = at_limit_spends w;
    ends = record { told = refl; at_limit = λ x. e };
    fits = tt;
    again = λ x h. absurd (cc (sound, h));
  };
  exact = tt;
  outcome = tt;
  fails = λ none. after-limit a w sound e;
  text = nothing_written Limit a w (record w { fault = Some Limit }) t refl refl;
}

abbrev unit_ok : Result ⊤ BusFault
unit_ok = Ok tt

-- it was made
pub made_attempts : (a : Attempt) (o : Outcome) (w v : World) (t s : Option (List ℕ))
    → w.fault ≡ None → (w.attempts ≡ w.limit → ⊥) → FitsMaximum a.max o
    → AttemptMade a w t unit_ok o v s → Attempts a w t (Ok o) v s
made_attempts a o w v t s sound below fits m = record {
  counts = record {
    spends = m.spends;
    ends = record { sound = sound; one = m.one; still = m.told };
    fits = fits;
    again = λ x h. absurd (cc (sound, h));
  };
  exact = m.exact ∙ made a w sound below;
  outcome = m.outcome;
  fails = λ none. tt;
  text = m.text;
}

abbrev unit_fault : BusFault → Result ⊤ BusFault
unit_fault f = Err f

told_text : (f : BusFault) (t s : Option (List ℕ)) (text : List ℕ)
    → WritesText (unit_fault f) t s text → WritesText (fault_result f) t s text
told_text Limit t s text w = w
told_text Memory t s text w = w
told_text Failed t s text w = w

-- it was given up
pub cut_attempts : (a : Attempt) (f : BusFault) (o : Outcome) (w v : World)
    (t s : Option (List ℕ)) → w.fault ≡ None → (w.attempts ≡ w.limit → ⊥)
    → AttemptMade a w t (unit_fault f) o v s → Attempts a w t (Err f) v s
cut_attempts a f o w v t s sound below m = record {
  counts = record {
    spends = m.spends;
    ends = record { told = m.told; at_limit = λ e. absurd (m.other e) };
    fits = tt;
    again = λ x h. absurd (cc (sound, h));
  };
  exact = tt;
  outcome = tt;
  fails = λ none. fails_at (fault_result f) a w v m.told below m.other m.left;
  text = told_text f t s _ m.text;
}

-- What an event is, at each of its ends

abbrev due_result : BusFault → Result (Option (Option Ask)) BusFault
due_result f = Err f

fault_untaken : (f x : BusFault) → Some f ≡ Some x → due_result f ≡ due_result x
fault_untaken f x e = cc e

pub again_takes : (w : World) (t : Option (List ℕ)) (f : BusFault) → Some f ≡ w.fault
    → (w.fault ≡ Some Limit → w.attempts ≡ w.limit) → TakesEvent w t (Err f) w t
again_takes w t f told limit = record {
  took = record {
    spends = spends_none w;
    ends = record { told = sym told; at_limit = λ e. limit (sym told ∙ ap Some e) };
    again = λ x e. (fault_untaken f x (told ∙ e), refl);
  };
  asked = tt;
  exact = tt;
  kept = λ e none. absurd (cc (told, none));
  cut = λ e none. absurd (cc (told, none));
  limit = λ e. ap is_some (sym told);
  text = writes_none (due_result f) w w t refl;
}

event_ends : (r : Result (Option (Option Ask)) BusFault) (w v : World) → w.fault ≡ None
    → v.fault ≡ fault_of r → (r ≡ Ok None → (to_come w ≡ 0) × (v ≡ w))
    → IfOk r (λ due. IsSome due → v.taken ≡ w.taken + 1) → IfErr r (λ x. x ≢ Limit)
    → EventEnds w r v
event_ends (Ok None) w v sound told none one other = record {
  sound = sound;
  none = (none refl).0;
  same = (none refl).1;
}
event_ends (Ok (Some due)) w v sound told none one other =
    record { sound = sound; one = one refl; still = told }
event_ends (Err f) w v sound told none one other =
    record { told = told; at_limit = λ e. absurd (other e) }

-- the limit is told of no event, and of no attempt below it
pub never_limit : {A : Type 0} (r : Result A BusFault) {P : Type 0}
    → IfErr r (λ x. x ≢ Limit) → r ≡ Err Limit → P
never_limit (Err Limit) other e = absurd (other refl)
never_limit _ other e = cc e

pub taken_takes : (r : Result (Option (Option Ask)) BusFault) (w v : World) (t s : Option (List ℕ))
    → w.fault ≡ None → OneEventCame w t r v s → TakesEvent w t r v s
taken_takes r w v t s sound came = record {
  took = record {
    spends = came.spends;
    ends = event_ends r w v sound came.told came.none came.one came.other;
    again = λ x h. absurd (cc (sound, h));
  };
  asked = came.asked;
  exact = event_exact r w v sound came.exact;
  kept = λ e _. came.kept e;
  cut = λ e sound. event_cut w v sound (came.cut e);
  limit = λ e. never_limit r came.other e;
  text = came.text;
}
