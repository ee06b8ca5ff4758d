-- The events that are known stay, and the next one that is found is due at once.
use Rattle.std.proofs.Common.{◌≡◌, ◌≤◌, ◌+◌, ◌-◌, ◌⊎◌, inl, inr, ℕ, zero, suc, Bool, true, false}
use Rattle.std.proofs.Common.{List}
use Rattle.std.proofs.Common.{[], ◌∷◌, Option, None, Some, if◌then◌else◌, take, drop, length, refl}
use Rattle.std.proofs.Common.{arith}
use Rattle.std.proofs.Common.{ap, ◌∙◌}
use Rattle.usb_places.specs.declared.seen.Seen.{Seen}
use Rattle.usb_places.specs.declared.sought.Sought.{Sought}
use Rattle.usb_places.specs.declared.sought.Whose.{Whose}
use Rattle.usb_places.specs.declared.sought.Whose.TheVariants as whose
use Rattle.usb_places.specs.{after_of, events_known, is_event, number_at}
use Rattle.usb_world.specs.{Event, World}
use Rattle.usb_bench_laws.specs.{IsToCome}
use Rattle.usb_bench_laws.proofs.Seen.{AreSeen, IsSeen, then_known}

-- known as before, or not known before and now known to come there
abbrev OrThere : Seen → Option ℕ → Option ℕ → Type 0
OrThere x old new = (new ≡ old) ⊎ ((old ≡ None) × (new ≡ Some x.since))

since_there : (w : Whose) (before : ℕ) (x : Seen) → is_event w before ≡ true
    → number_at w x ≡ x.since
unfolding number_at
since_there (whose.Event k) before x e = refl
since_there (whose.Damage d) before x e = absurd (cc)

one_there : (x : Seen) (before : ℕ) (s t : Sought) (old new : Option ℕ) (b : Bool)
    → is_event s.whose before ≡ b → IsSeen x s t → OrThere x old new
    → OrThere x (if b then s.found else old) (if b then t.found else new)
one_there x before s t old new false e is more = more
one_there x before s t old new true e is more = split is.found
  where
    split : (t.found ≡ s.found) ⊎ ((s.found ≡ None) × (t.found ≡ Some (number_at s.whose x)))
        → OrThere x s.found t.found
    split (inl h) = inl h
    split (inr h) = inr (h.0, h.1 ∙ ap Some (since_there s.whose before x e))

after_there : (x : Seen) (ss ts : List Sought) (before own : ℕ) → AreSeen x ss ts
    → OrThere x (after_of ss before own) (after_of ts before own)
unfolding after_of
after_there x [] [] before own are = inl refl
after_there x (s ∷ ss) (t ∷ ts) before own are =
    rw are.0.whose (one_there x before s t (after_of ss before own) (after_of ts before own)
    (is_event s.whose before) refl are.0 (after_there x ss ts before own are.1))
after_there x [] (t ∷ ts) before own are = absurd are
after_there x (s ∷ ss) [] before own are = absurd are

-- the first list is the beginning of the second
same_front : (x : Seen) (e : Event) (o u : Option ℕ) (xs ys : List Event) → OrThere x o u
    → ((k : ℕ) → k ≤ length xs → take k xs ≡ take k ys) → (k : ℕ)
    → k ≤ length (then_known e o xs) → take k (then_known e o xs) ≡ take k (then_known e u ys)
same_front x e o u xs ys there same zero le = refl
same_front x e None u xs ys there same (suc k) le = absurd (omega (arith, le))
same_front x e (Some n) u xs ys (inl h) same (suc k) le =
    rw h (ap (λ l. record e { after = n } ∷ l) (same k (omega (arith, le))))
same_front x e (Some n) u xs ys (inr h) same (suc k) le = absurd (cc (h.0))

pub events_stay : (x : Seen) (ss ts : List Sought) (before : ℕ) (events : List Event)
    → AreSeen x ss ts → (k : ℕ) → k ≤ length (events_known ss before events)
    → take k (events_known ss before events) ≡ take k (events_known ts before events)
unfolding events_known
events_stay x ss ts before [] are k le = refl
events_stay x ss ts before (e ∷ events) are k le =
    same_front x e (after_of ss before e.after) (after_of ts before e.after) _ _
    (after_there x ss ts before e.after are) (events_stay x ss ts (before + 1) events are) k le

-- the first of what is left could not have come by itself
next_front : (x : Seen) (w : World) → x.since ≡ w.attempts - w.attempts_then → (e : Event)
    → (o u : Option ℕ) (xs ys : List Event) → OrThere x o u
    → ((k : ℕ) → k ≤ length xs → IsToCome (drop k xs) w → IsToCome (drop k ys) w) → (k : ℕ)
    → k ≤ length (then_known e o xs) → IsToCome (drop k (then_known e o xs)) w
    → IsToCome (drop k (then_known e u ys)) w
next_front x w here e None u xs ys (inl h) same zero le is = rw h tt
next_front x w here e None u xs ys (inr h) same zero le is = rw h.1 (λ _. omega (arith, here))
next_front x w here e (Some n) u xs ys (inl h) same zero le is = rw h is
next_front x w here e (Some n) u xs ys (inr h) same zero le is = absurd (cc (h.0))
next_front x w here e None u xs ys there same (suc k) le is = absurd (omega (arith, le))
next_front x w here e (Some n) u xs ys (inl h) same (suc k) le is =
    rw h (same k (omega (arith, le)) is)
next_front x w here e (Some n) u xs ys (inr h) same (suc k) le is = absurd (cc (h.0))

none_next : (k : ℕ) (w : World) → IsToCome (drop k []) w
none_next zero w = tt
none_next (suc k) w = tt

pub next_to_come : (x : Seen) (w : World) → x.since ≡ w.attempts - w.attempts_then
    → (ss ts : List Sought) (before : ℕ) (events : List Event) → AreSeen x ss ts → (k : ℕ)
    → k ≤ length (events_known ss before events)
    → IsToCome (drop k (events_known ss before events)) w
    → IsToCome (drop k (events_known ts before events)) w
unfolding events_known
next_to_come x w here ss ts before [] are k le is = none_next k w
next_to_come x w here ss ts before (e ∷ events) are k le is =
    next_front x w here e (after_of ss before e.after) (after_of ts before e.after) _ _
    (after_there x ss ts before e.after are)
    (next_to_come x w here ss ts (before + 1) events are) k le is
