-- What one more deed of the host changes in places that are sought.
use Rattle.std.proofs.Common.{◌≡◌, ◌≤◌, ◌+◌, ◌⊎◌, inl, inr, ℕ, Bool, true, false, ◌&&◌, List, []}
use Rattle.std.proofs.Common.{◌∷◌, map, Option}
use Rattle.std.proofs.Common.{None, Some, is_none, is_some, if◌then◌else◌, refl, arith, cond, sym}
use Rattle.std.proofs.Common.{ap, ◌∙◌}
use Rattle.std.specs.Prelude.{⊤}
use Rattle.std.proofs.lemmas.List.Sums.{sum_by-cons}
use Rattle.usb_places.specs.declared.seen.Seen.{Seen}
use Rattle.usb_places.specs.declared.sought.Sought.{Sought}
use Rattle.usb_places.specs.declared.sought.Whose.{Whose}
use Rattle.usb_places.specs.declared.transfer.Transfer.{Transfer}
use Rattle.usb_places.specs.{after_of, damage_found, damages_known, events_known, found_in}
use Rattle.usb_places.specs.{number_at}
use Rattle.usb_places.specs.{inserted_some, seen_by, stands}
use Rattle.usb_world.specs.{Damage, Event}

-- a place is found as before, or it is found there
pub record IsSeen (x : Seen) (s t : Sought) : Type 0 where
  pub whose : t.whose ≡ s.whose
  pub found : (t.found ≡ s.found)
      ⊎ ((s.found ≡ None) × (t.found ≡ Some (number_at s.whose x)))

-- so it is of each
abbrev pub AreSeen : Seen → List Sought → List Sought → Type 0
AreSeen x [] [] = ⊤
AreSeen x (s ∷ ss) (t ∷ ts) = IsSeen x s t × AreSeen x ss ts
AreSeen x [] (t ∷ ts) = ⊥
AreSeen x (s ∷ ss) [] = ⊥

found_or : (o : Option ℕ) (b : Bool) (n : ℕ)
    → ((if is_none o && b then Some n else o) ≡ o)
    ⊎ ((o ≡ None) × ((if is_none o && b then Some n else o) ≡ Some n))
found_or (Some m) b n = inl refl
found_or None true n = inr (refl, refl)
found_or None false n = inl refl

seen_one : (t : Option Transfer) (x : Seen) (s : Sought) → IsSeen x s (seen_by t x s)
unfolding seen_by
seen_one t x s = record { whose = refl; found = found_or s.found _ (number_at s.whose x) }

pub seen_all : (t : Option Transfer) (x : Seen) (ss : List Sought)
    → AreSeen x ss (map (seen_by t x) ss)
seen_all t x [] = tt
seen_all t x (s ∷ ss) = (seen_one t x s, seen_all t x ss)

-- each is found as before
abbrev pub AreAlike : List Sought → List Sought → Type 0
AreAlike [] [] = ⊤
AreAlike (s ∷ ss) (t ∷ ts) = ((t.whose ≡ s.whose) × (t.found ≡ s.found)) × AreAlike ss ts
AreAlike [] (t ∷ ts) = ⊥
AreAlike (s ∷ ss) [] = ⊥

found_cons : (s : Sought) (ss : List Sought)
    → found_in (s ∷ ss) ≡ cond (is_some s.found) 1 0 + found_in ss
found_cons s ss = sum_by-cons (λ (y : Sought). cond (is_some y.found) 1 0) s ss

-- what is found stays found, and where no place is, none more is found

pub found_as_before : (o : Option ℕ) (b : Bool) (n : ℕ) → b ≡ false
    → (if is_none o && b then Some n else o) ≡ o
found_as_before (Some m) b n e = refl
found_as_before None true n e = absurd (cc)
found_as_before None false n e = refl

pub count_as_before : (t : Option Transfer) (x : Seen) (ss : List Sought)
    → ((w : Whose) (reached : Bool) → stands w reached x ≡ false)
    → found_in (map (seen_by t x) ss) ≡ found_in ss
unfolding seen_by
count_as_before t x [] none = refl
count_as_before t x (s ∷ ss) none =
    let same : (seen_by t x s).found ≡ s.found = found_as_before s.found _ _ (none s.whose _) in
    found_cons (seen_by t x s) (map (seen_by t x) ss)
    ∙ ap (λ o. cond (is_some o) 1 0 + found_in (map (seen_by t x) ss)) same
    ∙ ap (λ n. cond (is_some s.found) 1 0 + n) (count_as_before t x ss none)
    ∙ sym (found_cons s ss)

no_fewer : (x : Seen) (ss ts : List Sought) → AreSeen x ss ts → found_in ss ≤ found_in ts
no_fewer x [] [] are = omega arith
no_fewer x [] (t ∷ ts) are = absurd are
no_fewer x (s ∷ ss) [] are = absurd are
no_fewer x (s ∷ ss) (t ∷ ts) are =
    omega (arith, found_cons s ss, found_cons t ts, split are.0.found (no_fewer x ss ts are.1))
  where
    split : (t.found ≡ s.found) ⊎ ((s.found ≡ None) × (t.found ≡ Some (number_at s.whose x)))
        → found_in ss ≤ found_in ts
        → cond (is_some s.found) 1 0 + found_in ss ≤ cond (is_some t.found) 1 0 + found_in ts
    split (inl e) more = rw e (omega (arith, more))
    split (inr e) more = rw (e.0, e.1) (omega (arith, more))

-- where no more are found, each is found as before
pub none_more : (x : Seen) (ss ts : List Sought) → AreSeen x ss ts → found_in ts ≤ found_in ss
    → AreAlike ss ts
none_more x [] [] are le = tt
none_more x [] (t ∷ ts) are le = absurd are
none_more x (s ∷ ss) [] are le = absurd are
none_more x (s ∷ ss) (t ∷ ts) are le =
    split are.0.found (no_fewer x ss ts are.1) (none_more x ss ts are.1)
    (omega (arith, found_cons s ss, found_cons t ts, le))
  where
    split : (t.found ≡ s.found) ⊎ ((s.found ≡ None) × (t.found ≡ Some (number_at s.whose x)))
        → found_in ss ≤ found_in ts → (found_in ts ≤ found_in ss → AreAlike ss ts)
        → cond (is_some t.found) 1 0 + found_in ts ≤ cond (is_some s.found) 1 0 + found_in ss
        → AreAlike (s ∷ ss) (t ∷ ts)
    split (inl e) more rest le =
        let h : cond (is_some s.found) 1 0 + found_in ts ≤ cond (is_some s.found) 1 0 + found_in ss
        = rw e at le in
        ((are.0.whose, e), rest (omega (arith, h)))
    split (inr e) more rest le =
        let h : 1 + found_in ts ≤ 0 + found_in ss = rw (e.0, e.1) at le in
        absurd (omega (arith, h, more))

-- then the plan is known as before

alike_after : (ss ts : List Sought) (before own : ℕ) → AreAlike ss ts
    → after_of ts before own ≡ after_of ss before own
unfolding after_of
alike_after [] [] before own are = refl
alike_after (s ∷ ss) (t ∷ ts) before own are =
    rw (are.0.0, are.0.1, alike_after ss ts before own are.1) refl
alike_after [] (t ∷ ts) before own are = absurd are
alike_after (s ∷ ss) [] before own are = absurd are

-- the event where it is known, and then the others
abbrev pub then_known : Event → Option ℕ → List Event → List Event
then_known e o rest = elim o [ None ↦ [] | Some n ↦ record e { after = n } ∷ rest ]

same_known : (e : Event) (o u : Option ℕ) (xs ys : List Event) → o ≡ u → xs ≡ ys
    → then_known e o xs ≡ then_known e u ys
same_known e o u xs ys h k = ap (λ v. then_known e v xs) h ∙ ap (then_known e u) k

-- places that say the same of each event give the same events
pub same_events : (ss ts : List Sought) (before : ℕ) (events : List Event)
    → ((k own : ℕ) → after_of ts k own ≡ after_of ss k own)
    → events_known ts before events ≡ events_known ss before events
unfolding events_known
same_events ss ts before [] same = refl
same_events ss ts before (e ∷ events) same =
    same_known e (after_of ts before e.after) (after_of ss before e.after) _ _
    (same before e.after) (same_events ss ts (before + 1) events same)

pub alike_events : (ss ts : List Sought) (before : ℕ) (events : List Event) → AreAlike ss ts
    → events_known ts before events ≡ events_known ss before events
alike_events ss ts before events are =
    same_events ss ts before events (λ k own. alike_after ss ts k own are)

pub alike_damages : (ss ts : List Sought) (damages : List Damage) → AreAlike ss ts
    → damages_known damages ts ≡ damages_known damages ss
unfolding damages_known
alike_damages [] [] damages are = refl
alike_damages (s ∷ ss) (t ∷ ts) damages are =
    rw (are.0.0, are.0.1) (alike_damages ss ts (inserted_some (damage_found s) damages) are.1)
alike_damages [] (t ∷ ts) damages are = absurd are
alike_damages (s ∷ ss) [] damages are = absurd are
