-- SET_ADDRESS: the one device at the target's address takes the new one, or none does, whatever is
-- lost.
use Rattle.std.proofs.Common.{◌≡◌, ℕ, zero, suc, ◌⊎◌, inl, inr, Bool, true, false, List, [], ◌∷◌}
use Rattle.std.proofs.Common.{Option, None, Some, option_map, if◌then◌else◌, Result, Err, refl, ap}
use Rattle.std.proofs.Common.{sym, subst, ◌∙◌}
use Rattle.std.proofs.lemmas.Option.{same_Some}
use Rattle.usb_device.specs.{State, ends_with_address, Stage, ending, state_at, Location, path_to}
use Rattle.usb_device.specs.{reach_on, state_on}
use Rattle.usb_world.specs.{Attempt, BusFault, Outcome, World, Made, at_attempt, damage_in, attempt}
use Rattle.usb_world.specs.{after, HoldsMapped, IsIn, IsMade, HolderIn, is_setup, NoneTakes}
use Rattle.usb_world.specs.{after_taking, ends_status, address_of, same_path, deep_at, NobodyHolds}
use Rattle.usb_world.proofs.Interface.{data_own, holder_or_nobody, made_of, ready_own, seen, stands}
use Rattle.usb_world.proofs.Interface.{state_stands, taken_distinct, unseen, decided, false_true}
use Rattle.usb_world.proofs.Interface.{same_equal, self_path}
use Rattle.usb_transfer.specs.{TransFault, Bus, AttemptLog, start, next, BusFailed, Transacted}
use Rattle.usb_hub.specs.Aims.{Aims}
use Rattle.usb_hub.specs.{AllAim, Never, LeavesTrans, MapHolds}
use Rattle.usb_hub.proofs.Steps.{aim_ready, in_aims, data_owned, settled_attempt, unshared_after}
use Rattle.usb_hub.proofs.Trails.{cut_off_unshared}

ends_some : (g : Stage) → ends_with_address g ≡ true → (c : ℕ) × (g ≡ ending (Some c))
ends_some (ending (Some c)) h = (c, refl)
ends_some g h = false_true h

module _ (f : List ℕ → Option ℕ) (p : List ℕ) (b : ℕ) (a : Attempt) (is : IsIn a) (at : (q : List ℕ)
    → f q ≡ Some a.addr → q ≡ p) (free : (q r : List ℕ) → f q ≡ Some b → f r ≡ Some a.addr
    → ⊥) (differ : a.addr ≡ b → ⊥) where
  abbrev n : ℕ
  n = a.addr

  abbrev pub Target : ℕ → Type 0
  Target c = c ≡ b

  abbrev pub taken : List ℕ → Option ℕ
  taken = after_taking f p b

  abbrev pub Taking : World → Type 0
  Taking w = (MapHolds f w × AllAim Target n w) ⊎ (MapHolds taken w × AllAim Never n w)

  -- a reachable device at the address is the one at the path
  is_there : (w : World) → HoldsMapped f w → (i : Location) (s : State) → reach_on w.roots i ≡ true
      → state_on w.roots i ≡ Some s → address_of s ≡ n → path_to i ≡ p
  is_there w own i s on there x =
      at (path_to i) (sym (own (path_to i) on) ∙ ap (option_map address_of) there
      ∙ ap (λ y. Some y) x)

  kept : (w : World) → Made w (after (attempt a) w) → IsMade a w → MapHolds f w → AllAim Target n w
      → HoldsMapped f (after (attempt a) w) → Taking (after (attempt a) w)
  kept w made m o h own =
      inl (
        record {
          distinct = o.distinct;
          own = own;
          single = unshared_after f a w o;
          settled = settled_attempt a w o.settled;
        },
        in_aims Target a w m is (unshared_after f a w o) h,
      )

  -- once it is taken nobody is left at the old address
  none_left : (w : World) → HoldsMapped taken w → AllAim Never n w
  none_left w own i s on there x = elim (found (same_path p (path_to i)) refl) [ ]
    where
      holds : taken (path_to i) ≡ Some n
      holds = sym (own (path_to i) on) ∙ ap (option_map address_of) there ∙ ap (λ y. Some y) x

      found : (y : Bool) → same_path p (path_to i) ≡ y → ⊥
      found true d = differ (sym (same_Some b n
          (sym (ap (λ z. if z then Some b else f (path_to i)) d) ∙ holds)))
      found false d = false_true (sym d ∙ ap (same_path p) (at (path_to i)
          (sym (ap (λ z. if z then Some b else f (path_to i)) d) ∙ holds)) ∙ self_path p)

  took : (w : World) (r : List ℕ) → f r ≡ Some n → Made w (after (attempt a) w) → MapHolds f w
      → HoldsMapped taken (after (attempt a) w) → Taking (after (attempt a) w)
  took w r e made o own =
      inr (
        record {
          distinct = taken_distinct f p b o.distinct (λ q h. elim (free q r h e) [ ]);
          own = own;
          single = unshared_after f a w o;
          settled = settled_attempt a w o.settled;
        },
        none_left (after (attempt a) w) own,
      )

  moved_own : (w : World) → MapHolds f w → NoneTakes n (at_attempt w).roots
      → HoldsMapped f (after (attempt a) w)
  moved_own w o h = data_own f a w (ap is_setup is.kind) h o.settled o.own

  step_left : (w : World) → Made w (after (attempt a) w) → MapHolds f w → AllAim Target n w
      → Taking (after (attempt a) w)
  step_left w made o h = pick (holder_or_nobody a w m (unshared_after f a w o))
    where
      m : IsMade a w
      m = made_of a w o.settled made

      held : HolderIn a w → Taking (after (attempt a) w)
      held x = stage (decided (ends_with_address x.own.stage))
        where
          there : state_on (at_attempt w).roots x.spot ≡ Some x.own
          there = sym (state_stands (at_attempt w).roots x.spot.row x.spot.rest)
              ∙ ap stands x.stands

          path : path_to x.spot ≡ p
          path = is_there (at_attempt w) (ready_own f w o.own) x.spot x.own x.on there x.at

          only : (i : Location) (t : State) → reach_on (at_attempt w).roots i ≡ true
              → state_on (at_attempt w).roots i ≡ Some t → address_of t ≡ n → t ≡ x.own
          only i t on stood y = same_Some t x.own (sym stood
              ∙ moved (path ∙ sym (is_there (at_attempt w) (ready_own f w o.own) i t on stood y))
              ∙ there)
            where
              moved : path_to x.spot ≡ path_to i → state_on (at_attempt w).roots i
                  ≡ state_on (at_attempt w).roots x.spot
              moved z = ap (λ q. elim q as (λ _. Option State) [
                | [] ↦ None
                | k ∷ r ↦ elim k
                    as (λ _. Option State) [
                      | zero ↦ None
                      | suc u ↦ state_at (at_attempt w).roots u r
                    ]
              ]) (sym z)

          calm : ends_with_address x.own.stage ≡ false → Taking (after (attempt a) w)
          calm c = kept w made m o h (moved_own w o
              (λ i e t on stood y. ap (λ z. ends_with_address z.stage)
              (only (record { row = i; rest = e }) t on stood y) ∙ c))

          aimed : (c : ℕ) → x.own.stage ≡ ending (Some c) → Taking (after (attempt a) w)
          aimed c e = end (decided (ends_status a (damage_in (at_attempt w)) (at_attempt w).roots
              (deep_at false x.spot.rest) x.own))
            where
              goal : c ≡ b
              goal = subst (Aims Target) e (aim_ready Target n w h x.spot x.own x.on there x.at)

              end : (ends_status a (damage_in (at_attempt w)) (at_attempt w).roots
                  (deep_at false x.spot.rest) x.own ≡ true)
                  ⊎ (ends_status a (damage_in (at_attempt w)) (at_attempt w).roots
                  (deep_at false x.spot.rest) x.own ≡ false) → Taking (after (attempt a) w)
              end (inl y) = took w (path_to x.spot) (sym (ready_own f w o.own (path_to x.spot) x.on)
                  ∙ ap (option_map address_of) there ∙ ap (λ y. Some y) x.at) made o
                  (subst (λ z. HoldsMapped (after_taking f p z) (after (attempt a) w)) goal
                  (subst (λ z. HoldsMapped (after_taking f z c) (after (attempt a) w)) path
                  (seen a w x is c e f o.own y)))
              end (inr y) = kept w made m o h (unseen a w x is c e f o.own y)

          stage : (ends_with_address x.own.stage ≡ true) ⊎ (ends_with_address x.own.stage ≡ false)
              → Taking (after (attempt a) w)
          stage (inl y) = let z : (c : ℕ) × (x.own.stage ≡ ending (Some c)) =
              ends_some x.own.stage y in aimed z.0 z.1
          stage (inr y) = calm y

      nobody : NobodyHolds n (at_attempt w).roots → HoldsMapped f (after (attempt a) w)
      nobody x = moved_own w o (λ i e t on stood y. false_true (sym (x i e t stood on)
          ∙ same_equal n (address_of t) (sym y)))

      pick : HolderIn a w ⊎ NobodyHolds n (at_attempt w).roots → Taking (after (attempt a) w)
      pick (inl x) = held x
      pick (inr x) = kept w made m o h (nobody x)

  step_on : (w : World) → Made w (after (attempt a) w) → Taking w → Taking (after (attempt a) w)
  step_on w made (inl x) = step_left w made x.0 x.1
  step_on w made (inr x) = inr (
    data_owned taken a w (ap is_setup is.kind) x.0 x.1,
    in_aims Never a w (made_of a w x.0.settled made) is (unshared_after taken a w x.0) x.1,
  )

  trail_on : {old new : World} {outcomes : List Outcome} → AttemptLog a old outcomes new
      → Taking old → Taking new
  trail_on start x = x
  trail_on (next w t made) x = step_on w made (trail_on t x)

  cut : (hear : _) (old : World) (fault : BusFault) (new : World) → BusFailed hear a old fault new
      → Taking old → new.shared ≡ false
  cut hear old fault new c x = split (trail_on c.trail x)
    where
      split : Taking c.mid → new.shared ≡ false
      split (inl y) = cut_off_unshared f a hear old fault new c y.0
      split (inr y) = cut_off_unshared taken a hear old fault new c y.0

  pub taking_transacted : (hear : _) (old : World) (answer : Result (List ℕ) TransFault)
      (new : World) → Transacted hear a old answer new → Taking old → LeavesTrans Taking answer new
  taking_transacted hear old (Err (Bus fault)) new c x = cut hear old fault new c x
  taking_transacted hear old answer new e x = trail_on e.trail x
