-- PORT_RESET of a hub's port: the device there has address 0, or everything is as it was, whatever
-- is lost.
use Rattle.std.proofs.Common.{◌≡◌, ℕ, zero, ◌⊎◌, inl, inr, Bool, true, false, List, [], ◌∷◌, ◌++◌}
use Rattle.std.proofs.Common.{Option, None, Some, option_map, if◌then◌else◌, Result, Ok, Err, refl}
use Rattle.std.proofs.Common.{ap, sym, subst, ◌∙◌}
use Rattle.std.proofs.lemmas.Option.{same_Some}
use Rattle.usb_packet.specs.{One}
use Rattle.usb_request.specs.{SET_ADDRESS, DEVICE_OUT, setup_of, bytes_of, Setup}
use Rattle.usb_device.specs.{outcome, Is, State, full, reach, Location, path_to, reach_on, state_on}
use Rattle.usb_device.specs.{place_on, Place}
use Rattle.usb_world.specs.{Attempt, BusFault, Outcome, World, Made, at_attempt, attempt, after}
use Rattle.usb_world.specs.{outcome_in, HoldsMapped, resets, address_at, IsSetup, IsMade, HolderIn}
use Rattle.usb_world.specs.{after_reset, address_of, same_path, same_number, is_way, NobodyHolds}
use Rattle.usb_world.specs.{IsNew}
use Rattle.usb_world.specs.declared.types.Outcome.TheVariants.{Ack}
use Rattle.usb_world.proofs.Interface.{holder_or_nobody, hub_reset, hub_rest, made_of, nobody_in}
use Rattle.usb_world.proofs.Interface.{ready_own, reset_distinct, stands, state_stands, step_new}
use Rattle.usb_world.proofs.Interface.{and_of, both, decided, false_true}
use Rattle.usb_transfer.specs.{Target, TransFault, Bus, set_up_as, setup_attempt, AttemptLog, start}
use Rattle.usb_transfer.specs.{next, BusFailed, PipeFault, SetUp, Asks, Writes}
use Rattle.usb_hub.specs.Aims.{Aims}
use Rattle.usb_hub.specs.{AllAim, TakesOnly, Never, LeavesTrans, LeavesPipe, MapHolds}
use Rattle.usb_hub.proofs.AddressRequests.{outcome_only}
use Rattle.usb_hub.proofs.Steps.{set_up_aims, settled_attempt, unshared_after}
use Rattle.usb_hub.proofs.Trails.{cut_off_unshared, setup_acked}
use Rattle.usb_hub.proofs.Transfers.{asks_leaves, Calm, FaultLeaves, of_fault}

-- Paths

pub is_way-same_path : (p x : List ℕ) → same_path p x ≡ true → is_way p x ≡ true
unfolding is_way
is_way-same_path [] x h = refl
is_way-same_path (m ∷ p) [] h = false_true h
is_way-same_path (m ∷ p) (k ∷ x) h = let z : _ = both (same_number m k) (same_path p x) h in
    and_of (same_number m k) (is_way p x) z.0 (is_way-same_path p x z.1)

new_place_address : (o : Option Place) → IsNew o → (v : State) → stands o ≡ Some v
    → address_of v ≡ 0
new_place_address (Some (full b s a)) h v e = ap address_of (sym (same_Some s v e)) ∙ h.0
new_place_address o h v e = elim h [ ]

pub owned_as : (f g : List ℕ → Option ℕ) (w : World) → ((x : List ℕ) → f x ≡ g x) → MapHolds f w
    → MapHolds g w
owned_as f g w c o = record {
  distinct = λ x y a h k. o.distinct x y a (c x ∙ h) (c y ∙ k);
  own = λ x on. o.own x on ∙ c x;
  single = o.single;
  settled = o.settled;
}

module _ (q : List ℕ) (n : ℕ) (t : Target) (request : Setup) (same : setup_of (bytes_of request)
    ≡ request) (names : request.index ≡ n) (some : t.addr ≡ 0 → ⊥) where
  abbrev p : List ℕ
  p = q ++ (n ∷ [])

  abbrev a : Attempt
  a = setup_attempt t (bytes_of request)

  is : IsSetup a (bytes_of request)
  unfolding bytes_of
  is = record { kind = refl; ep = refl; payload = refl; whole = refl }

  -- at each attempt: only the hub has the target's address, and only what is at the port or below
  -- it may have address 0
  pub record Fits (h : List ℕ → Option ℕ) : Type 0 where
    pub at : (x : List ℕ) → h x ≡ Some t.addr → x ≡ q
    pub only : (x : List ℕ) → h x ≡ Some 0 → is_way p x ≡ true

  reset_of : (h : List ℕ → Option ℕ) (x : List ℕ) (m : ℕ) → after_reset h p x ≡ Some m
      → ((is_way p x ≡ true) × (m ≡ 0)) ⊎ (h x ≡ Some m)
  reset_of h x m e = split (same_path p x) (is_way p x) refl refl e
    where
      split : (y z : Bool) → same_path p x ≡ y → is_way p x ≡ z
          → (if y then Some 0 else if z then None else h x) ≡ Some m
          → ((is_way p x ≡ true) × (m ≡ 0)) ⊎ (h x ≡ Some m)
      split true z s w e = inl (is_way-same_path p x s, cc)
      split false true s w e = cc
      split false false s w e = inr e

  fits_reset : (h : List ℕ → Option ℕ) → Fits h → Fits (after_reset h p)
  fits_reset h y = record {
    at = λ x e. at x (reset_of h x t.addr e);
    only = λ x e. only x (reset_of h x 0 e);
  }
    where
      at : (x : List ℕ) → ((is_way p x ≡ true) × (t.addr ≡ 0)) ⊎ (h x ≡ Some t.addr) → x ≡ q
      at x (inl z) = elim (some z.1) [ ]
      at x (inr z) = y.at x z

      only : (x : List ℕ) → ((is_way p x ≡ true) × (zero ≡ zero)) ⊎ (h x ≡ Some zero)
          → is_way p x ≡ true
      only x (inl z) = z.0
      only x (inr z) = y.only x z

  twice : (h : List ℕ → Option ℕ) (x : List ℕ) → after_reset (after_reset h p) p x
      ≡ after_reset h p x
  twice h x = split (same_path p x) (is_way p x)
    where
      split : (y z : Bool) → (if y then Some 0 else if z then None
          else (if y then Some 0 else if z then None else h x))
          ≡ (if y then Some 0 else if z then None else h x)
      split false true = refl
      split y z = refl

  Step : (List ℕ → Option ℕ) → World → Type 0
  Step h w = MapHolds h w ⊎ MapHolds (after_reset h p) w

  one_step : (h : List ℕ → Option ℕ) → Fits h → (w : World) → Made w (after (attempt a) w)
      → MapHolds h w → Step h (after (attempt a) w)
  unfolding Step
  one_step h y w made o = pick (holder_or_nobody a w m u)
    where
      m : IsMade a w
      m = made_of a w o.settled made

      u : (after (attempt a) w).shared ≡ false
      u = unshared_after h a w o

      stays : HoldsMapped h (after (attempt a) w) → Step h (after (attempt a) w)
      stays own = inl (record {
        distinct = o.distinct;
        own = own;
        single = u;
        settled = settled_attempt a w o.settled;
      })

      moves : HoldsMapped (after_reset h p) (after (attempt a) w) → Step h (after (attempt a) w)
      moves own = inr (record {
        distinct = reset_distinct h p o.distinct y.only;
        own = own;
        single = u;
        settled = settled_attempt a w o.settled;
      })

      nobody : NobodyHolds a.addr (at_attempt w).roots → HoldsMapped h (after (attempt a) w)
      nobody x path on = ap (λ k. address_at k path) (nobody_in a w m x).1
          ∙ ready_own h w o.own path (ap (λ k. reach k path) (sym (nobody_in a w m x).1) ∙ on)

      held : HolderIn a w → Step h (after (attempt a) w)
      held x = reset_or (decided (resets (attempt a) w (path_to x.spot ++ (n ∷ []))))
        where
          there : state_on (at_attempt w).roots x.spot ≡ Some x.own
          there = sym (state_stands (at_attempt w).roots x.spot.row x.spot.rest)
              ∙ ap stands x.stands

          path : path_to x.spot ≡ q
          path = y.at (path_to x.spot) (sym (ready_own h w o.own (path_to x.spot) x.on)
              ∙ ap (option_map address_of) there ∙ ap (λ z. Some z) x.at)

          reset_or : (resets (attempt a) w (path_to x.spot ++ (n ∷ [])) ≡ true)
              ⊎ (resets (attempt a) w (path_to x.spot ++ (n ∷ [])) ≡ false)
              → Step h (after (attempt a) w)
          reset_or (inl z) = moves (subst (λ r. HoldsMapped (after_reset h (r ++ (n ∷ [])))
              (after (attempt a) w)) path (hub_reset a w x (bytes_of request) is n
              (ap (λ r. r.index) same ∙ names) h z o.own))
          reset_or (inr z) = stays (hub_rest a w x (bytes_of request) is n (ap (λ r. r.index) same
              ∙ names) h z o.own)

      pick : HolderIn a w ⊎ NobodyHolds a.addr (at_attempt w).roots → Step h (after (attempt a) w)
      pick (inl x) = held x
      pick (inr x) = stays (nobody x)

  module _ (f : List ℕ → Option ℕ) (fits : Fits f) (other : Is request DEVICE_OUT SET_ADDRESS
      ≡ false) where
    abbrev r : List ℕ → Option ℕ
    r = after_reset f p

    abbrev pub Resets : World → Type 0
    Resets w = MapHolds f w ⊎ MapHolds r w

    pub step_on : (w : World) → Made w (after (attempt a) w) → Resets w
        → Resets (after (attempt a) w)
    unfolding Step
    step_on w made (inl o) = one_step f fits w made o
    step_on w made (inr o) = again (one_step r (fits_reset f fits) w made o)
      where
        again : MapHolds r (after (attempt a) w) ⊎ MapHolds (after_reset r p) (after (attempt a) w)
            → Resets (after (attempt a) w)
        again (inl x) = inr x
        again (inr x) = inr (owned_as (after_reset r p) r (after (attempt a) w) (twice f) x)

    trail_on : {old new : World} {outcomes : List Outcome} → AttemptLog a old outcomes new
        → Resets old → Resets new
    trail_on start x = x
    trail_on (next w t made) x = step_on w made (trail_on t x)

    settled_of : (w : World) → Resets w → (after (attempt a) w).shared ≡ false
    settled_of w (inl o) = unshared_after f a w o
    settled_of w (inr o) = unshared_after r a w o

    made_in : (w : World) → Made w (after (attempt a) w) → Resets w → IsMade a w
    made_in w made (inl o) = made_of a w o.settled made
    made_in w made (inr o) = made_of a w o.settled made

    -- the hub, which accepted the request, is to take no address
    last_aims : {old new : World} {last : Outcome} {outcomes : List Outcome}
        → AttemptLog a old (last ∷ outcomes) new → last ≡ Ack → Resets old → AllAim Never t.addr new
    last_aims (next w tr made) ack x =
        let y : Resets w = trail_on tr x in
        λ i v on there at. rested w (made_in w made y) (settled_of w y) ack i v on there at
        (decided (resets (attempt a) w (path_to i)))
      where
        rested : (w : World) → IsMade a w → (after (attempt a) w).shared ≡ false
            → outcome_in a w ≡ Ack → (i : Location) (v : State)
            → reach_on (after (attempt a) w).roots i ≡ true → state_on (after (attempt a) w).roots i
            ≡ Some v → address_of v ≡ t.addr
            → (resets (attempt a) w (path_to i) ≡ true) ⊎ (resets (attempt a) w (path_to i) ≡ false)
            → Aims Never v.stage
        rested w m u ack i v on there at (inl z) =
            elim (some (sym at ∙ new_place_address (place_on (after (attempt a) w).roots i)
            (step_new (attempt a) w (path_to i) z) v
            (state_stands (after (attempt a) w).roots i.row i.rest ∙ there))) [ ]
        rested w m u ack i v on there at (inr z) =
            set_up_aims Never a (bytes_of request) w m is u
            (λ s. subst (λ x. TakesOnly Never (outcome s.spec s.registers x)) (sym same)
            (outcome_only Never s.spec s.registers request (λ h. cc (other, h)))) ack i v z on
            there at

    abbrev Calms : World → Type 0
    Calms w = Resets w × AllAim Never t.addr w

    wider : (g : List ℕ → Option ℕ) (new : World) → (MapHolds g new → Resets new)
        → (answer : Result (List ℕ) TransFault) → LeavesTrans (Calm g t) answer new
        → LeavesTrans Resets answer new
    wider g new so (Err (Bus fault)) x = x
    wider g new so answer x = so x.0

    status : (old : World) (answer : Result (List ℕ) TransFault) (new : World)
        → Asks t One old answer new → Calms old → LeavesTrans Resets answer new
    status old answer new e (inl o, h) = wider f new (λ x. inl x) answer
        (asks_leaves f t One old answer new e (o, h))
    status old answer new e (inr o, h) = wider r new (λ x. inr x) answer
        (asks_leaves r t One old answer new e (o, h))

    cut : (old : World) (fault : BusFault) (new : World) → BusFailed set_up_as a old fault new
        → Resets old → new.shared ≡ false
    cut old fault new c x = split (trail_on c.trail x)
      where
        split : Resets c.mid → new.shared ≡ false
        split (inl y) = cut_off_unshared f a set_up_as old fault new c y
        split (inr y) = cut_off_unshared r a set_up_as old fault new c y

    no_set_up : (old : World) (fault : TransFault) (new : World)
        → SetUp t request old (Err fault) new → Resets old → FaultLeaves Resets fault new
    no_set_up old (Bus fault) new c x = cut old fault new c x
    no_set_up old fault new e x = trail_on e.trail x

    done : (old mid : World) → SetUp t request old (Ok []) mid → Resets old → Calms mid
    done old mid e x = (
      trail_on e.trail x,
      last_aims e.trail (setup_acked e.last [] e.outcomes e.tells) x,
    )

    pub resets_leave : (old : World) (result : Result (Unit {0}) PipeFault) (new : World)
        → Writes t request old result new → MapHolds f old → LeavesPipe Resets result new
    resets_leave old (Ok u) new x o = status x.mid (Ok x.given) new x.status
        (done old x.mid x.set_up (inl o))
    resets_leave old (Err why) new (inl n) o =
        of_fault Resets Resets new (λ x. x) n.fault why n.told
        (no_set_up old n.fault new n.set_up (inl o))
    resets_leave old (Err why) new (inr n) o =
        of_fault Resets Resets new (λ x. x) n.fault why n.told
        (status n.mid (Err n.fault) new n.status (done old n.mid n.set_up (inl o)))
