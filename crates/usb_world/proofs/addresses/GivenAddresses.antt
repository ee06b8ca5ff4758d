-- PORT_RESET gives a device address 0, and its status stage the one that it was asked to take.
use Rattle.std.proofs.Common.{arith, ◌≡◌, ℕ, zero, suc, ◌&&◌, if◌then◌else◌, ◌⊎◌, true, false, List}
use Rattle.std.proofs.Common.{[], ◌∷◌, ◌++◌, Option, None, Some, option_map, refl, ap, sym, subst}
use Rattle.std.proofs.Common.{◌∙◌, inl, inr, ap₂, append-nil, ◌==◌, not, Bool}
use Rattle.usb_port.specs.{PortCall, SetReset, PortState}
use Rattle.usb_device.specs.{Ports, vacant, taken, called, changed_at, reach_at, state_at, place_at}
use Rattle.usb_device.specs.{Place, Registers, Outcome, registers_at_setup, State, Way, setup_law}
use Rattle.usb_device.specs.{row_of, reach, place, path_to, ending, Reply, is_busy}
use Rattle.usb_device.specs.{ends_with_address, is_whole, in_law, in_stage_law, in_other_law}
use Rattle.usb_device.specs.{in_end_law, source_law, held_law, heard, in_max}
use Rattle.usb_world.specs.{address_of, same_number, same_path, is_way, IsNew, call_resets}
use Rattle.usb_world.specs.{reset_if, deep_at, World, root_call, after, root_resets, resets}
use Rattle.usb_world.specs.{HoldsMapped, Injective, after_reset, after_taking, Attempt, at_attempt}
use Rattle.usb_world.specs.{with_attempt, attempt, is_made, made_resets, address_at, IsSetup}
use Rattle.usb_world.specs.{HolderIn, damage_in, IsIn, is_setup, ends_status}
use Rattle.usb_world.proofs.Booleans.{false_true, both, decided, and_false}
use Rattle.usb_world.proofs.Equality.{self_path, self_number}
use Rattle.usb_world.proofs.States.{kept_address}
use Rattle.usb_world.proofs.TreeHolders.{is_twice-one_path}
use Rattle.usb_world.proofs.ports.PortCalls.{off_way, call_new, call_reach, call_state}
use Rattle.usb_world.proofs.packets.Packets.{stands, state_stands}
use Rattle.usb_world.proofs.courses.Courses.{unreset_reach, made_reach, step_new}
use Rattle.usb_world.proofs.ways.Ways.{same_number-is, same_is, way_rest}
use Rattle.usb_request.specs.{setup_of}
use Rattle.usb_world.proofs.holders.OneDevice.{IsFull, reach-full, full_state}
use Rattle.usb_world.proofs.holders.OneHolder.{holder_holds, Holder}
use Rattle.usb_world.proofs.holders.OneHolderAttempts.{made_is, made_true, holder_in, setup_in}
use Rattle.usb_world.proofs.holders.OneHolderAttempts.{silent_in, others_in, in_in}
use Rattle.usb_world.proofs.addresses.AddressesKept.{ready_own, data_calm, ports_address}
use Rattle.usb_world.proofs.holders.HolderPorts.{other_rests}

-- PORT_RESET of a root port gives the device there address 0, and leaves the others theirs.

-- below a device that was just reset none is reached
new_below : (k : Ports) (i : ℕ) (p : List ℕ) (m : ℕ) (r : List ℕ) → IsNew (place_at k i p)
    → reach_at k i (p ++ (m ∷ r)) ≡ false
unfolding place_at reach_at
new_below (vacant b k) (suc i) p m r h = new_below k i p m r h
new_below (taken b s a k) zero [] (suc m) r h =
    grind (arith, off_way a m r)
new_below (taken b s a k) zero (suc j ∷ p) m r h =
    grind (arith, new_below a j p m r h)
new_below (taken b s a k) (suc i) p m r h = new_below k i p m r h
new_below k i p m r h = refl

is_new-zero : (x : Option Place) → IsNew x → option_map address_of (stands x) ≡ Some 0
is_new-zero x h = grind arith

-- a device that is reached and not reset
call_address : (c : PortCall) (k : Ports) (i j : ℕ) (p : List ℕ) → call_resets c k i j p ≡ false
    → option_map address_of (state_at (changed_at (called c) k i []) j p)
    ≡ option_map address_of (state_at k j p)
call_address c k i j p h = ap (option_map address_of) (call_state c k i j p)
    ∙ kept_address _ (state_at k j p) h

module _ (f : List ℕ → Option ℕ) (k : Ports) (i : ℕ) where
  abbrev reset_ports : Ports
  reset_ports = changed_at (called SetReset) k i []

  abbrev Given : ℕ → List ℕ → Type 0
  Given j p = option_map address_of (state_at reset_ports j p) ≡ after_reset f (suc i ∷ [])
      (suc j ∷ p)

  module _ (y : call_resets SetReset k i i [] ≡ true) (own : (j : ℕ) (p : List ℕ)
      → reach_at k j p ≡ true → option_map address_of (state_at k j p) ≡ f (suc j ∷ p)) where
    new : IsNew (place_at reset_ports i [])
    new = call_new SetReset k i i [] y

    zero_there : option_map address_of (state_at reset_ports i []) ≡ Some 0
    zero_there = grind (arith, is_new-zero, new, state_stands)

    elsewhere : (j : ℕ) (p : List ℕ) → same_number i j ≡ false → reach_at reset_ports j p ≡ true
        → Given j p
    unfolding is_way
    elsewhere j [] d h =
        grind (arith, call_address SetReset k i j [], call_reach SetReset k i j [])
    elsewhere j (n ∷ p) d h =
        call_address SetReset k i j (n ∷ p) refl
        ∙ own j (n ∷ p) (call_reach SetReset k i j (n ∷ p) refl h)
        ∙ ap (λ x. if x && false then Some 0 else if x && true then None else f (suc j ∷ n ∷ p))
        (sym d)

    at_it : (j : ℕ) (p : List ℕ) → j ≡ i → same_number i j ≡ true → reach_at reset_ports j p ≡ true
        → Given j p
    at_it j [] e d h = grind (arith, zero_there)
    at_it j (n ∷ p) e d h = false_true (sym
        (subst (λ x. reach_at reset_ports x (n ∷ p) ≡ false) (sym e)
        (new_below reset_ports i [] n p new)) ∙ h)

    reset_given : (j : ℕ) (p : List ℕ) → reach_at reset_ports j p ≡ true → Given j p
    reset_given j p h = grind (arith, at_it, elsewhere, same_number-is)

pub reset_own : (f : List ℕ → Option ℕ) (n : ℕ) (w : World)
    → resets (root_call SetReset n) w (n ∷ []) ≡ true → HoldsMapped f w
    → HoldsMapped (after_reset f (n ∷ [])) (after (root_call SetReset n) w)
unfolding resets after
reset_own f n w y own p h = grind (arith, reset_given)

root_kept : (n : ℕ) (k : Ports) (p : List ℕ) → root_resets SetReset n k (n ∷ []) ≡ false
    → root_resets SetReset n k p ≡ false
root_kept n k p y = grind (arith, same_number-is)

-- a port that has nothing to reset
pub rest_own : (f : List ℕ → Option ℕ) (n : ℕ) (w : World)
    → resets (root_call SetReset n) w (n ∷ []) ≡ false → HoldsMapped f w
    → HoldsMapped f (after (root_call SetReset n) w)
unfolding resets after
rest_own f zero w y own p h = grind (arith, root_kept, unreset_reach)
rest_own f (suc i) w y own (suc j ∷ p) h =
    grind (
      arith,
      call_address SetReset w.roots i j p,
      call_reach SetReset w.roots i j p,
      root_kept (suc i) w.roots (suc j ∷ p) y,
    )
rest_own f n w y own p h = false_true h

-- Injectivity

way_split : (f : List ℕ → Option ℕ) (p q : List ℕ) (a : ℕ) → after_reset f p q ≡ Some a
    → ((same_path p q ≡ true) × (a ≡ 0)) ⊎ ((is_way p q ≡ false) × (f q ≡ Some a))
way_split f p q a h = grind arith

same_join : (p q r : List ℕ) → same_path p q ≡ true → same_path p r ≡ true → same_path q r ≡ true
same_join p q r h g = rw (same_is p q h, same_is p r g) (self_path p)

-- addresses stay distinct, where no other device has address 0
pub reset_distinct : (f : List ℕ → Option ℕ) (p : List ℕ) → Injective f
    → ((q : List ℕ) → f q ≡ Some 0 → is_way p q ≡ true) → Injective (after_reset f p)
reset_distinct f p inj c q r a h g = grind (arith, same_join, way_split)

taken_split : (f : List ℕ → Option ℕ) (p : List ℕ) (n : ℕ) (q : List ℕ) (a : ℕ)
    → after_taking f p n q ≡ Some a
    → ((same_path p q ≡ true) × (a ≡ n)) ⊎ ((same_path p q ≡ false) × (f q ≡ Some a))
taken_split f p n q a h = grind arith

-- the same, where no other device has the address that is taken
pub taken_distinct : (f : List ℕ → Option ℕ) (p : List ℕ) (n : ℕ) → Injective f
    → ((q : List ℕ) → f q ≡ Some n → same_path p q ≡ true) → Injective (after_taking f p n)
taken_distinct f p n inj c q r a h g = grind (arith, same_join, taken_split)

-- PORT_RESET of a hub's port gives the device there address 0, and leaves the others theirs.

-- A device that was just reset

new_there : (k : Ports) (p : List ℕ) → IsNew (place k p) → address_at k p ≡ Some 0
new_there k p h = grind (arith, is_new-zero, state_stands)

-- none is reached below it
new_under : (k : Ports) (p : List ℕ) (m : ℕ) (r : List ℕ) → IsNew (place k p)
    → reach k (p ++ (m ∷ r)) ≡ false
new_under k p m r h = grind (arith, new_below)

-- The address of the hub itself

pub register_address : (g : Registers) (o : Outcome) → (registers_at_setup g o).address ≡ g.address
register_address g o = grind arith

setup_address : (s : State) (row : List PortState) (bytes : List ℕ) (x y z : Way)
    → address_of (setup_law s row bytes x y z).1 ≡ address_of s
setup_address s row bytes x y z = grind arith

module _ (a : Attempt) (w : World) (h : HolderIn a w) (bytes : List ℕ) (is : IsSetup a bytes)
    (n : ℕ) (names : (setup_of bytes).index ≡ n) (f : List ℕ → Option ℕ) (own : HoldsMapped f w)
  where
    open h use {spot.{row as j, rest as p}, own as s, below}

    abbrev pub k : Ports
    k = (at_attempt w).roots

    abbrev target : List ℕ
    target = suc j ∷ (p ++ (n ∷ []))

    abbrev one : Holder a.addr k
    one = holder_in a w h

    -- the device at a path has the address that it had
    abbrev Stays : ℕ → List ℕ → Type 0
    Stays i e = option_map address_of (state_at (after (attempt a) w).roots i e) ≡ f (suc i ∷ e)

    hub_is : option_map address_of (state_at (after (attempt a) w).roots j p) ≡ Some (address_of s)
    hub_is = elim (decided s.spec.silent) [
      | inl e ↦ ap (option_map address_of) (silent_in a w h e).state
      | inr e ↦
          ap (option_map address_of) (setup_in a w h e bytes is).state
          ∙ ap (λ x. Some x) (setup_address s (row_of below) bytes _ _ _)
    ]

    hub_stays : Stays j p
    hub_stays = hub_is ∙ ap (λ x. Some x) h.at ∙ sym (holder_holds a.addr k one).at
        ∙ ready_own f w own (suc j ∷ p) h.on

    other_stays : (i : ℕ) (e : List ℕ) → (same_number i j && same_path e p) ≡ false
        → made_resets a (at_attempt w) (suc i ∷ e) ≡ false → reach_at k i e ≡ true → Stays i e
    unfolding resets
    other_stays i e differ rest on =
        let v : IsFull (place_at k i e) = reach-full k i e on in
        let there : _ = full_state k i e v in
        ap (option_map address_of) (others_in a w h i e v.own differ there)
        ∙ ap (λ x. Some (address_of (reset_if x v.own))) (ap (λ x. is_made w.fault w && x) rest
        ∙ and_false (is_made w.fault w))
        ∙ sym (ap (option_map address_of) there) ∙ ready_own f w own (suc i ∷ e) on

    stays : (i : ℕ) (e : List ℕ) → made_resets a (at_attempt w) (suc i ∷ e) ≡ false
        → reach_at (after (attempt a) w).roots i e ≡ true → Stays i e
    unfolding with_attempt
    stays i e rest on = elim (decided (same_number i j && same_path e p)) [
      | inl y ↦
          let at : _ = both (same_number i j) (same_path e p) y in
          subst (λ u. Stays u e) (same_number-is i j at.0)
          (subst (λ x. Stays j x) (same_is e p at.1) hub_stays)
      | inr y ↦ other_stays i e y rest (made_reach a (at_attempt w) (suc i ∷ e) rest
          (ap (λ v. reach_at v.roots i e) (sym (made_is a w h.made)) ∙ on))
    ]

    rests_elsewhere : (x : List ℕ) → same_path target x ≡ false → made_resets a (at_attempt w) x
        ≡ false
    rests_elsewhere = other_rests a w h bytes is n names

    own_reset : resets (attempt a) w target ≡ true
        → HoldsMapped (after_reset f target) (after (attempt a) w)
    own_reset y (suc i ∷ e) on = elim (decided (same_path target (suc i ∷ e))) [
      | inl d ↦
          ap (address_at (after (attempt a) w).roots) (same_is target (suc i ∷ e) d)
          ∙ new_there (after (attempt a) w).roots target new
          ∙ ap (λ u. if u then Some 0 else if is_way target (suc i ∷ e) then None else f
          (suc i ∷ e)) (sym d)
      | inr d ↦ elim (decided (is_way target (suc i ∷ e))) [
        | inl g ↦
            let z : _ = way_rest target (suc i ∷ e) g in false_true (past z.0 z.1 d)
        | inr g ↦
            stays i e (rests_elsewhere (suc i ∷ e) d) on
            ∙ ap₂ (λ u v. if u then Some 0 else if v then None else f (suc i ∷ e)) (sym d) (sym g)
      ]
    ]
      where
        new : IsNew (place (after (attempt a) w).roots target)
        new = step_new (attempt a) w target y

        past : (rest : List ℕ) → suc i ∷ e ≡ target ++ rest → same_path target (suc i ∷ e) ≡ false
            → false ≡ true
        past [] z d = sym d ∙ ap (same_path target) (z ∙ append-nil target) ∙ self_path target
        past (m ∷ r) z d = sym (ap (reach (after (attempt a) w).roots) z
            ∙ new_under _ target m r new) ∙ on
    own_reset y p on = false_true on

    own_rest : resets (attempt a) w target ≡ false → HoldsMapped f (after (attempt a) w)
    unfolding resets
    own_rest y (suc i ∷ e) on = stays i e rest on
      where
        rest : made_resets a (at_attempt w) (suc i ∷ e) ≡ false
        rest = elim (decided (same_path target (suc i ∷ e))) [
          | inl d ↦ ap (made_resets a (at_attempt w)) (same_is target (suc i ∷ e) d)
              ∙ ap (λ x. x && made_resets a (at_attempt w) target) (sym (made_true a w h.made)) ∙ y
          | inr d ↦ rests_elsewhere (suc i ∷ e) d
        ]
    own_rest y p on = false_true on

pub hub_reset : (a : Attempt) (w : World) (h : HolderIn a w) (bytes : List ℕ) → IsSetup a bytes
    → (n : ℕ) → (setup_of bytes).index ≡ n → (f : List ℕ → Option ℕ)
    → resets (attempt a) w (path_to h.spot ++ (n ∷ [])) ≡ true → HoldsMapped f w
    → HoldsMapped (after_reset f (path_to h.spot ++ (n ∷ []))) (after (attempt a) w)
hub_reset a w h bytes is n names f y own = own_reset a w h bytes is n names f own y

pub hub_rest : (a : Attempt) (w : World) (h : HolderIn a w) (bytes : List ℕ) → IsSetup a bytes
    → (n : ℕ) → (setup_of bytes).index ≡ n → (f : List ℕ → Option ℕ)
    → resets (attempt a) w (path_to h.spot ++ (n ∷ [])) ≡ false → HoldsMapped f w
    → HoldsMapped f (after (attempt a) w)
hub_rest a w h bytes is n names f y own = own_rest a w h bytes is n names f own y

-- The device that ends its status stage takes its address at the host's ACK.

-- The address after IN

abbrev AddressKept : State → Reply → Type 0
AddressKept s r = address_of r.1 ≡ address_of s

kept_if : (s : State) (b : Bool) (x y : Reply) → AddressKept s x → AddressKept s y
    → AddressKept s (if b then x else y)
kept_if s b x y h g = grind arith

module _ (s : State) (max : ℕ) (x y : Way) where
  source_keeps : (e most : ℕ) → AddressKept s (source_law s e most max x y)
  source_keeps e most = grind arith

  end_law_keeps : (e : ℕ) (o : Option ℕ) → AddressKept s (in_end_law s e o max x y)
  end_law_keeps e o = grind (arith, source_keeps)

  held_keeps : (row : List PortState) (h : Option ℕ) → AddressKept s (held_law s row h max x y)
  held_keeps row h = grind arith

  other_keeps : (row : List PortState) (e : ℕ) → AddressKept s (in_other_law s row e max x y)
  other_keeps row e = kept_if s _ _ _ (kept_if s s.changes.halted (heard x _, s) _
      refl (held_keeps row s.held)) (end_law_keeps e (in_max s e))

  stage_address : (n : ℕ) → s.stage ≡ ending (Some n)
      → address_of (in_stage_law s s.stage max x y).1
      ≡ (if is_whole x && is_whole y then n else address_of s)
  stage_address n e = grind arith

  -- the device takes the address where its status stage ends
  in_address : (row : List PortState) (e : ℕ) (t : Way) (n : ℕ) → s.stage ≡ ending (Some n)
      → address_of (in_law s row e max t x y).1
      ≡ (if is_whole t && (e == 0 && (not (is_busy s) && (is_whole x && is_whole y))) then n
      else address_of s)
  in_address row e t n h = grind (arith, other_keeps, stage_address)

-- In a world

module _ (a : Attempt) (w : World) (h : HolderIn a w) (into : IsIn a) (n : ℕ)
    (stage : h.own.stage ≡ ending (Some n)) where
  open h use {spot.{row as j, rest as p}, own as s, below}

  abbrev pub ready_ports : Ports
  ready_ports = (at_attempt w).roots

  abbrev pub ends : Bool
  ends = ends_status a (damage_in (at_attempt w)) ready_ports (deep_at false p) s

  abbrev pub address_then : ℕ
  address_then = if ends then n else address_of s

  kind : is_setup a.kind ≡ false
  kind = ap is_setup into.kind

  abbrev its_holder : Holder a.addr ready_ports
  its_holder = holder_in a w h

  own_state : address_of s ≡ a.addr
  own_state = h.at

  there : option_map address_of (state_at (after (attempt a) w).roots j p) ≡ Some address_then
  there = elim (decided s.spec.silent) [
    | inl e ↦ ap (option_map address_of) (silent_in a w h e).state ∙ rw e refl
    | inr e ↦
        ap (option_map address_of) (in_in a w h e into).state
        ∙ ap (λ x. Some x) (in_address s a.max _ _ (row_of below) a.ep _ n stage) ∙ rw e refl
  ]

  -- another device takes none
  others : (i : ℕ) (e : List ℕ) → (same_number j i && same_path p e) ≡ false → (t : State)
      → reach_at ready_ports i e ≡ true → state_at ready_ports i e ≡ Some t → address_of t ≡ a.addr
      → ends_with_address t.stage ≡ false
  others i e d t on at x =
      let z : (j ≡ i) × (p ≡ e) = is_twice-one_path ready_ports j p i e a.addr its_holder.single
      its_holder.on
      (holder_holds a.addr ready_ports its_holder).at on (ap (option_map address_of) at
      ∙ ap (λ y. Some y) x) in
      false_true (sym d ∙ ap₂ (λ u v. same_number j u && same_path p v) (sym z.0) (sym z.1)
      ∙ ap₂ (λ u v. u && v) (self_number j) (self_path p))

  module _ (f : List ℕ → Option ℕ) (own : HoldsMapped f w) where
    abbrev pub g : List ℕ → Option ℕ
    g q = if same_path (suc j ∷ p) q then Some address_then else f q

    taken_there : (i : ℕ) (e : List ℕ) → suc i ∷ e ≡ suc j ∷ p → same_path (suc j ∷ p) (suc i ∷ e)
        ≡ true → option_map address_of (state_at (after (attempt a) w).roots i e) ≡ g (suc i ∷ e)
    taken_there i e z d = grind (arith, there)

    kept_there : (i : ℕ) (e : List ℕ) → same_path (suc j ∷ p) (suc i ∷ e) ≡ false
        → reach_at (after (attempt a) w).roots i e ≡ true
        → option_map address_of (state_at (after (attempt a) w).roots i e) ≡ g (suc i ∷ e)
    unfolding with_attempt
    kept_there i e d on =
        ap (λ v. option_map address_of (state_at v.roots i e)) (made_is a w h.made)
        ∙ ports_address a _ ready_ports its_holder.settled kind i e (others i e d)
        ∙ ready_own f w own (suc i ∷ e) (made_reach a (at_attempt w) (suc i ∷ e)
        (data_calm a _ ready_ports its_holder.settled kind i e)
        (ap (λ v. reach_at v.roots i e) (sym (made_is a w h.made)) ∙ on))
        ∙ ap (λ x. if x then Some address_then else f (suc i ∷ e)) (sym d)

    own_after : HoldsMapped g (after (attempt a) w)
    own_after h on = grind (arith, kept_there, same_is, taken_there)

    own_as : (x : List ℕ → Option ℕ) → ((q : List ℕ) → g q ≡ x q)
        → HoldsMapped x (after (attempt a) w)
    own_as x c q on = own_after q on ∙ c q

    pub seen : ends ≡ true → HoldsMapped (after_taking f (suc j ∷ p) n) (after (attempt a) w)
    seen y = own_as _
        (λ q. ap (λ x. if same_path (suc j ∷ p) q then Some (if x then n else address_of s) else f
        q) y)

    pub unseen : ends ≡ false → HoldsMapped f (after (attempt a) w)
    unseen y = own_as f same
      where
        same : (q : List ℕ) → g q ≡ f q
        same q = elim (decided (same_path (suc j ∷ p) q)) [
          | inl e ↦ rw (e, y) (ap (λ x. Some x) own_state ∙ sym (holder_holds a.addr ready_ports
              its_holder).at
              ∙ ready_own f w own (suc j ∷ p) its_holder.on ∙ ap f (sym (same_is (suc j ∷ p) q e)))
          | inr e ↦ rw e refl
        ]
