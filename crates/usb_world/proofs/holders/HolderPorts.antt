-- What an attempt asks of ports, where one reachable device holds its address.
use Rattle.std.proofs.Common.{arith, ◌≡◌, ℕ, ◌&&◌, if◌then◌else◌, Bool, true, false, List, length}
use Rattle.std.proofs.Common.{Option, None, Some, refl, ap, sym, ◌∙◌, suc, not, inl, inr, [], ◌∷◌}
use Rattle.std.proofs.Common.{◌++◌, ap₂, subst}
use Rattle.arrayvec.specs.ArrayVec.{ArrayVec}
use Rattle.usb_packet.specs.{Packet, Token, Toggle, Zero, SetupTok}
use Rattle.usb_packet.specs.declared.Packet.TheVariants as packet
use Rattle.usb_port.specs.{PortState}
use Rattle.usb_request.specs.{setup_of, Setup}
use Rattle.usb_device.specs.{Sent, Effect, Leaves, State, Reply, received, unread, forgotten, asks}
use Rattle.usb_device.specs.{asked_by_setup, Way, lost, is_whole, through, Ports, full, acted}
use Rattle.usb_device.specs.{row_of, place_at, effect_of, Place, Calls, state_at, path_to}
use Rattle.usb_device.specs.declared.transfer.RememberedPacket.TheVariants as memory
use Rattle.usb_device.specs.Attempt.{whole, broken}
use Rattle.usb_world.specs.{Attempt, Damage, Mark, marked, marked_some, token_of, payload_of}
use Rattle.usb_world.specs.{sent_as, goes_out, payload_out, ports_in, World, at_attempt, damage_in}
use Rattle.usb_world.specs.{with_attempt, attempt, after, way_to, token_way, payload_way, IsSetup}
use Rattle.usb_world.specs.{HolderIn, setup_asked, token_out, is_made, made_resets, resets}
use Rattle.usb_world.specs.{step_keeps_pending, sent_leaves, leaves_step, AsksNothing}
use Rattle.usb_world.specs.{is_port_request, is_sparing, is_above, deep_at, same_number, same_path}
use Rattle.usb_world.specs.{is_way, after_sent, IfOut, sent_keeps_pending, sent_resets}
use Rattle.usb_world.specs.{effect_resets, effect_keeps_pending, leaves_port}
use Rattle.usb_world.proofs.packets.Packets.{CalmOut}
use Rattle.usb_world.proofs.holders.OneHolder.{rests, asked_of, effect, placed, token_of-fields}
use Rattle.usb_world.proofs.holders.OneHolder.{data_is, token_comes, through_spec, way_same}
use Rattle.usb_world.proofs.holders.OneHolder.{setup_one, setup_alone, Holder, ExchangedWithHolder}
use Rattle.usb_world.proofs.holders.OneHolder.{holder_holds}
use Rattle.usb_world.proofs.holders.OneHolderAttempts.{first_silent, silent_one, made_is, holder_in}
use Rattle.usb_device.proofs.Interface.{same_number as equal_itself}
use Rattle.usb_world.proofs.holders.OneDevice.{sent_to_one, alone_holder, rested_effect}
use Rattle.usb_world.proofs.Booleans.{false_true, both, decided, and_false, not-true}
use Rattle.usb_world.proofs.OnWays.{OnWay, spares_if, way_leaves-on_way, resets_if}
use Rattle.usb_world.proofs.Equality.{self_number}
use Rattle.usb_world.proofs.courses.Courses.{goes}
use Rattle.usb_world.proofs.ways.Ways.{same_number-is, same_is, way_on}
use Rattle.usb_world.proofs.ports.PortRequests.{Allows, AllowsOut, PayloadAllows, sent_allowed}
use Rattle.usb_world.proofs.ports.PortRequests.{payload_allowed}
use Rattle.usb_world.proofs.ports.RestingPorts.{left_effect}

-- The ports of the one holder after an attempt: as they were, but for what its request asks of
-- them.

-- What the holder asks of its ports

pub calm_asked : (o : Option Sent) → CalmOut o → (deep : Bool) (s : State)
    → asked_of o deep s ≡ Leaves
calm_asked o c deep s = grind arith

-- the same, by how the packet comes
abbrev asked_through : Way → State → Packet → Effect
asked_through whole s p = asks s p
asked_through broken s p = Leaves
asked_through lost s p = Leaves

asked_comes : (l pre : Bool) (m : Mark) (p : Packet) (deep : Bool) (s : State)
    → asked_of (sent_as l pre m p) deep s ≡ asked_through (way_to deep s (sent_as l pre m p)) s p
unfolding effect_of
asked_comes l pre m p deep s = grind arith

some_asked : (a : Attempt) (d : Option Damage) (n : ℕ) (p : Packet) (deep : Bool) (s : State)
    → asked_of (goes_out a (marked_some d n a.pre (Some p))) deep s
    ≡ asked_through (way_to deep s (goes_out a (marked_some d n a.pre (Some p)))) s p
unfolding marked marked_some
some_asked a d n p deep s = asked_comes a.low a.pre _ p deep s

payload_asked : (a : Attempt) (d : Option Damage) (p : Packet) → payload_of a ≡ Some p
    → (deep : Bool) (s : State) → asked_of (payload_out a d) deep s
    ≡ asked_through (payload_way a d deep s) s p
payload_asked a d p e deep s = grind (arith, some_asked)

silent_asks : (s : State) (p : Packet) → s.spec.silent ≡ true → asks s p ≡ Leaves
unfolding asks
silent_asks s p h = rw h refl

silent_asked : (o : Option Sent) (deep : Bool) (s : State) → s.spec.silent ≡ true
    → asked_of o deep s ≡ Leaves
unfolding effect_of
silent_asked o deep s h = grind (arith, silent_asks)

-- data after a token

-- a device that remembers nothing asks nothing
payload_asks-leaves : (s : State) (t : Toggle) (bytes : ArrayVec ℕ) → s.memory ≡ memory.Nothing
    → asks s (packet.Payload t bytes) ≡ Leaves
unfolding asks
payload_asks-leaves s t bytes n = grind arith

unread_rests : (s : State) → s.memory ≡ memory.Nothing → (unread s).memory ≡ memory.Nothing
unfolding unread
unread_rests s n = grind arith

setup_seen : (s : State) (row : List PortState) → s.spec.silent ≡ false
    → received s row (Token SetupTok s.registers.address 0)
    ≡ (None, record (forgotten s) { memory = memory.SetupSeen })
unfolding received
setup_seen s row loud = rw (loud, equal_itself s.registers.address) refl

setup_asks : (s : State) (bytes : List ℕ) → s.spec.silent ≡ false → length bytes ≡ 8
    → asks (record (forgotten s) { memory = memory.SetupSeen })
    (packet.Payload Zero (record { items = bytes })) ≡ asked_by_setup s (setup_of bytes)
unfolding asks
setup_asks s bytes loud len = rw (loud, len) refl

asked_setup : (s : State) (row : List PortState) → s.spec.silent ≡ false → s.memory ≡ memory.Nothing
    → (bytes : List ℕ) → length bytes ≡ 8 → (x y : Way)
    → asked_through y (through x s row (Token SetupTok s.registers.address 0)).1
    (packet.Payload Zero (record { items = bytes }))
    ≡ (if is_whole x && is_whole y then asked_by_setup s (setup_of bytes) else Leaves)
asked_setup s row loud n bytes len x y =
    grind (arith, payload_asks-leaves, setup_asks, setup_seen, unread_rests)

module _ (a : Attempt) (d : Option Damage) (k : Ports) (h : Holder a.addr k) where
  open h use {spot.{row as j, rest as p}, port as b, own as s, below}

  -- By kind

  abbrev row : List PortState
  row = row_of below

  abbrev t1 : Way
  t1 = token_way a d (deep_at false p) s

  abbrev t2 : Way
  t2 = payload_way a d (deep_at false p) s

  -- what the host's data X ask after the token T
  sent_effect : (T X : Packet) → token_of a ≡ T → payload_of a ≡ Some X
      → effect a d k h ≡ asked_through t2 (through t1 s row T).1 X
  sent_effect T X u v =
      ap (λ r. asked_of (payload_out a d) (deep_at false p) r.1)
      (token_comes a d (deep_at false p) s row ∙ ap (through t1 s row) u)
      ∙ payload_asked a d X v (deep_at false p) (through t1 s row T).1
      ∙ ap (λ y. asked_through y (through t1 s row T).1 X)
      (way_same (deep_at false p) (payload_out a d) s (through t1 s row T).1
      (through_spec t1 s row T))

  remembers_nothing : s.memory ≡ memory.Nothing
  remembers_nothing = rests a d k h

  setup_effect : s.spec.silent ≡ false → (bytes : List ℕ) → IsSetup a bytes
      → effect a d k h ≡ setup_asked a d (deep_at false p) s bytes
  setup_effect loud bytes i =
      sent_effect _ (packet.Payload Zero (record { items = bytes }))
      (token_of-fields a SetupTok s.registers.address 0 i.kind (sym h.at) i.ep)
      (data_is a Zero (record { items = bytes }) i.payload)
      ∙ asked_setup s row loud remembers_nothing bytes i.whole t1 t2

  silent_effect : s.spec.silent ≡ true → effect a d k h ≡ Leaves
  silent_effect silent = ap (λ r. asked_of (payload_out a d) (deep_at false p) r.1)
      (first_silent a d k h silent) ∙ silent_asked (payload_out a d) (deep_at false p) s silent

  placed_with : (r : Reply) (e : Effect) → effect a d k h ≡ e → ExchangedWithHolder a d k h r
      → place_at (ports_in a d k) j p ≡ Some (full b r.1 (acted e below))
  placed_with r e is x = grind (arith, placed)

  setup_place : s.spec.silent ≡ false → (bytes : List ℕ) → IsSetup a bytes
      → place_at (ports_in a d k) j p ≡ Some
      (full b (setup_alone a d k (deep_at false p) s (row_of below) bytes).1
      (acted (setup_asked a d (deep_at false p) s bytes) below))
  setup_place loud bytes i =
      placed_with _ _ (setup_effect loud bytes i)
      (setup_one a d k h loud bytes i)

  silent_place : s.spec.silent ≡ true → place_at (ports_in a d k) j p ≡ Some (full b s below)
  silent_place silent = placed_with (None, s) Leaves (silent_effect silent)
      (silent_one a d k h silent)

-- Worlds

module _ (a : Attempt) (w : World) (h : HolderIn a w) where
  open h use {spot.{row as j, rest as p}, port as b, own as s, below}

  abbrev there : Holder a.addr (at_attempt w).roots
  there = holder_in a w h

  world_place : (x : Option Place) → place_at
      (ports_in a (damage_in (at_attempt w)) (at_attempt w).roots) j p ≡ x
      → place_at (after (attempt a) w).roots j p ≡ x
  unfolding with_attempt
  world_place x e = ap (λ v. place_at v.roots j p) (made_is a w h.made) ∙ e

  pub setup_place_in : s.spec.silent ≡ false → (bytes : List ℕ) → IsSetup a bytes
      → place_at (after (attempt a) w).roots j p
      ≡ Some (full b (setup_alone a (damage_in (at_attempt w)) (at_attempt w).roots
      (deep_at false p) s (row_of below) bytes).1
      (acted (setup_asked a (damage_in (at_attempt w)) (deep_at false p) s bytes) below))
  setup_place_in loud bytes i = world_place _ (setup_place a _ _ there loud bytes i)

  pub silent_place_in : s.spec.silent ≡ true → place_at (after (attempt a) w).roots j p
      ≡ Some (full b s below)
  silent_place_in silent = world_place _ (silent_place a _ _ there silent)

-- What an attempt asks of ports, where one reachable device holds its address: it alone can ask
-- anything.

-- a test of effects at a port, with the rest of the path, that holds where nothing is asked
abbrev Test : Type 0
Test = ℕ → List ℕ → Effect → Bool

abbrev spare_test : Test
spare_test m r e = effect_keeps_pending e m r

abbrev leave_test : Test
leave_test m r e = leaves_port e m

abbrev rest_test : Ports → Test
rest_test a m r e = not (effect_resets e a m r)

-- what each feature leaves pending at its own port

sparing_asks : (r : Setup) → is_sparing r ≡ true → is_port_request r ≡ true
sparing_asks r h = grind arith

abbrev tail : List ℕ → List ℕ
tail [] = []
tail (n ∷ x) = x

ends_there : (y : List ℕ) (u v : ℕ) (r : List ℕ) → y ++ (u ∷ []) ≡ y ++ (v ∷ r) → r ≡ []
ends_there [] u v r h = sym (ap tail h)
ends_there (x ∷ y) u v r h = ends_there y u v r (ap tail h)

module _ (a : Attempt) (w : World) (h : HolderIn a w) where
  open h use {spot.{row as j, rest as p}}

  abbrev pub k : Ports
  k = (at_attempt w).roots

  -- the tree when the host's data go out
  abbrev heard : Ports
  heard = after_sent (token_out a (damage_in (at_attempt w))) k

  abbrev sent : Option Sent
  sent = payload_out a (damage_in (at_attempt w))

  abbrev one : Holder a.addr k
  one = holder_in a w h

  -- what the holder can ask passes the test, where it is on the way to a path
  abbrev Allowed : Test → ℕ → List ℕ → Option Sent → Type 0
  Allowed T i x o = (m : ℕ) (r : List ℕ) → suc i ∷ x ≡ suc j ∷ (p ++ (suc m ∷ r))
      → IfOut (AllowsOut (T m r)) o

  -- no device but the holder asks anything of its ports once the token is gone, whatever comes then
  pub others_leave : (i : ℕ) (e : List ℕ) (t : State) → (same_number i j && same_path e p) ≡ false
      → state_at (after_sent (token_out a (damage_in (at_attempt w))) (at_attempt w).roots) i e
      ≡ Some t → (q : Sent) (deep : Bool) → effect_of q deep t ≡ Leaves
  others_leave i e t differ at q deep =
      rested_effect q deep t ((sent_to_one _ k h.spot (alone_holder a.addr _
      (goes a (damage_in (at_attempt w)) k).token k h.spot one.settled
      (holder_holds a.addr k one))).forgot i e t differ at)

  on_way : (T : Test) → ((m : ℕ) (r : List ℕ) → T m r Leaves ≡ true)
      → (i : ℕ) (x : List ℕ) (q : Sent) → Allowed T i x (Some q)
      → OnWay (λ t m r. (dp : Bool) → T m r (effect_of q dp t) ≡ true) heard i x
  on_way T l i x q c e m r t z at dp = elim (decided (same_number i j && same_path e p)) [
    | inl y ↦
        let same : _ = both (same_number i j) (same_path e p) y in
        let path : suc i ∷ x ≡ suc j ∷ (p ++ (suc m ∷ r)) =
        ap₂ (λ u v. suc u ∷ v) (sym (same_number-is i j same.0))
        (z ∙ ap (λ v. v ++ (suc m ∷ r)) (sym (same_is e p same.1))) in
        sent_allowed (T m r) (l m r) q (c m r path) dp t
    | inr y ↦ ap (T m r) (others_leave i e t y at q dp) ∙ l m r
  ]

  one_spares : (i : ℕ) (x : List ℕ) (o : Option Sent) → Allowed spare_test i x o
      → sent_keeps_pending o heard i x ≡ true
  one_spares i x None c = refl
  one_spares i x (Some q) c = spares_if q false heard i x (on_way spare_test (λ m r. refl) i x q c)

  one_leaves : (i : ℕ) (x : List ℕ) (o : Option Sent) → Allowed leave_test i x o
      → sent_leaves o heard i x ≡ true
  one_leaves i x None c = refl
  one_leaves i x (Some q) c = way_leaves-on_way q false heard i x
      (on_way leave_test (λ m r. refl) i x q c)

  one_rests : (i : ℕ) (x : List ℕ) (o : Option Sent) → ((n : Ports) → Allowed (rest_test n) i x o)
      → sent_resets o heard i x ≡ false
  one_rests i x None c = refl
  one_rests i x (Some q) c = resets_if q false heard i x
      (λ e m r t z at dp n. not-true (effect_resets (effect_of q dp t) n m r)
      (on_way (rest_test n) (λ m r. refl) i x q (c n) e m r t z at dp))

  -- where it is not on the way

  below_path : (x : List ℕ) (n : ℕ) (y : List ℕ) → same_path x (x ++ (n ∷ y)) ≡ false
  below_path [] n y = refl
  below_path (m ∷ x) n y = ap (λ z. z && same_path x (x ++ (n ∷ y))) (self_number m)
      ∙ below_path x n y

  is_under : (m : ℕ) (r : List ℕ) → is_above (suc j ∷ p) (suc j ∷ (p ++ (suc m ∷ r))) ≡ true
  is_under m r = ap₂ (λ x y. x && not y) (way_on (suc j ∷ p) (suc m ∷ r))
      (below_path (suc j ∷ p) (suc m) r)

  not_under : {A : Type 0} (i : ℕ) (x : List ℕ) → is_above (suc j ∷ p) (suc i ∷ x) ≡ false
      → (m : ℕ) (r : List ℕ) → suc i ∷ x ≡ suc j ∷ (p ++ (suc m ∷ r)) → A
  not_under i x u m r z = false_true (sym u ∙ ap (is_above (suc j ∷ p)) z ∙ is_under m r)

  pub elsewhere : (x : List ℕ) → is_above (suc j ∷ p) x ≡ false → AsksNothing (attempt a) w x
  unfolding step_keeps_pending resets leaves_step
  elsewhere (suc i ∷ x) u = record {
    spares = one_spares i x sent (λ m r z. not_under i x u m r z);
    rests = ap (λ y. is_made w.fault w && y) (one_rests i x sent (λ n m r z. not_under i x u m r z))
        ∙ and_false (is_made w.fault w);
    leaves = one_leaves i x sent (λ m r z. not_under i x u m r z);
  }
  elsewhere x u = grind (arith, and_false, rests)

  -- SetPortFeature and ClearPortFeature

  module _ (bytes : List ℕ) (is : IsSetup a bytes) where
    abbrev pub r0 : Setup
    r0 = setup_of bytes

    data_allows : (T : Effect → Bool) → Allows T r0 → IfOut (AllowsOut T) sent
    data_allows T c = payload_allowed T c.rests a _ (subst (PayloadAllows T) (sym is.payload) c)

    module _ (n : ℕ) (names : r0.index ≡ n) where
      abbrev pub port_path : List ℕ
      port_path = suc j ∷ (p ++ (n ∷ []))

      way_number : (y : List ℕ) (m : ℕ) (r : List ℕ) → is_way (y ++ (n ∷ [])) (y ++ (m ∷ r))
          ≡ same_number n m
      unfolding is_way
      way_number [] m r = grind arith
      way_number (u ∷ y) m r = ap (λ z. z && is_way (y ++ (n ∷ [])) (y ++ (m ∷ r))) (self_number u)
          ∙ way_number y m r

      path_number : (y : List ℕ) (m : ℕ) → same_path (y ++ (n ∷ [])) (y ++ (m ∷ []))
          ≡ same_number n m
      path_number [] m = grind arith
      path_number (u ∷ y) m = grind (arith, path_number y m, self_number)

      other_number : (m i : ℕ) → same_number n (suc m) ≡ false → r0.index ≡ suc i
          → same_number i m ≡ false
      other_number m i d e = ap (λ x. same_number x (suc m)) (sym e ∙ names) ∙ d

      -- PORT_RESET resets at most the device on its own port
      rest_there : (c : Ports) (m : ℕ) (r : List ℕ)
          → same_path port_path (suc j ∷ (p ++ (suc m ∷ r))) ≡ false → Allows (rest_test c m r) r0
      rest_there c m (y ∷ r) d = grind arith
      rest_there c m [] d = record {
        rests = refl;
        off = λ e. refl;
        set = λ e x i f g. ap not (left_effect (Calls x i) c m []
            (ap not (other_number m i (sym (path_number (suc j ∷ p) (suc m)) ∙ d) g)));
        clear = λ e x i f g. ap not (left_effect (Calls x i) c m []
            (ap not (other_number m i (sym (path_number (suc j ∷ p) (suc m)) ∙ d) g)));
      }

      pub other_rests : (x : List ℕ) → same_path port_path x ≡ false
          → made_resets a (at_attempt w) x ≡ false
      other_rests (suc i ∷ x) d = one_rests i x sent (λ c m r z. data_allows (rest_test c m r)
          (rest_there c m r (ap (same_path port_path) (sym z) ∙ d)))
      other_rests p d = refl

      module _ (asked : is_port_request r0 ≡ true) where
        spare_there : (m : ℕ) (r : List ℕ) → same_number n (suc m) ≡ false
            → Allows (spare_test m r) r0
        spare_there m r d = grind arith

        leave_there : (m : ℕ) (r : List ℕ) → same_number n (suc m) ≡ false
            → Allows (leave_test m r) r0
        leave_there m r d = grind arith

        number_apart : (x : List ℕ) (m : ℕ) (r : List ℕ) → is_way port_path x ≡ false
            → x ≡ suc j ∷ (p ++ (suc m ∷ r)) → same_number n (suc m) ≡ false
        number_apart x m r d z = sym (way_number (suc j ∷ p) (suc m) r)
            ∙ ap (is_way port_path) (sym z) ∙ d

        path_apart : (x y : List ℕ) → is_way x y ≡ false → same_path x y ≡ false
        unfolding is_way
        path_apart [] y d = false_true (sym d)
        path_apart (u ∷ x) [] d = refl
        path_apart (u ∷ x) (v ∷ y) d = grind (arith, path_apart x y)

        pub others_asked_nothing : (x : List ℕ) → is_way port_path x ≡ false
            → AsksNothing (attempt a) w x
        unfolding step_keeps_pending resets leaves_step
        others_asked_nothing (suc i ∷ x) d = record {
          spares = one_spares i x sent (λ m r z. data_allows (spare_test m r)
              (spare_there m r (number_apart (suc i ∷ x) m r d z)));
          rests = ap (λ y. is_made w.fault w && y)
              (other_rests (suc i ∷ x) (path_apart port_path (suc i ∷ x) d))
              ∙ and_false (is_made w.fault w);
          leaves = one_leaves i x sent (λ m r z. data_allows (leave_test m r)
              (leave_there m r (number_apart (suc i ∷ x) m r d z)));
        }
        others_asked_nothing x d = grind (arith, and_false, rests)

        self_there : is_sparing r0 ≡ true → (m : ℕ) → Allows (spare_test m []) r0
        self_there y m = grind arith

        self_spared : is_sparing r0 ≡ true → step_keeps_pending (attempt a) w port_path ≡ true
        unfolding step_keeps_pending
        self_spared y = one_spares j (p ++ (n ∷ [])) sent (λ m r z. data_allows (spare_test m r)
            (subst (λ v. Allows (spare_test m v) r0) (sym (ends_there (suc j ∷ p) n (suc m) r z))
            (self_there y m)))

pub self_asked : (a : Attempt) (w : World) (h : HolderIn a w) (bytes : List ℕ) → IsSetup a bytes
    → (n : ℕ) → (setup_of bytes).index ≡ n → is_sparing (setup_of bytes) ≡ true
    → step_keeps_pending (attempt a) w (path_to h.spot ++ (n ∷ [])) ≡ true
self_asked a w h bytes is n names y = grind (arith, self_spared, sparing_asks)
