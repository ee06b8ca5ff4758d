-- Which attempts ask what is allowed where ports are marked.
use Rattle.std.proofs.Common.{◌≡◌, ℕ, zero, suc, ◌==◌, ◌&&◌, ◌||◌, ◌⊎◌, inl, inr, not}
use Rattle.std.proofs.Common.{if◌then◌else◌, Bool, true, false, List, [], ◌∷◌, ◌++◌, None, Some}
use Rattle.std.proofs.Common.{is_some, refl, ap, sym, subst, ◌∙◌}
use Rattle.std.proofs.lemmas.Option.{same_Some}
use Rattle.usb_request.specs.{PORT_ENABLE, PORT_POWER, C_PORT_CONNECTION, C_PORT_ENABLE}
use Rattle.usb_request.specs.{C_PORT_RESET, CLEAR_FEATURE, SET_FEATURE, SET_CONFIGURATION}
use Rattle.usb_request.specs.{DEVICE_OUT, PORT_OUT, Setup, setup_of}
use Rattle.usb_port.specs.{PortCall, SetPower, SetReset, ClearEnable, ClearPower}
use Rattle.usb_port.specs.{ClearConnectionChange, ClearEnableChange, ClearResetChange, clear_call}
use Rattle.usb_port.specs.{is_reset, set_call}
use Rattle.usb_device.specs.{Is, Sent, Effect, Leaves, Calls, PortsOff, effect_of, State}
use Rattle.usb_world.specs.{Attempt, is_setup, payload_out, HolderIn, IsSetup, damage_in}
use Rattle.usb_world.specs.{at_attempt, World, IfOut, IsSettled, same_number, same_path}
use Rattle.usb_world.proofs.Interface.{Allows, AllowsOut, PayloadAllows, data_asks_none}
use Rattle.usb_world.proofs.Interface.{same_number-is, others_leave, payload_allowed, same_is}
use Rattle.usb_world.proofs.Interface.{sent_allowed, and_of, both, decided, equal_same, false_true}
use Rattle.usb_world.proofs.Interface.{or_right, self_number}
use Rattle.usb_hub.specs.{PortMark, allowed, gives_power, sets_feature}
use Rattle.usb_hub.proofs.BacklogSteps.{AttemptAllows}

-- Attempts that set no feature of any port, whoever hears them

-- IN and OUT, where no device remembers a packet before them
pub data_allows : (m r : PortMark) (a : Attempt) (w : World) → is_setup a.kind ≡ false
    → IsSettled w.roots → AttemptAllows m r a w
data_allows m r a w kind settled q o j e t at deep =
    ap (allowed _ _) (data_asks_none a w kind settled q o j e t at deep)

-- what a device asks sets no feature
abbrev pub sets_none : Effect → Bool
sets_none (Calls c i) = not (sets_feature c)
sets_none _ = true

none_allowed : (m r : ℕ → Bool) (e : Effect) → sets_none e ≡ true → allowed m r e ≡ true
none_allowed m r (Calls SetPower i) h = false_true h
none_allowed m r (Calls SetReset i) h = false_true h
none_allowed m r (Calls c i) h =
    and_of (m i || true) (r i || true) (or_right (m i) true refl) (or_right (r i) true refl)
none_allowed m r e h = refl

clears_none : (f : ℕ) (c : PortCall) → clear_call f ≡ Some c → not (sets_feature c) ≡ true
clears_none f c h = split (f == PORT_ENABLE) (f == PORT_POWER) (f == C_PORT_CONNECTION)
    (f == C_PORT_ENABLE) (f == C_PORT_RESET) h
  where
    is : (x : PortCall) → not (sets_feature x) ≡ true → Some x ≡ Some c
        → not (sets_feature c) ≡ true
    is x g e = subst (λ y. not (sets_feature y) ≡ true) (same_Some x c e) g

    split : (x y z u v : Bool)
        → (if x then Some ClearEnable else if y then Some ClearPower else if z then Some
        ClearConnectionChange else if u then Some ClearEnableChange else if v then Some
        ClearResetChange else None) ≡ Some c → not (sets_feature c) ≡ true
    split true y z u v e = is ClearEnable refl e
    split false true z u v e = is ClearPower refl e
    split false false true u v e = is ClearConnectionChange refl e
    split false false false true v e = is ClearEnableChange refl e
    split false false false false true e = is ClearResetChange refl e
    split false false false false false e = false_true (ap is_some e)

false_not_true : {A : Type 0} (x : Bool) → x ≡ false → x ≡ true → A
false_not_true x f t = false_true (sym f ∙ t)

-- a request that is not SetPortFeature
pub request_sets_none : (q : Setup) → Is q PORT_OUT SET_FEATURE ≡ false → Allows sets_none q
request_sets_none q h = record {
  rests = refl;
  off = λ e. refl;
  set = λ e c i x y. false_not_true (Is q PORT_OUT SET_FEATURE) h e;
  clear = λ e c i x y. clears_none q.value c x;
}

payload_effect : (T : Effect → Bool) → T Leaves ≡ true → (a : Attempt) (w : World)
    → PayloadAllows T a.payload → (q : Sent) → payload_out a (damage_in (at_attempt w)) ≡ Some q
    → (deep : Bool) (s : State) → T (effect_of q deep s) ≡ true
payload_effect T l a w h q o = sent_allowed T l q
    (subst (IfOut (AllowsOut T)) o (payload_allowed T l a (damage_in (at_attempt w)) h))

pub payload_sets_none : (m r : PortMark) (a : Attempt) (w : World)
    → PayloadAllows sets_none a.payload → AttemptAllows m r a w
payload_sets_none m r a w h q o j e t at deep =
    none_allowed _ _ (effect_of q deep t) (payload_effect sets_none refl a w h q o deep t)

-- SetPortFeature, where one device holds the address

-- what a device asks at a port of this number, of calls that set a feature: at other ports none
-- that it sets
abbrev pub only_at : ℕ → PortCall → Effect → Bool
only_at n d Leaves = true
only_at n d (Calls c i) = same_number n i &&
    ((gives_power d || not (gives_power c)) && (is_reset d || not (is_reset c)))
only_at n d PortsOff = false

sets_as : (f : ℕ) (c d : PortCall) → set_call f ≡ Some c → set_call f ≡ Some d
    → ((gives_power d || not (gives_power c)) && (is_reset d || not (is_reset c))) ≡ true
sets_as f c d x y = subst (λ z. ((gives_power z || not (gives_power c)) &&
    (is_reset z || not (is_reset c))) ≡ true) (same_Some c d (sym x ∙ y)) (itself c)
  where
    itself : (c : PortCall) → ((gives_power c || not (gives_power c)) &&
        (is_reset c || not (is_reset c))) ≡ true
    itself SetPower = refl
    itself c = refl

same_number-suc : (m n : ℕ) → suc m ≡ suc n → same_number m n ≡ true
same_number-suc m n e = subst (λ x. same_number m x ≡ true) (ap pred e) (self_number m)
  where
    pred : ℕ → ℕ
    pred zero = zero
    pred (suc n) = n

power_not_configuration : {A : Type 0} (q : Setup) → Is q PORT_OUT SET_FEATURE ≡ true
    → Is q DEVICE_OUT SET_CONFIGURATION ≡ true → A
power_not_configuration q x y = false_true
    (ap (λ z. z == DEVICE_OUT) (sym (equal_same q.request_type PORT_OUT
    (both (q.request_type == PORT_OUT) (q.request == SET_FEATURE) x).0))
    ∙ (both (q.request_type == DEVICE_OUT) (q.request == SET_CONFIGURATION) y).0)

apart_clear : {A : Type 0} (q : Setup) → Is q PORT_OUT SET_FEATURE ≡ true
    → Is q PORT_OUT CLEAR_FEATURE ≡ true → A
apart_clear q x y = false_true (ap (λ z. z == CLEAR_FEATURE)
    (sym (equal_same q.request SET_FEATURE (both (q.request_type == PORT_OUT)
    (q.request == SET_FEATURE) x).1))
    ∙ (both (q.request_type == PORT_OUT) (q.request == CLEAR_FEATURE) y).1)

request_only_at : (q : Setup) (n : ℕ) (d : PortCall) → Is q PORT_OUT SET_FEATURE ≡ true
    → q.index ≡ suc n → set_call q.value ≡ Some d → Allows (only_at n d) q
request_only_at q n d h names is = record {
  rests = refl;
  off = λ e. power_not_configuration q h e;
  set = λ e c i x y. and_of (same_number n i) _ (same_number-suc n i (sym names ∙ y))
      (sets_as q.value c d x is);
  clear = λ e c i x y. apart_clear q h e;
}

-- the marks cover the call
pub record Covers (m r : PortMark) (j : ℕ) (p : List ℕ) (n : ℕ) (d : PortCall) : Type 0 where
  pub power : gives_power d ≡ true → m j (p ++ (suc n ∷ [])) ≡ true
  pub reset : is_reset d ≡ true → r j (p ++ (suc n ∷ [])) ≡ true

only_at-allowed : (m r : ℕ → Bool) (n : ℕ) (d : PortCall) → (gives_power d ≡ true → m n ≡ true)
    → (is_reset d ≡ true → r n ≡ true) → (e : Effect) → only_at n d e ≡ true → allowed m r e ≡ true
only_at-allowed m r n d power reset Leaves h = refl
only_at-allowed m r n d power reset PortsOff h = false_true h
only_at-allowed m r n d power reset (Calls c i) h =
    let one : _ = both (same_number n i) ((gives_power d || not (gives_power c)) &&
    (is_reset d || not (is_reset c))) h in
    let two : _ = both (gives_power d || not (gives_power c)) (is_reset d || not (is_reset c))
    one.1 in
    subst (λ k. ((m k || not (gives_power c)) && (r k || not (is_reset c))) ≡ true)
    (sym (same_number-is n i one.0))
    (and_of (m n || not (gives_power c)) (r n || not (is_reset c))
    (pick (gives_power d) (m n) (gives_power c) power two.0)
    (pick (is_reset d) (r n) (is_reset c) reset two.1))
  where
    pick : (x y z : Bool) → (x ≡ true → y ≡ true) → (x || not z) ≡ true → (y || not z) ≡ true
    pick true y z f g = subst (λ u. (u || not z) ≡ true) (sym (f refl)) refl
    pick false y z f g = or_right y (not z) g

-- the holder alone asks anything, and of the port that the request names
pub holder_allows : (m r : PortMark) (a : Attempt) (w : World) (h : HolderIn a w) (bytes : List ℕ)
    → IsSetup a bytes → Is (setup_of bytes) PORT_OUT SET_FEATURE ≡ true
    → (n : ℕ) → (setup_of bytes).index ≡ suc n → (d : PortCall) → set_call (setup_of bytes).value
    ≡ Some d → Covers m r h.spot.row h.spot.rest n d → AttemptAllows m r a w
holder_allows m r a w h bytes is sets n names d call covers q o j e t at deep =
    pick (decided (same_number j h.spot.row && same_path e h.spot.rest))
  where
    asked : only_at n d (effect_of q deep t) ≡ true
    asked = payload_effect (only_at n d) refl a w
        (subst (PayloadAllows (only_at n d)) (sym is.payload)
        (request_only_at (setup_of bytes) n d sets names call)) q o deep t

    pick : ((same_number j h.spot.row && same_path e h.spot.rest) ≡ true)
        ⊎ ((same_number j h.spot.row && same_path e h.spot.rest) ≡ false)
        → allowed (λ i. m j (e ++ (suc i ∷ []))) (λ i. r j (e ++ (suc i ∷ []))) (effect_of q deep t)
        ≡ true
    pick (inl x) =
        let there : _ = both (same_number j h.spot.row) (same_path e h.spot.rest) x in
        only_at-allowed (λ i. m j (e ++ (suc i ∷ []))) (λ i. r j (e ++ (suc i ∷ []))) n d
        (λ g. subst (λ j. m j (e ++ (suc n ∷ [])) ≡ true) (same_number-is j h.spot.row there.0)
        (subst (λ e. m h.spot.row (e ++ (suc n ∷ [])) ≡ true) (same_is e h.spot.rest there.1)
        (covers.power g)))
        (λ g. subst (λ j. r j (e ++ (suc n ∷ [])) ≡ true) (same_number-is j h.spot.row there.0)
        (subst (λ e. r h.spot.row (e ++ (suc n ∷ [])) ≡ true) (same_is e h.spot.rest there.1)
        (covers.reset g)))
        (effect_of q deep t) asked
    pick (inr x) = ap (allowed _ _) (others_leave a w h j e t x at q deep)
