-- Between attempts nothing is remembered: so an attempt concerns the device at its address alone.
use Rattle.std.proofs.Common.{◌≡◌, ℕ, zero, suc, ◌&&◌, Bool, true, false, List, [], ◌∷◌, Some, refl}
use Rattle.std.proofs.Common.{subst, append-nil, arith, ◌==◌, inl, inr, Option, None, option_map}
use Rattle.std.proofs.Common.{ap, sym, ◌∙◌, is_some}
use Rattle.usb_port.specs.{PortState}
use Rattle.usb_device.specs.{State, Ports, vacant, taken, reach_at, state_at, Answer, Content, Sent}
use Rattle.usb_device.specs.{Leaves, forgotten, reset_state, asks, ended, full, place_at, Location}
use Rattle.usb_device.specs.{place_on, reach_on, asked_by, answer_of, effect_of, after_packet}
use Rattle.usb_device.specs.{listed, all_forgotten, Place, answers, sent_in, forgotten_in}
use Rattle.usb_device.specs.{changed_at, path_to}
use Rattle.usb_world.specs.{same_number, same_path, address_of, resets_at, reset_if, after_sent}
use Rattle.usb_world.specs.{answers_to, after_attempt, deep_at, calls_on, IsTokenFor, IsDataOut}
use Rattle.usb_world.specs.{IsAckOut, IfOut, IsAttemptAt, sent_resets, attempt_resets, IsSettled}
use Rattle.usb_world.specs.{NobodyHolds, OneHolds, OthersForgot, Alone, AloneAt}
use Rattle.usb_world.proofs.Booleans.{false_true, both, and_of, decided}
use Rattle.usb_world.proofs.TreeHolders.{is_twice-one_path}
use Rattle.usb_world.proofs.Equality.{equal_same, self_number, self_path}
use Rattle.usb_world.proofs.States.{reset_if-false, forgotten-nothing}
use Rattle.usb_world.proofs.packets.Packets.{stands, state_stands, packet_state, true_deep}
use Rattle.usb_world.proofs.packets.Packets.{heard_state, calm_token as token_out}
use Rattle.usb_world.proofs.packets.Packets.{calm_ack as ack_out, calm_sent, rested_answer}
use Rattle.usb_world.proofs.packets.Packets.{forgotten_state, ack_calls}
use Rattle.usb_device.specs.declared.transfer.RememberedPacket.TheVariants.{Nothing}
use Rattle.usb_world.proofs.courses.Courses.{each_settled}
use Rattle.usb_world.proofs.ports.PortCalls.{place_at-changed}
use Rattle.usb_device.proofs.Interface.{changed_at-same, changed_at-twice}

-- A walk to one device of a tree in which all others are at rest, in what way so ever.

-- so it is of each device of a tree, by whether it is reached, where the row is or is not
abbrev pub Each : (Bool → State → Type 0) → Bool → Ports → Type 0
Each S on k = (i : ℕ) (e : List ℕ) (t : State) → state_at k i e ≡ Some t
    → S (on && reach_at k i e) t

-- and of each but the one at a path
abbrev pub Others : (Bool → State → Type 0) → Ports → ℕ → List ℕ → Type 0
Others S k j p = (i : ℕ) (e : List ℕ) (t : State) → (same_number i j && same_path e p) ≡ false
    → state_at k i e ≡ Some t → S (reach_at k i e) t

-- what is so of a tree and a path in it, at the device there, and on past a port, a device above it
-- and a device before it
pub record AlongWay (S : Bool → State → Type 0) (P : Bool → Ports → ℕ → List ℕ → Type 0) : Type 0
  where
    pub here : (deep : Bool) (b : PortState) (s : State) (a k : Ports) → b.enable ≡ true
        → Each S true a → Each S true k → P deep (taken b s a k) zero []
    pub below : (deep : Bool) (b : PortState) (s : State) (a k : Ports) (j : ℕ) (p : List ℕ)
        → b.enable ≡ true → S true s → Each S true k → P true a j p
        → P deep (taken b s a k) zero (suc j ∷ p)
    pub past_port : (deep : Bool) (b : PortState) (k : Ports) (j : ℕ) (p : List ℕ) → P deep k j p
        → P deep (vacant b k) (suc j) p
    pub past_device : (deep : Bool) (b : PortState) (s : State) (a k : Ports) (j : ℕ) (p : List ℕ)
        → S b.enable s → Each S b.enable a → P deep k j p → P deep (taken b s a k) (suc j) p

pub along_way : {S : Bool → State → Type 0} {P : Bool → Ports → ℕ → List ℕ → Type 0}
    → AlongWay S P → (deep : Bool) (k : Ports) (j : ℕ) (p : List ℕ) → reach_at k j p ≡ true
    → Others S k j p → P deep k j p
unfolding state_at reach_at
along_way l deep (vacant b k) (suc j) p h c =
    l.past_port deep b k j p (along_way l deep k j p h (λ i e. c (suc i) e))
along_way {S} {P} l deep (taken b s a k) zero [] h c =
    l.here deep b s a k h
    (λ i e t f. subst (λ x. S (x && reach_at a i e) t) h (c zero (suc i ∷ e) t refl f))
    (λ i e t f. c (suc i) e t refl f)
along_way {S} {P} l deep (taken b s a k) zero (suc j ∷ p) h c =
    let on : _ = both b.enable (reach_at a j p) h in
    l.below deep b s a k j p on.0 (subst (λ x. S x s) on.0 (c zero [] s refl refl))
    (λ i e t f. c (suc i) e t refl f)
    (along_way l true a j p on.1
    (λ i e t d f. subst (λ x. S (x && reach_at a i e) t) on.0 (c zero (suc i ∷ e) t d f)))
along_way l deep (taken b s a k) (suc j) p h c =
    l.past_device deep b s a k j p (c zero [] s refl refl)
    (λ i e t f. c zero (suc i ∷ e) t refl f) (along_way l deep k j p h (λ i e. c (suc i) e))
along_way l deep k j p h c = false_true h

-- Between attempts nothing is remembered: so an attempt concerns the device at its address alone.

-- a device's answer
abbrev pub answer_at : Sent → Bool → Option Place → List Answer
answer_at q deep (Some (full b s a)) = listed (answer_of q deep s a).0 []
answer_at q deep _ = []

abbrev pub answers_at : Option Sent → Bool → Option Place → List Answer
answers_at None deep x = []
answers_at (Some q) deep x = answer_at q deep x

-- a reached device with its ports after a packet, where all others are at rest
abbrev pub step_in : Option Sent → Bool → Place → Place
step_in None deep x = x
step_in (Some q) deep x = sent_in q deep x

-- and after an attempt
abbrev pub place_after : Option Sent → Option Sent → Option Sent → Bool → Place → Place
place_after token payload reply deep x =
    forgotten_in (step_in reply deep (step_in payload deep (step_in token deep x)))

-- What an attempt does where one device holds its address: that device's answers are heard, and it
-- is then as one
-- device alone would be; another is reset by it, or as it was.
pub record OneActs (t d r : Option Sent) (k : Ports) (x : Location) : Type 0 where
  pub first : answers_to t k ≡ answers_at t (deep_at false x.rest) (place_on k x)
  pub second : answers_to d (after_sent t k) ≡ answers_at d (deep_at false x.rest)
      (option_map (step_in t (deep_at false x.rest)) (place_on k x))
  pub place : place_on (after_attempt t d r k) x
      ≡ option_map (place_after t d r (deep_at false x.rest)) (place_on k x)
  pub on : reach_on (after_sent r (after_sent d (after_sent t k))) x ≡ true
  pub others : (i : ℕ) (e : List ℕ) (s : State) → (same_number i x.row && same_path e x.rest)
      ≡ false → state_at k i e ≡ Some s
      → state_at (after_attempt t d r k) i e ≡ Some (reset_if (attempt_resets t d k i e) s)

-- Between attempts

pub settled_memory : (k : Ports) (j : ℕ) (p : List ℕ) (s : State) → IsSettled k
    → state_at k j p ≡ Some s → s.memory ≡ Nothing
settled_memory k j p s h e = grind (arith, forgotten_state)

-- A device that remembers nothing asks nothing of its ports

rested_asks : (c : Content) (s : State) → s.memory ≡ Nothing → asked_by c s ≡ Leaves
unfolding asks
rested_asks c s n = grind arith

pub rested_effect : (q : Sent) (deep : Bool) (s : State) → s.memory ≡ Nothing
    → effect_of q deep s ≡ Leaves
unfolding effect_of
rested_effect q deep s n = grind (arith, rested_asks)

-- a packet for whom it is not meant
abbrev pub IsRested : Sent → State → Type 0
IsRested q s = (s.memory ≡ Nothing) × (calls_on q.content s ≡ false)

-- so each that it reaches
abbrev pub Resting : Sent → Bool → State → Type 0
Resting q on t = on ≡ true → IsRested q t

-- Where the packet is for nobody

-- it changes nothing, and nothing is answered
abbrev pub Unmoved : Sent → Bool → Ports → Type 0
Unmoved q deep k = (after_packet q deep k ≡ k) × (answers q deep k ≡ [])

rest_device : (q : Sent) (deep : Bool) (b : PortState) (s : State) (a k : Ports)
    → Resting q b.enable s → (b.enable ≡ true → Unmoved q true a)
    → (after_packet q deep (taken b s a k) ≡ taken b s a (after_packet q deep k))
    × (answers q deep (taken b s a k) ≡ answers q deep k)
unfolding after_packet answers
rest_device q deep b s a k own below = grind (arith, rested_answer, rested_effect)

pub rest_all : (q : Sent) (deep : Bool) (k : Ports) → Each (Resting q) true k → Unmoved q deep k
unfolding after_packet answers state_at reach_at
rest_all q deep ended c = (refl, refl)
rest_all q deep (vacant b k) c =
    let more : _ = rest_all q deep k (λ i e. c (suc i) e) in (ap (vacant b) more.0, more.1)
rest_all q deep (taken b s a k) c =
    let more : _ = rest_all q deep k (λ i e. c (suc i) e) in
    let own : _ = rest_device q deep b s a k (c zero [] s refl) (λ on. rest_all q true a
    (subst (λ x. Each (Resting q) x a) on (λ i e. c zero (suc i ∷ e)))) in
    (own.0 ∙ ap (taken b s a) more.0, own.1 ∙ more.1)

-- Where it is for one device at most

-- it changes the place of that device alone, and that device's is the answer
record LonePacket (q : Sent) (deep : Bool) (k : Ports) (j : ℕ) (p : List ℕ) : Type 0 where
  ports : after_packet q deep k ≡ changed_at (sent_in q (deep_at deep p)) k j p
  answer : answers q deep k ≡ answer_at q (deep_at deep p) (place_at k j p)
  on : reach_at (after_packet q deep k) j p ≡ true

lone_packet : (q : Sent) (deep : Bool) (k : Ports) (j : ℕ) (p : List ℕ)
    → reach_at k j p ≡ true → Others (Resting q) k j p → LonePacket q deep k j p
unfolding after_packet answers changed_at place_at reach_at
lone_packet q = along_way {S = Resting q} {P = LonePacket q} (record {
  here = λ deep b s a k on below more.
      let lower : _ = rest_all q true a below in
      let rest : _ = rest_all q deep k more in
      record {
        ports = rw (on, lower.0, rest.0) refl;
        answer = rw (on, lower.1, rest.1) refl;
        on = rw on refl;
      };
  below = λ deep b s a k j p on own more ih.
      let rest : _ = rest_all q deep k more in
      let quiet : _ = rested_answer q deep s a (own refl).0 (own refl).1 in
      let left : _ = rested_effect q deep s (own refl).0 in
      record {
        ports = rw (on, quiet, left, ih.ports, rest.0, true_deep p) refl;
        answer = rw (on, quiet, ih.answer, rest.1, true_deep p)
            (append-nil (answer_at q true (place_at a j p)));
        on = rw (on, left) ih.on;
      };
  past_port = λ deep b k j p ih.
      record { ports = ap (vacant b) ih.ports; answer = ih.answer; on = ih.on };
  past_device = λ deep b s a k j p own below ih.
      let same : _ = rest_device q deep b s a k own
      (λ on. rest_all q true a (subst (λ x. Each (Resting q) x a) on below)) in
      record {
        ports = same.0 ∙ ap (taken b s a) ih.ports;
        answer = same.1 ∙ ih.answer;
        on = ap (λ m. reach_at m (suc j) p) same.0 ∙ ih.on;
      };
})

-- where no other remembers anything, forgetting changes that device alone
pub others_forget : (k : Ports) (j : ℕ) (p : List ℕ) → reach_at k j p ≡ true
    → OthersForgot k (record { row = j; rest = p })
    → all_forgotten k ≡ changed_at forgotten_in k j p
unfolding all_forgotten changed_at
others_forget = along_way {S = λ on t. t.memory ≡ Nothing}
    {P = λ deep k j p. all_forgotten k ≡ changed_at forgotten_in k j p} (record {
      here = λ deep b s a k on below more.
          rw (each_settled a below, each_settled k more) refl;
      below = λ deep b s a k j p on own more ih.
          rw (forgotten-nothing s own, ih, each_settled k more) refl;
      past_port = λ deep b k j p ih. ap (vacant b) ih;
      past_device = λ deep b s a k j p own below ih.
          rw (forgotten-nothing s own, each_settled a below, ih) refl;
    }) false

-- For whom a packet is meant

pub token_calls : (n : ℕ) (c : Content) (s : State) → IsTokenFor n c → (n == address_of s) ≡ false
    → calls_on c s ≡ false
token_calls n c s h d = grind arith

pub payload_calls : (c : Content) (s : State) → IsDataOut c → calls_on c s ≡ false
payload_calls c s h = grind arith

-- Nobody holds the address: an attempt changes nothing, and nothing is answered

pub sent_to_nobody : (o : Option Sent) (k : Ports) → IsSettled k
    → ((q : Sent) → o ≡ Some q → (t : State) → ((i : ℕ) × (e : List ℕ) × (state_at k i e ≡ Some t)
    × (reach_at k i e ≡ true)) → calls_on q.content t ≡ false)
    → (after_sent o k ≡ k) × (answers_to o k ≡ [])
sent_to_nobody None k s c = (refl, refl)
sent_to_nobody (Some q) k s c = rest_all q false k
    (λ i e t h on. (settled_memory k i e t s h, c q refl t (i, e, h, on)))

pub nobody_answers : (n : ℕ) (t d r : Option Sent) → IsAttemptAt n t d r → (k : Ports) → IsSettled k
    → NobodyHolds n k
    → (after_attempt t d r k ≡ k) × (answers_to t k ≡ []) × (answers_to d (after_sent t k) ≡ [])
nobody_answers n t d r is k s c =
    let first = sent_to_nobody t k s (λ q o x w. token_calls n q.content x
    (subst (IfOut (IsTokenFor n)) o is.token) (c w.0 w.1 x w.2 w.3)) in
    let second = sent_to_nobody d k s (λ q o x w. payload_calls q.content x
    (subst (IfOut IsDataOut) o is.payload)) in
    let third = sent_to_nobody r k s (λ q o x w. ack_calls q.content x
    (subst (IfOut IsAckOut) o is.reply)) in (
      ap all_forgotten (ap (λ x. after_sent r (after_sent d x)) first.0 ∙ ap (after_sent r) second.0
          ∙ third.0) ∙ s,
      first.1,
      ap (answers_to d) first.0 ∙ second.1,
    )

-- One device holds the address

pub other_address : (n : ℕ) (k : Ports) (j : ℕ) (p : List ℕ)
    → OneHolds n k (record { row = j; rest = p }) → (i : ℕ) (e : List ℕ) (t : State)
    → (same_number i j && same_path e p) ≡ false → state_at k i e ≡ Some t → reach_at k i e ≡ true
    → (n == address_of t) ≡ false
other_address n k j p o i e t d h on = elim (decided (n == address_of t)) [
  | inl y ↦
      let same : _ = is_twice-one_path k i e j p n o.single on (ap (option_map address_of) h
      ∙ ap (λ x. Some x) (sym (equal_same n (address_of t) y))) o.on o.at in
      false_true (sym d ∙ rw (same.0, same.1) (and_of (same_number j j) _ (self_number j)
      (self_path p)))
  | inr y ↦ y
]

-- a device that is reached, with its port and its own ports
pub record IsFull (x : Option Place) : Type 0 where
  pub port : PortState
  pub own : State
  pub below : Ports
  pub at : x ≡ Some (full port own below)

pub reach-full : (k : Ports) (j : ℕ) (p : List ℕ) → reach_at k j p ≡ true → IsFull (place_at k j p)
unfolding reach_at place_at
reach-full (vacant b k) (suc j) p h = reach-full k j p h
reach-full (taken b s a k) zero [] h = record { port = b; own = s; below = a; at = refl }
reach-full (taken b s a k) zero (suc j ∷ p) h =
    reach-full a j p (both b.enable (reach_at a j p) h).1
reach-full (taken b s a k) (suc j) p h = reach-full k j p h
reach-full k j p h = false_true h

pub full_state : (k : Ports) (j : ℕ) (p : List ℕ) (x : IsFull (place_at k j p))
    → state_at k j p ≡ Some x.own
full_state k j p x = sym (state_stands k j p) ∙ ap stands x.at

heard_rest : (q : Sent) (d on : Bool) (x : Option Place)
    → ((t : State) → stands x ≡ Some t → on ≡ true → IsRested q t) → heard_state q d on x ≡ stands x
heard_rest q d on x c = grind (arith, rested_answer)

-- a packet that is not meant for a device leaves it as it is, or resets it
pub rest_state : (q : Sent) (deep : Bool) (k : Ports) (i : ℕ) (e : List ℕ)
    → ((t : State) → state_at k i e ≡ Some t → reach_at k i e ≡ true → IsRested q t)
    → state_at (after_packet q deep k) i e ≡ option_map (reset_if (resets_at q deep k i e))
    (state_at k i e)
rest_state q deep k i e c =
    packet_state q deep k i e
    ∙ ap (option_map (reset_if (resets_at q deep k i e)))
    (heard_rest q (deep_at deep e) (reach_at k i e) (place_at k i e)
    (λ t h on. c t (sym (state_stands k i e) ∙ h) on) ∙ state_stands k i e)

reset_forgot : (b : Bool) (o : Option State) (t : State)
    → ((s : State) → o ≡ Some s → s.memory ≡ Nothing) → option_map (reset_if b) o ≡ Some t
    → t.memory ≡ Nothing
unfolding reset_state
reset_forgot b o t c h = grind arith

-- what one packet does then
pub record SentToOne (o : Option Sent) (k : Ports) (x : Location) : Type 0 where
  pub ports : after_sent o k ≡ changed_at (step_in o (deep_at false x.rest)) k x.row x.rest
  pub on : reach_on (after_sent o k) x ≡ true
  pub answer : answers_to o k ≡ answers_at o (deep_at false x.rest) (place_on k x)
  pub forgot : OthersForgot (after_sent o k) x
  pub others : (i : ℕ) (e : List ℕ) → (same_number i x.row && same_path e x.rest) ≡ false
      → state_at (after_sent o k) i e ≡ option_map (reset_if (sent_resets o k i e)) (state_at k i e)

pub sent_place : {o : Option Sent} {k : Ports} {x : Location} → SentToOne o k x
    → place_on (after_sent o k) x ≡ option_map (step_in o (deep_at false x.rest)) (place_on k x)
sent_place {o} {k} {x} z = ap (λ m. place_on m x) z.ports
    ∙ place_at-changed _ k x.row x.rest

pub others_rest : (q : Sent) (k : Ports) (x : Location) → Alone (Some q) k x
    → Others (Resting q) k x.row x.rest
others_rest q k x h i e t d f on = (h.forgot i e t d f, h.uncalled q refl i e t d f on)

pub sent_to_one : (o : Option Sent) (k : Ports) (x : Location) → Alone o k x → SentToOne o k x
sent_to_one None k x h = grind (arith, changed_at-same, reset_if-false)
sent_to_one (Some q) k x h = record {
  ports = lone.ports;
  on = lone.on;
  answer = lone.answer;
  forgot = λ i e t d g. reset_forgot (resets_at q false k i e) (state_at k i e) t
      (λ s. h.forgot i e s d) (sym (others i e d) ∙ g);
  others = others;
}
  where
    lone : LonePacket q false k x.row x.rest
    lone = lone_packet q false k x.row x.rest h.on (others_rest q k x h)

    others : (i : ℕ) (e : List ℕ) → (same_number i x.row && same_path e x.rest) ≡ false
        → state_at (after_packet q false k) i e ≡ option_map (reset_if (resets_at q false k i e))
        (state_at k i e)
    others i e d = rest_state q false k i e (λ t. others_rest q k x h i e t d)

-- The packets of an attempt

pub alone_holder : (n : ℕ) (t : Option Sent) → IfOut (IsTokenFor n) t → (k : Ports) (x : Location)
    → IsSettled k → OneHolds n k x → Alone t k x
alone_holder n t is k x s o = grind (arith, other_address, settled_memory, token_calls)

pub alone_sent : (o : Option Sent) (k : Ports) (p : List ℕ) → AloneAt o k p
    → AloneAt None (after_sent o k) p
alone_sent o k [] h = tt
alone_sent o k (zero ∷ p) h = h
alone_sent o k (suc j ∷ p) h =
    let x : _ = sent_to_one o k (record { row = j; rest = p }) h in
    record {
      on = x.on;
      forgot = x.forgot;
      uncalled = λ q e i x t d f on. false_true (ap is_some e);
    }

pub alone_data : (o : Option Sent) (k : Ports) (p : List ℕ) → AloneAt None k p → IfOut IsDataOut o
    → AloneAt o k p
alone_data o k p h is = grind arith

pub alone_ack : (o : Option Sent) (k : Ports) (p : List ℕ) → AloneAt None k p → IfOut IsAckOut o
    → AloneAt o k p
alone_ack o k p h is = grind arith

module _ (n : ℕ) (t d r : Option Sent) (is : IsAttemptAt n t d r) (k : Ports) (x : Location)
    (one : Alone t k x) where
  abbrev pub deep : Bool
  deep = deep_at false x.rest

  pub second_alone : Alone d (after_sent t k) x
  second_alone = alone_data d (after_sent t k) (path_to x) (alone_sent t k (path_to x) one)
      is.payload

  pub third_alone : Alone r (after_sent d (after_sent t k)) x
  third_alone = alone_ack r (after_sent d (after_sent t k)) (path_to x)
      (alone_sent d (after_sent t k) (path_to x) second_alone) is.reply

  pub last_alone : Alone None (after_sent r (after_sent d (after_sent t k))) x
  last_alone = alone_sent r (after_sent d (after_sent t k)) (path_to x) third_alone

  data_is : after_sent d (after_sent t k)
      ≡ changed_at (λ y. step_in d deep (step_in t deep y)) k x.row x.rest
  data_is = (sent_to_one d (after_sent t k) x second_alone).ports
      ∙ ap (λ y. changed_at (step_in d deep) y x.row x.rest) (sent_to_one t k x one).ports
      ∙ changed_at-twice (step_in d deep) (step_in t deep) k x.row x.rest

  pub end_is : after_sent r (after_sent d (after_sent t k))
      ≡ changed_at (λ y. step_in r deep (step_in d deep (step_in t deep y))) k x.row x.rest
  end_is = (sent_to_one r (after_sent d (after_sent t k)) x third_alone).ports
      ∙ ap (λ y. changed_at (step_in r deep) y x.row x.rest) data_is
      ∙ changed_at-twice (step_in r deep) (λ y. step_in d deep (step_in t deep y)) k x.row x.rest

  pub all_is : after_attempt t d r k ≡ changed_at (place_after t d r deep) k x.row x.rest
  all_is = grind (arith, changed_at-twice, end_is, last_alone, others_forget)

pub one_device : (n : ℕ) (t d r : Option Sent) → IsAttemptAt n t d r → (k : Ports) (at : Location)
    → IsSettled k → OneHolds n k at → OneActs t d r k at
unfolding reset_state
one_device n t d r is k at s o = record {
  first = x.answer;
  second = y.answer ∙ ap (answers_at d (deep_at false at.rest)) (sent_place x);
  place = ap (λ m. place_on m at) (all_is n t d r is k at one)
      ∙ place_at-changed (place_after t d r (deep_at false at.rest)) k at.row at.rest;
  on = z.on;
  others = λ i e v w h.
      forgotten_state (after_sent r (after_sent d (after_sent t k))) i e
      ∙ ap (option_map forgotten) (z.others i e w
      ∙ ap (λ b. option_map (reset_if b) (state_at (after_sent d (after_sent t k)) i e))
      (calm_sent r (ack_out r is.reply) (after_sent d (after_sent t k)) i e)
      ∙ sym (reset_if-false (state_at (after_sent d (after_sent t k)) i e))
      ∙ y.others i e w ∙ ap (option_map (reset_if (attempt_resets t d k i e))) (x.others i e w
      ∙ ap (λ b. option_map (reset_if b) (state_at k i e))
      (calm_sent t (token_out n t is.token) k i e) ∙ sym (reset_if-false (state_at k i e))
      ∙ h))
      ∙ ap (λ u. Some u) (forgot_reset (attempt_resets t d k i e) v (settled_memory k i e v s h));
}
  where
    forgot_reset : (b : Bool) (v : State) → v.memory ≡ Nothing
        → forgotten (reset_if b v) ≡ reset_if b v
    forgot_reset true v m = refl
    forgot_reset false v m = ap (λ u. record v { memory = u }) (sym m)

    one : Alone t k at
    one = alone_holder n t is.token k at s o

    x : SentToOne t k at
    x = sent_to_one t k at one

    y : SentToOne d (after_sent t k) at
    y = sent_to_one d (after_sent t k) at (second_alone n t d r is k at one)

    z : SentToOne r (after_sent d (after_sent t k)) at
    z = sent_to_one r (after_sent d (after_sent t k)) at (third_alone n t d r is k at one)
