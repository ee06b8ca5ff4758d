-- A packet that is for none of the devices that it reaches.
use Rattle.std.proofs.Common.{◌≡◌, ℕ, ◌==◌, ◌&&◌, ◌||◌, if◌then◌else◌, Bool, true, false, List, []}
use Rattle.std.proofs.Common.{◌∷◌, ◌++◌, Option, None, refl, ap, sym, ◌∙◌}
use Rattle.std.proofs.lemmas.Bool.{or_parts}
use Rattle.usb_port.specs.{PortState}
use Rattle.usb_packet.specs.{Toggle, TokenKind, Packet, Token, Payload}
use Rattle.usb_packet.specs.declared.Packet.TheVariants as packet
use Rattle.usb_device.specs.{Answer, RememberedPacket, Effect, Leaves, Content, Whole, Broken, Sent}
use Rattle.usb_device.specs.{State, Reply, answered, received, unread, forgotten, asks}
use Rattle.usb_device.specs.{asked_by_data, asked_by_packet, Ports, ended, vacant, taken, acted}
use Rattle.usb_device.specs.{row_of, hears, reply_to, asked_by, answer_of, effect_of, after_packet}
use Rattle.usb_device.specs.{listed, all_forgotten, held_addresses, has, awaits_data, is_token}
use Rattle.usb_device.specs.{is_for, concerns, concerns_some, answers}
use Rattle.usb_device.specs.declared.transfer.RememberedPacket.TheVariants.{Nothing, SetupSeen}
use Rattle.usb_device.specs.declared.transfer.RememberedPacket.TheVariants.{OutSeen, AckAwaited}
use Rattle.usb_device.proofs.MarkedAddresses.{has-append}

-- ---- at one device

answered-stray : (d : State) (row : List PortState) (m : RememberedPacket) (p : Packet)
    → is_for d m p ≡ false → answered d row m p ≡ (None, d)
answered-stray d row m (Token kind a e) h = rw h refl
answered-stray d row SetupSeen (Payload t bytes) h = cc
answered-stray d row (OutSeen e) (Payload t bytes) h = cc
answered-stray d row (AckAwaited giver) packet.Ack h = cc
answered-stray d row m p h = refl

abbrev stray_reply : Option Answer → State → Reply
stray_reply answer s = (answer, s)

-- nothing is answered, and at most what is remembered changes
abbrev OnlyForgets : State → Reply → Type 0
OnlyForgets s r = (r.0 ≡ None) × (forgotten r.1 ≡ forgotten s)

if-silent : (s : State) (silent : Bool) (r : Reply) → r ≡ stray_reply None (forgotten s)
    → OnlyForgets s (if silent then stray_reply None s else r)
if-silent s true r h = (refl, refl)
if-silent s false r h = (ap (λ (x : Reply). x.0) h, ap (λ (x : Reply). forgotten x.1) h)

received-stray : (s : State) (row : List PortState) (p : Packet) → is_for s s.memory p ≡ false
    → OnlyForgets s (received s row p)
unfolding received
received-stray s row p h = if-silent s s.spec.silent (answered (forgotten s) row s.memory p)
    (answered-stray (forgotten s) row s.memory p h)

forgotten-unread : (s : State) → forgotten (unread s) ≡ forgotten s
unfolding unread
forgotten-unread s = elim s.spec.silent
    as (λ b. forgotten (if b then s else forgotten s) ≡ forgotten s) [ true ↦ refl | false ↦ refl ]

reply-stray : (c : Content) (s : State) (row : List PortState) → concerns c s ≡ false
    → OnlyForgets s (reply_to c s row)
reply-stray (Whole p) s row h = received-stray s row p h
reply-stray Broken s row h = (refl, forgotten-unread s)

-- the same, exactly

unless_silent : (s : State) (silent : Bool) (r : Reply) → r ≡ stray_reply None (forgotten s)
    → (if silent then stray_reply None s else r)
    ≡ stray_reply None (if silent then s else forgotten s)
unless_silent s true r h = refl
unless_silent s false r h = h

pub reply-unread : (c : Content) (s : State) (row : List PortState) → concerns c s ≡ false
    → reply_to c s row ≡ (None, unread s)
unfolding received unread
reply-unread (Whole p) s row h = unless_silent s s.spec.silent
    (answered (forgotten s) row s.memory p) (answered-stray (forgotten s) row s.memory p h)
reply-unread Broken s row h = refl

if-heard : (s : State) (heard : Bool) (r : Reply) → OnlyForgets s r
    → OnlyForgets s (if heard then r else stray_reply None s)
if-heard s true r h = h
if-heard s false r h = (refl, refl)

answer-stray : (q : Sent) (deep : Bool) (s : State) (a : Ports) → concerns q.content s ≡ false
    → OnlyForgets s (answer_of q deep s a)
unfolding answer_of
answer-stray q deep s a h = if-heard s (hears q deep s) (reply_to q.content s (row_of a))
    (reply-stray q.content s (row_of a) h)

asked-stray : (d : State) (m : RememberedPacket) (t : Toggle) (bytes : List ℕ)
    → awaits_data m ≡ false → asked_by_data d m t bytes ≡ Leaves
asked-stray d SetupSeen t bytes h = cc
asked-stray d m t bytes h = refl

packet-asked : (s : State) (p : Packet) → is_for s s.memory p ≡ false → asked_by_packet s p ≡ Leaves
packet-asked s (Payload t bytes) h = asked-stray s s.memory t bytes.items h
packet-asked s p h = refl

if-leaves : (b : Bool) (e : Effect) → e ≡ Leaves → (if b then e else Leaves) ≡ Leaves
if-leaves true e h = h
if-leaves false e h = refl

unless-leaves : (b : Bool) (e : Effect) → e ≡ Leaves → (if b then Leaves else e) ≡ Leaves
unless-leaves true e h = refl
unless-leaves false e h = h

pub asks-stray : (c : Content) (s : State) → concerns c s ≡ false → asked_by c s ≡ Leaves
unfolding asks
asks-stray (Whole p) s h = unless-leaves s.spec.silent (asked_by_packet s p) (packet-asked s p h)
asks-stray Broken s h = refl

effect-stray : (q : Sent) (deep : Bool) (s : State) → concerns q.content s ≡ false
    → effect_of q deep s ≡ Leaves
unfolding effect_of
effect-stray q deep s h = if-leaves (hears q deep s) (asked_by q.content s)
    (asks-stray q.content s h)

-- ---- down the tree

forgotten-step : (q : Sent) (deep : Bool) (b : PortState) (s : State) (a k : Ports) (e : Bool)
    → ((e && (concerns q.content s || concerns_some q.content a)) || concerns_some q.content k)
    ≡ false
    → (concerns_some q.content a ≡ false → all_forgotten (after_packet q true a) ≡ all_forgotten a)
    → (concerns_some q.content k ≡ false → all_forgotten (after_packet q deep k) ≡ all_forgotten k)
    → all_forgotten (if e then taken b (answer_of q deep s a).1
    (acted (effect_of q deep s) (after_packet q true a)) (after_packet q deep k) else taken b
    s a (after_packet q deep k)) ≡ taken b (forgotten s) (all_forgotten a) (all_forgotten k)
unfolding all_forgotten
forgotten-step q deep b s a k true h below further =
    let all = or_parts (concerns q.content s || concerns_some q.content a)
    (concerns_some q.content k) h in
    let here = or_parts (concerns q.content s) (concerns_some q.content a) all.0 in
    ap (λ x. taken b x (all_forgotten (acted (effect_of q deep s) (after_packet q true a)))
    (all_forgotten (after_packet q deep k))) (answer-stray q deep s a here.0).1
    ∙ rw (effect-stray q deep s here.0, below here.1, further all.1) refl
forgotten-step q deep b s a k false h below further =
    ap (λ y. taken b (forgotten s) (all_forgotten a) y) (further h)

pub forgotten-stray : (q : Sent) (deep : Bool) (k : Ports) → concerns_some q.content k ≡ false
    → all_forgotten (after_packet q deep k) ≡ all_forgotten k
unfolding after_packet all_forgotten concerns_some
forgotten-stray q deep ended h = refl
forgotten-stray q deep (vacant b k) h = ap (λ x. vacant b x) (forgotten-stray q deep k h)
forgotten-stray q deep (taken b s a k) h =
    forgotten-step q deep b s a k b.enable h (forgotten-stray q true a) (forgotten-stray q deep k)

answers-step : (q : Sent) (deep : Bool) (s : State) (a k : Ports) (e : Bool)
    → ((e && (concerns q.content s || concerns_some q.content a)) || concerns_some q.content k)
    ≡ false → (concerns_some q.content a ≡ false → answers q true a ≡ [])
    → (concerns_some q.content k ≡ false → answers q deep k ≡ [])
    → (if e then listed (answer_of q deep s a).0 (answers q true a ++ answers q deep k) else answers
    q deep k) ≡ []
answers-step q deep s a k true h below further =
    let all = or_parts (concerns q.content s || concerns_some q.content a)
    (concerns_some q.content k) h in
    let here = or_parts (concerns q.content s) (concerns_some q.content a) all.0 in
    rw ((answer-stray q deep s a here.0).0, below here.1, further all.1) refl
answers-step q deep s a k false h below further = further h

pub answers-stray : (q : Sent) (deep : Bool) (k : Ports) → concerns_some q.content k ≡ false
    → answers q deep k ≡ []
unfolding answers concerns_some
answers-stray q deep ended h = refl
answers-stray q deep (vacant b k) h = answers-stray q deep k h
answers-stray q deep (taken b s a k) h =
    answers-step q deep s a k b.enable h (answers-stray q true a) (answers-stray q deep k)

-- ---- a token

pub or-joined : (x y z : Bool) → (x || (y || z)) ≡ ((x || y) || z)
or-joined true y z = refl
or-joined false y z = refl

token-step : (a n : ℕ) (below further : List ℕ) (x y e : Bool) → x ≡ has a below → y ≡ has a further
    → ((e && (a == n || x)) || y) ≡ has a (if e then n ∷ (below ++ further) else further)
token-step a n below further x y true h g =
    rw (h, g) (sym (ap (λ b. a == n || b) (has-append a below further)
    ∙ or-joined (a == n) (has a below) (has a further)))
token-step a n below further x y false h g = g

pub token-concerns : (kind : TokenKind) (a e : ℕ) (k : Ports)
    → concerns_some (Whole (Token kind a e)) k ≡ has a (held_addresses k)
unfolding concerns_some held_addresses
token-concerns kind a e ended = refl
token-concerns kind a e (vacant b k) = token-concerns kind a e k
token-concerns kind a e (taken b s c k) =
    token-step a s.registers.address (held_addresses c) (held_addresses k)
    (concerns_some (Whole (Token kind a e)) c) (concerns_some (Whole (Token kind a e)) k)
    b.enable (token-concerns kind a e c) (token-concerns kind a e k)

-- ---- bytes that spell no packet; any other packet than a token where nothing is remembered

either-concerns : (e x y z : Bool) → x ≡ false → y ≡ false → z ≡ false
    → ((e && (x || y)) || z) ≡ false
either-concerns true x y z f g h = rw (f, g, h) refl
either-concerns false x y z f g h = h

pub broken-concerns : (k : Ports) → concerns_some Broken k ≡ false
unfolding concerns_some
broken-concerns ended = refl
broken-concerns (vacant b k) = broken-concerns k
broken-concerns (taken b s a k) = either-concerns b.enable false (concerns_some Broken a)
    (concerns_some Broken k) refl (broken-concerns a) (broken-concerns k)

rested-is : (s : State) (p : Packet) → is_token p ≡ false → is_for (forgotten s) Nothing p ≡ false
rested-is s (Token kind a e) h = cc
rested-is s p h = refl

pub rested-concerns : (p : Packet) (k : Ports) → is_token p ≡ false
    → concerns_some (Whole p) (all_forgotten k) ≡ false
unfolding concerns_some all_forgotten
rested-concerns p ended h = refl
rested-concerns p (vacant b k) h = rested-concerns p k h
rested-concerns p (taken b s a k) h =
    either-concerns b.enable (is_for (forgotten s) Nothing p)
    (concerns_some (Whole p) (all_forgotten a)) (concerns_some (Whole p) (all_forgotten k))
    (rested-is s p h) (rested-concerns p a h) (rested-concerns p k h)

pub ruleset strays = (
  forgotten-stray,
  answers-stray,
  token-concerns,
  broken-concerns,
  rested-concerns,
)
