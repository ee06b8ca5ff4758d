-- Which devices stand where, after a packet.
use Rattle.std.proofs.Common.{◌≡◌, ℕ, zero, suc, Bool, true, false, if◌then◌else◌, List, [], ◌∷◌}
use Rattle.std.proofs.Common.{◌++◌, Option, None, Some, refl, ap, ap₂, ◌∙◌}
use Rattle.usb_port.specs.{PortState, PortCall, called_port}
use Rattle.usb_device.specs.{Effect, Leaves, Calls, PortsOff, Content, Whole, Broken, Sent, Spec}
use Rattle.usb_device.specs.{State, Reply, unread, forgotten, reset_state, Ports, ended, vacant}
use Rattle.usb_device.specs.{taken, empty, full, Plugged, before, all_off, reset_where, called}
use Rattle.usb_device.specs.{changed_at, acted, row_of, Heard, hears, reply_to, answer_of}
use Rattle.usb_device.specs.{effect_of, after_packet, on_port, delivered_place, delivered_device}
use Rattle.usb_device.specs.{figure, figure_in, figure_of, Place}
use Rattle.usb_device.specs.declared.delivery.Heard.TheVariants.{NoAnswer}
use Rattle.usb_device.proofs.packets.RowFrames.{keeps-received}

pub figure-before : (q : Place) (k : Ports) → figure (before q k) ≡ figure_in q ++ figure k
unfolding figure
figure-before (empty b) k = refl
figure-before (full b s a) k = refl

figure-off : (k : Ports) → figure (all_off k) ≡ figure k
unfolding figure all_off
figure-off ended = refl
figure-off (vacant b k) = ap (λ m. Some None ∷ m) (figure-off k)
figure-off (taken b s a k) = ap (λ m. Some (Some s.spec) ∷ (figure a ++ m)) (figure-off k)

-- a call leaves what is plugged

figure-reset : (reset : Bool) (b : PortState) (s : State) (a : Ports)
    → figure_in (reset_where reset b s a) ≡ figure_in (full b s a)
unfolding reset_state
figure-reset true b s a = ap (λ m. Some (Some s.spec) ∷ m) (figure-off a)
figure-reset false b s a = refl

figure-called : (c : PortCall) (q : Place) → figure_in (called c q) ≡ figure_in q
figure-called c (empty b) = refl
figure-called c (full b s a) = figure-reset _ (called_port c b) s a

figure-changed : (c : PortCall) (k : Ports) (i : ℕ) → figure (changed_at (called c) k i [])
    ≡ figure k
unfolding figure changed_at
figure-changed c ended i = refl
figure-changed c (vacant b k) zero = figure-before (called c (empty b)) k
    ∙ ap (λ m. m ++ figure k) (figure-called c (empty b))
figure-changed c (vacant b k) (suc i) = ap (λ m. Some None ∷ m) (figure-changed c k i)
figure-changed c (taken b s a k) zero = figure-before (called c (full b s a)) k
    ∙ ap (λ m. m ++ figure k) (figure-called c (full b s a))
figure-changed c (taken b s a k) (suc i) =
    ap (λ m. Some (Some s.spec) ∷ (figure a ++ m)) (figure-changed c k i)

figure-acted : (effect : Effect) (k : Ports) → figure (acted effect k) ≡ figure k
figure-acted Leaves k = refl
figure-acted (Calls c i) k = figure-changed c k i
figure-acted PortsOff k = figure-off k

-- a packet leaves what is plugged

unread-spec : (s : State) → (unread s).spec ≡ s.spec
unfolding unread
unread-spec s = elim s.spec.silent as (λ b. (if b then s else forgotten s).spec ≡ s.spec) [
  | true ↦ refl
  | false ↦ refl
]

reply-spec : (c : Content) (s : State) (row : List PortState) → (reply_to c s row).1.spec ≡ s.spec
reply-spec (Whole p) s row = (keeps-received s row p).spec
reply-spec Broken s row = unread-spec s

if-spec : (b : Bool) (s : State) (r : Reply) → r.1.spec ≡ s.spec
    → (if b then r else (None, s)).1.spec ≡ s.spec
if-spec true s r h = h
if-spec false s r h = refl

pub answer-spec : (q : Sent) (deep : Bool) (s : State) (a : Ports) → (answer_of q deep s a).1.spec
    ≡ s.spec
unfolding answer_of
answer-spec q deep s a = if-spec (hears q deep s) s (reply_to q.content s (row_of a))
    (reply-spec q.content s (row_of a))

figure-if_else : (e : Bool) (x y : Ports) (m : List (Option (Option Spec))) → figure x ≡ m
    → figure y ≡ m → figure (if e then x else y) ≡ m
figure-if_else true x y m h g = h
figure-if_else false x y m h g = g

pub figure-after : (q : Sent) (deep : Bool) (k : Ports) → figure (after_packet q deep k) ≡ figure k
unfolding figure after_packet
figure-after q deep ended = refl
figure-after q deep (vacant b k) = ap (λ m. Some None ∷ m) (figure-after q deep k)
figure-after q deep (taken b s a k) =
    figure-if_else b.enable _ _ _
    (ap (λ x. Some (Some x) ∷ (figure (acted (effect_of q deep s) (after_packet q true a)) ++ figure
    (after_packet q deep k))) (answer-spec q deep s a)
    ∙ ap₂ (λ m n. Some (Some s.spec) ∷ (m ++ n))
    (figure-acted (effect_of q deep s) (after_packet q true a) ∙ figure-after q true a)
    (figure-after q deep k))
    (ap (λ m. Some (Some s.spec) ∷ (figure a ++ m)) (figure-after q deep k))

figure-device : (q : Sent) (deep : Bool) (t : Plugged) → figure_of (delivered_device q deep t).1
    ≡ figure_of t
figure-device q deep t =
    ap (λ x. Some (Some x) ∷ figure (acted (effect_of q deep t.own) (after_packet q true t.ports)))
    (answer-spec q deep t.own t.ports)
    ∙ ap (λ m. Some (Some t.own.spec) ∷ m)
    (figure-acted (effect_of q deep t.own) (after_packet q true t.ports)
    ∙ figure-after q true t.ports)

abbrev either_reply : Bool → Heard × Place → Heard × Place → Heard × Place
either_reply e x y = if e then x else y

figure-if : (e : Bool) (x y : Heard × Place) (m : List (Option (Option Spec))) → figure_in x.1 ≡ m
    → figure_in y.1 ≡ m → figure_in (either_reply e x y).1 ≡ m
figure-if true x y m h g = h
figure-if false x y m h g = g

pub figure-place : (q : Sent) (deep : Bool) (p : Place) → figure_in (delivered_place q deep p).1
    ≡ figure_in p
figure-place q deep (empty b) = refl
figure-place q deep (full b s a) =
    figure-if b.enable (on_port b (delivered_device q deep (record { own = s; ports = a })))
    (NoAnswer, full b s a) (figure_in (full b s a))
    (figure-device q deep (record { own = s; ports = a })) refl

pub ruleset figures = (figure-before, figure-place, figure-after)
