-- A packet at a row of ports that begins with a place.
use Rattle.std.proofs.Common.{◌≡◌, Bool, true, false, if◌then◌else◌, List, [], ◌∷◌, ◌++◌, Option}
use Rattle.std.proofs.Common.{None, Some, refl, ap, sym, ◌∙◌}
use Rattle.usb_port.specs.{PortState}
use Rattle.usb_device.specs.{Answer, Sent, Heard, State, unread, concerns, Ports, taken}
use Rattle.usb_device.specs.{Plugged, empty, full, before, row_of, Content, answer_of}
use Rattle.usb_device.specs.{after_packet}
use Rattle.usb_device.specs.{listed, heard_from, heard_of, both, heard_joined, with_answer}
use Rattle.usb_device.specs.{taken_content, delivered, delivered_device, delivered_place, Place}
use Rattle.usb_device.specs.{answers}
use Rattle.usb_device.specs.declared.delivery.Heard.TheVariants.{NoAnswer, One}
use Rattle.usb_device.proofs.packets.Rows.{row_of-after}
use Rattle.usb_device.proofs.packets.Strays.{reply-unread, asks-stray}

-- ---- a packet leaves the ports of a device as they are until the device itself asks something of
-- them
pub answer_of-after : (q : Sent) (deep : Bool) (s : State) (a : Ports) (below : Bool)
    → answer_of q deep s (after_packet q below a) ≡ answer_of q deep s a
unfolding answer_of
answer_of-after q deep s a below = rw (row_of-after q below a) refl

-- ---- two parts of the tree
pub both-none : (h : Heard) → both h NoAnswer ≡ h
both-none NoAnswer = refl
both-none h = refl

both-joined : (a b c : Heard) → both (both a b) c ≡ both a (both b c)
both-joined (One x) (One y) NoAnswer = refl
both-joined a b c = refl

both-swapped : (h : Heard) (x : Answer) → both h (One x) ≡ both (One x) h
both-swapped NoAnswer x = refl
both-swapped h x = refl

heard-more : (x : Answer) (xs : List Answer) → heard_of (x ∷ xs) ≡ both (One x) (heard_of xs)
heard-more x (y ∷ []) = refl
heard-more x xs = refl

pub heard_of-append : (xs ys : List Answer) → heard_of (xs ++ ys) ≡ both (heard_of xs) (heard_of ys)
heard_of-append [] ys = refl
heard_of-append (x ∷ xs) ys =
    heard-more x (xs ++ ys) ∙ ap (both (One x)) (heard_of-append xs ys)
    ∙ sym (both-joined (One x) (heard_of xs) (heard_of ys))
    ∙ ap (λ h. both h (heard_of ys)) (sym (heard-more x xs))

heard-listed : (x : Option Answer) (xs : List Answer)
    → heard_of (listed x xs) ≡ both (heard_from x) (heard_of xs)
heard-listed None xs = refl
heard-listed (Some x) xs = heard-more x xs

-- ---- a packet at a device that it is not for
pub with_answer-none : {A : Type 0} (h : Heard) (x : A) → with_answer h (None, x) ≡ (h, x)
with_answer-none h x = ap (λ g. (g, x)) (both-none h)

pub taken-stray : (c : Content) (t : Plugged) → concerns c t.own ≡ false
    → taken_content c t ≡ (None, record t { own = unread t.own })
taken-stray c t h = rw (reply-unread c t.own (row_of t.ports) h, asks-stray c t.own h) refl

-- ---- a place, and those behind it
abbrev heard_ports : Heard → Ports → Heard × Ports
heard_ports h k = (h, k)

abbrev first_heard : Heard × Place → Heard → Ports → Heard × Ports
first_heard p h k = (both p.0 h, before p.1 k)

abbrev if_enabled : Sent → Bool → PortState → State → Ports → Ports → Bool → Heard × Ports
if_enabled q deep b s a k e = (
  heard_of (if e then listed (answer_of q deep s a).0 (answers q true a ++ answers q deep k)
      else answers q deep k),
  if e then taken b (answer_of q deep s a).1
      (delivered_device q deep (record { own = s; ports = a })).1.ports (after_packet q deep k)
      else taken b s a (after_packet q deep k),
)

abbrev place_if : Sent → Bool → PortState → State → Ports → Bool → Heard × Place
place_if q deep b s a e =
    if e then (let x = delivered_device q deep (record { own = s; ports = a }) in
    (x.0, full b x.1.own x.1.ports)) else (NoAnswer, full b s a)

if_enabled-first : (q : Sent) (deep : Bool) (b : PortState) (s : State) (a k : Ports) (e : Bool)
    → if_enabled q deep b s a k e ≡ first_heard (place_if q deep b s a e)
    (heard_of (answers q deep k)) (after_packet q deep k)
if_enabled-first q deep b s a k true =
    let x = (answer_of q deep s a).0 in
    ap (λ h. heard_ports h (taken b (answer_of q deep s a).1
    (delivered_device q deep (record { own = s; ports = a })).1.ports
    (after_packet q deep k)))
    (heard-listed x (answers q true a ++ answers q deep k)
    ∙ ap (both (heard_from x)) (heard_of-append (answers q true a) (answers q deep k))
    ∙ sym (both-joined (heard_from x) (heard_of (answers q true a)) (heard_of (answers q deep k))))
if_enabled-first q deep b s a k false = refl

pub delivered-before : (q : Sent) (deep : Bool) (p : Place) (k : Ports)
    → delivered q deep (before p k) ≡ (
      both (delivered_place q deep p).0 (delivered q deep k).0,
      before (delivered_place q deep p).1 (delivered q deep k).1,
    )
unfolding after_packet answers
delivered-before q deep (empty b) k = refl
delivered-before q deep (full b s a) k = if_enabled-first q deep b s a k b.enable

-- ---- what was heard before
-- at a device: what is heard below it comes before its own answer
pub heard_joined-device : (h b : Heard) (x : Option Answer) → both (both h b) (heard_from x)
    ≡ both h (both (heard_from x) b)
heard_joined-device h b None = both-none (both h b)
heard_joined-device h b (Some x) = both-joined h b (One x) ∙ ap (both h) (both-swapped b x)

-- along a row: the first place comes before those behind it
pub heard_joined-before : (q : Sent) (deep : Bool) (h : Heard) (p : Place) (k : Ports)
    → heard_joined h (delivered q deep (before p k))
    ≡ (
      both (both h (delivered_place q deep p).0) (delivered q deep k).0,
      before (delivered_place q deep p).1 (delivered q deep k).1,
    )
heard_joined-before q deep h p k =
    ap (heard_joined h) (delivered-before q deep p k)
    ∙ ap (λ x. (x, before (delivered_place q deep p).1 (delivered q deep k).1))
    (sym (both-joined h (delivered_place q deep p).0 (delivered q deep k).0))

pub ruleset strays = (with_answer-none, taken-stray, asks-stray)
