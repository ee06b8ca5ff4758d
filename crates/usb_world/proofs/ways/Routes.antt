-- A packet that goes straight to the one device that it is for does what it does in the whole tree.
use Rattle.usb_world.proofs.attempts.Exchanges.{after_sent-plugged, stays_plugged_refl}
use Rattle.usb_world.specs.{SentAlong, StaysPlugged, Attempt, Damage, token_out, clears_at}
use Rattle.usb_world.specs.{IsStopped, after_sent, answers_to, deep_at, IsSettled, OthersForgot}
use Rattle.usb_world.specs.{Alone, AloneAt, IsWayTo, is_whole_tree, is_deep}
use Rattle.std.proofs.Common.{◌||◌, arith, ◌≡◌, ℕ, zero, suc, ◌&&◌, Bool, true, false, List}
use Rattle.std.proofs.Common.{[], ◌∷◌, Option, None, Some, Result, Ok, Err, OnOk, OnErr, refl, ap}
use Rattle.std.proofs.Common.{sym, subst, ◌∙◌}
use Rattle.usb_port.specs.{PortState}
use Rattle.usb_device.specs.{Heard, Sent, State, awaits_address, Stopped, behind_empty, behind}
use Rattle.usb_device.specs.{below, here, Ports, vacant, taken, Plugged, empty, full, before}
use Rattle.usb_device.specs.{changed_at, changed, plugged_at, device_there, reach_at, state_at}
use Rattle.usb_device.specs.{place_at, held_addresses, repeats, effect_of, after_packet}
use Rattle.usb_device.specs.{delivered_place, heard_of, heard_from, both, all_forgotten, has_loss}
use Rattle.usb_device.specs.{asks_clearing, clears_change, sent_in, answer_by, RefusedBy}
use Rattle.usb_device.specs.{effect_by}
use Rattle.usb_device.specs.{forgotten_in, is_held_at, Place}
use Rattle.usb_device.specs.declared.transfer.RememberedPacket.TheVariants.{Nothing}
use Rattle.usb_world.proofs.Booleans.{false_true, or_nothing}
use Rattle.usb_world.proofs.packets.Packets.{true_deep, rested_answer, clears_if}
use Rattle.usb_world.proofs.packets.AwaitedAcks.{rests_loss, rest_awaits}
use Rattle.usb_world.proofs.courses.Courses.{each_rests, goes}
use Rattle.usb_world.proofs.holders.OneDevice.{Each, Others, along_way, Resting, rest_all}
use Rattle.usb_world.proofs.holders.OneDevice.{rested_effect, others_rest, others_forget}
use Rattle.usb_world.proofs.holders.OneDevice.{sent_to_one, alone_holder, alone_sent, answer_at}

-- ---- the tree after the packet
others_packet : (q : Sent) (k : Ports) (j : ℕ) (p : List ℕ)
    → Alone (Some q) k (record { row = j; rest = p })
    → after_packet q false k ≡ changed_at (sent_in q (deep_at false p)) k j p
others_packet q k j p h = (sent_to_one (Some q) k _ h).ports

-- ---- its answer, and what it asks
abbrev pub plugged_on : Option Place → Option Plugged
plugged_on None = None
plugged_on (Some (empty b)) = None
plugged_on (Some (full b s a)) = Some (record { own = s; ports = a })

pub plugged_place : (k : Ports) (j : ℕ) (p : List ℕ)
    → plugged_on (place_at k j p) ≡ plugged_at k j p
unfolding place_at plugged_at
plugged_place (vacant b k) zero [] = refl
plugged_place (vacant b k) (suc j) p = plugged_place k j p
plugged_place (taken b s a k) zero (suc j ∷ p) = plugged_place a j p
plugged_place (taken b s a k) (suc j) p = plugged_place k j p
plugged_place k j p = refl

pub heard_place_by : (q : Sent) (deep : Bool) (x : Option Place) → heard_of (answer_at q deep x)
    ≡ heard_from (answer_by q deep (plugged_on x))
heard_place_by q deep x = grind arith

or_nothing_twice : (x : Bool) → ((x || false) || false) ≡ x
or_nothing_twice x = grind arith

pub rest_clears : (q : Sent) (deep : Bool) (k : Ports)
    → ((i : ℕ) (e : List ℕ) (t : State) → state_at k i e ≡ Some t → t.memory ≡ Nothing)
    → clears_change q deep k ≡ false
rest_clears q deep k c = grind (arith, clears_if, rested_effect)

abbrev Forgot : Bool → State → Type 0
Forgot on t = t.memory ≡ Nothing

pub others_clear : (q : Sent) (deep : Bool) (k : Ports) (j : ℕ) (p : List ℕ) → reach_at k j p ≡ true
    → OthersForgot k (record { row = j; rest = p })
    → clears_change q deep k ≡ asks_clearing (effect_by q (deep_at deep p) (plugged_at k j p))
unfolding clears_change plugged_at
others_clear q = along_way {S = Forgot} {P = λ deep k j p. clears_change q deep k
    ≡ asks_clearing (effect_by q (deep_at deep p) (plugged_at k j p))} (record {
      here = λ deep b s a k on below more. rw (
        on,
        rest_clears q true a below,
        rest_clears q deep k more,
      ) (or_nothing_twice (asks_clearing (effect_of q deep s)));
      below = λ deep b s a k j p on own more ih. rw (
        on,
        rested_effect q deep s own,
        ih,
        rest_clears q deep k more,
        true_deep p,
      ) (or_nothing (asks_clearing (effect_by q true (plugged_at a j p))));
      past_port = λ deep b k j p ih. ih;
      past_device = λ deep b s a k j p own below ih. rw (
        rested_effect q deep s own,
        rest_clears q true a below,
        ih,
      ) (past b.enable (asks_clearing (effect_by q (deep_at deep p) (plugged_at k j p))));
    })
  where
    past : (x y : Bool) → ((x && false) || y) ≡ y
    past x y = grind arith

-- ---- who awaits an ACK
abbrev pub loss_by : Option Plugged → Bool
loss_by None = false
loss_by (Some t) = awaits_address t.own

rest_loss : (k : Ports) → Each Forgot true k → has_loss k ≡ false
rest_loss k c = rests_loss k (each_rests k c)

pub others_loss : (k : Ports) (j : ℕ) (p : List ℕ) → reach_at k j p ≡ true
    → OthersForgot k (record { row = j; rest = p }) → has_loss k ≡ loss_by (plugged_at k j p)
unfolding has_loss plugged_at
others_loss = along_way {S = Forgot} {P = λ deep k j p. has_loss k ≡ loss_by (plugged_at k j p)}
    (record {
      here = λ deep b s a k on below more.
          rw (rest_loss a below, rest_loss k more) (or_nothing_twice (awaits_address s));
      below = λ deep b s a k j p on own more ih.
          rw (rest_awaits s own, ih, rest_loss k more) (or_nothing (loss_by (plugged_at a j p)));
      past_port = λ deep b k j p ih. ih;
      past_device = λ deep b s a k j p own below ih.
          rw (rest_awaits s own, rest_loss a below, ih) refl;
    }) false

-- ---- memory that was refused
rested_place : (q : Sent) (deep : Bool) (b : PortState) (s : State) (a : Ports)
    → Resting q b.enable s → (b.enable ≡ true → after_packet q true a ≡ a)
    → (delivered_place q deep (full b s a)).1 ≡ full b s a
rested_place q deep b s a c f = grind (arith, rested_answer, rested_effect)

pub others_stop : (q : Sent) (deep : Bool) (k : Ports) (j : ℕ) (p : List ℕ) → reach_at k j p ≡ true
    → Others (Resting q) k j p → RefusedBy q (deep_at deep p) (plugged_at k j p)
    → Stopped q deep k k
unfolding plugged_at
others_stop q = along_way {S = Resting q} {P = λ deep k j p. RefusedBy q (deep_at deep p)
    (plugged_at k j p) → Stopped q deep k k} (record {
      here = λ deep b s a k on below more r.
          subst (λ x. Stopped q deep (taken b s a k) (taken b s x k)) (rest_all q true a below).0
          (here b s a k r.packet on r.content r.heard r.grows);
      below = λ deep b s a k j p on own more ih r.
          below b s k on (ih (subst (λ x. RefusedBy q x (plugged_at a j p)) (sym (true_deep p)) r));
      past_port = λ deep b k j p ih r. behind_empty b (ih r);
      past_device = λ deep b s a k j p own under ih r.
          subst (λ x. Stopped q deep (taken b s a k) (before x k))
          (rested_place q deep b s a own
          (λ on. (rest_all q true a (subst (λ x. Each (Resting q) x a) on under)).0))
          (behind b s a (ih r));
    })

-- ---- by paths
module _ (q : Sent) (k : Ports) where
  ports_of : (m : Ports) (p : List ℕ) → is_whole_tree p ≡ false → AloneAt (Some q) k p
      → m ≡ changed (sent_in q (is_deep p)) k p → m ≡ after_sent (Some q) k
  ports_of m p f h e = grind (arith, others_packet)

  heard_of_one : (g h : Heard) (p : List ℕ) → is_whole_tree p ≡ false → AloneAt (Some q) k p
      → h ≡ both g (heard_from (answer_by q (is_deep p) (device_there k p)))
      → h ≡ both g (heard_of (answers_to (Some q) k))
  heard_of_one g h [] f w e = false_true (sym f)
  heard_of_one g h (zero ∷ p) f w e = absurd w
  heard_of_one g h (suc j ∷ p) f w e =
      grind (
        arith,
        heard_place_by q (deep_at false p) (place_at k j p),
        plugged_place k j p,
        sent_to_one (Some q) k (record { row = j; rest = p }) w,
      )

  stopped_of : (m : Ports) (p : List ℕ) → is_whole_tree p ≡ false → AloneAt (Some q) k p → m ≡ k
      → RefusedBy q (is_deep p) (device_there k p) → IsStopped (Some q) k m
  stopped_of m p f h e w = grind (arith, others_rest, others_stop)

pub alone_less : (o : Option Sent) (k : Ports) (p : List ℕ) → AloneAt o k p → AloneAt None k p
alone_less o k p h = grind arith

-- what the code does with one packet
module _ (o : Option Sent) (q : Sent) (deep : Bool) (k m : Ports) (p : List ℕ) (is : o ≡ Some q)
    (at : deep ≡ is_deep p) (f : is_whole_tree p ≡ false) (alone : AloneAt o k p) where
  alone_some : AloneAt (Some q) k p
  alone_some = subst (λ x. AloneAt x k p) is alone

  ports_to : m ≡ changed (sent_in q deep) k p → m ≡ after_sent o k
  ports_to e = subst (λ x. m ≡ after_sent x k) (sym is)
      (ports_of q k m p f alone_some (e ∙ ap (λ x. changed (sent_in q x) k p) at))

  heard_to : (g h : Heard) → h ≡ both g (heard_from (answer_by q deep (device_there k p)))
      → h ≡ both g (heard_of (answers_to o k))
  heard_to g h e =
      subst (λ y. h ≡ both g (heard_of (answers_to y k))) (sym is)
      (heard_of_one q k g h p f alone_some (e
      ∙ ap (λ y. both g (heard_from (answer_by q y (device_there k p)))) at))

  pub sent_along : {E : Type 0} (r : Result (Unit {0}) E) (g h : Heard)
      → OnOk r (h ≡ both g (heard_from (answer_by q deep (device_there k p))))
      → OnOk r (m ≡ changed (sent_in q deep) k p) → OnErr r (m ≡ k)
      → OnErr r (RefusedBy q deep (device_there k p)) → SentAlong o p k m g h r
  sent_along (Ok x) g h heard e same refused =
      let went : m ≡ after_sent o k = ports_to e in
      record {
        plugged = subst (StaysPlugged k) (sym went) (after_sent-plugged o k);
        steps = record { heard = heard_to g h heard; ports = went };
        alone = subst (λ y. AloneAt None y p) (sym went) (alone_sent o k p alone);
        stopped = tt;
      }
  sent_along (Err x) g h heard e same refused =
      grind (arith, alone_less, stays_plugged_refl, stopped_of)

pub route_clears : (q : Sent) (k : Ports) (p : List ℕ) → is_whole_tree p ≡ false
    → AloneAt (Some q) k p → asks_clearing (effect_by q (is_deep p) (device_there k p))
    ≡ clears_at (Some q) k
route_clears q k [] f h = false_true (sym f)
route_clears q k (zero ∷ p) f h = absurd h
route_clears q k (suc j ∷ p) f h = sym (others_clear q false k j p h.on h.forgot)

pub route_loss : (k : Ports) (p : List ℕ) → is_whole_tree p ≡ false → AloneAt None k p
    → loss_by (device_there k p) ≡ has_loss k
route_loss k p f h = grind (arith, others_loss)

pub route_over : (k m : Ports) (p : List ℕ) → is_whole_tree p ≡ false → AloneAt None k p
    → m ≡ changed forgotten_in k p → m ≡ all_forgotten k
route_over k m p f h e = grind (arith, others_forget)

-- ---- the packets of an attempt
pub alone_token : (a : Attempt) (d : Option Damage) (k : Ports) (p : List ℕ) → IsSettled k
    → IsWayTo a.addr k p → AloneAt (token_out a d) k p
alone_token a d k [] s o = tt
alone_token a d k (zero ∷ p) s o = absurd o
alone_token a d k (suc j ∷ p) s o =
    alone_holder a.addr (token_out a d) (goes a d k).token k (record { row = j; rest = p }) s o

-- ---- who holds the address
pub one_at : (n : ℕ) (k : Ports) (p : List ℕ) → repeats (held_addresses k) ≡ false
    → is_held_at n k p ≡ true → IsWayTo n k p
one_at n k p s h = grind arith
