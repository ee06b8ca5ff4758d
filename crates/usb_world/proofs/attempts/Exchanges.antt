-- What the code of an attempt does, packet by packet, is the attempt.
use Rattle.std.proofs.Common.{◌≡◌, ◌≢◌, ℕ, Bool, true, false, Option, None, Some, arith, ◌+◌, List}
use Rattle.std.proofs.Common.{◌∷◌, ◌++◌, Result, OnOk, OnErr, refl, sym, subst, ap, ap₂, ◌∙◌}
use Rattle.arrayvec.specs.ArrayVec.{ArrayVec}
use Rattle.usb_packet.specs.{Toggle}
use Rattle.usb_device.specs.{Answer, held_addresses, repeats, Heard, Sent, Ports, ended, vacant}
use Rattle.usb_device.specs.{taken, row_of, all_forgotten, heard_of, both, heard_joined, delivered}
use Rattle.usb_device.specs.{figure}
use Rattle.usb_device.specs.declared.answer.Answer.TheVariants as answer
use Rattle.usb_world.specs.{ExchangeAnswer, Outcome, Mark, ack_if, reply_of, outcome_of, got}
use Rattle.usb_world.specs.{Attempt, attempt, after, with_attempt, at_attempt, World, Made, Damage}
use Rattle.usb_world.specs.{Exchange, harm_to, marked, marked_some, heard_above, StaysPlugged}
use Rattle.usb_world.specs.{PacketWent, PacketsWent, Exchanged, token_of, payload_of, answer_place}
use Rattle.usb_world.specs.{answer_mark, goes_out, heard_all, token_out, heard_in, mark_in}
use Rattle.usb_world.specs.{reply_in, answered_in, is_lost, lost_in, clears_at, cleared_in}
use Rattle.usb_world.specs.{exchange_in, ended_in, ports_in, IsSettled, after_sent, answers_to}
use Rattle.usb_world.specs.declared.types.Outcome.TheVariants.{Payload, Ack, Nak, Stall, Nothing}
use Rattle.usb_world.proofs.courses.LiftedSteps.{ready_beside, ready_shared}
use Rattle.usb_device.proofs.Interface.{row_of-after, figure-after, row_of-forgotten}
use Rattle.usb_world.proofs.packets.Packets.{after_attempt-settled}

-- What the host got tells what was answered, and whether it acknowledges.

abbrev pub given_by : Outcome → Option Answer
given_by (Payload t b) = Some (answer.Data t b)
given_by Ack = Some answer.Ack
given_by Nak = Some answer.Nak
given_by Stall = Some answer.Stall
given_by Nothing = None

pub got_given : (max : ℕ) (o : Option Answer) (x : Outcome) → got max o ≡ x → x ≢ Nothing
    → o ≡ given_by x
got_given max o x e n = grind arith

pub got_nak : (max : ℕ) (o : Option Answer) → got max o ≡ Nak → o ≡ Some answer.Nak
got_nak max o e = got_given max o Nak e (λ n. cc n)

pub got_stall : (max : ℕ) (o : Option Answer) → got max o ≡ Stall → o ≡ Some answer.Stall
got_stall max o e = got_given max o Stall e (λ n. cc n)

pub got_payload : (max : ℕ) (o : Option Answer) (t : Toggle) (b : ArrayVec ℕ)
    → got max o ≡ Payload t b → o ≡ Some (answer.Data t b)
got_payload max o t b e = got_given max o (Payload t b) e (λ n. cc n)

-- the host sends its ACK exactly where it got data
abbrev pub brings : Outcome → Bool
brings (Payload t b) = true
brings o = false

pub acks : (h : ExchangeAnswer) (m : Mark) (max : ℕ)
    → reply_of h m max ≡ ack_if (brings (outcome_of h m max))
unfolding reply_of outcome_of
acks h m max = grind arith

-- What an attempt that is made, or is not, leaves of a world besides its devices.

-- one that ended well is its packets, after the events that were due
pub made_step : (a : Attempt) (w : World) → Made w (after (attempt a) w)
    → after (attempt a) w ≡ with_attempt a (at_attempt w)
unfolding after
made_step a w m = grind arith

pub made_damages : (a : Attempt) (w : World) → Made w (after (attempt a) w)
    → (after (attempt a) w).damages ≡ w.damages
unfolding with_attempt
made_damages a w made = grind (arith, made_step, ready_beside)

-- where no two reachable devices are marked as of one address after it, none were before it, nor at
-- it
pub record IsUnshared (w : World) : Type 0 where
  pub before : w.shared ≡ false
  pub single : repeats (held_addresses (at_attempt w).roots) ≡ false

pub made_unshared : (a : Attempt) (w : World) → Made w (after (attempt a) w)
    → (after (attempt a) w).shared ≡ false → IsUnshared w
unfolding with_attempt
made_unshared a w made h = grind (arith, made_step, ready_shared)

-- What the code of an attempt does, packet by packet, is the attempt.

pub heard_all_of : (xs : List Answer) → heard_above (heard_of xs) ≡ heard_all xs
heard_all_of xs = grind arith

figure-forgotten : (k : Ports) → figure (all_forgotten k) ≡ figure k
unfolding figure all_forgotten
figure-forgotten ended = refl
figure-forgotten (vacant b k) = ap (λ f. Some None ∷ f) (figure-forgotten k)
figure-forgotten (taken b s a k) = ap₂ (λ f g. Some (Some s.spec) ∷ (f ++ g)) (figure-forgotten a)
    (figure-forgotten k)

pub stays_plugged_refl : (k : Ports) → StaysPlugged k k
stays_plugged_refl k = record { row = refl; figure = refl }

pub after_sent-plugged : (o : Option Sent) (k : Ports) → StaysPlugged k (after_sent o k)
after_sent-plugged o k = grind (arith, figure-after, row_of-after)

pub plugged_further : (k j m : Ports) → StaysPlugged k j → StaysPlugged j m → StaysPlugged k m
plugged_further k j m x y = grind arith

-- a packet at the whole tree
pub delivered_stays_plugged : {A E : Type 0} (r : Result A E) (q : Sent) (k m : Ports) (g h : Heard)
    → OnOk r ((h, m) ≡ heard_joined g (delivered q false k)) → OnErr r (figure m ≡ figure k)
    → row_of m ≡ row_of k → StaysPlugged k m
delivered_stays_plugged r q k m g h ok err row = grind (arith, figure-after)

pub sent_went : {A E : Type 0} (r : Result A E) (o : Option Sent) (q : Sent) (k m : Ports)
    (g h : Heard) → o ≡ Some q → OnOk r ((h, m) ≡ heard_joined g (delivered q false k))
    → OnOk r (PacketWent o k m g h)
sent_went r o q k m g h is e = grind arith

-- the end of an attempt
pub over_plugged : (k j m : Ports) → m ≡ all_forgotten j → StaysPlugged k j → StaysPlugged k m
over_plugged k j m e x = grind (arith, figure-forgotten, row_of-forgotten)

pub over_settled : (k m : Ports) → m ≡ all_forgotten k → IsSettled m
over_settled k m e = subst IsSettled (sym e) (after_attempt-settled None None None k)

pub over_made : (a : Attempt) (d : Option Damage) (k j m : Ports) (x : Exchange)
    → m ≡ all_forgotten j → PacketsWent a d k j x → Exchanged a d k m x
unfolding ports_in
over_made a d k j m x e h = grind arith

-- what the code makes, one packet after the other
pub record Makes (a : Attempt) (damage : Option Damage) (k : Ports) (x : Exchange) : Type 0 where
  pub first : Ports
  pub second : Ports
  pub third : Ports
  pub to_token : Heard
  pub to_both : Heard
  pub token : x.token ≡ marked damage 1 a.pre (token_of a)
  pub token_heard : to_token ≡ heard_of (answers_to (goes_out a (Some x.token)) k)
  pub token_went : first ≡ after_sent (goes_out a (Some x.token)) k
  pub payload : x.payload ≡ marked_some damage 2 a.pre (payload_of a)
  pub cleared : x.change_cleared ≡ clears_at (goes_out a x.payload) first
  pub payload_heard : to_both ≡ both to_token (heard_of (answers_to (goes_out a x.payload) first))
  pub payload_went : second ≡ after_sent (goes_out a x.payload) first
  pub answer : x.answer ≡ heard_above to_both
  pub answer_mark : x.answer_mark ≡ answer_mark (harm_to damage (answer_place x.payload)) x.answer
  pub reply : x.reply ≡ marked_some damage (answer_place x.payload + 1) a.pre
      (reply_of x.answer x.answer_mark a.max)
  pub lost : x.address_lost ≡ is_lost x.reply (goes_out a x.reply) second
  pub reply_went : third ≡ after_sent (goes_out a x.reply) second

module _ (a : Attempt) (damage : Option Damage) (k : Ports) (x : Exchange) (m : Makes a damage k x)
  where
    first_is : m.first ≡ after_sent (token_out a damage) k
    first_is = grind arith

    second_is : m.second ≡ answered_in a damage k
    second_is = grind (arith, first_is)

    answer_is : x.answer ≡ heard_in a damage k
    answer_is = grind arith

    mark_is : x.answer_mark ≡ mark_in a damage k
    mark_is = grind arith

    reply_is : x.reply ≡ reply_in a damage k
    reply_is = grind arith

    lost_is : x.address_lost ≡ lost_in a damage k
    unfolding lost_in
    lost_is = m.lost ∙ ap₂ (λ r j. is_lost r (goes_out a r) j) reply_is second_is

    cleared_is : x.change_cleared ≡ cleared_in a damage k
    cleared_is = grind (arith, first_is)

    pub made_exchange : x ≡ exchange_in a damage k
    unfolding exchange_in
    made_exchange = grind (arith, answer_is, cleared_is, lost_is, mark_is, reply_is)

    pub made_ports : m.third ≡ ended_in a damage k
    made_ports = grind (arith, reply_is, second_is)
