-- What steps and courses add to what is left to do, where ports are marked.
use Rattle.std.proofs.Common.{◌≡◌, ℕ, zero, suc, ◌&&◌, ◌||◌, not, Bool, true, [], ◌∷◌, Option, Some}
use Rattle.std.proofs.Common.{refl, ap, sym, subst, arith}
use Rattle.std.specs.Bool.{⊤}
use Rattle.usb_port.specs.{PortCall, is_reset}
use Rattle.usb_device.specs.{Sent, Ports, called, changed}
use Rattle.usb_world.specs.{Damage, Attempt, payload_out, ports_in, reply_out, token_out, IsMade}
use Rattle.usb_world.specs.{AtPorts, Course, Step, after, attempt, damage_in, here, at_attempt}
use Rattle.usb_world.specs.{root_call, step, with_attempt, World, NobodyHolds, after_sent}
use Rattle.usb_world.proofs.Interface.{OverSteps, ack_out, goes, made_is, nobody_in, over_step}
use Rattle.usb_world.proofs.Interface.{token_out as token_calm, with_call, with_limit_told, both}
use Rattle.usb_hub.specs.{AllowsMarks, Few, KeepsBy, PortMark, gives_power}
use Rattle.usb_hub.proofs.BacklogCalls.{Less, less-called, less-same, less-then}
use Rattle.usb_hub.proofs.BacklogEvents.{KeepsFrom, keeps-events, keeps-none, keeps-ready}
use Rattle.usb_hub.proofs.BacklogEvents.{keeps-then}
use Rattle.usb_hub.proofs.Packets.{less-calm, less-forgotten, less-sent}

-- what each device asks at an attempt is allowed
abbrev pub AttemptAllows : PortMark → PortMark → Attempt → World → Type 0
AttemptAllows m r a w = (q : Sent) → payload_out a (damage_in (at_attempt w)) ≡ Some q
    → AllowsMarks m r q (after_sent (token_out a (damage_in (at_attempt w))) (at_attempt w).roots)

-- so is a call at a root port
abbrev pub root_allowed : PortMark → PortMark → PortCall → ℕ → Bool
root_allowed m r c zero = true
root_allowed m r c (suc i) = (m i [] || not (gives_power c)) && (r i [] || not (is_reset c))

abbrev pub StepAllows : PortMark → PortMark → Step → World → Type 0
StepAllows m r (attempt a) w = AttemptAllows m r a w
StepAllows m r (root_call c n) w = root_allowed m r c n ≡ true
StepAllows m r _ w = ⊤

module _ (m v r : PortMark) where
  -- the packets of an attempt
  pub less-attempt : (a : Attempt) (d : Option Damage) (k : Ports)
      → ((q : Sent) → payload_out a d ≡ Some q → AllowsMarks m r q (after_sent (token_out a d) k))
      → Less m v r k (ports_in a d k)
  unfolding ports_in
  less-attempt a d k h =
      less-then (less-calm m v r (token_out a d) k
      (token_calm a.addr (token_out a d) (goes a d k).token))
      (less-then (less-sent m v r (payload_out a d) (after_sent (token_out a d) k) h)
      (less-then (less-calm m v r (reply_out a d k)
      (after_sent (payload_out a d) (after_sent (token_out a d) k))
      (ack_out (reply_out a d k) (goes a d k).reply))
      (less-forgotten m v r (after_sent (reply_out a d k)
      (after_sent (payload_out a d) (after_sent (token_out a d) k))))))

  pub less-root : (c : PortCall) (n : ℕ) (k : Ports) → root_allowed m r c n ≡ true
      → Less m v r k (changed (called c) k (n ∷ []))
  less-root c zero k h = less-same m v r k
  less-root c (suc i) k h =
      let x : _ = both (m i [] || not (gives_power c)) (r i [] || not (is_reset c)) h in
      less-called m v r c k i x.0 x.1

module _ (m v r : PortMark) (few : Few v r) where
  -- a world in which no event came, and no more is left to do
  keeps-less : (w x : World) → x.taken ≡ w.taken → x.left ≡ w.left → AtPorts w.left
      → Less m v r w.roots x.roots → KeepsBy m v r w x
  keeps-less w x t l h less = record {
    looks = omega (arith, less.looks, t);
    strays = omega (arith, less.strays, t);
    devices = λ d. omega (arith, less.devices d, t);
    left = subst AtPorts (sym l) h;
    onward = omega (arith, t);
    still = λ e d. less.ports d;
  }

  keeps-steps : OverSteps (StepAllows m r) (KeepsFrom m v r few)
  unfolding with_attempt
  keeps-steps = record {
    events = keeps-events m v r few;
    made = λ a w made k h.
        keeps-less (at_attempt w) (with_attempt a (at_attempt w)) refl refl h
        (less-attempt m v r a (damage_in (at_attempt w)) (at_attempt w).roots k);
    root = λ c n w k h. keeps-less w (with_call c n w) refl refl h (less-root m v r c n w.roots k);
    refused = λ w h. keeps-less w (with_limit_told w) refl refl h (less-same m v r w.roots);
  }

  pub keeps-step : (s : Step) (w : World) → AtPorts w.left → StepAllows m r s w
      → KeepsBy m v r w (after s w)
  keeps-step s w h k = over_step keeps-steps s w k h

  pub keeps-attempt : (a : Attempt) (w : World) → AtPorts w.left → AttemptAllows m r a w
      → KeepsBy m v r w (after (attempt a) w)
  keeps-attempt a = keeps-step (attempt a)

  pub keeps-root : (c : PortCall) (n : ℕ) (w : World) → AtPorts w.left → root_allowed m r c n ≡ true
      → KeepsBy m v r w (after (root_call c n) w)
  keeps-root c n = keeps-step (root_call c n)

  -- an attempt that nobody hears
  pub keeps-unheard : (a : Attempt) (w : World) → AtPorts w.left → IsMade a w
      → NobodyHolds a.addr (at_attempt w).roots → KeepsBy m v r w (after (attempt a) w)
  unfolding with_attempt
  keeps-unheard a w h made nobody =
      let came : KeepsBy m v r w (at_attempt w) = keeps-ready m v r few w h in
      keeps-then m v r few came
      (keeps-less (at_attempt w) (after (attempt a) w) (ap (λ x. x.taken) (made_is a w made))
      (ap (λ x. x.left) (made_is a w made)) came.left
      (subst (Less m v r (at_attempt w).roots) (sym (nobody_in a w made nobody).1)
      (less-same m v r (at_attempt w).roots)))

  -- the same where each step says so itself
  abbrev pub KeepsStep : Step → World → Type 0
  KeepsStep s w = AtPorts w.left → KeepsBy m v r w (after s w)

  pub keeps-chain : {w x : World} → AtPorts w.left → Course KeepsStep w x → KeepsBy m v r w x
  keeps-chain h (here w) = keeps-none m v r few w h
  keeps-chain h (step s {w} k more) =
      let one : KeepsBy m v r w (after s w) = k h in
      keeps-then m v r few one (keeps-chain one.left more)
