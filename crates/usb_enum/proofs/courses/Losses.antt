-- Address losses: their worst stretch only grows, and over which calls no other begins.
use Rattle.std.proofs.Common.{◌≡◌, ◌≤◌, Bool, true, false, [], length, Option, None, Some, refl}
use Rattle.std.proofs.Common.{sym, subst, arith, inl, inr, ◌==◌, ℕ, Result}
use Rattle.usb_device.proofs.Interface.{row_of-after, row_of-forgotten}
use Rattle.usb_device.specs.{Sent, Ports, row_of}
use Rattle.usb_port.specs.{is_clearing, PortStatus, PortCall, set_call, clear_call}
use Rattle.usb_world.specs.{Damage, Attempt, ports_in, one_more, counted, AnyStep, after_event}
use Rattle.usb_world.specs.{with_attempt, Step, after, Course, World, roots_of, IsMade, attempt}
use Rattle.usb_world.specs.{root_call, after_sent, after_attempt, IsSettled}
use Rattle.usb_world.specs.declared.losses.Losses.{Losses}
use Rattle.usb_world.proofs.Interface.{OverSteps, happened_long, over_course, over_step, row_long}
use Rattle.usb_world.proofs.Interface.{with_limit_told, attempt_cases, in_clears, kept_course}
use Rattle.usb_world.proofs.Interface.{loses, losses_as, out_counts, set_up_counts, settled_after}
use Rattle.usb_world.proofs.Interface.{not-true}
use Rattle.usb_enum.specs.{FewLosses, NoNewStretch}
use Rattle.std.specs.Global.{Vec}
use Rattle.usb_request.specs.{Setup, bytes_of, clear_port_feature, get_device_descriptor}
use Rattle.usb_request.specs.{get_port_status, set_port_feature}
use Rattle.usb_request.proofs.Interface.{same_setup}
use Rattle.usb_transfer.specs.{Target, begins_no_stretch, in_attempt, out_attempt, setup_attempt}
use Rattle.usb_transfer.specs.{PipeFault, IsOfTransfer, IsBehind}
use Rattle.usb_transfer.proofs.Interface.{read_attempts, write_attempts}
use Rattle.usb_hub.specs.{HubPort, Root, External, PortRead, PortSet, PortCleared, Queried}
use Rattle.usb_hub.specs.{Commanded}

-- the same damages and number of root ports, and a worst stretch that is no shorter
pub record IsLater (w v : World) : Type 0 where
  pub damages : v.damages ≡ w.damages
  pub roots : roots_of v ≡ roots_of w
  pub worst : w.losses.worst ≤ v.losses.worst

later_same : (w v : World) → v.damages ≡ w.damages → roots_of v ≡ roots_of w → v.losses ≡ w.losses
    → IsLater w v
later_same w v d r l = grind arith

sent_row : (o : Option Sent) (k : Ports) → row_of (after_sent o k) ≡ row_of k
sent_row o k = grind (arith, row_of-after)

attempt_row : (t d r : Option Sent) (k : Ports) → row_of (after_attempt t d r k) ≡ row_of k
attempt_row t d r k = grind (arith, row_of-forgotten, sent_row)

ports_in-row : (a : Attempt) (damage : Option Damage) (k : Ports)
    → length (row_of (ports_in a damage k)) ≡ length (row_of k)
unfolding ports_in
ports_in-row a damage k = grind (arith, attempt_row)

counted_worst : (b : Bool) (l : Losses) → l.worst ≤ (counted b l).worst
unfolding one_more
counted_worst b l = grind arith

made_later : (a : Attempt) (w : World) → IsLater w (with_attempt a w)
unfolding with_attempt
made_later a w = grind (arith, counted_worst, ports_in-row)

later_steps : {K : Step → World → Type 0} → OverSteps K IsLater
unfolding after_event
later_steps = record {
  events = grind (arith, happened_long);
  made = search made_later;
  root = λ c n w k. record {
    damages = refl;
    roots = search row_long;
    worst = grind arith;
  };
  refused = λ w. later_same w (with_limit_told w) refl refl refl;
}

-- the worst stretch alone
abbrev pub IsWorse : World → World → Type 0
IsWorse w v = w.losses.worst ≤ v.losses.worst

pub worse_steps : OverSteps AnyStep IsWorse
worse_steps = let l : OverSteps AnyStep IsLater = later_steps in grind arith

pub step_later : (s : Step) (w : World) → IsLater w (after s w)
step_later s w = over_step (later_steps {K = AnyStep}) s w tt

pub course_later : {K : Step → World → Type 0} {w v : World} → Course K w v → IsLater w v
course_later c = over_course later_steps c

-- where few are lost in the end, few were lost before
pub few_before : {K : Step → World → Type 0} {w v : World} → Course K w v → FewLosses v
    → FewLosses w
few_before c few = grind (arith, course_later)

-- Over which calls no other stretch begins

pub no_stretch_none : (w : World) → NoNewStretch w w
no_stretch_none w = record { run = omega arith }

pub no_stretch_then : {w m v : World} → NoNewStretch w m → NoNewStretch m v → NoNewStretch w v
no_stretch_then a b = grind arith

goes_same : (w v : World) → v.losses ≡ w.losses → NoNewStretch w v
goes_same w v same = grind arith

-- Attempts

-- where it is made
attempt_goes : {a : Attempt} {w : World} → IsSettled w.roots
    → (IsMade a w → NoNewStretch w (after (attempt a) w)) → NoNewStretch w (after (attempt a) w)
attempt_goes settled made = grind (arith, attempt_cases)

counted_run : (lost : Bool) (l : Losses) → l.run ≤ (counted lost l).run
unfolding one_more
counted_run lost l = grind arith

in_goes : (t : Target) {w : World} → IsMade (in_attempt t 0) w
    → NoNewStretch w (after (attempt (in_attempt t 0)) w)
in_goes t {w} m = record {
  run = subst (λ l. w.losses.run ≤ l.run)
      (sym (losses_as (in_attempt t 0) w (loses (in_attempt t 0) w) false m refl
      (search in_clears)))
      (counted_run (loses (in_attempt t 0) w) w.losses);
}

out_goes : (t : Target) {toggle : _} {a : Attempt} → a ≡ out_attempt t 0 toggle [] → {w : World}
    → IsMade a w → NoNewStretch w (after (attempt a) w)
out_goes t e m = grind (arith, out_counts)

-- Transfers of a request that clears no change of connection

module _ (t : Target) (request : Setup) (none : begins_no_stretch request ≡ true) where
  set_up_goes : {w : World} → IsMade (setup_attempt t (bytes_of request)) w
      → NoNewStretch w (after (attempt (setup_attempt t (bytes_of request))) w)
  set_up_goes {w} m = goes_same w _ (set_up_counts (setup_attempt t (bytes_of request))
      (bytes_of request) refl refl (search (not-true, same_setup))
      w m)

  behind_goes : (s : Step) (w : World) → IsBehind t s w → IsSettled w.roots
      → NoNewStretch w (after s w)
  behind_goes (attempt a) w (inl e) settled = grind (arith, attempt_goes, in_goes)
  behind_goes (attempt a) w (inr e) settled = attempt_goes settled (out_goes t e)
  behind_goes _ w k settled = elim k [ ]

  step_goes : (s : Step) (w : World) → IsOfTransfer t request s w → IsSettled w.roots
      → NoNewStretch w (after s w)
  step_goes s w h settled = grind (arith, attempt_goes, behind_goes, set_up_goes)

  transfer_goes : {w v : World} → Course (IsOfTransfer t request) w v → IsSettled w.roots
      → NoNewStretch w v
  transfer_goes {w} c settled =
      (kept_course (λ v. NoNewStretch w v × IsSettled v.roots)
      (grind (arith, settled_after, step_goes))
      c (no_stretch_none w, settled)).0

  pub asked_goes : {answer : Result (Vec ℕ) PipeFault} {old new : World}
      → Queried t request old answer new → new.fault ≡ None → NoNewStretch old new
  asked_goes asked still = grind (arith, read_attempts, transfer_goes)

  pub ordered_goes : {result : Result (Unit {0}) PipeFault} {old new : World}
      → Commanded t request old result new → new.fault ≡ None → NoNewStretch old new
  ordered_goes ordered still = grind (arith, transfer_goes, write_attempts)

pub device_goes : {t : Target} (length : ℕ) {answer : Result (Vec ℕ) PipeFault} {old new : World}
    → Queried t (get_device_descriptor length) old answer new → new.fault ≡ None
    → NoNewStretch old new
unfolding get_device_descriptor
device_goes length asked still = grind (arith, asked_goes)

-- Calls at ports

cleared_none : (c : PortCall) (n : ℕ) (old new : World) → is_clearing c ≡ false
    → new ≡ after (root_call c n) old → NoNewStretch old new
unfolding after
cleared_none c n old new e is = grind arith

pub status_goes : (port : HubPort) (outcome : Result PortStatus PipeFault) (old new : World)
    → PortRead port old outcome new → new.fault ≡ None → NoNewStretch old new
unfolding get_port_status
status_goes port outcome old new read still = grind (arith, asked_goes)

pub set_goes : (port : HubPort) (feature : ℕ) (c : PortCall) (outcome : Result (Unit {0}) PipeFault)
    (old new : World) → set_call feature ≡ Some c → is_clearing c ≡ false
    → PortSet port feature old outcome new → new.fault ≡ None → NoNewStretch old new
unfolding set_port_feature
set_goes (Root n) feature c outcome old new is none set still =
    cleared_none c n old new none (set.row.step c is)
set_goes (External hub n) feature c outcome old new is none ordered still =
    grind (arith, ordered_goes)

pub clear_goes : (port : HubPort) (feature : ℕ) (c : PortCall)
    (outcome : Result (Unit {0}) PipeFault) (old new : World) → clear_call feature ≡ Some c
    → is_clearing c ≡ false → (feature == 16) ≡ false → PortCleared port feature old outcome new
    → new.fault ≡ None → NoNewStretch old new
unfolding clear_port_feature
clear_goes (Root n) feature c outcome old new is none other cleared still =
    cleared_none c n old new none (cleared.row.step c is)
clear_goes (External hub n) feature c outcome old new is none other ordered still =
    grind (arith, ordered_goes)
