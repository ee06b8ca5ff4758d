-- How far a control transfer is after one more attempt.
use Rattle.std.proofs.Common.{◌≡◌, ◌⊎◌, inl, inr, ℕ, ◌+◌, ◌%◌, ◌==◌, nat_le, if◌then◌else◌, ◌&&◌}
use Rattle.std.proofs.Common.{not, Bool, true, false, List, length, Option, None, Some, is_some}
use Rattle.std.proofs.Common.{refl, ap, sym, subst, ◌∙◌, arith}
use Rattle.std.proofs.lemmas.Bool.Decides.{nat_tests}
use Rattle.usb_packet.specs.{Toggle, Zero, One, is_same}
use Rattle.usb_device.specs.{Answer, Stage, reading, max_packet, packet_at, toggle_at, State, Reply}
use Rattle.usb_device.specs.{forgotten, is_busy, nak_row, ack_row, Way, is_whole, heard, gave}
use Rattle.usb_device.specs.{in_stage_law, in_law, taken_of, ReadingAt, ReadOn}
use Rattle.usb_device.specs.declared.answer.Answer.TheVariants.{Nak}
use Rattle.usb_device.specs.declared.transfer.InEndpoint.TheVariants as by
use Rattle.usb_port.specs.{PortState}
use Rattle.usb_device.specs.Attempt.{whole}

abbrev progress_stage : State → Stage → State
progress_stage d s = record d { stage = s }

abbrev control_reply : Option Answer → State → Reply
control_reply r d = (r, d)

with_stage_of : (P : State → Type 0) (s : State) (st : Stage) → s.stage ≡ st
    → P (progress_stage s st) → P s
with_stage_of P s st h p = subst (λ x. P (progress_stage s x)) (sym h) p

-- ---- toggles

even-suc : (k : ℕ) → ((k + 1) % 2 == 0) ≡ not (k % 2 == 0)
even-suc k = grind (arith, nat_tests)

alternate : (b c : Bool) → b ≡ not c → is_same (if b then One else Zero) (if c then One else Zero)
    ≡ false
alternate true false h = refl
alternate false true h = refl
alternate b c h = cc

turns : (n k : ℕ) → n ≡ k + 1 → is_same (toggle_at n) (toggle_at k) ≡ false
turns n k e = ap (λ m. is_same (toggle_at m) (toggle_at k)) e
    ∙ alternate ((k + 1) % 2 == 0) (k % 2 == 0) (even-suc k)

pub is_same-refl : (t : Toggle) → is_same t t ≡ true
is_same-refl Zero = refl
is_same-refl One = refl

-- ---- a control read

-- the host has got n packets where the device knows of k
abbrev Near : List ℕ → ℕ → ℕ → ℕ → State → Type 0
Near answer wanted n k s = (n ≡ k) ⊎ ((n ≡ k + 1)
    × (is_some (packet_at (max_packet s.spec) wanted answer k) ≡ true))

near_stays : (answer : List ℕ) (wanted n k : ℕ) (s : State) → Near answer wanted n k s
    → ReadingAt answer wanted n (progress_stage s (reading answer wanted k))
near_stays answer wanted n k s near = record { known = k; stage = refl; near = near }

given : (answer bytes : List ℕ) (wanted k : ℕ) (s : State)
    → packet_at (max_packet s.spec) wanted answer k ≡ Some bytes
    → is_some (packet_at (max_packet s.spec) wanted answer k) ≡ true
given answer bytes wanted k s h = ap is_some h

-- the host's ACK of packet k
ack_row-next : (answer : List ℕ) (wanted k : ℕ) (s : State)
    → is_some (packet_at (max_packet s.spec) wanted answer k) ≡ true
    → forgotten (ack_row (progress_stage s (reading answer wanted k)) (reading answer wanted k))
    ≡ progress_stage (forgotten s) (reading answer wanted (k + 1))
ack_row-next answer wanted k s h =
    ap (λ b. forgotten (if b then progress_stage s (reading answer wanted (k + 1))
    else progress_stage s (reading answer wanted k))) h

-- the device after it gave packet k: the ACK came, or it did not
abbrev after_giving : List ℕ → ℕ → ℕ → State → Bool → State
after_giving answer wanted k s came =
    if came then forgotten (ack_row (progress_stage s (reading answer wanted k))
    (reading answer wanted k)) else progress_stage s (reading answer wanted k)

level_taken : (answer : List ℕ) (wanted k : ℕ) (s : State)
    → is_some (packet_at (max_packet s.spec) wanted answer k) ≡ true → (came : Bool)
    → ReadingAt answer wanted (k + 1) (after_giving answer wanted k s came)
level_taken answer wanted k s h true = subst (λ x. ReadingAt answer wanted (k + 1) x)
    (sym (ack_row-next answer wanted k s h)) (near_stays answer wanted (k + 1) (k + 1) (forgotten s)
    (inl refl))
level_taken answer wanted k s h false = near_stays answer wanted (k + 1) k s (inr (refl, h))

ahead_missed : (answer : List ℕ) (wanted n k : ℕ) (s : State) → n ≡ k + 1
    → is_some (packet_at (max_packet s.spec) wanted answer k) ≡ true → (came : Bool)
    → ReadingAt answer wanted n (after_giving answer wanted k s came)
ahead_missed answer wanted n k s e h true =
    subst (λ x. ReadingAt answer wanted n x) (sym (ack_row-next answer wanted k s h))
    (near_stays answer wanted n (k + 1) (forgotten s) (inl e))
ahead_missed answer wanted n k s e h false = near_stays answer wanted n k s (inr (e, h))

level_heard : (answer bytes : List ℕ) (wanted k : ℕ) (s : State)
    → packet_at (max_packet s.spec) wanted answer k ≡ Some bytes → (same fits : Bool) → same ≡ true
    → (t3 : Way) → ReadOn answer wanted k (progress_stage s (reading answer wanted k))
    (if same && fits then Some bytes else None)
    (after_giving answer wanted k s (fits && is_whole t3))
level_heard answer bytes wanted k s h true true e t3 =
    (h, level_taken answer wanted k s (given answer bytes wanted k s h) (is_whole t3))
level_heard answer bytes wanted k s h true false e t3 = near_stays answer wanted k k s (inl refl)
level_heard answer bytes wanted k s h false fits e t3 = cc

ahead_heard : (answer bytes : List ℕ) (wanted n k : ℕ) (s : State) → n ≡ k + 1
    → is_some (packet_at (max_packet s.spec) wanted answer k) ≡ true → (same fits : Bool)
    → same ≡ false → (t3 : Way)
    → ReadOn answer wanted n (progress_stage s (reading answer wanted k))
    (if same && fits then Some bytes else None)
    (after_giving answer wanted k s (fits && is_whole t3))
ahead_heard answer bytes wanted n k s e h true fits f t3 = cc
ahead_heard answer bytes wanted n k s e h false fits f t3 =
    ahead_missed answer wanted n k s e h (fits && is_whole t3)

heard_given : (answer bytes : List ℕ) (wanted n k max : ℕ) (s : State)
    → packet_at (max_packet s.spec) wanted answer k ≡ Some bytes → Near answer wanted n k s
    → (t3 : Way) → ReadOn answer wanted n (progress_stage s (reading answer wanted k))
    (if is_same (toggle_at n) (toggle_at k) && nat_le (length bytes) max then Some bytes
    else None) (after_giving answer wanted k s (nat_le (length bytes) max && is_whole t3))
heard_given answer bytes wanted n k max s h (inl e) t3 =
    subst (λ m. ReadOn answer wanted m (progress_stage s (reading answer wanted k))
    (if is_same (toggle_at m) (toggle_at k) && nat_le (length bytes) max then Some bytes
    else None) (after_giving answer wanted k s (nat_le (length bytes) max && is_whole t3)))
    (sym e)
    (level_heard answer bytes wanted k s h (is_same (toggle_at k) (toggle_at k))
    (nat_le (length bytes) max) (is_same-refl (toggle_at k)) t3)
heard_given answer bytes wanted n k max s h (inr (e, g)) t3 =
    ahead_heard answer bytes wanted n k s e g (is_same (toggle_at n) (toggle_at k))
    (nat_le (length bytes) max) (turns n k e) t3

-- the read went on as the reply says
abbrev ReadAdvances : List ℕ → ℕ → ℕ → ℕ → State → Reply → Type 0
ReadAdvances answer wanted n max d reply =
    ReadOn answer wanted n d (taken_of (toggle_at n) max reply.0) reply.1

packet_read_given : (answer bytes : List ℕ) (wanted n k max : ℕ) (s : State)
    → packet_at (max_packet s.spec) wanted answer k ≡ Some bytes → Near answer wanted n k s
    → (t2 t3 : Way) → ReadAdvances answer wanted n max (progress_stage s (reading answer wanted k))
    (gave (progress_stage s (reading answer wanted k)) by.Control max (toggle_at k) bytes t2 t3)
packet_read_given answer bytes wanted n k max s h near whole t3 =
    heard_given answer bytes wanted n k max s h near t3
packet_read_given answer bytes wanted n k max s h near t2 t3 = near_stays answer wanted n k s near

read_at : (answer : List ℕ) (wanted n k max : ℕ) (s : State) → Near answer wanted n k s
    → (t2 t3 : Way) (o : Option (List ℕ)) → packet_at (max_packet s.spec) wanted answer k ≡ o
    → ReadAdvances answer wanted n max (progress_stage s (reading answer wanted k))
    (elim o [
      | None ↦ control_reply None (progress_stage s (reading answer wanted k))
      | Some bytes ↦ gave (progress_stage s (reading answer wanted k)) by.Control max
          (toggle_at k) bytes t2 t3
    ])
read_at answer wanted n k max s near t2 t3 None h = near_stays answer wanted n k s near
read_at answer wanted n k max s near t2 t3 (Some bytes) h =
    packet_read_given answer bytes wanted n k max s h near t2 t3

read_busy : (answer : List ℕ) (wanted n k max : ℕ) (s : State) → Near answer wanted n k s
    → (t2 : Way) → ReadAdvances answer wanted n max (progress_stage s (reading answer wanted k))
    (heard t2 (Some Nak), (nak_row (progress_stage s (reading answer wanted k))).1)
read_busy answer wanted n k max s near whole = near_stays answer wanted n k (nak_row s).1 near
read_busy answer wanted n k max s near t2 = near_stays answer wanted n k (nak_row s).1 near

read_control : (answer : List ℕ) (wanted n k max : ℕ) (s : State) → Near answer wanted n k s
    → (t2 t3 : Way) (busy : Bool) → ReadAdvances answer wanted n max
    (progress_stage s (reading answer wanted k))
    (if busy then control_reply (heard t2 (Some Nak))
    (nak_row (progress_stage s (reading answer wanted k))).1 else in_stage_law
    (progress_stage s (reading answer wanted k)) (reading answer wanted k) max t2 t3)
read_control answer wanted n k max s near t2 t3 true = read_busy answer wanted n k max s near t2
read_control answer wanted n k max s near t2 t3 false =
    read_at answer wanted n k max s near t2 t3 (packet_at (max_packet s.spec) wanted answer k) refl

read_in : (answer : List ℕ) (wanted n k : ℕ) (s : State) → Near answer wanted n k s
    → (row : List PortState) (max : ℕ) (t1 t2 t3 : Way)
    → ReadAdvances answer wanted n max (progress_stage s (reading answer wanted k))
    (in_law (progress_stage s (reading answer wanted k)) row 0 max t1 t2 t3)
read_in answer wanted n k s near row max whole t2 t3 =
    read_control answer wanted n k max s near t2 t3 (is_busy s)
read_in answer wanted n k s near row max t1 t2 t3 = near_stays answer wanted n k s near

pub control_read : (answer : List ℕ) (wanted n : ℕ) (s : State) → ReadingAt answer wanted n s
    → (row : List PortState) (max : ℕ) (t1 t2 t3 : Way)
    → ReadOn answer wanted n s (taken_of (toggle_at n) max (in_law s row 0 max t1 t2 t3).0)
    (in_law s row 0 max t1 t2 t3).1
control_read answer wanted n s at row max t1 t2 t3 =
    with_stage_of (λ x. ReadAdvances answer wanted n max x (in_law x row 0 max t1 t2 t3)) s
    (reading answer wanted at.known) at.stage
    (read_in answer wanted n at.known s at.near row max t1 t2 t3)
