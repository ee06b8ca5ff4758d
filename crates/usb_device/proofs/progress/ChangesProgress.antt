-- IN of a configured hub's status endpoint, one attempt after another.
use Rattle.std.proofs.Common.{◌≡◌, ◌≢◌, ◌≤◌, ◌&&◌, ◌==◌, ℕ, nat_le, if◌then◌else◌, Bool, true}
use Rattle.std.proofs.Common.{false, List, length, Option, None, Some, refl, ap, sym, subst, ◌∙◌}
use Rattle.std.proofs.Common.{arith}
use Rattle.std.proofs.lemmas.Bool.Decides.{nat_tests}
use Rattle.usb_packet.specs.{Toggle, Zero, One, other, is_same}
use Rattle.usb_port.specs.{PortState}
use Rattle.usb_device.specs.declared.answer.Answer.TheVariants.{Nak, Stall}
use Rattle.usb_device.specs.declared.transfer.InEndpoint.TheVariants as by
use Rattle.usb_device.specs.{tells_changes, change_bits, change_bytes, hub_ports, status_length}
use Rattle.usb_device.specs.{status_number, State, Reply, forgotten, payload}
use Rattle.usb_device.specs.{acknowledged, in_max, Way, is_whole, heard, gave, held_law}
use Rattle.usb_device.specs.{changes_law, in_control_law, in_end_law, in_law, in_other_law}
use Rattle.usb_device.specs.{PollAt, level, told, ahead}
use Rattle.usb_device.specs.{NeverTold, PollOn}
use Rattle.usb_device.specs.Attempt.{whole}
use Rattle.usb_device.proofs.progress.BulkProgress.{other-other}
use Rattle.usb_device.proofs.progress.ControlProgress.{is_same-refl}
use Rattle.usb_device.proofs.Attempts.{same_number}
use Rattle.usb_device.proofs.ServedNumbers.{status_number-small}

pub other_toggle : (t : Toggle) → is_same t (other t) ≡ false
other_toggle Zero = refl
other_toggle One = refl

true_not_false : {A : Type 0} (b : Bool) → b ≡ true → b ≡ false → A
true_not_false b h k = absurd cc

pub law_is : (s : State) → tells_changes s.spec s.registers ≡ true
    → (row : List PortState) (max : ℕ) (t2 t3 : Way)
    → in_law s row (status_number s.spec s.registers) max whole t2 t3 ≡ changes_law s row max t2 t3
law_is s h row max t2 t3 =
    let number = status_number s.spec s.registers in
    let small = status_number-small s.spec s.registers in
    let other : (number == 0) ≡ false = grind (arith, nat_tests, small.0) in
    let here : (number == number && tells_changes s.spec s.registers) ≡ true =
    rw (same_number number, h) refl in
    ap (λ z. if z then in_control_law s max t2 t3 else in_other_law s row number max t2 t3) other
    ∙ ap (λ z. if z then changes_law s row max t2 t3 else in_end_law s number (in_max s number) max
    t2 t3) here

-- what is so of a reply
abbrev PollReply : (ℕ → Type 0) → ℕ → Toggle → Reply → Type 0
PollReply Told bits t r = PollOn Told bits t r.0 r.1

-- the bytes by which it tells some bits
abbrev bytes_by : State → ℕ → List ℕ
bytes_by s bits = change_bytes (hub_ports s.spec.hub) bits

-- the hub after bits, by whether the ACK came
abbrev after_poll_byte : State → Bool → State
after_poll_byte s came = if came then forgotten (acknowledged s by.Changes) else s

-- ---- bits with the toggle that the host awaits

poll_between : (bits : ℕ) (t : Toggle) (s : State) → s.held ≡ Some bits → s.changes.toggle ≡ t
    → (came : Bool) → PollAt NeverTold (other t) (after_poll_byte s came)
poll_between bits t s h q true = level refl (ap other q)
poll_between bits t s h q false = ahead bits h (q ∙ sym (other-other t))

-- it is the same hub then
bytes-after : (b : ℕ) (s : State) (came : Bool) → bytes_by s b ≡ bytes_by (after_poll_byte s came) b
bytes-after b s true = refl
bytes-after b s false = refl

gave_awaited : (Told : ℕ → Type 0) (bits b : ℕ) (t : Toggle) (s : State) → Told b → s.held ≡ Some b
    → s.changes.toggle ≡ t → (heard fits came : Bool) → PollOn Told bits t
    (if heard then Some (payload s.changes.toggle (bytes_by s b)) else None)
    (after_poll_byte s (heard && fits && came))
gave_awaited Told bits b t s so h q false fits came = told b so h q
gave_awaited Told bits b t s so h q true fits came = (
  λ e. record {
    bits = b;
    so = so;
    came = bytes-after b s (fits && came);
    between = poll_between b t s h q (fits && came);
  },
  λ e. true_not_false (is_same t s.changes.toggle) (ap (is_same t) q ∙ is_same-refl t) e,
)

-- ---- bits with the other one

poll_caught_up : (Told : ℕ → Type 0) (b : ℕ) (t : Toggle) (s : State) → s.held ≡ Some b
    → s.changes.toggle ≡ other t → (came : Bool) → PollAt Told t (after_poll_byte s came)
poll_caught_up Told b t s h q true = level refl (ap other q ∙ other-other t)
poll_caught_up Told b t s h q false = ahead b h q

gave_again : (Told : ℕ → Type 0) (bits b : ℕ) (t : Toggle) (s : State) → s.held ≡ Some b
    → s.changes.toggle ≡ other t → (heard fits came : Bool) → PollOn Told bits t
    (if heard then Some (payload s.changes.toggle (bytes_by s b)) else None)
    (after_poll_byte s (heard && fits && came))
gave_again Told bits b t s h q false fits came = ahead b h q
gave_again Told bits b t s h q true fits came = (
  λ e. true_not_false (is_same t s.changes.toggle) e (ap (is_same t) q ∙ other_toggle t),
  λ e. poll_caught_up Told b t s h q (fits && came),
)

-- ---- by what is held

poll_stalled : (Told : ℕ → Type 0) (bits : ℕ) (t : Toggle) (s : State) → PollAt Told t s
    → s.changes.halted ≡ true → (t2 : Way) → PollReply Told bits t (heard t2 (Some Stall), s)
poll_stalled Told bits t s at h whole = (at, h)
poll_stalled Told bits t s at h t2 = at

no_change_on : (Told : ℕ → Type 0) (bits : ℕ) (t : Toggle) (s : State) → s.held ≡ None
    → s.changes.toggle ≡ t → bits ≡ 0 → (t2 : Way) → PollReply Told bits t (heard t2 (Some Nak), s)
no_change_on Told bits t s h q z whole = (z, level h q)
no_change_on Told bits t s h q z t2 = level h q

some_bits : (bits : ℕ) → (bits == 0) ≡ false → bits ≢ 0
some_bits bits z e = true_not_false (bits == 0) (rw e refl) z

by_bits : (Told : ℕ → Type 0) (bits : ℕ) (t : Toggle) (s : State) → (bits ≢ 0 → Told bits)
    → s.held ≡ None → s.changes.toggle ≡ t → (max : ℕ) (t2 t3 : Way) (none : Bool)
    → (bits == 0) ≡ none → PollReply Told bits t (if none then (heard t2 (Some Nak), s) else gave
    (record s { held = Some bits }) by.Changes max s.changes.toggle (bytes_by s bits) t2 t3)
by_bits Told bits t s so h q max t2 t3 true z =
    no_change_on Told bits t s h q (grind (arith, nat_tests)) t2
by_bits Told bits t s so h q max t2 t3 false z =
    gave_awaited Told bits bits t (record s { held = Some bits }) (so (some_bits bits z)) refl q
    (is_whole t2) (nat_le (length (bytes_by s bits)) max) (is_whole t3)

-- the bits that its ports tell
abbrev bits_by : State → List PortState → ℕ
bits_by s row = change_bits (hub_ports s.spec.hub) row

by_held : (Told : ℕ → Type 0) (t : Toggle) (s : State) (row : List PortState)
    → (bits_by s row ≢ 0 → Told (bits_by s row)) → PollAt Told t s
    → (max : ℕ) (t2 t3 : Way) (held : Option ℕ) → s.held ≡ held
    → PollReply Told (bits_by s row) t (held_law s row held max t2 t3)
by_held Told t s row so (level h q) max t2 t3 None e =
    by_bits Told (bits_by s row) t s so h q max t2 t3 (bits_by s row == 0) refl
by_held Told t s row so (level h q) max t2 t3 (Some b) e = absurd cc
by_held Told t s row so (told b th h q) max t2 t3 None e = absurd cc
by_held Told t s row so (told b th h q) max t2 t3 (Some c) e =
    let same : b ≡ c = cc in
    gave_awaited Told (bits_by s row) c t s (subst Told same th) e q (is_whole t2)
    (nat_le (length (bytes_by s c)) max) (is_whole t3)
by_held Told t s row so (ahead b h q) max t2 t3 None e = absurd cc
by_held Told t s row so (ahead b h q) max t2 t3 (Some c) e =
    gave_again Told (bits_by s row) c t s e q (is_whole t2) (nat_le (length (bytes_by s c)) max)
    (is_whole t3)

by_halt : (Told : ℕ → Type 0) (bits : ℕ) (t : Toggle) (s : State) → PollAt Told t s
    → (t2 : Way) (rest : Reply) → PollReply Told bits t rest → (halted : Bool)
    → s.changes.halted ≡ halted
    → PollReply Told bits t (if halted then (heard t2 (Some Stall), s) else rest)
by_halt Told bits t s at t2 rest h true e = poll_stalled Told bits t s at e t2
by_halt Told bits t s at t2 rest h false e = h

-- of anything that is so of the bits that the ports told, where some is set: no bits are given
-- where none is
pub poll_on : (Told : ℕ → Type 0) (t : Toggle) (s : State) → tells_changes s.spec s.registers ≡ true
    → (row : List PortState)
    → (change_bits (hub_ports s.spec.hub) row ≢ 0 → Told (change_bits (hub_ports s.spec.hub) row))
    → PollAt Told t s → (max : ℕ) → status_length (hub_ports s.spec.hub) ≤ max
    → (t1 t2 t3 : Way) → PollOn Told (change_bits (hub_ports s.spec.hub) row) t
    (in_law s row (status_number s.spec s.registers) max t1 t2 t3).0
    (in_law s row (status_number s.spec s.registers) max t1 t2 t3).1
poll_on Told t s h row so at max m whole t2 t3 =
    subst (PollReply Told (bits_by s row) t) (sym (law_is s h row max t2 t3))
    (by_halt Told (bits_by s row) t s at t2 (held_law s row s.held max t2 t3)
    (by_held Told t s row so at max t2 t3 s.held refl) s.changes.halted refl)
poll_on Told t s h row so at max m t1 t2 t3 = at
