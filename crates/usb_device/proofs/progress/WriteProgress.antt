-- How far a control write is after one more attempt.
use Rattle.std.proofs.Common.{◌≡◌, ℕ, ◌+◌, ◌==◌, nat_le, nat_lt, if◌then◌else◌, ◌&&◌, Bool, true}
use Rattle.std.proofs.Common.{false, List, [], length, Option, None, Some, refl, ap, sym, subst}
use Rattle.std.proofs.Common.{◌∙◌, arith}
use Rattle.std.proofs.lemmas.Bool.Decides.{nat_tests}
use Rattle.usb_packet.specs.{Toggle, One}
use Rattle.usb_port.specs.{PortState}
use Rattle.usb_device.specs.declared.answer.Answer.TheVariants.{Ack, Nak, Stall}
use Rattle.usb_device.specs.declared.transfer.InEndpoint.TheVariants as by
use Rattle.usb_device.specs.{Answer, State, Reply, Write, Next, Repeat, TooLong, written_on}
use Rattle.usb_device.specs.{judged, is_done}
use Rattle.usb_device.specs.{taken_with, max_packet, forgotten, is_busy, nak_row, out_row}
use Rattle.usb_device.specs.{write_row}
use Rattle.usb_device.specs.{wrote, ack_row, Way, is_whole, heard, gave, out_law, in_law}
use Rattle.usb_device.specs.{in_stage_law, taken_of, IsPacketOf, WritingAt, WriteAt, WriteOn}
use Rattle.usb_device.specs.{WriteEnded, WriteStatusOn, level, ahead, seen, unseen, OnlyWrite}
use Rattle.usb_device.specs.{status_row, Stage, reading, read, writing, WriteData}
use Rattle.usb_device.specs.Attempt.{whole}
use Rattle.usb_device.proofs.progress.ControlProgress.{is_same-refl}
use Rattle.usb_device.proofs.progress.ChangesProgress.{other_toggle}

abbrev reply_of_write : Option Answer → State → Reply
reply_of_write r s = (r, s)

module _ (old : List ℕ) (w : Write) (bytes : List ℕ) where
  -- what a packet is

  module _ (max : ℕ) (p : IsPacketOf w bytes) where
    some_bytes : (length bytes == 0) ≡ false
    some_bytes = grind (arith, nat_tests, p.some)

    judged-next : judged max w w.toggle bytes
        ≡ (if nat_lt max (length bytes) then TooLong else Next)
    judged-next =
        let few : nat_lt w.wanted (length w.got + length bytes) ≡ false =
        grind (arith, nat_tests, p.within) in
        rw (some_bytes, is_same-refl w.toggle, few) refl

    judged-repeat : judged max (written_on w bytes) w.toggle bytes
        ≡ (if nat_lt max (length bytes) then TooLong else Repeat)
    judged-repeat = rw (some_bytes, other_toggle w.toggle) refl

  -- while a packet is to come, nothing of the write is kept
  not_done : IsPacketOf w bytes → taken_with old w ≡ old
  not_done p =
      let more : (length w.got == w.wanted) ≡ false = grind (arith, nat_tests, p.some, p.within) in
      rw more refl

  -- what an attempt makes of it

  stays : (s v : State) → WriteAt old w bytes s → v.stage ≡ s.stage → v.taken ≡ s.taken
      → WriteAt old w bytes v
  stays s v (level at) e f = level (record { stage = e ∙ at.stage; taken = f ∙ at.taken })
  stays s v (ahead at) e f = ahead (record { stage = e ∙ at.stage; taken = f ∙ at.taken })

  -- what is so of a reply, by whether the host heard it
  abbrev WriteReply : Way → Reply → Type 0
  WriteReply t3 r = WriteOn old w bytes (heard t3 r.0) (forgotten r.1)

  acked_write : (t3 : Way) (s : State) → WritingAt old (written_on w bytes) (forgotten s)
      → WriteReply t3 (Some Ack, s)
  acked_write whole s at = at
  acked_write t3 s at = ahead at

  nak_of_write : (t3 : Way) (s : State) → WriteAt old w bytes s → WriteReply t3 (nak_row s)
  nak_of_write whole s at = stays s (forgotten (nak_row s).1) at refl refl
  nak_of_write t3 s at = stays s (forgotten (nak_row s).1) at refl refl

  not_heard : (t3 : Way) (s : State) → WriteAt old w bytes s → WriteReply t3 (None, s)
  not_heard whole s at = stays s (forgotten s) at refl refl
  not_heard t3 s at = stays s (forgotten s) at refl refl

  by_length : (s : State) → WritingAt old w s → IsPacketOf w bytes → (t3 : Way) (long : Bool)
      → WriteReply t3 (write_row s w bytes (if long then TooLong else Next))
  by_length s at p t3 true = not_heard t3 s (level at)
  by_length s at p t3 false = acked_write t3 (wrote s w bytes) (record {
    stage = refl;
    taken = ap (λ x. taken_with x (written_on w bytes)) (at.taken ∙ not_done p);
  })

  by_length_again : (s : State) → WritingAt old (written_on w bytes) s → (t3 : Way) (long : Bool)
      → WriteReply t3 (write_row s (written_on w bytes) bytes
      (if long then TooLong else Repeat))
  by_length_again s at t3 true = not_heard t3 s (ahead at)
  by_length_again s at t3 false =
      acked_write t3 s (record { stage = at.stage; taken = at.taken })

  taken_once : (s : State) → WriteAt old w bytes s → IsPacketOf w bytes → (t3 : Way)
      → WriteReply t3 (out_row s s.stage w.toggle bytes)
  taken_once s (level at) p t3 =
      subst (WriteReply t3) (sym (ap (λ g. out_row s g w.toggle bytes) at.stage
      ∙ ap (write_row s w bytes) (judged-next (max_packet s.spec) p)))
      (by_length s at p t3 (nat_lt (max_packet s.spec) (length bytes)))
  taken_once s (ahead at) p t3 =
      subst (WriteReply t3) (sym (ap (λ g. out_row s g w.toggle bytes) at.stage
      ∙ ap (write_row s (written_on w bytes) bytes) (judged-repeat (max_packet s.spec) p)))
      (by_length_again s at t3 (nat_lt (max_packet s.spec) (length bytes)))

  unless_busy_taken : (s : State) → WriteAt old w bytes s → IsPacketOf w bytes → (t3 : Way)
      → (busy : Bool)
      → WriteReply t3 (if busy then nak_row s else out_row s s.stage w.toggle bytes)
  unless_busy_taken s at p t3 true = nak_of_write t3 s at
  unless_busy_taken s at p t3 false = taken_once s at p t3

  pub control_write : (s : State) → WriteAt old w bytes s → IsPacketOf w bytes → (t1 t2 t3 : Way)
      → WriteOn old w bytes (out_law s 0 w.toggle bytes t1 t2 t3).0
      (out_law s 0 w.toggle bytes t1 t2 t3).1
  control_write s at p whole whole t3 = unless_busy_taken s at p t3 (is_busy s)
  control_write s at p t1 t2 t3 = at

module _ (old : List ℕ) (w : Write) where
  -- The status stage

  -- what is so of a reply, and that the address stays
  abbrev StatusReply : State → ℕ → Reply → Type 0
  StatusReply s max r = WriteStatusOn old w (taken_of One max r.0) r.1
      × (r.1.registers ≡ s.registers)

  abbrev after_status : State → Bool → State
  after_status s came = if came then forgotten (ack_row s s.stage) else s

  write_ended : (s : State) → WritingAt old w s → (came : Bool)
      → WriteEnded old w (after_status s came) × ((after_status s came).registers ≡ s.registers)
  write_ended s at true = (
    seen (ap (λ g. (ack_row s g).stage) at.stage)
        (ap (λ g. (ack_row s g).taken) at.stage ∙ at.taken),
    ap (λ g. (ack_row s g).registers) at.stage,
  )
  write_ended s at false = (unseen at, refl)

  status_given : (s : State) → WritingAt old w s → is_done w ≡ true → (max : ℕ) (t2 t3 : Way)
      → StatusReply s max (gave s by.Control max One [] t2 t3)
  status_given s at done max whole t3 =
      let short : nat_le 0 max ≡ true = grind (arith, nat_tests) in
      let end = write_ended s at (is_whole t3) in
      subst (λ b. WriteStatusOn old w (if b then Some [] else None)
      (after_status s (b && is_whole t3))
      × ((after_status s (b && is_whole t3)).registers ≡ s.registers)) (sym short)
      ((refl, done, end.0), end.1)
  status_given s at done max t2 t3 = (at, refl)

  by_done : (s : State) → WritingAt old w s → (max : ℕ) (t2 t3 : Way) (b : Bool) → is_done w ≡ b
      → StatusReply s max (if b then gave s by.Control max One [] t2 t3 else reply_of_write
      (heard t2 (Some Stall)) s)
  by_done s at max t2 t3 true done = status_given s at done max t2 t3
  by_done s at max whole t3 false done = (at, refl)
  by_done s at max t2 t3 false done = (at, refl)

  by_busy : (s : State) → WritingAt old w s → (max : ℕ) (t2 t3 : Way) (busy : Bool)
      → StatusReply s max (if busy then reply_of_write (heard t2 (Some Nak)) (nak_row s).1
      else in_stage_law s s.stage max t2 t3)
  by_busy s at max whole t3 true = (record { stage = at.stage; taken = at.taken }, refl)
  by_busy s at max t2 t3 true = (record { stage = at.stage; taken = at.taken }, refl)
  by_busy s at max t2 t3 false =
      subst (StatusReply s max) (sym (ap (λ g. in_stage_law s g max t2 t3) at.stage))
      (by_done s at max t2 t3 (is_done w) refl)

  pub control_write_status : (s : State) → WritingAt old w s
      → (row : List PortState) (max : ℕ) (t1 t2 t3 : Way)
      → WriteStatusOn old w (taken_of One max (in_law s row 0 max t1 t2 t3).0)
      (in_law s row 0 max t1 t2 t3).1
      × ((in_law s row 0 max t1 t2 t3).1.registers ≡ s.registers)
  control_write_status s at row max whole t2 t3 = by_busy s at max t2 t3 (is_busy s)
  control_write_status s at row max t1 t2 t3 = (at, refl)

-- OUT of endpoint 0

only_status : (s : State) (t : Toggle) (bytes : List ℕ)
    → OnlyWrite s (forgotten (status_row s t bytes).1)
only_status s One [] = refl
only_status s t bytes = refl

only_packet : (s : State) (w : Write) (bytes : List ℕ) (x : WriteData)
    → OnlyWrite s (forgotten (write_row s w bytes x).1)
only_packet s w bytes Next = refl
only_packet s w bytes x = refl

only_stage : (s : State) (t : Toggle) (bytes : List ℕ) (g : Stage)
    → OnlyWrite s (forgotten (out_row s g t bytes).1)
only_stage s t bytes (writing w) = only_packet s w bytes (judged (max_packet s.spec) w t bytes)
only_stage s t bytes (reading answer wanted k) = only_status s t bytes
only_stage s t bytes read = only_status s t bytes
only_stage s t bytes g = refl

only_unless : (s : State) (t : Toggle) (bytes : List ℕ) (busy : Bool)
    → OnlyWrite s (forgotten (if busy then nak_row s else out_row s s.stage t bytes).1)
only_unless s t bytes true = refl
only_unless s t bytes false = only_stage s t bytes s.stage

pub out_only_write : (s : State) (t : Toggle) (bytes : List ℕ) (t1 t2 t3 : Way)
    → OnlyWrite s (out_law s 0 t bytes t1 t2 t3).1
out_only_write s t bytes whole whole t3 = only_unless s t bytes (is_busy s)
out_only_write s t bytes t1 t2 t3 = refl

pub ruleset control_writes = (control_write, control_write_status, out_only_write)
