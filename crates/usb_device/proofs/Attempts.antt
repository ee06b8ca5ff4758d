-- A whole attempt with one device.
use Rattle.std.proofs.Common.{◌≡◌, ℕ, ◌==◌, nat_le, nat_lt, if◌then◌else◌, ◌&&◌, Bool, true, false}
use Rattle.std.proofs.Common.{List, [], length, Option, None, Some, refl, ap, ◌∙◌, arith}
use Rattle.std.proofs.lemmas.Bool.Decides.{nat_tests}
use Rattle.usb_packet.specs.{OutTok, InTok, SetupTok, Toggle, Zero, One, Packet, Token, Payload}
use Rattle.usb_packet.specs.declared.Packet.TheVariants as packet
use Rattle.usb_request.specs.{setup_of}
use Rattle.usb_device.specs.{Answer, RememberedPacket, InEndpoint, BulkOut, tells_changes}
use Rattle.usb_device.specs.{change_bits, Outcome, halts, unhalts, outcome, Stage, idle, refused}
use Rattle.usb_device.specs.{reading, read, ending, writing, is_done, max_packet, packet_at}
use Rattle.usb_device.specs.{toggle_at, State, Reply, change_bytes, hub_ports, status_number}
use Rattle.usb_device.specs.{received, answered, unread, forgotten, accepted, payload, is_busy}
use Rattle.usb_device.specs.{nak_row, unless_busy, gives, in_row, begun, data_row, token_row}
use Rattle.usb_device.specs.{changes_row, held_row, in_other_row, in_end_row}
use Rattle.usb_device.specs.{acknowledged, in_end, in_max, next_packet, given_row, in_hesitates}
use Rattle.usb_device.specs.{Way, lost, heard, acked, setup_exchange, out_exchange, in_exchange}
use Rattle.usb_device.specs.{setup_law, out_law, gave, given_law}
use Rattle.usb_device.specs.{in_stage_law, changes_law, held_law, in_other_law}
use Rattle.usb_device.specs.{in_end_law, in_control_law, in_law, is_own, through, is_whole}
use Rattle.usb_device.specs.declared.answer.Answer.TheVariants.{Ack, Nak, Stall}
use Rattle.usb_device.specs.declared.transfer.RememberedPacket.TheVariants.{Nothing, SetupSeen}
use Rattle.usb_device.specs.declared.transfer.RememberedPacket.TheVariants.{OutSeen, AckAwaited}
use Rattle.usb_device.specs.declared.transfer.InEndpoint.TheVariants as by
use Rattle.usb_port.specs.{PortState}
use Rattle.usb_device.specs.Attempt.{whole, broken}

pub same_number : (n : ℕ) → (n == n) ≡ true
same_number n = grind (arith, nat_tests)

abbrev attempt_reply : Option Answer → State → Reply
attempt_reply r d = (r, d)

abbrev remembering : State → RememberedPacket → State
remembering d m = record d { memory = m }

-- ---- packets one by one

unread-is : (d : State) (m : RememberedPacket) → d.spec.silent ≡ false
    → unread (remembering d m) ≡ forgotten d
unfolding unread
unread-is d m loud = rw loud refl

pub unread-rested : (d : State) → unread (forgotten d) ≡ forgotten d
unfolding unread
unread-rested d = elim d.spec.silent
    as (λ s. ◌≡◌ {A = State} (if s then forgotten d else forgotten d) (forgotten d)) [
      | true ↦ refl
      | false ↦ refl
    ]

pub silent-stays : (d : State) (row : List PortState) (p : Packet) → d.spec.silent ≡ true
    → received d row p ≡ (None, d)
unfolding received
silent-stays d row p silent = rw silent refl

pub silent-unread : (d : State) → d.spec.silent ≡ true → unread d ≡ d
unfolding unread
silent-unread d silent = rw silent refl

silent_or_row : (d : State) (silent : Bool) (row : Reply) → row ≡ (None, forgotten d)
    → (if silent then attempt_reply None (forgotten d) else row) ≡ attempt_reply None (forgotten d)
silent_or_row d true row h = refl
silent_or_row d false row h = h

rested-row : (d : State) (row : List PortState) (p : Packet) → is_own d p ≡ false
    → answered (forgotten d) row Nothing p ≡ (None, forgotten d)
rested-row d row (Token kind a e) h = rw h refl
rested-row d row p h = refl

pub received-not_own : (d : State) (row : List PortState) (p : Packet) → is_own d p ≡ false
    → received (forgotten d) row p ≡ (None, forgotten d)
unfolding received
received-not_own d row p h = silent_or_row d d.spec.silent (answered (forgotten d) row Nothing p)
    (rested-row d row p h)

-- ---- SETUP

setup_token : (d : State) (row : List PortState) → d.spec.silent ≡ false
    → received (forgotten d) row (Token SetupTok d.registers.address 0)
    ≡ (None, remembering d SetupSeen)
unfolding received
setup_token d row loud = rw (loud, same_number d.registers.address) refl

setup_data : (d : State) (row : List PortState) (s : List ℕ) → d.spec.silent ≡ false → length s ≡ 8
    → received (remembering d SetupSeen) row (Payload Zero (record { items = s }))
    ≡ (Some Ack, accepted (forgotten d) row (setup_of s))
unfolding received
setup_data d row s loud len = rw (loud, len) refl

-- the end where nothing was answered
forgotten_none : (t : Way) (d : State) → attempt_reply (heard t None) (forgotten d)
    ≡ (None, forgotten d)
forgotten_none whole d = refl
forgotten_none t d = refl

abbrev finished : Way → Reply → Reply
finished t reply = (heard t reply.0, forgotten reply.1)

rested_data : (d : State) (row : List PortState) (t : Toggle) (b : List ℕ)
    → received (forgotten d) row (Payload t (record { items = b })) ≡ (None, forgotten d)
rested_data d row t b = received-not_own d row (Payload t (record { items = b })) refl

rested_through : (d : State) (row : List PortState) (t : Toggle) (b : List ℕ) (t2 : Way)
    → through t2 (forgotten d) row (Payload t (record { items = b })) ≡ (None, forgotten d)
rested_through d row t b whole = rested_data d row t b
rested_through d row t b broken = ap (attempt_reply None) (unread-rested d)
rested_through d row t b lost = refl

-- the data, where the token did not come whole
rested_text : (d : State) (row : List PortState) (t : Toggle) (b : List ℕ) (t1 t2 : Way)
    → through t2 (if is_whole t1 then forgotten d else (through t1 (forgotten d) row packet.Pre).1)
    row (Payload t (record { items = b })) ≡ (None, forgotten d)
rested_text d row t b broken t2 =
    ap (λ x. through t2 x row (Payload t (record { items = b }))) (unread-rested d)
    ∙ rested_through d row t b t2
rested_text d row t b t1 t2 = rested_through d row t b t2

-- a request leaves nothing remembered
begun-rests : (d : State) (row : List PortState) (n : ℕ) (o : Outcome)
    → forgotten (begun (forgotten d) row n o) ≡ begun (forgotten d) row n o
begun-rests d row n (halts (BulkOut e)) = refl
begun-rests d row n (unhalts (BulkOut e)) = refl
begun-rests d row n o = refl

pub setup_is : (d : State) (row : List PortState) (s : List ℕ) → d.spec.silent ≡ false
    → length s ≡ 8 → (t1 t2 t3 : Way) → setup_exchange (forgotten d) row d.registers.address s t1 t2
    t3 ≡ setup_law (forgotten d) row s t1 t2 t3
setup_is d row s loud len whole whole t3 =
    ap (λ r. finished t3 (received r.1 row (Payload Zero (record { items = s }))))
    (setup_token d row loud) ∙ ap (finished t3) (setup_data d row s loud len)
    ∙ ap (attempt_reply (heard t3 (Some Ack)))
    (begun-rests d row (setup_of s).length (outcome d.spec d.registers (setup_of s)))
setup_is d row s loud len whole broken t3 =
    simp (setup_token d row loud, unread-is d SetupSeen loud) (forgotten_none t3 d)
setup_is d row s loud len whole lost t3 = simp (setup_token d row loud) (forgotten_none t3 d)
setup_is d row s loud len t1 t2 t3 =
    ap (finished t3) (rested_text d row Zero s t1 t2) ∙ forgotten_none t3 d

-- ---- OUT

out_token : (d : State) (row : List PortState) (e : ℕ) → d.spec.silent ≡ false
    → received (forgotten d) row (Token OutTok d.registers.address e)
    ≡ (None, remembering d (OutSeen e))
unfolding received
out_token d row e loud = rw (loud, same_number d.registers.address) refl

out_data : (d : State) (row : List PortState) (e : ℕ) (t : Toggle) (b : List ℕ)
    → d.spec.silent ≡ false → received (remembering d (OutSeen e)) row
    (Payload t (record { items = b })) ≡ data_row (forgotten d) e t b
unfolding received
out_data d row e t b loud = rw loud refl

pub out_is : (d : State) (row : List PortState) (e : ℕ) (t : Toggle) (b : List ℕ)
    → d.spec.silent ≡ false → (t1 t2 t3 : Way)
    → out_exchange (forgotten d) row d.registers.address e t b t1 t2 t3 ≡ out_law (forgotten d) e t
    b t1 t2 t3
out_is d row e t b loud whole whole t3 =
    ap (λ r. finished t3 (received r.1 row (Payload t (record { items = b }))))
    (out_token d row e loud)
    ∙ ap (finished t3) (out_data d row e t b loud)
out_is d row e t b loud whole broken t3 =
    simp (out_token d row e loud, unread-is d (OutSeen e) loud) (forgotten_none t3 d)
out_is d row e t b loud whole lost t3 = simp (out_token d row e loud) (forgotten_none t3 d)
out_is d row e t b loud t1 t2 t3 =
    ap (finished t3) (rested_text d row t b t1 t2) ∙ forgotten_none t3 d

-- ---- IN

in_token : (d : State) (row : List PortState) (e : ℕ) → d.spec.silent ≡ false
    → received (forgotten d) row (Token InTok d.registers.address e) ≡ token_row (forgotten d) row
    InTok e
unfolding received
in_token d row e loud = rw (loud, same_number d.registers.address) refl

acked-none : (row : List PortState) (max : ℕ) (t2 t3 : Way) (d : State)
    → acked row max t2 t3 (None, d) ≡ (None, forgotten d)
acked-none row max whole t3 d = refl
acked-none row max t2 t3 d = refl

stalls : (row : List PortState) (max : ℕ) (t2 t3 : Way) (d : State)
    → acked row max t2 t3 (attempt_reply (Some Stall) (forgotten d))
    ≡ attempt_reply (heard t2 (Some Stall)) (forgotten d)
stalls row max whole t3 d = refl
stalls row max t2 t3 d = refl

acked-nak : (row : List PortState) (max : ℕ) (t2 t3 : Way) (d : State)
    → acked row max t2 t3 (attempt_reply (Some Nak) (forgotten d))
    ≡ attempt_reply (heard t2 (Some Nak)) (forgotten d)
acked-nak row max whole t3 d = refl
acked-nak row max t2 t3 d = refl

naks : (row : List PortState) (max : ℕ) (t2 t3 : Way) (d : State)
    → acked row max t2 t3 (nak_row (forgotten d)) ≡ attempt_reply (heard t2 (Some Nak))
    (nak_row (forgotten d)).1
naks row max whole t3 d = refl
naks row max t2 t3 d = refl

ack_came : (d : State) (row : List PortState) (giver : InEndpoint) → d.spec.silent ≡ false
    → received (remembering d (AckAwaited giver)) row packet.Ack
    ≡ (None, acknowledged (forgotten d) giver)
unfolding received
ack_came d row giver loud = rw loud refl

gave_is : (d : State) (row : List PortState) (giver : InEndpoint) (t : Toggle) (bytes : List ℕ)
    (max : ℕ) → d.spec.silent ≡ false → (t2 t3 : Way)
    → acked row max t2 t3 (gives (forgotten d) giver t bytes) ≡ gave (forgotten d) giver max t bytes
    t2 t3
gave_is d row giver t bytes max loud whole whole =
    elim (nat_le (length bytes) max)
    as (λ b. attempt_reply (Some (payload t bytes))
    (forgotten (if b then (received (remembering d (AckAwaited giver)) row packet.Ack).1
    else remembering d (AckAwaited giver))) ≡ attempt_reply (Some (payload t bytes))
    (if b && true then forgotten (acknowledged (forgotten d) giver) else forgotten d)) [
      | true ↦ ap (λ r. attempt_reply (Some (payload t bytes)) (forgotten r.1))
          (ack_came d row giver loud)
      | false ↦ refl
    ]
gave_is d row giver t bytes max loud whole broken =
    elim (nat_le (length bytes) max)
    as (λ b. attempt_reply (Some (payload t bytes))
    (forgotten (if b then unread (remembering d (AckAwaited giver)) else remembering d
    (AckAwaited giver))) ≡ attempt_reply (Some (payload t bytes))
    (if b && false then forgotten (acknowledged (forgotten d) giver) else forgotten d)) [
      | true ↦ ap (λ x. attempt_reply (Some (payload t bytes)) (forgotten x))
          (unread-is d (AckAwaited giver) loud)
      | false ↦ refl
    ]
gave_is d row giver t bytes max loud whole lost =
    elim (nat_le (length bytes) max)
    as (λ b. attempt_reply (Some (payload t bytes))
    (forgotten (if b then remembering d (AckAwaited giver) else remembering d
    (AckAwaited giver))) ≡ attempt_reply (Some (payload t bytes))
    (if b && false then forgotten (acknowledged (forgotten d) giver) else forgotten d))
    [ true ↦ refl | false ↦ refl ]
gave_is d row giver t bytes max loud t2 t3 = refl

abbrev with_stage : State → Stage → State
with_stage d s = record (forgotten d) { stage = s }

in_stage_is : (d : State) (row : List PortState) (max : ℕ) → d.spec.silent ≡ false
    → (t2 t3 : Way) (s : Stage) → acked row max t2 t3 (in_row (with_stage d s) s)
    ≡ in_stage_law (with_stage d s) s max t2 t3
in_stage_is d row max loud t2 t3 idle = acked-none row max t2 t3 (with_stage d idle)
in_stage_is d row max loud t2 t3 refused = stalls row max t2 t3 (with_stage d refused)
in_stage_is d row max loud t2 t3 read = acked-none row max t2 t3 (with_stage d read)
in_stage_is d row max loud t2 t3 (ending a) = gave_is (with_stage d (ending a)) row by.Control One
    [] max loud t2 t3
in_stage_is d row max loud t2 t3 (writing w) =
    let D = with_stage d (writing w) in
    elim (is_done w)
    as (λ b. acked row max t2 t3
    (if b then gives D by.Control One [] else attempt_reply (Some Stall) D)
    ≡ (if b then gave D by.Control max One [] t2 t3 else attempt_reply (heard t2 (Some Stall))
    D)) [
      | true ↦ gave_is D row by.Control One [] max loud t2 t3
      | false ↦ stalls row max t2 t3 D
    ]
in_stage_is d row max loud t2 t3 (reading answer wanted k) =
    let D = with_stage d (reading answer wanted k) in
    elim (packet_at (max_packet d.spec) wanted answer k)
    as (λ o. acked row max t2 t3 (elim o [
      | None ↦ attempt_reply None D
      | Some bytes ↦ gives D by.Control (toggle_at k) bytes
    ])
    ≡ (elim o [
      | None ↦ attempt_reply None D
      | Some bytes ↦ gave D by.Control max (toggle_at k) bytes t2 t3
    ])) [
      | None ↦ acked-none row max t2 t3 D
      | Some bytes ↦ gave_is D row by.Control (toggle_at k) bytes max loud t2 t3
    ]

in_whole : (d : State) (row : List PortState) (max : ℕ) → d.spec.silent ≡ false
    → (t2 t3 : Way) (busy : Bool) → acked row max t2 t3
    (if busy then nak_row (forgotten d) else in_row (forgotten d) d.stage)
    ≡ (if busy then attempt_reply (heard t2 (Some Nak)) (nak_row (forgotten d)).1 else in_stage_law
    (forgotten d) d.stage max t2 t3)
in_whole d row max loud t2 t3 true = naks row max t2 t3 d
in_whole d row max loud t2 t3 false = in_stage_is d row max loud t2 t3 d.stage

-- ---- IN of an endpoint that is served

given_is : (d : State) (row : List PortState) (e max : ℕ) → d.spec.silent ≡ false
    → (t2 t3 : Way) (bytes : List ℕ) (hesitates : Bool)
    → acked row max t2 t3 (if hesitates then attempt_reply (Some Nak) (in_hesitates (forgotten d) e)
    else gives (forgotten d) (by.Bulk e) (in_end d e).state.toggle bytes)
    ≡ (if hesitates then attempt_reply (heard t2 (Some Nak)) (in_hesitates (forgotten d) e)
    else gave (forgotten d) (by.Bulk e) max (in_end d e).state.toggle bytes t2 t3)
given_is d row e max loud t2 t3 bytes true = acked-nak row max t2 t3 (in_hesitates d e)
given_is d row e max loud t2 t3 bytes false =
    gave_is d row (by.Bulk e) (in_end d e).state.toggle bytes max loud t2 t3

next_is : (d : State) (row : List PortState) (e max : ℕ) → d.spec.silent ≡ false
    → (t2 t3 : Way) (next : Option (List ℕ))
    → acked row max t2 t3 (given_row (forgotten d) e next)
    ≡ given_law (forgotten d) e next max t2 t3
next_is d row e max loud t2 t3 None = acked-nak row max t2 t3 d
next_is d row e max loud t2 t3 (Some bytes) =
    given_is d row e max loud t2 t3 bytes (nat_lt 0 (in_end d e).pace.naks)

source_is : (d : State) (row : List PortState) (e max : ℕ) → d.spec.silent ≡ false
    → (t2 t3 : Way) (next : Option (List ℕ)) (halted : Bool)
    → acked row max t2 t3 (if halted then attempt_reply (Some Stall) (forgotten d)
    else given_row (forgotten d) e next)
    ≡ (if halted then attempt_reply (heard t2 (Some Stall)) (forgotten d)
    else given_law (forgotten d) e next max t2 t3)
source_is d row e max loud t2 t3 next true = stalls row max t2 t3 d
source_is d row e max loud t2 t3 next false = next_is d row e max loud t2 t3 next

in_end_is : (d : State) (row : List PortState) (e max : ℕ) → d.spec.silent ≡ false
    → (t2 t3 : Way) (most : Option ℕ) → acked row max t2 t3 (in_end_row (forgotten d) e most)
    ≡ in_end_law (forgotten d) e most max t2 t3
in_end_is d row e max loud t2 t3 None = acked-none row max t2 t3 (forgotten d)
in_end_is d row e max loud t2 t3 (Some most) =
    source_is d row e max loud t2 t3 (next_packet d e most (in_end d e).place)
    (in_end d e).state.halted

-- ---- IN of a hub's status endpoint

new_changes_is : (d : State) (row : List PortState) (bits max : ℕ) → d.spec.silent ≡ false
    → (t2 t3 : Way) (none : Bool)
    → acked row max t2 t3 (if none then (Some Nak, forgotten d) else gives
    (record (forgotten d) { held = Some bits }) by.Changes d.changes.toggle
    (change_bytes (hub_ports d.spec.hub) bits))
    ≡ (if none then attempt_reply (heard t2 (Some Nak)) (forgotten d) else gave
    (record (forgotten d) { held = Some bits }) by.Changes max d.changes.toggle
    (change_bytes (hub_ports d.spec.hub) bits) t2 t3)
new_changes_is d row bits max loud t2 t3 true = acked-nak row max t2 t3 d
new_changes_is d row bits max loud t2 t3 false =
    gave_is (record d { held = Some bits }) row by.Changes d.changes.toggle
    (change_bytes (hub_ports d.spec.hub) bits) max loud t2 t3

held_is : (d : State) (row : List PortState) (max : ℕ) → d.spec.silent ≡ false
    → (t2 t3 : Way) (h : Option ℕ) → acked row max t2 t3 (held_row (forgotten d) row h)
    ≡ held_law (forgotten d) row h max t2 t3
held_is d row max loud t2 t3 None =
    let bits = change_bits (hub_ports d.spec.hub) row in
    new_changes_is d row bits max loud t2 t3 (bits == 0)
held_is d row max loud t2 t3 (Some bits) =
    gave_is d row by.Changes d.changes.toggle (change_bytes (hub_ports d.spec.hub) bits) max loud
    t2 t3

changes_is : (d : State) (row : List PortState) (max : ℕ) → d.spec.silent ≡ false
    → (t2 t3 : Way) (halted : Bool)
    → acked row max t2 t3 (if halted then (Some Stall, forgotten d) else held_row (forgotten d) row
    d.held) ≡ (if halted then attempt_reply (heard t2 (Some Stall)) (forgotten d)
    else held_law (forgotten d) row d.held max t2 t3)
changes_is d row max loud t2 t3 true = stalls row max t2 t3 d
changes_is d row max loud t2 t3 false = held_is d row max loud t2 t3 d.held

in_other_is : (d : State) (row : List PortState) (e max : ℕ) → d.spec.silent ≡ false
    → (t2 t3 : Way) (hub : Bool)
    → acked row max t2 t3 (if hub then changes_row (forgotten d) row else in_end_row (forgotten d)
    e (in_max d e)) ≡ (if hub then changes_law (forgotten d) row max t2 t3
    else in_end_law (forgotten d) e (in_max d e) max t2 t3)
in_other_is d row e max loud t2 t3 true = changes_is d row max loud t2 t3 d.changes.halted
in_other_is d row e max loud t2 t3 false = in_end_is d row e max loud t2 t3 (in_max d e)

acked-endpoint : (d : State) (row : List PortState) (e max : ℕ) → d.spec.silent ≡ false
    → (t2 t3 : Way) (zero : Bool)
    → acked row max t2 t3 (if zero then unless_busy (forgotten d) (in_row (forgotten d) d.stage)
    else in_other_row (forgotten d) row e)
    ≡ (if zero then in_control_law (forgotten d) max t2 t3 else in_other_law (forgotten d) row e max
    t2 t3)
acked-endpoint d row e max loud t2 t3 true = in_whole d row max loud t2 t3 (is_busy d)
acked-endpoint d row e max loud t2 t3 false =
    in_other_is d row e max loud t2 t3
    (e == status_number d.spec d.registers && tells_changes d.spec d.registers)

pub in_is : (d : State) (row : List PortState) (e max : ℕ) → d.spec.silent ≡ false
    → (t1 t2 t3 : Way) → in_exchange (forgotten d) row d.registers.address e max t1 t2 t3
    ≡ in_law (forgotten d) row e max t1 t2 t3
in_is d row e max loud whole t2 t3 = ap (acked row max t2 t3) (in_token d row e loud)
    ∙ acked-endpoint d row e max loud t2 t3 (e == 0)
in_is d row e max loud broken t2 t3 = ap (λ x. acked row max t2 t3 (attempt_reply None x))
    (unread-rested d) ∙ acked-none row max t2 t3 (forgotten d)
in_is d row e max loud lost t2 t3 = acked-none row max t2 t3 (forgotten d)

pub ruleset attempts = (setup_is, out_is, in_is)
