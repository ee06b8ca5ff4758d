-- What each row leaves as it is.
use Rattle.std.proofs.Common.{◌≡◌, ℕ, ◌==◌, if◌then◌else◌, Bool, true, false, List, None, Some}
use Rattle.std.proofs.Common.{Option, get_or, refl, ap, sym, ◌∙◌, rules}
use Rattle.std.proofs.lemmas.Bool.{eqb-true}
use Rattle.usb_packet.specs.{TokenKind, OutTok, InTok, SetupTok, Toggle, Zero, Packet, Token}
use Rattle.usb_packet.specs.{Payload}
use Rattle.usb_packet.specs.declared.Packet.TheVariants as packet
use Rattle.arrayvec.specs.ArrayVec.{ArrayVec}
use Rattle.usb_device.specs.{RememberedPacket, BulkIn, BulkOut, Outcome, halts, unhalts, Stage}
use Rattle.usb_device.specs.{idle, takes_configuration, halted, InEnd, no_in, rested_in, hesitated}
use Rattle.usb_device.specs.{begun_if, is_of_setting, takes_setting}
use Rattle.usb_device.specs.{given_row, in_hesitates, taken_row, with_at, reading, max_packet}
use Rattle.usb_device.specs.{packet_at, toggle_at, State, Reply}
use Rattle.usb_device.specs.{received, answered, forgotten, begun, gives, in_row}
use Rattle.usb_device.specs.{out_row, ack_row, token_row, payload_row, source_row, held_row}
use Rattle.usb_device.specs.{in_other_row, in_end_row, sink_row, out_end_row, in_ack_row, in_end}
use Rattle.usb_device.specs.{after_memory, in_max, Keeps, Write, WriteData, Next, judged, writing}
use Rattle.usb_device.specs.{write_row}
use Rattle.usb_device.specs.declared.transfer.InEndpoint.TheVariants as by
use Rattle.usb_port.specs.{PortState}
use Rattle.usb_device.specs.declared.transfer.RememberedPacket.TheVariants.{SetupSeen, OutSeen}
use Rattle.usb_device.specs.declared.transfer.RememberedPacket.TheVariants.{AckAwaited}
use Rattle.usb_device.proofs.RowsOfEnds.{at_mapped, at_numbered, at_other, at_same}
use Rattle.usb_device.proofs.RowsOfEnds.{begun_if-none}

keeps-if : (p : Packet) (d : State) (b : Bool) (x y : Reply) → Keeps p d x.1 → Keeps p d y.1
    → Keeps p d (if b then x else y).1
keeps-if p d true x y h k = h
keeps-if p d false x y h k = k

keeps-either : (p : Packet) (d : State) (b : Bool) (x y : State) → Keeps p d x → Keeps p d y
    → Keeps p d (if b then x else y)
keeps-either p d true x y h k = h
keeps-either p d false x y h k = k

keeps-in : (p : Packet) (d : State) (s : Stage) → Keeps p d (in_row d s).1
keeps-in p d (reading answer wanted k) =
    elim (packet_at (max_packet d.spec) wanted answer k)
    as (λ o. Keeps p d (elim o as (λ _. Reply) [
      | None ↦ (None, d)
      | Some bytes ↦ gives d by.Control (toggle_at k) bytes
    ]).1) [ None ↦ search rules | Some bytes ↦ search rules ]
keeps-in p d s = search rules

keeps-write : (u : Toggle) (c : ArrayVec ℕ) (d : State) (w : Write) (b : List ℕ) (x : WriteData)
    → Keeps (Payload u c) d (write_row d w b x).1
keeps-write u c d w b Next = search rules
keeps-write u c d w b x = search rules

keeps-out : (u : Toggle) (c : ArrayVec ℕ) (d : State) (s : Stage) (t : Toggle) (b : List ℕ)
    → Keeps (Payload u c) d (out_row d s t b).1
keeps-out u c d idle t b = search rules
keeps-out u c d (writing w) t b = keeps-write u c d w b (judged (max_packet d.spec) w t b)
keeps-out u c d s t b = search rules

-- a row of IN endpoints where one is another, which is as far
place-set : (a e : ℕ) (x : InEnd) (row : List InEnd) → x.place ≡ (get_or row a no_in).place
    → (get_or (with_at no_in a x row) e no_in).place ≡ (get_or row e no_in).place
place-set a e x row as_far = by_number (e == a) refl
  where
    by_number : (b : Bool) → (e == a) ≡ b
        → (get_or (with_at no_in a x row) e no_in).place ≡ (get_or row e no_in).place
    by_number true is =
        ap (λ m. (get_or (with_at no_in a x row) m no_in).place) (eqb-true e a is)
        ∙ ap (λ i. i.place) (at_same no_in a x row)
        ∙ as_far
        ∙ ap (λ m. (get_or row m no_in).place) (sym (eqb-true e a is))
    by_number false is = ap (λ i. i.place) (at_other no_in a e x row is)

rested-place : (b : Bool) (x : InEnd) → (begun_if b rested_in x).place ≡ x.place
rested-place true x = refl
rested-place false x = refl

begun-place : (d : State) (row : List PortState) (n : ℕ) (o : Outcome) (e : ℕ)
    → (in_end (begun d row n o) e).place ≡ (in_end d e).place
begun-place d row n (takes_configuration c) e =
    ap (λ i. i.place) (at_mapped no_in rested_in refl e d.ins)
begun-place d row n (halts (BulkIn a)) e =
    place-set a e (record (in_end d a) { state = halted (in_end d a).state }) d.ins refl
begun-place d row n (unhalts (BulkIn a)) e = place-set a e (rested_in (in_end d a)) d.ins refl
begun-place d row n (takes_setting i a) e =
    let begins : ℕ → Bool = is_of_setting d.spec d.registers i a true in
    ap (λ end. end.place) (at_numbered no_in (λ k. begun_if (begins k) rested_in)
    (λ k. begun_if-none rested_in no_in refl (begins k)) e d.ins)
    ∙ rested-place (begins e) (in_end d e)
begun-place d row n o e = refl

begun-spec : (d : State) (row : List PortState) (n : ℕ) (o : Outcome) → (begun d row n o).spec
    ≡ d.spec
begun-spec d row n (halts (BulkOut e)) = refl
begun-spec d row n (unhalts (BulkOut e)) = refl
begun-spec d row n o = refl

begun-address : (d : State) (row : List PortState) (n : ℕ) (o : Outcome)
    → (begun d row n o).registers.address ≡ d.registers.address
begun-address d row n (takes_configuration c) = refl
begun-address d row n (takes_setting i a) = refl
begun-address d row n o = refl

keeps-begun : (t : Toggle) (b : ArrayVec ℕ) (d : State) (row : List PortState) (n : ℕ) (o : Outcome)
    → Keeps (Payload t b) d (begun d row n o)
keeps-begun t b d row n o = record {
  spec = begun-spec d row n o;
  address = λ h. begun-address d row n o;
  configuration = λ h. cc;
  settings = λ h. cc;
  outs = λ h. cc;
  place = λ h e. begun-place d row n o e;
  taken = λ h. cc;
}

keeps-taken : (t : Toggle) (b : ArrayVec ℕ) (d : State) (e : ℕ) (bytes : List ℕ)
    → Keeps (Payload t b) d (taken_row d e bytes).1
keeps-taken t b d e bytes = search (rules, keeps-if)

keeps-sink : (t : Toggle) (b : ArrayVec ℕ) (d : State) (e max : ℕ) (bytes : List ℕ)
    → Keeps (Payload t b) d (sink_row d e max t bytes).1
keeps-sink t b d e max bytes = search (rules, keeps-if, keeps-taken)

keeps-out-end : (t : Toggle) (b : ArrayVec ℕ) (d : State) (e : ℕ) (most : Option ℕ)
    (bytes : List ℕ) → Keeps (Payload t b) d (out_end_row d e most t bytes).1
keeps-out-end t b d e None bytes = search rules
keeps-out-end t b d e (Some max) bytes = keeps-sink t b d e max bytes

keeps-hesitates : (p : Packet) (d : State) (e : ℕ) → Keeps p d (in_hesitates d e)
keeps-hesitates p d e = record {
  spec = refl;
  address = λ h. refl;
  configuration = λ h. refl;
  settings = λ h. refl;
  outs = λ h. refl;
  place = λ h a. place-set e a (record (in_end d e) { pace = hesitated (in_end d e).pace }) d.ins
      refl;
  taken = λ h. refl;
}

keeps-given : (p : Packet) (d : State) (e : ℕ) (next : Option (List ℕ))
    → Keeps p d (given_row d e next).1
keeps-given p d e None = search rules
keeps-given p d e (Some bytes) = search (rules, keeps-if, keeps-hesitates)

keeps-source : (p : Packet) (d : State) (e max : ℕ) → Keeps p d (source_row d e max).1
keeps-source p d e max = search (rules, keeps-if, keeps-given)

keeps-in-end : (p : Packet) (d : State) (e : ℕ) (most : Option ℕ)
    → Keeps p d (in_end_row d e most).1
keeps-in-end p d e None = search rules
keeps-in-end p d e (Some max) = keeps-source p d e max

keeps-held : (p : Packet) (d : State) (row : List PortState) (h : Option ℕ)
    → Keeps p d (held_row d row h).1
keeps-held p d row None = search (rules, keeps-if)
keeps-held p d row (Some bits) = search rules

keeps-in-other : (p : Packet) (d : State) (row : List PortState) (e : ℕ)
    → Keeps p d (in_other_row d row e).1
keeps-in-other p d row e = search (rules, keeps-if, keeps-held, keeps-in-end)

keeps-payload : (t : Toggle) (b : ArrayVec ℕ) (d : State) (row : List PortState)
    (m : RememberedPacket) → Keeps (Payload t b) d (payload_row d row m t b.items).1
keeps-payload Zero b d row SetupSeen = search (rules, keeps-if, keeps-begun)
keeps-payload t b d row (OutSeen e) = search (rules, keeps-if, keeps-out, keeps-out-end)
keeps-payload t b d row m = search rules

keeps-token : (p : Packet) (d : State) (row : List PortState) (kind : TokenKind) (e : ℕ)
    → Keeps p d (token_row d row kind e).1
keeps-token p d row SetupTok e = search (rules, keeps-either)
keeps-token p d row OutTok e = search rules
keeps-token p d row InTok e = search (rules, keeps-if, keeps-in, keeps-in-other)

keeps-ack : (d : State) (s : Stage) → Keeps packet.Ack d (ack_row d s)
keeps-ack d (reading answer wanted k) = search (rules, keeps-either)
keeps-ack d _ = search rules

keeps-in-ack : (d : State) (e : ℕ) (most : Option ℕ) → Keeps packet.Ack d (in_ack_row d e most)
keeps-in-ack d e None = search rules
keeps-in-ack d e (Some max) = search rules

keeps-after : (d : State) (m : RememberedPacket) → Keeps packet.Ack d (after_memory d m)
keeps-after d (AckAwaited by.Control) = keeps-ack d d.stage
keeps-after d (AckAwaited (by.Bulk e)) = keeps-in-ack d e (in_max d e)
keeps-after d m = search rules

keeps-answered : (d : State) (row : List PortState) (m : RememberedPacket) (p : Packet)
    → Keeps p d (answered d row m p).1
keeps-answered d row m (Token kind a e) = search (rules, keeps-if, keeps-token)
keeps-answered d row m (Payload t b) = keeps-payload t b d row m
keeps-answered d row m packet.Ack = keeps-after d m
keeps-answered d row m p = search rules

pub keeps-received : (d : State) (row : List PortState) (p : Packet)
    → Keeps p d (received d row p).1
unfolding received
keeps-received d row p =
    let k = keeps-answered (forgotten d) row d.memory p in
    keeps-if p d d.spec.silent (None, d) (answered (forgotten d) row d.memory p) (search rules)
    (record {
      spec = k.spec;
      address = k.address;
      configuration = k.configuration;
      settings = k.settings;
      outs = k.outs;
      place = k.place;
      taken = k.taken;
    })
