-- What a reading of a packet or a mark took from the front of a text is as it is printed.
use Rattle.std.proofs.Common.{◌≡◌, ℕ, zero, suc, ◌<◌, ◌≤◌, length, slice_index, arith, ◌&&◌, nat_lt}
use Rattle.std.proofs.Common.{if◌then◌else◌, List, [], ◌∷◌, ◌++◌, Some, None, option_map, codes}
use Rattle.std.proofs.Common.{decimal, refl, sym, ap, subst, ◌∙◌, append_assoc}
use Rattle.std.proofs.lemmas.Option.{option_and_then_some, same_Some}
use Rattle.std.proofs.lemmas.Bool.{and_parts, ltb-true}
use Rattle.std.specs.Option.{option_and_then}
use Rattle.hex.specs.Hex.{encode_upper, encode_with}
use Rattle.usb_packet.specs.{TokenKind, OutTok, InTok, SetupTok, Toggle, Zero, One, Packet, Token}
use Rattle.usb_packet.specs.{Payload, Ack, Nak, HasData, HasFields, IsBytes, data_name}
use Rattle.usb_packet.specs.{text_of, token_name}
use Rattle.usb_world.specs.{Mark, Whole, Lost, PreLost, Flipped, mark_text}
use Rattle.usb_pcap.specs.{bytes_on, decimal_in, strip, bit_in, data_in, data_of, fitting_token}
use Rattle.usb_pcap.specs.{handshake_in, packet_in, packet_mark_in, token_in}
use Rattle.usb_pcap.proofs.Reading.{bytes_on-data, bytes_on-some, decimal_in-some, found_some}
use Rattle.usb_pcap.proofs.Reading.{if-some, map_some, strip-some}

-- a text is that of a packet with this behind it
abbrev pub BeginsAs : List ℕ → Packet × List ℕ → Type 0
BeginsAs text r = (text ≡ text_of r.0 ++ r.1) × HasFields r.0 × HasData r.0

begins_as_same : (text : List ℕ) (r s : Packet × List ℕ) → BeginsAs text r → Some r ≡ Some s
    → BeginsAs text s
begins_as_same text r s h e = subst (BeginsAs text) (same_Some r s e) h

token_in-some : (kind : TokenKind) (text : List ℕ) (r : Packet × List ℕ)
    → token_in kind text ≡ Some r → BeginsAs (token_name kind ++ text) r
unfolding token_in
token_in-some kind text r e =
    option_and_then_some (λ addr. option_and_then
    (λ rest. option_and_then (fitting_token kind addr.0) (decimal_in rest))
    (strip (codes ".") addr.1)) (decimal_in text) r e (λ addr first behind.
    option_and_then_some (λ rest. option_and_then (fitting_token kind addr.0) (decimal_in rest))
    (strip (codes ".") addr.1) r behind (λ rest dot more.
    option_and_then_some (fitting_token kind addr.0) (decimal_in rest) r more
    (λ ep second fits_form.
    if-some _ _ _ fits_form
    (λ both is.
    let tests = and_parts (nat_lt addr.0 128) (nat_lt ep.0 16) both in
    let one = decimal_in-some text addr first in
    let two = decimal_in-some rest ep second in
    let spelled : token_name kind ++ text
    ≡ (token_name kind ++ decimal addr.0 ++ codes "." ++ decimal ep.0) ++ ep.1 =
    ap (λ l. token_name kind ++ l) (one.0
    ∙ ap (λ l. decimal addr.0 ++ l) (strip-some (codes ".") addr.1 rest dot
    ∙ ap (λ l. codes "." ++ l) two.0)) ∙ simp append_assoc in
    begins_as_same (token_name kind ++ text) (Token kind addr.0 ep.0, ep.1) r
    (spelled, (ltb-true addr.0 128 tests.0, ltb-true ep.0 16 tests.1), tt) is))))

data_of-some : (toggle : Toggle) (text : List ℕ) (b r : _) → data_of toggle b ≡ Some r
    → text ≡ encode_upper b.0 ++ b.1 → (length b.0 ≤ 64) × IsBytes b.0
    → BeginsAs (data_name toggle ++ text) r
data_of-some _ _ ([], rest) r is e fits_form = absurd (cc)
data_of-some toggle text (byte ∷ bytes, rest) r is e fits_form =
    begins_as_same (data_name toggle ++ text) _ r (
      ap (λ l. data_name toggle ++ l) e
          ∙ sym (append_assoc (data_name toggle) (encode_upper (byte ∷ bytes)) rest),
      tt,
      fits_form,
    )
    is

slice_index-empty : (i : ℕ) → slice_index [] i < 256
slice_index-empty zero = omega arith
slice_index-empty (suc i) = omega arith

data_in-some : (toggle : Toggle) (text : List ℕ) (r : Packet × List ℕ)
    → data_in toggle text ≡ Some r → BeginsAs (data_name toggle ++ text) r
unfolding data_in encode_with
data_in-some toggle text r e =
    found_some (strip (codes "-") text)
    (λ rest. Some (Payload toggle (record { items = [] }), rest))
    (option_and_then (data_of toggle) (bytes_on [] text)) r e
    (λ rest dash is. begins_as_same (data_name toggle ++ text)
    (Payload toggle (record { items = [] }), rest) r (
      ap (λ l. data_name toggle ++ l) (strip-some (codes "-") text rest dash)
          ∙ sym (append_assoc (data_name toggle) (codes "-") rest),
      tt,
      (omega arith, slice_index-empty),
    ) is)
    (λ more. option_and_then_some (data_of toggle) (bytes_on [] text) r more
    (λ b digits is. data_of-some toggle text b r is (bytes_on-some [] text b digits)
    (bytes_on-data [] text b (omega arith) slice_index-empty digits)))

handshake_in-some : (text : List ℕ) (r : Packet × List ℕ) → handshake_in text ≡ Some r
    → BeginsAs text r
unfolding handshake_in
handshake_in-some text r e =
    found_some (strip (codes "ACK") text) (λ rest. Some (Ack, rest)) _ r e
    (λ rest ack is. begins_as_same text (Ack, rest) r (
      strip-some (codes "ACK") text rest ack,
      tt,
      tt,
    ) is) (λ no_ack.
    found_some (strip (codes "NAK") text) (λ rest. Some (Nak, rest)) _ r no_ack
    (λ rest nak is. begins_as_same text (Nak, rest) r (
      strip-some (codes "NAK") text rest nak,
      tt,
      tt,
    ) is) (λ no_nak.
    map_some _ _ _ no_nak
    (λ rest stall is. subst (BeginsAs text) is (
      strip-some (codes "STALL") text rest stall,
      tt,
      tt,
    ))))

-- a word, and what is read behind it
worded : (word text rest : List ℕ) (r : Packet × List ℕ) → strip word text ≡ Some rest
    → BeginsAs (word ++ rest) r → BeginsAs text r
worded _ _ _ r found h = subst (λ t. BeginsAs t r) (sym (strip-some _ _ _ found))
    h

pub packet_in-some : (text : List ℕ) (r : Packet × List ℕ) → packet_in text ≡ Some r
    → BeginsAs text r
unfolding packet_in
packet_in-some text r e =
    found_some (strip (codes "SETUP ") text) (token_in SetupTok) _ r e
    (λ rest found h. worded (codes "SETUP ") text rest r found
    (token_in-some SetupTok rest r h)) (λ e.
    found_some (strip (codes "IN ") text) (token_in InTok) _ r e
    (λ rest found h. worded (codes "IN ") text rest r found (token_in-some InTok rest r h))
    (λ e.
    found_some (strip (codes "OUT ") text) (token_in OutTok) _ r e
    (λ rest found h. worded (codes "OUT ") text rest r found (token_in-some OutTok rest r h))
    (λ e.
    found_some (strip (codes "DATA0 ") text) (data_in Zero) _ r e
    (λ rest found h. worded (codes "DATA0 ") text rest r found (data_in-some Zero rest r h))
    (λ e.
    found_some (strip (codes "DATA1 ") text) (data_in One) _ r e
    (λ rest found h. worded (codes "DATA1 ") text rest r found (data_in-some One rest r h))
    (handshake_in-some text r)))))

-- a text is that of a mark with this behind it
abbrev pub MarkedAs : List ℕ → Mark × List ℕ → Type 0
MarkedAs text r = text ≡ mark_text r.0 ++ r.1

marked_by : (word text rest : List ℕ) (m : Mark) (r : Mark × List ℕ) → mark_text m ≡ word
    → strip word text ≡ Some rest → Some (m, rest) ≡ Some r → MarkedAs text r
marked_by _ text rest m r e found is =
    subst (MarkedAs text) (same_Some _ r is) (strip-some _ _ _ found
    ∙ ap (λ w. w ++ rest) (sym e))

bit_in-some : (text : List ℕ) (r : Mark × List ℕ) → bit_in text ≡ Some r
    → MarkedAs (codes " [bit " ++ text) r
unfolding bit_in
bit_in-some text r e =
    option_and_then_some (λ bit. if nat_lt bit.0 65536 then option_map
    (λ rest. (Flipped bit.0, rest)) (strip (codes "]") bit.1) else None) (decimal_in text) r e
    (λ bit number more.
    if-some (nat_lt bit.0 65536) (option_map (λ rest. (Flipped bit.0, rest))
    (strip (codes "]") bit.1)) r more (λ few end.
    map_some (λ rest. (Flipped bit.0, rest)) (strip (codes "]") bit.1) r end (λ rest found is.
    let spelled : codes " [bit " ++ text ≡ (codes " [bit " ++ decimal bit.0 ++ codes "]") ++ rest =
    ap (λ l. codes " [bit " ++ l) ((decimal_in-some text bit number).0
    ∙ ap (λ l. decimal bit.0 ++ l) (strip-some (codes "]") bit.1 rest found))
    ∙ simp append_assoc in
    subst (MarkedAs (codes " [bit " ++ text)) is spelled)))

pub packet_mark_in-some : (text : List ℕ) (r : Mark × List ℕ) → packet_mark_in text ≡ Some r
    → MarkedAs text r
unfolding packet_mark_in
packet_mark_in-some text r e =
    found_some (strip (codes " [lost]") text) (λ rest. Some (Lost, rest)) _ r e
    (λ rest found is. marked_by (codes " [lost]") text rest Lost r refl found is) (λ e.
    found_some (strip (codes " [pre lost]") text) (λ rest. Some (PreLost, rest)) _ r e
    (λ rest found is. marked_by (codes " [pre lost]") text rest PreLost r refl found is) (λ e.
    found_some (strip (codes " [bit ") text) bit_in _ r e
    (λ rest found h. subst (λ t. MarkedAs t r) (sym (strip-some (codes " [bit ") text rest found))
    (bit_in-some rest r h))
    (λ none. subst (MarkedAs text) (same_Some (Whole, text) r none) refl)))
