-- Records of packets, one behind the other.
use Rattle.std.proofs.Common.{◌≡◌, ℕ, List, [], ◌∷◌, ◌++◌, length, Bool, true, refl, sym, ap, subst}
use Rattle.std.proofs.Common.{◌∙◌, append_assoc, append-nil}
use Rattle.usb_packet.specs.{Packet, Spells}
use Rattle.usb_world.specs.{Mark, Flipped}
use Rattle.usb_world.proofs.Interface.{bit_within}
use Rattle.usb_pcap.specs.{may_be_marked, AppendsRecords, AreRecords, HasBit, IsRecord, damaged}
use Rattle.usb_pcap.specs.{own_mark, record_head}

-- four parts, one after the other
pub four_parts : (a b c d e w x y z : List ℕ) → b ≡ a ++ w → c ≡ b ++ x → d ≡ c ++ y → e ≡ d ++ z
    → e ≡ a ++ (w ++ x ++ y ++ z)
four_parts a b c d e w x y z p q r s = s
    ∙ ap (λ l. l ++ z) (r ∙ ap (λ l. l ++ y) (q ∙ ap (λ l. l ++ x) p)) ∙ simp append_assoc

pub one_record : (number : ℕ) (packet : Packet) (mark : Mark)
    (before middle after spelling written : List ℕ) (size : ℕ) → Spells spelling packet
    → HasBit mark spelling → written ≡ damaged mark spelling → size ≡ length spelling
    → middle ≡ before ++ record_head number size → after ≡ middle ++ written
    → AppendsRecords number ((packet, mark) ∷ []) before after
one_record number packet mark before middle _ spelling written _ spells bit is long head
    tail =
    let bytes : List ℕ = record_head number (length spelling) ++ damaged mark spelling in
    let one : IsRecord number (packet, mark) bytes = record {
      spelling = spelling;
      spelled = spells;
      has_bit = bit;
      written = refl;
    } in
    let front : middle ≡ before ++ record_head number (length spelling) =
    subst (λ n. middle ≡ before ++ record_head number n) long head in
    record {
      bytes = bytes;
      records = (bytes, [], one, refl, sym (append-nil bytes));
      appended = tail ∙ ap (λ l. middle ++ l) is ∙ ap (λ l. l ++ damaged mark spelling) front
          ∙ append_assoc before (record_head number (length spelling)) (damaged mark spelling);
    }

are_append : (number : ℕ) (ps qs : List (Packet × Mark)) (xs ys : List ℕ) → AreRecords number ps xs
    → AreRecords number qs ys → AreRecords number (ps ++ qs) (xs ++ ys)
are_append number [] qs xs ys e h = subst (λ l. AreRecords number qs (l ++ ys)) (sym e) h
are_append number (p ∷ ps) qs xs ys (first, rest, one, more, e) h = (
  first,
  rest ++ ys,
  one,
  are_append number ps qs rest ys more h,
  ap (λ l. l ++ ys) e ∙ append_assoc first rest ys,
)

pub then_records : (number : ℕ) (ps qs : List (Packet × Mark)) (a b c : List ℕ)
    → AppendsRecords number ps a b → AppendsRecords number qs b c
    → AppendsRecords number (ps ++ qs) a c
then_records _ ps qs a b c h k = record {
  bytes = h.bytes ++ k.bytes;
  records = are_append _ ps qs _ _ h.records k.records;
  appended = k.appended ∙ ap (λ l. l ++ k.bytes) h.appended ∙ append_assoc a h.bytes k.bytes;
}

-- a packet's own mark is one that it may have, as is that of the PRE before it
pub own_may : (pre : Bool) (m : Mark) (p : Packet) → may_be_marked pre m p ≡ true
    → may_be_marked true (own_mark m) p ≡ true
own_may _ (Flipped bit) p h = h
own_may _ _ p h = refl

-- a flipped bit of a packet is one of its bytes
pub may-bit : (m : Mark) (p : Packet) (bytes : List ℕ) → may_be_marked true m p ≡ true
    → Spells bytes p → HasBit m bytes
may-bit (Flipped bit) p bytes h spelled = bit_within bytes p bit spelled h
may-bit _ p _ h _ = tt

pub from_nothing : (number : ℕ) (ps : List (Packet × Mark)) (a b : List ℕ) → a ≡ []
    → AppendsRecords number ps a b → AreRecords number ps b
from_nothing number ps a b e h = subst (AreRecords number ps)
    (sym (h.appended ∙ ap (λ l. l ++ h.bytes) e)) h.records
