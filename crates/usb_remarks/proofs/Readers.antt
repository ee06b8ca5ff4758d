-- A remark on a text is its reader's fault.
use Rattle.std.proofs.Common.{◌≡◌, ℕ, zero, suc, ◌+◌, ◌-◌, ◌≤◌, List, [], ◌∷◌, length, take, drop}
use Rattle.std.proofs.Common.{Bool, true, false, ◌&&◌, nat_lt, Option, Some, None, Result}
use Rattle.std.proofs.Common.{Ok, Err, is_ok, refl, ap, sym, ◌∙◌, arith, if◌then◌else◌, length-take}
use Rattle.std.specs.Option.{option_or, option_map, IfNone, IfSome}
use Rattle.std.proofs.lemmas.Bool.{le-ltb, ltb-false, ltb-true, lt-ltb}
use Rattle.std.proofs.lemmas.List.{get_or-take}
use Rattle.std.proofs.lemmas.Option.{same_Some}
use Rattle.usb_descriptor.specs.{DescriptorFault, Short, config_after, config_head_of, config_of}
use Rattle.usb_descriptor.specs.{fault_within, front_fault, items_fault, total_in, unless_fault}
use Rattle.usb_descriptor.proofs.Interface.{header_of}
use Rattle.usb_enum.specs.{is_good_text, text_read}
use Rattle.usb_remarks.specs.{TextRemark, IsOwn, IsOwnOf, fault_in, item_remark, item_remark_within}
use Rattle.usb_remarks.specs.declared.text.TextRemark.TheVariants.{Cut, Head}
use Rattle.usb_remarks.specs.{noted, read_remark, text_remark, whole_remark}

same_first : (at : ℕ) (o p : Option DescriptorFault) (q : Option TextRemark)
    → p ≡ option_map fault_in q → option_or o p ≡ option_map fault_in (option_or (noted at o) q)
same_first at (Some fault) p q h = refl
same_first at None p q h = h

-- the first item with a fault has the reader's
pub same_fault : (n at : ℕ) (bytes : List ℕ)
    → fault_within n bytes ≡ option_map fault_in (item_remark_within n at bytes)
same_fault zero at bytes = refl
same_fault (suc n) at [] = refl
same_fault (suc n) at (l ∷ bytes) = same_first at (front_fault (l ∷ bytes)) _ _
    (same_fault n (at + l) (drop (l - 1) bytes))

items_same : (text : List ℕ) → items_fault (drop 9 text) ≡ option_map fault_in (item_remark text)
unfolding items_fault item_remark
items_same text = same_fault (length (drop 9 text)) 9 (drop 9 text)

-- the first nine bytes decide on the descriptor
head_front : (text : List ℕ) (n : ℕ) → 9 ≤ n → 9 ≤ length text
    → config_head_of (take n text) ≡ config_head_of text
unfolding config_head_of
head_front text n most long = rw (
  le-ltb (length (take n text)) 9 (omega (arith, length-take n text)),
  le-ltb (length text) 9 long,
  get_or-take n text 0 0 (omega arith),
  get_or-take n text 1 0 (omega arith),
  get_or-take n text 2 0 (omega arith),
  get_or-take n text 3 0 (omega arith),
  get_or-take n text 5 0 (omega arith),
) refl

-- as many bytes as the descriptor says
record Whole (text : List ℕ) (total : ℕ) : Type 0 where
  pub head : config_head_of (take total text) ≡ Ok total
  pub read : text_read text ≡ take total text

read_whole : (text : List ℕ) (total : ℕ) → config_head_of (take 9 text) ≡ Ok total
    → Whole text total
unfolding text_read
read_whole text total h =
    let header = header_of (take 9 text) total h in
    let long : 9 ≤ length text = omega (arith, header.long, length-take 9 text) in
    record {
      head = head_front text total header.least long
          ∙ sym (head_front text 9 (omega arith) long) ∙ h;
      read = ap (λ r. take (total_in r) text) h;
    }

config_is_read : (text : List ℕ) (total : ℕ) (w : Whole text total)
    → config_of (text_read text) ≡ config_after (Ok total) (take total text)
unfolding config_of
config_is_read text total w = ap (λ t. config_after (config_head_of t) t) w.read
    ∙ ap (λ r. config_after r (take total text)) w.head

-- what the reader says of the whole
cut_short : (text : List ℕ) (total : ℕ) → nat_lt (length text) total ≡ true
    → config_after (Ok total) (take total text) ≡ Err Short
cut_short text total cut =
    let less = ltb-true (length text) total cut in
    rw (lt-ltb (length (take total text)) total (omega (arith, less, length-take total text))) refl

read_items : (text : List ℕ) (total : ℕ) → nat_lt (length text) total ≡ false
    → config_after (Ok total) (take total text)
    ≡ unless_fault (option_map fault_in (item_remark (take total text))) (take total text)
read_items text total enough =
    let long = ltb-false (length text) total enough in
    rw (
      le-ltb (length (take total text)) total (omega (arith, long, length-take total text)),
      le-ltb total (length (take total text)) (omega (arith, long, length-take total text)),
      items_same (take total text),
    ) refl

own_whole : (text : List ℕ) (total : ℕ) (t : TextRemark) → whole_remark total text ≡ Some t
    → config_after (Ok total) (take total text) ≡ Err (fault_in t)
own_whole text total t is = split (nat_lt (length text) total) refl is
  where
    split : (b : Bool) → nat_lt (length text) total ≡ b
        → (if b then Some Cut else item_remark (take total text)) ≡ Some t
        → config_after (Ok total) (take total text) ≡ Err (fault_in t)
    split true cut same =
        cut_short text total cut ∙ ap (λ r. Err (fault_in r)) (same_Some Cut t same)
    split false enough same = read_items text total enough
        ∙ ap (λ o. unless_fault (option_map fault_in o) (take total text)) same

-- Of a text

pub own_fault : (text : List ℕ) (t : TextRemark) → text_remark text ≡ Some t → IsOwn text t
unfolding text_remark
own_fault text t is = split (config_head_of (take 9 text)) refl is
  where
    split : (r : Result ℕ DescriptorFault) → config_head_of (take 9 text) ≡ r
        → read_remark r text ≡ Some t → IsOwnOf r text t
    split (Err fault) head same = sym (same_Some (Head fault) t same)
    split (Ok total) head same = config_is_read text total (read_whole text total head)
        ∙ own_whole text total t same

-- a text with a remark is not good
pub remarked_bad : (text : List ℕ) (t : TextRemark) → text_remark text ≡ Some t
    → is_good_text text ≡ false
remarked_bad text t is = split (config_head_of (take 9 text)) (own_fault text t is)
  where
    split : (r : Result ℕ DescriptorFault) → IsOwnOf r text t
        → (is_ok r && is_ok (config_of (text_read text))) ≡ false
    split (Err fault) own = refl
    split (Ok total) own = ap is_ok own

-- one without is
good_whole : (text : List ℕ) (total : ℕ) → whole_remark total text ≡ None
    → is_ok (config_after (Ok total) (take total text)) ≡ true
good_whole text total is = split (nat_lt (length text) total) refl is
  where
    split : (b : Bool) → nat_lt (length text) total ≡ b
        → (if b then Some Cut else item_remark (take total text)) ≡ None
        → is_ok (config_after (Ok total) (take total text)) ≡ true
    split true cut same = absurd cc
    split false enough same = ap is_ok (read_items text total enough
        ∙ ap (λ o. unless_fault (option_map fault_in o) (take total text)) same)

pub unremarked_good : (text : List ℕ) → text_remark text ≡ None → is_good_text text ≡ true
unfolding text_remark
unremarked_good text is = split (config_head_of (take 9 text)) refl is
  where
    split : (r : Result ℕ DescriptorFault) → config_head_of (take 9 text) ≡ r
        → read_remark r text ≡ None → (is_ok r && is_ok (config_of (text_read text))) ≡ true
    split (Err fault) head same = absurd cc
    split (Ok total) head same = ap is_ok (config_is_read text total (read_whole text total head))
        ∙ good_whole text total same

-- Of a remark or none

pub own_if : (text : List ℕ) (o : Option TextRemark) → o ≡ text_remark text
    → IfSome o (IsOwn text)
own_if text (Some t) is = own_fault text t (sym is)
own_if text None is = tt

pub good_if : (text : List ℕ) (o : Option TextRemark) → o ≡ text_remark text
    → IfNone o (is_good_text text ≡ true)
good_if text (Some t) is = tt
good_if text None is = unremarked_good text (sym is)
