-- Records of wants, both ways.
use Rattle.std.proofs.Common.{◌≡◌, ℕ, ◌+◌, ◌-◌, ◌*◌, ◌/◌, ◌%◌, ◌≤◌, true}
use Rattle.std.proofs.Common.{false}
use Rattle.std.proofs.Common.{◌==◌, if◌then◌else◌, List, [], ◌∷◌, ◌++◌, length, take, drop, get_or}
use Rattle.std.proofs.Common.{replicate, refl, sym, ap, subst, ◌∙◌, arith, Result, Ok, Err, Option}
use Rattle.std.proofs.Common.{Some, None, IfOk, IfErr, IfSome, IfNone, length-append, append_assoc}
use Rattle.std.proofs.Common.{inl, inr, nat_le, slice_index}
use Rattle.std.specs.Option.{option_and_then, option_map}
use Rattle.std.proofs.lemmas.Bool.{cond-false, cond-true, eq-eqb, le-leb, lt-leb}
use Rattle.std.proofs.lemmas.List.{take_at, drop_at, take-append-drop, length-replicate}
use Rattle.std.proofs.lemmas.Option.{same_Some}
use Rattle.usb_port.specs.{IsPath}
use Rattle.usb_request.specs.{DIRECTION_IN, IsToHost, Setup, bytes_of, setup_of}
use Rattle.usb_request.specs.{is_endpoint_address}
use Rattle.usb_request.proofs.Interface.{same_setup, length-bytes_of}
use Rattle.usb_dialogue.specs.{padded, place_bytes, AreStatuses, statuses_bytes, IsReadAs, IsWant}
use Rattle.usb_dialogue.specs.{IsWantOf, IsWantWith, WantFault, WrongWantKind, WrongWantLength}
use Rattle.usb_dialogue.specs.{endpoint_in, has_data, head_bytes, nothing, read_request, want_by}
use Rattle.usb_dialogue.specs.{want_data, want_head, fields_in, want_to, want_with, write_request}
use Rattle.usb_dialogue.specs.{IsWrite, Write, DriverFault, Want}
use Rattle.usb_dialogue.specs.declared.fault.DriverFault.TheVariants as fault
use Rattle.usb_dialogue.specs.declared.want.Fields.{Fields}
use Rattle.usb_dialogue.specs.declared.want.Want.TheVariants.{Round, Tree, Send, Receive, ClearHalt}
use Rattle.usb_dialogue.specs.declared.want.Want.TheVariants.{SendTo, ReceiveFrom, Poll}
use Rattle.usb_dialogue.specs.declared.want.Want.TheVariants.{ClearHaltOf, SetInterface, ControlIn}
use Rattle.usb_dialogue.specs.declared.want.Want.TheVariants.{ControlOut, Look, News}
use Rattle.usb_dialogue.proofs.StatusLaws.{statuses_bytes-28, statuses_bytes-same}

-- ---- the fields of a head

-- seven bytes from a place on
abbrev pub seven_at : ℕ → List ℕ → List ℕ
seven_at i h = get_or h i 0 ∷ get_or h (i + 1) 0 ∷ get_or h (i + 2) 0 ∷ get_or h (i + 3) 0
    ∷ get_or h (i + 4) 0 ∷ get_or h (i + 5) 0 ∷ get_or h (i + 6) 0 ∷ []

abbrev pub setup_at : ℕ → List ℕ → List ℕ
setup_at i h = get_or h i 0 ∷ seven_at (i + 1) h

record HeadIs (h : List ℕ) (k : ℕ) (p : List ℕ) (a s n : ℕ) (u : List ℕ) : Type 0 where
  kind : get_or h 0 0 ≡ k
  place : get_or h 1 0 ∷ seven_at 2 h ≡ p
  at : get_or h 9 0 ≡ a
  setting : get_or h 10 0 ≡ s
  packets : get_or h 12 0 + 256 * get_or h 13 0 ≡ n
  setup : setup_at 16 h ≡ u
  size : length h ≡ 24

head_is : (k : ℕ) (p : List ℕ) (a s n : ℕ) (u : List ℕ) → length p ≡ 8 → length u ≡ 8
    → HeadIs (head_bytes k p (a, s, n) u) k p a s n u
head_is k (p0 ∷ p1 ∷ p2 ∷ p3 ∷ p4 ∷ p5 ∷ p6 ∷ p7 ∷ []) a s n
    (u0 ∷ u1 ∷ u2 ∷ u3 ∷ u4 ∷ u5 ∷ u6 ∷ u7 ∷ []) long wide =
    record {
      kind = refl;
      place = refl;
      at = refl;
      setting = refl;
      packets = omega arith;
      setup = refl;
      size = refl;
    }
head_is k (p0 ∷ p1 ∷ p2 ∷ p3 ∷ p4 ∷ p5 ∷ p6 ∷ p7 ∷ []) a s n _ long wide = absurd (omega arith)
head_is k _ a s n u long wide = absurd (omega arith)

length-place_bytes : (p : List ℕ) → IsPath p → length (place_bytes p) ≡ 8
length-place_bytes p is =
    let both = length-append p (replicate (7 - length p) 0) in
    let zeros = length-replicate {A = ℕ} (7 - length p) 0 in
    omega (arith, both, zeros, is.0, is.1)

-- the head of a kind with a path
pathed : (k : ℕ) (p : List ℕ) (a s n : ℕ) → IsPath p
    → HeadIs (head_bytes k (place_bytes p) (a, s, n) nothing) k (place_bytes p) a s n nothing
pathed k p a s n is = head_is k (place_bytes p) a s n nothing (length-place_bytes p is) refl

-- and of a request
requested : (k : ℕ) (p : List ℕ) (r : Setup) → IsPath p
    → HeadIs (head_bytes k (place_bytes p) (0, 0, 0) (bytes_of r)) k (place_bytes p) 0 0 0
    (bytes_of r)
requested k p r is =
    head_is k (place_bytes p) 0 0 0 (bytes_of r) (length-place_bytes p is) (length-bytes_of r)

bare : (k : ℕ) → HeadIs (head_bytes k nothing (0, 0, 0) nothing) k nothing 0 0 0 nothing
bare k = head_is k nothing 0 0 0 nothing refl refl

length-want_head : (w : Want) → IsWant w → length (want_head w) ≡ 24
length-want_head Round is = (bare 16).size
length-want_head Tree is = (bare 17).size
length-want_head (Send p b) is = (pathed 18 p 0 0 0 is).size
length-want_head (Receive p n) is = (pathed 19 p 0 0 n is).size
length-want_head (ClearHalt p) is = (pathed 20 p 0 0 0 is).size
length-want_head (SendTo p e b) is = (pathed 21 p e 0 0 is.0).size
length-want_head (ReceiveFrom p e n) is = (pathed 22 p e 0 n is.0).size
length-want_head (Poll p e) is = (pathed 23 p e 0 0 is.0).size
length-want_head (ClearHaltOf p e) is = (pathed 24 p e 0 0 is.0).size
length-want_head (SetInterface p i s) is = (pathed 25 p i s 0 is).size
length-want_head (ControlIn p r) is = (requested 26 p r is.0).size
length-want_head (ControlOut p r) is = (requested 27 p r.setup is.0).size
length-want_head (Look p) is = (pathed 28 p 0 0 0 is).size
length-want_head News is = (bare 29).size

-- ---- what is read of a head

-- the path of a head, as it was looked for
abbrev pub PathIn : List ℕ → Option (List ℕ) → Type 0
PathIn h (Some q) = q ≡ take (get_or h 1 0) (seven_at 2 h)
PathIn h None = get_or h 1 0 ≤ 7 → IsPath (take (get_or h 1 0) (seven_at 2 h)) → ⊥

-- the fields of a head
pub record FieldsIn (h : List ℕ) (f : Fields) : Type 0 where
  pub at : f.at ≡ get_or h 9 0
  pub setting : f.setting ≡ get_or h 10 0
  pub packets : f.packets ≡ get_or h 12 0 + 256 * get_or h 13 0
  pub setup : f.setup ≡ setup_of (setup_at 16 h)

pub fields_are : (h : List ℕ) → FieldsIn h (fields_in h)
fields_are h = record { at = refl; setting = refl; packets = refl; setup = refl }

path_taken : (h p : List ℕ) → get_or h 1 0 ∷ seven_at 2 h ≡ place_bytes p
    → take (get_or h 1 0) (seven_at 2 h) ≡ p
path_taken h p e =
    let count : get_or h 1 0 ≡ length p = ap (λ (xs : List ℕ). get_or xs 0 0) e in
    let rest : seven_at 2 h ≡ padded p = ap (drop 1) e in
    ap (λ (n : ℕ). take n (seven_at 2 h)) count ∙ ap (take (length p)) rest
    ∙ take_at p (replicate (7 - length p) 0) (length p) refl

-- the path of a want is found
path_found : (h p : List ℕ) → IsPath p → get_or h 1 0 ∷ seven_at 2 h ≡ place_bytes p
    → (path : Option (List ℕ)) → PathIn h path → path ≡ Some p
path_found h p is e (Some q) looked = ap Some (looked ∙ path_taken h p e)
path_found h p is e None looked =
    let count : get_or h 1 0 ≡ length p = ap (λ (xs : List ℕ). get_or xs 0 0) e in
    absurd (looked (omega (arith, count, is.1)) (subst IsPath (sym (path_taken h p e)) is))

-- a path was looked for
pub path_looked : (h : List ℕ) (path : Option (List ℕ))
    → IfSome path (λ p. (p ≡ take (get_or h 1 0) (seven_at 2 h)) × IsPath p)
    → IfNone path (get_or h 1 0 ≤ 7 → IsPath (take (get_or h 1 0) (seven_at 2 h)) → ⊥)
    → PathIn h path
path_looked h (Some p) some none = some.0
path_looked h None some none = none

endpoint_in-is : (at e : ℕ) → at ≡ e → is_endpoint_address e ≡ true → endpoint_in at ≡ Some e
endpoint_in-is at e same is =
    ap endpoint_in same ∙ cond-true (is_endpoint_address e) (Some e) None is

read_request-is : (s r : Setup) → s ≡ r → IsToHost r → read_request s ≡ Some r
read_request-is s r same is = ap read_request same
    ∙ cond-true (nat_le DIRECTION_IN r.request_type) (Some r) None
    (le-leb DIRECTION_IN r.request_type is)

write_request-is : (s : Setup) (r : Write) → s ≡ r.setup → IsWrite r
    → write_request s r.bytes ≡ Some r
write_request-is s r same is =
    ap (λ (x : Setup). write_request x r.bytes) same
    ∙ cond-false (nat_le DIRECTION_IN r.setup.request_type) None
    (if r.setup.length == length r.bytes then Some r else None)
    (lt-leb DIRECTION_IN r.setup.request_type is.0)
    ∙ cond-true (r.setup.length == length r.bytes) (Some r) None
    (eq-eqb r.setup.length (length r.bytes) is.1)

-- a kind with a path
by_path : (h : List ℕ) (path : Option (List ℕ)) (f : Fields) (bytes : List ℕ) (k : ℕ) (p : List ℕ)
    → get_or h 0 0 ≡ k → path ≡ Some p → (k == 16) ≡ false → (k == 17) ≡ false
    → (k == 29) ≡ false → want_by (get_or h 0 0) path f bytes ≡ want_with k p f bytes
by_path h path f bytes k p kind found a b c =
    ap (λ (x : ℕ). want_by x path f bytes) kind
    ∙ ap (λ (x : Option (List ℕ)). want_by k x f bytes) found
    ∙ cond-false (k == 16) (Some Round) (if k == 17 then Some Tree else if k == 29 then Some News
    else want_with k p f bytes) a
    ∙ cond-false (k == 17) (Some Tree) (if k == 29 then Some News else want_with k p f bytes) b
    ∙ cond-false (k == 29) (Some News) (want_with k p f bytes) c

moved : (h g : List ℕ) (k : ℕ) (p : List ℕ) (a s n : ℕ) (u : List ℕ) → g ≡ h
    → HeadIs g k p a s n u → HeadIs h k p a s n u
moved h g k p a s n u e i = subst (λ (x : List ℕ). HeadIs x k p a s n u) e i

pub likely : (h : List ℕ) (path : Option (List ℕ)) (f : Fields) (bytes : List ℕ) → PathIn h path
    → FieldsIn h f → (w : Want) → IsWant w → want_head w ≡ h → want_data w ≡ bytes
    → want_by (get_or h 0 0) path f bytes ≡ Some w
likely h path f bytes looked fields Round is e d =
    let i = moved h _ 16 nothing 0 0 0 nothing e (bare 16) in
    ap (λ (x : ℕ). want_by x path f bytes) i.kind
likely h path f bytes looked fields Tree is e d =
    let i = moved h _ 17 nothing 0 0 0 nothing e (bare 17) in
    ap (λ (x : ℕ). want_by x path f bytes) i.kind
likely h path f bytes looked fields News is e d =
    let i = moved h _ 29 nothing 0 0 0 nothing e (bare 29) in
    ap (λ (x : ℕ). want_by x path f bytes) i.kind
likely h path f bytes looked fields (Send p b) is e d =
    let i = moved h _ 18 (place_bytes p) 0 0 0 nothing e (pathed 18 p 0 0 0 is) in
    by_path h path f bytes 18 p i.kind (path_found h p is i.place path looked) refl refl refl
    ∙ ap (λ (x : List ℕ). Some (Send p x)) (sym d)
likely h path f bytes looked fields (Receive p n) is e d =
    let i = moved h _ 19 (place_bytes p) 0 0 n nothing e (pathed 19 p 0 0 n is) in
    by_path h path f bytes 19 p i.kind (path_found h p is i.place path looked) refl refl refl
    ∙ ap (λ (x : ℕ). Some (Receive p x)) (fields.packets ∙ i.packets)
likely h path f bytes looked fields (ClearHalt p) is e d =
    let i = moved h _ 20 (place_bytes p) 0 0 0 nothing e (pathed 20 p 0 0 0 is) in
    by_path h path f bytes 20 p i.kind (path_found h p is i.place path looked) refl refl refl
likely h path f bytes looked fields (SendTo p t b) is e d =
    let i = moved h _ 21 (place_bytes p) t 0 0 nothing e (pathed 21 p t 0 0 is.0) in
    let at = endpoint_in-is f.at t (fields.at ∙ i.at) is.1 in
    by_path h path f bytes 21 p i.kind (path_found h p is.0 i.place path looked) refl refl refl
    ∙ ap (option_and_then (λ x. want_to 21 p x f.packets bytes)) at
    ∙ ap (λ (x : List ℕ). Some (SendTo p t x)) (sym d)
likely h path f bytes looked fields (ReceiveFrom p t n) is e d =
    let i = moved h _ 22 (place_bytes p) t 0 n nothing e (pathed 22 p t 0 n is.0) in
    let at = endpoint_in-is f.at t (fields.at ∙ i.at) is.1 in
    by_path h path f bytes 22 p i.kind (path_found h p is.0 i.place path looked) refl refl refl
    ∙ ap (option_and_then (λ x. want_to 22 p x f.packets bytes)) at
    ∙ ap (λ (x : ℕ). Some (ReceiveFrom p t x)) (fields.packets ∙ i.packets)
likely h path f bytes looked fields (Poll p t) is e d =
    let i = moved h _ 23 (place_bytes p) t 0 0 nothing e (pathed 23 p t 0 0 is.0) in
    let at = endpoint_in-is f.at t (fields.at ∙ i.at) is.1 in
    by_path h path f bytes 23 p i.kind (path_found h p is.0 i.place path looked) refl refl refl
    ∙ ap (option_and_then (λ x. want_to 23 p x f.packets bytes)) at
likely h path f bytes looked fields (ClearHaltOf p t) is e d =
    let i = moved h _ 24 (place_bytes p) t 0 0 nothing e (pathed 24 p t 0 0 is.0) in
    let at = endpoint_in-is f.at t (fields.at ∙ i.at) is.1 in
    by_path h path f bytes 24 p i.kind (path_found h p is.0 i.place path looked) refl refl refl
    ∙ ap (option_and_then (λ x. want_to 24 p x f.packets bytes)) at
likely h path f bytes looked fields (SetInterface p t s) is e d =
    let i = moved h _ 25 (place_bytes p) t s 0 nothing e (pathed 25 p t s 0 is) in
    by_path h path f bytes 25 p i.kind (path_found h p is i.place path looked) refl refl refl
    ∙ ap (λ (x : ℕ). Some (SetInterface p x f.setting)) (fields.at ∙ i.at)
    ∙ ap (λ (x : ℕ). Some (SetInterface p t x)) (fields.setting ∙ i.setting)
likely h path f bytes looked fields (ControlIn p r) is e d =
    let i = moved h _ 26 (place_bytes p) 0 0 0 (bytes_of r) e (requested 26 p r is.0) in
    let setup = fields.setup ∙ ap setup_of i.setup ∙ same_setup r in
    by_path h path f bytes 26 p i.kind (path_found h p is.0 i.place path looked) refl refl refl
    ∙ ap (option_map (ControlIn p)) (read_request-is f.setup r setup is.1)
likely h path f bytes looked fields (ControlOut p r) is e d =
    let i = moved h _ 27 (place_bytes p) 0 0 0 (bytes_of r.setup) e (requested 27 p r.setup is.0) in
    let setup = fields.setup ∙ ap setup_of i.setup ∙ same_setup r.setup in
    by_path h path f bytes 27 p i.kind (path_found h p is.0 i.place path looked) refl refl refl
    ∙ ap (λ (x : List ℕ). option_map (ControlOut p) (write_request f.setup x)) (sym d)
    ∙ ap (option_map (ControlOut p)) (write_request-is f.setup r setup is.1)
likely h path f bytes looked fields (Look p) is e d =
    let i = moved h _ 28 (place_bytes p) 0 0 0 nothing e (pathed 28 p 0 0 0 is) in
    by_path h path f bytes 28 p i.kind (path_found h p is i.place path looked) refl refl refl

-- ---- one want has one record

same_want : (v w : Want) → IsWant v → IsWant w → want_head v ≡ want_head w
    → want_data v ≡ want_data w → v ≡ w
same_want v w is also e d =
    let h = want_head w in
    let path : Option (List ℕ) = Some (take (get_or h 1 0) (seven_at 2 h)) in
    let f = fields_in h in
    let fields : FieldsIn h f = fields_are h in
    let one = likely h path f (want_data w) refl fields v is e d in
    let two = likely h path f (want_data w) refl fields w also refl refl in
    same_Some v w (sym one ∙ two)

record RecordParts (bytes : List ℕ) (w : Want) (s : List (List ℕ)) : Type 0 where
  head : take 24 bytes ≡ want_head w
  statuses : take 28 (drop 24 bytes) ≡ statuses_bytes s
  rest : drop 28 (drop 24 bytes) ≡ want_data w
  size : 52 + length (want_data w) ≡ length bytes

record_parts : (bytes : List ℕ) (w : Want) (s : List (List ℕ)) → IsWantOf bytes w s
    → RecordParts bytes w s
record_parts bytes w s it =
    let h = want_head w in
    let t = statuses_bytes s in
    let d = want_data w in
    let long = length-want_head w it.is in
    let wide = statuses_bytes-28 s it.shown in
    let whole : bytes ≡ h ++ (t ++ d) = it.same ∙ append_assoc h t d in
    let behind : drop 24 bytes ≡ t ++ d = ap (drop 24) whole ∙ drop_at h (t ++ d) 24 long in
    let all = ap length whole ∙ length-append h (t ++ d) in
    let both = length-append t d in
    record {
      head = ap (take 24) whole ∙ take_at h (t ++ d) 24 long;
      statuses = ap (take 28) behind ∙ take_at t d 28 wide;
      rest = ap (drop 28) behind ∙ drop_at t d 28 wide;
      size = omega (arith, all, both, long, wide);
    }

-- a record that begins so, and ends so
pub want_joined : (bytes head statuses sent : List ℕ) → head ≡ take 24 bytes
    → statuses ≡ take 28 (drop 24 bytes) → sent ≡ drop 28 (drop 24 bytes) → (w : Want)
    → IsWantWith head sent w → (s : List (List ℕ)) → statuses_bytes s ≡ statuses → AreStatuses s
    → IsWantOf bytes w s
want_joined bytes head statuses sent first second third w it s shown are =
    let begin : take 24 bytes ≡ want_head w = sym first ∙ sym it.begins in
    let middle : take 28 (drop 24 bytes) ≡ statuses_bytes s = sym second ∙ sym shown in
    let end : drop 28 (drop 24 bytes) ≡ want_data w = sym third ∙ sym it.ends in
    let behind : drop 24 bytes ≡ statuses_bytes s ++ want_data w =
    sym (take-append-drop 28 (drop 24 bytes))
    ∙ ap (λ (x : List ℕ). x ++ drop 28 (drop 24 bytes)) middle
    ∙ ap (λ (x : List ℕ). statuses_bytes s ++ x) end in
    record {
      is = it.is;
      shown = are;
      same = sym (take-append-drop 24 bytes)
          ∙ ap (λ (x : List ℕ). x ++ drop 24 bytes) begin
          ∙ ap (λ (x : List ℕ). want_head w ++ x) behind
          ∙ sym (append_assoc (want_head w) (statuses_bytes s) (want_data w));
    }

pub want_split : (bytes head sent : List ℕ) → head ≡ take 24 bytes
    → sent ≡ drop 28 (drop 24 bytes) → (w : Want) (s : List (List ℕ)) → IsWantOf bytes w s
    → IsWantWith head sent w
want_split bytes head sent first third w s it =
    let parts = record_parts bytes w s it in
    record {
      is = it.is;
      begins = sym parts.head ∙ sym first;
      ends = sym parts.rest ∙ sym third;
    }

-- ---- the record of a want has no fault

record KindIs (w : Want) (k : ℕ) : Type 0 where
  least : 16 ≤ k
  most : k ≤ 29
  bytes : has_data k ≡ false → length (want_data w) ≡ 0

kind_is : (w : Want) → KindIs w (get_or (want_head w) 0 0)
kind_is Round = record { least = omega arith; most = omega arith; bytes = λ h. refl }
kind_is Tree = record { least = omega arith; most = omega arith; bytes = λ h. refl }
kind_is (Send p b) = record { least = omega arith; most = omega arith; bytes = λ h. cc }
kind_is (Receive p n) = record { least = omega arith; most = omega arith; bytes = λ h. refl }
kind_is (ClearHalt p) = record { least = omega arith; most = omega arith; bytes = λ h. refl }
kind_is (SendTo p e b) = record { least = omega arith; most = omega arith; bytes = λ h. cc }
kind_is (ReceiveFrom p e n) = record { least = omega arith; most = omega arith; bytes = λ h. refl }
kind_is (Poll p e) = record { least = omega arith; most = omega arith; bytes = λ h. refl }
kind_is (ClearHaltOf p e) = record { least = omega arith; most = omega arith; bytes = λ h. refl }
kind_is (SetInterface p i s) = record { least = omega arith; most = omega arith; bytes = λ h. refl }
kind_is (ControlIn p r) = record { least = omega arith; most = omega arith; bytes = λ h. refl }
kind_is (ControlOut p r) = record { least = omega arith; most = omega arith; bytes = λ h. cc }
kind_is (Look p) = record { least = omega arith; most = omega arith; bytes = λ h. refl }
kind_is News = record { least = omega arith; most = omega arith; bytes = λ h. refl }

first_head : (w : Want) (rest : List ℕ)
    → get_or (want_head w ++ rest) 0 0 ≡ get_or (want_head w) 0 0
first_head Round rest = refl
first_head Tree rest = refl
first_head (Send p b) rest = refl
first_head (Receive p n) rest = refl
first_head (ClearHalt p) rest = refl
first_head (SendTo p e b) rest = refl
first_head (ReceiveFrom p e n) rest = refl
first_head (Poll p e) rest = refl
first_head (ClearHaltOf p e) rest = refl
first_head (SetInterface p i s) rest = refl
first_head (ControlIn p r) rest = refl
first_head (ControlOut p r) rest = refl
first_head (Look p) rest = refl
first_head News rest = refl

kind_of_record : (bytes : List ℕ) (w : Want) (s : List (List ℕ)) → IsWantOf bytes w s
    → KindIs w (slice_index bytes 0)
kind_of_record bytes w s it =
    let first : slice_index bytes 0 ≡ get_or (want_head w) 0 0 =
    ap (λ (xs : List ℕ). get_or xs 0 0)
    (it.same ∙ append_assoc (want_head w) (statuses_bytes s) (want_data w))
    ∙ first_head w (statuses_bytes s ++ want_data w) in
    subst (KindIs w) (sym first) (kind_is w)

no_length : (bytes : List ℕ) (w : Want) (s : List (List ℕ)) → IsWantOf bytes w s
    → WrongWantLength bytes → ⊥
no_length bytes w s it (WrongWantLength.short less) =
    omega (arith, less, (record_parts bytes w s it).size)
no_length bytes w s it (WrongWantLength.long none more) =
    let empty = (kind_of_record bytes w s it).bytes none in
    omega (arith, more, empty, (record_parts bytes w s it).size)

no_kind : (w : Want) (k : ℕ) → KindIs w k → WrongWantKind k → ⊥
no_kind w k it (WrongWantKind.below less) = omega (arith, less, it.least)
no_kind w k it (WrongWantKind.above more) = omega (arith, more, it.most)

no_fault : (bytes : List ℕ) (w : Want) (s : List (List ℕ)) → IsWantOf bytes w s
    → (f : DriverFault) → WantFault bytes f
    → IsReadAs w s (Err f)
no_fault bytes w s it fault.Memory h = inr refl
no_fault bytes w s it fault.Kind h = absurd (no_kind w _ (kind_of_record bytes w s it) h.1)
no_fault bytes w s it fault.Length h = absurd (no_length bytes w s it h)
no_fault bytes w s it fault.Number h = absurd (h.1 w s it)
no_fault bytes w s it fault.OutOfTurn h = absurd h
no_fault bytes w s it fault.TooMuch h = absurd h
no_fault bytes w s it fault.Roots h = absurd h

-- what is read of the record of a want is that want, with those statuses
pub want_record-read : (bytes : List ℕ) (result : Result (Want × List (List ℕ)) DriverFault)
    → IfOk result (λ it. IsWantOf bytes it.0 it.1) → IfErr result (WantFault bytes) → (w : Want)
    (s : List (List ℕ)) → IsWantOf bytes w s → IsReadAs w s result
want_record-read bytes (Ok it) read cause w s is =
    let one = record_parts bytes it.0 it.1 read in
    let two = record_parts bytes w s is in
    let want = same_want it.0 w read.is is.is (sym one.head ∙ two.head) (sym one.rest ∙ two.rest) in
    let shown = statuses_bytes-same it.1 s read.shown is.shown (sym one.statuses ∙ two.statuses) in
    inl (ap (λ (x : Want). Ok (x, it.1)) want ∙ ap (λ (x : List (List ℕ)). Ok (w, x)) shown)
want_record-read bytes (Err f) read cause w s is = no_fault bytes w s is f cause
