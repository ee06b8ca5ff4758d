-- How an explained text goes on, byte after byte.
use Rattle.std.proofs.Common.{◌≡◌, ◌≢◌, ◌==◌, inl, inr, ℕ, ◌+◌, ◌-◌, ◌^◌, ◌<◌, ◌≤◌, min, Bool, true}
use Rattle.std.proofs.Common.{false, Decides, List, [], ◌∷◌, ◌++◌, length, take, drop, All, Option}
use Rattle.std.proofs.Common.{Some, None, IfSome, Result, Ok, Err, IsErrOf, get_or, sym, ap}
use Rattle.std.proofs.Common.{subst, ◌∙◌, arith, append_assoc, append-nil, length-append}
use Rattle.std.proofs.lemmas.List.{take_more, take-append-drop, take_all}
use Rattle.std.proofs.lemmas.List.Elements.{All-nil, All-push}
use Rattle.std.proofs.KnownBytes.{Appends-nil, Appends-trans}
use Rattle.std.specs.Io.KnownBytes.{Appends, Consumes, IsAtEnd}
use Rattle.usb_watch.specs.{AppendsFront}
use Rattle.usb_watch.proofs.Interface.{front_after_first}
use Rattle.usb_pcap.specs.{IsAttemptLine, IsRunLine, IsTold, TracedAttempt, longest}
use Rattle.usb_pcap.specs.{read_attempt}
use Rattle.usb_pcap.proofs.Interface.{next_number-next, no_items, some_items}
use Rattle.usb_explain.specs.{BeginsOtherwise, BegunLine, ExplainFault, ExplainedInPart}
use Rattle.usb_explain.specs.{ExplainedTo, ExplainsText, IsExplained, KeepsLine, Kept, Known, Only}
use Rattle.usb_explain.specs.{Reaches, ReachesOr, after_attempt, after_read, after_told}
use Rattle.usb_explain.specs.{kept_attempt, kept_of, kept_text, kept_told, known_after, line_text}
use Rattle.usb_explain.specs.{nothing_known}
use Rattle.usb_explain.specs.declared.explaining.ExplainFault.TheVariants.{Line as bad_line, Read}
use Rattle.usb_explain.specs.declared.explaining.ExplainFault.TheVariants.{TooLong, Write}

-- ---- a line

pub keeps_attempt_line : (only : Only) (line : List ℕ) (a : TracedAttempt) (kept : Kept)
    (old new : Known) → length line ≤ longest → IsAttemptLine line a → Some a ≡ read_attempt line
    → kept ≡ kept_attempt only old a.exchange → new ≡ after_attempt a.exchange old
    → KeepsLine only old line (Some kept) new
keeps_attempt_line only line a kept old new few of read e told = (
  inr (a, (few, of)),
  e ∙ ap (kept_of only old) read,
  told ∙ ap (λ r. after_read r line old) read,
)

pub keeps_told_line : (only : Only) (line : List ℕ) (told : Bool) (kept : Kept) (old new : Known)
    → Decides told (IsTold line) → told ≡ true → None ≡ read_attempt line → kept ≡ kept_told only
    → new ≡ after_told line old → KeepsLine only old line (Some kept) new
keeps_told_line only line told kept old new decides is read e after = (
  inl (decides.0 is),
  e ∙ ap (kept_of only old) read,
  after ∙ ap (λ r. after_read r line old) read,
)

pub keeps_no_line : (only : Only) (line : List ℕ) (told : Bool) (old new : Known)
    → Decides told (IsTold line) → told ≡ false
    → ((a : TracedAttempt) → IsAttemptLine line a → None ≡ Some a)
    → KeepsLine only old line None new
keeps_no_line only line told old new decides fails each (inl is) = let found = decides.1 is in
    absurd (cc)
keeps_no_line only line told old new decides fails each (inr (a, (few, of))) =
    let found = each a of in absurd (cc)

pub kept_gives : (only : Only) (line slice : List ℕ) (kept : Kept) (old new : Known)
    → slice ≡ line → KeepsLine only old slice (Some kept) new
    → IsRunLine line × (kept_text kept slice ≡ line_text only old line)
    × (new ≡ known_after line old)
kept_gives only line slice kept old new e (is, same, after) = (
  subst IsRunLine e is,
  ap (λ (q : Kept). kept_text q slice) same ∙ ap (line_text only old) e,
  after ∙ ap (λ l. known_after l old) e,
)

-- ---- byte after byte

pub reaches_first : (only : Only) (w : Option (List ℕ)) (s : BegunLine) → s.number ≡ 1
    → s.bytes.items ≡ [] → s.known ≡ nothing_known → Reaches only w w [] s
reaches_first only w s number bytes known = record {
  n = 0;
  went = record {
    front = [];
    out = [];
    known = nothing_known;
    split = sym bytes;
    explained = IsExplained.no_line;
    gone = Appends-nil w;
  };
  one = subst (λ l. All (λ c. c ≢ 10) l) (sym bytes) (All-nil _);
  number = number;
  known = known;
}

-- one byte more
pub reaches_more : (only : Only) (w now : Option (List ℕ)) (text : List ℕ) (b : ℕ)
    (s t : BegunLine) → b ≢ 10 → Reaches only w now text s → t.number ≡ s.number
    → t.bytes.items ≡ s.bytes.items ++ b ∷ [] → t.known ≡ s.known
    → Reaches only w now (text ++ b ∷ []) t
reaches_more only w now text b s t differs h number bytes known = record {
  n = h.n;
  went = record {
    front = h.went.front;
    out = h.went.out;
    known = h.went.known;
    split = ap (λ l. l ++ b ∷ []) h.went.split
        ∙ append_assoc h.went.front s.bytes.items (b ∷ [])
        ∙ ap (λ l. h.went.front ++ l) (sym bytes);
    explained = h.went.explained;
    gone = h.went.gone;
  };
  one = subst (λ l. All (λ c. c ≢ 10) l) (sym bytes)
      (All-push (λ x. x ≢ 10) s.bytes.items b h.one differs);
  number = number ∙ h.number;
  known = known ∙ h.known;
}

-- a byte too many
pub went_long : (only : Only) (w now : Option (List ℕ)) (text : List ℕ) (b : ℕ) (s t : BegunLine)
    → b ≢ 10 → length s.bytes.items ≡ longest → Reaches only w now text s
    → ReachesOr only w now (text ++ b ∷ []) (Err (bad_line s.number)) t
went_long only w now text b s t differs full h =
    let line : List ℕ = s.bytes.items ++ b ∷ [] in
    let long = length-append s.bytes.items (b ∷ []) in (
      h.n,
      line,
      h.number,
      record {
        front = h.went.front;
        out = h.went.out;
        known = h.went.known;
        split = ap (λ l. l ++ b ∷ []) h.went.split
            ∙ append_assoc h.went.front s.bytes.items (b ∷ []);
        explained = h.went.explained;
        gone = h.went.gone;
      },
      subst BeginsOtherwise (append-nil line) (BeginsOtherwise.long line []
          (All-push (λ x. x ≢ 10) s.bytes.items b h.one differs) (omega (arith, long, full))),
    )

-- the line has ended, and no run writes it
pub went_other : (only : Only) (w now : Option (List ℕ)) (text : List ℕ) (s t : BegunLine)
    → Reaches only w now text s → (IsRunLine s.bytes.items → ⊥)
    → ReachesOr only w now (text ++ 10 ∷ []) (Err (bad_line s.number)) t
went_other only w now text s t h fails = (
  h.n,
  s.bytes.items ++ 10 ∷ [],
  h.number,
  record {
    front = h.went.front;
    out = h.went.out;
    known = h.went.known;
    split = ap (λ l. l ++ 10 ∷ []) h.went.split
        ∙ append_assoc h.went.front s.bytes.items (10 ∷ []);
    explained = h.went.explained;
    gone = h.went.gone;
  },
  BeginsOtherwise.other s.bytes.items [] h.one fails,
)

explained_more : (only : Only) (w now : Option (List ℕ)) (text : List ℕ) (s : BegunLine)
    (h : Reaches only w now text s) → length s.bytes.items ≤ longest → IsRunLine s.bytes.items
    → IsExplained only (h.n + 1) (known_after s.bytes.items h.went.known) (text ++ 10 ∷ [])
    (h.went.out ++ line_text only h.went.known s.bytes.items)
explained_more only w now text s h few is =
    let k = known_after s.bytes.items h.went.known in
    let out = h.went.out ++ line_text only h.went.known s.bytes.items in
    subst (λ t. IsExplained only (h.n + 1) k t out)
    (sym (ap (λ l. l ++ 10 ∷ []) h.went.split
    ∙ append_assoc h.went.front s.bytes.items (10 ∷ [])))
    (subst (λ t. IsExplained only (h.n + 1) k t out)
    (append_assoc h.went.front s.bytes.items (10 ∷ []))
    (IsExplained.next_line s.bytes.items (h.one, few, is) h.went.explained))

-- it has ended and went out
pub reaches_next : (only : Only) (w mid now : Option (List ℕ)) (text : List ℕ) (s t : BegunLine)
    → Reaches only w mid text s → length s.bytes.items ≤ longest → IsRunLine s.bytes.items
    → Appends mid now (line_text only s.known s.bytes.items)
    → t.number ≡ min (s.number + 1) (2 ^ 64 - 1) → t.bytes.items ≡ []
    → t.known ≡ known_after s.bytes.items s.known → Reaches only w now (text ++ 10 ∷ []) t
reaches_next only w mid now text s t h few is gone number bytes known = record {
  n = h.n + 1;
  went = record {
    front = text ++ 10 ∷ [];
    out = h.went.out ++ line_text only h.went.known s.bytes.items;
    known = known_after s.bytes.items h.went.known;
    split = sym (append-nil (text ++ 10 ∷ [])) ∙ ap (λ l. (text ++ 10 ∷ []) ++ l) (sym bytes);
    explained = explained_more only w mid text s h few is;
    gone = Appends-trans w mid now h.went.out (line_text only h.went.known s.bytes.items)
        h.went.gone
        (subst (λ k. Appends mid now (line_text only k s.bytes.items)) h.known gone);
  };
  one = subst (λ l. All (λ c. c ≢ 10) l) (sym bytes) (All-nil _);
  number = next_number-next h.n s.number t.number h.number number;
  known = known ∙ ap (known_after s.bytes.items) h.known;
}

-- it has ended, and went out in part
pub went_in_part : (only : Only) (w mid now : Option (List ℕ)) (text : List ℕ) (s : BegunLine)
    → Reaches only w mid text s → length s.bytes.items ≤ longest → IsRunLine s.bytes.items
    → AppendsFront mid now (line_text only s.known s.bytes.items)
    → ExplainedInPart only w now (text ++ 10 ∷ [])
went_in_part only w mid now text s h few is gone = record {
  n = h.n + 1;
  front = text ++ 10 ∷ [];
  rest = [];
  out = h.went.out ++ line_text only h.went.known s.bytes.items;
  known = known_after s.bytes.items h.went.known;
  split = sym (append-nil (text ++ 10 ∷ []));
  explained = explained_more only w mid text s h few is;
  gone = front_after_first w mid now h.went.out (line_text only h.went.known s.bytes.items)
      h.went.gone
      (subst (λ k. AppendsFront mid now (line_text only k s.bytes.items)) h.known gone);
}

-- ---- the text goes on

to_more : (only : Only) (w now : Option (List ℕ)) (text rest more : List ℕ) (n : ℕ)
    → ExplainedTo only w now text rest n → ExplainedTo only w now (text ++ more) (rest ++ more) n
to_more only w now text rest more n h = record {
  front = h.front;
  out = h.out;
  known = h.known;
  split = ap (λ l. l ++ more) h.split ∙ append_assoc h.front rest more;
  explained = h.explained;
  gone = h.gone;
}

otherwise_more : (rest more : List ℕ) → BeginsOtherwise rest → BeginsOtherwise (rest ++ more)
otherwise_more _ more (BeginsOtherwise.other line rest one fails) =
    subst BeginsOtherwise (sym (append_assoc line (10 ∷ rest) more))
    (BeginsOtherwise.other line (rest ++ more) one fails)
otherwise_more _ more (BeginsOtherwise.long line rest one over) =
    subst BeginsOtherwise (sym (append_assoc line rest more))
    (BeginsOtherwise.long line (rest ++ more) one over)

part_more : (only : Only) (w now : Option (List ℕ)) (text more : List ℕ)
    → ExplainedInPart only w now text → ExplainedInPart only w now (text ++ more)
part_more only w now text more h = record {
  n = h.n;
  front = h.front;
  rest = h.rest ++ more;
  out = h.out;
  known = h.known;
  split = ap (λ l. l ++ more) h.split ∙ append_assoc h.front h.rest more;
  explained = h.explained;
  gone = h.gone;
}

pub fault_more : (only : Only) (w now : Option (List ℕ)) (text more : List ℕ) (f : ExplainFault)
    (s t : BegunLine) → ReachesOr only w now text (Err f) s
    → ReachesOr only w now (text ++ more) (Err f) t
fault_more only w now text more (bad_line number) s t (n, rest, e, h, begins) =
    (n, rest ++ more, e, to_more only w now text rest more n h, otherwise_more rest more begins)
fault_more only w now text more Write s t h = part_more only w now text more h
fault_more only w now text more Read s t h = absurd h
fault_more only w now text more TooLong s t h = absurd h

fault_explains : (only : Only) (w now : Option (List ℕ)) (text : List ℕ) (f : ExplainFault)
    (s : BegunLine) → ReachesOr only w now text (Err f) s → ExplainsText only w now text (Err f)
fault_explains only w now text (bad_line number) s (n, rest, e, h, begins) =
    (n, rest, e, h, inl begins)
fault_explains only w now text Write s h = h
fault_explains only w now text Read s h = absurd h
fault_explains only w now text TooLong s h = absurd h

-- what was read is a front of the text
pub fault_of_front : (only : Only) (a b w now : Option (List ℕ)) (done : List ℕ) (f : ExplainFault)
    (s : BegunLine) → Consumes a b done → ReachesOr only w now done (Err f) s
    → IfSome a (λ text. ExplainsText only w now text (Err f))
fault_of_front only None b w now done f s e h = tt
fault_of_front only (Some text) None w now done f s e h = absurd e
fault_of_front only (Some text) (Some rest) w now done f s e h =
    subst (λ t. ExplainsText only w now t (Err f)) (sym e)
    (fault_explains only w now (done ++ rest) f s (fault_more only w now done rest f s s h))

pub read_stopped : (only : Only) (a b w now : Option (List ℕ)) (done : List ℕ) (s : BegunLine)
    → Consumes a b done → Reaches only w now done s
    → IfSome a (λ text. ExplainsText only w now text (Err Read))
read_stopped only None b w now done s e h = tt
read_stopped only (Some text) None w now done s e h = absurd e
read_stopped only (Some text) (Some rest) w now done s e h =
    subst (λ t. ExplainsText only w now t (Err Read)) (sym e)
    (h.n, s.bytes.items ++ rest, to_more only w now done s.bytes.items rest h.n h.went)

pub read_too_long : (only : Only) (a b w now : Option (List ℕ)) (done : List ℕ) (s : BegunLine)
    → Consumes a b done → Reaches only w now done s → 2 ^ 64 - 1 ≤ length done
    → IfSome a (λ text. ExplainsText only w now text (Err TooLong))
read_too_long only None b w now done s e h long = tt
read_too_long only (Some text) None w now done s e h long = absurd e
read_too_long only (Some text) (Some rest) w now done s e h long =
    let both = length-append done rest in
    subst (λ t. ExplainsText only w now t (Err TooLong)) (sym e) (
      h.n,
      s.bytes.items ++ rest,
      to_more only w now done s.bytes.items rest h.n h.went,
      omega (arith, both, long),
    )

-- all of the text was read
pub all_read : (only : Only) (a b w now : Option (List ℕ)) (done : List ℕ)
    (r : Result (Unit {0}) ExplainFault) → Consumes a b done → IsAtEnd b
    → ExplainsText only w now done r → IfSome a (λ text. ExplainsText only w now text r)
all_read only None b w now done r e end h = tt
all_read only (Some text) None w now done r e end h = absurd e
all_read only (Some text) (Some rest) w now done r e end h =
    subst (λ t. ExplainsText only w now t r)
    (sym (e ∙ ap (λ l. done ++ l) end ∙ append-nil done)) h

pub ends_whole : (only : Only) (w now : Option (List ℕ)) (text : List ℕ) (s : BegunLine)
    → (length s.bytes.items == 0) ≡ true → Reaches only w now text s
    → ExplainsText only w now text (Ok tt)
ends_whole only w now text s empty h =
    (h.n, subst (λ l. ExplainedTo only w now text l h.n) (no_items s.bytes.items empty) h.went)

pub ends_begun : (only : Only) (w now : Option (List ℕ)) (text : List ℕ) (s : BegunLine)
    → (length s.bytes.items == 0) ≡ false → Reaches only w now text s
    → ExplainsText only w now text (Err (bad_line s.number))
ends_begun only w now text s begun h =
    (h.n, s.bytes.items, h.number, h.went, inr (some_items s.bytes.items begun, h.one))

-- ---- a piece

pub piece_on : (only : Only) (w now : Option (List ℕ)) (text piece : List ℕ) (i b : ℕ)
    (s : BegunLine) → i < length piece → b ≡ get_or piece i 0
    → Reaches only w now ((text ++ take i piece) ++ b ∷ []) s
    → Reaches only w now (text ++ take (i + 1) piece) s
piece_on only w now text piece i b s below is h =
    let more : take (i + 1) piece ≡ take i piece ++ b ∷ [] = take_more piece i 0 below
    ∙ ap (λ x. take i piece ++ x ∷ []) (sym is) in
    subst (λ t. Reaches only w now t s) (append_assoc text (take i piece) (b ∷ [])
    ∙ ap (λ l. text ++ l) (sym more)) h

pub piece_whole : (only : Only) (w now : Option (List ℕ)) (text piece : List ℕ) (i : ℕ)
    (s : BegunLine) → length piece ≤ i → Reaches only w now (text ++ take i piece) s
    → Reaches only w now (text ++ piece) s
piece_whole only w now text piece i s over h =
    subst (λ t. Reaches only w now (text ++ t) s) (take_all i piece over) h

pub piece_fault : (only : Only) (w now : Option (List ℕ)) (text piece : List ℕ) (i b : ℕ)
    (f : ExplainFault) (s t : BegunLine) → i < length piece → b ≡ get_or piece i 0
    → ReachesOr only w now ((text ++ take i piece) ++ b ∷ []) (Err f) s
    → ReachesOr only w now (text ++ piece) (Err f) t
piece_fault only w now text piece i b f s t below is h =
    let more : take (i + 1) piece ≡ take i piece ++ b ∷ [] = take_more piece i 0 below
    ∙ ap (λ x. take i piece ++ x ∷ []) (sym is) in
    let whole : ((text ++ take i piece) ++ b ∷ []) ++ drop (i + 1) piece ≡ text ++ piece =
    ap (λ l. l ++ drop (i + 1) piece) (append_assoc text (take i piece) (b ∷ [])
    ∙ ap (λ l. text ++ l) (sym more)) ∙ append_assoc text (take (i + 1) piece)
    (drop (i + 1) piece) ∙ ap (λ l. text ++ l) (take-append-drop (i + 1) piece) in
    subst (λ u. ReachesOr only w now u (Err f) t) whole
    (fault_more only w now ((text ++ take i piece) ++ b ∷ []) (drop (i + 1) piece) f s t h)

pub not_read : {P : Type 0} (only : Only) (w now : Option (List ℕ)) (text : List ℕ)
    (f : ExplainFault) (s : BegunLine) → ReachesOr only w now text (Err f) s
    → IsErrOf {T = Unit {0}} (Err f) Read → P
not_read only w now text Read s h is = absurd h
not_read only w now text TooLong s h is = absurd h
not_read only w now text (bad_line number) s h is = absurd (cc)
not_read only w now text Write s h is = absurd (cc)
