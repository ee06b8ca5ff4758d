-- How a capture goes on, byte after byte.
use Rattle.std.proofs.Common.{◌≡◌, ◌≢◌, ◌==◌, inl, inr, ℕ, ◌+◌, ◌-◌, ◌^◌, ◌<◌, ◌≤◌, nat_lt, min}
use Rattle.std.proofs.Common.{Bool, true, false, List, [], ◌∷◌, ◌++◌, length, take, drop, Option}
use Rattle.std.proofs.Common.{Some, None, IfSome, Result, Ok, Err, get_or, is_err, OnOk, refl, sym}
use Rattle.std.proofs.Common.{ap, subst, ◌∙◌, arith, append_assoc, append-nil, length-append}
use Rattle.std.proofs.Common.{IsErrOf, ◌&&◌, ◌||◌, not, Decides}
use Rattle.arrayvec.specs.ArrayVec.{ArrayVec}
use Rattle.std.proofs.lemmas.List.{take_more, take-append-drop, length-take, take-append-le}
use Rattle.std.proofs.lemmas.List.{take_all}
use Rattle.std.proofs.lemmas.List.Elements.{All-nil, All-push}
use Rattle.std.proofs.lemmas.Bool.{and_parts, eqb-true, lt-ltb, ltb-true}
use Rattle.std.proofs.lemmas.Bool.Decides.{nat_tests}
use Rattle.std.proofs.KnownBytes.{Appends-trans, Consumes-trans}
use Rattle.std.specs.Io.KnownBytes.{Appends, Consumes, IsAtEnd}
use Rattle.usb_watch.specs.{AppendsFront}
use Rattle.usb_watch.proofs.Interface.{front_after_first}
use Rattle.usb_pcap.specs.{OpenLine, PcapFault, Read, Line as BadLine, TooLong, Write}
use Rattle.usb_pcap.specs.{TracedAttempt, IsAttemptLine, fits_form, IsReport, has_form, plug_form}
use Rattle.usb_pcap.specs.{report_forms, AreRecords, attempt_packets, header, Captures, ComesOf}
use Rattle.usb_pcap.specs.{IsCapture, IsRunLine, IsTold, LineRecords, RecordsOf, RefusedLine}
use Rattle.usb_pcap.specs.{IsPlug, StandsBehind, WroteFront, WroteLines, longest, next_number}
use Rattle.usb_pcap.specs.{Begins, IsShownText, NoAttempt}
use Rattle.usb_pcap.proofs.ShownNames.{begins_none}
use Rattle.usb_pcap.proofs.Forms.{is_report-complete, is_report-sound, no_plug, plug_taken}

few_taken : (k : ℕ) (l : List ℕ) → length (take k l) < k → length l < k
few_taken k l h = let e = length-take k l in omega (arith, e)

many_taken : (k : ℕ) (l : List ℕ) → length (take k l) ≡ k → k ≤ length l
many_taken k l h = let e = length-take k l in omega (arith, e)

both_few : (k a b : ℕ) → a ≤ k → b ≤ k → nat_lt k a ≡ nat_lt k b
both_few k a b h i = grind (arith, nat_tests)

not_more : (k a : ℕ) → nat_lt k a ≡ false → a ≤ k
not_more k a h = grind (arith, nat_tests)

-- a byte more, as its first bytes tell where there is room for k of them
taken_more : (k : ℕ) (line front : List ℕ) (b : ℕ) → front ≡ take k line → length front < k
    → (front ++ b ∷ [] ≡ take k (line ++ b ∷ []))
    × (nat_lt k (length line) ≡ nat_lt k (length (line ++ b ∷ [])))
taken_more k line front b e room =
    let few = few_taken k line (subst (λ l. length l < k) e room) in
    let long = length-append line (b ∷ []) in (
      ap (λ l. l ++ b ∷ []) (e ∙ take_all k line (omega arith))
          ∙ sym (take_all k (line ++ b ∷ []) (omega (arith, long))),
      both_few k (length line) (length (line ++ b ∷ [])) (omega arith) (omega (arith, long)),
    )

-- the same where there is non room
taken_long : (k : ℕ) (line front : List ℕ) (b : ℕ) → front ≡ take k line → length front ≡ k
    → (front ≡ take k (line ++ b ∷ [])) × (nat_lt k (length (line ++ b ∷ [])) ≡ true)
taken_long k line front b e full =
    let many = many_taken k line (subst (λ l. length l ≡ k) e full) in
    let long = length-append line (b ∷ []) in (
      e ∙ sym (take-append-le k line (b ∷ []) many),
      lt-ltb k _ (omega (arith, long)),
    )

pub stands_first : (w now : Option (List ℕ)) (s : OpenLine) → Appends w now header → s.number ≡ 1
    → s.front.items ≡ [] → s.is_long ≡ false → s.begun.items ≡ [] → s.has_packets ≡ false
    → StandsBehind w now [] s
stands_first w now s h number front long shown none = record {
  n = 0;
  front = [];
  line = [];
  file = header;
  split = refl;
  captured = IsCapture.none;
  gone = h;
  one = All-nil _;
  begins = front;
  long = long;
  shown = subst (Begins []) (sym shown) begins_none;
  number = number;
  packets = λ some. let apart : true ≡ false = sym some ∙ none in absurd (cc);
  bare = λ _. refl;
}

-- one byte more
abbrev TakesShown : OpenLine → ℕ → OpenLine → Type 0
TakesShown s b t = (line : List ℕ) → Begins line s.begun.items
    → Begins (line ++ b ∷ []) t.begun.items

stands_on : (w now : Option (List ℕ)) (text : List ℕ) (b : ℕ) (s t : OpenLine) → b ≢ 10
    → (h : StandsBehind w now text s) → t.number ≡ s.number
    → t.front.items ≡ take longest (h.line ++ b ∷ [])
    → t.is_long ≡ nat_lt longest (length (h.line ++ b ∷ []))
    → TakesShown s b t → t.has_packets ≡ s.has_packets
    → StandsBehind w now (text ++ b ∷ []) t
stands_on w now text b s t other h number begins long shown same = record {
  n = h.n;
  front = h.front;
  line = h.line ++ b ∷ [];
  file = h.file;
  split = ap (λ l. l ++ b ∷ []) h.split ∙ append_assoc h.front h.line (b ∷ []);
  captured = h.captured;
  gone = h.gone;
  one = All-push (λ x. x ≢ 10) h.line b h.one other;
  begins = begins;
  long = long;
  shown = shown h.line h.shown;
  number = number ∙ h.number;
  packets = λ some. h.packets (sym same ∙ some);
  bare = λ none. h.bare (sym same ∙ none);
}

pub stands_more : (w now : Option (List ℕ)) (text : List ℕ) (b : ℕ) (s t : OpenLine) → b ≢ 10
    → StandsBehind w now text s → t.number ≡ s.number
    → length s.front.items < longest → t.front.items ≡ s.front.items ++ b ∷ []
    → t.is_long ≡ s.is_long → TakesShown s b t → t.has_packets ≡ s.has_packets
    → StandsBehind w now (text ++ b ∷ []) t
stands_more w now text b s t other h number room front long shown same =
    let more = taken_more _ _ _ b h.begins room in
    stands_on w now text b s t other h number (front ∙ more.0) (long ∙ h.long ∙ more.1) shown
    same

pub stands_long : (w now : Option (List ℕ)) (text : List ℕ) (b : ℕ) (s t : OpenLine) → b ≢ 10
    → StandsBehind w now text s → t.number ≡ s.number
    → length s.front.items ≡ longest → t.front.items ≡ s.front.items → t.is_long ≡ true
    → TakesShown s b t → t.has_packets ≡ s.has_packets
    → StandsBehind w now (text ++ b ∷ []) t
stands_long w now text b s t other h number full front long shown same =
    let more = taken_long _ _ _ b h.begins full in
    stands_on w now text b s t other h number (front ∙ more.0) (long ∙ sym more.1) shown
    same

-- the records of a line, by its first bytes
abbrev TellsRecords : OpenLine → List ℕ → Type 0
TellsRecords s records = (line : List ℕ) → s.front.items ≡ take longest line
    → s.is_long ≡ nat_lt longest (length line) → Begins line s.begun.items
    → LineRecords line records

-- the line is none of a run, by its first bytes
abbrev Refuses : OpenLine → Type 0
Refuses s = (line : List ℕ) → s.front.items ≡ take longest line
    → s.is_long ≡ nat_lt longest (length line) → Begins line s.begun.items
    → IsRunLine line → ⊥

capture_closed : (w now : Option (List ℕ)) (text records : List ℕ) (s : OpenLine)
    (h : StandsBehind w now text s) → TellsRecords s records
    → IsCapture (h.n + 1) (text ++ 10 ∷ []) (h.file ++ records)
capture_closed w now text records s h tells =
    subst (λ t. IsCapture (h.n + 1) (t ++ 10 ∷ []) (h.file ++ records)) (sym h.split)
    (IsCapture.line h.line records h.one (tells h.line h.begins h.long h.shown) h.captured)

pub next_number-next : (n k m : ℕ) → k ≡ next_number n → m ≡ min (k + 1) (2 ^ 64 - 1)
    → m ≡ next_number (n + 1)
next_number-next n k m e f = omega arith

-- whether packets have gone out, after the records of one more line
more_packets : (had now : Bool) (file records : List ℕ)
    → now ≡ (had || not (length records == 0))
    → (had ≡ true → length header < length file) → (had ≡ false → file ≡ header)
    → (now ≡ true → length header < length (file ++ records))
    × (now ≡ false → file ++ records ≡ header)
more_packets true now file records e some none = (
  λ _. let long = length-append file records in let more = some refl in omega (arith, long, more),
  λ bare. let apart : true ≡ false = sym e ∙ bare in absurd (cc),
)
more_packets false now file [] e some none = (
  λ is. let apart : false ≡ true = sym e ∙ is in absurd (cc),
  λ _. append-nil file ∙ none refl,
)
more_packets false now file (c ∷ records) e some none = (
  λ _. let long = length-append file (c ∷ records) in let same = ap (λ l. length l) (none refl) in
      omega (arith, long, same),
  λ bare. let more : (length (c ∷ records) == 0) ≡ false = grind (arith, nat_tests) in
      let apart : true ≡ false = sym (e ∙ ap not more) ∙ bare in absurd (cc),
)

pub stands_closed : (w mid now : Option (List ℕ)) (text records : List ℕ) (s t : OpenLine)
    → StandsBehind w mid text s → TellsRecords s records
    → Appends mid now records → t.number ≡ min (s.number + 1) (2 ^ 64 - 1) → t.front.items ≡ []
    → t.is_long ≡ false → t.begun.items ≡ []
    → t.has_packets ≡ (s.has_packets || not (length records == 0))
    → StandsBehind w now (text ++ 10 ∷ []) t
stands_closed w mid now text records s t h tells gone number front long shown packets = record {
  n = h.n + 1;
  front = text ++ 10 ∷ [];
  line = [];
  file = h.file ++ records;
  split = sym (append-nil (text ++ 10 ∷ []));
  captured = capture_closed w mid text _ s h tells;
  gone = Appends-trans w mid now h.file records h.gone gone;
  one = All-nil _;
  begins = front;
  long = long;
  shown = subst (Begins []) (sym shown) begins_none;
  number = next_number-next _ _ _ h.number number;
  packets = (more_packets _ _ h.file _ packets h.packets h.bare).0;
  bare = (more_packets _ _ h.file _ packets h.packets h.bare).1;
}

pub went_front : (w mid now : Option (List ℕ)) (text records : List ℕ) (s : OpenLine)
    → StandsBehind w mid text s → TellsRecords s records
    → AppendsFront mid now records → (n : ℕ) × WroteFront w now (text ++ 10 ∷ []) n
went_front w mid now text records s h tells gone = (
  h.n + 1,
  record {
    front = text ++ 10 ∷ [];
    rest = [];
    file = h.file ++ records;
    split = sym (append-nil (text ++ 10 ∷ []));
    captured = capture_closed w mid text _ s h tells;
    gone = front_after_first w mid now h.file records h.gone gone;
  },
)

-- the line has ended, and is none of a run
pub went_refused : (w now : Option (List ℕ)) (text : List ℕ) (s : OpenLine)
    → StandsBehind w now text s → Refuses s
    → (n : ℕ) × (s.number ≡ next_number n) × RefusedLine w now (text ++ 10 ∷ []) n
went_refused w now text s h none = (
  h.n,
  h.number,
  record {
    front = h.front;
    line = h.line;
    rest = [];
    file = h.file;
    split = ap (λ l. l ++ 10 ∷ []) h.split;
    one = h.one;
    other = none h.line h.begins h.long h.shown;
    captured = h.captured;
    gone = h.gone;
  },
)

-- a fault stays what it is, whatever the text goes on with
refused_more : (w now : Option (List ℕ)) (text rest : List ℕ) (n : ℕ) → RefusedLine w now text n
    → RefusedLine w now (text ++ rest) n
refused_more w now text rest n h = record {
  front = h.front;
  line = h.line;
  rest = h.rest ++ rest;
  file = h.file;
  split = ap (λ l. l ++ rest) h.split ∙ append_assoc (h.front ++ h.line) (10 ∷ h.rest) rest;
  one = h.one;
  other = h.other;
  captured = h.captured;
  gone = h.gone;
}

front_more : (w now : Option (List ℕ)) (text rest : List ℕ) (n : ℕ) → WroteFront w now text n
    → WroteFront w now (text ++ rest) n
front_more w now text rest n h = record {
  front = h.front;
  rest = h.rest ++ rest;
  file = h.file;
  split = ap (λ l. l ++ rest) h.split ∙ append_assoc h.front h.rest rest;
  captured = h.captured;
  gone = h.gone;
}

pub comes_more : (w now : Option (List ℕ)) (text rest : List ℕ) (f : PcapFault) (s t : OpenLine)
    → ComesOf w now text (Err f) s → ComesOf w now (text ++ rest) (Err f) t
comes_more w now text rest (BadLine number) s t (n, e, h) = (n, e, refused_more w _ _ rest n h)
comes_more w now text rest Write s t (n, h) = (n, front_more w _ _ rest n h)
comes_more w now text rest _ s t h = absurd h

pub comes_captures : (w now : Option (List ℕ)) (text : List ℕ) (f : PcapFault) (s : OpenLine)
    → ComesOf w now text (Err f) s → Captures w now text (Err f)
comes_captures w now text (BadLine number) s (n, e, h) = (n, e, inl h)
comes_captures w now text Write s h = h
comes_captures w now text _ s h = absurd h

-- what was read is a front of the text
pub comes_front : (a b w now : Option (List ℕ)) (done : List ℕ) (f : PcapFault) (s : OpenLine)
    → Consumes a b done → ComesOf w now done (Err f) s
    → IfSome a (λ text. Captures w now text (Err f))
comes_front None b w now done f s e h = tt
comes_front (Some text) None w now done f s e h = absurd e
comes_front (Some text) (Some rest) w now done f s e h =
    subst (λ t. Captures w now t (Err f)) (sym e)
    (comes_captures w _ _ f s (comes_more w _ _ rest f s s h))

stopped : (w now : Option (List ℕ)) (text rest : List ℕ) (s : OpenLine) → StandsBehind w now text s
    → (n : ℕ) × WroteLines w now (text ++ rest) n
stopped w now text rest s h = (
  h.n,
  record {
    front = h.front;
    rest = h.line ++ rest;
    file = h.file;
    split = ap (λ l. l ++ rest) h.split ∙ append_assoc h.front h.line rest;
    captured = h.captured;
    gone = h.gone;
  },
)

pub read_failed : (a b w now : Option (List ℕ)) (done : List ℕ) (s : OpenLine) → Consumes a b done
    → StandsBehind w now done s → IfSome a (λ text. Captures w now text (Err Read))
read_failed None b w now done s e h = tt
read_failed (Some text) None w now done s e h = absurd e
read_failed (Some text) (Some rest) w now done s e h =
    subst (λ t. Captures w now t (Err Read)) (sym e) (stopped w _ _ rest s h)

pub read_on : (a b w now : Option (List ℕ)) (done : List ℕ) (s : OpenLine) → Consumes a b done
    → StandsBehind w now done s → 2 ^ 64 - 1 ≤ length done
    → IfSome a (λ text. Captures w now text (Err TooLong))
read_on None b w now done s e h long = tt
read_on (Some text) None w now done s e h long = absurd e
read_on (Some text) (Some rest) w now done s e h long =
    let (n, wrote) = stopped w _ _ rest s h in
    let both = length-append done rest in
    subst (λ t. Captures w now t (Err TooLong)) (sym e) (n, wrote, omega (arith, both, long))

-- all of the text was read
pub captures_all : (a b w now : Option (List ℕ)) (done : List ℕ) (r : Result (Unit {0}) PcapFault)
    → Consumes a b done → IsAtEnd b → Captures w now done r
    → IfSome a (λ text. Captures w now text r)
captures_all None b w now done r e end h = tt
captures_all (Some text) None w now done r e end h = absurd e
captures_all (Some text) (Some rest) w now done r e end h =
    subst (λ t. Captures w now t r) (sym (e ∙ ap (λ l. done ++ l) end ∙ append-nil done)) h

-- no line has begun: all of the text was captured
whole_text : (w now : Option (List ℕ)) (text : List ℕ) (s : OpenLine) → s.front.items ≡ []
    → (h : StandsBehind w now text s) → IsCapture h.n text h.file
whole_text w now text s empty h =
    let few = few_taken longest h.line (subst (λ l. length l < longest) (sym empty ∙ h.begins)
    (omega arith)) in
    let none : h.line ≡ [] = sym (take_all longest h.line (omega arith)) ∙ sym h.begins ∙ empty in
    subst (λ t. IsCapture h.n t h.file) (sym (h.split ∙ ap (λ l. h.front ++ l) none
    ∙ append-nil h.front)) h.captured

longer_differs : (file : List ℕ) → length header < length file → file ≢ header
longer_differs file more same = let equal = ap (λ l. length l) same in absurd (omega (arith, equal))

pub ended_well : (w now : Option (List ℕ)) (text : List ℕ) (s : OpenLine) → s.front.items ≡ []
    → s.has_packets ≡ true → StandsBehind w now text s → Captures w now text (Ok tt)
ended_well w now text s empty some h =
    (h.n, h.file, whole_text w now text s empty h, h.gone, longer_differs _ (h.packets some))

pub ended_bare : (w now : Option (List ℕ)) (text : List ℕ) (s : OpenLine) → s.front.items ≡ []
    → s.has_packets ≡ false → StandsBehind w now text s → Captures w now text (Err NoAttempt)
ended_bare w now text s empty none h = (
  h.n,
  subst (λ f. IsCapture h.n text f) (h.bare none) (whole_text w now text s empty h),
  subst (λ f. Appends w now f) (h.bare none) h.gone,
)

pub no_items : (l : List ℕ) → (length l == 0) ≡ true → l ≡ []
no_items [] e = refl
no_items (c ∷ l) e = let none = eqb-true _ 0 e in absurd (omega (arith, none))

pub some_items : (l : List ℕ) → (length l == 0) ≡ false → l ≢ []
some_items l e is = let none : (length {A = ℕ} [] == 0) ≡ false =
    subst (λ (k : List ℕ). (length k == 0) ≡ false) is e in absurd (cc)

pub ended_early : (w now : Option (List ℕ)) (text : List ℕ) (s : OpenLine) → s.front.items ≢ []
    → StandsBehind w now text s → Captures w now text (Err (BadLine s.number))
ended_early w now text s begun h = (
  h.n,
  h.number,
  inr (record {
    front = h.front;
    line = h.line;
    file = h.file;
    split = h.split;
    one = h.one;
    begun = λ none. begun (h.begins ∙ ap (λ l. take longest l) none);
    captured = h.captured;
    gone = h.gone;
  }),
)

-- ---- a line, by its first bytes

short_whole : (front line : List ℕ) → front ≡ take longest line → length line ≤ longest
    → front ≡ line
short_whole front line e few = e ∙ take_all longest line few

pub told_records : (front line : List ℕ) (records : ArrayVec ℕ) → records.items ≡ [] → IsTold line
    → RecordsOf line (Some records)
told_records front line records none told =
    subst (λ l. LineRecords line l) (sym none) (LineRecords.told told)

pub plug_records : (front line : List ℕ) (shown : Bool) (records : ArrayVec ℕ)
    → front ≡ take longest line
    → Decides shown (IsShownText line) → (shown && fits_form plug_form front) ≡ true
    → records.items ≡ [] → RecordsOf line (Some records)
plug_records front line shown records e decides fits none =
    let both = and_parts _ _ fits in
    told_records front _ _ none (inl (plug_taken _ _ e both.1, decides.0 both.0))

pub report_records : (front line : List ℕ) (is_long : Bool) (records : ArrayVec ℕ)
    → front ≡ take longest line → is_long ≡ nat_lt longest (length line) → is_long ≡ false
    → has_form report_forms front ≡ true → records.items ≡ [] → RecordsOf line (Some records)
report_records front line is_long records e long short fit none =
    let few : length line ≤ longest = not_more longest (length line) (sym long ∙ short) in
    told_records front line records none
    (inr (few, subst IsReport (short_whole front line e few) (is_report-sound front fit)))

-- no line of a plug, by its first bytes, or one that a run does not show
no_shown_plug : (front line : List ℕ) (shown : Bool) → front ≡ take longest line
    → Decides shown (IsShownText line) → (shown && fits_form plug_form front) ≡ false
    → IsPlug line → IsShownText line → ⊥
no_shown_plug front line shown e decides none plug is =
    no_plug front line e (ap (λ s. s && fits_form plug_form front) (sym (decides.1 is)) ∙ none) plug

pub long_refused : (front line : List ℕ) (shown is_long : Bool) → front ≡ take longest line
    → is_long ≡ nat_lt longest (length line) → is_long ≡ true
    → Decides shown (IsShownText line) → (shown && fits_form plug_form front) ≡ false
    → IsRunLine line → ⊥
long_refused front line shown is_long e long fit decides none (inl (inl (plug, is))) =
    no_shown_plug front line shown e decides none plug is
long_refused front line shown is_long e long fit decides none (inl (inr (few, report))) = let over =
    ltb-true longest (length line) (sym long ∙ fit) in absurd (omega arith)
long_refused front line shown is_long e long fit decides none (inr (a, (few, of))) = let over =
    ltb-true longest (length line) (sym long ∙ fit) in absurd (omega arith)

pub attempt_records : (front line : List ℕ) (is_long : Bool) (a : TracedAttempt)
    (records : ArrayVec ℕ) → front ≡ take longest line → is_long ≡ nat_lt longest (length line)
    → is_long ≡ false → IsAttemptLine front a
    → AreRecords a.number (attempt_packets a.pre a.exchange) records.items
    → RecordsOf line (Some records)
attempt_records front line is_long a records e long short of made =
    let few : length line ≤ longest = not_more _ _ (sym long ∙ short) in
    LineRecords.attempt a records.items (
      few,
      subst (λ l. IsAttemptLine l a) (short_whole _ _ e few) of,
    ) made

pub none_refused : (front line : List ℕ) (shown is_long : Bool) → front ≡ take longest line
    → is_long ≡ nat_lt longest (length line) → is_long ≡ false
    → Decides shown (IsShownText line) → (shown && fits_form plug_form front) ≡ false
    → has_form report_forms front ≡ false
    → ((a : TracedAttempt) → IsAttemptLine front a → None ≡ Some a) → IsRunLine line → ⊥
none_refused front line shown is_long e long short decides no_p no_r no_a (inl (inl (plug, is))) =
    no_shown_plug front line shown e decides no_p plug is
none_refused front line shown is_long e long short decides no_p no_r no_a
    (inl (inr (few, report))) =
    let fit = is_report-complete front (subst IsReport (sym (short_whole front line e few)) report)
    in absurd (cc)
none_refused front line shown is_long e long short decides no_p no_r no_a (inr (a, (few, of))) =
    let found = no_a a (subst (λ l. IsAttemptLine l a) (sym (short_whole front line e few)) of) in
    absurd (cc)

pub torn_header : (a w now : Option (List ℕ)) → AppendsFront w now header
    → IfSome a (λ text. Captures w now text (Err Write))
torn_header None w now h = tt
torn_header (Some text) w now h = (
  0,
  record {
    front = [];
    rest = text;
    file = header;
    split = refl;
    captured = IsCapture.none;
    gone = h;
  },
)

-- one byte of a piece more
pub piece_more : (w now : Option (List ℕ)) (text piece : List ℕ) (i b : ℕ) (s : OpenLine)
    → i < length piece → b ≡ get_or piece i 0
    → StandsBehind w now ((text ++ take i piece) ++ b ∷ []) s
    → StandsBehind w now (text ++ take (i + 1) piece) s
piece_more w now text piece i b s below is h =
    let more : take (i + 1) piece ≡ take i piece ++ b ∷ [] = take_more piece i 0 below
    ∙ ap (λ x. take i piece ++ x ∷ []) (sym is) in
    subst (λ t. StandsBehind w now t s) (append_assoc text (take i piece) (b ∷ [])
    ∙ ap (λ l. text ++ l) (sym more)) h

-- all of a piece
pub piece_taken : (w now : Option (List ℕ)) (text piece : List ℕ) (i : ℕ) (s : OpenLine)
    → length piece ≤ i → StandsBehind w now (text ++ take i piece) s
    → StandsBehind w now (text ++ piece) s
piece_taken w now text piece i s over h =
    subst (λ t. StandsBehind w now (text ++ t) s) (take_all i piece over) h

pub piece_failed : (w now : Option (List ℕ)) (text piece : List ℕ) (i b : ℕ) (f : PcapFault)
    (s t : OpenLine) → i < length piece → b ≡ get_or piece i 0
    → ComesOf w now ((text ++ take i piece) ++ b ∷ []) (Err f) s
    → ComesOf w now (text ++ piece) (Err f) t
piece_failed w now text piece i b f s t below is h =
    let more : take (i + 1) piece ≡ take i piece ++ b ∷ [] = take_more piece i 0 below
    ∙ ap (λ x. take i piece ++ x ∷ []) (sym is) in
    let whole : ((text ++ take i piece) ++ b ∷ []) ++ drop (i + 1) piece ≡ text ++ piece =
    ap (λ l. l ++ drop (i + 1) piece) (append_assoc text (take i piece) (b ∷ [])
    ∙ ap (λ l. text ++ l) (sym more)) ∙ append_assoc text (take (i + 1) piece)
    (drop (i + 1) piece) ∙ ap (λ l. text ++ l) (take-append-drop (i + 1) piece) in
    subst (λ u. ComesOf w now u (Err f) t) whole
    (comes_more w _ _ (drop (i + 1) piece) f s t h)

pub not_err : {A E : Type 0} {P : Type 0} (r : Result A E) → is_err r ≡ false → OnOk r P → P
not_err (Ok x) e h = h
not_err (Err x) e h = absurd (cc)

pub never_read : {P : Type 0} (w now : Option (List ℕ)) (text : List ℕ) (f : PcapFault)
    (s : OpenLine) → ComesOf w now text (Err f) s → IsErrOf {T = Unit {0}} (Err f) Read → P
never_read w now text Read s h is = absurd h
never_read w now text TooLong s h is = absurd h
never_read w now text NoAttempt s h is = absurd h
never_read w now text (BadLine number) s h is = absurd (cc)
never_read w now text Write s h is = absurd (cc)

-- a read that gave nothing
pub read_none : (a b new : Option (List ℕ)) (done buf : List ℕ) (n : ℕ) → Consumes a b done → n ≡ 0
    → Consumes b new (take n buf) → Consumes a new done
read_none a b new done buf n h e k = subst (Consumes a new) (append-nil done)
    (Consumes-trans a b new done [] h (subst (λ m. Consumes b new (take m buf)) e k))
