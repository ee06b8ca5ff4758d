-- How lines and their replies follow each other, and what stops them.
use mathlib.Core.Bool.{and-false, and-true}
use Rattle.std.proofs.Common.{◌≡◌, ◌≢◌, inl, inr, ◌∙◌, ℕ, ◌+◌, ◌<◌, ◌≤◌, Bool, true, false}
use Rattle.std.proofs.Common.{not, ◌&&◌}
use Rattle.std.proofs.Common.{List, [], ◌∷◌, ◌++◌, length, take, Option, Ok, Err}
use Rattle.std.proofs.Common.{Some, None, refl, sym, ap, subst, arith, append_assoc, nat_lt}
use Rattle.std.proofs.Common.{if◌then◌else◌, length-drop}
use Rattle.std.proofs.Common.{length-append}
use Rattle.std.proofs.KnownBytes.{Appends-nil, Appends-trans, Consumes-nil, Consumes-trans}
use Rattle.std.proofs.lemmas.Bool.{false≢true}
use Rattle.std.proofs.lemmas.List.{take-append-le, take_all}
use Rattle.std.proofs.lemmas.List.Elements.{All-append}
use Rattle.std.specs.Io.KnownBytes.{Appends, Consumes}
use Rattle.arrayvec.specs.ArrayVec.{ArrayVec}
use Rattle.usb_watch.specs.{is_some_text, EndsLine, FailsToFlush, Flushes, IsNextLine, IsUnbroken}
use Rattle.usb_watch.specs.{OutPipe, Pipe, LineFault, Read, Cut, Reads}
use Rattle.usb_wire.specs.{Answer, Answered, Asked, IsQuestion, kind_asked}
use Rattle.usb_wire.specs.{said_line, Question}
use Rattle.usb_wire.specs.declared.question.Asked.TheVariants as asked
use Rattle.usb_wire.specs.declared.question.Question.TheVariants.{Ins, Outs}
use Rattle.usb_far.specs.{Phase, FarFault, Far, HasNoReply, IsReplied, Played, Replied, Replies}
use Rattle.usb_far.specs.{done, may_ask, reading_fault, AllReplied, HasNoQuestion, HasQuestion}
use Rattle.usb_far.specs.{MayGoOn, Misread, OnlyReads, OnlyReadsLine, Passed, Passes, Reading}
use Rattle.usb_far.specs.{LineReplied, ReadsOn, ReadsQuestion, ReadsTold, reading_in}
use Rattle.usb_far.specs.{Scene, InTurn, ServedOne, ServedSome, ServesNext, CauseOf}
use Rattle.usb_far.specs.{is_told, AllReplies, GoesOn, IsUnwritten, RowEnds, RowFront, RowReplied}
use Rattle.usb_far.specs.{RowStops, and_then, HostLine, TakesLine}
use Rattle.usb_far.specs.declared.told.HostLine.TheVariants as host
use Rattle.usb_far.specs.{brings_full, is_taken, may_ask_as, rest_behind}
use Rattle.usb_far.specs.declared.far_end.Phase.TheVariants.{Asks}
use Rattle.usb_far.specs.{passed, phase_behind}
use Rattle.usb_far.specs.declared.fault.FarFault.TheVariants as fault

-- ---- bytes that were read

abbrev pub at_reader : Played → Pipe → Reading
at_reader played reader = record { played = played; reader = reader }

-- the first of bytes that were read behind others
first_of_long : (front rest : List ℕ) (more : ℕ) → length front ≡ 1024
    → take 1024 ((front ++ more ∷ []) ++ rest) ≡ front
first_of_long front rest more full =
    ap (take 1024) (append_assoc front (more ∷ []) rest)
    ∙ take-append-le 1024 front (more ∷ [] ++ rest) (omega arith)
    ∙ take_all 1024 front (omega arith)

not_nil : (bytes rest : List ℕ) → 0 < length bytes → bytes ++ rest ≢ []
not_nil [] rest some none = absurd (omega (arith, some))
not_nil (c ∷ bytes) rest some none = cc

-- this much was read of one line, and nothing was answered
only_read : (old new : Scene) (bytes : List ℕ) → Reads old.reader bytes new.reader
    → new.played.trace ≡ old.played.trace → new.writer ≡ old.writer
    → Passes old (passed bytes [] []) new
only_read old new bytes reads trace writer = record {
  read = reads.read;
  written = subst (λ w. Appends old.writer.bytes w.bytes []) (sym writer)
      (Appends-nil old.writer.bytes);
  traced = subst (λ t. Appends old.played.trace.bytes t.bytes []) (sym trace)
      (Appends-nil old.played.trace.bytes);
  reads = reads.unmarked;
  writes = ap (λ w. w.failed) writer;
  flushed = ap (λ w. w.pending) writer ∙ sym (and-true old.writer.pending);
}

-- ---- the end, and what is told

-- a line that tells something
pub told_whole : (old new : Reading) (line : List ℕ) (p : Phase) → IsUnbroken line
    → length line ≤ 1024 → Consumes old.reader.bytes new.reader.bytes (line ++ 10 ∷ [])
    → ReadsOn old new → is_told old.played.far.phase line ≡ true
    → p ≡ phase_behind old.played.far.phase line
    → new.played ≡ record old.played { far = record old.played.far { phase = p } }
    → ReadsTold old line new
told_whole old new line p one short read reads told next played = record {
  line = line;
  unbroken = one;
  whole = record { read = read; unmarked = reads };
  begins = sym (take_all 1024 line short);
  told = told;
  moved = played ∙ ap (λ q. record old.played { far = record old.played.far { phase = q } }) next;
}

-- a long one, of which the front was read first
pub told_long : (old new : Reading) (mid : Pipe) (front rest : List ℕ) (more : ℕ) (p : Phase)
    → length front ≡ 1024 → IsUnbroken (front ++ more ∷ [])
    → Consumes old.reader.bytes mid.bytes (front ++ more ∷ []) → IsUnbroken rest
    → Consumes mid.bytes new.reader.bytes (rest ++ 10 ∷ [])
    → ReadsOn old new → is_told old.played.far.phase front ≡ true
    → p ≡ phase_behind old.played.far.phase front
    → new.played ≡ record old.played { far = record old.played.far { phase = p } }
    → ReadsTold old front new
told_long old new mid front rest more p full one read last ended reads told next played = record {
  line = (front ++ more ∷ []) ++ rest;
  unbroken = All-append (λ c. c ≢ 10) (front ++ more ∷ []) rest one last;
  whole = record {
    read = subst (Consumes old.reader.bytes new.reader.bytes)
        (sym (append_assoc (front ++ more ∷ []) rest (10 ∷ [])))
        (Consumes-trans old.reader.bytes mid.bytes new.reader.bytes (front ++ more ∷ [])
        (rest ++ 10 ∷ []) read ended);
    unmarked = reads;
  };
  begins = sym (first_of_long front rest more full);
  told = told;
  moved = played ∙ ap (λ q. record old.played { far = record old.played.far { phase = q } }) next;
}

-- it has no reply
told_line : (old new : Scene) (front : List ℕ)
    → ReadsTold (reading_in old) front (reading_in new) → new.writer ≡ old.writer
    → ServedOne old new
told_line old new front t writer =
    let f = old.played.far in
    let far : new.played.far ≡ record f { phase = phase_behind f.phase (take 1024 t.line) } =
    ap (λ p. p.far) t.moved ∙ ap (λ l. record f { phase = phase_behind f.phase l }) t.begins in
    record {
      passed = passed (t.line ++ 10 ∷ []) [] [];
      replied = subst (LineReplied f (passed (t.line ++ 10 ∷ []) [] [])) (sym far)
          (LineReplied.told t.line t.unbroken (sym (ap (is_told f.phase) t.begins) ∙ t.told));
      passes = only_read old new (t.line ++ 10 ∷ []) t.whole (ap (λ p. p.trace) t.moved) writer;
    }

pub told_served : (old new : Scene) (l : HostLine) (front : ArrayVec ℕ) → l ≡ host.Told front
    → TakesLine (reading_in old) (Ok l) (reading_in new) → new.writer ≡ old.writer
    → ServedOne old new
told_served old new l front is took writer =
    told_line old new front.items
    (subst (λ m. TakesLine (reading_in old) (Ok m) (reading_in new)) is took) writer

-- ---- questions

-- a reply is no empty text
some_reply : (xs ys : List ℕ) → is_some_text (xs ++ (ys ++ 10 ∷ [])) ≡ true
some_reply [] [] = refl
some_reply [] (y ∷ ys) = refl
some_reply (x ∷ xs) ys = refl

pub only_one : (p q : Question) → ◌≡◌ {A = Option Question} (Some q) (Some p) → p ≡ q
only_one p q found = cc

-- ---- rows

some_rest : (b : Bool) (p rest : Question)
    → ◌≡◌ {A = Option Question} (if b then Some p else None) (Some rest) → (b ≡ true) × (p ≡ rest)
some_rest true p rest e = (refl, sym (only_one rest p e))
some_rest false p rest e = absurd (cc)

-- what is left of a row is attempts
rest_kind : (q : Question) (a : Answer) (rest : Question) → rest_behind q a ≡ Some rest
    → kind_asked rest ≡ asked.Attempt
rest_kind (Ins speed endpoint most toggle packets) a rest e =
    ap kind_asked (sym (some_rest (brings_full most toggle a && nat_lt 1 packets) _ rest e).1)
rest_kind (Outs speed endpoint most toggle bytes) a rest e =
    ap kind_asked (sym (some_rest (is_taken a && nat_lt most (length bytes.items)) _ rest e).1)
rest_kind _ a rest e = absurd (cc)

-- it is less than the row
pub row_size : Question → ℕ
row_size (Ins speed endpoint most toggle packets) = packets
row_size (Outs speed endpoint most toggle bytes) = length bytes.items
row_size _ = 0

rest_less : (q : Question) (a : Answer) (rest : Question) → IsQuestion q
    → rest_behind q a ≡ Some rest → row_size rest < row_size q
unfolding row_size
rest_less (Ins speed endpoint most toggle packets) a rest h e =
    let is = some_rest (brings_full most toggle a && nat_lt 1 packets) _ rest e in
    let some : 1 ≤ packets = h.2.0 in
    subst (λ r. row_size r < packets) is.1 (omega (arith, some))
rest_less (Outs speed endpoint most toggle bytes) a rest h e =
    let is = some_rest (is_taken a && nat_lt most (length bytes.items)) _ rest e in
    let some : 1 ≤ length bytes.items = h.2.0 in
    let least : 1 ≤ most = h.1.0 in
    let size = length-drop most bytes.items in
    subst (λ r. row_size r < length bytes.items) is.1 (omega (arith, some, least, size))
rest_less _ a rest h e = absurd (cc)

may_attempt : (phase : Phase) (a : Asked) → phase ≡ Asks → a ≡ asked.Attempt
    → may_ask_as phase a ≡ true
may_attempt phase a p k = rw (p, k) refl

-- so it may stand there
rest_may : (q : Question) (mid new : Far) (lines : List ℕ) (rest : Question)
    (r : IsReplied q mid new lines) → rest_behind q r.answer ≡ Some rest
    → may_ask new.phase rest ≡ true
rest_may q mid new lines rest r e = may_attempt new.phase (kind_asked rest)
    (ap (λ (f : Far). f.phase) r.far) (rest_kind q r.answer rest e)

row_may : (asked : Question) (old : Played) (before : OutPipe) (mid : Played) (w : OutPipe)
    (q : Question) → RowFront asked old before mid w q → may_ask old.far.phase asked ≡ true
    → may_ask mid.far.phase q ≡ true
row_may asked old before mid w q RowFront.begun may = may
row_may asked old before mid w q (RowFront.further front r e traced gone) may =
    rest_may _ _ _ _ q r e

-- texts that went out one behind the other
pending_then : (a b c : Bool) (xs ys : List ℕ) → b ≡ (a && not (is_some_text xs))
    → c ≡ (b && not (is_some_text ys)) → c ≡ (a && not (is_some_text (xs ++ ys)))
pending_then a b c [] ys first next =
    next ∙ ap (λ x. x && not (is_some_text ys)) (first ∙ and-true a)
pending_then a b c (x ∷ xs) ys first next =
    next ∙ ap (λ y. y && not (is_some_text ys)) (first ∙ and-false a) ∙ sym (and-false a)

-- what has gone out of a row
record Gone (asked : Question) (old : Played) (before : OutPipe) (new : Played) (now : OutPipe)
    (left : Question) : Type 0 where
  said : List ℕ
  traced : List ℕ
  goes : GoesOn asked old.far said traced new.far left
  written : Appends before.bytes now.bytes said
  trace : Appends old.trace.bytes new.trace.bytes traced
  unmarked : now.failed ≡ before.failed
  flushed : now.pending ≡ (before.pending && not (is_some_text said))

-- a reply is no empty text, so that nothing is pending where it was flushed
reply_flushed : (q : Question) (mid new : Far) (lines : List ℕ) (w now : OutPipe)
    → IsReplied q mid new lines → Flushes w lines now
    → now.pending ≡ (w.pending && not (is_some_text lines))
reply_flushed q mid new lines w now r gone =
    let some : is_some_text lines ≡ true = ap is_some_text r.is
    ∙ some_reply _ (said_line (Answered r.answer)) in
    gone.flushed ∙ sym (ap (λ b. w.pending && not b) some ∙ and-false w.pending)

gone_so : (asked : Question) (old : Played) (before : OutPipe) (mid : Played) (w : OutPipe)
    (q : Question)
    → RowFront asked old before mid w q → Gone asked old before mid w q
gone_so asked old before mid w q RowFront.begun = record {
  said = [];
  traced = [];
  goes = GoesOn.begun;
  written = Appends-nil before.bytes;
  trace = Appends-nil old.trace.bytes;
  unmarked = refl;
  flushed = sym (and-true before.pending);
}
gone_so asked old before new now rest
    (RowFront.further {mid = mid} {w = w} {q = q} {lines = lines} front r e traced gone) =
    let so = gone_so asked old before mid w q front in
    record {
      said = so.said ++ lines;
      traced = so.traced ++ (done q mid.far).traced;
      goes = GoesOn.more so.goes r e;
      written = Appends-trans before.bytes w.bytes now.bytes so.said lines so.written gone.written;
      trace = Appends-trans old.trace.bytes mid.trace.bytes new.trace.bytes so.traced
          (done q mid.far).traced so.trace traced;
      unmarked = gone.unmarked ∙ so.unmarked;
      flushed = pending_then before.pending w.pending now.pending so.said lines so.flushed
          (reply_flushed q mid.far new.far lines w now r gone);
    }

-- a question that was answered, of a row each attempt
asked_line : (old new : Scene) (q : Question)
    → ReadsQuestion old.played.far.phase old.reader q new.reader
    → AllReplies q old.writer old.played new.played new.writer → ServedOne old new
asked_line old new q there all =
    let so = gone_so q old.played old.writer all.mid all.w all.last all.front in
    let tail : List ℕ = (done all.last all.mid.far).traced in
    record {
      passed = passed (there.line ++ 10 ∷ []) (so.said ++ all.lines) (so.traced ++ tail);
      replied = LineReplied.asked there.line q there.unbroken there.question there.asks
          (RowReplied.over so.goes all.replied all.over);
      passes = record {
        read = there.whole.read;
        written = Appends-trans old.writer.bytes all.w.bytes new.writer.bytes so.said all.lines
            so.written all.gone.written;
        traced = Appends-trans old.played.trace.bytes all.mid.trace.bytes new.played.trace.bytes
            so.traced tail so.trace all.traced;
        reads = there.whole.unmarked;
        writes = all.gone.unmarked ∙ so.unmarked;
        flushed = pending_then old.writer.pending all.w.pending new.writer.pending so.said
            all.lines so.flushed
            (reply_flushed all.last all.mid.far new.played.far all.lines all.w new.writer
            all.replied all.gone);
      };
    }

-- the line that asks it was taken
taken : (old : Scene) (mid : Played) (behind : Pipe) (l : HostLine) (q : Question)
    → l ≡ host.Asked q → TakesLine (reading_in old) (Ok l) (at_reader mid behind)
    → ReadsQuestion old.played.far.phase old.reader q behind × (mid ≡ old.played)
taken old mid behind l q is took =
    subst (λ m. TakesLine (reading_in old) (Ok m) (at_reader mid behind)) is took

pub asked_served : (old new : Scene) (mid : Played) (l : HostLine) (q : Question)
    → l ≡ host.Asked q → TakesLine (reading_in old) (Ok l) (at_reader mid new.reader)
    → AllReplies q old.writer mid new.played new.writer → ServedOne old new
asked_served old new mid l q is took all =
    let there = taken old mid new.reader l q is took in
    asked_line old new q there.0
    (subst (λ p. AllReplies q old.writer p new.played new.writer) there.1 all)

pub question_read : (phase : Phase) (old new : Pipe) (line : List ℕ) (q : Question)
    → IsUnbroken line → Consumes old.bytes new.bytes (line ++ 10 ∷ []) → new.failed ≡ old.failed
    → HasQuestion phase line q → ReadsQuestion phase old q new
question_read phase old new line q one read reads there = record {
  line = line;
  unbroken = one;
  whole = record { read = read; unmarked = reads };
  question = there.is;
  asks = there.asks;
  may = there.may;
}

-- ---- lines that are not answered

-- one that asks nothing
pub no_question_there : (old new : Reading) (line : List ℕ) (f : FarFault)
    → HasNoQuestion old.played.far.phase line f → IsUnbroken line → length line ≤ 1024
    → is_told old.played.far.phase line ≡ false
    → Consumes old.reader.bytes new.reader.bytes (line ++ 10 ∷ []) → ReadsOn old new
    → new.played ≡ old.played → Misread old new f
no_question_there old new line f none one short other read reads played =
    let only : OnlyReadsLine old line new = record {
      unbroken = one;
      short = short;
      other = other;
      whole = record { read = read; unmarked = reads };
      played = played;
    } in
    elim none [
      | inl bad ↦ subst (Misread old new) (sym bad.0) (Misread.unprintable line only bad.1)
      | inr none ↦ subst (Misread old new) (sym none.0)
          (Misread.no_question line only none.1 none.2)
    ]

-- an attempt of a row has no reply, or its reply was not written
row_ends : (old new : Scene) (asked left : Question) (mid : Played) (w : OutPipe) (f : FarFault)
    → ReadsQuestion old.played.far.phase old.reader asked new.reader
    → RowFront asked old.played old.writer mid w left
    → RowEnds left mid w f new.played new.writer → CauseOf old new f
row_ends old new asked left mid w f there front (inl (inl none, writer)) =
    absurd (false≢true (sym none.1
    ∙ row_may asked old.played old.writer mid w left front there.may))
row_ends old new asked left mid w f there front (inl (inr un, writer)) =
    CauseOf.unanswered f asked left there front un.1 writer
row_ends old new asked left mid w f there front (inr (is, torn)) =
    subst (CauseOf old new) (sym is) (CauseOf.unwritten asked left there front torn)

pub row_stopped : (old new : Scene) (mid : Played) (l : HostLine) (asked : Question)
    (f : FarFault) → l ≡ host.Asked asked
    → TakesLine (reading_in old) (Ok l) (at_reader mid new.reader)
    → RowStops asked old.writer mid f new.played new.writer → CauseOf old new f
row_stopped old new mid l asked f is took stops =
    let there = taken old mid new.reader l asked is took in
    let s : RowStops asked old.writer old.played f new.played new.writer =
    subst (λ p. RowStops asked old.writer p f new.played new.writer) there.1 stops in
    row_ends old new asked s.left s.mid s.w f there.0 s.front s.stops

-- a reply that was not written to its end, or not flushed
reply_torn : (q : Question) (mid new : Played) (w now : OutPipe) (r : Replied) → Replies q mid r new
    → FailsToFlush w r.lines.items now → IsUnwritten q mid w new now
reply_torn q mid new w now r replied torn = record {
  gone = torn.gone;
  rest = torn.rest;
  replied = subst (IsReplied q mid.far new.far) torn.split replied.replied;
  written = torn.written;
  traced = replied.traced;
  failed = torn.marked;
  pending = torn.pending;
}

-- ---- the replies to a question, one by one

pub row_less : (q : Question) (mid new : Played) (r : Replied) (more : Question) → IsQuestion q
    → Replies q mid r new → r.rest ≡ Some more → row_size more < row_size q
row_less q mid new r more h replies is =
    rest_less q replies.replied.answer more h (sym replies.left ∙ is)

pub row_further : (asked q more : Question) (old mid new : Played) (before w now : OutPipe)
    (r : Replied) → RowFront asked old before mid w q → Replies q mid r new → r.rest ≡ Some more
    → Flushes w r.lines.items now → RowFront asked old before new now more
row_further asked q more old mid new before w now r front replies is gone =
    RowFront.further front replies.replied (sym replies.left ∙ is) replies.traced gone

pub all_replied : (asked q : Question) (old mid new : Played) (before w now : OutPipe)
    (r : Replied) → RowFront asked old before mid w q → Replies q mid r new → r.rest ≡ None
    → Flushes w r.lines.items now → AllReplies asked before old new now
all_replied asked q old mid new before w now r front replies none gone = record {
  mid = mid;
  w = w;
  last = q;
  lines = r.lines.items;
  front = front;
  replied = replies.replied;
  over = sym replies.left ∙ none;
  traced = replies.traced;
  gone = gone;
}

pub row_unwritten : (asked q : Question) (old mid new : Played) (before w now : OutPipe)
    (r : Replied) → RowFront asked old before mid w q → Replies q mid r new
    → FailsToFlush w r.lines.items now → RowStops asked before old fault.Write new now
row_unwritten asked q old mid new before w now r front replies torn = record {
  mid = mid;
  w = w;
  left = q;
  front = front;
  stops = inr (refl, reply_torn q mid new w now r replies torn);
}

pub row_unreplied : (asked q : Question) (old mid new : Played) (before w : OutPipe)
    (f : FarFault) → RowFront asked old before mid w q → HasNoReply q mid f new
    → RowStops asked before old f new w
row_unreplied asked q old mid new before w f front none = record {
  mid = mid;
  w = w;
  left = q;
  front = front;
  stops = inl (none, refl);
}

-- the front of a line
only_bytes : (old new : Reading) (bytes : List ℕ) → IsUnbroken bytes
    → Consumes old.reader.bytes new.reader.bytes bytes
    → new.played ≡ old.played → OnlyReads old bytes new
only_bytes old new bytes one read played = record { unbroken = one; read = read; played = played }

-- in a line of at most 1,024 bytes the reader failed, or the input ended
pub not_read : (played : Played) (before behind : Pipe) (e : LineFault) (f : FarFault)
    → f ≡ reading_fault e
    → IsNextLine before.bytes behind.bytes (Err e) → (e ≡ Read → behind.failed ≡ true)
    → (e ≢ Read → behind.failed ≡ before.failed)
    → Misread (at_reader played before) (at_reader played behind) f
not_read played before behind Read f is front failed still =
    subst (Misread (at_reader played before) (at_reader played behind)) (sym is)
    (Misread.unread front.bytes (only_bytes _ _ front.bytes front.unbroken front.read refl)
    (λ _. front.few) (failed refl))
not_read played before behind Cut f is front failed still =
    subst (Misread (at_reader played before) (at_reader played behind)) (sym is)
    (Misread.cut_off front.bytes front.some
    (only_bytes _ _ front.bytes front.unbroken front.read refl) (λ _. front.few)
    (still (λ (same : Cut ≡ Read). cc)) (inl front.ended))

-- a long line that tells nothing
pub too_long : (played : Played) (before behind : Pipe) (front : List ℕ) (more : ℕ)
    → length front ≡ 1024 → IsUnbroken (front ++ more ∷ [])
    → Consumes before.bytes behind.bytes (front ++ more ∷ []) → behind.failed ≡ before.failed
    → is_told played.far.phase front ≡ false
    → Misread (at_reader played before) (at_reader played behind) fault.LineTooLong
too_long played before behind front more full one read still other =
    let first : take 1024 (front ++ more ∷ []) ≡ front =
    take-append-le 1024 front (more ∷ []) (omega arith) ∙ take_all 1024 front (omega arith) in
    Misread.too_long (front ++ more ∷ []) (only_bytes _ _ (front ++ more ∷ []) one read refl)
    (omega (arith, length-append front (more ∷ [])))
    (ap (is_told played.far.phase) first ∙ other) still

-- one that tells something, of which the rest was not read
long_front : (played : Played) (before mid behind : Pipe) (front rest : List ℕ) (more : ℕ)
    → length front ≡ 1024 → IsUnbroken (front ++ more ∷ [])
    → IsUnbroken rest → Consumes before.bytes mid.bytes (front ++ more ∷ [])
    → Consumes mid.bytes behind.bytes rest
    → OnlyReads (at_reader played before) ((front ++ more ∷ []) ++ rest) (at_reader played behind)
long_front played before mid behind front rest more full one last read ended = record {
  unbroken = All-append (λ c. c ≢ 10) (front ++ more ∷ []) rest one last;
  read = Consumes-trans before.bytes mid.bytes behind.bytes (front ++ more ∷ []) rest read ended;
  played = refl;
}

may_go_on_longer : (phase : Phase) (front rest : List ℕ) (more : ℕ) → length front ≡ 1024
    → is_told phase front ≡ true → MayGoOn phase ((front ++ more ∷ []) ++ rest)
may_go_on_longer phase front rest more full told other =
    absurd (false≢true (sym other ∙ ap (is_told phase) (first_of_long front rest more full) ∙ told))

pub not_skipped : (played : Played) (before mid behind : Pipe) (front : List ℕ) (more : ℕ)
    (e : LineFault) (f : FarFault) → f ≡ reading_fault e
    → length front ≡ 1024 → IsUnbroken (front ++ more ∷ [])
    → Consumes before.bytes mid.bytes (front ++ more ∷ []) → mid.failed ≡ before.failed
    → is_told played.far.phase front ≡ true → EndsLine mid.bytes behind.bytes (Err e)
    → (e ≡ Read → behind.failed ≡ true) → (e ≢ Read → behind.failed ≡ mid.failed)
    → Misread (at_reader played before) (at_reader played behind) f
not_skipped played before mid behind front more Read f is full one read on told rest failed still =
    subst (Misread (at_reader played before) (at_reader played behind)) (sym is)
    (Misread.unread ((front ++ more ∷ []) ++ rest.bytes)
    (long_front played before mid behind front rest.bytes more full one rest.unbroken
    read rest.read)
    (may_go_on_longer played.far.phase front rest.bytes more full told) (failed refl))
not_skipped played before mid behind front more Cut f is full one read on told rest failed still =
    subst (Misread (at_reader played before) (at_reader played behind)) (sym is)
    (Misread.cut_off ((front ++ more ∷ []) ++ rest.bytes)
    (λ none. not_nil (front ++ more ∷ []) rest.bytes
    (omega (arith, length-append front (more ∷ []))) none)
    (long_front played before mid behind front rest.bytes more full one rest.unbroken read
    rest.read)
    (may_go_on_longer played.far.phase front rest.bytes more full told)
    (still (λ (same : Cut ≡ Read). cc) ∙ on)
    (elim rest.ended [
      | inl ended ↦ inl ended
      | inr many ↦ inr (omega (
        arith,
        many,
        length-append (front ++ more ∷ []) rest.bytes,
        length-append front (more ∷ []),
      ))
    ]))

-- ---- line after line

pub served_none : (s : Scene) → ServedSome s 0 s
served_none s = record {
  turns = InTurn.none;
  passed = passed [] [] [];
  replies = AllReplied.none;
  passes = record {
    read = Consumes-nil s.reader.bytes;
    written = Appends-nil s.writer.bytes;
    traced = Appends-nil s.played.trace.bytes;
    reads = refl;
    writes = refl;
    flushed = sym (and-true s.writer.pending);
  };
}

passes_then : (a b c : Scene) (p q : Passed) → Passes a p b → Passes b q c
    → Passes a (and_then p q) c
passes_then a b c p q first second = record {
  read = Consumes-trans a.reader.bytes b.reader.bytes c.reader.bytes p.asked q.asked first.read
      second.read;
  written = Appends-trans a.writer.bytes b.writer.bytes c.writer.bytes p.said q.said first.written
      second.written;
  traced = Appends-trans a.played.trace.bytes b.played.trace.bytes c.played.trace.bytes p.traced
      q.traced first.traced second.traced;
  reads = second.reads ∙ first.reads;
  writes = second.writes ∙ first.writes;
  flushed = pending_then _ _ _ p.said q.said first.flushed second.flushed;
}

pub served_more : (a b c : Scene) (count more : ℕ) → more ≡ count + 1 → ServedSome a count b
    → ServedOne b c → ServedSome a more c
served_more a b c count more is so one = record {
  turns = subst (λ n. InTurn a n c) (sym is) (InTurn.next so.turns one);
  passed = and_then so.passed one.passed;
  replies = subst (λ n. AllReplied a.played.far n (and_then so.passed one.passed) c.played.far)
      (sym is) (AllReplied.next so.replies one.replied);
  passes = passes_then a b c so.passed one.passed so.passes one.passes;
}

pub served_one : (a b : Scene) (more : Bool) → more ≡ true → ServesNext a (Ok more) b
    → ServedOne a b
served_one a b more is h = let P : Bool → Type 0 = λ v. ServesNext a (Ok v) b in subst P is h
