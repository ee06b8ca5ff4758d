-- How lines are heard, one after the other, and what a question leaves.
use Rattle.std.proofs.Common.{add-one, ◌≡◌, ◌≢◌, ◌∙◌, inl, inr, ℕ, ◌+◌, ◌-◌, ◌≤◌, List, [], ◌∷◌}
use Rattle.std.proofs.Common.{◌++◌, Some, None, Result, Ok, Err, IfOk, IfErr, refl, sym, ap, subst}
use Rattle.std.proofs.Common.{arith, length-append, slice_set}
use Rattle.std.proofs.KnownBytes.{Consumes-nil, Consumes-trans}
use Rattle.usb_watch.specs.{FailsToFlush, Flushes, OutPipe, Pipe, ReadLine, ReadLong, Reads}
use Rattle.usb_wire.specs.{Answer, Changed, Answered, Asked, Hubs, kind_asked, line_fault, Question}
use Rattle.usb_wire.specs.{LineTooLong, WireFault}
use Rattle.usb_stream.specs.{AnswerLinesRead, AskedWell, AsksNoMore, BadLine, CauseOfHearing}
use Rattle.usb_stream.specs.{CauseOfLine, FailsOnce, HeardTooMany, HeardUpTo, IsUnheard, Kept}
use Rattle.usb_stream.specs.{LimitReached, LiveFault}
use Rattle.usb_stream.specs.{PushesRead, SaidLine, Says, StatusesRead, Write, asking, attempts_in}
use Rattle.usb_stream.specs.{HeardMore, HearsNoMore, counted_on, hubs_of, more_answers}
use Rattle.usb_stream.specs.{streams}
use Rattle.usb_stream.specs.declared.fault.LiveFault.TheVariants as fault
use Rattle.usb_wire.specs.declared.question.Asked.TheVariants as asked

-- a status is a line: the end is none
said_changed : (a : Asked) (hubs : Hubs) (unread left : Pipe) (number : ℕ) (status : List ℕ)
    → Says a hubs unread left (Changed number status)
    → SaidLine a hubs unread left (Changed number status)
said_changed a hubs unread left number status (inl line) = line
said_changed a hubs unread left number status (inr end) = let is = end.is in cc

-- ---- what is read

reads_then : (r0 r1 r2 : Pipe) (xs ys : List ℕ) → Reads r0 xs r1 → Reads r1 ys r2
    → Reads r0 (xs ++ ys) r2
reads_then r0 r1 r2 xs ys first then = record {
  read = Consumes-trans r0.bytes r1.bytes r2.bytes xs ys first.read then.read;
  unmarked = then.unmarked ∙ first.unmarked;
}

counted_on-more : (lines more : ℕ) → counted_on (counted_on lines more) 1
    ≡ counted_on lines (more + 1)
counted_on-more lines more = sym (ap (counted_on lines) (add-one more))

-- the lines so far tell these statuses, and are counted
pub record ToldSo (a : Asked) (pushed : ℕ) (unread left : Pipe) (old new : Kept) : Type 0 where
  pub told : PushesRead a pushed unread left old new
  pub lines : new.lines ≡ counted_on old.lines pushed

pub told_so_none : (a : Asked) (r : Pipe) (k : Kept) → ToldSo a 0 r r k k
told_so_none a r k = record {
  told = record {
    text = [];
    told = StatusesRead.none;
    read = record { read = Consumes-nil r.bytes; unmarked = refl };
  };
  lines = refl;
}

told_more : (a : Asked) (pushed : ℕ) (fn l : Kept) (r0 r1 r2 : Pipe) (number : ℕ)
    (status : List ℕ) → ToldSo a pushed r0 r1 fn l
    → Says a (hubs_of fn) r1 r2 (Changed number status)
    → ToldSo a (pushed + 1) r0 r2 fn (record l {
      statuses = slice_set l.statuses (number - 1) status;
      lines = counted_on l.lines 1;
    })
told_more a pushed fn l r0 r1 r2 number status so says =
    let line = said_changed a (hubs_of fn) r1 r2 number status says in
    record {
      told = record {
        text = so.told.text ++ (line.line ++ 10 ∷ []);
        told = StatusesRead.next line.line number status so.told.told line.unbroken line.may.0
            line.says;
        read = reads_then r0 r1 r2 so.told.text (line.line ++ 10 ∷ []) so.told.read line.read;
      };
      lines = ap (λ n. counted_on n 1) so.lines ∙ counted_on-more fn.lines pushed;
    }

pub hear_more : (a : Asked) (pushed : ℕ) (fn l n : Kept) (r0 r1 r2 : Pipe) (number : ℕ)
    (status : List ℕ) (st : List (List ℕ))
    → ToldSo a pushed r0 r1 fn l → l ≡ record fn { statuses = l.statuses; lines = l.lines }
    → n ≡ record l { lines = counted_on l.lines 1 }
    → Says a (hubs_of l) r1 r2 (Changed number status)
    → st ≡ slice_set n.statuses (number - 1) status
    → ToldSo a (pushed + 1) r0 r2 fn (record n { statuses = st })
hear_more a pushed fn l n r0 r1 r2 number status st so same kept says is =
    let asked_of : Says a (hubs_of fn) r1 r2 (Changed number status) =
    subst (λ k. Says a k r1 r2 (Changed number status)) (ap hubs_of same) says in
    let set : st ≡ slice_set l.statuses (number - 1) status =
    is ∙ ap (λ (k : Kept). slice_set k.statuses (number - 1) status) kept in
    let new : record n { statuses = st }
    ≡ record l {
      statuses = slice_set l.statuses (number - 1) status;
      lines = counted_on l.lines 1;
    } =
    ap (λ (k : Kept). record k { statuses = st }) kept
    ∙ ap (λ s. record l { statuses = s; lines = counted_on l.lines 1 }) set in
    subst (ToldSo a (pushed + 1) r0 r2 fn) (sym new)
    (told_more a pushed fn l r0 r1 r2 number status so asked_of)

pub hear_same : (fn l n : Kept) (st : List (List ℕ))
    → l ≡ record fn { statuses = l.statuses; lines = l.lines }
    → n ≡ record l { lines = counted_on l.lines 1 }
    → record n { statuses = st } ≡ record fn { statuses = st; lines = n.lines }
hear_same fn l n st same kept =
    ap (λ (k : Kept). record k { statuses = st; lines = n.lines }) (kept
    ∙ ap (λ (k : Kept). record k { lines = counted_on l.lines 1 }) same)

-- ---- what is wrong with a line

pub bad_line : (a : Asked) (hubs : Hubs) (before behind : Pipe) (f : WireFault) (line : List ℕ)
    → ReadLine before.bytes behind.bytes line → behind.failed ≡ before.failed
    → line_fault a hubs line ≡ Some f → BadLine a hubs before behind f
bad_line a hubs before behind f line one same bad =
    BadLine.whole line one.unbroken bad (record { read = one.read; unmarked = same })

pub long_line : (a : Asked) (hubs : Hubs) (before behind : Pipe) (line : List ℕ)
    → ReadLong before.bytes behind.bytes line → behind.failed ≡ before.failed
    → BadLine a hubs before behind LineTooLong
long_line a hubs before behind line long same =
    let full = long.full in
    BadLine.long (line ++ long.more ∷ []) long.unbroken
    (omega (arith, full, length-append line (long.more ∷ [])))
    (record { read = long.read; unmarked = same })

-- ---- how hearing ends

-- one line more was read
told_then : (a : Asked) (pushed : ℕ) (fn l n : Kept) (r0 r1 : Pipe) → ToldSo a pushed r0 r1 fn l
    → n ≡ record l { lines = counted_on l.lines 1 }
    → PushesRead a pushed r0 r1 fn n × (n.lines ≡ counted_on fn.lines (pushed + 1))
told_then a pushed fn l n r0 r1 so kept = (
  record {
    text = so.told.text;
    told = subst (StatusesRead a fn.roots fn.statuses pushed so.told.text)
        (sym (ap (λ (k : Kept). k.statuses) kept)) so.told.told;
    read = so.told.read;
  },
  ap (λ (k : Kept). k.lines) kept ∙ ap (λ m. counted_on m 1) so.lines
      ∙ counted_on-more fn.lines pushed,
)

pub heard_so : (a : Asked) (pushed : ℕ) (fn l n : Kept) (r0 r1 r2 : Pipe) (got : Answer)
    → pushed ≤ 64 → ToldSo a pushed r0 r1 fn l
    → l ≡ record fn { statuses = l.statuses; lines = l.lines }
    → n ≡ record l { lines = counted_on l.lines 1 }
    → Says a (hubs_of l) r1 r2 (Answered got) → AnswerLinesRead a r0 r2 fn got n
heard_so a pushed fn l n r0 r1 r2 got few so same kept says =
    let (told, lines) = told_then a pushed fn l n r0 r1 so kept in
    record {
      pushed = pushed;
      few = few;
      mid = r1;
      told = told;
      answered = subst (λ k. Says a k r1 r2 (Answered got)) (ap hubs_of same) says;
      lines = lines;
    }

heard_up_to : (a : Asked) (pushed : ℕ) (fn l n : Kept) (r0 r1 r2 : Pipe) (f : LiveFault)
    → pushed ≤ 64 → ToldSo a pushed r0 r1 fn l
    → l ≡ record fn { statuses = l.statuses; lines = l.lines }
    → n ≡ record l { lines = counted_on l.lines 1 }
    → CauseOfLine a (hubs_of l) r1 r2 f → HeardUpTo a r0 r2 fn n f
heard_up_to a pushed fn l n r0 r1 r2 f few so same kept cause =
    let (told, lines) = told_then a pushed fn l n r0 r1 so kept in
    record {
      pushed = pushed;
      few = few;
      mid = r1;
      told = told;
      cause = subst (λ k. CauseOfLine a k r1 r2 f) (ap hubs_of same) cause;
      lines = lines;
    }

pub not_heard_so : (a : Asked) (pushed : ℕ) (fn l n : Kept) (r0 r1 r2 : Pipe) (f : LiveFault)
    → pushed ≤ 64 → ToldSo a pushed r0 r1 fn l
    → l ≡ record fn { statuses = l.statuses; lines = l.lines }
    → n ≡ record l { lines = counted_on l.lines 1 }
    → CauseOfLine a (hubs_of l) r1 r2 f → CauseOfHearing a r0 r2 fn n f
not_heard_so a pushed fn l n r0 r1 r2 fault.Read few so same kept cause =
    heard_up_to a pushed fn l n r0 r1 r2 fault.Read few so same kept cause
not_heard_so a pushed fn l n r0 r1 r2 (fault.Line f) few so same kept cause =
    heard_up_to a pushed fn l n r0 r1 r2 (fault.Line f) few so same kept cause
not_heard_so a pushed fn l n r0 r1 r2 fault.Gone few so same kept cause =
    heard_up_to a pushed fn l n r0 r1 r2 fault.Gone few so same kept cause
not_heard_so a pushed fn l n r0 r1 r2 fault.TooManyPushes few so same kept cause = absurd cause
not_heard_so a pushed fn l n r0 r1 r2 Write few so same kept cause = absurd cause
not_heard_so a pushed fn l n r0 r1 r2 LimitReached few so same kept cause = absurd cause

pub too_many : (a : Asked) (pushed : ℕ) (fn l : Kept) (r0 r1 : Pipe) → pushed ≡ 65
    → ToldSo a pushed r0 r1 fn l → HeardTooMany a r0 r1 fn l
too_many a pushed fn l r0 r1 all so =
    let told = subst (λ n. ToldSo a n r0 r1 fn l) all so in
    record { told = told.told; lines = told.lines }

-- ---- what a question counts

-- so many questions are left, so many answers still to come, and so many attempts counted
abbrev pub counted_as : ℕ → ℕ → ℕ → Kept → Kept
counted_as left ahead attempts k =
    record k { left = left; ahead = ahead; attempts = attempts }

-- one question went out
abbrev pub asked_one : Question → Kept → Kept
asked_one q k =
    counted_as (k.left - 1) (more_answers q) (k.attempts + attempts_in (kind_asked q) 1) k

-- one answer more is awaited
abbrev pub heard_one : Kept → Kept
heard_one k = counted_as k.left (k.ahead - 1) (k.attempts + 1) k

-- what is heard says nothing of the questions that are left, of attempts, and of a fault
up_to_kept : (a : Asked) (left ahead attempts : ℕ) (r0 r1 : Pipe) (k n : Kept) (f : LiveFault)
    → HeardUpTo a r0 r1 (counted_as left ahead attempts k) n f
    → HeardUpTo a r0 r1 k (record n { fault = Some f }) f
up_to_kept a left ahead attempts r0 r1 k n f h = record {
  pushed = h.pushed;
  few = h.few;
  mid = h.mid;
  told = record { text = h.told.text; told = h.told.told; read = h.told.read };
  cause = h.cause;
  lines = h.lines;
}

hearing_kept : (a : Asked) (left ahead attempts : ℕ) (r0 r1 : Pipe) (k n : Kept) (f : LiveFault)
    → CauseOfHearing a r0 r1 (counted_as left ahead attempts k) n f
    → CauseOfHearing a r0 r1 k (record n { fault = Some f }) f
hearing_kept a left ahead attempts r0 r1 k n fault.Read h =
    up_to_kept a left ahead attempts r0 r1 k n fault.Read h
hearing_kept a left ahead attempts r0 r1 k n (fault.Line f) h =
    up_to_kept a left ahead attempts r0 r1 k n (fault.Line f) h
hearing_kept a left ahead attempts r0 r1 k n fault.Gone h =
    up_to_kept a left ahead attempts r0 r1 k n fault.Gone h
hearing_kept a left ahead attempts r0 r1 k n fault.TooManyPushes h = record {
  told = record { text = h.told.text; told = h.told.told; read = h.told.read };
  lines = h.lines;
}
hearing_kept a left ahead attempts r0 r1 k n Write h = absurd h
hearing_kept a left ahead attempts r0 r1 k n LimitReached h = absurd h

-- the same of an answer
heard_kept : (a : Asked) (left ahead attempts : ℕ) (r0 r1 : Pipe) (k n : Kept) (got : Answer)
    → AnswerLinesRead a r0 r1 (counted_as left ahead attempts k) got n
    → AnswerLinesRead a r0 r1 k got n
heard_kept a left ahead attempts r0 r1 k n got h = record {
  pushed = h.pushed;
  few = h.few;
  mid = h.mid;
  told = record { text = h.told.text; told = h.told.told; read = h.told.read };
  answered = h.answered;
  lines = h.lines;
}

-- ---- one more answer of a row

pub heard_more : (r0 r1 : Pipe) (w : OutPipe) (k n : Kept) (got : Answer) → 1 ≤ k.ahead
    → k.fault ≡ None → AnswerLinesRead asked.Attempt r0 r1 (heard_one k) got n
    → n ≡ record (heard_one k) { statuses = n.statuses; lines = n.lines }
    → HeardMore (streams r0 r1 w w) k got n
heard_more r0 r1 w k n got some sound h same =
    let fewer : n.ahead ≡ k.ahead - 1 = ap (λ (x : Kept). x.ahead) same in
    record {
      unwritten = refl;
      heard = heard_kept asked.Attempt k.left (k.ahead - 1) (k.attempts + 1) r0 r1 k n got h;
      due = omega (arith, some, fewer);
      left = ap (λ (x : Kept). x.left) same;
      attempts = ap (λ (x : Kept). x.attempts) same;
      roots = ap (λ (x : Kept). x.roots) same;
      wide = ap (λ (x : Kept). x.wide) same;
      rows = ap (λ (x : Kept). x.rows) same;
      sound = ap (λ (x : Kept). x.fault) same ∙ sound;
    }

pub hears_no_more : (r0 r1 : Pipe) (w : OutPipe) (k n : Kept) (f : LiveFault) → 1 ≤ k.ahead
    → CauseOfHearing asked.Attempt r0 r1 (heard_one k) n f
    → n ≡ record (heard_one k) { statuses = n.statuses; lines = n.lines }
    → HearsNoMore (streams r0 r1 w w) k f (record n { fault = Some f })
hears_no_more r0 r1 w k n f some h same =
    let fewer : n.ahead ≡ k.ahead - 1 = ap (λ (x : Kept). x.ahead) same in
    record {
      kept = refl;
      unwritten = refl;
      cause = hearing_kept asked.Attempt k.left (k.ahead - 1) (k.attempts + 1) r0 r1 k n f h;
      due = omega (arith, some, fewer);
      left = ap (λ (x : Kept). x.left) same;
      attempts = ap (λ (x : Kept). x.attempts) same;
      roots = ap (λ (x : Kept). x.roots) same;
      wide = ap (λ (x : Kept). x.wide) same;
      rows = ap (λ (x : Kept). x.rows) same;
    }

-- ---- a question

none_more : (a : Asked) (n : ℕ) → n ≡ n + attempts_in a 0
none_more asked.Attempt n = omega arith
none_more asked.Hello n = omega arith
none_more asked.Port n = omega arith
none_more asked.Wait n = omega arith

pub asks_no_more_at_limit : (q : Question) (r : Pipe) (w : OutPipe) (k : Kept) → k.left ≡ 0
    → AsksNoMore q (streams r r w w) k LimitReached (record k { fault = Some LimitReached })
asks_no_more_at_limit q r w k none = record {
  kept = refl;
  cause = record { none = none; unread = refl; unwritten = refl; statuses = refl; lines = refl };
  spent = omega arith;
  attempts = none_more (kind_asked q) k.attempts;
  roots = refl;
  wide = refl;
  rows = refl;
}

pub not_written : (q : Question) (r : Pipe) (w0 w1 : OutPipe) (k : Kept)
    → FailsToFlush w0 (asking q) w1 → k.left ≢ 0
    → AsksNoMore q (streams r r w0 w1) k Write (record (asked_one q k) { fault = Some Write })
not_written q r w0 w1 k torn some = record {
  kept = refl;
  cause = record { torn = torn; unread = refl; statuses = refl; lines = refl };
  spent = omega (arith, some);
  attempts = refl;
  roots = refl;
  wide = refl;
  rows = refl;
}

asked_well : (q : Question) (r0 r1 : Pipe) (w0 w1 : OutPipe) (k n : Kept) (got : Answer)
    → Flushes w0 (asking q) w1 → k.left ≢ 0 → k.fault ≡ None
    → AnswerLinesRead (kind_asked q) r0 r1 (asked_one q k) got n
    → n ≡ record (asked_one q k) { statuses = n.statuses; lines = n.lines }
    → AskedWell q (streams r0 r1 w0 w1) k got n
asked_well q r0 r1 w0 w1 k n got gone some sound h same =
    let fewer : n.left ≡ k.left - 1 = ap (λ (x : Kept). x.left) same in
    record {
      written = gone;
      heard = heard_kept (kind_asked q) (k.left - 1) (more_answers q)
          (k.attempts + attempts_in (kind_asked q) 1) r0 r1 k n got h;
      one = omega (arith, some, fewer);
      attempts = ap (λ (x : Kept). x.attempts) same;
      roots = ap (λ (x : Kept). x.roots) same;
      wide = ap (λ (x : Kept). x.wide) same;
      rows = ap (λ (x : Kept). x.rows) same;
      ahead = ap (λ (x : Kept). x.ahead) same;
      sound = ap (λ (x : Kept). x.fault) same ∙ sound;
    }

unheard : (q : Question) (r0 r1 : Pipe) (w0 w1 : OutPipe) (k n : Kept) (f : LiveFault)
    → Flushes w0 (asking q) w1
    → CauseOfHearing (kind_asked q) r0 r1 (asked_one q k) n f
    → IsUnheard q (streams r0 r1 w0 w1) k f (record n { fault = Some f })
unheard q r0 r1 w0 w1 k n f gone h =
    record {
      written = gone;
      heard = hearing_kept (kind_asked q) (k.left - 1) (more_answers q)
          (k.attempts + attempts_in (kind_asked q) 1) r0 r1 k n f h;
    }

one_less : (k n : Kept) → k.left ≢ 0 → n.left ≡ k.left - 1 → n.left + 1 ≡ k.left
one_less k n some fewer = omega (arith, some, fewer)

not_heard : (q : Question) (r0 r1 : Pipe) (w0 w1 : OutPipe) (k n : Kept) (f : LiveFault)
    → Flushes w0 (asking q) w1 → k.left ≢ 0
    → CauseOfHearing (kind_asked q) r0 r1 (asked_one q k) n f
    → n ≡ record (asked_one q k) { statuses = n.statuses; lines = n.lines }
    → AsksNoMore q (streams r0 r1 w0 w1) k f (record n { fault = Some f })
not_heard q r0 r1 w0 w1 k n fault.Read gone some h same = record {
  kept = refl;
  cause = unheard q r0 r1 w0 w1 k n fault.Read gone h;
  spent = one_less k n some (ap (λ (x : Kept). x.left) same);
  attempts = ap (λ (x : Kept). x.attempts) same;
  roots = ap (λ (x : Kept). x.roots) same;
  wide = ap (λ (x : Kept). x.wide) same;
  rows = ap (λ (x : Kept). x.rows) same;
}
not_heard q r0 r1 w0 w1 k n (fault.Line f) gone some h same = record {
  kept = refl;
  cause = unheard q r0 r1 w0 w1 k n (fault.Line f) gone h;
  spent = one_less k n some (ap (λ (x : Kept). x.left) same);
  attempts = ap (λ (x : Kept). x.attempts) same;
  roots = ap (λ (x : Kept). x.roots) same;
  wide = ap (λ (x : Kept). x.wide) same;
  rows = ap (λ (x : Kept). x.rows) same;
}
not_heard q r0 r1 w0 w1 k n fault.TooManyPushes gone some h same = record {
  kept = refl;
  cause = unheard q r0 r1 w0 w1 k n fault.TooManyPushes gone h;
  spent = one_less k n some (ap (λ (x : Kept). x.left) same);
  attempts = ap (λ (x : Kept). x.attempts) same;
  roots = ap (λ (x : Kept). x.roots) same;
  wide = ap (λ (x : Kept). x.wide) same;
  rows = ap (λ (x : Kept). x.rows) same;
}
not_heard q r0 r1 w0 w1 k n fault.Gone gone some h same = record {
  kept = refl;
  cause = unheard q r0 r1 w0 w1 k n fault.Gone gone h;
  spent = one_less k n some (ap (λ (x : Kept). x.left) same);
  attempts = ap (λ (x : Kept). x.attempts) same;
  roots = ap (λ (x : Kept). x.roots) same;
  wide = ap (λ (x : Kept). x.wide) same;
  rows = ap (λ (x : Kept). x.rows) same;
}
not_heard q r0 r1 w0 w1 k n Write gone some h same = absurd h
not_heard q r0 r1 w0 w1 k n LimitReached gone some h same = absurd h

pub asks_by : (q : Question) (r0 r1 : Pipe) (w0 w1 : OutPipe) (k n : Kept)
    (result : Result Answer LiveFault) → Flushes w0 (asking q) w1 → k.left ≢ 0 → k.fault ≡ None
    → IfOk result (λ got. AnswerLinesRead (kind_asked q) r0 r1 (asked_one q k) got n)
    → IfErr result (CauseOfHearing (kind_asked q) r0 r1 (asked_one q k) n)
    → n ≡ record (asked_one q k) { statuses = n.statuses; lines = n.lines }
    → FailsOnce q (streams r0 r1 w0 w1) k result n
asks_by q r0 r1 w0 w1 k n (Ok got) gone some sound ok err same =
    asked_well q r0 r1 w0 w1 k n got gone some sound ok same
asks_by q r0 r1 w0 w1 k n (Err f) gone some sound ok err same =
    not_heard q r0 r1 w0 w1 k n f gone some err same
