-- A host that is judged is told what usb_far replies, where no place is sought.
use Rattle.std.proofs.Common.{◌≡◌, ◌∙◌, ap, sym, subst, ℕ, ◌+◌, ◌++◌, List, [], ◌∷◌}
use Rattle.std.proofs.Common.{take, Option, None, option_map}
use Rattle.std.proofs.KnownBytes.{Appends-nil, Appends-trans, Consumes-nil, Consumes-trans}
use Rattle.std.specs.Io.KnownBytes.{Appends, Consumes}
use Rattle.usb_watch.specs.{OutPipe}
use Rattle.usb_wire.specs.{Question}
use Rattle.usb_far.specs.{AllReplied, Far, GoesOn, IsReplied, LineReplied, Passed, Played}
use Rattle.usb_far.specs.{Replied, RowReplied, Scene, and_then, done, is_told, passed, phase_behind}
use Rattle.usb_far.specs.{rest_behind}
use Rattle.usb_places.specs.{PlacesData}
use Rattle.usb_bench.specs.declared.judge.Judge.{Judge}
use Rattle.usb_bench.specs.{AllJudged, AskedOne, OneJudged, PlacedIn, PlacedJudged, RowJudged}
use Rattle.usb_bench.specs.{Serves, ToldOne, told_from}
use Rattle.usb_bench_laws.specs.{RepliesAsFar}
use Rattle.usb_bench_laws.proofs.Keeping.{foreseen_keeps, judged_keeps, told_far, told_places}

-- One question

-- usb_far's reply, and what is left of a row
record OneReplied (q : Question) (old new : Far) (lines : List ℕ) (rest : Option Question) : Type 0
  where
    replied : IsReplied q old new lines
    left : rest_behind q replied.answer ≡ rest

-- it went out, and no place is sought behind it
record OneGone (q : Question) (old new : Far) (before now : OutPipe) (rest : Option Question)
    (j : Judge) : Type 0 where
  lines : List ℕ
  one : OneReplied q old new lines rest
  written : Appends before.bytes now.bytes lines
  sought : j.places ≡ None

behind : (last : ℕ) (q : Question) (j : Judge) (old : Played) (before : OutPipe)
    (reply : Replied) (new_judge : Judge) (new : Played) (now : OutPipe) → j.places ≡ None
    → PlacedJudged last q j old before reply new_judge new now
    → OneGone q old.far new.far before now reply.rest new_judge
behind last q j old before reply new_judge new now sought it =
    let seen = foreseen_keeps last q j old it.coming it.seen_judge it.seen it.foreseen in
    let over = judged_keeps it.coming reply.came it.seen_judge it.replied it.told_judge new
    it.judged in
    let lines : List ℕ = reply.lines.items in
    let made : OneReplied q it.seen.far it.replied.far lines reply.rest =
    record { replied = it.replies.replied; left = sym it.replies.left } in
    let then = told_from new.far.world 1 it.seen.far.told new.far.told in
    record {
      lines = lines;
      one = subst (λ (f : Far). OneReplied q f new.far lines reply.rest) seen.far
          (subst (λ (f : Far). OneReplied q it.seen.far f lines reply.rest) (sym over.far) made);
      written = it.gone.written;
      sought = ap (λ (x : Judge). x.places) it.told
          ∙ ap (option_map then) (over.places ∙ seen.places ∙ sought);
    }

one_question : (last : ℕ) (q : Question) (j : Judge) (old : Played) (before : OutPipe)
    (reply : Replied) (new_judge : Judge) (new : Played) (now : OutPipe) → j.places ≡ None
    → OneJudged last q j old before reply new_judge new now
    → OneGone q old.far new.far before now reply.rest new_judge
one_question last q j old before reply new_judge new now sought it =
    let place : (it.placed_judge ≡ j) × (it.placed ≡ old) =
    subst (λ (o : Option PlacesData). PlacedIn o q j old it.placed_judge it.placed) sought
    it.place in
    subst (λ (p : Played). OneGone q p.far new.far before now reply.rest new_judge) place.1
    (behind last q it.placed_judge it.placed before reply new_judge new now
    (ap (λ (x : Judge). x.places) place.0 ∙ sought) it.behind)

-- The attempts of a row

-- what has gone out of a row
record Gone (asked : Question) (old : Far) (before : OutPipe) (j : Judge) (new : Far)
    (now : OutPipe) (left : Question) : Type 0 where
  said : List ℕ
  traced : List ℕ
  goes : GoesOn asked old said traced new left
  written : Appends before.bytes now.bytes said
  sought : j.places ≡ None

row : {last : ℕ} {asked : Question} {j : Judge} {old : Played} {before : OutPipe}
    {new_judge : Judge} {new : Played} {now : OutPipe} {left : Question} → j.places ≡ None
    → RowJudged last asked j old before new_judge new now left
    → Gone asked old.far before new_judge new.far now left
row {before = before} sought RowJudged.begun = record {
  said = [];
  traced = [];
  goes = GoesOn.begun;
  written = Appends-nil before.bytes;
  sought = sought;
}
row {before = before} {now = now} sought
    (RowJudged.further {mid = mid} {w = w} {q = q} {rest = rest} front it more) =
    let so = row sought front in
    let next = one_question _ q _ mid w _ _ _ now so.sought it in
    record {
      said = so.said ++ next.lines;
      traced = so.traced ++ (done q mid.far).traced;
      goes = GoesOn.more so.goes next.one.replied (next.one.left ∙ more);
      written = Appends-trans before.bytes w.bytes now.bytes so.said next.lines so.written
          next.written;
      sought = next.sought;
    }

-- all of them
record AllGone (asked : Question) (old : Far) (before : OutPipe) (j : Judge) (new : Far)
    (now : OutPipe) : Type 0 where
  said : List ℕ
  traced : List ℕ
  replied : RowReplied asked old said traced new
  written : Appends before.bytes now.bytes said
  sought : j.places ≡ None

all_asked : (last : ℕ) (asked : Question) (j : Judge) (old : Played) (before : OutPipe)
    (new_judge : Judge) (new : Played) (now : OutPipe) → j.places ≡ None
    → AllJudged last asked j old before new_judge new now
    → AllGone asked old.far before new_judge new.far now
all_asked last asked j old before new_judge new now sought all =
    let so = row sought all.front in
    let next = one_question last all.left all.mid_judge all.mid all.w all.reply new_judge new now
    so.sought all.one in
    record {
      said = so.said ++ next.lines;
      traced = so.traced ++ (done all.left all.mid.far).traced;
      replied = RowReplied.over so.goes next.one.replied (next.one.left ∙ all.over);
      written = Appends-trans before.bytes all.w.bytes now.bytes so.said next.lines so.written
          next.written;
      sought = next.sought;
    }

-- Line after line

-- one line was read, and its reply has gone out; no place is sought behind it
record LineGone (old : Scene) (j : Judge) (new : Scene) : Type 0 where
  went : Passed
  replied : LineReplied old.played.far went new.played.far
  read : Consumes old.reader.bytes new.reader.bytes went.asked
  written : Appends old.writer.bytes new.writer.bytes went.said
  sought : j.places ≡ None

told_line : (j : Judge) (old : Scene) (new_judge : Judge) (new : Scene) → j.places ≡ None
    → ToldOne j old new_judge new → LineGone old new_judge new
told_line j old new_judge new sought told =
    let f : Far = old.played.far in
    let line : List ℕ = told.reads.line in
    let far : new.played.far ≡ record f { phase = phase_behind f.phase (take 1024 line) } =
    told_far j old new_judge new told
    ∙ ap (λ (p : Played). p.far) told.reads.moved
    ∙ ap (λ (l : List ℕ). record f { phase = phase_behind f.phase l }) told.reads.begins in
    record {
      went = passed (line ++ 10 ∷ []) [] [];
      replied = subst (LineReplied f (passed (line ++ 10 ∷ []) [] [])) (sym far)
          (LineReplied.told line told.reads.unbroken
          (sym (ap (is_told f.phase) told.reads.begins) ∙ told.reads.told));
      read = rw told.reader told.reads.whole.read;
      written = rw told.writer (Appends-nil old.writer.bytes);
      sought = told_places j old new_judge new told ∙ sought;
    }

asked_line : (rounds : Option ℕ) (last next : ℕ) (j : Judge) (old : Scene) (new_judge : Judge)
    (new : Scene) → j.places ≡ None → AskedOne rounds last next j old new_judge new
    → LineGone old new_judge new
asked_line rounds last next j old new_judge new sought it =
    let all = all_asked next it.question j old.played old.writer new_judge new.played new.writer
    sought it.answered in
    let line : List ℕ = it.reads.line in
    record {
      went = passed (line ++ 10 ∷ []) all.said all.traced;
      replied = LineReplied.asked line it.question it.reads.unbroken it.reads.question
          it.reads.asks all.replied;
      read = it.reads.whole.read;
      written = all.written;
      sought = all.sought;
    }

-- the lines so far
record SoFar (old : Scene) (count : ℕ) (j : Judge) (new : Scene) : Type 0 where
  alike : RepliesAsFar old count new
  sought : j.places ≡ None

begun : (s : Scene) (j : Judge) → j.places ≡ None → SoFar s 0 j s
begun s j sought = record {
  alike = record {
    passed = passed [] [] [];
    replies = AllReplied.none;
    read = Consumes-nil s.reader.bytes;
    written = Appends-nil s.writer.bytes;
  };
  sought = sought;
}

one_more : (old mid new : Scene) (count : ℕ) (j new_judge : Judge) → SoFar old count j mid
    → LineGone mid new_judge new → SoFar old (count + 1) new_judge new
one_more old mid new count j new_judge so next =
    let front = so.alike.passed in
    record {
      alike = record {
        passed = and_then front next.went;
        replies = AllReplied.next so.alike.replies next.replied;
        read = Consumes-trans old.reader.bytes mid.reader.bytes new.reader.bytes front.asked
            next.went.asked so.alike.read next.read;
        written = Appends-trans old.writer.bytes mid.writer.bytes new.writer.bytes front.said
            next.went.said so.alike.written next.written;
      };
      sought = next.sought;
    }

lines : {rounds : Option ℕ} {first : Judge} {old : Scene} {count last : ℕ} {judge : Judge}
    {new : Scene} → first.places ≡ None → Serves rounds first old count last judge new
    → SoFar old count judge new
lines {first = first} {old = old} sought Serves.none = begun old first sought
lines {old = old} {new = new} sought
    (Serves.told {count = count} {j = j} {new_judge = new_judge} {mid = mid} so told) =
    let front = lines sought so in
    one_more old mid new count j new_judge front
    (told_line j mid new_judge new front.sought told)
lines {rounds = rounds} {old = old} {new = new} sought
    (Serves.asked {count = count} {last = last} {next = next} {j = j} {new_judge = new_judge}
    {mid = mid} so it) =
    let front = lines sought so in
    one_more old mid new count j new_judge front
    (asked_line rounds last next j mid new_judge new front.sought it)

pub lines_as_far : (rounds : Option ℕ) (first : Judge) (old : Scene) (count last : ℕ)
    (judge : Judge) (new : Scene) → first.places ≡ None
    → Serves rounds first old count last judge new → RepliesAsFar old count new
lines_as_far rounds first old count last judge new sought so = (lines sought so).alike
