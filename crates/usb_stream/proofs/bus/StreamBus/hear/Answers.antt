use Rattle.std.proofs.Common.{◌∙◌, refl, arith}
use Rattle.usb_stream.specs.{kept_of, unread_of}
use Rattle.usb_stream.proofs.Hearing.{hear_more, hear_same, heard_so, not_heard_so, told_so_none}
use Rattle.usb_stream.proofs.Hearing.{too_many}
use Rattle.usb_stream.proofs.bus.StreamBus.hear.Goals as goal

pub lines-init : goal.lines-init
lines-init g c = record {
  told = told_so_none c.args.asked (unread_of g.R.Read.remaining c.args.self.now)
      (kept_of c.args.self.now);
  same = refl;
  writer = refl;
}

pub lines-preserved : goal.lines-preserved
lines-preserved g c =
    let said = c.in-Ok-Changed in
    let says = rw said.field-0-is at said.ensures.ok in record {
      told = hear_more c.args.asked c.lines.counter (kept_of c.args.self.now) (kept_of c.lines.self)
          (kept_of c.next_said.new.self) (unread_of g.R.Read.remaining c.args.self.now)
          (unread_of g.R.Read.remaining c.lines.self)
          (unread_of g.R.Read.remaining c.next_said.new.self) said.number said.status
          c.keep.new.statuses c.lines.invariant.told c.lines.invariant.same c.next_said.ensures.same
          says c.keep.ensures;
      same = hear_same (kept_of c.args.self.now) (kept_of c.lines.self)
          (kept_of c.next_said.new.self) c.keep.new.statuses c.lines.invariant.same
          c.next_said.ensures.same;
      writer = c.next_said.ensures.writer ∙ c.lines.invariant.writer;
    }

pub returns-in-Err-clause-err : goal.returns-in-Err-clause-err
returns-in-Err-clause-err g c =
    not_heard_so c.args.asked c.lines.counter (kept_of c.args.self.now) (kept_of c.lines.self)
    (kept_of c.next_said.new.self) (unread_of g.R.Read.remaining c.args.self.now)
    (unread_of g.R.Read.remaining c.lines.self)
    (unread_of g.R.Read.remaining c.next_said.new.self) c.in-Err.fault (omega arith)
    c.lines.invariant.told c.lines.invariant.same c.next_said.ensures.same c.in-Err.ensures.err

pub returns-in-Ok-Answered-clause-ok : goal.returns-in-Ok-Answered-clause-ok
returns-in-Ok-Answered-clause-ok g c =
    let said = c.in-Ok-Answered in
    let says = rw said.field-0-is at said.ensures.ok in
    heard_so c.args.asked c.lines.counter (kept_of c.args.self.now) (kept_of c.lines.self)
    (kept_of c.next_said.new.self) (unread_of g.R.Read.remaining c.args.self.now)
    (unread_of g.R.Read.remaining c.lines.self)
    (unread_of g.R.Read.remaining c.next_said.new.self) said.answer (omega arith)
    c.lines.invariant.told c.lines.invariant.same c.next_said.ensures.same says

pub returns-clause-err : goal.returns-clause-err
returns-clause-err g c =
    too_many c.args.asked c.lines.counter (kept_of c.args.self.now) (kept_of c.lines.self)
    (unread_of g.R.Read.remaining c.args.self.now) (unread_of g.R.Read.remaining c.lines.self)
    (omega arith) c.lines.invariant.told
