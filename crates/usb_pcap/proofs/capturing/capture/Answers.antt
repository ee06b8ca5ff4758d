use Rattle.std.proofs.Common.{◌≡◌, [], ◌++◌, take, sym, ◌∙◌, arith, length-append}
use Rattle.std.proofs.lemmas.List.{length-take}
use Rattle.std.proofs.KnownBytes.{Consumes-nil, Consumes-trans}
use Rattle.usb_watch.specs.{inner_of}
use Rattle.usb_pcap.proofs.Captures.{captures_all, comes_front, never_read, not_err, read_failed}
use Rattle.usb_pcap.proofs.Captures.{read_none, read_on, stands_first, torn_header}
use Rattle.usb_pcap.proofs.capturing.capture.Goals as goal

pub returns-then-is_err-clause-captures : goal.returns-then-is_err-clause-captures
returns-then-is_err-clause-captures g c = torn_header _ _ _ c.put_piece.ensures.front

pub reads-init : goal.reads-init
reads-init g c =
    let gone = not_err _ (sym c.is_err.ensures.value ∙ c.if-is_err.false)
    c.put_piece.ensures.ok in (
      [],
      Consumes-nil _,
      stands_first _ _ _ gone c.first-line.ensures.number
          c.first-line.ensures.front c.first-line.ensures.long c.first-line.ensures.begun
          c.first-line.ensures.packets,
      omega arith,
    )

pub returns-in-Err-clause-captures : goal.returns-in-Err-clause-captures
returns-in-Err-clause-captures g c =
    let (done, read, stands, count) = c.reads.invariant in
    read_failed _
    _ _ _ _ _ read stands

pub returns-in-Ok-eq0-clause-captures : goal.returns-in-Ok-eq0-clause-captures
returns-in-Ok-eq0-clause-captures g c =
    let (done, read, stands, count) = c.reads.invariant in
    let bytes = c.in-Ok-eq0.ensures.bytes in
    let none : c.in-Ok-eq0.field-0 ≡ 0 = omega arith in
    captures_all _
    _ _ _ _ _
    (read_none _
    _
    _ _ _ _ read none bytes.0)
    (bytes.1 none (omega arith)) (c.end.ensures.captures _ _ done stands)

pub returns-in-Err-take_piece-clause-read : goal.returns-in-Err-take_piece-clause-read
returns-in-Err-take_piece-clause-read g c =
    let (done, read, stands, count) = c.reads.invariant in
    never_read _ _ _ _ _ (c.in-Err-take_piece.ensures.comes _ done stands)

pub returns-in-Err-take_piece-clause-captures : goal.returns-in-Err-take_piece-clause-captures
returns-in-Err-take_piece-clause-captures g c =
    let (done, read, stands, count) = c.reads.invariant in
    comes_front _
    _ _ _
    _ _ _
    (Consumes-trans _ (g.R.Read.remaining (inner_of c.reads.reader)) _ done
    (take c.in-Ok.count c.read.new.buf) read c.in-Ok.ensures.bytes.0)
    (c.in-Err-take_piece.ensures.comes _ done stands)

pub reads-preserved : goal.reads-preserved
reads-preserved g c =
    let (done, read, stands, count) = c.reads.invariant in (
      done ++ take c.in-Ok.count c.read.new.buf,
      Consumes-trans _ (g.R.Read.remaining (inner_of c.reads.reader)) _ done
          (take c.in-Ok.count c.read.new.buf) read c.in-Ok.ensures.bytes.0,
      c.in_default.ensures.comes _ done stands,
      omega (
        arith,
        length-append done (take c.in-Ok.count c.read.new.buf),
        length-take c.in-Ok.count c.read.new.buf,
      ),
    )

pub returns-clause-captures : goal.returns-clause-captures
returns-clause-captures g c =
    let (done, read, stands, count) = c.reads.invariant in
    read_on _
    _ _ _ _ _ read stands
    (omega arith)
