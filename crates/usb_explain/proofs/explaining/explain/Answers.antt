use Rattle.std.proofs.Common.{◌≡◌, [], ◌++◌, take, arith, length-append}
use Rattle.std.proofs.lemmas.List.{length-take}
use Rattle.std.proofs.KnownBytes.{Consumes-nil, Consumes-trans}
use Rattle.usb_pcap.proofs.Interface.{read_none}
use Rattle.usb_watch.specs.{inner_of}
use Rattle.usb_explain.proofs.Lines.{all_read, fault_of_front, not_read}
use Rattle.usb_explain.proofs.Lines.{reaches_first, read_stopped, read_too_long}
use Rattle.usb_explain.proofs.explaining.explain.Goals as goal

pub reads-init : goal.reads-init
reads-init g c = (
  [],
  Consumes-nil _,
  reaches_first _ _ _ c.first-line.ensures.number c.first-line.ensures.bytes
      c.first-line.ensures.known,
  omega arith,
)

pub returns-in-Err-clause-explains : goal.returns-in-Err-clause-explains
returns-in-Err-clause-explains g c =
    let (done, read, reached, count) = c.reads.invariant in
    read_stopped _ (g.R.Read.remaining (inner_of c.args.reader.now))
    (g.R.Read.remaining (inner_of c.reads.reader)) _ _ done c.reads.line read reached

pub returns-in-Ok-eq0-clause-explains : goal.returns-in-Ok-eq0-clause-explains
returns-in-Ok-eq0-clause-explains g c =
    let (done, read, reached, count) = c.reads.invariant in
    let bytes = c.in-Ok-eq0.ensures.bytes in
    let zero : c.in-Ok-eq0.field-0 ≡ 0 = omega arith in
    all_read _ (g.R.Read.remaining (inner_of c.args.reader.now))
    (g.R.Read.remaining (inner_of c.read.new.self)) _ _ done c.end.result
    (read_none (g.R.Read.remaining (inner_of c.args.reader.now))
    (g.R.Read.remaining (inner_of c.reads.reader))
    (g.R.Read.remaining (inner_of c.read.new.self)) done _ _ read zero bytes.0)
    (bytes.1 zero (omega arith)) (c.end.ensures.explains _ _ _ done reached)

pub returns-in-Err-take_piece-clause-read : goal.returns-in-Err-take_piece-clause-read
returns-in-Err-take_piece-clause-read g c =
    let (done, read, reached, count) = c.reads.invariant in
    not_read _ _ _ _ c.in-Err-take_piece.fault _
    (c.in-Err-take_piece.ensures.reaches _ done reached)

pub returns-in-Err-take_piece-clause-explains : goal.returns-in-Err-take_piece-clause-explains
returns-in-Err-take_piece-clause-explains g c =
    let (done, read, reached, count) = c.reads.invariant in
    fault_of_front _ (g.R.Read.remaining (inner_of c.args.reader.now))
    (g.R.Read.remaining (inner_of c.read.new.self)) _ _
    (done ++ take c.in-Ok.count c.read.new.buf) c.in-Err-take_piece.fault _
    (Consumes-trans _ (g.R.Read.remaining (inner_of c.reads.reader)) _ done
    (take c.in-Ok.count c.read.new.buf) read c.in-Ok.ensures.bytes.0)
    (c.in-Err-take_piece.ensures.reaches _ done reached)

pub reads-preserved : goal.reads-preserved
reads-preserved g c =
    let (done, read, reached, count) = c.reads.invariant in (
      done ++ take c.in-Ok.count c.read.new.buf,
      Consumes-trans _ (g.R.Read.remaining (inner_of c.reads.reader)) _ done
          (take c.in-Ok.count c.read.new.buf) read c.in-Ok.ensures.bytes.0,
      c.in_default.ensures.reaches _ done reached,
      omega (
        arith,
        length-append done (take c.in-Ok.count c.read.new.buf),
        length-take c.in-Ok.count c.read.new.buf,
      ),
    )

pub returns-clause-explains : goal.returns-clause-explains
returns-clause-explains g c =
    let (done, read, reached, count) = c.reads.invariant in
    read_too_long _ (g.R.Read.remaining (inner_of c.args.reader.now))
    (g.R.Read.remaining (inner_of c.reads.reader)) _ _ done c.reads.line read reached
    (omega arith)
