use Rattle.std.proofs.Common.{refl, ◌++◌, take, arith}
use Rattle.usb_pcap.proofs.Captures.{piece_failed, piece_more, piece_taken}
use Rattle.usb_pcap.proofs.capturing.OpenLine.take_piece.Goals as goal

pub returns-in-Err-clause-comes : goal.returns-in-Err-clause-comes
returns-in-Err-clause-comes g c = λ w text h.
    piece_failed w _ _ _ _ _ _ _ _ c.bytes-test.true refl
    (c.in-Err.ensures.comes w (text ++ take c.bytes.byte-index c.args.piece.now)
    (c.bytes.invariant w text h))

pub bytes-preserved : goal.bytes-preserved
bytes-preserved g c = λ w text h.
    piece_more w _ _ _ _ _ _ c.bytes-test.true refl
    (c.in_default.ensures.comes w (text ++ take c.bytes.byte-index c.args.piece.now)
    (c.bytes.invariant w text h))

pub returns-clause-comes : goal.returns-clause-comes
returns-clause-comes g c = λ w text h. piece_taken w _ _ _ _ _
    (omega arith) (c.bytes.invariant w text h)
