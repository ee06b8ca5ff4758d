use Rattle.std.proofs.Common.{refl, ◌++◌, take, arith}
use Rattle.usb_explain.proofs.Lines.{piece_fault, piece_on, piece_whole}
use Rattle.usb_explain.proofs.explaining.BegunLine.take_piece.Goals as goal

pub returns-in-Err-clause-reaches : goal.returns-in-Err-clause-reaches
returns-in-Err-clause-reaches g c = λ w text h.
    piece_fault c.args.only w _ text c.args.piece.now c.bytes.byte-index _ _ _ _
    c.bytes-test.true refl
    (c.in-Err.ensures.reaches w (text ++ take c.bytes.byte-index c.args.piece.now)
    (c.bytes.invariant w text h))

pub bytes-preserved : goal.bytes-preserved
bytes-preserved g c = λ w text h.
    piece_on c.args.only w _ text c.args.piece.now c.bytes.byte-index _ _ c.bytes-test.true refl
    (c.in_default.ensures.reaches w (text ++ take c.bytes.byte-index c.args.piece.now)
    (c.bytes.invariant w text h))

pub returns-clause-reaches : goal.returns-clause-reaches
returns-clause-reaches g c = λ w text h. piece_whole c.args.only w _ text c.args.piece.now
    c.bytes.byte-index _ (omega arith) (c.bytes.invariant w text h)
