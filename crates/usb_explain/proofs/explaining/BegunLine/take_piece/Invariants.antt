use Rattle.std.proofs.Common.{ℕ, List, Option, ◌++◌, take}
use Rattle.usb_watch.specs.{inner_of}
use Rattle.usb_explain.specs.{Reaches}
use Rattle.usb_explain.proofs.explaining.BegunLine.take_piece.Given as goal

-- the bytes so far are taken
abbrev pub invariant-bytes : goal.invariant-bytes
invariant-bytes g l = (w : Option (List ℕ)) (text : List ℕ)
    → Reaches l.fn.only w (g.W.Write.contents (inner_of l.fn.writer)) text l.fn.self
    → Reaches l.fn.only w (g.W.Write.contents (inner_of l.writer))
    (text ++ take l.byte-index l.piece) l.self
