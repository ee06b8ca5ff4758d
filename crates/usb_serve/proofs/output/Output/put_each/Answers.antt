use Rattle.std.proofs.Common.{Bor, List, drop, flat_map, get_or, suc, take, ℕ}
use Rattle.usb_watch.proofs.Interface.{front_after}
use Rattle.usb_serve.proofs.Outputs.{pieces_split}
use Rattle.usb_serve.proofs.output.Output.put_each.Goals as goal

pub returns-in-Err : goal.returns-in-Err
returns-in-Err g c =
    let ps = c.args.pieces.now in
    let i = c.pieces.piece-index in
    let bytes = λ (x : Bor (List ℕ)). x.now in
    record {
      front = front_after _ _ _ (flat_map bytes (take i ps)) (bytes (get_or ps i _))
          (flat_map bytes (drop (suc i) ps)) (flat_map bytes ps)
          (pieces_split bytes ps i _ c.pieces-test.true) c.pieces.invariant.wrote
          c.put.ensures.front;
      ok = tt;
      unmarked = tt;
      marked = c.in-Err.ensures.marked;
    }
