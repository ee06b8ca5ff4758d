use Rattle.std.proofs.Common.{◌++◌, ◌∙◌, take}
use Rattle.std.proofs.KnownBytes.{Appends-trans}
use Rattle.usb_watch.proofs.Fronts.{moves_front, pending_more, unmarked_by}
use Rattle.usb_watch.proofs.watched.put_piece.Goals as goal

pub parts-preserved : goal.parts-preserved
parts-preserved g c =
    let (done, split, appended, pending) = c.parts.invariant.gone in
    let rest = c.parts.rest.now in
    let n = c.in-Ok.n in
    record {
      gone = (
        done ++ take n rest,
        moves_front _ done rest n split,
        Appends-trans _ _ _ _ _ appended c.in-Ok.ensures.bytes,
        pending_more _ _ _ done rest n pending c.in-Ok.ensures.pending c.in-Ok.n-test.1
            c.in-Ok.ensures.bound,
      );
      unmarked = unmarked_by _ _ n _ c.in-Ok.ensures.mark c.in-Ok.n-test.1
          ∙ c.parts.invariant.unmarked;
    }
