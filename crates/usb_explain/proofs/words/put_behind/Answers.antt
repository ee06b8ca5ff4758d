use Rattle.std.proofs.Common.{refl, codes, ◌++◌}
use Rattle.usb_watch.specs.{has_failed, known_text}
use Rattle.usb_explain.specs.{path_end, request_words}
use Rattle.usb_explain.proofs.Pieces.{puts_after, puts_cut}
use Rattle.usb_explain.proofs.words.put_behind.Goals as goal

pub returns-in_err-put_bytes : goal.returns-in_err-put_bytes
returns-in_err-put_bytes g c =
    puts_cut _ (known_text g.W.Write.contents) has_failed _ _ c.from_residual.result
    (codes "    ") (request_words c.args.setup.now ++ path_end c.args.path.now)
    c.from_residual.ensures.1 c.in_err-put_bytes.ensures.front c.in_err-put_bytes.ensures.marked

pub returns : goal.returns
returns g c =
    puts_after (known_text g.W.Write.contents) has_failed _ _ _ c.put_end.result _ _ _ refl
    c.in_ok-put_bytes.ensures.ok c.in_ok-put_bytes.ensures.unmarked c.put_end.ensures
