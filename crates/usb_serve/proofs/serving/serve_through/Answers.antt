use Rattle.std.proofs.Common.{◌∙◌, ap, sym, subst}
use Rattle.usb_watch.specs.{Watched, has_failed, inner_of}
use Rattle.usb_serve.specs.{Output, Serves, has_ended, held, output_in}
use Rattle.usb_serve.proofs.ServedThrough.{failed_before, through}
use Rattle.usb_serve.proofs.serving.serve_through.Goals as goal

pub returns-then-has_ended-clause-serves : goal.returns-then-has_ended-clause-serves
returns-then-has_ended-clause-serves g c =
    let ended = sym c.has_ended.ensures ∙ c.if-has_ended.true in
    failed_before _ _ _ _ _ _
    (ap (λ (w : Watched g.row.W.Denot). has_failed w) (c.finish.ensures.ended ended) ∙ ended)
    c.finish.ensures.front

pub returns-clause-serves : goal.returns-clause-serves
returns-clause-serves g c =
    let contents = g.W.Write.contents in
    let text = g.R.Read.remaining (inner_of c.args.reader.now) in
    let torn = has_failed c.serve_to-told.new.reader in
    let told = c.serve_to-told.result.0 in
    let kept = output_in c.serve_to-told.result.1 in
    let before : Serves c.args.mode text torn (held contents c.args.output) told (has_ended kept)
    (held contents kept) =
    subst (λ (o : Output g.row.W.Denot). Serves c.args.mode text torn (held contents o) told
    (has_ended kept) (held contents kept)) c.new.ensures c.serve_to-told.ensures.serves in
    through (subst (λ (o : Output g.row.W.Denot). Serves c.args.mode text torn
    (held contents c.args.output) told (has_ended o) (held contents o)) (sym c.into_output.ensures)
    before) c.finish-out.result.0 c.ended.result (has_failed c.finish-out.result.1)
    (contents (inner_of c.finish-out.result.1)) c.finish-out.ensures.mark
    (λ is. ap (λ (w : Watched g.row.W.Denot). has_failed w) (c.finish-out.ensures.ended is) ∙ is)
    c.ended.ensures.all c.ended.ensures.failed c.finish-out.ensures.ok c.finish-out.ensures.front
