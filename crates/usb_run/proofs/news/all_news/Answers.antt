use Rattle.std.proofs.Common.{subst, sym, Result, Ok, Err, OnErr}
use Rattle.usb_run.specs.{SomeNewsAre, no_news, one_news}
use Rattle.usb_run.proofs.news.all_news.Goals as goal

-- what is so anyway is so of an error
on_error : {A E P : Type 0} (result : Result A E) → P → OnErr result P
on_error (Ok done) so = tt
on_error (Err fault) so = so

pub questions-init : goal.questions-init
questions-init g c = subst (λ all. SomeNewsAre c.args.host.now all c.args.host.now)
    (sym c.new-all.ensures.items) no_news

pub questions-preserved : goal.questions-preserved
questions-preserved g c = subst (λ all. SomeNewsAre c.args.host.now all c.next_news.new.self)
    (sym c.in_ok-push.ensures.items)
    (one_news c.in-Some.news c.questions.invariant c.in-Some.ensures.reports)

pub returns-in_err-push-clause-cut : goal.returns-in_err-push-clause-cut
returns-in_err-push-clause-cut g c = on_error c.from_residual.result
    (_, one_news c.in-Some.news c.questions.invariant c.in-Some.ensures.reports)
