use Rattle.usb_host.specs.{news_left}
use Rattle.usb_run.specs.{SomeNewsAre}
use Rattle.usb_run.proofs.news.all_news.Given as goal

-- the news so far
abbrev pub invariant-questions : goal.invariant-questions
invariant-questions g l = SomeNewsAre l.fn.host l.all.items l.host

abbrev pub decreases-questions : goal.decreases-questions
decreases-questions g l = news_left l.host
