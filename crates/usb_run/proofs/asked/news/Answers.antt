use Rattle.std.proofs.Common.{◌∙◌, ap, refl}
use Rattle.usb_host.specs.{HostState}
use Rattle.usb_run.proofs.AskedCalls.{all_reported, some_reported}
use Rattle.usb_run.proofs.courses.Ownership.{owning_reported}
use Rattle.usb_run.proofs.asked.news.Goals as goal

pub returns-clause-on : goal.returns-clause-on
returns-clause-on g c =
    let only = all_reported _ _ _ c.in_ok-news.ensures.all in
    record {
      goes = (c.in_ok-news.news, refl, c.in_ok-news.ensures.all);
      running = ap (λ (h : HostState). h.stopped) only.1 ∙ c.requires.running;
      caused = tt;
    }

pub returns-in_err-news-clause-owning : goal.returns-in_err-news-clause-owning
returns-in_err-news-clause-owning g c =
    owning_reported (some_reported c.in_err-news.ensures.cut.1)

pub returns-clause-owning : goal.returns-clause-owning
returns-clause-owning g c = owning_reported (all_reported _ _ _ c.in_ok-news.ensures.all)
