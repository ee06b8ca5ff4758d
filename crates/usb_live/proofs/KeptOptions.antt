-- That news keep the options of a host.
use Rattle.std.proofs.Common.{◌≡◌, ◌∙◌, refl, ap, List, Option, Some, None}
use Rattle.usb_run.specs.{HostState, News, ReportsNews, Left, Arrived}
use Rattle.usb_run.specs.{AllNews, SomeNews, SomeNewsAre, no_news, one_news}

reported_options : (told : Option News) (old new : HostState) → ReportsNews old told new
    → new.options ≡ old.options
reported_options None old new none = ap (λ (h : HostState). h.options) none.rest
reported_options (Some (Left path)) old new left = ap (λ (h : HostState). h.options) left.rest
reported_options (Some (Arrived path)) old new arrived =
    ap (λ (h : HostState). h.options) arrived.rest

some_options : {old new : HostState} {all : List News} → SomeNewsAre old all new
    → new.options ≡ old.options
some_options no_news = refl
some_options (one_news {h = h} {new = new} one before told) =
    reported_options (Some one) h new told ∙ some_options before

pub news_options : (old new : HostState) → SomeNews old new → new.options ≡ old.options
news_options old new some = some_options some.1

pub all_options : (old new : HostState) (all : List News) → AllNews old all new
    → new.options ≡ old.options
all_options old new all told = reported_options None told.last new told.none ∙ some_options told.are
