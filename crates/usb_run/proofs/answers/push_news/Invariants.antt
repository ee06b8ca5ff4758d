use Rattle.std.proofs.Common.{◌≡◌, ◌++◌, map, take}
use Rattle.usb_run.specs.{one_news_line}
use Rattle.usb_run.proofs.answers.push_news.Given as goal

-- the lines of the news so far are written
abbrev pub invariant-news : goal.invariant-news
invariant-news l = l.lines ≡ l.fn.lines ++ map one_news_line (take l.one-index l.news)
