use Rattle.std.proofs.Common.{refl}
use Rattle.usb_live.proofs.KeptOptions.{all_options, news_options}
use Rattle.usb_live.proofs.wanted.item_of.Goals as goal

pub returns-in-Ok-clause-shown : goal.returns-in-Ok-clause-shown
returns-in-Ok-clause-shown g c = rw c.in-Ok.ensures.entries
    ((_, c.in-Ok.ensures.agree), c.none.ensures)

pub returns-in_ok-all_news-in-News-clause-does : goal.returns-in_ok-all_news-in-News-clause-does
returns-in_ok-all_news-in-News-clause-does g c = λ _. rw c.in-News.is
    (c.in_ok-all_news-in-News.field-0, refl, c.in_ok-all_news-in-News.ensures.all)

pub returns-in_ok-all_news-in-News-clause-options :
    goal.returns-in_ok-all_news-in-News-clause-options
returns-in_ok-all_news-in-News-clause-options g c =
    all_options _ _ _ c.in_ok-all_news-in-News.ensures.all

pub returns-in_err-all_news-in-News-clause-options :
    goal.returns-in_err-all_news-in-News-clause-options
returns-in_err-all_news-in-News-clause-options g c =
    news_options _ _ c.in_err-all_news-in-News.ensures.cut
