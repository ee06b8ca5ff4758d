use Rattle.usb_host.proofs.arrivals.News.{other_news, stays_between}
use Rattle.usb_host.proofs.news_laws.device_stays.Goals as goal

pub returns : goal.returns
returns c = record { others = other_news; same = stays_between }
