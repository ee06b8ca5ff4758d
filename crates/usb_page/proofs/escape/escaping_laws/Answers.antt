use Rattle.usb_page.proofs.Escaping.{shows_alone, shows_escaped}
use Rattle.usb_page.proofs.escape.escaping_laws.Goals as goal

pub returns : goal.returns
returns c = record {
  shows = shows_escaped;
  alone = shows_alone;
}
