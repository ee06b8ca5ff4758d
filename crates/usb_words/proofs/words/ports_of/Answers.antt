use Rattle.std.proofs.Common.{◌∙◌, sym, codes}
use Rattle.clap.specs.Matches.{found_of, one_text}
use Rattle.clap.proofs.WalkLemmas.{one_text-rows}
use Rattle.usb_words.proofs.Numbers.{number_text}
use Rattle.usb_words.proofs.words.ports_of.Goals as goal

pub returns : goal.returns
returns c =
    let found = found_of c.args.found.now in
    let text = number_text (one_text found (codes "ports")) c.get_one.result c.in_ok-ports.ports
    c.get_one.ensures.none c.in_ok-ports.was in
    let read = c.in_ok-ports.ensures.value text.0 text.1 in
    record {
      numeral = text.0;
      given = sym (one_text-rows found (codes "ports")) ∙ text.1;
      is_numeral = read.0.0.0;
      value = read.0.1;
      least = c.if-ports-lt1.false;
      most = c.if-ports-gt7.false;
    }
