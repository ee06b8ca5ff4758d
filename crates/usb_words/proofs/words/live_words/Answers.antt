use Rattle.std.proofs.Common.{◌≡◌, ◌∙◌, sym, codes}
use Rattle.clap.specs.Matches.{found_of, one_text}
use Rattle.clap.specs.Walk.{one_of, rows_of}
use Rattle.clap.proofs.WalkLemmas.{one_text-rows}
use Rattle.usb_words.proofs.Numbers.{number_text}
use Rattle.usb_words.proofs.words.live_words.Goals as goal

pub returns : goal.returns
returns c =
    let found = found_of c.args.found.now in
    let text = number_text (one_text found (codes "limit")) c.get_one.result c.in_ok-limit.limit
    c.get_one.ensures.none c.in_ok-limit.was in
    let read = c.in_ok-limit.ensures.value text.0 text.1 in
    let flag : one_text found (codes "wide-hubs") ≡ one_of (codes "wide-hubs") (rows_of found) =
    one_text-rows found (codes "wide-hubs") in
    record {
      numeral = text.0;
      given = sym (one_text-rows found (codes "limit")) ∙ text.1;
      is_numeral = read.0.0.0;
      value = read.0.1;
      wide = λ is. c.get_flag-wide_hubs.ensures.value (flag ∙ is);
      left_out = λ is. c.get_flag-wide_hubs.ensures.other (flag ∙ is);
      absent = λ is. c.get_flag-wide_hubs.ensures.none (flag ∙ is);
    }
