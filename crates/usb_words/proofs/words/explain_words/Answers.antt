use Rattle.std.proofs.Common.{◌∙◌, sym, codes}
use Rattle.clap.specs.Matches.{found_of}
use Rattle.clap.proofs.WalkLemmas.{first_value-rows}
use Rattle.usb_words.proofs.words.explain_words.Goals as goal

pub returns : goal.returns
returns c =
    let found = found_of c.args.found.now in
    record {
      file = sym (first_value-rows found (codes "text")) ∙ sym c.in_ok-file.ensures;
      only = c.in_ok-only.only.now;
      given = sym (first_value-rows found (codes "only")) ∙ sym c.in_ok-only.ensures;
      named = c.in_ok-selection.ensures.named;
    }
