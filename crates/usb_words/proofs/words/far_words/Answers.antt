use Rattle.std.proofs.Common.{◌≡◌, ◌∙◌, sym, codes}
use Rattle.clap.specs.Matches.{found_of, one_text}
use Rattle.clap.specs.Walk.{one_of, rows_of}
use Rattle.clap.proofs.WalkLemmas.{first_value-rows, one_text-rows}
use Rattle.usb_words.proofs.words.far_words.Goals as goal

pub returns : goal.returns
returns c =
    let found = found_of c.args.found.now in
    let flag : one_text found (codes "judge") ≡ one_of (codes "judge") (rows_of found) =
    one_text-rows found (codes "judge") in
    record {
      file = sym (first_value-rows found (codes "text")) ∙ sym c.in_ok-file.ensures;
      judged = λ is. c.get_flag-judge.ensures.value (flag ∙ is);
      unjudged = λ is. c.get_flag-judge.ensures.other (flag ∙ is);
      absent = λ is. c.get_flag-judge.ensures.none (flag ∙ is);
      limit = c.in_ok-limit.ensures;
      rounds = c.in_ok-rounds.ensures;
    }
