use Rattle.std.proofs.Common.{◌∙◌, sym, codes, map, rules}
use Rattle.clap.specs.Matches.{found_of}
use Rattle.clap.proofs.WalkLemmas.{raw_values-rows}
use Rattle.usb_words.proofs.words.device_words.Goals as goal

pub returns-in-Some-2 : goal.returns-in-Some-2
returns-in-Some-2 c = record {
  words = map (λ s. s.now) c.in-Some-get_strs.words.now;
  given = sym (raw_values-rows (found_of c.args.found.now) (codes "devices"))
      ∙ sym c.in-Some-get_strs.ensures;
  devices = search rules;
  ports = c.in-Some.ensures;
}
