use Rattle.std.proofs.Common.{◌≡◌, ◌++◌, flat_map, length, map}
use Rattle.usb_words.specs.{words_of_file}
use Rattle.usb_words.proofs.words.named_files.Given as goal

-- the words are those of the devices so far, and the rest
abbrev pub invariant-pairs : goal.invariant-pairs
invariant-pairs l = map (λ s. s.now) l.words
    ≡ flat_map words_of_file l.files.items ++ map (λ s. s.now) l.rest

abbrev pub decreases-pairs : goal.decreases-pairs
decreases-pairs l = length l.rest
