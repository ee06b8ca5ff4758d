-- Lines that go to the trace one behind the other.
use Rattle.std.proofs.Common.{ℕ, List, [], ◌∷◌, ◌++◌}
use Rattle.std.proofs.Common.{sym, subst, ◌∙◌}
use Rattle.std.proofs.KnownBytes.{Appends-trans}
use Rattle.std.specs.Io.KnownBytes.{Appends}
use Rattle.std.proofs.lemmas.Grind.{flat_map-append}
use Rattle.usb_far.specs.{Played}
use Rattle.usb_bench.specs.{Says, lines_text}

-- two lists of lines
pub says_then : (a b c : Played) (xs ys : List (List ℕ)) → Says a xs b → Says b ys c
    → Says a (xs ++ ys) c
says_then a b c xs ys first next = record {
  traced = subst (Appends a.trace.bytes c.trace.bytes)
      (sym (flat_map-append (λ (line : List ℕ). line ++ 10 ∷ []) xs ys))
      (Appends-trans a.trace.bytes b.trace.bytes c.trace.bytes (lines_text xs) (lines_text ys)
      first.traced next.traced);
  same = next.same ∙ first.same;
}
