use Rattle.std.proofs.Common.{◌≡◌, ◌≤◌, ◌<◌, ◌+◌, ◌∙◌, ℕ, ap, refl, ◌++◌, List, flat_map, false}
use Rattle.std.proofs.Common.{length, slice_index_or}
use Rattle.std.specs.Ordering.{is_lt, ordering_then}
use Rattle.std.specs.declared.cmp.Ordering.{Ordering}
use Rattle.std.specs.declared.cmp.Ordering.TheVariants.{Less, Equal, Greater}
use Rattle.usb_port.specs.{path_cmp}
use Rattle.usb_judge.specs.declared.judgement.Judgement.{Judgement}
use Rattle.usb_judge.specs.{scene_in, told_at, told_lack}
use Rattle.usb_judge.proofs.Judging.{judges}
use Rattle.usb_judge.proofs.verdict.judge.Goals as goal

-- the vector was empty, each part told its own, and the order changes nothing
pub returns-clause-verdict : goal.returns-clause-verdict
returns-clause-verdict c = judges c.args.plugged.now c.args.listing.now
    c.judge_rest.new.judgements.items c.sort.new.self.items
    (c.in_ok-judge_rest.ensures
    ∙ ap (λ (js : List Judgement). js ++ flat_map (told_lack c.args.listing.now) c.args.plugged.now)
    (c.in_ok-judge_ports.ensures ∙ ap (λ (js : List Judgement). js
    ++ flat_map (told_at (scene_in c.args.plugged.now) c.args.listing.now) c.args.listing.now)
    c.new-judgements.ensures.items))
    c.in_ok-sort.ensures.permutation

first_decides : (o p : Ordering) → is_lt (ordering_then o p) ≡ false → is_lt o ≡ false
first_decides Less p h = h
first_decides Equal p h = refl
first_decides Greater p h = refl

-- judgements are compared by their paths first
pub returns-clause-order : goal.returns-clause-order
returns-clause-order c = λ (k : ℕ) (d : Judgement) (low : 0 ≤ k)
    (high : k + 1 < length c.sort.new.self.items).
    first_decides (path_cmp (slice_index_or c.sort.new.self.items (k + 1) d).path
    (slice_index_or c.sort.new.self.items k d).path) _ (c.in_ok-sort.ensures.sorted k d low high)
