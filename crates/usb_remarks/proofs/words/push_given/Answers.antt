use Rattle.std.proofs.Common.{◌≡◌, ◌∙◌, ap, subst, append_assoc, ℕ, List, ◌++◌, Result, OnOk}
use Rattle.usb_remarks.proofs.words.push_given.Goals as goal

-- two pieces, the second of which may fail
two_pieces : {E : Type 0} (r : Result (Unit {0}) E) (old first between second now : List ℕ)
    → between ≡ old ++ first → OnOk r (now ≡ between ++ second)
    → OnOk r (now ≡ old ++ (first ++ second))
two_pieces r old first between second now a h = subst (λ t. OnOk r (now ≡ t))
    (ap (λ t. t ++ second) a ∙ append_assoc old first second) h

pub returns : goal.returns
returns c = two_pieces c.push_hub.result _ _ _ _ _ c.in_ok-push_key.ensures c.push_hub.ensures
