use Rattle.std.proofs.Common.{◌≡◌, ◌∙◌, ap, subst, append_assoc, ℕ, List, ◌++◌, Result, Ok, Err}
use Rattle.std.proofs.Common.{OnOk, is_ok, if◌then◌else◌, codes}
use Rattle.std.specs.Str.{chars}
use Rattle.usb_diagnosis.specs.{remark_head, text_shown}
use Rattle.usb_diagnosis.proofs.report.push_head.Goals as goal

-- one piece more, which may fail
one_piece : {E : Type 0} (r : Result (Unit {0}) E) (old first between second now : List ℕ)
    → between ≡ old ++ first → OnOk r (now ≡ between ++ second)
    → OnOk r (now ≡ old ++ (first ++ second))
one_piece r old first between second now a h = subst (λ t. OnOk r (now ≡ t))
    (ap (λ t. t ++ second) a ∙ append_assoc old first second) h

on_ok : {E : Type 0} (r : Result (Unit {0}) E) (now more same : List ℕ)
    → now ≡ (if is_ok r then more else same) → OnOk r (now ≡ more)
on_ok (Ok u) now more same h = h
on_ok (Err e) now more same h = tt

pub returns : goal.returns
unfolding remark_head
returns c =
    let shown = text_shown (chars c.args.name.now) in
    one_piece c.push_str-2.result _ (codes "remark: device \"" ++ shown) _ _ _
    (c.in_ok-push_shown.ensures ∙ ap (λ t. t ++ shown) c.in_ok-push_str.ensures.bytes
    ∙ append_assoc _
    (codes "remark: device \"") shown) (on_ok c.push_str-2.result _ _ _ c.push_str-2.ensures.bytes)
