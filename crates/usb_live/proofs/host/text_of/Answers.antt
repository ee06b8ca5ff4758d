use Rattle.std.proofs.Common.{◌≡◌, ◌∙◌, sym, ap, subst, [], ◌∷◌, ◌++◌, IfOk}
use Rattle.std.proofs.lemmas.List.Folds.{flat_map-map}
use Rattle.usb_run.specs.{lines_text}
use Rattle.usb_live.proofs.host.text_of.Goals as goal

pub returns : goal.returns
returns c =
    let same = sym (flat_map-map (λ line. line ++ 10 ∷ []) (λ line. line.items)
    c.as_slice.result.now) ∙ ap lines_text (c.as_slice.ensures ∙ c.in_ok-lines.ensures) in
    subst (λ t. IfOk c.joined.result (λ text. text.items ≡ t)) same c.joined.ensures
