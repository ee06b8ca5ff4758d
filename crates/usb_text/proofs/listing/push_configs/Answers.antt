use Rattle.std.proofs.Common.{◌∙◌, sym, ap, append-nil, append_assoc, ◌++◌, add-one, suc, arith}
use Rattle.std.proofs.Common.{take, ◌≡◌, ◌∷◌, [], List, ℕ, ◌==◌}
use Rattle.usb_text.specs.{config_line, config_lines}
use Rattle.usb_text.proofs.ConfigLines.{config_lines_at}
use Rattle.usb_text.proofs.listing.push_configs.Goals as goal

pub texts-init : goal.texts-init
unfolding config_lines
texts-init c = sym (append-nil c.args.lines.now)

-- the lines with one more, where the invariant holds before it
pushed : (before now old : List (List ℕ)) (all more : List (List ℕ)) (line : List ℕ)
    → now ≡ before ++ line ∷ [] → before ≡ old ++ all → more ≡ all ++ line ∷ [] → now ≡ old ++ more
pushed before now old all more line a b e = a ∙ ap (λ l. l ++ line ∷ []) b
    ∙ append_assoc old all (line ∷ []) ∙ ap (λ l. old ++ l) (sym e)

pub texts-preserved : goal.texts-preserved
texts-preserved c =
    let path = c.args.path.now in
    let texts = c.args.texts.now in
    let i = c.texts.index in
    let step = config_lines_at path c.args.chosen texts i c.index-texts-index.result
    (omega arith) in
    let line = c.in_ok-config_line.field-0.items in
    let chosen = c.args.chosen in
    rw (add-one)
    (pushed c.texts.lines c.push.new.self c.args.lines.now
    (config_lines path 0 chosen (take i texts))
    (config_lines path 0 chosen (take (suc i) texts)) line
    c.in_ok-push.ensures c.texts.invariant (step
    ∙ ap (λ l. config_lines path 0 chosen (take i texts) ++ l ∷ [])
    (sym (c.in_ok-config_line.ensures ∙ ap (λ t. config_line path i t (i == chosen))
    (c.as_slice.ensures.value ∙ c.index-texts-index.is)))))
