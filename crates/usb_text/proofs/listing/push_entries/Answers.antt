use Rattle.std.proofs.Common.{◌≡◌, ◌∙◌, sym, ap, append_assoc, append-nil, ◌++◌, add-one, suc}
use Rattle.std.proofs.Common.{arith, take, List, ℕ, get_or, []}
use Rattle.usb_text.specs.{told_lines, entry_lines, said_lines}
use Rattle.usb_text.proofs.ToldLines.{told_lines-take}
use Rattle.usb_text.proofs.listing.push_entries.Goals as goal

pub entries-init : goal.entries-init
unfolding told_lines
entries-init c = sym (append-nil c.args.lines.now)

-- the lines with those of an entry more, where the invariant holds before it
pushed : (before between now old all more found said : List (List ℕ)) → between ≡ before ++ found
    → now ≡ between ++ said → before ≡ old ++ all → more ≡ all ++ (found ++ said)
    → now ≡ old ++ more
pushed before between now old all more found said a b c e =
    b ∙ ap (λ l. l ++ said) (a ∙ ap (λ l. l ++ found) c)
    ∙ ap (λ l. l ++ said) (append_assoc old all found)
    ∙ append_assoc old (all ++ found) said
    ∙ ap (λ l. old ++ l) (append_assoc all found said ∙ sym e)

pub entries-preserved : goal.entries-preserved
entries-preserved c =
    let entries = c.args.entries.now in
    let said = c.args.said.now in
    let i = c.entries.index in
    let entry = c.index-entries-index.result in
    let step = told_lines-take entries said i entry (omega arith) c.index-entries-index.is in
    rw (add-one)
    (pushed c.entries.lines c.push_finding.new.lines c.push_said.new.lines c.args.lines.now
    (told_lines (take i entries) said) (told_lines (take (suc i) entries) said)
    (entry_lines entry) (said_lines entry.0 (get_or said i []))
    c.in_ok-push_finding.ensures
    (c.in_ok-push_said.ensures
    ∙ ap (λ s. c.push_finding.new.lines ++ said_lines entry.0 s) c.of.ensures)
    c.entries.invariant step)
