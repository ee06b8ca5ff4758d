use Rattle.std.proofs.Common.{◌≡◌, ◌∙◌, ℕ, List, ◌++◌, ap, append_assoc}
use Rattle.usb_dialogue.specs.{config_records, record_of}
use Rattle.usb_dialogue.proofs.told.push_device.Goals as goal

-- five lists, one behind the other
five : (t a b c d e t1 t2 t3 t4 t5 : List ℕ) → t1 ≡ t ++ a → t2 ≡ t1 ++ b → t3 ≡ t2 ++ c
    → t4 ≡ t3 ++ d → t5 ≡ t4 ++ e → t5 ≡ t ++ (a ++ b ++ c ++ d ++ e)
five t a b c d e t1 t2 t3 t4 t5 p q r s u =
    let two : t2 ≡ t ++ (a ++ b) = q ∙ ap (λ x. x ++ b) p ∙ append_assoc t a b in
    let three : t3 ≡ t ++ (a ++ b ++ c) = r ∙ ap (λ x. x ++ c) two ∙ append_assoc t (a ++ b) c in
    let four : t4 ≡ t ++ (a ++ b ++ c ++ d) =
    s ∙ ap (λ x. x ++ d) three ∙ append_assoc t (a ++ b ++ c) d in
    u ∙ ap (λ x. x ++ e) four ∙ append_assoc t (a ++ b ++ c ++ d) e

pub returns : goal.returns
returns c =
    let body = c.as_slice.ensures.value ∙ c.in_ok-device_body.ensures in
    five c.args.told.now.items _ _ _ _ _ c.push_record.new.told.items
    c.push_configs.new.told.items c.push_string.new.told.items c.push_string-2.new.told.items
    c.push_string-3.new.told.items
    (c.in_ok-push_record.ensures
    ∙ ap (λ (x : List ℕ). c.args.told.now.items ++ record_of 33 x) body)
    (c.in_ok-push_configs.ensures
    ∙ ap (λ (x : List (List ℕ)). c.push_record.new.told.items ++ config_records x)
    c.as_slice-2.ensures)
    c.in_ok-push_string.ensures c.in_ok-push_string-2.ensures
    c.in_ok-push_string-3.ensures
