-- A device with a new name keeps the names different.
use Rattle.std.proofs.Common.{◌≡◌, ℕ, List, [], ◌∷◌, ◌++◌, true, false, ◌||◌, not, refl, sym, ◌∙◌}
use Rattle.std.proofs.lemmas.Bool.{and_parts, or_parts}
use Rattle.std.proofs.Math.Bool.{or-false}
use Rattle.std.proofs.lemmas.List.Folds.{list_any-append}
use Rattle.std.proofs.lemmas.Slice.Eq.{bytes_eq-Decides}
use Rattle.std.specs.Bool.{one_answer}
use Rattle.std.specs.Str.{bytes_eq}
use Rattle.usb_device.specs.{Spec, is_named, names_differ}

pub bytes_eq-sym : (xs ys : List ℕ) → bytes_eq xs ys ≡ false → bytes_eq ys xs ≡ false
bytes_eq-sym xs ys h =
    let there = bytes_eq-Decides xs ys in
    one_answer (bytes_eq ys xs) (bytes_eq xs ys) (bytes_eq-Decides ys xs) (
      (λ e. sym (there.0 e)),
      (λ e. there.1 (sym e)),
    ) ∙ h

pub names_differ-push : (specs : List Spec) (s : Spec) → names_differ specs ≡ true
    → is_named specs s.name ≡ false → names_differ (specs ++ s ∷ []) ≡ true
names_differ-push [] s h new = refl
names_differ-push (x ∷ specs) s h new =
    let parts = and_parts (not (is_named specs x.name)) (names_differ specs) h in
    let apart = or_parts (bytes_eq x.name s.name) (is_named specs s.name) new in
    let e : bytes_eq s.name x.name ≡ false = bytes_eq-sym x.name s.name apart.0 in
    let one : is_named (specs ++ s ∷ []) x.name
    ≡ (is_named specs x.name || (bytes_eq s.name x.name || false)) =
    list_any-append (λ d. bytes_eq d.name x.name) specs (s ∷ []) in
    rw (one, e, or-false, parts.0, names_differ-push specs s parts.1 apart.1) refl
