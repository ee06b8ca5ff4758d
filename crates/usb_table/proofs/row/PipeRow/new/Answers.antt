use Rattle.std.proofs.Common.{◌≡◌, ◌∙◌, ◌&&◌, ℕ, Bool, true, List, [], ◌∷◌, Option, None, Some}
use Rattle.std.proofs.Common.{length, map, refl, replicate, sym}
use Rattle.std.specs.Option.{is_none}
use Rattle.usb_descriptor.specs.{UsableEndpoint, end_at}
use Rattle.usb_device.specs.{end_numbers}
use Rattle.usb_transfer.specs.{Target}
use Rattle.usb_table.specs.{has_no_end, new_pipe}
use Rattle.usb_table.proofs.row.PipeRow.new.Goals as goal

none_first : (target : Target) (is_in : Bool) (e : ℕ) (end : Option UsableEndpoint) (rest : Bool)
    → (is_none end && rest) ≡ true → (new_pipe target is_in e end ≡ None) × (rest ≡ true)
none_first target is_in e None rest is = (refl, is)
none_first target is_in e (Some end) rest is = cc is

none_made : (target : Target) (is_in : Bool) (ends : ℕ → Option UsableEndpoint) (es : List ℕ)
    → has_no_end ends es ≡ true
    → map (λ e. new_pipe target is_in e (ends e)) es ≡ replicate (length es) None
none_made target is_in ends [] is = refl
none_made target is_in ends (e ∷ more) is =
    let here = none_first target is_in e (ends e) (has_no_end ends more) is in
    let behind = none_made target is_in ends more here.1 in
    rw (here.0, behind) refl

pub returns-then-has_no_end : goal.returns-then-has_no_end
returns-then-has_no_end c =
    sym (none_made c.args.target c.args.is_in (end_at c.args.ends.now c.args.is_in) end_numbers
    (sym c.has_no_end.ensures ∙ c.if-has_no_end.true))
