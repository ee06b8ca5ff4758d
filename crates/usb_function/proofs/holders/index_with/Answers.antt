use Rattle.std.proofs.Common.{◌≡◌, ◌||◌, false, ap, sym, ◌∙◌}
use Rattle.usb_device.specs.{reached_at_path, meets_again}
use Rattle.usb_device.proofs.places.PartedIndexes.{noted_shared}
use Rattle.usb_function.proofs.holders.index_with.Goals as goal

pub returns-else-shared-clause-shared : goal.returns-else-shared-clause-shared
returns-else-shared-clause-shared c =
    let k = c.args.roots.now in
    let p = c.args.path.now in
    let h = c.args.holders.now in
    let single : c.args.shared ≡ false = cc in
    c.note_at_path-met.ensures.met
    ∙ ap (λ b. b || meets_again (reached_at_path k p) h) (sym single ∙ c.requires.shared)
    ∙ noted_shared k p h c.requires.length c.requires.index c.note_at_path-met.ensures.bytes
