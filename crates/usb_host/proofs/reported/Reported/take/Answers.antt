use Rattle.std.proofs.Common.{◌≡◌, ◌∙◌, refl, Some}
use Rattle.std.proofs.lemmas.Option.{slice_get_read}
use Rattle.std.specs.BTreeMap.{is_at}
use Rattle.std.specs.List.{slice_get}
use Rattle.std.specs.Map.{remove_entry}
use Rattle.usb_port.specs.{path_cmp}
use Rattle.usb_host.proofs.arrivals.News.{removed_at, rise_removed}
use Rattle.usb_host.proofs.reported.Reported.take.Goals as goal

there : (c : goal.After-path)
    → slice_get c.args.self.now c.args.place ≡ Some (c.path.inside.path, c.path.inside.number)
there c = slice_get_read _ _ c.args.place _ refl c.requires
    (c.path.view_is ∙ c.remove.ensures.value ∙ rw c.self.view_is (rw c.path.view_is refl))

rest : (c : goal.After-path) → c.remove.new.self.items
    ≡ remove_entry (is_at (path_cmp c.path.inside.path)) c.args.self.now
rest c = c.remove.ensures.items ∙ rw c.self.view_is (removed_at c.args.self.now c.args.place _
    (rw c.self.view_is at c.self.invariant) (there c))

pub invariant_of-self : goal.invariant_of-self
invariant_of-self c = rw (rest c) (rise_removed (is_at (path_cmp c.path.inside.path))
    c.args.self.now (rw c.self.view_is at c.self.invariant))

pub returns-clause-takes : goal.returns-clause-takes
returns-clause-takes c = record { number = c.path.inside.number; at = there c; rest = rest c }
