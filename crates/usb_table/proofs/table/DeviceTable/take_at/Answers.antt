-- What is taken out leaves its key vacant.
use Rattle.std.proofs.Common.{◌∙◌, sym, ap, ℕ, List, Option, Some, None, IfNone}
use Rattle.std.specs.BTreeMap.{BTreeMap}
use Rattle.slab.specs.Slab.{get}
use Rattle.usb_table.specs.{findings, key_of_path, removed}
use Rattle.usb_table.proofs.entries.Keys.{entries_of-key, findings-standing, entries-has_at}
use Rattle.usb_table.proofs.entries.EnteredFindings.{OneMore, go, go_piped, go_table, left_one}
use Rattle.usb_table.proofs.table.DeviceTable.take_at.Goals as goal

on_none : {A : Type 0} (r : Option A) (P : Type 0) → P → IfNone r P
on_none None P p = p
on_none (Some x) P p = tt

pub returns-in_err-first-clause-none : goal.returns-in_err-first-clause-none
returns-in_err-first-clause-none c =
    let s = c.self.inside in
    on_none c.from_residual.result _ (rw (← c.self.view_is)
    (entries-has_at (findings (get s.entries)) c.args.path.now s.indexes.by_path.entries
    ∙ c.in_err-first.ensures.none))

went : (c : goal.After-into_finding) → OneMore (get c.remove-entry.new.self)
    (get c.self.inside.entries) c.remove_address.new.self.by_path.entries
    c.self.inside.indexes.by_path.entries c.remove_address.new.self.by_address.entries
    c.self.inside.indexes.by_address.entries c.in_ok-first.first c.in_ok-key.key
    c.remove-entry.result
went c =
    let s = c.self.inside in
    left_one (get c.remove-entry.new.self) (get s.entries) c.in_ok-first.first c.in_ok-key.key
    c.remove-entry.result c.remove-entry.ensures.updates.changed c.remove-entry.ensures.value
    (λ k ne. sym (c.remove-entry.ensures.updates.others k ne)) s.indexes.by_path.entries
    c.remove_address.new.self.by_path.entries s.indexes.by_address.entries
    c.remove_address.new.self.by_address.entries c.self.invariant.0 (sym c.in_ok-key.ensures.value)
    (λ q. ap (λ (m : BTreeMap (List ℕ) ℕ). key_of_path m.entries q) c.remove_address.ensures.paths
    ∙ c.in_ok-key.ensures.updates.0 q)
    (rw (c.address_number.ensures, c.finding.ensures) at c.remove_address.ensures.keys)

pub invariant_of-self-2 : goal.invariant_of-self-2
invariant_of-self-2 c =
    let are = c.self.invariant.0 in (go (went c) are, go_piped (went c) are c.self.invariant.1)

pub returns-clause-some : goal.returns-clause-some
returns-clause-some c =
    let s = c.self.inside in
    let left = ap (λ (m : BTreeMap (List ℕ) ℕ). m.entries) c.remove_address.ensures.paths in
    record {
      first = c.in_ok-first.first;
      at = c.in_ok-first.ensures.some;
      found = rw (← c.self.view_is)
          (entries_of-key (findings (get s.entries)) c.in_ok-first.first s.indexes.by_path.entries
          c.in_ok-key.key c.remove-entry.result.finding (sym c.in_ok-key.ensures.value)
          (findings-standing (get s.entries) c.in_ok-key.key c.remove-entry.result
          c.remove-entry.ensures.value)
          ∙ ap Some (sym c.into_finding.ensures));
      rest =
          go_table (went c) c.self.invariant.0 (left ∙ c.in_ok-key.ensures.entries)
          (rw left c.in_ok-key.ensures.ordered)
          ∙ ap (removed c.in_ok-first.first) c.self.view_is;
    }
