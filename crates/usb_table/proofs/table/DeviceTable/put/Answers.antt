-- What is put stands under a key that was vacant.
use Rattle.std.proofs.Common.{◌≡◌, ◌∙◌, sym, ap, Result, Ok, Err, OnErr}
use Rattle.slab.specs.Slab.{Slab, get}
use Rattle.usb_table.specs.{Entry, findings, address_found, with_entry}
use Rattle.usb_table.proofs.entries.Keys.{away_key, free_key}
use Rattle.usb_table.proofs.entries.EnteredFindings.{OneMore, come, come_piped, come_table}
use Rattle.usb_table.proofs.entries.EnteredFindings.{entered_one}
use Rattle.usb_table.proofs.table.DeviceTable.put.Goals as goal

on_err : {A E : Type 0} (r : Result A E) (P : Type 0) → P → OnErr r P
on_err (Ok x) P p = tt
on_err (Err x) P p = p

pub insert-requires : goal.insert-requires
insert-requires c =
    rw (c.address_number-address.ensures, c.finding.ensures)
    (free_key _ _ _ c.args.entry.finding c.self.invariant.0
    (rw (← c.self.view_is) at c.requires.address))

pub invariant_of-self : goal.invariant_of-self
invariant_of-self c = rw c.reserve.ensures.rest_kept c.self.invariant

pub returns-in_err-reserve-clause-err : goal.returns-in_err-reserve-clause-err
returns-in_err-reserve-clause-err c = on_err c.from_residual.result _
    (rw c.reserve.ensures.rest_kept c.self.view_is)

pub invariant_of-self-in_err-insert : goal.invariant_of-self-in_err-insert
invariant_of-self-in_err-insert c =
    rw (
      c.in_err-insert.ensures.paths,
      c.in_err-insert.ensures.addresses,
      c.reserve.ensures.rest_kept,
    ) c.self.invariant

pub returns-in_err-insert-clause-err : goal.returns-in_err-insert-clause-err
returns-in_err-insert-clause-err c = on_err c.from_residual-in_err-insert.result _
    (rw (c.in_err-insert.ensures.paths, c.reserve.ensures.rest_kept) c.self.view_is)

came : (c : goal.After-insert_reserved) → OneMore (get c.self.inside.entries)
    (get c.insert_reserved.new.self) c.self.inside.indexes.by_path.entries
    c.insert.new.self.by_path.entries c.self.inside.indexes.by_address.entries
    c.insert.new.self.by_address.entries c.args.path c.vacant_key-key.result c.args.entry
came c =
    let s = c.self.inside in
    let kept = c.reserve.ensures.rest_kept in
    let same : c.insert_reserved.result ≡ c.vacant_key-key.result = c.insert_reserved.ensures.key
    ∙ sym c.vacant_key-key.ensures.value in
    let updates = rw same at c.insert_reserved.ensures.updates in
    let address : c.address_number-address.result ≡ address_found c.args.entry.finding =
    c.address_number-address.ensures ∙ ap address_found c.finding.ensures in
    entered_one (get s.entries) (get c.insert_reserved.new.self) c.args.path c.vacant_key-key.result
    c.args.entry
    (rw kept at c.vacant_key-key.ensures.vacant)
    updates.changed
    (λ k ne. updates.others k ne ∙ ap (λ (t : Slab Entry). get t k) kept) s.indexes
    c.insert.new.self
    (away_key (findings (get s.entries)) c.args.path s.indexes.by_path.entries
    (rw (← c.self.view_is) at c.requires.away))
    (free_key _ _ _ c.args.entry.finding c.self.invariant.0
    (rw (← c.self.view_is) at c.requires.address))
    (rw address at c.in_ok-insert.ensures.ok)

pub invariant_of-self-2 : goal.invariant_of-self-2
invariant_of-self-2 c =
    let are = c.self.invariant.0 in (
      come (came c) are,
      come_piped (came c) are c.self.invariant.1 c.requires.fits,
    )

pub returns-clause-ok : goal.returns-clause-ok
returns-clause-ok c =
    come_table (came c) c.self.invariant.0 c.in_ok-insert.ensures.ok.paths
    c.in_ok-insert.ensures.ok.rises
    ∙ ap (with_entry c.args.path c.args.entry.finding c.args.entry.pipes) c.self.view_is
