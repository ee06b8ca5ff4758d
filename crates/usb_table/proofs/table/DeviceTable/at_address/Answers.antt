-- The slab has what the address's key names.
use Rattle.std.proofs.Common.{◌∙◌, sym, ap, Some}
use Rattle.slab.specs.Slab.{get}
use Rattle.usb_table.proofs.entries.Keys.{addressed_stands, has_device, key_of_address-no_device}
use Rattle.usb_table.proofs.entries.Keys.{findings-standing, some_standing}
use Rattle.usb_table.proofs.table.DeviceTable.at_address.Goals as goal

pub index-requires : goal.index-requires
index-requires c =
    some_standing (get c.self.inside.entries) c.in-Some.key.now
    (addressed_stands _ _ _ c.number.result c.in-Some.key.now c.self.invariant.0
    (sym c.in-Some.ensures.value))

pub returns-in-Some-clause-some : goal.returns-in-Some-clause-some
returns-in-Some-clause-some c =
    let is = rw c.number.ensures.value at (sym c.in-Some.ensures.value) in
    rw (← c.self.view_is)
    (has_device _ _ _ c.args.address c.in-Some.key.now c.finding.result.now c.self.invariant.0 is
    (findings-standing (get c.self.inside.entries) c.in-Some.key.now c.index.result.now
    c.index.ensures
    ∙ ap Some (sym c.finding.ensures)))

pub returns-in-None-clause-none : goal.returns-in-None-clause-none
returns-in-None-clause-none c =
    let is = rw c.number.ensures.value at (sym c.in-None.ensures.value) in
    rw (← c.self.view_is) (key_of_address-no_device _ _ _ c.args.address c.self.invariant.0 is)
