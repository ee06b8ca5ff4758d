use Rattle.std.proofs.Common.{sym, refl, arith, Err}
use Rattle.slab.specs.Slab.{get, with_value}
use Rattle.usb_table.proofs.levels.PathCalls.{idle_steps, CallThrough, device_found, device_none}
use Rattle.usb_table.proofs.levels.PathCalls.{set_slot, set_said, through_none}
use Rattle.usb_table.specs.{NoDevice, Transfer}
use Rattle.usb_table.proofs.transfers.InterfaceSets.{table_sets}
use Rattle.usb_table.proofs.table.DeviceTable.set_interface.Goals as goal

-- the entry is written back with the pipes that the call left
passed : (g : _) (c : goal.After-self-1 g) → CallThrough c.args.path.now (get c.self.inside.entries)
    (get (with_value c.self.inside.entries c.in-Some.key.now c.set_interface.new.self))
    c.self.inside.indexes.by_path.entries c.self.inside.indexes.by_address.entries
    c.index_mut.result.now.pipes c.set_interface.new.self.pipes
passed g c =
    rw c.set_interface.ensures.same (set_slot c.self.inside.entries c.self.invariant
    (sym c.in-Some.ensures.value) c.index_mut.ensures.value
    (rw (← c.is_below_hub-below_hub.ensures) c.set_interface.ensures.fits)
    (set_said c.index_mut.result.now.finding c.is_below_hub-below_hub.result c.args.interface
    c.args.setting c.index_mut.result.now.pipes c.set_interface.new.self.pipes
    c.set_interface.result c.args.bus.now c.set_interface.new.bus
    c.set_interface.ensures.any_bus.2))

pub set_interface-requires : goal.set_interface-requires
set_interface-requires g c =
    let piped = c.self.invariant.1 c.args.path.now c.in-Some.key.now c.index_mut.result.now
    (sym c.in-Some.ensures.value) c.index_mut.ensures.value in
    record { sound = piped.0; are = rw c.is_below_hub-below_hub.ensures piped.1 }

pub invariant_of-self : goal.invariant_of-self
invariant_of-self g c = ((passed g c).indexes, (passed g c).piped)

pub returns-in-Some : goal.returns-in-Some
returns-in-Some g c =
    let x = passed g c in
    let found =
    device_found (get c.self.inside.entries) c.args.path.now
    c.self.inside.indexes.by_path.entries c.in-Some.key.now c.index_mut.result.now
    (sym c.in-Some.ensures.value) c.index_mut.ensures.value in
    rw (← c.self.view_is) (record {
      any_bus = (
        c.set_interface.ensures.any_bus.0,
        c.set_interface.ensures.any_bus.1,
        rw (x.was, x.is, found, ← c.is_below_hub-below_hub.ensures)
            c.set_interface.ensures.any_bus.2,
      );
      through = x.goes;
      sets = λ known.
          table_sets c.args.path.now c.args.interface c.args.setting
          (omega (arith, c.ranges.interface.fits)) _ _ _ _ _ _ x.goes
          (c.set_interface.ensures.steps known) c.set_interface.result
          (rw (x.was, x.is, found, ← c.is_below_hub-below_hub.ensures)
          (c.set_interface.ensures.sent known));
    })

pub returns-in-None : goal.returns-in-None
returns-in-None g c =
    let x =
    through_none c.args.path.now (get c.self.inside.entries) _ _ c.self.invariant
    (sym c.in-None.ensures.value) in
    let none =
    device_none (get c.self.inside.entries) c.args.path.now
    c.self.inside.indexes.by_path.entries (sym c.in-None.ensures.value) in
    rw (← c.self.view_is) (record {
      any_bus = ((omega arith, refl), tt, rw (x.was, none) (refl, refl, refl));
      through = x.goes;
      sets = λ known.
          table_sets c.args.path.now c.args.interface c.args.setting
          (omega (arith, c.ranges.interface.fits)) _ _ _ _ _ _ x.goes
          (idle_steps 1600 _ _) (Err (Transfer NoDevice))
          (rw (x.was, none) (refl, refl, refl));
    })
