use Rattle.std.proofs.Common.{sym, refl, arith, Err}
use Rattle.slab.specs.Slab.{get}
use Rattle.usb_bus.specs.{still}
use Rattle.usb_table.specs.{Transfer, NoDevice}
use Rattle.usb_table.proofs.levels.PathCalls.{SlotCall, placed_at, through_none, through_slot}
use Rattle.usb_table.proofs.TransferLeaves.{table_sends}
use Rattle.usb_table.proofs.table.DeviceTable.send.Goals as goal

-- the entry is written back with the pipes that the call left
passed : (g : _) (c : goal.After-self-1 g) → SlotCall c.args.path.now c.self.inside.entries
    c.self.inside.indexes c.in-Some.key.now c.index_mut.result.now c.send.new.self
passed g c = through_slot c.self.inside.entries c.self.invariant (sym c.in-Some.ensures.value)
    c.index_mut.ensures.value c.send.ensures.made

pub send-requires : goal.send-requires
send-requires g c = placed_at c.args.path.now c.self.inside.entries _ c.self.invariant.1
    (sym c.in-Some.ensures.value) c.index_mut.ensures.value

pub invariant_of-self : goal.invariant_of-self
invariant_of-self g c = ((passed g c).indexes, (passed g c).piped)

pub returns-in-Some : goal.returns-in-Some
returns-in-Some g c =
    let x = passed g c in
    rw (← c.self.view_is) (record {
      any_bus = (
        c.send.ensures.any_bus.0,
        c.send.ensures.any_bus.1,
        rw (x.was, x.is) c.send.ensures.any_bus.2,
      );
      through = x.goes;
      sends = λ known.
          table_sends c.args.path.now _ _ _ _ _ _ x.goes (c.send.ensures.traced known)
          c.args.choice c.args.bytes.now c.send.result
          (rw (x.was, x.is) (c.send.ensures.sent known));
    })

pub returns-in-None : goal.returns-in-None
returns-in-None g c =
    let x =
    through_none c.args.path.now (get c.self.inside.entries) _ _ c.self.invariant
    (sym c.in-None.ensures.value) in
    rw (← c.self.view_is) (record {
      any_bus = ((omega arith, refl), tt, rw x.was (refl, refl, refl));
      through = x.goes;
      sends = λ known.
          table_sends c.args.path.now _ _ _ _ _ _ x.goes still c.args.choice c.args.bytes.now
          (Err (Transfer NoDevice)) (rw x.was (refl, refl, refl));
    })
