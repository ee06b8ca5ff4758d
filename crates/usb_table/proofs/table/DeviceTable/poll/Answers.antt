use Rattle.std.proofs.Common.{sym, refl, arith, Ok, None}
use Rattle.slab.specs.Slab.{get}
use Rattle.usb_table.proofs.levels.PathCalls.{idle_steps, SlotCall, through_none, through_slot}
use Rattle.usb_table.proofs.transfers.HubPolls.{table_polls}
use Rattle.usb_table.proofs.table.DeviceTable.poll.Goals as goal

-- the entry is written back with the pipes that the call left
passed : (g : _) (c : goal.After-self-1 g) → SlotCall c.args.hub.now c.self.inside.entries
    c.self.inside.indexes c.in-Some.key.now c.index_mut.result.now c.poll.new.self
passed g c = through_slot c.self.inside.entries c.self.invariant (sym c.in-Some.ensures.value)
    c.index_mut.ensures.value c.poll.ensures.made

pub invariant_of-self : goal.invariant_of-self
invariant_of-self g c = ((passed g c).indexes, (passed g c).piped)

pub returns-in-Some : goal.returns-in-Some
returns-in-Some g c =
    let x = passed g c in
    rw (← c.self.view_is) (record {
      any_bus = c.poll.ensures.any_bus;
      through = x.goes;
      polls = λ known.
          table_polls c.args.hub.now _ _ _ _ _ _ c.poll.result x.goes (c.poll.ensures.steps known)
          (rw (x.was, x.is) (c.poll.ensures.polled known));
    })

pub returns-in-None : goal.returns-in-None
returns-in-None g c =
    let x =
    through_none c.args.hub.now (get c.self.inside.entries) _ _ c.self.invariant
    (sym c.in-None.ensures.value) in
    rw (← c.self.view_is) (record {
      any_bus = ((omega arith, refl), tt);
      through = x.goes;
      polls = λ known.
          table_polls c.args.hub.now _ _ _ _ _ _ (Ok None) x.goes
          (idle_steps 768 _ _) (rw x.was (refl, refl, refl));
    })
