use Rattle.std.proofs.Common.{[], ◌∷◌, refl, sym}
use Rattle.usb_device.specs.{called}
use Rattle.usb_function.proofs.Interface.{index_around, index_called}
use Rattle.usb_sim.proofs.sim.bus.call_at.Goals as goal

pub returns-then-keeps_enable-clause-index : goal.returns-then-keeps_enable-clause-index
returns-then-keeps_enable-clause-index c =
    index_called c.args.holders.now c.args.call c.args.roots.now c.call.new.self c.args.port
    (sym c.if-keeps_enable.ensures) c.call.ensures c.requires

pub note-requires : goal.note-requires
note-requires c =
    index_around c.forget-forgotten.new.self (called c.args.call) c.args.roots.now c.call-2.new.self
    (c.args.port ∷ []) c.call-2.ensures (c.if-forgotten.ensures.forgotten refl)
