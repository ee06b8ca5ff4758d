use mir.Raw.{raw}
use base.Shift.{Keyless}
use denote.Memory.{lone}
use denote.RawPtr.{Ptr}
use denote.Struct.Struct.{exits_of}
use denote.Struct.Owning.{shape, fields, to}
use denote.Param.Send.{IsSend, AllSend, owning_send, struct_send, sendable}
use Rattle.std.proofs.Crossing as heap
use Rattle.std_alloc.proofs.SendSync.{quiet, lies}
use Rattle.std.proofs.alloc.Global.TheSendSync as of_heap
use Rattle.std.specs.Prelude.{Some, None}
use Rattle.std.specs.Global.{Global}
use Rattle.std.specs.declared.option.Option.{Option}
use Rattle.usb_dialogue.specs.declared.driver.Driver.{Driver}
use Rattle.usb_dialogue.specs.contracts.driver.Driver as driver
use Rattle.usb_dialogue.proofs.driver.Driver.TheSendSync.{the_send}
use Rattle.usb_host_exports.specs.{slot_owns}
use Rattle.usb_host_exports.specs.contracts.slot.Slot.{the_row, the_type}

slot_keyless : (a : Global) (p : Ptr) (m : Option Driver) → Keyless (slot_owns a p m)
slot_keyless a p None = tt
slot_keyless a p (Some x) =
    (lies driver.the_row the_send p x, heap.frees.frees a (raw (lone driver.the_row.mir)) p)

pub send : IsSend the_row
send =
    let all : AllSend (fields the_type) = (search sendable, (of_heap.the_field_send, tt)) in
    owning_send the_type all (λ d. slot_keyless d.alloc d.at d.held)
    (λ k. quiet (to the_type) (exits_of k (fields the_type))
    ((struct_send (shape the_type) all).leaving k))
