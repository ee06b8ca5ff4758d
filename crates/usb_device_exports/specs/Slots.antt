-- What a slot owns, and what passes between a handle and a call.
use base.Fml.{Fml, ftrue}
use denote.RawPtr.{Ptr}
use Rattle.std.specs.Prelude.{Some, None}
use Rattle.std.specs.declared.option.Option.{Option}
use Rattle.std.specs.Global.{Global}
use Rattle.std.specs.Box.Ownership.{box_owns}
use Rattle.std.specs.contracts.impls.GlobalAllocator.TheImpl.{ghosts}
use Rattle.usb_device_exports.specs.declared.devices.Devices.{Devices}
use Rattle.usb_device_exports.specs.contracts.devices.Devices.{the_row}

-- nothing, or the devices in their block and the right to free the block
abbrev pub slot_owns : Global → Ptr → Option Devices → Fml
slot_owns alloc p None = ftrue
slot_owns alloc p (Some x) = box_owns (ghosts.dealloc_token alloc) the_row p x
