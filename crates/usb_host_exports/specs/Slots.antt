-- What a slot owns, and what passes between a handle and a call.
use base.Fml.{Fml, ftrue}
use denote.RawPtr.{Ptr}
use Rattle.std.specs.Prelude.{Some, None}
use Rattle.std.specs.declared.option.Option.{Option}
use Rattle.std.specs.Global.{Global}
use Rattle.std.specs.Box.Ownership.{box_owns}
use Rattle.std.specs.contracts.impls.GlobalAllocator.TheImpl.{ghosts}
use Rattle.usb_dialogue.specs.declared.driver.Driver.{Driver}
use Rattle.usb_dialogue.specs.contracts.driver.Driver.{the_row}

-- nothing, or the driver in its block and the right to free the block
abbrev pub slot_owns : Global → Ptr → Option Driver → Fml
slot_owns alloc p None = ftrue
slot_owns alloc p (Some x) = box_owns (ghosts.dealloc_token alloc) the_row p x
