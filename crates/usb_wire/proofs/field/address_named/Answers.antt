use Rattle.usb_wire.proofs.EndpointLemmas.{address_named-bytes, address_named-none}
use Rattle.usb_wire.proofs.field.address_named.Goals as goal

pub returns-in-Ok : goal.returns-in-Ok
returns-in-Ok c = rw (c.address_spelled.ensures, c.as_bytes.ensures.value, c.as_slice.ensures.value)
    (address_named-bytes c.args.word.now _ c.in-Ok.ensures)

pub returns-in-Err : goal.returns-in-Err
returns-in-Err c = address_named-none c.args.word.now _ c.in-Err.ensures
