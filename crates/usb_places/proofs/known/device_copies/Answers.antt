use Rattle.std.proofs.Common.{◌≡◌, take, get_or, false}
use Rattle.usb_device.specs.{is_named}
use Rattle.usb_places.proofs.Copies.{named_apart}
use Rattle.usb_places.proofs.known.device_copies.Goals as goal

pub push-requires-clause-name : goal.push-requires-clause-name
push-requires-clause-name c =
    let xs = c.args.devices.now in
    let i = c.devices.device-index in
    let it = c.device-item.result in
    let name : is_named (take i xs) (get_or xs i it).name ≡ false =
    named_apart xs i it c.requires.names c.devices-test.true in
    rw (c.devices.invariant, c.in_ok-try_clone.ensures) (rw (← c.device-item.is) at name)
