use Rattle.std.proofs.Common.{length, ap, arith}
use Rattle.usb_device.specs.{row_of}
use Rattle.usb_device.proofs.packets.Loans.{child-within}
use Rattle.usb_function.proofs.children.DeviceParent.place_of.Goals as goal

pub place_mut-requires : goal.place_mut-requires
place_mut-requires c =
    omega (
      arith,
      c.from.ensures,
      child-within c.args.self.now.ports c.args.port c.requires,
      ap (λ t. length (row_of t.ports)) c.self.view_is,
    )
