use Rattle.std.proofs.Common.{refl, ap, ◌<◌, length, arith}
use Rattle.usb_device.specs.{row_of}
use Rattle.usb_function.proofs.places.FirstPlaces.{length-row}
use Rattle.usb_function.proofs.packets.Loans.{written, loan_read}
use Rattle.usb_function.proofs.ports.Ports.place_mut.Goals as goal

pub index_mut-requires : goal.index_mut-requires
index_mut-requires c = omega (
  arith,
  c.requires,
  ap (λ k. length (row_of k)) c.self.view_is,
  length-row c.self.inside.places.items,
)

pub returns : goal.returns
returns c =
    let ps = c.self.inside.places.items in
    let within : c.args.i < length ps =
    omega (arith, c.requires, ap (λ k. length (row_of k)) c.self.view_is, length-row ps) in (
      (
        refl,
        λ w. rw (← c.self.view_is) (written ps c.args.i c.index_mut.result.now w within
            c.index_mut.ensures.value),
      ),
      record {
        lends = tt;
        value = rw (← c.self.view_is)
            (loan_read ps c.args.i c.index_mut.result.now within c.index_mut.ensures.value);
      },
    )
