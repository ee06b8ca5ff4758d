-- What an endpoint is wanted for, as a pick of endpoints.
use Rattle.std.specs.Prelude.{ℕ, List, Option}
use Rattle.usb_descriptor.specs.declared.choice.Purpose.{Purpose}
use Rattle.usb_descriptor.specs.declared.choice.Purpose.TheVariants.{BulkOut, BulkIn, Status}
use Rattle.usb_descriptor.specs.declared.choice.Purpose.TheVariants.{InterruptIn}
use Rattle.usb_descriptor.specs.Choice.{bulk_out_at, bulk_in_at, status_at}
use Rattle.usb_descriptor.specs.Choice.{interrupt_in_at}

abbrev pub pick_of : Purpose → List ℕ → Option (ℕ × ℕ)
pick_of BulkOut = bulk_out_at
pick_of BulkIn = bulk_in_at
pick_of Status = status_at
pick_of InterruptIn = interrupt_in_at
