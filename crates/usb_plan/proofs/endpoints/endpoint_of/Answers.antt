use Rattle.usb_plan.specs.{endpoint_of}
use Rattle.usb_plan.proofs.MemoryRefusals.{endpoint_unless}
use Rattle.usb_plan.proofs.endpoints.endpoint_of.Goals as goal

pub returns : goal.returns
unfolding endpoint_of
returns c = rw (
  c.endpoint_with.ensures,
  c.address_at-address.ensures,
  c.halt_at-halt_after.ensures,
  c.endpoint_naks-naks.ensures,
  c.keys_at-keys.ensures,
  c.value_at.ensures,
  c.value_at-2.ensures,
  c.value_at-3.ensures,
) (endpoint_unless _ c.data_of-given.result _ _ _ _ c.data_of-given.ensures)
