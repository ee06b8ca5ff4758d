use Rattle.std.proofs.Common.{◌∙◌, sym}
use Rattle.toml.specs.View.{table_view}
use Rattle.usb_plan.specs.{Memory, read_device}
use Rattle.usb_plan.proofs.Parts.{identity_of_ok, quirks_of_ok, read_bulk_ok}
use Rattle.usb_plan.proofs.MemoryRefusals.{unless_ok, device_unless}
use Rattle.usb_plan.proofs.device.read_device.Goals as goal

pub device_with-requires : goal.device_with-requires
device_with-requires c =
    let ms = table_view c.args.table.now in
    record {
      hub = λ x e. identity_of_ok c.args.wide c.args.earlier.now ms x
          (unless_ok Memory c.identity_of-identity.result _ x c.identity_of-identity.ensures e);
      naks = λ x e. quirks_of_ok ms x (sym c.quirks_of-quirks.ensures ∙ e);
      halt = λ x e. read_bulk_ok ms x (unless_ok Memory c.read_bulk-bulk.result _ x
          c.read_bulk-bulk.ensures e);
    }

pub returns : goal.returns
unfolding read_device
returns c = rw (
  c.device_with.ensures,
  c.quirks_of-quirks.ensures,
  c.keys_at-keys.ensures,
  c.device_room-room.ensures,
) (device_unless c.identity_of-identity.result _
    c.device_texts_of-texts.result _ _ c.read_bulk-bulk.result _
    c.device_tables_of-tables.result _ _ _
    c.identity_of-identity.ensures c.device_texts_of-texts.ensures c.read_bulk-bulk.ensures
    c.device_tables_of-tables.ensures)
