-- The speed that a device is taken to have.
use Rattle.std.specs.Prelude.{ℕ, ◌==◌, ◌&&◌, not, nat_le, List, Bool, true, false}
use Rattle.std.specs.List.{list_all}
use Rattle.usb_request.specs.{HUB_CLASS}
use Rattle.usb_descriptor.specs.declared.item.Item.{Item}
use Rattle.usb_descriptor.specs.{Interface, Endpoint, Other, TransferType, Control, Isochronous}
use Rattle.usb_descriptor.specs.{Bulk, Interrupt, device_class, max_packet_0, items_of}
use Rattle.usb_descriptor.specs.{max_packet_size, transfer_of}
use Rattle.usb_entry.specs.EntryData.{EntryData}

-- low speed has control and interrupt endpoints alone (5.6.4, 5.8.4)
abbrev pub has_low_speed : TransferType → Bool
has_low_speed Control = true
has_low_speed Isochronous = false
has_low_speed Bulk = false
has_low_speed Interrupt = true

-- and packets of at most 8 bytes (5.5.3, 5.7.3)
abbrev pub fits_low_speed : List ℕ → Bool
fits_low_speed endpoint = has_low_speed (transfer_of endpoint) && nat_le (max_packet_size endpoint)
    8

abbrev pub item_fits : Item → Bool
item_fits (Interface bytes) = true
item_fits (Endpoint bytes) = fits_low_speed bytes
item_fits (Other bytes) = true

abbrev pub items_fit : List Item → Bool
items_fit items = list_all item_fits items

abbrev pub configs_fit : List (List ℕ) → Bool
configs_fit configs = list_all (λ config. items_fit (items_of config)) configs

-- a device is of low speed where all that it has fits it, and it is no hub (11.1)
unfoldable pub is_taken_low : EntryData → Bool
is_taken_low e = max_packet_0 e.device == 8 && not (device_class e.device == HUB_CLASS) &&
    configs_fit e.configs
