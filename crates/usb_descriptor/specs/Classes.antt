-- What a device or an interface says it is, in words (9.6.1, 9.6.5).
use Rattle.std.specs.Prelude.{ℕ, ◌==◌, ◌&&◌, List, [], ◌∷◌, ◌++◌, Option, None, Some, Result, Ok}
use Rattle.std.specs.Prelude.{Err, codes, if◌then◌else◌, slice_index}
use Rattle.hex.specs.Hex.{encode_lower}
use Rattle.usb_descriptor.specs.declared.fault.DescriptorFault.{DescriptorFault}
use Rattle.usb_descriptor.specs.declared.item.Item.TheVariants.{Interface, Endpoint, Other}
use Rattle.usb_descriptor.specs.Config.{config_of}
use Rattle.usb_descriptor.specs.Device.{device_class}
use Rattle.usb_descriptor.specs.Item.{items_of}
use Rattle.usb_descriptor.specs.declared.item.Item.{Item}
use Rattle.usb_descriptor.specs.declared.class.ClassCodes.{ClassCodes}

-- bDeviceClass, bDeviceSubClass and bDeviceProtocol
abbrev pub device_codes : List ℕ → ClassCodes
device_codes bytes = record {
  class = device_class bytes;
  subclass = slice_index bytes 5;
  protocol =
      slice_index bytes 6;
}

-- bInterfaceClass, bInterfaceSubClass and bInterfaceProtocol
abbrev pub interface_codes : List ℕ → ClassCodes
interface_codes bytes = record {
  class = slice_index bytes 5;
  subclass = slice_index bytes 6;
  protocol = slice_index bytes 7;
}

abbrev pub no_codes : ClassCodes
no_codes = record { class = 0; subclass = 0; protocol = 0 }

-- those of the first interface, 0 where there is none
abbrev pub first_codes : List Item → ClassCodes
first_codes [] = no_codes
first_codes (Interface bytes ∷ items) = interface_codes bytes
first_codes (Endpoint bytes ∷ items) = first_codes items
first_codes (Other bytes ∷ items) = first_codes items

abbrev pub read_codes : Result (List ℕ) DescriptorFault → ClassCodes
read_codes (Ok text) = first_codes (items_of text)
read_codes (Err fault) = no_codes

-- those of a configuration text's first interface
unfoldable pub text_codes : List ℕ → ClassCodes
text_codes text = read_codes (config_of text)

-- a boot interface says by its protocol what it is
abbrev pub hid_word : ClassCodes → List ℕ
hid_word c =
    if c.subclass == 1 && c.protocol == 1 then codes "HID keyboard"
    else if c.subclass == 1 && c.protocol == 2 then codes "HID mouse"
    else codes "HID"

-- the word for a class, where it has one
unfoldable pub class_word : ClassCodes → Option (List ℕ)
class_word c =
    if c.class == 0x01 then Some (codes "audio")
    else if c.class == 0x02 then Some (codes "communications")
    else if c.class == 0x03 then Some (hid_word c)
    else if c.class == 0x05 then Some (codes "physical")
    else if c.class == 0x06 then Some (codes "image")
    else if c.class == 0x07 then Some (codes "printer")
    else if c.class == 0x08 then Some (codes "mass storage")
    else if c.class == 0x09 then Some (codes "hub")
    else if c.class == 0x0A then Some (codes "communications data")
    else if c.class == 0x0B then Some (codes "smart card")
    else if c.class == 0x0D then Some (codes "content security")
    else if c.class == 0x0E then Some (codes "video")
    else if c.class == 0x0F then Some (codes "health care")
    else if c.class == 0xDC then Some (codes "diagnostic")
    else if c.class == 0xE0 then Some (codes "wireless")
    else if c.class == 0xEF then Some (codes "miscellaneous")
    else if c.class == 0xFE then Some (codes "application-specific")
    else if c.class == 0xFF then Some (codes "vendor-specific")
    else None

abbrev pub word_or_number : Option (List ℕ) → ℕ → List ℕ
word_or_number (Some word) class = word
word_or_number None class = codes "class " ++ encode_lower (class ∷ [])

-- the word for a class, or its number
abbrev pub class_text : ClassCodes → List ℕ
class_text c = word_or_number (class_word c) c.class
