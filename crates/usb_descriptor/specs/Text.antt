-- String descriptors (9.6.7).
use Rattle.std.specs.Prelude.{ℕ, List, length, take, drop, ◌||◌, ◌==◌, ◌%◌, not, Result, Ok, Err}
use Rattle.std.specs.Prelude.{nat_lt, if◌then◌else◌, slice_index}
use Rattle.usb_request.specs.{STRING}
use Rattle.usb_descriptor.specs.declared.fault.DescriptorFault.{DescriptorFault}
use Rattle.usb_descriptor.specs.declared.fault.DescriptorFault.TheVariants.{Short, WrongType}
use Rattle.usb_descriptor.specs.declared.fault.DescriptorFault.TheVariants.{Length}
use Rattle.usb_descriptor.specs.Words.{words_of}

-- the units after the first two bytes, as far as bLength reaches
abbrev pub units_of : List ℕ → List ℕ
units_of bytes = words_of (drop 2 (take (slice_index bytes 0) bytes))

-- the units of the string descriptor that the bytes begin with, or the first fault
unfoldable pub string_of : List ℕ → Result (List ℕ) DescriptorFault
string_of bytes =
    if nat_lt (length bytes) 2 then Err Short
    else if not (slice_index bytes 1 == STRING) then Err WrongType
    else if slice_index bytes 0 % 2 == 1 || nat_lt (slice_index bytes 0) 2 || nat_lt (length bytes)
    (slice_index bytes 0) then Err Length
    else Ok (units_of bytes)
