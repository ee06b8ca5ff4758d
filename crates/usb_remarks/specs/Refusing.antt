-- What a remark says: a reader's own fault, and the host's verdict.
use Rattle.std.specs.Prelude.{◌≡◌, ℕ, Bool, true, false, List, take, Result, Ok, Err, is_ok}
use Rattle.usb_request.specs.{CONFIGURATION_LENGTH}
use Rattle.usb_descriptor.specs.{DescriptorFault, Short, config_head_of, config_of}
use Rattle.usb_device.specs.{Spec}
use Rattle.usb_enum.specs.{BadConfiguration, BadDevice, BadHub, Busy, Cause, Lost, NoAddress}
use Rattle.usb_enum.specs.{NoPower, Silent, Stalled, TooDeep, TooLarge, text_read, usual_options}
use Rattle.usb_enum.specs.{verdict}
use Rattle.usb_remarks.specs.declared.text.TextRemark.{TextRemark}
use Rattle.usb_remarks.specs.declared.text.TextRemark.TheVariants.{Cut, Head, Item}

-- the fault that a remark speaks of
abbrev pub fault_in : TextRemark → DescriptorFault
fault_in (Head fault) = fault
fault_in Cut = Short
fault_in (Item at fault) = fault

-- of a text whose first nine bytes were read as this: it is the fault of these bytes, or else of
-- all that is read
abbrev pub IsOwnOf : Result ℕ DescriptorFault → List ℕ → TextRemark → Type 0
IsOwnOf (Err fault) text remark = remark ≡ Head fault
IsOwnOf (Ok total) text remark = config_of (text_read text) ≡ Err (fault_in remark)

-- the remark speaks of the reader's own fault
abbrev pub IsOwn : List ℕ → TextRemark → Type 0
IsOwn text remark = IsOwnOf (config_head_of (take CONFIGURATION_LENGTH text)) text remark

-- the cause is a descriptor that is malformed, or a value that is repeated
abbrev pub is_of_descriptor : Cause → Bool
is_of_descriptor Silent = false
is_of_descriptor Busy = false
is_of_descriptor (Stalled request) = false
is_of_descriptor BadDevice = true
is_of_descriptor TooDeep = false
is_of_descriptor (BadConfiguration index) = true
is_of_descriptor TooLarge = false
is_of_descriptor NoPower = false
is_of_descriptor BadHub = false
is_of_descriptor Lost = false
is_of_descriptor NoAddress = false

abbrev pub blames_descriptor : Result ℕ Cause → Bool
blames_descriptor (Ok chosen) = false
blames_descriptor (Err cause) = is_of_descriptor cause

-- where a host refuses the device, one that takes wide hubs or not, that is for another cause
abbrev pub BlamesNoDescriptor : Bool → Spec → Type 0
BlamesNoDescriptor wide spec = (tier supply : ℕ)
    → blames_descriptor (verdict spec (usual_options wide) tier supply) ≡ false

-- a host accepts the device in no tier and at no port
abbrev pub IsRefused : Bool → Spec → Type 0
IsRefused wide spec = (tier supply : ℕ)
    → is_ok (verdict spec (usual_options wide) tier supply) ≡ false
