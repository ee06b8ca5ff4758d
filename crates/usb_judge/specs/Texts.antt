-- The lines of remarks.
use Rattle.std.specs.Prelude.{ℕ, List, ◌++◌, codes, decimal, Bool, true, false, if◌then◌else◌}
use Rattle.usb_port.specs.{path_text}
use Rattle.usb_judge.specs.declared.remark.Remark.{Remark}
use Rattle.usb_judge.specs.declared.remark.Remark.TheVariants as remark

-- a host may address a device that has just left, and a device may send more than it asks for; all
-- else is its fault
abbrev pub is_fault : Remark → Bool
is_fault remark.Nobody = false
is_fault remark.Babble = false
is_fault other = true

unfoldable pub remark_words : Remark → List ℕ
remark_words remark.TwoDevices = codes "two devices"
remark_words remark.OtherSpeed = codes "other speed"
remark_words remark.TooLong = codes "packet too long"
remark_words remark.OtherToggle = codes "toggle"
remark_words remark.SkippedRetry = codes "no retry"
remark_words remark.Nobody = codes "nobody"
remark_words remark.Babble = codes "babble"

-- `wrong N` of a fault, else `note N`
unfoldable pub head_text : Bool → ℕ → List ℕ
head_text fault number = (if fault then codes "wrong " else codes "note ") ++ decimal number

-- `wrong N address A WORDS`, or `note N address A WORDS`
unfoldable pub remark_text : ℕ → ℕ → Remark → List ℕ
remark_text number address r = head_text (is_fault r) number ++ codes " address "
    ++ decimal address ++ codes " " ++ remark_words r

-- `wrong N PATH other data`
unfoldable pub data_text : ℕ → List ℕ → List ℕ
data_text number path = head_text true number ++ codes " " ++ path_text path ++ codes " other data"

-- `note N port P empty`
unfoldable pub empty_text : ℕ → ℕ → List ℕ
empty_text number port = head_text false number ++ codes " port " ++ decimal port ++ codes " empty"
