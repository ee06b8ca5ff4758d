-- The rule that the bytes of a refused device break.
use Rattle.std.specs.Prelude.{ℕ, ◌==◌, Bool, true, false, List, [], ◌++◌, Option, None, Some, codes}
use Rattle.std.specs.Prelude.{nat_eq, if◌then◌else◌}
use Rattle.std.specs.List.{starts_with}
use Rattle.std.specs.Cmp.Lexicographic.{pointwise}
use Rattle.usb_device.specs.{Spec}
use Rattle.usb_world.specs.{Action, Plug, Unplug}
use Rattle.usb_world.specs.declared.event.Action.TheVariants.{Change, Ask}
use Rattle.usb_enum.specs.{Cause, Stalled, BadDevice, BadConfiguration, BadHub, Finding}
use Rattle.usb_enum.specs.declared.cause.Request.TheVariants as request
use Rattle.usb_enum.specs.declared.finding.Finding.TheVariants.{Device, Refused}
use Rattle.usb_remarks.specs.{Remark, remark_of, remark_words}
use Rattle.usb_remarks.specs.declared.remark.Remark.TheVariants as remark

-- the index of the device at a path after an action, where this one was there before
abbrev pub index_after : List ℕ → Option ℕ → Action → Option ℕ
index_after path before (Change (Plug place device)) = if pointwise nat_eq place path
    then Some device else before
index_after path before (Change (Unplug place)) = if starts_with nat_eq path place then None
    else before
index_after path before (Ask ask) = before

abbrev pub is_bad_device : Cause → Bool
is_bad_device BadDevice = true
is_bad_device cause = false

abbrev pub is_bad_configuration : ℕ → Cause → Bool
is_bad_configuration index (BadConfiguration number) = number == index
is_bad_configuration index cause = false

abbrev pub is_stalled_config : Cause → Bool
is_stalled_config (Stalled request.Config) = true
is_stalled_config cause = false

abbrev pub is_bad_hub : Cause → Bool
is_bad_hub BadHub = true
is_bad_hub cause = false

-- a host that comes to the bytes of this remark refuses the device for this cause
abbrev pub is_cause_of : Remark → Cause → Bool
is_cause_of (remark.Device fault) cause = is_bad_device cause
is_cause_of (remark.Text index part) cause = is_bad_configuration index cause
is_cause_of (remark.Repeated index) cause = is_bad_configuration index cause
is_cause_of (remark.Missing index) cause = is_stalled_config cause
is_cause_of remark.NoPorts cause = is_bad_hub cause
is_cause_of (remark.Hub fault) cause = is_bad_hub cause
is_cause_of remark.Status cause = is_bad_hub cause

-- what is said of a remark on a device that is refused for a cause, by a host that takes wide hubs
-- or not
abbrev pub rule_if : Bool → Spec → Cause → Option Remark → List ℕ
rule_if wide spec cause None = []
rule_if wide spec cause (Some remark) = if is_cause_of remark cause
    then codes "; " ++ remark_words wide spec remark else []

-- the rule that the bytes of what is plugged break
abbrev pub rule_of : Bool → Option Spec → Cause → List ℕ
rule_of wide None cause = []
rule_of wide (Some spec) cause = rule_if wide spec cause (remark_of wide spec)

-- the rule behind what was found: none of an accepted device
abbrev pub rule_text : Bool → Option Spec → Finding → List ℕ
rule_text wide spec (Device device) = []
rule_text wide spec (Refused cause) = rule_of wide spec cause
