-- The lines that tell what a text holds.
use Rattle.std.specs.Prelude.{ℕ, Bool, codes, List, [], ◌++◌, length, decimal, flat_map, Option}
use Rattle.std.specs.Prelude.{Some, None}
use Rattle.std.specs.Str.{chars}
use Rattle.usb_device.specs.{Spec}
use Rattle.usb_plan.specs.{bound_of, place_text, PlanFault}
use Rattle.usb_plan.specs.declared.fault.Place.{Place}
use Rattle.usb_plan.specs.declared.fault.PlanFault.TheVariants as plan
use Rattle.usb_remarks.specs.{Remark, remark_of, remark_words}
use Rattle.usb_world.specs.{PlanData}
use Rattle.usb_diagnosis.specs.declared.place.Spot.{Spot}
use Rattle.usb_diagnosis.specs.Place.{spot_text}
use Rattle.usb_diagnosis.specs.Shown.{text_shown}

-- WORD N
abbrev pub count_line : List ℕ → ℕ → List ℕ
count_line word n = word ++ codes " " ++ decimal n ++ codes "\n"

-- how many devices, events and damages a plan has, and its bound
unfoldable pub plan_lines : PlanData → List ℕ
plan_lines p =
    count_line (codes "devices") (length p.devices)
    ++ count_line (codes "events") (length p.events)
    ++ count_line (codes "damages") (length p.damages)
    ++ count_line (codes "bound") (bound_of p)

-- remark: device "NAME", ..
unfoldable pub remark_head : List ℕ → List ℕ
remark_head name = codes "remark: device \"" ++ text_shown (chars name) ++ codes "\", "

-- the line on a device that a host refuses for its bytes
unfoldable pub remark_line : Bool → Spec → Remark → List ℕ
remark_line wide spec remark =
    remark_head spec.name ++ remark_words wide spec remark ++ codes "\n"

abbrev pub line_if : Bool → Spec → Option Remark → List ℕ
line_if wide spec None = []
line_if wide spec (Some remark) = remark_line wide spec remark

-- such a line for each device that has a remark, and for no other; the host takes wide hubs or not
unfoldable pub remark_lines : Bool → List Spec → List ℕ
remark_lines wide devices = flat_map (λ spec. line_if wide spec (remark_of wide spec)) devices

-- what is reported of a plan
abbrev pub plan_report : PlanData → List ℕ
plan_report p = plan_lines p ++ remark_lines p.wide p.devices

-- the entry that a fault is told of
abbrev pub place_of : PlanFault → Option Place
place_of (plan.OnlyFar place) = Some place
place_of (plan.MissingKey place) = Some place
place_of (plan.BadValue place) = Some place
place_of (plan.BadHex place) = Some place
place_of (plan.UnknownDevice place) = Some place
place_of (plan.BadPath place) = Some place
place_of (plan.PortTaken place) = Some place
place_of (plan.PortEmpty place) = Some place
place_of plan.Syntax = None
place_of plan.Memory = None

-- what is wrong there
abbrev pub fault_name : PlanFault → List ℕ
fault_name plan.Syntax = codes "syntax"
fault_name (plan.OnlyFar place) = codes "when is for far alone"
fault_name (plan.MissingKey place) = codes "missing key"
fault_name (plan.BadValue place) = codes "bad value"
fault_name (plan.BadHex place) = codes "bad hex"
fault_name (plan.UnknownDevice place) = codes "unknown device"
fault_name (plan.BadPath place) = codes "bad path"
fault_name (plan.PortTaken place) = codes "port taken"
fault_name (plan.PortEmpty place) = codes "port empty"
fault_name plan.Memory = codes "out of memory"

-- an entry with its colon
abbrev pub place_words : Option Place → List ℕ
place_words None = []
place_words (Some place) = place_text place ++ codes ": "

-- plan: PLACE: FAULT
unfoldable pub fault_text : PlanFault → List ℕ
fault_text fault = codes "plan: " ++ place_words (place_of fault) ++ fault_name fault

-- FILE:LINE:COLUMN: plan: PLACE: FAULT
unfoldable pub first_line : List ℕ → Spot → PlanFault → List ℕ
first_line file at fault = file ++ spot_text at ++ codes ": " ++ fault_text fault ++ codes "\n"
