-- What is written of a listing.
use Rattle.std.specs.Prelude.{ℕ, ◌+◌, ◌-◌, ◌^◌, ◌==◌, ◌++◌, List, codes, decimal, min}
use Rattle.std.specs.Prelude.{if◌then◌else◌}
use Rattle.usb_port.specs.{path_text}
use Rattle.usb_judge.specs.declared.judgement.Cause.{Cause}
use Rattle.usb_judge.specs.declared.judgement.Cause.TheVariants as cause
use Rattle.usb_verdict.specs.declared.fault.ListingFault.{ListingFault}
use Rattle.usb_verdict.specs.declared.fault.ListingFault.TheVariants as fault
use Rattle.usb_verdict.specs.declared.tally.Tally.{Tally}

-- Lines

-- `WORD N `
unfoldable pub line_head : List ℕ → ℕ → List ℕ
line_head word attempts = word ++ codes " " ++ decimal attempts ++ codes " "

unfoldable pub cause_text : Cause → List ℕ
cause_text cause.Twice = codes "listed twice"
cause_text cause.NotPlugged = codes "nothing plugged"
cause_text cause.NoHub = codes "hub not listed"
cause_text cause.SameAddress = codes "same address"
cause_text cause.Disabled = codes "port disabled"
cause_text cause.OtherDescriptor = codes "other descriptor"
cause_text cause.OtherSpeed = codes "other speed"
cause_text cause.OtherAddress = codes "other address"
cause_text cause.OtherConfiguration = codes "other configuration"
cause_text cause.OtherPorts = codes "other ports"
cause_text cause.TooMuchPower = codes "too much power"
cause_text cause.LeftEnabled = codes "left enabled"
cause_text cause.Missing = codes "not listed"

-- `wrong N PATH CAUSE`
unfoldable pub judgement_text : ℕ → List ℕ → Cause → List ℕ
judgement_text attempts path why =
    line_head (codes "wrong") attempts ++ path_text path ++ codes " " ++ cause_text why

unfoldable pub fault_text : ListingFault → List ℕ
fault_text fault.NoLine = codes "no line of a listing"
fault_text fault.BadPath = codes "bad path"
fault_text fault.BadNumber = codes "bad number"
fault_text fault.BadSpeed = codes "bad speed"
fault_text fault.BadHex = codes "bad hex"
fault_text fault.NoDevice = codes "no device before it"
fault_text fault.Memory = codes "out of memory"

-- `wrong N listing: TEXT`
unfoldable pub fault_line_text : ℕ → ListingFault → List ℕ
fault_line_text attempts why =
    line_head (codes "wrong") attempts ++ codes "listing: " ++ fault_text why

-- `note N PATH refused`
unfoldable pub refusal_text : ℕ → List ℕ → List ℕ
refusal_text attempts path =
    line_head (codes "note") attempts ++ path_text path ++ codes " refused"

-- The tally

-- `N listings right, M wrong`
unfoldable pub tally_text : ℕ → ℕ → List ℕ
tally_text right wrong =
    decimal right ++ codes " listings right, " ++ decimal wrong ++ codes " wrong"

abbrev pub no_listings : Tally
no_listings = record { right = 0; wrong = 0 }

-- one more, as far as 64 bits go
abbrev pub one_more : ℕ → ℕ
one_more n = min (n + 1) (2 ^ 64 - 1)

abbrev pub with_right : Tally → Tally
with_right t = record t { right = one_more t.right }

abbrev pub with_wrong : Tally → Tally
with_wrong t = record t { wrong = one_more t.wrong }

-- with a listing more that has this number of judgements
abbrev pub counted : ℕ → Tally → Tally
counted judgements t = if judgements == 0 then with_right t else with_wrong t
