-- What is told of a text.
use Rattle.std.specs.Prelude.{◌≡◌, ◌≢◌, ⊤, ℕ, List, Option, None, Some, Result, Ok, Err, IsUtf8}
use Rattle.std.specs.Io.KnownBytes.{Appends}
use Rattle.toml.specs.Data.{Members}
use Rattle.toml.specs.Parse.{parse_document}
use Rattle.usb_watch.specs.{AppendsFront}
use Rattle.usb_plan.specs.{spelled_plan, PlanFault}
use Rattle.usb_plan.specs.declared.fault.PlanFault.TheVariants as plan
use Rattle.usb_world.specs.{PlanData}
use Rattle.usb_diagnosis.specs.declared.checking.CheckFault.{CheckFault}
use Rattle.usb_diagnosis.specs.declared.checking.CheckFault.TheVariants.{Write, Memory}
use Rattle.usb_diagnosis.specs.declared.checking.Verdict.{Verdict}
use Rattle.usb_diagnosis.specs.declared.checking.Verdict.TheVariants.{Plan, Refused}
use Rattle.usb_diagnosis.specs.declared.place.Spot.{Spot}
use Rattle.usb_diagnosis.specs.Listing.{IsLed, ListsFaults}
use Rattle.usb_diagnosis.specs.Place.{IsColumnIn, IsSpotIn}
use Rattle.usb_diagnosis.specs.Report.{plan_report, first_line}

-- the text spells a plan, and the lines are its counts, its bound, and a remark on each device that
-- a host refuses for its bytes
pub record TellsPlan (text lines : List ℕ) : Type 0 where
  pub plan : PlanData
  pub spelled : spelled_plan text ≡ Ok plan
  pub told : lines ≡ plan_report plan

-- they begin with the file, a spot of the text and the fault; where the text is no document a
-- column is told
pub record BeginsAt (file text : List ℕ) (fault : PlanFault) (lines : List ℕ) : Type 0 where
  pub spot : Spot
  pub found : IsSpotIn text spot
  pub garbled : parse_document text ≡ None → IsColumnIn text spot
  pub led : IsLed (first_line file spot fault) lines

-- of a text that is a document, the lines are those on its faults
abbrev pub ListsIn : List ℕ → List ℕ → PlanFault → List ℕ → Option Members → Type 0
ListsIn file text fault lines None = ⊤
ListsIn file text fault lines (Some document) = ListsFaults file text document fault lines

-- the text is no plan, for this fault, with which the lines begin; then come others, at most 19
pub record TellsFault (file text : List ℕ) (fault : PlanFault) (lines : List ℕ) : Type 0 where
  pub read : fault ≢ plan.Memory
  pub spelled : IsUtf8 text → spelled_plan text ≡ Err fault
  pub garbled : (IsUtf8 text → ⊥) → fault ≡ plan.Syntax
  pub begins : BeginsAt file text fault lines
  pub listed : IsUtf8 text → ListsIn file text fault lines (parse_document text)

-- what a text is told to be
abbrev pub TellsVerdict : List ℕ → List ℕ → Verdict → List ℕ → Type 0
TellsVerdict file text Plan lines = TellsPlan text lines
TellsVerdict file text (Refused fault) lines = TellsFault file text fault lines

-- what is told of the text is written, a front of it where the writer failed, and nothing where
-- memory was refused
abbrev pub WritesVerdict : List ℕ → List ℕ → Option (List ℕ) → Result Verdict CheckFault
    → Option (List ℕ) → Type 0
WritesVerdict file text before (Ok verdict) now = (lines : List ℕ)
    × TellsVerdict file text verdict lines × Appends before now lines
WritesVerdict file text before (Err Write) now = (verdict : Verdict) × (lines : List ℕ)
    × TellsVerdict file text verdict lines × AppendsFront before now lines
WritesVerdict file text before (Err Memory) now = now ≡ before
