-- The faults of a text, one after the other.
use Rattle.std.specs.Prelude.{◌≡◌, ◌≤◌, ℕ, Bool, codes, List, [], ◌++◌, length, flat_map, All, Some}
use Rattle.std.specs.Prelude.{String, string_bytes, if◌then◌else◌}
use Rattle.std.specs.Global.{Global}
use Rattle.toml.specs.Data.{Members}
use Rattle.usb_plan.specs.{PlanFault}
use Rattle.usb_plan.specs.declared.fault.Place.{Place}
use Rattle.usb_diagnosis.specs.declared.place.Spot.{Spot}
use Rattle.usb_diagnosis.specs.declared.trouble.Trouble.{Trouble}
use Rattle.usb_diagnosis.specs.Entry.{entry_in}
use Rattle.usb_diagnosis.specs.Place.{IsSpotIn}
use Rattle.usb_diagnosis.specs.Report.{first_line, place_of}
use Rattle.usb_diagnosis.specs.Trouble.{IsTroubleOf}

-- the lines begin with this one
pub record IsLed (first lines : List ℕ) : Type 0 where
  pub rest : List ℕ
  pub told : lines ≡ first ++ rest

-- they begin with the file, a spot of the text and the fault
pub record BeginsWith (file text : List ℕ) (fault : PlanFault) (lines : List ℕ) : Type 0 where
  pub spot : Spot
  pub found : IsSpotIn text spot
  pub led : IsLed (first_line file spot fault) lines

-- they begin so with a fault of an entry of the document, and something of that entry makes it
pub record IsBlock (file text : List ℕ) (document : Members) (lines : List ℕ) : Type 0 where
  pub fault : PlanFault
  pub place : Place
  pub entry : Members
  pub trouble : Trouble
  pub of : place_of fault ≡ Some place
  pub there : entry_in document place ≡ Some entry
  pub holds : IsTroubleOf place entry trouble
  pub begins : BeginsWith file text fault lines

-- so do the lines on each fault but the first, of which there are at most 19
pub record AreBlocks (file text : List ℕ) (document : Members) (blocks : List (String Global))
    : Type 0 where
  pub few : length blocks ≤ 19
  pub each : All (λ block. IsBlock file text document (string_bytes block)) blocks

-- the line after them, where there are more
abbrev pub cut_line : Bool → List ℕ
cut_line is_cut = if is_cut then codes "more faults are not listed\n" else []

-- the lines are those on this fault, then those on others of the document
pub record ListsFaults (file text : List ℕ) (document : Members) (fault : PlanFault)
    (lines : List ℕ) : Type 0 where
  pub first : List ℕ
  pub begins : BeginsWith file text fault first
  pub blocks : List (String Global)
  pub others : AreBlocks file text document blocks
  pub is_cut : Bool
  pub whole : lines ≡ first ++ flat_map string_bytes blocks ++ cut_line is_cut
