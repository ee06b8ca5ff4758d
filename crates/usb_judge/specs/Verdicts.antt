-- The judgements of a listing: port by port, and then the devices that are not listed.
use Rattle.std.specs.Prelude.{ℕ, List, [], ◌∷◌, ◌++◌, if◌then◌else◌, flat_map}
use Rattle.usb_judge.specs.declared.listed.ListedPort.{ListedPort}
use Rattle.usb_judge.specs.declared.judgement.Cause.{Cause}
use Rattle.usb_judge.specs.declared.judgement.Cause.TheVariants as cause
use Rattle.usb_judge.specs.declared.judgement.Judgement.{Judgement}
use Rattle.usb_judge.specs.declared.plugged.PluggedDevice.{PluggedDevice}
use Rattle.usb_judge.specs.Scenes.{Scene, scene_in}
use Rattle.usb_judge.specs.Rules.{breaks, is_missing}

abbrev pub judged : List ℕ → Cause → Judgement
judged path why = record { path = path; cause = why }

-- every cause of a port that is listed
abbrev pub listed_causes : List Cause
listed_causes = cause.Twice ∷ cause.NotPlugged ∷ cause.NoHub ∷ cause.SameAddress ∷ cause.Disabled
    ∷ cause.OtherDescriptor ∷ cause.OtherSpeed ∷ cause.OtherAddress ∷ cause.OtherConfiguration
    ∷ cause.OtherPorts ∷ cause.TooMuchPower ∷ cause.LeftEnabled ∷ []

-- of a port, for those of these causes for which it is wrong
unfoldable pub told_for : Scene → List ListedPort → ListedPort → List Cause → List Judgement
told_for scene listing port [] = []
told_for scene listing port (c ∷ causes) = if breaks scene listing port c
    then judged port.path c ∷ told_for scene listing port causes
    else told_for scene listing port causes

abbrev pub told_at : Scene → List ListedPort → ListedPort → List Judgement
told_at scene listing port = told_for scene listing port listed_causes

-- of a device, where it is to be listed and is not
abbrev pub told_lack : List ListedPort → PluggedDevice → List Judgement
told_lack listing d = if is_missing listing d.path then judged d.path cause.Missing ∷ [] else []

abbrev pub told : List PluggedDevice → List ListedPort → List Judgement
told plugged listing = flat_map (told_at (scene_in plugged) listing) listing
    ++ flat_map (told_lack listing) plugged
