-- What the code keeps of an answer, and what it stands for.
use Rattle.std.specs.Prelude.{ℕ, List, [], ◌∷◌, slice_get, unwrap_or, Option, None, Some}
use Rattle.usb_device.specs.DeviceSpecs.{Spec, Hub as HubText}
use Rattle.usb_device.specs.Request.{Outcome, stalled, answers, takes_address, takes_configuration}
use Rattle.usb_device.specs.Request.{halts, unhalts, tells_port, calls_port, status_bytes}
use Rattle.usb_device.specs.Request.{answers_taken, flag_bytes, takes, takes_setting, tells_halt}
use Rattle.usb_device.specs.OwnRequests.{own_bytes}
use Rattle.usb_device.specs.Transfer.{Write, Stage, idle, refused, reading, read, ending, writing}
use Rattle.usb_device.specs.declared.request.Source.{Source}
use Rattle.usb_device.specs.declared.request.Source.TheVariants.{Descriptor, Config, Text, Hub}
use Rattle.usb_device.specs.declared.request.Source.TheVariants.{Status, Byte, Flag, Port}
use Rattle.usb_device.specs.declared.request.Source.TheVariants.{Own, Taken}
use Rattle.usb_device.specs.declared.request.Reaction.{Reaction}
use Rattle.usb_device.specs.declared.request.Reaction.TheVariants.{Refuse, Answer, TakeAddress}
use Rattle.usb_device.specs.declared.request.Reaction.TheVariants.{TakeConfiguration, Halt, Unhalt}
use Rattle.usb_device.specs.declared.request.Reaction.TheVariants.{TellPort, CallPort, Take}
use Rattle.usb_device.specs.declared.request.Reaction.TheVariants.{TakeSetting, TellHalt}
use Rattle.usb_device.specs.declared.transfer.Progress.{Progress}
use Rattle.usb_device.specs.declared.transfer.Progress.TheVariants.{Idle, Refused, Reading, Read}
use Rattle.usb_device.specs.declared.transfer.Progress.TheVariants.{Ending, Writing}

-- a text by its index
abbrev pub text_at : List (List ℕ) → ℕ → List ℕ
text_at texts i = unwrap_or (slice_get texts i) []

abbrev pub hub_text : Option HubText → List ℕ
hub_text None = []
hub_text (Some hub) = hub.descriptor

-- the bytes of a source, where control writes have brought these
abbrev pub source_bytes : Spec → List ℕ → Source → List ℕ
source_bytes s taken Descriptor = s.descriptor
source_bytes s taken (Config i) = text_at s.configs i
source_bytes s taken (Text i) = text_at s.strings i
source_bytes s taken Hub = hub_text s.hub
source_bytes s taken Status = status_bytes s
source_bytes s taken (Byte b) = b ∷ []
source_bytes s taken (Flag flag) = flag_bytes flag
source_bytes s taken (Port bytes) = bytes
source_bytes s taken (Own i) = own_bytes s.requests i
source_bytes s taken Taken = taken

abbrev pub meaning_of : Spec → Reaction → Outcome
meaning_of s Refuse = stalled
meaning_of s (Answer Taken) = answers_taken
meaning_of s (Answer source) = answers (source_bytes s [] source)
meaning_of s (TakeAddress a) = takes_address a
meaning_of s (TakeConfiguration c) = takes_configuration c
meaning_of s (Halt endpoint) = halts endpoint
meaning_of s (Unhalt endpoint) = unhalts endpoint
meaning_of s (TellPort i) = tells_port i
meaning_of s (CallPort c i) = calls_port c i
meaning_of s (Take kept) = takes kept
meaning_of s (TakeSetting interface setting) = takes_setting interface setting
meaning_of s (TellHalt endpoint) = tells_halt endpoint

-- the stage, where control writes have brought these bytes and the last of them is so far
abbrev pub stage_of : Spec → List ℕ → Write → Progress → Stage
stage_of s taken w Idle = idle
stage_of s taken w Refused = refused
stage_of s taken w (Reading source wanted given) =
    reading (source_bytes s taken source) wanted given
stage_of s taken w Read = read
stage_of s taken w (Ending address) = ending address
stage_of s taken w Writing = writing w
