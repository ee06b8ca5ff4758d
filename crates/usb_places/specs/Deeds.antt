-- What a host does, and the control transfer in progress by that alone (8.5.3).
use Rattle.std.specs.Prelude.{ℕ, List, Bool, true, false, ◌&&◌, ◌==◌, not, nat_le, Option, None}
use Rattle.std.specs.Prelude.{Some, if◌then◌else◌}
use Rattle.usb_request.specs.{Setup, DIRECTION_IN, setup_of}
use Rattle.usb_world.specs.declared.types.Attempt.{Attempt as Asked}
use Rattle.usb_world.specs.declared.types.Attempt.TheVariants as asked
use Rattle.usb_world.specs.{destination_of}
use Rattle.usb_places.specs.declared.seen.Deed.{Deed}
use Rattle.usb_places.specs.declared.seen.Deed.TheVariants.{Attempt, Call, Status, Wait}
use Rattle.usb_places.specs.declared.seen.Token.{Token}
use Rattle.usb_places.specs.declared.seen.Token.TheVariants as token
use Rattle.usb_places.specs.declared.seen.Try.{Try}
use Rattle.usb_places.specs.declared.transfer.Stage.{Stage}
use Rattle.usb_places.specs.declared.transfer.Stage.TheVariants as stage
use Rattle.usb_places.specs.declared.transfer.Transfer.{Transfer}
use Rattle.usb_places.specs.declared.when.Moment.{Moment}
use Rattle.usb_places.specs.declared.when.Moment.TheVariants as moment
use Rattle.usb_places.specs.Requests.{same_setup}

-- the token of an attempt, and where that goes
abbrev pub token_of : Asked → Token
token_of (asked.Setup to bytes) = token.Setup (setup_of bytes)
token_of (asked.Out to toggle bytes) = token.Out
token_of (asked.In to) = token.In

abbrev pub try_of : Asked → Try
try_of a = record {
  address = (destination_of a).address;
  endpoint = (destination_of a).number;
  token = token_of a;
}

-- the data go to the host (9.3.1)
abbrev pub reads : Setup → Bool
reads s = nat_le DIRECTION_IN s.request_type

abbrev pub is_in : Token → Bool
is_in token.In = true
is_in t = false

abbrev pub is_out : Token → Bool
is_out token.Out = true
is_out t = false

abbrev pub has_data : Setup → Bool
has_data s = not (s.length == 0)

-- the attempt is to endpoint 0 of the same address
abbrev pub goes_to : Transfer → Try → Bool
goes_to t a = a.endpoint == 0 && a.address == t.address

-- the attempt is of the data stage
abbrev pub is_data : Transfer → Try → Bool
is_data t a =
    goes_to t a && has_data t.setup && (if reads t.setup then is_in a.token else is_out a.token)

-- the attempt is of the status stage, which goes the other way; without data it is IN
abbrev pub is_status : Transfer → Try → Bool
is_status t a =
    goes_to t a
    && (if reads t.setup && has_data t.setup then is_out a.token else is_in a.token)

abbrev pub is_begun : Stage → Bool
is_begun stage.Setup = true
is_begun s = false

abbrev pub is_answered : Stage → Bool
is_answered stage.Status = true
is_answered s = false

-- SETUP with these data is tried again
abbrev pub is_setup_again : Transfer → Try → Setup → Bool
is_setup_again t a s = is_begun t.stage && goes_to t a && same_setup t.setup s

abbrev pub answer_if : Bool → Option Moment
answer_if found = if found then Some moment.Answer else None

-- which part of a transfer begins with an attempt: its first one of the data stage, its first one
-- of the status stage, the first one behind those
unfoldable pub follows : Transfer → Try → Option Moment
follows t a = elim t.stage [
  | stage.Setup ↦ if is_data t a then Some moment.Data else answer_if (is_status t a)
  | stage.Data ↦ answer_if (is_status t a)
  | stage.Status ↦ if is_status t a then None else Some moment.After
]

-- the same of what a host does; a call at a root port ends a transfer
unfoldable pub moment_in : Transfer → Deed → Option Moment
moment_in t (Attempt a path) = follows t a
moment_in t (Call port call) = if is_answered t.stage then Some moment.After else None
moment_in t (Status port) = None
moment_in t Wait = None

abbrev pub is_again : Option Transfer → Try → Setup → Bool
is_again None a s = false
is_again (Some t) a s = is_setup_again t a s

-- the request that begins with the attempt: one that is tried again has begun before
unfoldable pub begins : Option Transfer → Try → Option Setup
begins t a = elim a.token [
  | token.Setup s ↦ if a.endpoint == 0 && not (is_again t a s) then Some s else None
  | token.Out ↦ None
  | token.In ↦ None
]

abbrev pub onward : Transfer → Option Moment → Option Transfer
onward t None = Some t
onward t (Some moment.Token) = Some t
onward t (Some moment.Data) = Some (record t { stage = stage.Data })
onward t (Some moment.Answer) = Some (record t { stage = stage.Status })
onward t (Some moment.After) = None

-- the transfer in progress after an attempt that begins no request
unfoldable pub transfer_past : Option Transfer → Try → Option Transfer
transfer_past None a = None
transfer_past (Some t) a = onward t (follows t a)

abbrev pub begun : Option Transfer → Try → Option (List ℕ) → Option Setup → Option Transfer
begun t a path None = transfer_past t a
begun t a path (Some s) =
    Some (record { address = a.address; setup = s; path = path; stage = stage.Setup })

-- the transfer in progress after what a host does
unfoldable pub transfer_after : Option Transfer → Deed → Option Transfer
transfer_after t (Attempt a path) = begun t a path (begins t a)
transfer_after t (Call port call) = None
transfer_after t (Status port) = t
transfer_after t Wait = t
