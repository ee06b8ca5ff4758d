-- The records of what was done.
use Rattle.std.specs.Prelude.{ℕ, ◌%◌, Bool, true, false, List, [], ◌∷◌, ◌++◌, length}
use Rattle.std.specs.Prelude.{Option, Some, None, Result, Ok, Err, flat_map}
use Rattle.std.specs.Prelude.{unwrap_or}
use Rattle.std.specs.Int.{to_le_bytes, w16, w32, w64}
use Rattle.std.specs.Global.{Vec}
use Rattle.arrayvec.specs.ArrayVec.{ArrayVec}
use Rattle.usb_enum.specs.{Accepted, Cause, Finding, HubFacts, Request}
use Rattle.usb_enum.specs.declared.cause.Cause.TheVariants as cause
use Rattle.usb_enum.specs.declared.cause.Request.TheVariants as request
use Rattle.usb_enum.specs.declared.finding.Finding.TheVariants.{Device, Refused}
use Rattle.usb_table.specs.{Entries, TransferFault, said_at}
use Rattle.usb_table.specs.declared.fault.TransferFault.TheVariants as transfer
use Rattle.usb_host.specs.{HostState, known_in, number_in, table_in, HostFault, Round, Look, News}
use Rattle.usb_host.specs.declared.fault.HostFault.TheVariants as fault
use Rattle.usb_host.specs.declared.host.Round.TheVariants as round
use Rattle.usb_host.specs.declared.look.Look.TheVariants as look
use Rattle.usb_host.specs.declared.news.News.TheVariants as news
use Rattle.usb_dialogue.specs.Places.{place_bytes}
use Rattle.usb_dialogue.specs.declared.call.Done.{Done}
use Rattle.usb_dialogue.specs.declared.call.Done.TheVariants as done

-- a kind, how many bytes follow in four, low one first, and those
abbrev pub record_of : ℕ → List ℕ → List ℕ
record_of kind body = (kind ∷ []) ++ to_le_bytes w32 (length body) ++ body

-- ---- how a call went

-- the numbers of faults of a transfer
abbrev pub transfer_number : TransferFault → ℕ
transfer_number transfer.NoDevice = 2
transfer_number transfer.NoEndpoint = 3
transfer_number transfer.Stalled = 4
transfer_number transfer.Busy = 5
transfer_number transfer.NoAnswer = 6
transfer_number transfer.Broken = 7
transfer_number transfer.Reserved = 8
transfer_number transfer.NoPort = 9
transfer_number transfer.NoInterface = 10

-- a call is not done that the bus or the memory did not let end
abbrev pub fault_status : HostFault → Option ℕ
fault_status (fault.Transfer f) = Some (transfer_number f)
fault_status fault.Stopped = None
fault_status (fault.Bus f) = None
fault_status fault.Memory = None

abbrev pub status_by : {A : Type 0} → ℕ → Result A HostFault → Option ℕ
status_by good (Ok x) = Some good
status_by good (Err f) = fault_status f

-- a round does work, or is quiet
abbrev pub round_status : Result Round HostFault → Option ℕ
round_status (Ok round.Worked) = Some 0
round_status (Ok round.Quiet) = Some 1
round_status (Err f) = None

-- a poll is quiet at NAK
abbrev pub poll_status : Result (Option (ArrayVec ℕ)) HostFault → Option ℕ
poll_status (Ok (Some bytes)) = Some 0
poll_status (Ok None) = Some 1
poll_status (Err f) = fault_status f

abbrev pub done_status : Done → Option ℕ
done_status (done.Round r) = round_status r
done_status (done.Tree r) = status_by 0 r
done_status (done.Moved r) = status_by 0 r
done_status (done.Received r) = status_by 0 r
done_status (done.Polled r) = poll_status r
done_status (done.Looked r) = status_by 0 r
done_status (done.News n) = Some 0

-- ---- the tree

abbrev pub speed_number : Bool → ℕ
speed_number true = 1
speed_number false = 0

abbrev pub ports_number : Option HubFacts → ℕ
ports_number (Some hub) = hub.ports
ports_number None = 0

-- the number of the device at a path; a host has one of each
abbrev pub number_of : HostState → List ℕ → ℕ
number_of h path = unwrap_or (number_in path (known_in h)) 0

-- its path, its address, speed, chosen configuration and ports, its number, its descriptor
abbrev pub device_body : ℕ → List ℕ → Accepted → List ℕ
device_body number path d =
    place_bytes path
    ++ (d.address ∷ speed_number d.low ∷ (d.chosen % 256) ∷ ports_number d.hub ∷ [])
    ++ to_le_bytes w64 number ++ d.bytes

abbrev pub config_records : List (List ℕ) → List ℕ
config_records texts = flat_map (record_of 34) texts

-- UTF-16, the low byte of a unit first (9.6.7)
abbrev pub units_bytes : List ℕ → List ℕ
units_bytes units = flat_map (to_le_bytes w16) units

abbrev pub string_records : ℕ → Option (List ℕ) → List ℕ
string_records which None = []
string_records which (Some units) = record_of 35 ((which ∷ []) ++ units_bytes units)

abbrev pub device_records : ℕ → List ℕ → Accepted → List ℕ
device_records number path d =
    record_of 33 (device_body number path d) ++ config_records d.configs
    ++ string_records 0 d.strings.manufacturer ++ string_records 1 d.strings.product
    ++ string_records 2 d.strings.serial_number

-- a cause, and the request or the configuration that it names
abbrev pub request_number : Request → ℕ
request_number request.Device = 0
request_number request.Address = 1
request_number request.Config = 2
request_number request.SetConfig = 3

abbrev pub cause_number : Cause → ℕ
cause_number cause.Silent = 1
cause_number cause.Busy = 2
cause_number (cause.Stalled r) = 3
cause_number cause.BadDevice = 4
cause_number cause.TooDeep = 5
cause_number (cause.BadConfiguration index) = 6
cause_number cause.NoPower = 7
cause_number cause.BadHub = 8
cause_number cause.Lost = 9
cause_number cause.NoAddress = 10
cause_number cause.TooLarge = 11

abbrev pub cause_names : Cause → ℕ
cause_names (cause.Stalled r) = request_number r
cause_names (cause.BadConfiguration index) = index
cause_names other = 0

-- what the refused device at a path said of itself
abbrev pub said_of : HostState → List ℕ → List ℕ
said_of h path = unwrap_or (said_at path (table_in h)) []

abbrev pub refused_body : List ℕ → List ℕ → Cause → List ℕ
refused_body said path c = place_bytes path ++ (cause_number c ∷ cause_names c ∷ []) ++ said

abbrev pub finding_records : HostState → List ℕ → Finding → List ℕ
finding_records h path (Device d) = device_records (number_of h path) path d
finding_records h path (Refused c) = record_of 36 (refused_body (said_of h path) path c)

abbrev pub entry_records : HostState → List ℕ × Finding → List ℕ
entry_records h entry = finding_records h entry.0 entry.1

-- each entry once, by rising path
abbrev pub tree_records : HostState → Entries → List ℕ
tree_records h entries = flat_map (entry_records h) entries

-- ---- looks and news

abbrev pub look_body : Look → List ℕ
look_body look.Empty = 0 ∷ []
look_body look.Found = 1 ∷ []
look_body (look.Refused c) = 2 ∷ cause_number c ∷ cause_names c ∷ []

-- a device that left has no number any more
abbrev pub news_bytes : ℕ → List ℕ → ℕ → List ℕ
news_bytes what path number = (what ∷ []) ++ place_bytes path ++ to_le_bytes w64 number

abbrev pub news_body : HostState → News → List ℕ
news_body h (news.Left path) = news_bytes 0 path 0
news_body h (news.Arrived path) = news_bytes 1 path (number_of h path)

-- ---- all of a call

-- what a call gave, by the host after it
abbrev pub tree_told : HostState → Result Entries HostFault → List ℕ
tree_told h (Ok entries) = tree_records h entries
tree_told h (Err f) = []

abbrev pub bytes_told : Result (Vec ℕ) HostFault → List ℕ
bytes_told (Ok bytes) = record_of 37 bytes.items
bytes_told (Err f) = []

abbrev pub packet_told : Result (Option (ArrayVec ℕ)) HostFault → List ℕ
packet_told (Ok (Some bytes)) = record_of 37 bytes.items
packet_told (Ok None) = []
packet_told (Err f) = []

abbrev pub look_told : Result Look HostFault → List ℕ
look_told (Ok l) = record_of 38 (look_body l)
look_told (Err f) = []

abbrev pub news_told : HostState → Option News → List ℕ
news_told h (Some n) = record_of 39 (news_body h n)
news_told h None = []

abbrev pub body_told : HostState → Done → List ℕ
body_told h (done.Round r) = []
body_told h (done.Tree r) = tree_told h r
body_told h (done.Moved r) = []
body_told h (done.Received r) = bytes_told r
body_told h (done.Polled r) = packet_told r
body_told h (done.Looked r) = look_told r
body_told h (done.News n) = news_told h n

-- once, and at the end how the call went
abbrev pub call_told : HostState → Done → ℕ → List ℕ
call_told h d status = body_told h d ++ record_of 32 (status ∷ [])
