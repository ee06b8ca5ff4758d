-- Which transfers of a run are of one endpoint of the device at a path, and what they bring (5.8,
-- 5.7).
use Rattle.std.specs.Prelude.{◌≡◌, ◌≢◌, ◌⊎◌, ⊤, ℕ, ◌==◌, ◌%◌, nat_le, List, [], ◌∷◌, ◌++◌}
use Rattle.std.specs.Prelude.{Bool, true, false, not, ◌&&◌, if◌then◌else◌, Option, None, Some}
use Rattle.std.specs.Prelude.{is_ok}
use Rattle.std.specs.BTreeMap.{is_at}
use Rattle.std.specs.List.{concat}
use Rattle.usb_port.specs.{path_cmp}
use Rattle.usb_request.specs.{DIRECTION_IN}
use Rattle.usb_world.specs.declared.event.Ask.{Ask}
use Rattle.usb_world.specs.{Send, SendTo, Receive, Clear, ClearOf, SetInterface}
use Rattle.usb_transfer.specs.declared.condition.Condition.TheVariants.{Ready}
use Rattle.usb_transfer.specs.{PipeState, report_in}
use Rattle.usb_table.specs.{Pipes, Hub, Function, Absent, EndpointChoice, FirstBulk, At}
use Rattle.usb_table.specs.{bytes_in, first_number, pipe_at, pipes_at, through}
use Rattle.usb_host.specs.{table_in}
use Rattle.usb_run.specs.{Answer, Done, Item, Listing, Looked, Polled, Received, Sent}
use Rattle.usb_run.specs.declared.item.Item.TheVariants.{News}
use Rattle.usb_run.specs.declared.item.Task.TheVariants as task
use Rattle.usb_run_laws.specs.Stretches.{ToldItem}

-- Endpoints

-- an endpoint of the device at a path, by its direction and number; it may be the first bulk one of
-- its direction
pub record Endpoint : Type 0 where
  pub path : List ℕ
  pub is_in : Bool
  pub number : ℕ
  pub is_first : Bool

-- the number of the first bulk endpoint of a direction, where there is one
abbrev pub first_of : Bool → Pipes → Option ℕ
first_of is_in (Hub pipe) = None
first_of is_in (Function pipes) = first_number is_in pipes
first_of is_in (Absent said) = None

-- this is the number
abbrev pub is_this : ℕ → Option ℕ → Bool
is_this number None = false
is_this number (Some first) = number == first

abbrev pub endpoint_at : List ℕ → Bool → ℕ → Pipes → Endpoint
endpoint_at path is_in number pipes = record {
  path = path;
  is_in = is_in;
  number = number;
  is_first = is_this number (first_of is_in pipes);
}

-- the pipe to an endpoint of what stands at a path
abbrev pub pipe_of : Bool → ℕ → Pipes → Option PipeState
pipe_of is_in number = through (pipe_at is_in number)

-- an address has this direction
abbrev pub has_way : Bool → ℕ → Bool
has_way true address = nat_le DIRECTION_IN address
has_way false address = not (nat_le DIRECTION_IN address)

-- a transfer to a path, through the endpoint of a choice, is of this endpoint
abbrev pub is_of : Endpoint → List ℕ → EndpointChoice → Bool
is_of end path FirstBulk = is_at (path_cmp path) end.path && end.is_first
is_of end path (At address) = is_at (path_cmp path) end.path
    && (has_way end.is_in address && (end.number == address % DIRECTION_IN))

-- Bytes and packets

-- the bytes that an event asks the host to send to an OUT endpoint
abbrev pub bytes_for : Endpoint → Option Ask → List ℕ
bytes_for end (Some (Send to bytes)) = if is_of end to FirstBulk then bytes else []
bytes_for end (Some (SendTo to address bytes)) = if is_of end to (At address) then bytes else []
bytes_for end _ = []

-- the bytes that an item tells as received from an IN endpoint
abbrev pub bytes_from : Endpoint → Item → List ℕ
bytes_from end (Answer from (task.Receive choice) (Received told)) =
    if is_of end from choice then bytes_in told else []
bytes_from end (Answer from (task.Poll address) (Polled told)) =
    if is_of end from (At address) then concat (report_in told) else []
bytes_from end _ = []

-- the packets of a transfer from the endpoint have these bytes, end to end; one from another brings
-- none
abbrev pub AreJoined : Bool → List ℕ → List (List ℕ) → Type 0
AreJoined true bytes packets = concat packets ≡ bytes
AreJoined false bytes packets = packets ≡ []

-- these packets of an IN endpoint are what an item tells: the bytes of a receive's, and of a poll
-- the packet itself
abbrev pub ArePackets : Endpoint → Item → List (List ℕ) → Type 0
ArePackets end (Answer from (task.Receive choice) (Received told)) packets =
    AreJoined (is_of end from choice) (bytes_in told) packets
ArePackets end (Answer from (task.Poll address) (Polled told)) packets =
    packets ≡ (if is_of end from (At address) then report_in told else [])
ArePackets end _ packets = packets ≡ []

-- an item tells of no fault
abbrev pub is_done : Item → Bool
is_done (Listing tree taken said) = true
is_done (News news) = true
is_done (Answer path t (Sent told)) = is_ok told
is_done (Answer path t (Received told)) = is_ok told
is_done (Answer path t (Done told)) = is_ok told
is_done (Answer path t (Polled told)) = is_ok told
is_done (Answer path t (Looked told)) = is_ok told

-- the bytes of the sends to an OUT endpoint that are told done, end to end
unfoldable pub sent_to : Endpoint → List ToldItem → List ℕ
sent_to end [] = []
sent_to end (t ∷ told) = sent_to end told ++ (if is_done t.item then bytes_for end t.due else [])

-- the bytes of the receives and polls of an IN endpoint, end to end; those of one that failed are
-- none
unfoldable pub received_from : Endpoint → List ToldItem → List ℕ
received_from end [] = []
received_from end (t ∷ told) = received_from end told ++ bytes_from end t.item

-- these bytes joined what went before, or a front of them
abbrev pub Joins : Bool → List ℕ → List ℕ → List ℕ → Type 0
Joins true bytes before after = after ≡ before ++ bytes
Joins false bytes before after = (front : List ℕ) × (rest : List ℕ) × (bytes ≡ front ++ rest)
    × (after ≡ before ++ front)

-- these bytes of the sends to an OUT endpoint were taken, end to end: all bytes of each that is
-- told done, and a front of those of each that failed
unfoldable pub AreTaken : Endpoint → List ToldItem → List ℕ → Type 0
AreTaken end [] taken = taken ≡ []
AreTaken end (t ∷ told) taken = (before : List ℕ) × AreTaken end told before
    × Joins (is_done t.item) (bytes_for end t.due) before taken

-- none, or a front of the bytes of a send to it that failed
unfoldable pub IsFailedFront : Endpoint → List ToldItem → List ℕ → Type 0
IsFailedFront end [] front = front ≡ []
IsFailedFront end (t ∷ told) front = ((is_done t.item ≡ false)
    × ((rest : List ℕ) × (bytes_for end t.due ≡ front ++ rest))) ⊎ IsFailedFront end told front

-- these packets of an IN endpoint are what was told, one behind the other
unfoldable pub AreGiven : Endpoint → List ToldItem → List (List ℕ) → Type 0
AreGiven end [] packets = packets ≡ []
AreGiven end (t ∷ told) packets = (before : List (List ℕ)) × AreGiven end told before
    × ((came : List (List ℕ)) × ArePackets end t.item came × (packets ≡ before ++ came))

-- Clears

-- a pipe works, or there is none
abbrev pub IsAtWork : Option PipeState → Type 0
IsAtWork None = ⊤
IsAtWork (Some pipe) = pipe.condition ≡ Ready

-- no alternate setting of an interface of the device at a path was asked for (9.4.10)
abbrev pub SetsNone : List ℕ → ToldItem → Type 0
SetsNone path t = (interface setting : ℕ) → t.due ≢ Some (SetInterface path interface setting)

-- the endpoint did not begin again: a clear that names no endpoint found its pipe at work, and left
-- it alone; one that names the endpoint was not asked for, and no alternate setting
pub record ClearsNone (end : Endpoint) (t : ToldItem) : Type 0 where
  pub plain : t.due ≡ Some (Clear end.path) → end.is_first ≡ true
      → IsAtWork (pipe_of end.is_in end.number (pipes_at end.path (table_in t.asked)))
  pub named : (address : ℕ) → t.due ≡ Some (ClearOf end.path address)
      → is_of end end.path (At address) ≡ false
  pub set : SetsNone end.path t

-- Transfers that name no endpoint

-- one of a direction to the path failed
abbrev pub FailsPlain : Bool → List ℕ → ToldItem → Type 0
FailsPlain false path t = (bytes : List ℕ) → t.due ≡ Some (Send path bytes)
    → is_done t.item ≡ false
FailsPlain true path t = (packets : ℕ) → t.due ≡ Some (Receive path packets)
    → is_done t.item ≡ false
