-- The record of a want.
use Rattle.std.specs.Prelude.{◌≡◌, ℕ, ◌+◌, ◌*◌, ◌/◌, ◌%◌, ◌<◌, ◌≤◌, ◌⊎◌, List, [], ◌∷◌, ◌++◌}
use Rattle.std.specs.Prelude.{length}
use Rattle.std.specs.Prelude.{slice_index, Bool, true, false, ◌==◌, ◌||◌, ⊤, Result, Ok}
use Rattle.std.specs.Prelude.{Err, Option, Some, None, if◌then◌else◌, nat_le}
use Rattle.std.specs.Option.{option_and_then, option_map}
use Rattle.usb_port.specs.{IsPath}
use Rattle.usb_request.specs.{DIRECTION_IN, IsToHost, Setup, bytes_of, setup_of}
use Rattle.usb_request.specs.{is_endpoint_address}
use Rattle.usb_dialogue.specs.Places.{place_bytes}
use Rattle.usb_dialogue.specs.Statuses.{AreStatuses, statuses_bytes}
use Rattle.usb_dialogue.specs.WriteRequests.{IsWrite, Write}
use Rattle.usb_dialogue.specs.declared.fault.DriverFault.{DriverFault}
use Rattle.usb_dialogue.specs.declared.fault.DriverFault.TheVariants as fault
use Rattle.usb_dialogue.specs.declared.want.Fields.{Fields}
use Rattle.usb_dialogue.specs.declared.want.Want.{Want}
use Rattle.usb_dialogue.specs.declared.want.Want.TheVariants.{Round, Tree, Send, Receive, ClearHalt}
use Rattle.usb_dialogue.specs.declared.want.Want.TheVariants.{SendTo, ReceiveFrom, Poll}
use Rattle.usb_dialogue.specs.declared.want.Want.TheVariants.{ClearHaltOf, SetInterface, ControlIn}
use Rattle.usb_dialogue.specs.declared.want.Want.TheVariants.{ControlOut, Look, News}

-- paths are paths, endpoints have numbers, and requests go the way that they say
abbrev pub IsWant : Want → Type 0
IsWant Round = ⊤
IsWant Tree = ⊤
IsWant (Send path bytes) = IsPath path
IsWant (Receive path packets) = IsPath path
IsWant (ClearHalt path) = IsPath path
IsWant (SendTo path endpoint bytes) = IsPath path × (is_endpoint_address endpoint ≡ true)
IsWant (ReceiveFrom path endpoint packets) = IsPath path × (is_endpoint_address endpoint ≡ true)
IsWant (Poll path endpoint) = IsPath path × (is_endpoint_address endpoint ≡ true)
IsWant (ClearHaltOf path endpoint) = IsPath path × (is_endpoint_address endpoint ≡ true)
IsWant (SetInterface path interface setting) = IsPath path
IsWant (ControlIn path request) = IsPath path × IsToHost request
IsWant (ControlOut path request) = IsPath path × IsWrite request
IsWant (Look path) = IsPath path
IsWant News = ⊤

-- the kind, the path, the endpoint or interface, the setting, the packets and the setup data
abbrev pub head_bytes : ℕ → List ℕ → ℕ × ℕ × ℕ → List ℕ → List ℕ
head_bytes kind place n setup =
    (kind ∷ []) ++ place ++ (n.0 ∷ n.1 ∷ 0 ∷ (n.2 % 256) ∷ (n.2 / 256) ∷ 0 ∷ 0 ∷ []) ++ setup

abbrev pub want_kind : Want → ℕ
want_kind Round = 16
want_kind Tree = 17
want_kind (Send path bytes) = 18
want_kind (Receive path packets) = 19
want_kind (ClearHalt path) = 20
want_kind (SendTo path endpoint bytes) = 21
want_kind (ReceiveFrom path endpoint packets) = 22
want_kind (Poll path endpoint) = 23
want_kind (ClearHaltOf path endpoint) = 24
want_kind (SetInterface path interface setting) = 25
want_kind (ControlIn path request) = 26
want_kind (ControlOut path request) = 27
want_kind (Look path) = 28
want_kind News = 29

-- what a kind does not use is 0
abbrev pub nothing : List ℕ
nothing = 0 ∷ 0 ∷ 0 ∷ 0 ∷ 0 ∷ 0 ∷ 0 ∷ 0 ∷ []

abbrev pub want_place : Want → List ℕ
want_place Round = nothing
want_place Tree = nothing
want_place (Send path bytes) = place_bytes path
want_place (Receive path packets) = place_bytes path
want_place (ClearHalt path) = place_bytes path
want_place (SendTo path endpoint bytes) = place_bytes path
want_place (ReceiveFrom path endpoint packets) = place_bytes path
want_place (Poll path endpoint) = place_bytes path
want_place (ClearHaltOf path endpoint) = place_bytes path
want_place (SetInterface path interface setting) = place_bytes path
want_place (ControlIn path request) = place_bytes path
want_place (ControlOut path request) = place_bytes path
want_place (Look path) = place_bytes path
want_place News = nothing

-- the endpoint or the interface, the setting, and the packets
abbrev pub want_numbers : Want → ℕ × ℕ × ℕ
want_numbers (Receive path packets) = (0, 0, packets)
want_numbers (SendTo path endpoint bytes) = (endpoint, 0, 0)
want_numbers (ReceiveFrom path endpoint packets) = (endpoint, 0, packets)
want_numbers (Poll path endpoint) = (endpoint, 0, 0)
want_numbers (ClearHaltOf path endpoint) = (endpoint, 0, 0)
want_numbers (SetInterface path interface setting) = (interface, setting, 0)
want_numbers other = (0, 0, 0)

abbrev pub want_setup : Want → List ℕ
want_setup (ControlIn path request) = bytes_of request
want_setup (ControlOut path request) = bytes_of request.setup
want_setup other = nothing

abbrev pub want_head : Want → List ℕ
want_head w = head_bytes (want_kind w) (want_place w) (want_numbers w) (want_setup w)

abbrev pub want_data : Want → List ℕ
want_data (Send path bytes) = bytes
want_data (SendTo path endpoint bytes) = bytes
want_data (ControlOut path request) = request.bytes
want_data other = []

abbrev pub want_record : Want → List (List ℕ) → List ℕ
want_record want statuses = want_head want ++ statuses_bytes statuses ++ want_data want

-- the kinds that have data
abbrev pub has_data : ℕ → Bool
has_data kind = (kind == 18) || (kind == 21) || (kind == 27)

-- it was read as that, unless there was no memory for its data
abbrev pub IsReadAs : Want → List (List ℕ) → Result (Want × List (List ℕ)) DriverFault → Type 0
IsReadAs want statuses result = (result ≡ Ok (want, statuses)) ⊎ (result ≡ Err fault.Memory)

-- what has the record of a want, and what has not
pub record IsWantOf (bytes : List ℕ) (want : Want) (statuses : List (List ℕ)) : Type 0 where
  pub is : IsWant want
  pub shown : AreStatuses statuses
  pub same : bytes ≡ want_record want statuses

pub data WrongWantLength (bytes : List ℕ) : Type 0 where
  short : length bytes < 52 → WrongWantLength bytes
  long : has_data (slice_index bytes 0) ≡ false → 52 < length bytes → WrongWantLength bytes

pub data WrongWantKind (kind : ℕ) : Type 0 where
  below : kind < 16 → WrongWantKind kind
  above : 29 < kind → WrongWantKind kind

-- why bytes are no record of a want
abbrev pub WantFault : List ℕ → DriverFault → Type 0
WantFault bytes fault.Kind = (52 ≤ length bytes) × WrongWantKind (slice_index bytes 0)
WantFault bytes fault.Length = WrongWantLength bytes
WantFault bytes fault.Number = (52 ≤ length bytes)
    × ((want : Want) (statuses : List (List ℕ)) → IsWantOf bytes want statuses → ⊥)
WantFault bytes fault.Memory = ⊤
WantFault bytes fault.OutOfTurn = ⊥
WantFault bytes fault.TooMuch = ⊥
WantFault bytes fault.Roots = ⊥

-- of private functions: the want of these fields
abbrev pub fields_in : List ℕ → Fields
fields_in head = record {
  at = slice_index head 9;
  setting = slice_index head 10;
  packets = slice_index head 12 + 256 * slice_index head 13;
  setup = setup_of (slice_index head 16 ∷ slice_index head 17 ∷ slice_index head 18
      ∷ slice_index head 19 ∷ slice_index head 20 ∷ slice_index head 21 ∷ slice_index head 22
      ∷ slice_index head 23 ∷ []);
}

abbrev pub endpoint_in : ℕ → Option ℕ
endpoint_in at = if is_endpoint_address at then Some at else None

abbrev pub read_request : Setup → Option Setup
read_request setup = if nat_le DIRECTION_IN setup.request_type then Some setup else None

abbrev pub write_request : Setup → List ℕ → Option Write
write_request setup bytes =
    if nat_le DIRECTION_IN setup.request_type then None
    else if setup.length == length bytes then Some (record { setup = setup; bytes = bytes })
    else None

abbrev pub want_to : ℕ → List ℕ → ℕ → ℕ → List ℕ → Option Want
want_to kind path endpoint packets bytes =
    if kind == 21 then Some (SendTo path endpoint bytes)
    else if kind == 22 then Some (ReceiveFrom path endpoint packets)
    else if kind == 23 then Some (Poll path endpoint)
    else if kind == 24 then Some (ClearHaltOf path endpoint)
    else None

abbrev pub want_with : ℕ → List ℕ → Fields → List ℕ → Option Want
want_with kind path f bytes =
    if kind == 18 then Some (Send path bytes)
    else if kind == 19 then Some (Receive path f.packets)
    else if kind == 20 then Some (ClearHalt path)
    else if kind == 25 then Some (SetInterface path f.at f.setting)
    else if kind == 26 then option_map (ControlIn path) (read_request f.setup)
    else if kind == 27 then option_map (ControlOut path) (write_request f.setup bytes)
    else if kind == 28 then Some (Look path)
    else option_and_then (λ at. want_to kind path at f.packets bytes) (endpoint_in f.at)

abbrev pub want_by : ℕ → Option (List ℕ) → Fields → List ℕ → Option Want
want_by kind path f bytes =
    if kind == 16 then Some Round
    else if kind == 17 then Some Tree
    else if kind == 29 then Some News
    else option_and_then (λ at. want_with kind at f bytes) path

-- a want whose record has these bytes first, and these last
pub record IsWantWith (head bytes : List ℕ) (want : Want) : Type 0 where
  pub is : IsWant want
  pub begins : want_head want ≡ head
  pub ends : want_data want ≡ bytes
