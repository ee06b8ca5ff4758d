-- What an event does, by the keys that go with its `do`.
use Rattle.std.specs.Prelude.{ℕ, codes, List, [], ◌∷◌, Bool, not, ◌&&◌, Option, Some, None, is_none}
use Rattle.std.specs.Prelude.{ok_or, Result, Ok, Err, position, if◌then◌else◌, length, ◌==◌, nat_le}
use Rattle.std.specs.Str.{bytes_eq}
use Rattle.toml.specs.Data.{Data, Members}
use Rattle.usb_plan.specs.declared.entry_fault.EntryFault.{EntryFault}
use Rattle.usb_plan.specs.declared.entry_fault.EntryFault.TheVariants.{MissingKey, BadValue}
use Rattle.usb_plan.specs.declared.entry_fault.EntryFault.TheVariants.{UnknownDevice}
use Rattle.usb_plan.specs.declared.action.OtherKeys.{OtherKeys}
use Rattle.usb_plan.specs.declared.action.OtherKeys.TheVariants.{Alone, Path, PathDevice, PathBytes}
use Rattle.usb_plan.specs.declared.action.OtherKeys.TheVariants.{PathPackets, PathSetup}
use Rattle.usb_plan.specs.declared.action.OtherKeys.TheVariants.{PathEndpoint, PathSetting, Said}
use Rattle.usb_plan.specs.EntryFault.{fault_in_part, least_fault, ◌>>=◌}
use Rattle.usb_plan.specs.Endpoints.{address_at}
use Rattle.usb_plan.specs.EventMembers.{EventValues}
use Rattle.usb_plan.specs.Keys.{keys_at}
use Rattle.usb_plan.specs.Quirks.{flag_at}
use Rattle.usb_plan.specs.Value.{read_text, byte_at, number_at, hex_bytes}
use Rattle.usb_plan.specs.Path.{read_path, free_path, taken_path}
use Rattle.usb_plan.specs.Scene.{SceneData}
use Rattle.usb_request.specs.{Setup, DIRECTION_IN, setup_of}
use Rattle.usb_world.specs.{Action, Plug, Unplug, Send, Receive, Clear, ControlIn, ControlOut}
use Rattle.usb_world.specs.{Show, Look, SendTo, ReceiveFrom, Poll, ClearOf, SetInterface}
use Rattle.usb_world.specs.{Write as Written}
use Rattle.usb_world.specs.declared.event.Ask.{Ask as Asked}
use Rattle.usb_plan.specs.declared.action.Request.{Request}
use Rattle.usb_plan.specs.declared.action.Request.TheVariants.{Read, Write}
use Rattle.usb_world.specs.declared.event.Action.TheVariants.{Change, Ask}

-- the key `device`: the index of the device of that name
unfoldable pub device_index_at : SceneData → Option Data → Result ℕ EntryFault
device_index_at scene d =
    read_text d >>= λ name. ok_or (position (λ s. bytes_eq s.name name) scene.devices) UnknownDevice

-- the key `bytes`
unfoldable pub bytes_at : Option Data → Result (List ℕ) EntryFault
bytes_at d = ok_or d MissingKey >>= hex_bytes

-- the key `packets`
unfoldable pub packets_at : Option Data → Result ℕ EntryFault
packets_at d = number_at 0 1000 d

-- the key `endpoint` of an event, where it stands: an endpoint besides endpoint 0
unfoldable pub any_endpoint : Data → Result ℕ EntryFault
any_endpoint d = address_at (Some d)

-- the same of one that takes bytes, OUT
unfoldable pub out_endpoint : Data → Result ℕ EntryFault
out_endpoint d = any_endpoint d >>= λ a. if nat_le DIRECTION_IN a then Err BadValue else Ok a

-- the same of one that gives packets, IN
unfoldable pub in_endpoint : Data → Result ℕ EntryFault
in_endpoint d = any_endpoint d >>= λ a. if nat_le DIRECTION_IN a then Ok a else Err BadValue

-- the same, where the key has to be there
unfoldable pub in_endpoint_at : Option Data → Result ℕ EntryFault
in_endpoint_at d = ok_or d MissingKey >>= in_endpoint

-- the key `setup`: eight bytes
unfoldable pub setup_in : List ℕ → Result Setup EntryFault
setup_in bytes = if length bytes == 8 then Ok (setup_of bytes) else Err BadValue

unfoldable pub setup_at : Option Data → Result Setup EntryFault
setup_at d = bytes_at d >>= setup_in

-- the key `bytes`, if it must be absent
unfoldable pub no_bytes : Option Data → Result (Unit {0}) EntryFault
no_bytes None = Ok tt
no_bytes (Some d) = Err BadValue

-- the key `bytes` by itself, which may be absent
unfoldable pub given : Option Data → Result (Unit {0}) EntryFault
given None = Ok tt
given (Some d) = hex_bytes d >>= λ bytes. Ok tt

-- the key `bytes` of a request that writes so many bytes
unfoldable pub write_bytes : ℕ → Option Data → Result (List ℕ) EntryFault
write_bytes length d = if length == 0 then no_bytes d >>= (λ u. Ok []) else bytes_at d

-- a request that writes has wLength bytes
unfoldable pub write_with : Setup → List ℕ → Result Written EntryFault
write_with setup bytes =
    if setup.length == length bytes then Ok (record { setup = setup; bytes = bytes })
    else Err BadValue

-- a request reads if bit 7 of bmRequestType is set, and then has no bytes (9.3.1)
unfoldable pub request_with : Setup → Option Data → Result Request EntryFault
request_with setup d =
    if nat_le DIRECTION_IN setup.request_type then no_bytes d >>= (λ u. Ok (Read setup))
    else write_bytes setup.length d >>= write_with setup >>= λ write. Ok (Write write)

-- the keys `setup` and `bytes`
unfoldable pub request_at : EventValues → Result Request EntryFault
request_at v = setup_at v.setup >>= λ setup. request_with setup v.bytes

unfoldable pub asked : List ℕ → Request → Asked
asked path (Read setup) = ControlIn path setup
asked path (Write write) = ControlOut path write

unfoldable pub plug : Result (List ℕ) EntryFault → Result ℕ EntryFault → Result Action EntryFault
plug path device = do
  u ← least_fault (fault_in_part path ∷ fault_in_part device ∷ [])
  p ← path
  d ← device
  Ok (Change (Plug p d))

unfoldable pub send : Result (List ℕ) EntryFault → Result (List ℕ) EntryFault
    → Result Action EntryFault
send path bytes = do
  u ← least_fault (fault_in_part path ∷ fault_in_part bytes ∷ [])
  p ← path
  b ← bytes
  Ok (Ask (Send p b))

unfoldable pub receive : Result (List ℕ) EntryFault → Result ℕ EntryFault → Result Action EntryFault
receive path packets = do
  u ← least_fault (fault_in_part path ∷ fault_in_part packets ∷ [])
  p ← path
  n ← packets
  Ok (Ask (Receive p n))

unfoldable pub send_to : Result (List ℕ) EntryFault → Result ℕ EntryFault
    → Result (List ℕ) EntryFault → Result Action EntryFault
send_to path endpoint bytes = do
  u ← least_fault (fault_in_part path ∷ fault_in_part endpoint ∷ fault_in_part bytes ∷ [])
  p ← path
  e ← endpoint
  b ← bytes
  Ok (Ask (SendTo p e b))

unfoldable pub receive_from : Result (List ℕ) EntryFault → Result ℕ EntryFault
    → Result ℕ EntryFault → Result Action EntryFault
receive_from path endpoint packets = do
  u ← least_fault (fault_in_part path ∷ fault_in_part endpoint ∷ fault_in_part packets ∷ [])
  p ← path
  e ← endpoint
  n ← packets
  Ok (Ask (ReceiveFrom p e n))

unfoldable pub poll : Result (List ℕ) EntryFault → Result ℕ EntryFault → Result Action EntryFault
poll path endpoint = do
  u ← least_fault (fault_in_part path ∷ fault_in_part endpoint ∷ [])
  p ← path
  e ← endpoint
  Ok (Ask (Poll p e))

unfoldable pub clear_end : Result (List ℕ) EntryFault → Result ℕ EntryFault
    → Result Action EntryFault
clear_end path endpoint = do
  u ← least_fault (fault_in_part path ∷ fault_in_part endpoint ∷ [])
  p ← path
  e ← endpoint
  Ok (Ask (ClearOf p e))

unfoldable pub set_interface : Result (List ℕ) EntryFault → Result ℕ EntryFault
    → Result ℕ EntryFault → Result Action EntryFault
set_interface path interface setting = do
  u ← least_fault (fault_in_part path ∷ fault_in_part interface ∷ fault_in_part setting ∷ [])
  p ← path
  i ← interface
  s ← setting
  Ok (Ask (SetInterface p i s))

-- with the key `endpoint` it is to that endpoint, else to the first bulk OUT
unfoldable pub send_with : Option Data → Result (List ℕ) EntryFault → Result (List ℕ) EntryFault
    → Result Action EntryFault
send_with None path bytes = send path bytes
send_with (Some d) path bytes = send_to path (out_endpoint d) bytes

-- with the key `endpoint` it is from that endpoint, else from the first bulk IN
unfoldable pub receive_with : Option Data → Result (List ℕ) EntryFault → Result ℕ EntryFault
    → Result Action EntryFault
receive_with None path packets = receive path packets
receive_with (Some d) path packets = receive_from path (in_endpoint d) packets

-- with the key `endpoint` it is that endpoint's halt, else those of the first bulk ones
unfoldable pub clear_with : Option Data → Result (List ℕ) EntryFault → Result Action EntryFault
clear_with None path = path >>= λ p. Ok (Ask (Clear p))
clear_with (Some d) path = clear_end path (any_endpoint d)

unfoldable pub control : Result (List ℕ) EntryFault → Result Request EntryFault
    → Result (Unit {0}) EntryFault → Result Action EntryFault
control path request bytes = do
  u ← least_fault (fault_in_part path ∷ fault_in_part request ∷ fault_in_part bytes ∷ [])
  p ← path
  r ← request
  Ok (Ask (asked p r))

unfoldable pub plug_of : SceneData → EventValues → Result Action EntryFault
plug_of scene v = plug (free_path scene (read_path scene v.path)) (device_index_at scene v.device)

unfoldable pub unplug_of : SceneData → EventValues → Result Action EntryFault
unplug_of scene v = taken_path scene (read_path scene v.path) >>= λ path. Ok (Change (Unplug path))

unfoldable pub send_of : SceneData → EventValues → Result Action EntryFault
send_of scene v = send_with v.endpoint (read_path scene v.path) (bytes_at v.bytes)

unfoldable pub receive_of : SceneData → EventValues → Result Action EntryFault
receive_of scene v = receive_with v.endpoint (read_path scene v.path) (packets_at v.packets)

unfoldable pub clear_of : SceneData → EventValues → Result Action EntryFault
clear_of scene v = clear_with v.endpoint (read_path scene v.path)

unfoldable pub control_of : SceneData → EventValues → Result Action EntryFault
control_of scene v = control (read_path scene v.path) (request_at v) (given v.bytes)

-- what refused devices said is listed too, where the key `said` says so
unfoldable pub show_of : EventValues → Result Action EntryFault
show_of v = flag_at v.said >>= λ said. Ok (Ask (Show said))

unfoldable pub look_of : SceneData → EventValues → Result Action EntryFault
look_of scene v = read_path scene v.path >>= λ path. Ok (Ask (Look path))

unfoldable pub interrupt_of : SceneData → EventValues → Result Action EntryFault
interrupt_of scene v = poll (read_path scene v.path) (in_endpoint_at v.endpoint)

unfoldable pub interface_of : SceneData → EventValues → Result Action EntryFault
interface_of scene v =
    set_interface (read_path scene v.path) (byte_at v.interface) (byte_at v.setting)

abbrev pub event_keys : List (List ℕ) → List (List ℕ)
event_keys others = codes "do" ∷ codes "after" ∷ others

abbrev pub other_names : OtherKeys → List (List ℕ)
other_names Alone = []
other_names Path = codes "path" ∷ []
other_names PathDevice = codes "path" ∷ codes "device" ∷ []
other_names PathBytes = codes "path" ∷ codes "bytes" ∷ codes "endpoint" ∷ []
other_names PathPackets = codes "path" ∷ codes "packets" ∷ codes "endpoint" ∷ []
other_names PathEndpoint = codes "path" ∷ codes "endpoint" ∷ []
other_names PathSetup = codes "path" ∷ codes "bytes" ∷ codes "setup" ∷ []
other_names PathSetting = codes "path" ∷ codes "interface" ∷ codes "setting" ∷ []
other_names Said = codes "said" ∷ []

-- no key but these, `do` and `after`
unfoldable pub keys_of : OtherKeys → Members → Result (Unit {0}) EntryFault
keys_of keys ms = keys_at (event_keys (other_names keys)) ms

-- no other key, and none of those that go with `show` or `interface` alone
abbrev pub names_common : EventValues → Bool
names_common v =
    not v.has_others && is_none v.said && is_none v.setting && is_none v.interface

-- the same by what stands at the keys: no other key, and nothing at those that do not go with `do`
unfoldable pub verb_fits : OtherKeys → EventValues → Bool
verb_fits Alone v =
    names_common v && is_none v.endpoint && is_none v.setup && is_none v.packets &&
    is_none v.bytes && is_none v.device && is_none v.path
verb_fits Path v =
    names_common v && is_none v.endpoint && is_none v.setup && is_none v.packets &&
    is_none v.bytes && is_none v.device
verb_fits PathDevice v =
    names_common v && is_none v.endpoint && is_none v.setup && is_none v.packets &&
    is_none v.bytes
verb_fits PathBytes v =
    names_common v && is_none v.setup && is_none v.packets && is_none v.device
verb_fits PathPackets v =
    names_common v && is_none v.setup && is_none v.bytes && is_none v.device
verb_fits PathEndpoint v =
    names_common v && is_none v.setup && is_none v.packets && is_none v.bytes &&
    is_none v.device
verb_fits PathSetup v =
    names_common v && is_none v.endpoint && is_none v.packets && is_none v.device
verb_fits PathSetting v =
    not v.has_others && is_none v.said && is_none v.endpoint && is_none v.setup &&
    is_none v.packets && is_none v.bytes && is_none v.device
verb_fits Said v =
    not v.has_others && is_none v.setting && is_none v.interface && is_none v.endpoint &&
    is_none v.setup && is_none v.packets && is_none v.bytes && is_none v.device && is_none v.path

unfoldable pub keys_given : OtherKeys → EventValues → Result (Unit {0}) EntryFault
keys_given keys v = if verb_fits keys v then Ok tt else Err BadValue
