-- The key `endpoint` of a device: what its endpoints give, and how they hesitate.
use Rattle.std.specs.Prelude.{ℕ, codes, ◌==◌, nat_le, List, [], ◌∷◌, Bool, true, false, ◌&&◌, ◌||◌}
use Rattle.std.specs.Prelude.{not, Option, Some, None, is_some, ok_or, Result, Ok, Err}
use Rattle.std.specs.Prelude.{if◌then◌else◌}
use Rattle.std.specs.List.{list_any}
use Rattle.toml.specs.Data.{Data, Members, get_member, as_table}
use Rattle.usb_request.specs.{DIRECTION_IN, is_endpoint_address}
use Rattle.usb_device.specs.{EndpointData, EndpointSpec, Packets, Source}
use Rattle.usb_plan.specs.declared.entry_fault.EntryFault.{EntryFault}
use Rattle.usb_plan.specs.declared.entry_fault.EntryFault.TheVariants.{BadValue}
use Rattle.usb_plan.specs.EntryFault.{fault_in_part, least_fault, ◌>>=◌}
use Rattle.usb_plan.specs.Keys.{keys_at}
use Rattle.usb_plan.specs.Bulk.{halt_at}
use Rattle.usb_plan.specs.Texts.{items_from, texts_in}
use Rattle.usb_plan.specs.Value.{byte_at, number_or, hex_in, tables_in}

-- the key `address`: a direction, and a number of 1 to 15
unfoldable pub address_at : Option Data → Result ℕ EntryFault
address_at d = byte_at d >>= λ byte. if is_endpoint_address byte then Ok byte else Err BadValue

-- just one of the bytes of `source` and the packets of `packets`, or nothing
unfoldable pub data_in : Option Data → Option Data → Result EndpointData EntryFault
data_in None None = Ok (Source [])
data_in (Some d) None = hex_in 65535 d >>= λ bytes. Ok (Source bytes)
data_in None (Some d) = texts_in 1000 64 d >>= λ packets. Ok (Packets packets)
data_in (Some s) (Some p) = Err BadValue

-- an OUT endpoint gives nothing
unfoldable pub data_with : ℕ → Option Data → Option Data → Result EndpointData EntryFault
data_with address source packets =
    if nat_le DIRECTION_IN address then data_in source packets
    else if is_some source || is_some packets then Err BadValue
    else Ok (Source [])

-- the keys `source` and `packets`
unfoldable pub data_of : Members → Result EndpointData EntryFault
data_of ms =
    address_at (get_member (codes "address") ms)
    >>= λ address. data_with address (get_member (codes "source") ms)
    (get_member (codes "packets") ms)

-- the key `naks`; absent there are none
unfoldable pub endpoint_naks : Option Data → Result ℕ EntryFault
endpoint_naks d = number_or 0 0 300 d

unfoldable pub endpoint_with :
    Result ℕ EntryFault → Result EndpointData EntryFault → Result (Option ℕ) EntryFault
    → Result ℕ EntryFault → Result (Unit {0}) EntryFault → Result EndpointSpec EntryFault
endpoint_with address given halt_after naks keys = do
  u ← least_fault (fault_in_part address ∷ fault_in_part given ∷ fault_in_part halt_after ∷
      fault_in_part naks ∷ fault_in_part keys ∷ [])
  a ← address
  g ← given
  h ← halt_after
  n ← naks
  Ok (record { address = a; «data» = g; halt_after = h; naks = n })

abbrev pub endpoint_keys : List (List ℕ)
endpoint_keys =
    codes "address" ∷ codes "source" ∷ codes "packets" ∷ codes "halt_after" ∷ codes "naks" ∷ []

-- the endpoint that a table describes
unfoldable pub endpoint_of : Members → Result EndpointSpec EntryFault
endpoint_of ms =
    endpoint_with (address_at (get_member (codes "address") ms)) (data_of ms)
    (halt_at (get_member (codes "halt_after") ms)) (endpoint_naks (get_member (codes "naks") ms))
    (keys_at endpoint_keys ms)

unfoldable pub endpoint_in : Data → Result EndpointSpec EntryFault
endpoint_in d = ok_or (as_table d) BadValue >>= endpoint_of

-- the address in a table
unfoldable pub address_in : Data → Result ℕ EntryFault
address_in d =
    ok_or (as_table d) BadValue >>= λ ms. address_at (get_member (codes "address") ms)

unfoldable pub are_same : Result ℕ EntryFault → Result ℕ EntryFault → Bool
are_same (Ok a) (Ok b) = a == b
are_same (Ok a) (Err k) = false
are_same (Err k) b = false

-- two tables have the same address, whatever else is wrong with them
unfoldable pub share_address : Data → Data → Bool
share_address d e = are_same (address_in d) (address_in e)

-- each table has an address of its own
unfoldable pub are_distinct : List Data → Bool
are_distinct [] = true
are_distinct (d ∷ ds) = not (list_any (share_address d) ds) && are_distinct ds

unfoldable pub distinct_at : List Data → Result (Unit {0}) EntryFault
distinct_at ds = if are_distinct ds then Ok tt else Err BadValue

unfoldable pub endpoints_with : Result (List EndpointSpec) EntryFault
    → Result (Unit {0}) EntryFault → Result (List EndpointSpec) EntryFault
endpoints_with endpoints distinct = do
  u ← least_fault (fault_in_part endpoints ∷ fault_in_part distinct ∷ [])
  endpoints

-- at most 30 tables
unfoldable pub endpoints_in : Data → Result (List EndpointSpec) EntryFault
endpoints_in d =
    tables_in 30 d
    >>= λ ds. endpoints_with (items_from endpoint_in (Ok []) ds) (distinct_at ds)

-- the key `endpoint`; absent there are none
unfoldable pub endpoints_at : Option Data → Result (List EndpointSpec) EntryFault
endpoints_at None = Ok []
endpoints_at (Some d) = endpoints_in d

unfoldable pub endpoints_of : Members → Result (List EndpointSpec) EntryFault
endpoints_of ms = endpoints_at (get_member (codes "endpoint") ms)
