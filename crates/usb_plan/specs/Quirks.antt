-- The keys of what a device does otherwise than others.
use Rattle.std.specs.Prelude.{ℕ, codes, List, [], ◌∷◌, Bool, false, ◌||◌, Option, Some, None, ok_or}
use Rattle.std.specs.Prelude.{Result, Ok, Err, if◌then◌else◌}
use Rattle.std.specs.List.{list_any, list_all}
use Rattle.std.specs.Str.{bytes_eq}
use Rattle.toml.specs.Data.{Data, Members, get_member, as_bool, as_str}
use Rattle.usb_plan.specs.declared.entry_fault.EntryFault.{EntryFault}
use Rattle.usb_plan.specs.declared.entry_fault.EntryFault.TheVariants.{BadValue}
use Rattle.usb_plan.specs.declared.quirks.Quirks.{Quirks}
use Rattle.usb_plan.specs.EntryFault.{fault_in_part, least_fault, ◌>>=◌}
use Rattle.usb_plan.specs.Value.{read_items, number_or}
use Rattle.usb_device.specs.{no_stalls, Stalls}

-- a key that is true or false; absent it is false
unfoldable pub flag_at : Option Data → Result Bool EntryFault
flag_at None = Ok false
flag_at (Some d) = ok_or (as_bool d) BadValue

-- the key `naks`
unfoldable pub naks_at : Option Data → Result ℕ EntryFault
naks_at d = number_or 0 0 200 d

-- the text is the word
unfoldable pub is_word : List ℕ → Option (List ℕ) → Bool
is_word word None = false
is_word word (Some text) = bytes_eq text word

unfoldable pub names : List ℕ → Data → Bool
names word d = is_word word (as_str d)

-- the value names a request that can be refused
unfoldable pub is_stall : Data → Bool
is_stall d =
    names (codes "device") d || names (codes "address") d || names (codes "config") d ||
    names (codes "set_config") d
    || names (codes "status") d || names (codes "hub") d || names (codes "string") d
    || names (codes "interface") d

-- the requests that the values name
unfoldable pub stalls_named : List Data → Stalls
stalls_named ds = record {
  device = list_any (names (codes "device")) ds;
  address = list_any (names (codes "address")) ds;
  config = list_any (names (codes "config")) ds;
  set_config = list_any (names (codes "set_config")) ds;
  status = list_any (names (codes "status")) ds;
  hub = list_any (names (codes "hub")) ds;
  string = list_any (names (codes "string")) ds;
  interface = list_any (names (codes "interface")) ds;
}

unfoldable pub stalls_in : Data → Result Stalls EntryFault
stalls_in d = read_items d >>= λ ds. if list_all is_stall ds then Ok (stalls_named ds) else Err
    BadValue

-- the key `stalls`; absent nothing is refused
unfoldable pub stalls_at : Option Data → Result Stalls EntryFault
stalls_at None = Ok no_stalls
stalls_at (Some d) = stalls_in d

unfoldable pub quirks_with :
    Result Bool EntryFault → Result Bool EntryFault → Result Bool EntryFault → Result ℕ EntryFault
    → Result Stalls EntryFault
    → Result Quirks EntryFault
quirks_with self_powered busy silent naks stalls = do
  u ← least_fault (fault_in_part self_powered ∷ fault_in_part busy ∷ fault_in_part silent ∷
      fault_in_part naks
      ∷ fault_in_part stalls ∷ [])
  powered ← self_powered
  is_busy ← busy
  is_silent ← silent
  count ← naks
  refused ← stalls
  Ok (record {
    self_powered = powered;
    busy = is_busy;
    silent = is_silent;
    naks = count;
    stalls =
        refused;
  })

-- the keys of what a device does otherwise than others
unfoldable pub quirks_of : Members → Result Quirks EntryFault
quirks_of ms =
    quirks_with (flag_at (get_member (codes "self_powered") ms))
    (flag_at (get_member (codes "busy") ms))
    (flag_at (get_member (codes "silent") ms))
    (naks_at (get_member (codes "naks") ms))
    (stalls_at (get_member (codes "stalls") ms))
