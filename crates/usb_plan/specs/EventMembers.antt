-- What the table of an event has at the keys that events may have.
use Rattle.std.specs.Prelude.{ℕ, codes, List, [], ◌∷◌, Bool, true, not, Option, Some, option_map}
use Rattle.std.specs.Prelude.{if◌then◌else◌}
use Rattle.std.specs.Str.{bytes_eq}
use Rattle.toml.specs.Data.{Data, Members, get_member}
use Rattle.toml.specs.View.{view}
use Rattle.usb_plan.specs.declared.members.EventMembers.{EventMembers}
use Rattle.usb_plan.specs.Keys.{only_named}

-- the value at each key that an event may have, and whether there is any other key
pub record EventValues : Type 0 where
  pub verb : Option Data
  pub after : Option Data
  pub path : Option Data
  pub device : Option Data
  pub bytes : Option Data
  pub packets : Option Data
  pub setup : Option Data
  pub endpoint : Option Data
  pub interface : Option Data
  pub setting : Option Data
  pub said : Option Data
  pub has_others : Bool

abbrev pub all_event_keys : List (List ℕ)
all_event_keys =
    codes "do" ∷ codes "after" ∷ codes "path" ∷ codes "device" ∷ codes "bytes" ∷ codes "packets" ∷
    codes "setup" ∷ codes "endpoint" ∷ codes "interface" ∷ codes "setting" ∷ codes "said" ∷ []

-- those of a table
unfoldable pub event_values : Members → EventValues
event_values ms = record {
  verb = get_member (codes "do") ms;
  after = get_member (codes "after") ms;
  path = get_member (codes "path") ms;
  device = get_member (codes "device") ms;
  bytes = get_member (codes "bytes") ms;
  packets = get_member (codes "packets") ms;
  setup = get_member (codes "setup") ms;
  endpoint = get_member (codes "endpoint") ms;
  interface = get_member (codes "interface") ms;
  setting = get_member (codes "setting") ms;
  said = get_member (codes "said") ms;
  has_others = not (only_named all_event_keys ms);
}

-- those that were found
abbrev pub found : EventMembers → EventValues
found m = record {
  verb = option_map (λ v. view v.now) m.verb;
  after = option_map (λ v. view v.now) m.after;
  path = option_map (λ v. view v.now) m.path;
  device = option_map (λ v. view v.now) m.device;
  bytes = option_map (λ v. view v.now) m.bytes;
  packets = option_map (λ v. view v.now) m.packets;
  setup = option_map (λ v. view v.now) m.setup;
  endpoint = option_map (λ v. view v.now) m.endpoint;
  interface = option_map (λ v. view v.now) m.interface;
  setting = option_map (λ v. view v.now) m.setting;
  said = option_map (λ v. view v.now) m.said;
  has_others = m.has_others;
}

-- with one more
unfoldable pub with_value : List ℕ → Data → EventValues → EventValues
with_value key d v =
    if bytes_eq key (codes "do") then record v { verb = Some d }
    else if bytes_eq key (codes "path") then record v { path = Some d }
    else if bytes_eq key (codes "device") then record v { device = Some d }
    else if bytes_eq key (codes "after") then record v { after = Some d }
    else if bytes_eq key (codes "bytes") then record v { bytes = Some d }
    else if bytes_eq key (codes "packets") then record v { packets = Some d }
    else if bytes_eq key (codes "setup") then record v { setup = Some d }
    else if bytes_eq key (codes "endpoint") then record v { endpoint = Some d }
    else if bytes_eq key (codes "interface") then record v { interface = Some d }
    else if bytes_eq key (codes "setting") then record v { setting = Some d }
    else if bytes_eq key (codes "said") then record v { said = Some d }
    else record v { has_others = true }
