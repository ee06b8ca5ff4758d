-- A device as a plan describes it.
use Rattle.std.specs.Prelude.{◌≡◌, ◌≤◌, ℕ, List, [], ◌∷◌, length, take, nat_lt, ◌==◌, Bool, true}
use Rattle.std.specs.Prelude.{false, ◌&&◌, not, if◌then◌else◌, Option, None, Some, Ok, Err, All}
use Rattle.std.specs.Option.{IfSome}
use Rattle.std.specs.List.{list_any}
use Rattle.std.specs.Str.{bytes_eq}
use Rattle.usb_request.specs.{HUB_CLASS, HUB, HUB_LENGTH}
use Rattle.usb_descriptor.specs.{device_class, hub_spelled, port_count}
use Rattle.usb_device.specs.declared.spec.Stalls.{Stalls}
use Rattle.usb_device.specs.declared.own_request.OwnRequest.{OwnRequest}
use Rattle.usb_device.specs.declared.endpoint_spec.EndpointSpec.{EndpointSpec}

-- a hub: its ports, and its hub descriptor (11.23.2.1)
pub record Hub : Type 0 where
  pub ports : ℕ
  pub descriptor : List ℕ

-- how many ports a device has
abbrev pub hub_ports : Option Hub → ℕ
hub_ports None = 0
hub_ports (Some hub) = hub.ports

pub record Spec : Type 0 where
  pub name : List ℕ
  -- low speed, else full
  pub low : Bool
  pub descriptor : List ℕ
  pub configs : List (List ℕ)
  pub strings : List (List ℕ)
  pub self_powered : Bool
  -- each data and status stage is answered by NAK
  pub busy : Bool
  -- nothing is ever answered
  pub silent : Bool
  -- how many NAKs each control transfer begins with
  pub naks : ℕ
  pub stalls : Stalls
  pub hub : Option Hub
  -- what the first bulk IN endpoint gives, where no row names it
  pub source : List ℕ
  -- the first bulk OUT endpoint halts once, when so many packets were taken since the plug, where
  -- no row names it
  pub halt_after : Option ℕ
  -- its endpoints; of an address the first row counts
  pub endpoints : List EndpointSpec
  -- its own requests, the first that fits first
  pub requests : List OwnRequest

-- bDeviceClass is a hub's (11.23.1)
abbrev pub has_hub_class : List ℕ → Bool
has_hub_class descriptor = nat_lt 4 (length descriptor) && device_class descriptor == HUB_CLASS

-- a hub is of full speed and has the class of hubs
abbrev pub hub_fits : Bool → List ℕ → Option Hub → Bool
hub_fits low descriptor None = true
hub_fits low descriptor (Some hub) = not low && has_hub_class descriptor

-- where the first bytes are the descriptor of a hub, it has so many ports
abbrev pub agrees : ℕ → List ℕ → Bool
agrees ports bytes = elim (hub_spelled true (take HUB_LENGTH bytes)) [
  | Ok hub ↦ port_count hub == ports
  | Err fault ↦ true
]

-- the rules of a hub
pub record IsHub (h : Hub) : Type 0 where
  pub least : 1 ≤ h.ports
  pub most : h.ports ≤ 15
  pub agree : agrees h.ports h.descriptor ≡ true

-- the rules of a device
pub record IsSpec (s : Spec) : Type 0 where
  pub naks : s.naks ≤ 200
  pub fits : hub_fits s.low s.descriptor s.hub ≡ true
  pub hub : IfSome s.hub IsHub
  pub configs : length s.configs ≤ 8
  pub texts : All (λ text. length text ≤ 65535) s.configs
  pub strings : length s.strings ≤ 256
  pub halt : IfSome s.halt_after (λ packets. 1 ≤ packets)
  pub endpoints : length s.endpoints ≤ 30
  pub requests : length s.requests ≤ 64

-- the descriptor of a hub whose ports are switched one by one: each of its last two fields has a
-- bit for each port, in one byte or two
abbrev pub usual_descriptor : ℕ → List ℕ
usual_descriptor ports =
    if nat_lt 7 ports then 11 ∷ HUB ∷ ports ∷ 1 ∷ 0 ∷ 0 ∷ 0 ∷ 0 ∷ 0 ∷ 0xff ∷ 0xff ∷ []
    else HUB_LENGTH ∷ HUB ∷ ports ∷ 1 ∷ 0 ∷ 0 ∷ 0 ∷ 0 ∷ 0xff ∷ []

-- a hub whose ports are switched one by one
abbrev pub usual_hub : ℕ → Hub
usual_hub ports = record { ports = ports; descriptor = usual_descriptor ports }

abbrev pub no_stalls : Stalls
no_stalls = record {
  device = false;
  address = false;
  config = false;
  set_config = false;
  status =
      false;
  hub = false;
  string = false;
  interface = false;
}

-- a full-speed function without strings that does nothing special
abbrev pub function : List ℕ → List ℕ → List (List ℕ) → Spec
function name descriptor configs = record {
  name = name;
  low = false;
  descriptor = descriptor;
  configs = configs;
  strings = [];
  self_powered = false;
  busy = false;
  silent = false;
  naks = 0;
  stalls = no_stalls;
  hub = None;
  source = [];
  halt_after = None;
  endpoints = [];
  requests = [];
}

-- a device has the name
abbrev pub is_named : List Spec → List ℕ → Bool
is_named specs name = list_any (λ s. bytes_eq s.name name) specs

-- no device has the name of a later one
abbrev pub names_differ : List Spec → Bool
names_differ [] = true
names_differ (s ∷ specs) = not (is_named specs s.name) && names_differ specs

-- at most 127 devices, no two of one name, each as the rules say
pub record AreDevices (specs : List Spec) : Type 0 where
  pub count : length specs ≤ 127
  pub names : names_differ specs ≡ true
  pub ruled : All IsSpec specs
