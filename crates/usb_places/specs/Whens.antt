-- What the key `when` of an event or a damage says.
use Rattle.std.specs.Prelude.{ℕ, ℤ, pos, negsuc, codes, List, [], ◌∷◌, ◌&&◌}
use Rattle.std.specs.Prelude.{Option, None, Some, ok_or, Result, Ok, Err, nat_le, if◌then◌else◌}
use Rattle.std.specs.Str.{bytes_eq}
use Rattle.hex.specs.Hex.{decode_sized}
use Rattle.hex.specs.declared.error.FromHexError.{FromHexError}
use Rattle.toml.specs.Data.{Data, Members, get_member, as_bool, as_integer, as_str, as_table}
use Rattle.usb_plan.specs.{only_named, ◌>>=◌}
use Rattle.usb_port.specs.{parent_of, path_of, port_on_hub}
use Rattle.usb_request.specs.{Setup, setup_of}
use Rattle.usb_places.specs.declared.fault.WhenFault.{WhenFault}
use Rattle.usb_places.specs.declared.fault.WhenFault.TheVariants as why
use Rattle.usb_places.specs.declared.request.Request.{Request}
use Rattle.usb_places.specs.declared.request.Asked.TheVariants.{Named, Exact}
use Rattle.usb_places.specs.declared.when.Moment.{Moment}
use Rattle.usb_places.specs.declared.when.Moment.TheVariants as moment
use Rattle.usb_places.specs.declared.when.Sign.{Sign}
use Rattle.usb_places.specs.declared.when.Sign.TheVariants as signs
use Rattle.usb_places.specs.declared.when.When.{When}
use Rattle.usb_places.specs.Requests.{is_of_port, request_named}

-- a text, or this fault
unfoldable pub text_or : WhenFault → Option Data → Result (List ℕ) WhenFault
text_or fault d = ok_or d fault >>= λ x. ok_or (as_str x) fault

-- a number from low to high
unfoldable pub number_from : ℕ → ℕ → Option ℤ → Option ℕ
number_from low high None = None
number_from low high (Some (pos n)) = if nat_le low n && nat_le n high then Some n else None
number_from low high (Some (negsuc n)) = None

-- the key `nth`
unfoldable pub nth_at : Option Data → Result ℕ WhenFault
nth_at None = Ok 1
nth_at (Some d) = ok_or (number_from 1 1000000000 (as_integer d)) why.Nth

-- the number of a root port
unfoldable pub port_read : Data → Result ℕ WhenFault
port_read d = ok_or (number_from 1 7 (as_integer d)) why.Port

unfoldable pub moment_named : List ℕ → Result Moment WhenFault
moment_named text =
    if bytes_eq text (codes "token") then Ok moment.Token
    else if bytes_eq text (codes "data") then Ok moment.Data
    else if bytes_eq text (codes "answer") then Ok moment.Answer
    else if bytes_eq text (codes "after") then Ok moment.After
    else Err why.Moment

-- the key `at`
unfoldable pub moment_at : Option Data → Result Moment WhenFault
moment_at None = Ok moment.Token
moment_at (Some d) = text_or why.Moment (Some d) >>= moment_named

-- the key `path`
unfoldable pub path_at : Option Data → Result (List ℕ) WhenFault
path_at d = text_or why.Path d >>= λ text. ok_or (path_of text) why.Path

-- a request to a port goes to its hub
unfoldable pub device_at : Request → List ℕ → Result (List ℕ) WhenFault
device_at request path = if is_of_port request then ok_or (parent_of path) why.Path else Ok path

unfoldable pub port_of : Request → List ℕ → ℕ
port_of request path = if is_of_port request then port_on_hub path else 0

-- the keys `request`, `path` and `at`
unfoldable pub named_sign : Data → Members → Result Sign WhenFault
named_sign d ms = do
  text ← text_or why.Request (Some d)
  request ← request_named text
  path ← path_at (get_member (codes "path") ms)
  device ← device_at request path
  at ← moment_at (get_member (codes "at") ms)
  Ok (signs.Request (Named request (port_of request path)) device at)

abbrev pub setup_read : Result (List ℕ) FromHexError → Result Setup WhenFault
setup_read (Ok bytes) = Ok (setup_of bytes)
setup_read (Err e) = Err why.Setup

-- two digits for each of eight bytes
unfoldable pub setup_in : List ℕ → Result Setup WhenFault
setup_in text = setup_read (decode_sized text 8)

-- the keys `setup`, `path` and `at`
unfoldable pub exact_sign : Data → Members → Result Sign WhenFault
exact_sign d ms = do
  text ← text_or why.Setup (Some d)
  setup ← setup_in text
  device ← path_at (get_member (codes "path") ms)
  at ← moment_at (get_member (codes "at") ms)
  Ok (signs.Request (Exact setup) device at)

-- the keys `reset`, `port` and `wait`
unfoldable pub reset_sign : Data → Result Sign WhenFault
reset_sign d = port_read d >>= λ port. Ok (signs.Reset port)

unfoldable pub status_sign : Data → Result Sign WhenFault
status_sign d = port_read d >>= λ port. Ok (signs.Status port)

unfoldable pub wait_sign : Data → Result Sign WhenFault
wait_sign d = elim (as_bool d) [
  | None ↦ Err why.Wait
  | Some flag ↦ if flag then Ok signs.Wait else Err why.Wait
]

-- no key but these
unfoldable pub allowed : List (List ℕ) → Members → Result (Unit {0}) WhenFault
allowed names ms = if only_named names ms then Ok tt else Err why.Keys

abbrev pub request_keys : List ℕ → List (List ℕ)
request_keys first = first ∷ codes "path" ∷ codes "at" ∷ codes "nth" ∷ []

abbrev pub port_keys : List ℕ → List (List ℕ)
port_keys first = first ∷ codes "nth" ∷ []

-- of `request`, `setup`, `reset`, `port` and `wait` the first one counts
unfoldable pub sign_by : Option Data → Option Data → Option Data → Option Data → Option Data
    → Members → Result Sign WhenFault
sign_by (Some d) setup reset port wait ms =
    allowed (request_keys (codes "request")) ms >>= λ u. named_sign d ms
sign_by None (Some d) reset port wait ms =
    allowed (request_keys (codes "setup")) ms >>= λ u. exact_sign d ms
sign_by None None (Some d) port wait ms =
    allowed (port_keys (codes "reset")) ms >>= λ u. reset_sign d
sign_by None None None (Some d) wait ms =
    allowed (port_keys (codes "port")) ms >>= λ u. status_sign d
sign_by None None None None (Some d) ms =
    allowed (port_keys (codes "wait")) ms >>= λ u. wait_sign d
sign_by None None None None None ms = Err why.NoSign

unfoldable pub sign_of : Members → Result Sign WhenFault
sign_of ms =
    sign_by (get_member (codes "request") ms) (get_member (codes "setup") ms)
    (get_member (codes "reset") ms) (get_member (codes "port") ms)
    (get_member (codes "wait") ms) ms

-- the place that a value says
unfoldable pub when_in : Data → Result When WhenFault
when_in d = do
  ms ← ok_or (as_table d) why.NoTable
  sign ← sign_of ms
  nth ← nth_at (get_member (codes "nth") ms)
  Ok (record { sign = sign; nth = nth })
