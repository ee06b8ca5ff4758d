-- The values at the keys of an event by one walk over its entries, and its keys by them.
use Rattle.std.proofs.Common.{◌≡◌, ℕ, List, [], ◌∷◌, Bool, true, false, not, ◌&&◌, ◌||◌, Option}
use Rattle.std.proofs.Common.{Some, None, String, Global, Ordering, Less, Equal}
use Rattle.std.proofs.Common.{string_bytes, nat_cmp, is_eq, refl, sym, ap, ap₂, ◌∙◌, codes}
use Rattle.std.proofs.Common.{if◌then◌else◌}
use Rattle.std.specs.Str.{bytes_eq}
use Rattle.std.specs.List.{list_any, AllByRecursion}
use Rattle.std.specs.List.Sorted.{IsStrictlySortedBy}
use Rattle.std.specs.Map.{keys_of}
use Rattle.std.specs.String.{string_cmp}
use Rattle.std.specs.Cmp.Lexicographic.{slice_cmp}
use Rattle.std.proofs.lemmas.Slice.Eq.{bytes_eq-Decides}
use Rattle.std.proofs.lemmas.Map.Text.{is_eq-slice_cmp}
use Rattle.toml.specs.Data.{Data, Members, no_members, member, get_member}
use Rattle.toml.specs.View.{view, members_view}
use Rattle.toml.proofs.Views.{Entry}
use Rattle.usb_plan.specs.{only_named, EventValues, event_values, with_value, all_event_keys}
use Rattle.usb_scene.proofs.Interface.{bytes_eq-sym}

abbrev pub no_values : EventValues
no_values = record {
  verb = None;
  after = None;
  path = None;
  device = None;
  bytes = None;
  packets = None;
  setup = None;
  endpoint = None;
  interface = None;
  setting = None;
  said = None;
  has_others = false;
}

-- the values after a walk over members
abbrev pub walked : EventValues → Members → EventValues
walked v no_members = v
walked v (member k d ms) = walked (with_value k d v) ms

-- ---- keys

pub same_text : (k l : List ℕ) → bytes_eq k l ≡ true → l ≡ k
same_text k l h = sym ((bytes_eq-Decides k l).0 h)

-- a key at the first of the members, and one that is not there
first_member : (k l : List ℕ) (d : Data) (ms : Members) (o : Ordering) → o ≡ slice_cmp nat_cmp k l
    → is_eq o ≡ true → get_member k (member l d ms) ≡ Some d
first_member k l d ms Equal is h = rw (← is) refl
first_member k l d ms _ is h = cc

later_member : (k l : List ℕ) (d : Data) (ms : Members) (o : Ordering) → o ≡ slice_cmp nat_cmp k l
    → is_eq o ≡ false → get_member k (member l d ms) ≡ get_member k ms
later_member k l d ms Equal is h = cc
later_member k l d ms _ is h = rw (← is) refl

pub at_first : (k l : List ℕ) (d : Data) (ms : Members) → bytes_eq k l ≡ true
    → get_member k (member l d ms) ≡ Some d
at_first k l d ms h = first_member k l d ms _ refl (is_eq-slice_cmp k l ∙ h)

pub at_later : (k l : List ℕ) (d : Data) (ms : Members) → bytes_eq k l ≡ false
    → get_member k (member l d ms) ≡ get_member k ms
at_later k l d ms h = later_member k l d ms _ refl (is_eq-slice_cmp k l ∙ h)

-- a key before all others is none of them
absent_before : (k : String Global) (es : List Entry)
    → AllByRecursion (λ y. string_cmp k y ≡ Less) (keys_of es)
    → get_member (string_bytes k) (members_view es) ≡ None
absent_before k [] h = refl
absent_before k (e ∷ es) h = rw h.0 (absent_before k es h.1)

-- ---- the walk

-- where a key's value is kept
record IsKept (k : List ℕ) (at : EventValues → Option Data) : Type 0 where
  here : (d : Data) (v : EventValues) → at (with_value k d v) ≡ Some d
  apart : (l : List ℕ) (d : Data) (v : EventValues) → bytes_eq l k ≡ false
      → at (with_value l d v) ≡ at v

-- what is found, else what was kept
abbrev kept_or : Option Data → Option Data → Option Data
kept_or (Some d) kept = Some d
kept_or None kept = kept

walked_step : (k : List ℕ) (at : EventValues → Option Data) → IsKept k at
    → (l : String Global) (d : Data) (v : EventValues) (es : List Entry)
    → get_member (string_bytes l) (members_view es) ≡ None
    → (b : Bool) → bytes_eq k (string_bytes l) ≡ b
    → kept_or (get_member k (members_view es)) (at (with_value (string_bytes l) d v))
    ≡ kept_or (get_member k (member (string_bytes l) d (members_view es))) (at v)
walked_step k at kept l d v es none true same =
    let text : string_bytes l ≡ k = same_text k (string_bytes l) same in
    let gone : get_member k (members_view es) ≡ None =
    ap (λ x. get_member x (members_view es)) (sym text) ∙ none in
    let put : at (with_value (string_bytes l) d v) ≡ Some d = ap (λ x. at (with_value x d v)) text
    ∙ kept.here d v in
    ap₂ kept_or gone put ∙ sym (ap (λ x. kept_or x (at v))
    (at_first k (string_bytes l) d (members_view es) same))
walked_step k at kept l d v es none false other =
    let put = kept.apart (string_bytes l) d v (bytes_eq-sym k (string_bytes l) other) in
    ap (kept_or (get_member k (members_view es))) put
    ∙ sym (ap (λ x. kept_or x (at v)) (at_later k (string_bytes l) d (members_view es) other))

walked_at : (k : List ℕ) (at : EventValues → Option Data) → IsKept k at
    → (v : EventValues) (es : List Entry) → IsStrictlySortedBy string_cmp (keys_of es)
    → at (walked v (members_view es)) ≡ kept_or (get_member k (members_view es)) (at v)
unfolding IsStrictlySortedBy
walked_at k at kept v [] sorted = refl
walked_at k at kept v (e ∷ es) sorted =
    walked_at k at kept (with_value (string_bytes e.0) (view e.1) v) es sorted.1
    ∙ walked_step k at kept e.0 (view e.1) v es (absent_before e.0 es sorted.0) _ refl

or_kept-none : (found : Option Data) → kept_or found None ≡ found
or_kept-none None = refl
or_kept-none (Some d) = refl

-- what becomes of the values, by which of the eleven a key is
abbrev values_with_key : Bool → Bool → Bool → Bool → Bool → Bool → Bool → Bool → Bool → Bool
    → Bool → Data → EventValues → EventValues
values_with_key a b c d e f g h m n o x v =
    if a then record v { verb = Some x }
    else if b then record v { path = Some x }
    else if c then record v { device = Some x }
    else if d then record v { after = Some x }
    else if e then record v { bytes = Some x }
    else if f then record v { packets = Some x }
    else if g then record v { setup = Some x }
    else if h then record v { endpoint = Some x }
    else if m then record v { interface = Some x }
    else if n then record v { setting = Some x }
    else if o then record v { said = Some x }
    else record v { has_others = true }

verb_spared : (b c d e f g h m n o : Bool) (x : Data) (v : EventValues)
    → (values_with_key false b c d e f g h m n o x v).verb ≡ v.verb
verb_spared false false false false false false false false false false x v = refl
verb_spared _ _ _ _ _ _ _ _ _ _ x v = refl

verb_kept : IsKept (codes "do") (λ v. v.verb)
unfolding with_value
verb_kept = record {
  here = λ d v. refl;
  apart = λ l d v h. rw h (verb_spared _ _ _ _ _ _ _ _ _ _ d v);
}

after_spared : (a b c e f g h m n o : Bool) (x : Data) (v : EventValues)
    → (values_with_key a b c false e f g h m n o x v).after ≡ v.after
after_spared false false false false false false false false false false x v = refl
after_spared _ _ _ _ _ _ _ _ _ _ x v = refl

after_kept : IsKept (codes "after") (λ v. v.after)
unfolding with_value
after_kept = record {
  here = λ d v. refl;
  apart = λ l d v h. rw h (after_spared _ _ _ _ _ _ _ _ _ _ d v);
}

path_spared : (a c d e f g h m n o : Bool) (x : Data) (v : EventValues)
    → (values_with_key a false c d e f g h m n o x v).path ≡ v.path
path_spared false false false false false false false false false false x v = refl
path_spared _ _ _ _ _ _ _ _ _ _ x v = refl

path_key_kept : IsKept (codes "path") (λ v. v.path)
unfolding with_value
path_key_kept = record {
  here = λ d v. refl;
  apart = λ l d v h. rw h (path_spared _ _ _ _ _ _ _ _ _ _ d v);
}

device_spared : (a b d e f g h m n o : Bool) (x : Data) (v : EventValues)
    → (values_with_key a b false d e f g h m n o x v).device ≡ v.device
device_spared false false false false false false false false false false x v = refl
device_spared _ _ _ _ _ _ _ _ _ _ x v = refl

device_kept : IsKept (codes "device") (λ v. v.device)
unfolding with_value
device_kept = record {
  here = λ d v. refl;
  apart = λ l d v h. rw h (device_spared _ _ _ _ _ _ _ _ _ _ d v);
}

bytes_spared : (a b c d f g h m n o : Bool) (x : Data) (v : EventValues)
    → (values_with_key a b c d false f g h m n o x v).bytes ≡ v.bytes
bytes_spared false false false false false false false false false false x v = refl
bytes_spared _ _ _ _ _ _ _ _ _ _ x v = refl

bytes_kept : IsKept (codes "bytes") (λ v. v.bytes)
unfolding with_value
bytes_kept = record {
  here = λ d v. refl;
  apart = λ l d v h. rw h (bytes_spared _ _ _ _ _ _ _ _ _ _ d v);
}

packets_spared : (a b c d e g h m n o : Bool) (x : Data) (v : EventValues)
    → (values_with_key a b c d e false g h m n o x v).packets ≡ v.packets
packets_spared false false false false false false false false false false x v = refl
packets_spared _ _ _ _ _ _ _ _ _ _ x v = refl

packets_kept : IsKept (codes "packets") (λ v. v.packets)
unfolding with_value
packets_kept = record {
  here = λ d v. refl;
  apart = λ l d v h. rw h (packets_spared _ _ _ _ _ _ _ _ _ _ d v);
}

setup_spared : (a b c d e f h m n o : Bool) (x : Data) (v : EventValues)
    → (values_with_key a b c d e f false h m n o x v).setup ≡ v.setup
setup_spared false false false false false false false false false false x v = refl
setup_spared _ _ _ _ _ _ _ _ _ _ x v = refl

setup_kept : IsKept (codes "setup") (λ v. v.setup)
unfolding with_value
setup_kept = record {
  here = λ d v. refl;
  apart = λ l d v h. rw h (setup_spared _ _ _ _ _ _ _ _ _ _ d v);
}

endpoint_spared : (a b c d e f g m n o : Bool) (x : Data) (v : EventValues)
    → (values_with_key a b c d e f g false m n o x v).endpoint ≡ v.endpoint
endpoint_spared false false false false false false false false false false x v = refl
endpoint_spared _ _ _ _ _ _ _ _ _ _ x v = refl

endpoint_kept : IsKept (codes "endpoint") (λ v. v.endpoint)
unfolding with_value
endpoint_kept = record {
  here = λ d v. refl;
  apart = λ l d v h. rw h (endpoint_spared _ _ _ _ _ _ _ _ _ _ d v);
}

interface_spared : (a b c d e f g h n o : Bool) (x : Data) (v : EventValues)
    → (values_with_key a b c d e f g h false n o x v).interface ≡ v.interface
interface_spared false false false false false false false false false false x v = refl
interface_spared _ _ _ _ _ _ _ _ _ _ x v = refl

interface_kept : IsKept (codes "interface") (λ v. v.interface)
unfolding with_value
interface_kept = record {
  here = λ d v. refl;
  apart = λ l d v h. rw h (interface_spared _ _ _ _ _ _ _ _ _ _ d v);
}

setting_spared : (a b c d e f g h m o : Bool) (x : Data) (v : EventValues)
    → (values_with_key a b c d e f g h m false o x v).setting ≡ v.setting
setting_spared false false false false false false false false false false x v = refl
setting_spared _ _ _ _ _ _ _ _ _ _ x v = refl

setting_kept : IsKept (codes "setting") (λ v. v.setting)
unfolding with_value
setting_kept = record {
  here = λ d v. refl;
  apart = λ l d v h. rw h (setting_spared _ _ _ _ _ _ _ _ _ _ d v);
}

said_spared : (a b c d e f g h m n : Bool) (x : Data) (v : EventValues)
    → (values_with_key a b c d e f g h m n false x v).said ≡ v.said
said_spared false false false false false false false false false false x v = refl
said_spared _ _ _ _ _ _ _ _ _ _ x v = refl

said_kept : IsKept (codes "said") (λ v. v.said)
unfolding with_value
said_kept = record {
  here = λ d v. refl;
  apart = λ l d v h. rw h (said_spared _ _ _ _ _ _ _ _ _ _ d v);
}

or_not_true : (x : Bool) → x ≡ x || not true
or_not_true true = refl
or_not_true false = refl

or_not_false : (x : Bool) → true ≡ x || not false
or_not_false true = refl
or_not_false false = refl

-- whether there was another key, by which of the eleven it is
others_chosen : (a b c d e f g h m n o : Bool) (x : Data) (v : EventValues)
    → (values_with_key a b c d e f g h m n o x v).has_others ≡ v.has_others ||
    not (a || (b || (c || (d || (e || (f || (g || (h || (m || (n || (o || false)))))))))))
others_chosen false false false false false false false false false false false x v =
    or_not_false v.has_others
others_chosen _ _ _ _ _ _ _ _ _ _ _ x v = or_not_true v.has_others

-- the names of all keys have `after` second
after_turned : (b c d r : Bool) → b || (c || (d || r)) ≡ d || (b || (c || r))
after_turned true c true r = refl
after_turned true c false r = refl
after_turned false true true r = refl
after_turned false true false r = refl
after_turned false false d r = refl

others_step : (l : List ℕ) (d : Data) (v : EventValues) → (with_value l d v).has_others
    ≡ v.has_others || not (list_any (bytes_eq l) all_event_keys)
unfolding with_value
others_step l d v = others_chosen _ _ _ _ _ _ _ _ _ _ _ d v
    ∙ ap (λ b. v.has_others || not (bytes_eq l (codes "do") || b))
    (after_turned (bytes_eq l (codes "path")) (bytes_eq l (codes "device"))
    (bytes_eq l (codes "after")) _)

either_other : (x a b : Bool) → (x || not a) || not b ≡ x || not (a && b)
either_other true a b = refl
either_other false true b = refl
either_other false false b = refl

others_walked : (v : EventValues) (ms : Members) → (walked v ms).has_others ≡ v.has_others ||
    not (only_named all_event_keys ms)
unfolding only_named
others_walked v no_members = or_not_true v.has_others
others_walked v (member l d ms) =
    others_walked (with_value l d v) ms ∙ ap (λ x. x || not (only_named all_event_keys ms))
    (others_step l d v)
    ∙ either_other v.has_others (list_any (bytes_eq l) all_event_keys)
    (only_named all_event_keys ms)

-- the walk finds what look-ups find
pub walked_is : (es : List Entry) → IsStrictlySortedBy string_cmp (keys_of es)
    → walked no_values (members_view es) ≡ event_values (members_view es)
unfolding event_values
walked_is es sorted =
    let ms : Members = members_view es in
    let verb = walked_at (codes "do") _ verb_kept no_values es sorted ∙ or_kept-none _ in
    let after = walked_at (codes "after") _ after_kept no_values es sorted ∙ or_kept-none _ in
    let path = walked_at (codes "path") _ path_key_kept no_values es sorted ∙ or_kept-none _ in
    let device = walked_at (codes "device") _ device_kept no_values es sorted ∙ or_kept-none _ in
    let bytes = walked_at (codes "bytes") _ bytes_kept no_values es sorted ∙ or_kept-none _ in
    let packets = walked_at (codes "packets") _ packets_kept no_values es sorted ∙ or_kept-none _ in
    let setup = walked_at (codes "setup") _ setup_kept no_values es sorted ∙ or_kept-none _ in
    let endpoint = walked_at (codes "endpoint") _ endpoint_kept no_values es sorted
    ∙ or_kept-none _ in
    let interface = walked_at (codes "interface") _ interface_kept no_values es sorted
    ∙ or_kept-none _ in
    let setting = walked_at (codes "setting") _ setting_kept no_values es sorted
    ∙ or_kept-none _ in
    let said = walked_at (codes "said") _ said_kept no_values es sorted ∙ or_kept-none _ in
    let others = others_walked no_values ms in
    λ i. record {
      verb = verb i;
      after = after i;
      path = path i;
      device = device i;
      bytes = bytes i;
      packets = packets i;
      setup = setup i;
      endpoint = endpoint i;
      interface = interface i;
      setting = setting i;
      said = said i;
      has_others = others i;
    }
