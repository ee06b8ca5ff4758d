-- Which numbers and maximums the endpoints of a text have that a pipe can use.
use Rattle.std.proofs.Common.{◌≡◌, ◌≤◌, ◌<◌, ℕ, ◌==◌, nat_le, not, ◌&&◌, Bool, true, false, List}
use Rattle.std.proofs.Common.{[], ◌∷◌, if◌then◌else◌, replicate, ◌⊎◌, inl, inr}
use Rattle.std.proofs.Common.{Option, None, Some, Result, Ok, Err, refl, sym, ap, ◌∙◌, arith}
use Rattle.std.proofs.lemmas.Bool.Decides.{nat_tests}
use Rattle.std.proofs.lemmas.Bool.{cases_lt}
use Rattle.std.proofs.lemmas.List.{get_or-replicate, get_or_past}
use Rattle.std.specs.Option.{is_some, option_or}
use Rattle.usb_descriptor.specs.declared.item.Item.{Item}
use Rattle.usb_descriptor.specs.{EndpointKind, DescriptorFault, Endpoint, Interface, Other}
use Rattle.usb_descriptor.specs.{UsableEndpoint, alternate_setting, as_usable, bulk_described}
use Rattle.usb_descriptor.specs.{bulk_with}
use Rattle.usb_descriptor.specs.{config_of, default_settings, endpoint_number}
use Rattle.usb_descriptor.specs.{first_from, first_inside, has_number}
use Rattle.usb_descriptor.specs.{inside_after, interface_number, interrupt_described}
use Rattle.usb_descriptor.specs.{interrupt_with, is_bulk, is_bulk_size, is_interrupt}
use Rattle.usb_descriptor.specs.{items_of, max_packet_size, packet_size, setting_of, transfer_of}
use Rattle.usb_descriptor.specs.{usable_at, usable_in, usable_under, interrupt_most}
use Rattle.usb_descriptor.specs.declared.usable.EndpointKind.TheVariants as kind

-- number and maximum are what a pipe may have
record IsEnd (e : ℕ) (end : ℕ × ℕ) : Type 0 where
  number : end.0 ≡ e
  least : 1 ≤ end.0
  most : end.0 ≤ 15
  some : 1 ≤ end.1
  within : end.1 ≤ 64

by_tests : (test : Bool) (number max : ℕ) (end : ℕ × ℕ)
    → (if test then Some (number, max) else None) ≡ Some end → (number ≤ 15)
    → (test ≡ true → (1 ≤ number) × (1 ≤ max) × (max ≤ 64)) → IsEnd number end
by_tests false number max end h few so = cc h
by_tests true number max end h few so =
    let n : end.0 ≡ number = ap number_of (sym h) in
    let m : end.1 ≡ max = ap max_of (sym h) in
    let x = so refl in
    rw (n, m) (record { number = refl; least = x.0; most = few; some = x.1; within = x.2 })
  where
    number_of : Option (ℕ × ℕ) → ℕ
    number_of None = 0
    number_of (Some end) = end.0

    max_of : Option (ℕ × ℕ) → ℕ
    max_of None = 0
    max_of (Some end) = end.1

bulk_end : (endpoint : List ℕ) (end : ℕ × ℕ) → bulk_described endpoint ≡ Some end
    → IsEnd (endpoint_number endpoint) end
unfolding bulk_described
bulk_end endpoint end h =
    by_tests (is_bulk (transfer_of endpoint) && nat_le 1 (endpoint_number endpoint) &&
    is_bulk_size (max_packet_size endpoint)) (endpoint_number endpoint) (max_packet_size endpoint)
    end h (omega arith) (λ t. grind (arith, nat_tests, t))

interrupt_end : (low : Bool) (endpoint : List ℕ) (end : ℕ × ℕ)
    → interrupt_described low endpoint ≡ Some end → IsEnd (endpoint_number endpoint) end
unfolding interrupt_described
interrupt_end low endpoint end h =
    by_tests (is_interrupt (transfer_of endpoint) && nat_le 1 (endpoint_number endpoint) &&
    nat_le 1 (packet_size endpoint) && nat_le (packet_size endpoint) (interrupt_most low))
    (endpoint_number endpoint) (packet_size endpoint) end h (omega arith) (by_speed low)
  where
    by_speed : (slow : Bool) → (is_interrupt (transfer_of endpoint) &&
        nat_le 1 (endpoint_number endpoint) && nat_le 1 (packet_size endpoint) &&
        nat_le (packet_size endpoint) (interrupt_most slow)) ≡ true
        → (1 ≤ endpoint_number endpoint) × (1 ≤ packet_size endpoint)
        × (packet_size endpoint ≤ 64)
    by_speed true t = grind (arith, nat_tests, t)
    by_speed false t = grind (arith, nat_tests, t)

pub numbered : (to_host : Bool) (e : ℕ) (endpoint : List ℕ) → has_number to_host e endpoint ≡ true
    → endpoint_number endpoint ≡ e
numbered true e endpoint h = grind (arith, nat_tests, h)
numbered false e endpoint h = grind (arith, nat_tests, h)

-- what is picked first is picked of some item
pub first_so : (settings : List ℕ) (pick : ℕ → List ℕ → Option UsableEndpoint)
    (P : UsableEndpoint → Type 0)
    → ((interface : ℕ) (endpoint : List ℕ) (end : UsableEndpoint)
    → pick interface endpoint ≡ Some end → P end)
    → (inside : Option ℕ) (items : List Item) (end : UsableEndpoint)
    → first_inside settings pick inside items ≡ Some end → P end
first_so settings pick P so inside [] end h = cc h
first_so settings pick P so inside (Interface bytes ∷ items) end h =
    first_so settings pick P so (inside_after settings inside (Interface bytes)) items end h
first_so settings pick P so inside (Other bytes ∷ items) end h =
    first_so settings pick P so inside items end h
first_so settings pick P so None (Endpoint bytes ∷ items) end h =
    first_so settings pick P so None items end h
first_so settings pick P so (Some interface) (Endpoint bytes ∷ items) end h =
    by_pick (pick interface bytes) refl h (first_so settings pick P so (Some interface) items end)
  where
    by_pick : (o : Option UsableEndpoint) → pick interface bytes ≡ o
        → option_or o (first_inside settings pick (Some interface) items) ≡ Some end
        → (first_inside settings pick (Some interface) items ≡ Some end → P end) → P end
    by_pick None is g more = more g
    by_pick (Some x) is g more = so interface bytes end (is ∙ g)

-- a number of 1 to 15, and a maximum of 1 to 64
abbrev IsSmall : ℕ → UsableEndpoint → Type 0
IsSmall e end = (1 ≤ e) × (e ≤ 15) × (1 ≤ end.max) × (end.max ≤ 64)

abbrev max_or : Option UsableEndpoint → ℕ
max_or None = 0
max_or (Some end) = end.max

-- what is described of an endpoint with a number
small : (to_host : Bool) (e interface : ℕ) (k : EndpointKind) (endpoint : List ℕ)
    (described : Option (ℕ × ℕ)) (end : UsableEndpoint) → has_number to_host e endpoint ≡ true
    → ((x : ℕ × ℕ) → described ≡ Some x → IsEnd (endpoint_number endpoint) x)
    → as_usable k interface described ≡ Some end → IsSmall e end
small to_host e interface k endpoint None end here so g = cc g
small to_host e interface k endpoint (Some x) end here so g =
    let y = so x refl in
    let number : x.0 ≡ e = y.number ∙ numbered to_host e endpoint here in
    let max : end.max ≡ x.1 = ap max_or (sym g) in
    let z : (1 ≤ x.0) × (x.0 ≤ 15) × (1 ≤ x.1) × (x.1 ≤ 64) =
    (y.least, y.most, y.some, y.within) in
    rw max (rw number at z)

bulk_small : (low to_host : Bool) (e interface : ℕ) (endpoint : List ℕ) (end : UsableEndpoint)
    → bulk_with low to_host e interface endpoint ≡ Some end → IsSmall e end
unfolding bulk_with
bulk_small low to_host e interface endpoint end h =
    by_number low (has_number to_host e endpoint) refl h
  where
    by_number : (slow here : Bool) → has_number to_host e endpoint ≡ here
        → (if not slow && here then as_usable kind.Bulk interface (bulk_described endpoint)
        else None) ≡ Some end → IsSmall e end
    by_number true here is g = cc g
    by_number false false is g = cc g
    by_number false true is g = small to_host e interface kind.Bulk endpoint
        (bulk_described endpoint) end is (bulk_end endpoint) g

interrupt_small : (low to_host : Bool) (e interface : ℕ) (endpoint : List ℕ) (end : UsableEndpoint)
    → interrupt_with low to_host e interface endpoint ≡ Some end → IsSmall e end
unfolding interrupt_with
interrupt_small low to_host e interface endpoint end h =
    by_number (has_number to_host e endpoint) refl h
  where
    by_number : (here : Bool) → has_number to_host e endpoint ≡ here
        → (if here then as_usable kind.Interrupt interface (interrupt_described low endpoint)
        else None) ≡ Some end → IsSmall e end
    by_number false is g = cc g
    by_number true is g = small to_host e interface kind.Interrupt endpoint
        (interrupt_described low endpoint) end is (interrupt_end low endpoint) g

pub or_so : (P : Type 0) (end : UsableEndpoint) (a b : Option UsableEndpoint)
    → (a ≡ Some end → P) → (b ≡ Some end → P) → option_or a b ≡ Some end → P
or_so P end None b h k g = k g
or_so P end (Some x) b h k g = h g

pub usable_under-small : (settings : List ℕ) (low to_host : Bool) (e : ℕ) (bytes : List ℕ)
    (end : UsableEndpoint) → usable_under settings low to_host e bytes ≡ Some end
    → (1 ≤ e) × (e ≤ 15) × (1 ≤ end.max) × (end.max ≤ 64)
unfolding usable_under usable_at
usable_under-small settings low to_host e bytes end h = by_text (config_of bytes) h
  where
    by_text : (text : Result (List ℕ) DescriptorFault)
        → usable_in settings low to_host e text ≡ Some end → IsSmall e end
    by_text (Err fault) g = cc g
    by_text (Ok text) g = or_so (IsSmall e end) end _ _
        (first_so settings (bulk_with low to_host e) (IsSmall e) (bulk_small low to_host e) None
        (items_of text) end)
        (first_so settings (interrupt_with low to_host e) (IsSmall e)
        (interrupt_small low to_host e) None (items_of text) end) g

-- the settings of a device that was just configured
pub setting_of-default : (interface : ℕ) → setting_of default_settings interface ≡ 0
unfolding default_settings
setting_of-default interface = by_size (cases_lt interface 256)
  where
    by_size : (interface < 256) ⊎ (256 ≤ interface) → setting_of (replicate 256 0) interface ≡ 0
    by_size (inl h) = get_or-replicate 256 interface 0 0 h
    by_size (inr h) = get_or_past (replicate 256 0) interface 0 h

-- an endpoint in bulk, whatever its interface
abbrev pub IsBulkOf : ℕ → Option UsableEndpoint → Type 0
IsBulkOf max end = (interface : ℕ)
    × (end ≡ Some (record { kind = kind.Bulk; max = max; interface = interface }))

abbrev number_or : Option (ℕ × ℕ) → ℕ
number_or None = 0
number_or (Some x) = x.0

abbrev most_or : Option (ℕ × ℕ) → ℕ
most_or None = 0
most_or (Some x) = x.1

-- the first bulk endpoint of a direction is the one that counts at its number
first_with : (to_host : Bool) (way : List ℕ → Option (ℕ × ℕ)) (n m : ℕ)
    → ((interface : ℕ) (endpoint : List ℕ)
    → (way endpoint ≡ None → bulk_with false to_host n interface endpoint ≡ None)
    × ((end : ℕ × ℕ) → way endpoint ≡ Some end → end.0 ≡ n
    → bulk_with false to_host n interface endpoint ≡ as_usable kind.Bulk interface (Some end)))
    → (inside : Option ℕ) (items : List Item) → first_from way (is_some inside) items ≡ Some (n, m)
    → IsBulkOf m (first_inside default_settings (bulk_with false to_host n) inside items)
first_with to_host way n m so inside [] h = cc h
first_with to_host way n m so inside (Interface bytes ∷ items) h =
    by_setting (alternate_setting bytes == 0) refl h
    (first_with to_host way n m so (Some (interface_number bytes)) items)
    (first_with to_host way n m so None items)
  where
    by_setting : (b : Bool) → (alternate_setting bytes == 0) ≡ b
        → first_from way b items ≡ Some (n, m)
        → (first_from way true items ≡ Some (n, m) → IsBulkOf m
        (first_inside default_settings (bulk_with false to_host n) (Some (interface_number bytes))
        items))
        → (first_from way false items ≡ Some (n, m) → IsBulkOf m
        (first_inside default_settings (bulk_with false to_host n) None items))
        → IsBulkOf m (first_inside default_settings (bulk_with false to_host n)
        (if alternate_setting bytes == setting_of default_settings (interface_number bytes)
        then Some (interface_number bytes) else None) items)
    by_setting true is g inner outer =
        rw (setting_of-default (interface_number bytes), is) (inner g)
    by_setting false is g inner outer =
        rw (setting_of-default (interface_number bytes), is) (outer g)
first_with to_host way n m so inside (Other bytes ∷ items) h =
    first_with to_host way n m so inside items h
first_with to_host way n m so None (Endpoint bytes ∷ items) h =
    first_with to_host way n m so None items h
first_with to_host way n m so (Some interface) (Endpoint bytes ∷ items) h =
    by_way (way bytes) refl h (first_with to_host way n m so (Some interface) items)
  where
    by_way : (o : Option (ℕ × ℕ)) → way bytes ≡ o
        → option_or o (first_from way true items) ≡ Some (n, m)
        → (first_from way true items ≡ Some (n, m) → IsBulkOf m
        (first_inside default_settings (bulk_with false to_host n) (Some interface) items))
        → IsBulkOf m (option_or (bulk_with false to_host n interface bytes)
        (first_inside default_settings (bulk_with false to_host n) (Some interface) items))
    by_way None is g more = rw ((so interface bytes).0 is) (more g)
    by_way (Some x) is g more = rw ((so interface bytes).1 x is (ap number_or g))
        (rw (ap most_or g) (interface, refl))

then_none : (interface : ℕ) (b : Bool) (o : Option (ℕ × ℕ)) → o ≡ None
    → (if b then as_usable kind.Bulk interface o else None) ≡ None
then_none interface true o h = rw h refl
then_none interface false o h = refl

pub usable_under-no_text : (settings : List ℕ) (low to_host : Bool) (e : ℕ) (bytes : List ℕ)
    (fault : DescriptorFault) → config_of bytes ≡ Err fault
    → usable_under settings low to_host e bytes ≡ None
unfolding usable_under
usable_under-no_text settings low to_host e bytes fault h = ap (usable_in settings low to_host e) h
