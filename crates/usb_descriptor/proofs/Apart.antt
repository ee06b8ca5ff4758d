-- What is usable where an interface names an endpoint, and elsewhere, while settings change.
use Rattle.std.proofs.Common.{◌≡◌, ◌≢◌, ◌≤◌, ◌<◌, ℕ, ◌==◌, not, ◌&&◌, ◌||◌, Bool, true, false}
use Rattle.std.proofs.Common.{List, [], ◌∷◌, if◌then◌else◌, get_or, length, ◌⊎◌, inl, inr, ◌+◌}
use Rattle.std.proofs.Common.{zero, suc, Option, None, Some, Result, Ok, Err, refl, sym, ap}
use Rattle.std.proofs.Common.{◌∙◌, arith}
use Rattle.std.proofs.lemmas.Bool.{and_parts, or_parts, not-true, eqb-true, eqb-false}
use Rattle.std.proofs.lemmas.Bool.{and_from, true_from_ne_false, false_from_ne_true, both_ways}
use Rattle.std.proofs.lemmas.Bool.{eq-eqb, not-false, not_from_false, or_cases, or_left, or_right}
use Rattle.std.proofs.lemmas.List.{get_or-set_same, get_or-set_other, length-set, length-replicate}
use Rattle.std.proofs.lemmas.List.FromFn.{get_or-range_with_len, length-range_with_len}
use Rattle.std.proofs.lemmas.List.Folds.{list_all_at}
use Rattle.std.specs.List.{list_all, range_with_len}
use Rattle.std.specs.Option.{option_or}
use Rattle.usb_descriptor.specs.declared.item.Item.{Item}
use Rattle.usb_descriptor.specs.{DescriptorFault, Endpoint, Interface, Other, UsableEndpoint}
use Rattle.usb_descriptor.specs.{as_usable, belongs_to, bulk_described, bulk_with, config_of}
use Rattle.usb_descriptor.specs.{default_settings, first_inside, has_number, has_setting}
use Rattle.usb_descriptor.specs.{inside_after}
use Rattle.usb_descriptor.specs.{interface_number, interrupt_described, interrupt_with, is_apart}
use Rattle.usb_descriptor.specs.{is_apart_at, is_current, is_named, is_settable, is_shared}
use Rattle.usb_descriptor.specs.{items_of, named_after, names, names_elsewhere, names_if, names_in}
use Rattle.usb_descriptor.specs.{picked_inside, setting_of, settable_if, settable_in, taken_after}
use Rattle.usb_descriptor.specs.{usable_at, usable_in, usable_under, with_setting}
use Rattle.usb_descriptor.specs.declared.usable.EndpointKind.TheVariants as kind
use Rattle.usb_descriptor.proofs.UsableNumbers.{numbered, or_so}

-- Settings

pub setting_of-with_setting : (interface setting : ℕ) (settings : List ℕ)
    → interface < length settings
    → setting_of (with_setting interface setting settings) interface ≡ setting
setting_of-with_setting interface setting settings h =
    get_or-set_same settings interface setting 0 h

pub setting_of-with_other : (interface setting other : ℕ) (settings : List ℕ) → other ≢ interface
    → setting_of (with_setting interface setting settings) other ≡ setting_of settings other
setting_of-with_other interface setting other settings h =
    get_or-set_other settings interface other setting 0 h

pub length-with_setting : (interface setting : ℕ) (settings : List ℕ)
    → length (with_setting interface setting settings) ≡ length settings
length-with_setting interface setting settings = length-set settings interface setting

pub length-default_settings : length default_settings ≡ 256
unfolding default_settings
length-default_settings = length-replicate {A = ℕ} 256 0

-- What is picked at an address

-- a pick takes endpoints with this direction and number alone, for the interface that they are of
record PicksAt (to_host : Bool) (e : ℕ) (pick : ℕ → List ℕ → Option UsableEndpoint) : Type 0 where
  here : (interface : ℕ) (endpoint : List ℕ) (end : UsableEndpoint)
      → pick interface endpoint ≡ Some end
      → (has_number to_host e endpoint ≡ true) × (end.interface ≡ interface)
  else_none : (interface : ℕ) (endpoint : List ℕ) → has_number to_host e endpoint ≡ false
      → pick interface endpoint ≡ None

abbrev interface_or : Option UsableEndpoint → ℕ
interface_or None = 0
interface_or (Some end) = end.interface

of_interface : (k : _) (interface : ℕ) (o : Option (ℕ × ℕ)) (end : UsableEndpoint)
    → as_usable k interface o ≡ Some end → end.interface ≡ interface
of_interface k interface None end h = cc h
of_interface k interface (Some x) end h = ap interface_or (sym h)

picks_bulk : (low to_host : Bool) (e : ℕ) → PicksAt to_host e (bulk_with low to_host e)
unfolding bulk_with
picks_bulk low to_host e = record {
  here = λ interface endpoint end h.
      by_number low interface endpoint end (has_number to_host e endpoint) h;
  else_none = λ interface endpoint h. rw h (by_speed low _);
}
  where
    by_number : (slow : Bool) (interface : ℕ) (endpoint : List ℕ) (end : UsableEndpoint)
        (here : Bool)
        → (if not slow && here then as_usable kind.Bulk interface (bulk_described endpoint)
        else None) ≡ Some end → (here ≡ true) × (end.interface ≡ interface)
    by_number true interface endpoint end here g = cc g
    by_number false interface endpoint end false g = cc g
    by_number false interface endpoint end true g =
        (refl, of_interface kind.Bulk interface (bulk_described endpoint) end g)

    by_speed : (slow : Bool) (o : Option UsableEndpoint)
        → (if not slow && false then o else None) ≡ None
    by_speed true o = refl
    by_speed false o = refl

picks_interrupt : (low to_host : Bool) (e : ℕ) → PicksAt to_host e (interrupt_with low to_host e)
unfolding interrupt_with
picks_interrupt low to_host e = record {
  here = λ interface endpoint end h.
      by_number interface endpoint end (has_number to_host e endpoint) h;
  else_none = λ interface endpoint h. rw h refl;
}
  where
    by_number : (interface : ℕ) (endpoint : List ℕ) (end : UsableEndpoint) (here : Bool)
        → (if here then as_usable kind.Interrupt interface (interrupt_described low endpoint)
        else None) ≡ Some end → (here ≡ true) × (end.interface ≡ interface)
    by_number interface endpoint end false g = cc g
    by_number interface endpoint end true g =
        (refl, of_interface kind.Interrupt interface (interrupt_described low endpoint) end g)

same_or : (a b c d : Option UsableEndpoint) → a ≡ c → b ≡ d → option_or a b ≡ option_or c d
same_or a b c d h k = rw (h, k) refl

-- What is picked first is named by an interface that the test takes, if its own is one
named_first : (settings : List ℕ) (to_host : Bool) (e : ℕ)
    (pick : ℕ → List ℕ → Option UsableEndpoint) → PicksAt to_host e pick → (test : ℕ → Bool)
    (end : UsableEndpoint) → test end.interface ≡ true → (inside : Option ℕ) (taken : Bool)
    (items : List Item) → ((i : ℕ) → inside ≡ Some i → test i ≡ true → taken ≡ true)
    → first_inside settings pick inside items ≡ Some end
    → named_after test to_host e taken items ≡ true
named_first settings to_host e pick at test end own inside taken [] so h = cc h
named_first settings to_host e pick at test end own inside taken (Interface bytes ∷ items) so h =
    or_right (taken && false) _ (named_first settings to_host e pick at test end own
    (inside_after settings inside (Interface bytes)) (test (interface_number bytes)) items
    (by_current (is_current settings bytes)) h)
  where
    by_current : (b : Bool) (i : ℕ) → (if b then Some (interface_number bytes) else None) ≡ Some i
        → test i ≡ true → test (interface_number bytes) ≡ true
    by_current true i is t = cc (is, t)
    by_current false i is t = cc is
named_first settings to_host e pick at test end own inside taken (Other bytes ∷ items) so h =
    or_right (taken && false) _
    (named_first settings to_host e pick at test end own inside taken items so h)
named_first settings to_host e pick at test end own None taken (Endpoint bytes ∷ items) so h =
    or_right (taken && has_number to_host e bytes) _
    (named_first settings to_host e pick at test end own None taken items so h)
named_first settings to_host e pick at test end own (Some interface) taken (Endpoint bytes ∷ items)
    so h = by_pick (pick interface bytes) refl h
    (named_first settings to_host e pick at test end own (Some interface) taken items so)
  where
    by_pick : (o : Option UsableEndpoint) → pick interface bytes ≡ o
        → option_or o (first_inside settings pick (Some interface) items) ≡ Some end
        → (first_inside settings pick (Some interface) items ≡ Some end
        → named_after test to_host e taken items ≡ true)
        → (taken && has_number to_host e bytes || named_after test to_host e taken items) ≡ true
    by_pick None is g more = or_right (taken && has_number to_host e bytes) _ (more g)
    by_pick (Some x) is g more =
        let here = at.here interface bytes end (is ∙ g) in
        or_left (taken && has_number to_host e bytes) _ (and_from taken (has_number to_host e bytes)
        (so interface refl (cc (here.1, own))) here.0)

-- Settings that are the same for each interface that the test does not take
same_first : (to_host : Bool) (e : ℕ) (pick : ℕ → List ℕ → Option UsableEndpoint)
    → PicksAt to_host e pick → (test : ℕ → Bool) (s t : List ℕ)
    → ((i : ℕ) → test i ≡ false → setting_of s i ≡ setting_of t i) → (inside other : Option ℕ)
    (taken : Bool) (items : List Item) → (taken ≡ false → inside ≡ other)
    → named_after test to_host e taken items ≡ false
    → first_inside s pick inside items ≡ first_inside t pick other items
same_first to_host e pick at test s t agree inside other taken [] so h = refl
same_first to_host e pick at test s t agree inside other taken (Interface bytes ∷ items) so h =
    same_first to_host e pick at test s t agree (inside_after s inside (Interface bytes))
    (inside_after t other (Interface bytes)) (test (interface_number bytes)) items
    (λ k. rw (agree (interface_number bytes) k) refl) (or_parts (taken && false) _ h).1
same_first to_host e pick at test s t agree inside other taken (Other bytes ∷ items) so h =
    same_first to_host e pick at test s t agree inside other taken items so
    (or_parts (taken && false) _ h).1
same_first to_host e pick at test s t agree inside other taken (Endpoint bytes ∷ items) so h =
    let parts = or_parts (taken && has_number to_host e bytes)
    (named_after test to_host e taken items) h in
    same_or (picked_inside pick inside (Endpoint bytes)) (first_inside s pick inside items)
    (picked_inside pick other (Endpoint bytes)) (first_inside t pick other items)
    (by_taken taken so parts.0)
    (same_first to_host e pick at test s t agree inside other taken items so parts.1)
  where
    none : (o : Option ℕ) → has_number to_host e bytes ≡ false
        → picked_inside pick o (Endpoint bytes) ≡ None
    none None k = refl
    none (Some interface) k = at.else_none interface bytes k

    by_taken : (b : Bool) → (b ≡ false → inside ≡ other) → (b && has_number to_host e bytes) ≡ false
        → picked_inside pick inside (Endpoint bytes) ≡ picked_inside pick other (Endpoint bytes)
    by_taken true same k = none inside k ∙ sym (none other k)
    by_taken false same k = ap (λ o. picked_inside pick o (Endpoint bytes)) (same refl)

same_usable : (test : ℕ → Bool) (s t : List ℕ)
    → ((i : ℕ) → test i ≡ false → setting_of s i ≡ setting_of t i) → (low to_host : Bool) (e : ℕ)
    (items : List Item) → named_after test to_host e false items ≡ false
    → usable_at s low to_host e items ≡ usable_at t low to_host e items
unfolding usable_at
same_usable test s t agree low to_host e items h =
    same_or (first_inside s (bulk_with low to_host e) None items)
    (first_inside s (interrupt_with low to_host e) None items)
    (first_inside t (bulk_with low to_host e) None items)
    (first_inside t (interrupt_with low to_host e) None items)
    (same_first to_host e (bulk_with low to_host e) (picks_bulk low to_host e) test s t agree None
    None false items (λ _. refl) h)
    (same_first to_host e (interrupt_with low to_host e) (picks_interrupt low to_host e) test s t
    agree None None false items (λ _. refl) h)

named_usable : (test : ℕ → Bool) (settings : List ℕ) (low to_host : Bool) (e : ℕ)
    (items : List Item) (end : UsableEndpoint) → test end.interface ≡ true
    → usable_at settings low to_host e items ≡ Some end
    → named_after test to_host e false items ≡ true
unfolding usable_at
named_usable test settings low to_host e items end own h =
    or_so (named_after test to_host e false items ≡ true) end
    (first_inside settings (bulk_with low to_host e) None items)
    (first_inside settings (interrupt_with low to_host e) None items)
    (named_first settings to_host e (bulk_with low to_host e) (picks_bulk low to_host e) test end
    own None false items (λ i is _. cc is))
    (named_first settings to_host e (interrupt_with low to_host e) (picks_interrupt low to_host e)
    test end own None false items (λ i is _. cc is)) h

-- Addresses that are not shared

within : (to_host : Bool) (e : ℕ) (item : Item) → is_named to_host e item ≡ true → e < 16
within to_host e (Endpoint bytes) h = omega (arith, numbered to_host e bytes h)
within to_host e (Interface bytes) h = cc h
within to_host e (Other bytes) h = cc h

named_within : (test : ℕ → Bool) (to_host : Bool) (e : ℕ) (taken : Bool) (items : List Item)
    → named_after test to_host e taken items ≡ true → e < 16
named_within test to_host e taken [] h = cc h
named_within test to_host e taken (item ∷ items) h =
    by_case (or_cases (taken && is_named to_host e item)
    (named_after test to_host e (taken_after test taken item) items) h)
    (named_within test to_host e (taken_after test taken item) items)
  where
    by_case : ((taken && is_named to_host e item) ≡ true)
        ⊎ (named_after test to_host e (taken_after test taken item) items ≡ true)
        → (named_after test to_host e (taken_after test taken item) items ≡ true → e < 16) → e < 16
    by_case (inl here) more =
        within to_host e item (and_parts taken (is_named to_host e item) here).1
    by_case (inr there) more = more there

list_all-range : (p : ℕ → Bool) (a n : ℕ) → ((k : ℕ) → a ≤ k → k < a + n → p k ≡ true)
    → list_all p (range_with_len a n) ≡ true
list_all-range p a zero h = refl
list_all-range p a (suc n) h = and_from (p a) (list_all p (range_with_len (a + 1) n))
    (h a (omega arith) (omega arith))
    (list_all-range p (a + 1) n (λ k low high. h k (omega arith) (omega arith)))

pub is_apart-true : (interface : ℕ) (items : List Item)
    → ((e : ℕ) → e < 16 → is_apart_at interface items e ≡ true) → is_apart interface items ≡ true
unfolding is_apart
is_apart-true interface items h =
    list_all-range (is_apart_at interface items) 0 16 (λ k _ high. h k (omega arith))

pub is_apart-false : (interface : ℕ) (items : List Item) (e : ℕ) → e < 16
    → is_apart_at interface items e ≡ false → is_apart interface items ≡ false
unfolding is_apart
is_apart-false interface items e small h =
    let is : get_or (range_with_len 0 16) e 0 ≡ e =
    omega (arith, get_or-range_with_len 0 16 e 0 small) in
    list_all_at (is_apart_at interface items) (range_with_len 0 16) e 0
    (rw length-range_with_len small)
    (ap (is_apart_at interface items) is ∙ h)

apart_at : (interface : ℕ) (items : List Item) (e : ℕ) → e < 16 → is_apart interface items ≡ true
    → is_apart_at interface items e ≡ true
apart_at interface items e small h = true_from_ne_false (is_apart_at interface items e) (λ f.
    both_ways (is_apart interface items) (is_apart-false interface items e small f) h)

unshared : (interface : ℕ) (items : List Item) (to_host : Bool) (e : ℕ)
    → is_apart interface items ≡ true → names interface to_host e items ≡ true
    → names_elsewhere interface to_host e items ≡ false
unfolding names
unshared interface items to_host e apart named =
    by_way to_host (and_parts (not (is_shared interface false e items))
    (not (is_shared interface true e items)) (apart_at interface items e (named_within
    (λ other. other == interface) to_host e false items named) apart)) named
  where
    alone : (x y : Bool) → not (x && y) ≡ true → x ≡ true → y ≡ false
    alone x y h k = not-true y (rw k at h)

    by_way : (b : Bool) → (not (is_shared interface false e items) ≡ true)
        × (not (is_shared interface true e items) ≡ true) → names interface b e items ≡ true
        → names_elsewhere interface b e items ≡ false
    by_way false parts h = alone (names interface false e items)
        (names_elsewhere interface false e items) parts.0 h
    by_way true parts h = alone (names interface true e items)
        (names_elsewhere interface true e items) parts.1 h

-- For crates above

-- an endpoint that counts is one of its interface's
pub usable_under-belongs : (settings : List ℕ) (low to_host : Bool) (e : ℕ) (bytes : List ℕ)
    (end : UsableEndpoint) → usable_under settings low to_host e bytes ≡ Some end
    → names_in end.interface to_host e bytes ≡ true
unfolding usable_under names_in names
usable_under-belongs settings low to_host e bytes end h = by_text (config_of bytes) h
  where
    by_text : (text : Result (List ℕ) DescriptorFault)
        → usable_in settings low to_host e text ≡ Some end
        → names_if end.interface to_host e text ≡ true
    by_text (Err fault) g = cc g
    by_text (Ok text) g = named_usable (λ other. other == end.interface) settings low to_host e
        (items_of text) end (eq-eqb end.interface end.interface refl) g

-- where an interface has no endpoint its setting does not count
pub usable-elsewhere : (interface setting : ℕ) (settings : List ℕ) (low to_host : Bool) (e : ℕ)
    (bytes : List ℕ) → names_in interface to_host e bytes ≡ false
    → usable_under (with_setting interface setting settings) low to_host e bytes
    ≡ usable_under settings low to_host e bytes
unfolding usable_under names_in names
usable-elsewhere interface setting settings low to_host e bytes h = by_text (config_of bytes) h
  where
    by_text : (text : Result (List ℕ) DescriptorFault) → names_if interface to_host e text ≡ false
        → usable_in (with_setting interface setting settings) low to_host e text
        ≡ usable_in settings low to_host e text
    by_text (Err fault) g = refl
    by_text (Ok text) g = same_usable (λ other. other == interface)
        (with_setting interface setting settings) settings
        (λ i k. setting_of-with_other interface setting i settings (eqb-false i interface k))
        low to_host e (items_of text) g

-- where it has one that it shares with no other its setting alone counts
pub usable-named : (interface setting : ℕ) (s t : List ℕ) (low to_host : Bool) (e : ℕ)
    (bytes : List ℕ) → settable_in interface setting bytes ≡ true
    → names_in interface to_host e bytes ≡ true
    → setting_of s interface ≡ setting_of t interface
    → usable_under s low to_host e bytes ≡ usable_under t low to_host e bytes
unfolding usable_under names_in settable_in is_settable names_elsewhere
usable-named interface setting s t low to_host e bytes settable named same =
    by_text (config_of bytes) settable named
  where
    agree : (i : ℕ) → not (i == interface) ≡ false → setting_of s i ≡ setting_of t i
    agree i k =
        let is : i ≡ interface = eqb-true i interface (not-false (i == interface) k) in
        rw is same

    by_text : (text : Result (List ℕ) DescriptorFault)
        → settable_if interface setting text ≡ true → names_if interface to_host e text ≡ true
        → usable_in s low to_host e text ≡ usable_in t low to_host e text
    by_text (Err fault) g n = refl
    by_text (Ok text) g n = same_usable (λ other. not (other == interface)) s t agree low to_host e
        (items_of text) (unshared interface (items_of text) to_host e
        (and_parts (has_setting interface setting (items_of text))
        (is_apart interface (items_of text)) g).1 n)

-- and what counts there is its own
pub usable-own : (interface setting : ℕ) (settings : List ℕ) (low to_host : Bool) (e : ℕ)
    (bytes : List ℕ) (end : UsableEndpoint) → settable_in interface setting bytes ≡ true
    → names_in interface to_host e bytes ≡ true
    → usable_under settings low to_host e bytes ≡ Some end → end.interface ≡ interface
unfolding usable_under names_in settable_in is_settable names_elsewhere
usable-own interface setting settings low to_host e bytes end settable named h =
    by_text (config_of bytes) settable named h
  where
    by_text : (text : Result (List ℕ) DescriptorFault)
        → settable_if interface setting text ≡ true → names_if interface to_host e text ≡ true
        → usable_in settings low to_host e text ≡ Some end → end.interface ≡ interface
    by_text (Err fault) g n u = cc u
    by_text (Ok text) g n u =
        let apart : names_elsewhere interface to_host e (items_of text) ≡ false =
        unshared interface (items_of text) to_host e
        (and_parts (has_setting interface setting (items_of text))
        (is_apart interface (items_of text)) g).1 n in
        eqb-true end.interface interface (true_from_ne_false (end.interface == interface) (λ f.
        both_ways _ apart (named_usable (λ other. not (other == interface)) settings low to_host e
        (items_of text) end (not_from_false (end.interface == interface) f) u)))

-- an endpoint that an interface does not have is not its own
pub belongs_to-elsewhere : (interface : ℕ) (settings : List ℕ) (low to_host : Bool) (e : ℕ)
    (bytes : List ℕ) → names_in interface to_host e bytes ≡ false
    → belongs_to interface (usable_under settings low to_host e bytes) ≡ false
belongs_to-elsewhere interface settings low to_host e bytes h =
    by_end (usable_under settings low to_host e bytes) refl
  where
    by_end : (o : Option UsableEndpoint) → usable_under settings low to_host e bytes ≡ o
        → belongs_to interface o ≡ false
    by_end None is = refl
    by_end (Some end) is = false_from_ne_true (end.interface == interface) (λ t.
        both_ways (names_in interface to_host e bytes) h
        (ap (λ i. names_in i to_host e bytes) (sym (eqb-true end.interface interface t))
        ∙ usable_under-belongs settings low to_host e bytes end is))
