-- The endpoints of a text that a pipe can use, item by item.
use Rattle.std.proofs.Common.{◌≡◌, ℕ, not, ◌&&◌, Bool, true, false, List, [], ◌∷◌, Option, None}
use Rattle.std.proofs.Common.{Some, refl, if◌then◌else◌}
use Rattle.std.specs.Option.{option_or}
use Rattle.usb_descriptor.specs.declared.item.Item.{Item}
use Rattle.usb_descriptor.specs.{EndpointKind, Endpoint, Interface, Other, UsableEndpoint}
use Rattle.usb_descriptor.specs.{as_usable, bulk_described, bulk_with, counting_of}
use Rattle.usb_descriptor.specs.{first_inside, has_number, inside_after, interrupt_described}
use Rattle.usb_descriptor.specs.{interrupt_with, usable_item}
use Rattle.usb_descriptor.specs.declared.usable.EndpointKind.TheVariants.{Bulk, Interrupt}

-- the endpoint is of this kind, if there is one
abbrev pub IsOfKind : EndpointKind → Option UsableEndpoint → Type 0
IsOfKind kind None = Unit {0}
IsOfKind kind (Some end) = end.kind ≡ kind

as_usable-kind : (kind : EndpointKind) (interface : ℕ) (o : Option (ℕ × ℕ))
    → IsOfKind kind (as_usable kind interface o)
as_usable-kind kind interface None = tt
as_usable-kind kind interface (Some end) = refl

if-kind : (kind : EndpointKind) (b : Bool) (o : Option UsableEndpoint) → IsOfKind kind o
    → IsOfKind kind (if b then o else None)
if-kind kind true o h = h
if-kind kind false o h = tt

or-kind : (kind : EndpointKind) (a b : Option UsableEndpoint) → IsOfKind kind a → IsOfKind kind b
    → IsOfKind kind (option_or a b)
or-kind kind None b h k = k
or-kind kind (Some end) b h k = h

-- what is picked first is of the kind that is picked
first_inside-kind : (kind : EndpointKind) (settings : List ℕ)
    (pick : ℕ → List ℕ → Option UsableEndpoint)
    → ((interface : ℕ) (endpoint : List ℕ) → IsOfKind kind (pick interface endpoint))
    → (inside : Option ℕ) (items : List Item)
    → IsOfKind kind (first_inside settings pick inside items)
first_inside-kind kind settings pick so inside [] = tt
first_inside-kind kind settings pick so inside (Interface bytes ∷ items) =
    first_inside-kind kind settings pick so (inside_after settings inside (Interface bytes)) items
first_inside-kind kind settings pick so inside (Other bytes ∷ items) =
    first_inside-kind kind settings pick so inside items
first_inside-kind kind settings pick so None (Endpoint bytes ∷ items) =
    first_inside-kind kind settings pick so None items
first_inside-kind kind settings pick so (Some interface) (Endpoint bytes ∷ items) =
    or-kind kind (pick interface bytes) (first_inside settings pick (Some interface) items)
    (so interface bytes) (first_inside-kind kind settings pick so (Some interface) items)

bulk_with-kind : (low to_host : Bool) (e interface : ℕ) (endpoint : List ℕ)
    → IsOfKind Bulk (bulk_with low to_host e interface endpoint)
unfolding bulk_with
bulk_with-kind low to_host e interface endpoint =
    if-kind Bulk (not low && has_number to_host e endpoint) _
    (as_usable-kind Bulk interface (bulk_described endpoint))

interrupt_with-kind : (low to_host : Bool) (e interface : ℕ) (endpoint : List ℕ)
    → IsOfKind Interrupt (interrupt_with low to_host e interface endpoint)
unfolding interrupt_with
interrupt_with-kind low to_host e interface endpoint =
    if-kind Interrupt (has_number to_host e endpoint) _
    (as_usable-kind Interrupt interface (interrupt_described low endpoint))

counting_of-none : (c : Option UsableEndpoint) → counting_of c None ≡ c
counting_of-none None = refl
counting_of-none (Some had) = refl

-- an endpoint that is taken before others
pub counting_of-twice : (c b i more least : Option UsableEndpoint) → IsOfKind Bulk b
    → IsOfKind Interrupt i → IsOfKind Bulk more → IsOfKind Interrupt least
    → counting_of (counting_of c (option_or b i)) (option_or more least)
    ≡ counting_of c (option_or (option_or b more) (option_or i least))
counting_of-twice c None None more least hb hi hm hl = rw (counting_of-none c) refl
counting_of-twice None None (Some i) None None hb hi hm hl = refl
counting_of-twice None None (Some i) None (Some least) hb hi hm hl = simp (hi, hl)
counting_of-twice None None (Some i) (Some more) least hb hi hm hl = simp (hi, hm)
counting_of-twice None (Some b) i None None hb hi hm hl = refl
counting_of-twice None (Some b) i None (Some least) hb hi hm hl = simp hb
counting_of-twice None (Some b) i (Some more) least hb hi hm hl = simp hb
counting_of-twice (Some had) b i more least hb hi hm hl =
    by_had had.kind refl b i more least hb hi hm hl
  where
    by_had : (kind : EndpointKind) → had.kind ≡ kind → (b i more least : Option UsableEndpoint)
        → IsOfKind Bulk b → IsOfKind Interrupt i → IsOfKind Bulk more → IsOfKind Interrupt least
        → counting_of (counting_of (Some had) (option_or b i)) (option_or more least)
        ≡ counting_of (Some had) (option_or (option_or b more) (option_or i least))
    by_had kind is None None more least hb hi hm hl = refl
    by_had Bulk is None (Some i) None None hb hi hm hl = simp is
    by_had Bulk is None (Some i) None (Some least) hb hi hm hl = simp is
    by_had Bulk is None (Some i) (Some more) least hb hi hm hl = simp is
    by_had Bulk is (Some b) i None None hb hi hm hl = simp is
    by_had Bulk is (Some b) i None (Some least) hb hi hm hl = simp is
    by_had Bulk is (Some b) i (Some more) least hb hi hm hl = simp is
    by_had Interrupt is None (Some i) None None hb hi hm hl = simp (is, hi)
    by_had Interrupt is None (Some i) None (Some least) hb hi hm hl = simp (is, hi, hl)
    by_had Interrupt is None (Some i) (Some more) least hb hi hm hl = simp (is, hi, hm)
    by_had Interrupt is (Some b) i None None hb hi hm hl = simp (is, hb)
    by_had Interrupt is (Some b) i None (Some least) hb hi hm hl = simp (is, hb, hl)
    by_had Interrupt is (Some b) i (Some more) least hb hi hm hl = simp (is, hb, hm)

-- the first of each kind among the items that are left
abbrev pub usable_from : List ℕ → Bool → Bool → ℕ → Option ℕ → List Item → Option UsableEndpoint
usable_from settings low to_host e inside items =
    option_or (first_inside settings (bulk_with low to_host e) inside items)
    (first_inside settings (interrupt_with low to_host e) inside items)

-- the endpoint of one number after an item that counts
pub taken_then : (settings : List ℕ) (low to_host : Bool) (e interface : ℕ) (endpoint : List ℕ)
    (items : List Item) (c taken : Option UsableEndpoint)
    → taken ≡ counting_of c
    (if has_number to_host e endpoint then usable_item low interface endpoint else None)
    → counting_of taken (usable_from settings low to_host e (Some interface) items)
    ≡ counting_of c
    (usable_from settings low to_host e (Some interface) (Endpoint endpoint ∷ items))
unfolding bulk_with interrupt_with
taken_then settings low to_host e interface endpoint items c taken is = rw is
    (by_number low (has_number to_host e endpoint) _ _
    (first_inside-kind Bulk settings (bulk_with low to_host e) (bulk_with-kind low to_host e)
    (Some interface) items)
    (first_inside-kind Interrupt settings (interrupt_with low to_host e)
    (interrupt_with-kind low to_host e) (Some interface) items))
  where
    by_number : (slow here : Bool) (more least : Option UsableEndpoint) → IsOfKind Bulk more
        → IsOfKind Interrupt least
        → counting_of (counting_of c (if here then usable_item slow interface endpoint else None))
        (option_or more least)
        ≡ counting_of c (option_or (option_or (if not slow && here
        then as_usable Bulk interface (bulk_described endpoint) else None) more)
        (option_or (if here then as_usable Interrupt interface (interrupt_described slow endpoint)
        else None) least))
    by_number true false more least hm hl = rw (counting_of-none c) refl
    by_number false false more least hm hl = rw (counting_of-none c) refl
    by_number true true more least hm hl = counting_of-twice c None
        (as_usable Interrupt interface (interrupt_described true endpoint)) more least tt
        (as_usable-kind Interrupt interface (interrupt_described true endpoint)) hm hl
    by_number false true more least hm hl = counting_of-twice c
        (as_usable Bulk interface (bulk_described endpoint))
        (as_usable Interrupt interface (interrupt_described false endpoint)) more least
        (as_usable-kind Bulk interface (bulk_described endpoint))
        (as_usable-kind Interrupt interface (interrupt_described false endpoint)) hm hl

-- after the last item
pub taken_all : (settings : List ℕ) (low to_host : Bool) (e : ℕ) (inside : Option ℕ)
    (c : Option UsableEndpoint) → counting_of c (usable_from settings low to_host e inside []) ≡ c
taken_all settings low to_host e inside c = counting_of-none c
