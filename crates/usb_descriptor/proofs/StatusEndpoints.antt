-- The endpoint by which a hub reports changes.
use Rattle.std.proofs.Common.{◌≡◌, ◌≤◌, ◌==◌, ◌&&◌, ℕ, nat_le, Bool, true, false, if◌then◌else◌}
use Rattle.std.proofs.Common.{List}
use Rattle.std.proofs.Common.{[], ◌∷◌, Option, Some, None, Result, Ok, Err, refl, arith}
use Rattle.std.proofs.Common.{◌⊎◌, inl, inr, sym, ap, subst}
use Rattle.std.specs.Option.{option_or}
use Rattle.std.proofs.lemmas.Option.{cond_some}
use Rattle.std.proofs.lemmas.Bool.Decides.{nat_tests}
use Rattle.usb_request.specs.{STATUS_ENDPOINT}
use Rattle.usb_descriptor.specs.{DescriptorFault, Endpoint, Interface, IsUsable, Other, config_of}
use Rattle.usb_descriptor.specs.{counts_after}
use Rattle.usb_descriptor.specs.{endpoint_address, endpoint_number, first_counting, first_from}
use Rattle.usb_descriptor.specs.{in_config, interrupt_described, interrupt_in_at, is_in}
use Rattle.usb_descriptor.specs.{is_interrupt, items_of, packet_size, picked, status_at}
use Rattle.usb_descriptor.specs.{status_endpoint_of, transfer_of}
use Rattle.usb_descriptor.specs.declared.item.Item.{Item}

-- what is so of each endpoint that is picked, is so of the first that counts

module _ (P : ℕ × ℕ → Type 0) (pick : List ℕ → Option (ℕ × ℕ))
    (each : (bytes : List ℕ) (e : ℕ × ℕ) → pick bytes ≡ Some e → P e) where
  of_picked : (counts : Bool) (item : Item) {e : ℕ × ℕ} → picked pick counts item ≡ Some e → P e
  of_picked counts (Interface bytes) h = absurd (cc h)
  of_picked true (Endpoint bytes) h = each bytes _ h
  of_picked false (Endpoint bytes) h = absurd (cc h)
  of_picked counts (Other bytes) h = absurd (cc h)

  of_either : (found others : Option (ℕ × ℕ)) {e : ℕ × ℕ} → (found ≡ Some e → P e)
      → (others ≡ Some e → P e) → option_or found others ≡ Some e → P e
  of_either None others f g h = g h
  of_either (Some other) others f g h = f h

  of_first : (counts : Bool) (items : List Item) {e : ℕ × ℕ} → first_from pick counts items ≡ Some e
      → P e
  of_first counts [] h = absurd (cc h)
  of_first counts (item ∷ items) h = of_either (picked pick counts item)
      (first_from pick (counts_after counts item) items) (of_picked counts item)
      (of_first (counts_after counts item) items) h

  of_config : (text : Result (List ℕ) DescriptorFault) {e : ℕ × ℕ} → in_config pick text ≡ Some e
      → P e
  unfolding first_counting
  of_config (Err fault) h = absurd (cc h)
  of_config (Ok text) h = of_first false (items_of text) h

-- each that is picked is usable

usable_if : (b : Bool) (number size : ℕ) {e : ℕ × ℕ} → (b ≡ true → IsUsable (number, size))
    → (if b then Some (number, size) else None) ≡ Some e → IsUsable e
usable_if b number size usable h =
    let said = cond_some b (number, size) _ h in subst IsUsable said.1 (usable said.0)

status_each : (endpoint : List ℕ) (e : ℕ × ℕ) → status_at endpoint ≡ Some e
    → IsUsable e × (e.0 ≡ 1)
unfolding status_at
status_each endpoint e h =
    let test = endpoint_address endpoint == STATUS_ENDPOINT
    && is_interrupt (transfer_of endpoint) && nat_le 1 (packet_size endpoint)
    && nat_le (packet_size endpoint) 64 in
    (usable_if test 1 (packet_size endpoint) sized h, first test h)
  where
    sized : (endpoint_address endpoint == STATUS_ENDPOINT && is_interrupt (transfer_of endpoint) &&
        nat_le 1 (packet_size endpoint) && nat_le (packet_size endpoint) 64) ≡ true
        → IsUsable (1, packet_size endpoint)
    sized t = grind (arith, nat_tests, t)

    first : (b : Bool) → (if b then Some (1, packet_size endpoint) else None) ≡ Some e → e.0 ≡ 1
    first b h = sym (ap (λ e. e.0) (cond_some b (1, packet_size endpoint) _ h).1)

interrupt_each : (endpoint : List ℕ) (e : ℕ × ℕ) → interrupt_in_at endpoint ≡ Some e → IsUsable e
unfolding interrupt_in_at interrupt_described
interrupt_each endpoint e = by_direction (is_in endpoint)
  where
    most : endpoint_number endpoint ≤ 15
    most = omega arith

    sized : (is_interrupt (transfer_of endpoint) && nat_le 1 (endpoint_number endpoint) &&
        nat_le 1 (packet_size endpoint) && nat_le (packet_size endpoint) 64) ≡ true
        → IsUsable (endpoint_number endpoint, packet_size endpoint)
    sized t = grind (arith, nat_tests, t, most)

    by_direction : (to_host : Bool)
        → (if to_host then interrupt_described false endpoint else None) ≡ Some e → IsUsable e
    by_direction true h =
        usable_if (is_interrupt (transfer_of endpoint) && nat_le 1 (endpoint_number endpoint) &&
        nat_le 1 (packet_size endpoint) && nat_le (packet_size endpoint) 64)
        (endpoint_number endpoint) (packet_size endpoint) sized h
    by_direction false h = absurd (cc h)

-- which endpoint it is

-- endpoint 1, or with wide hubs the first interrupt IN endpoint
by_choice : (wide : Bool) (bytes : List ℕ) {e : ℕ × ℕ} → status_endpoint_of wide bytes ≡ Some e
    → (in_config status_at (config_of bytes) ≡ Some e)
    ⊎ ((in_config status_at (config_of bytes) ≡ None) × (wide ≡ true)
    × (in_config interrupt_in_at (config_of bytes) ≡ Some e))
unfolding status_endpoint_of
by_choice wide bytes {e = e} h = pick wide (in_config status_at (config_of bytes)) h
  where
    pick : (wide : Bool) (one : Option (ℕ × ℕ))
        → option_or one (if wide then in_config interrupt_in_at (config_of bytes) else None)
        ≡ Some e
        → (one ≡ Some e)
        ⊎ ((one ≡ None) × (wide ≡ true) × (in_config interrupt_in_at (config_of bytes) ≡ Some e))
    pick wide (Some end) h = inl h
    pick true None h = inr (refl, refl, h)
    pick false None h = absurd (cc h)

-- what a host finds that takes no wide hubs, one finds that does
pub status_endpoint-wide : (wide : Bool) (bytes : List ℕ) {e : ℕ × ℕ}
    → status_endpoint_of wide bytes ≡ Some e → status_endpoint_of true bytes ≡ Some e
unfolding status_endpoint_of
status_endpoint-wide wide bytes h = same (by_choice wide bytes h)
  where
    same : {e : ℕ × ℕ} → (in_config status_at (config_of bytes) ≡ Some e)
        ⊎ ((in_config status_at (config_of bytes) ≡ None) × (wide ≡ true)
        × (in_config interrupt_in_at (config_of bytes) ≡ Some e))
        → option_or (in_config status_at (config_of bytes))
        (in_config interrupt_in_at (config_of bytes))
        ≡ Some e
    same (inl one) = rw one refl
    same (inr (none, _, any)) = rw none any

-- a pipe may have its number and its maximum
pub status_endpoint-usable : (wide : Bool) (bytes : List ℕ) {e : ℕ × ℕ}
    → status_endpoint_of wide bytes ≡ Some e → IsUsable e
status_endpoint-usable wide bytes {e = e} h = usable (by_choice wide bytes h)
  where
    usable : (in_config status_at (config_of bytes) ≡ Some e)
        ⊎ ((in_config status_at (config_of bytes) ≡ None) × (wide ≡ true)
        × (in_config interrupt_in_at (config_of bytes) ≡ Some e)) → IsUsable e
    usable (inl one) =
        (of_config (λ e. IsUsable e × (e.0 ≡ 1)) status_at status_each (config_of bytes) one).0
    usable (inr (_, _, any)) =
        of_config IsUsable interrupt_in_at interrupt_each (config_of bytes) any
