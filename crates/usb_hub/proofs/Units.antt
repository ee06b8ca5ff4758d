-- What a handling pays: a look, a change that asks for none, or an event that came.
use Rattle.std.proofs.Common.{◌≡◌, ◌≤◌, ◌⊎◌, inl, inr, ℕ, suc, ◌+◌, ◌*◌, ◌==◌, true, false, List}
use Rattle.std.proofs.Common.{◌∷◌, Option, None, Some, refl, arith}
use Rattle.std.proofs.lemmas.Bool.Decides.{nat_tests}
use Rattle.usb_world.proofs.Interface.{decided, equal_same}
use Rattle.usb_port.specs.{PortState, is_attached}
use Rattle.usb_device.specs.{State, Ports, empty, full, port_of, place_at, Place}
use Rattle.usb_world.specs.{World, AtPorts}
use Rattle.usb_hub.specs.{KeepsAll, KeepsBy, KeepsFound, devices_by, just, looks_by, only, ports_at}
use Rattle.usb_hub.specs.{ports_by, strays_by, unmarked, PaysBare, PaysLook, PaysStray, PortMark}
use Rattle.usb_hub.proofs.Places.{devices_by-empty, devices_by-nowhere, devices_by-there, few-none}
use Rattle.usb_hub.proofs.Places.{looks_by-found, looks_by-less, looks_by-nowhere, looks_by-set}
use Rattle.usb_hub.proofs.Places.{ports_by-nowhere, ports_by-there, strays_by-cleared}
use Rattle.usb_hub.proofs.Places.{strays_by-less, strays_by-reset, strays_by-set, strays_by-tidied}
use Rattle.usb_hub.proofs.Places.{strays_by-told}

module _ (j : ℕ) (e : List ℕ) where
  abbrev p : List ℕ
  p = suc j ∷ e

  -- a look is paid
  abbrev LookPaid : World → World → Type 0
  LookPaid old mid = looks_by (ports_at p) mid.roots + 1 + 7 * old.taken ≤ looks_by unmarked
      old.roots + 7 * mid.taken

  -- a change is paid that asks for none, or an event came
  abbrev StrayPaid : World → World → Type 0
  StrayPaid old mid = (strays_by unmarked unmarked mid.roots + 1 + old.taken ≤ strays_by unmarked
      unmarked old.roots + mid.taken) ⊎ (old.taken + 1 ≤ mid.taken)

  -- what the clearing of a change of connection at the port leaves, at the moment of it
  pub record ClearedAt (old mid : World) : Type 0 where
    pub onward : old.taken ≤ mid.taken
    pub looks : looks_by (ports_at p) mid.roots + 7 * old.taken ≤ looks_by unmarked old.roots + 7 *
        mid.taken
    pub strays : strays_by unmarked unmarked mid.roots + old.taken ≤ strays_by unmarked unmarked
        old.roots + mid.taken
    -- a device stood there, and a look is paid; or none did, and a change is paid that asks for
    -- none, or an event came
    pub paid : LookPaid old mid ⊎ ((devices_by (only p) mid.roots ≡ 0) × StrayPaid old mid)

  -- a port that is gone went by an event
  gone_came : (m v r : PortMark) (old mid : World) (q : Place) → place_at old.roots j e ≡ Some q
      → KeepsBy m v r old mid → place_at mid.roots j e ≡ None → old.taken + 1 ≤ mid.taken
  gone_came m v r old mid q was keeps at = pick (decided (mid.taken == old.taken))
    where
      pick : ((mid.taken == old.taken) ≡ true) ⊎ ((mid.taken == old.taken) ≡ false)
          → old.taken + 1 ≤ mid.taken
      pick (inl same) =
          let there : ports_by (just j e) old.roots ≡ 1 = ports_by-there old.roots j e q was in
          let none : ports_by (just j e) mid.roots ≡ 0 = ports_by-nowhere mid.roots j e at in
          absurd (omega (
            arith,
            there,
            none,
            keeps.still (equal_same mid.taken old.taken same) (just j e),
          ))
      pick (inr apart) = grind (arith, nat_tests, apart, keeps.onward)

  -- the change was set there; no more was left to do but by events, where the port is marked; and
  -- in the end it is cleared
  pub cleared_at : (old mid : World) (q : Place) → place_at old.roots j e ≡ Some q
      → (port_of q).connection_changed ≡ true → KeepsBy (only p) (only p) unmarked old mid
      → ((o : Place) → place_at mid.roots j e ≡ Some o → (port_of o).connection_changed ≡ false)
      → ((b : PortState) → place_at mid.roots j e ≡ Some (empty b)
      → is_attached b.attached ≡ false) → ClearedAt old mid
  cleared_at old mid q was set keeps cleared bare = pick (place_at mid.roots j e) refl
    where
      looks_set : looks_by (just j e) old.roots ≡ looks_by unmarked old.roots
      looks_set = looks_by-set old.roots j e q was set

      strays_set : strays_by (just j e) unmarked old.roots ≡ strays_by unmarked unmarked old.roots
      strays_set = strays_by-set old.roots j e q was set

      strays : strays_by unmarked unmarked mid.roots + old.taken ≤ strays_by unmarked unmarked
          old.roots + mid.taken
      strays = omega (arith, keeps.strays, strays_set, strays_by-less (just j e) unmarked mid.roots)

      nowhere : devices_by (just j e) mid.roots ≡ 0 → StrayPaid old mid → ClearedAt old mid
      nowhere gone paid = record {
        onward = keeps.onward;
        looks = omega (
          arith,
          keeps.looks,
          looks_set,
          looks_by-nowhere mid.roots j e gone,
          looks_by-less (just j e) mid.roots,
        );
        strays = strays;
        paid = inr (gone, paid);
      }

      pick : (o : Option Place) → place_at mid.roots j e ≡ o → ClearedAt old mid
      pick None at = nowhere (devices_by-nowhere mid.roots j e at)
          (inr (gone_came (only p) (only p) unmarked old mid q was keeps at))
      pick (Some (empty b)) at = nowhere (devices_by-empty mid.roots j e b at) (inl (omega (
        arith,
        keeps.strays,
        strays_set,
        strays_by-cleared mid.roots j e b at (bare b at) (cleared (empty b) at),
      )))
      pick (Some (full b s a)) at =
          let found : looks_by (ports_at p) mid.roots + 1 ≤ looks_by (just j e) mid.roots =
          looks_by-found mid.roots j e b s a at (cleared (full b s a) at) in
          record {
            onward = keeps.onward;
            looks = omega (arith, keeps.looks, looks_set, found);
            strays = strays;
            paid = inl (omega (arith, keeps.looks, looks_set, found));
          }

  -- the look that follows: a device was seen at the port, and is entered or refused; the marks are
  -- dropped
  pub found_pays : (old mid seen new : World) → ClearedAt old mid → KeepsFound p mid seen
      → KeepsFound p seen new → AtPorts mid.left → (b : PortState) (s : State) (a : Ports)
      → place_at seen.roots j e ≡ Some (full b s a) → PaysLook old new
  found_pays old mid seen new x y z ports b s a at = pick x.paid
    where
      first : KeepsBy (ports_at p) unmarked (only p) mid seen
      first = y.found ports

      second : KeepsBy (ports_at p) unmarked (only p) seen new
      second = z.found first.left

      strays : strays_by unmarked unmarked new.roots + old.taken ≤ strays_by unmarked unmarked
          old.roots + 1 + new.taken
      strays = omega (
        arith,
        x.strays,
        first.strays,
        second.strays,
        strays_by-reset mid.roots j e,
        strays_by-less unmarked (just j e) new.roots,
      )

      there : devices_by (just j e) seen.roots ≡ 1
      there = devices_by-there seen.roots j e b s a at

      pick : LookPaid old mid ⊎ ((devices_by (only p) mid.roots ≡ 0) × StrayPaid old mid)
          → PaysLook old new
      pick (inl paid) = record {
        looks =
            omega (
              arith,
              paid,
              first.looks,
              second.looks,
              first.onward,
              second.onward,
              looks_by-less (ports_at p) new.roots,
              x.onward,
            );
        strays = strays;
      }
      pick (inr (none, some)) = record {
        looks =
            omega (
              arith,
              none,
              there,
              first.devices (just j e),
              x.looks,
              first.looks,
              second.looks,
              first.onward,
              second.onward,
              looks_by-less (ports_at p) new.roots,
              x.onward,
            );
        strays = strays;
      }

  -- no device was seen at the port, and nothing else was done there
  pub bare_pays : (old mid new : World) → ClearedAt old mid → KeepsAll mid new → AtPorts mid.left
      → PaysBare old new
  bare_pays old mid new x y ports = record {
    looks = omega (arith, x.looks, all.looks, looks_by-less (ports_at p) new.roots);
    strays = omega (arith, x.strays, all.strays);
    paid = pick x.paid;
  }
    where
      all : KeepsBy (ports_at p) unmarked unmarked mid new
      all = y.all ports (ports_at p) unmarked unmarked few-none

      pick : LookPaid old mid ⊎ ((devices_by (only p) mid.roots ≡ 0) × StrayPaid old mid)
          → (looks_by unmarked new.roots + 1 + 7 * old.taken ≤ looks_by unmarked old.roots + 7 *
          new.taken)
          ⊎ (strays_by unmarked unmarked new.roots + 1 + old.taken ≤ strays_by unmarked unmarked
          old.roots + new.taken) ⊎ (old.taken + 1 ≤ new.taken)
      pick (inl paid) = inl (omega (arith, paid, all.looks, looks_by-less (ports_at p) new.roots))
      pick (inr (none, inl paid)) = inr (inl (omega (arith, paid, all.strays)))
      pick (inr (none, inr came)) = inr (inr (omega (arith, came, all.onward)))

  -- C_PORT_RESET was told set and is cleared
  pub tidied_pays : (old mid new : World) (q : Place) → place_at old.roots j e ≡ Some q
      → (port_of q).reset_changed ≡ true → KeepsBy unmarked unmarked (only p) old mid
      → ((o : Place) → place_at mid.roots j e ≡ Some o → (port_of o).reset_changed ≡ false)
      → KeepsBy unmarked unmarked unmarked mid new → PaysStray old new
  tidied_pays old mid new q was set keeps cleared since = record {
    looks = omega (arith, keeps.looks, since.looks);
    strays = omega (
      arith,
      keeps.strays,
      since.strays,
      told,
      strays_by-less unmarked (just j e) mid.roots,
    );
    paid = pick (place_at mid.roots j e) refl;
  }
    where
      told : strays_by unmarked (just j e) old.roots ≡ strays_by unmarked unmarked old.roots
      told = strays_by-told old.roots j e q was set

      pick : (o : Option Place) → place_at mid.roots j e ≡ o
          → (strays_by unmarked unmarked new.roots + 1 + old.taken ≤ strays_by unmarked unmarked
          old.roots + new.taken) ⊎ (old.taken + 1 ≤ new.taken)
      pick None at = let came : old.taken + 1 ≤ mid.taken =
          gone_came unmarked unmarked (only p) old mid q was keeps at in
          inr (omega (arith, came, since.onward))
      pick (Some o) at = inl (omega (
        arith,
        keeps.strays,
        since.strays,
        told,
        strays_by-tidied mid.roots j e o at (cleared o at),
      ))
