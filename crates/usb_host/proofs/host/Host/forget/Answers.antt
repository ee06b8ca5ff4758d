use Rattle.std.proofs.Common.{◌≡◌, ◌∙◌, List, ℕ, sym, ap, subst, arith, rules}
use Rattle.std.proofs.lemmas.Grind.{common_steps}
use Rattle.usb_port.specs.{Addresses, HasAddresses, IsFull}
use Rattle.usb_table.proofs.Interface.{none_apart}
use Rattle.usb_table.specs.{Entries, without, Table, pipes_at}
use Rattle.usb_world.proofs.Interface.{at_or_below_way}
use Rattle.usb_host.specs.Accounts.{Accounts}
use Rattle.usb_host.specs.{Agrees, HostState, table_in}
use Rattle.usb_host.proofs.entries.Agreements.{nested_without, rises_without}
use Rattle.usb_host.proofs.entries.KeptBytes.{found_without}
use Rattle.usb_host.proofs.host.Host.forget.Goals as goal
use Rattle.usb_enum.specs.{HostOptions}

-- what is left agrees with the addresses that are left
agrees_left : {options : HostOptions} (path : List ℕ) {old : Entries} {before : Addresses}
    {new : Entries}
    {after : Addresses} → Agrees options old before → new ≡ without path old → Accounts new after
    → HasAddresses after → Agrees options new after
agrees_left path {old = old} agrees left accounts range = record {
  rises = rw left (rises_without path old agrees.rises);
  range = range;
  accounts = accounts;
  nested = rw left (nested_without path old agrees.nested);
  found = rw left (found_without path old agrees.found);
}

pub invariant_of-self : goal.invariant_of-self
invariant_of-self g c =
    let i = c.entries.invariant in
    let left = ap (λ (t : Table). t.entries) c.in_default.ensures.same ∙ sym
    (none_apart c.args.path.now c.entries.self-inside.table.entries c.in_default.ensures.none)
    ∙ i.rest in
    rw i.others (agrees_left c.args.path.now c.self.invariant
    left (rw c.in_default.ensures.same i.accounts) i.range)

pub returns : goal.returns
returns g c =
    let i = c.entries.invariant in
    let same = c.in_default.ensures.same in
    let left = ap (λ (t : Table). t.entries) same ∙ sym
    (none_apart c.args.path.now c.entries.self-inside.table.entries c.in_default.ensures.none)
    ∙ i.rest in
    record {
      others = first_of (search rules, grind (arith, common_steps));
      gone = rw same c.in_default.ensures.none;
      rest = left ∙ ap (λ (h : HostState). without c.args.path.now h.entries) c.self.view_is;
      full = λ full. subst (λ (h : HostState). IsFull h.addresses) c.self.view_is (i.full full);
      pipes = λ q away.
          ap (λ (t : Table). pipes_at q t) same ∙ i.pipes q
          (at_or_below_way q c.args.path.now ∙ away) ∙ ap
          (λ (h : HostState). pipes_at q (table_in h)) c.self.view_is;
      agrees = rw i.others
          (agrees_left c.args.path.now c.self.invariant left (rw same i.accounts) i.range);
    }
