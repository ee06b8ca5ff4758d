use Rattle.std.proofs.Common.{arith, rules, ◌≡◌, ◌∙◌, inl, inr, ap, refl, sym, Err}
use Rattle.std.proofs.lemmas.Grind.{common_steps}
use Rattle.usb_host.proofs.PartCalls.{call_none, call_stays}
use Rattle.usb_port.specs.{parent_of}
use Rattle.usb_enum.specs.{EnumFault, Bus, Memory, ParentLost}
use Rattle.usb_host.proofs.PortDrops.{finish_done, finish_lost, no_parent}
use Rattle.usb_host.proofs.PortServes.{finish_fails}
use Rattle.usb_host.proofs.Looks.{drops_above}
use Rattle.usb_host.proofs.host.Host.drop_lost_parent.Goals as goal

pub returns-in-Ok : goal.returns-in-Ok
returns-in-Ok g c = record {
  call = call_none;
  ends = record {
    ends = rw c.in-Ok.is refl;
    near = inl (λ other away. refl);
  };
  finishes = λ known. rw c.in-Ok.is (finish_done c.args.path.now c.args.self.now);
}

pub returns-in-Err-Bus : goal.returns-in-Err-Bus
returns-in-Err-Bus g c = record {
  call = call_stays (first_of (search rules, grind (arith, common_steps)));
  ends =
      let fault : c.in-Err-Bus.field-0 ≡ Bus c.in-Err-Bus.fault =
      rw c.in-Err-Bus.is at c.in-Err-Bus.field-0-is in
      record { ends = rw (c.in-Err-Bus.is, fault) refl; near = inl (λ other away. refl) };
  finishes = λ known.
      let fault : c.in-Err-Bus.field-0 ≡ Bus c.in-Err-Bus.fault =
      rw c.in-Err-Bus.is at c.in-Err-Bus.field-0-is in
      rw (c.in-Err-Bus.is, fault) (finish_fails c.args.path.now c.args.self.now
      (λ is. absurd (cc is)) (λ single. single) refl);
}

pub returns-in-Err-Memory : goal.returns-in-Err-Memory
returns-in-Err-Memory g c = record {
  call = call_stays tt;
  ends =
      let fault : c.in-Err-Memory.field-0 ≡ Memory =
      rw c.in-Err-Memory.is at c.in-Err-Memory.field-0-is in
      record { ends = rw (c.in-Err-Memory.is, fault) refl; near = inl (λ other away. refl) };
  finishes = λ known.
      let fault : c.in-Err-Memory.field-0 ≡ Memory =
      rw c.in-Err-Memory.is at c.in-Err-Memory.field-0-is in
      rw (c.in-Err-Memory.is, fault) (finish_fails c.args.path.now c.args.self.now
      (λ is. absurd (cc is)) (λ single. single) refl);
}

pub returns-in-Some-clause-finishes : goal.returns-in-Some-clause-finishes
returns-in-Some-clause-finishes g c known =
    let fault : c.in-Err-ParentLost.field-0 ≡ ParentLost =
    rw c.in-Err-ParentLost.is at c.in-Err-ParentLost.field-0-is in
    rw (c.in-Err-ParentLost.is, fault) (finish_lost c.args.path.now (sym c.in-Some.ensures)
    (c.drop_hub.ensures.drops known))

pub returns-in-None : goal.returns-in-None
returns-in-None g c = record {
  call = call_none;
  ends =
      let fault : c.in-Err-ParentLost.field-0 ≡ ParentLost =
      rw c.in-Err-ParentLost.is at c.in-Err-ParentLost.field-0-is in
      record { ends = rw (c.in-Err-ParentLost.is, fault) tt; near = inl (λ other away. refl) };
  finishes = λ known.
      let fault : c.in-Err-ParentLost.field-0 ≡ ParentLost =
      rw c.in-Err-ParentLost.is at c.in-Err-ParentLost.field-0-is in
      let lost : c.args.served ≡ Err ParentLost =
      c.in-Err-ParentLost.is ∙ ap (λ (f : EnumFault). Err f) fault in
      let broke = rw lost at (c.requires.broke known) in
      no_parent (parent_of c.args.path.now) (sym c.in-None.ensures) broke;
}

-- Which entries changed

pub returns-in-Some-clause-ends : goal.returns-in-Some-clause-ends
returns-in-Some-clause-ends g c =
    let fault : c.in-Err-ParentLost.field-0 ≡ ParentLost =
    rw c.in-Err-ParentLost.is at c.in-Err-ParentLost.field-0-is in
    record {
      ends = rw (c.in-Err-ParentLost.is, fault) tt;
      near = inr (drops_above _ (sym c.in-Some.ensures) c.drop_hub.ensures.near);
    }
