-- The same ports are left alone; a bus that does what its world does leaves none.
use Rattle.std.proofs.Common.{◌≡◌, ◌∙◌, ap, refl, true, false, Bool, ℕ, Option}
use Rattle.usb_world.specs.{BusFault}
use Rattle.usb_host.specs.{BusCounts, HostState, LeftStatuses, counts_of, none_left}
use Rattle.usb_host.proofs.host.Host.copied_onto.Goals as goal

left_is : (modelled : Bool) (spent : ℕ) (failed : Option BusFault) (left : LeftStatuses)
    (now : BusCounts) → counts_of modelled spent failed left ≡ now
    → (modelled ≡ true → left ≡ none_left) → left ≡ now.left
left_is true spent failed left now is none = none refl ∙ ap (λ (c : BusCounts). c.left) is
left_is false spent failed left now is none = ap (λ (c : BusCounts). c.left) is

pub of_bus-requires : goal.of_bus-requires
of_bus-requires g c known other =
    left_is g.B.Bus.modelled (g.B.Bus.spent c.self.inside.bus) (g.B.Bus.failed c.self.inside.bus)
    c.self.inside.left c.args.self.now.counts
    (ap (λ (h : HostState). h.counts) c.self.view_is) (λ is. absurd (cc (is, other)))
    ∙ c.requires known other

pub returns-in-Ok-clause-copy : goal.returns-in-Ok-clause-copy
returns-in-Ok-clause-copy g c =
    let same =
    left_is g.B.Bus.modelled (g.B.Bus.spent c.self.inside.bus) (g.B.Bus.failed c.self.inside.bus)
    c.self.inside.left c.args.self.now.counts
    (ap (λ (h : HostState). h.counts) c.self.view_is) c.of_bus.ensures.none in
    rw (
      c.in-Ok.ensures,
      c.duplicate.ensures,
      c.of_bus.ensures.value,
      c.duplicate-in-Ok.ensures,
      c.duplicate-in-Ok-2.ensures,
      same,
    ) (rw (← c.self.view_is) refl)
