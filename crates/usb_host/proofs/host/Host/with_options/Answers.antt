use Rattle.std.proofs.Common.{◌≡◌, ◌∙◌, ◌-◌, ◌+◌, ℕ, ap, arith, refl, sym, subst}
use Rattle.usb_request.specs.{PORT_POWER}
use Rattle.usb_world.specs.{World, roots_of}
use Rattle.usb_bus.specs.{still, Traced}
use Rattle.usb_bus.proofs.Interface.{traced_cleared, traced_set}
use Rattle.usb_host.proofs.parts.Openings.{powered_none, powers_one, powered_all, powered_world}
use Rattle.usb_host.proofs.parts.Openings.{powered_is_opening, owning_opening, sound_opening}
use Rattle.usb_host.proofs.entries.Agreements.{nested_none, rises_none, accounts_none, range_none}
use Rattle.usb_host.proofs.entries.KeptBytes.{found_none}
use Rattle.usb_host.proofs.BusCounts.{counts_known}
use Rattle.usb_host.specs.{HostMapHolds, HostInvariant, HostState}
use Rattle.usb_host.proofs.host.Host.with_options.Goals as goal

pub ports-init : goal.ports-init
ports-init g c = record {
  ports = refl;
  powered = λ known. powered_none _;
  traced = λ known. still;
  silent = λ known. refl;
}

pub root_clear-requires-clause-most : goal.root_clear-requires-clause-most
root_clear-requires-clause-most g c =
    omega (arith, c.ports-test.true, c.root_ports-roots.ensures.ports, c.ports.invariant.ports)

pub root_set-requires-clause-most : goal.root_set-requires-clause-most
root_set-requires-clause-most g c =
    omega (
      arith,
      c.ports-test.true,
      c.root_ports-roots.ensures.ports,
      c.root_clear.ensures.unspent.1,
      c.ports.invariant.ports,
    )

pub ports-preserved : goal.ports-preserved
ports-preserved g c =
    let w0 : World = g.B.Bus.world c.args.bus in
    let port : ℕ = c.ports.port in
    let back : port ≡ (port + 1) - 1 = omega arith in
    record {
      ports = c.root_set.ensures.unspent.1 ∙ c.root_clear.ensures.unspent.1
          ∙ c.ports.invariant.ports;
      powered = λ known. powers_one w0 _ _ _ port c.ports.auto.port
          (c.ports.invariant.powered known) (c.root_clear.ensures.call known)
          (c.root_set.ensures.call known) ∙ ap (λ k. powered_world k w0) back;
      traced = λ known. traced_set c.ports.port PORT_POWER refl
          (traced_cleared c.ports.port PORT_POWER refl (c.ports.invariant.traced known)
          (c.root_clear.ensures.call known) (c.root_clear.ensures.silent known))
          (c.root_set.ensures.call known) (c.root_set.ensures.silent known);
      silent = λ known. c.root_set.ensures.silent known ∙ (c.root_clear.ensures.silent known
          ∙ c.ports.invariant.silent known);
    }

pub invariant_of-result : goal.invariant_of-result
invariant_of-result g c = rw (c.new-2.ensures, c.new.ensures.empty)
    (record {
      rises = rises_none;
      range = range_none;
      accounts = accounts_none;
      nested = nested_none;
      found = found_none;
    })

pub returns-clause-tells : goal.returns-clause-tells
returns-clause-tells g c known =
    let w0 : World = g.B.Bus.world c.args.bus in
    let t0 = g.B.Bus.trace c.args.bus in
    let all : c.ports.port - 1 ≡ roots_of w0 =
    omega (
      arith,
      c.ports-test.false,
      c.ports.auto.port-end,
      c.root_ports-roots.ensures.count known,
      c.root_ports-roots.ensures.least,
    ) in
    let opens = powered_is_opening w0 _ _ _ _ _ _ _ _ c.args.options
    (powered_all w0 _ all (c.ports.invariant.powered known)) (c.ports.invariant.silent known)
    (counts_known g.B.Bus.modelled (g.B.Bus.spent c.ports.bus) (g.B.Bus.failed c.ports.bus) _
    known)
    c.new-2.ensures c.new.ensures.empty c.new-4.ensures c.new-5.ensures in
    record {
      opens = opens;
      traced = c.ports.invariant.traced known;
      owning = λ single. subst HostMapHolds (sym opens)
          (owning_opening c.args.options w0 t0 (g.met.B.Bus.settled known c.args.bus) single);
      sound = λ single. subst HostInvariant (sym opens) (sound_opening c.args.options w0 t0
          (subst (λ (h : HostState). Traced w0 t0 h.world h.trace) opens
          (c.ports.invariant.traced known)) (g.met.B.Bus.settled known c.args.bus)
          (g.met.B.Bus.between known c.args.bus) single);
    }
