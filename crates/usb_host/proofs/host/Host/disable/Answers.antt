use Rattle.usb_host.proofs.arrivals.KeptNumbers.{keeps_by}
use Rattle.usb_host.proofs.PartCalls.{call_none}
use Rattle.usb_host.proofs.PortLocations.{placed}
use Rattle.std.proofs.Common.{refl, subst, sym, IsSome, Ok, arith, rules}
use Rattle.usb_host.specs.{HostState, counts_of}
use Rattle.usb_hub.proofs.Interface.{keeps_devices_none, clear_works}
use Rattle.usb_host.proofs.devices.Owners.{none_disabled, cleared_enable_disabled, port_failed}
use Rattle.usb_host.proofs.devices.Causes.{told_caused, untold_caused}
use Rattle.usb_host.proofs.knowledge.HandledPorts.{fault_after-no_bus, told_backlog, told_dropped}
use Rattle.usb_host.proofs.knowledge.HandledPorts.{untold_droppable, nowhere_dropped}
use Rattle.usb_enum.proofs.Interface.{order_most}
use Rattle.usb_host.proofs.StepSums.{goes_by, host_goes_none}
use Rattle.usb_host.proofs.BusCounts.{counts_last, counts_spend}
use Rattle.usb_host.proofs.Transfers.{other_works}
use Rattle.std.proofs.lemmas.Grind.{common_steps}
use Rattle.usb_request.specs.{PORT_ENABLE}
use Rattle.usb_port.specs.{ClearEnable}
use Rattle.usb_world.specs.{here}
use Rattle.usb_host.proofs.host.Host.disable.Goals as goal
use Rattle.usb_host.proofs.host.Host.disable.Goals.{in-Ok, in-Err-Bus, in-Err}

pub returns-in_default-clause-disables : goal.returns-in_default-clause-disables
returns-in_default-clause-disables g c known =
    let none = nowhere_dropped (c.in_default.ensures.none known) in
    record {
      goes = host_goes_none;
      owned = none_disabled (c.in_default.ensures.none known);
      devices = keeps_devices_none c.args.self.now.world;
      control = λ still. here c.args.self.now.world;
      done = λ d e. absurd (cc e);
      failed = λ d e. absurd (none d);
      backlog = λ d still. absurd (none d);
      caused = λ d fair pends caused. absurd (none d);
    }

pub returns-clause-disables : goal.returns-clause-disables
returns-clause-disables g c known =
    let s = rw (← c.self.view_is) at (placed known c.in-Some.ensures.some) in
    let old = g.B.Bus.world c.self.inside.bus in
    let new = g.B.Bus.world c.clear_port.new.bus in
    let port = c.in-Some.port.port in
    let after : HostState = record {
      world = new;
      trace = g.B.Bus.trace c.clear_port.new.bus;
      counts = counts_of g.B.Bus.modelled (g.B.Bus.spent c.clear_port.new.bus)
          (g.B.Bus.failed c.clear_port.new.bus) c.self.inside.left;
      entries = c.self.inside.table.entries;
      pipes = c.self.inside.table.pipes;
      addresses = c.self.inside.pool;
      numbers = c.self.inside.numbers;
      reported = c.self.inside.reported;
      options = c.self.inside.options;
      stopped = c.self.inside.stopped;
    } in
    let went = c.clear_port.ensures.uses.steps known in
    let keeps = (c.clear_port.ensures.addresses known).keeps in
    let devices = (c.clear_port.ensures.addresses known).devices in
    rw (← c.self.view_is) (elim c.match-clear_port.branch [
      | in-Ok w ↦ rw w.result-is (record {
        goes = goes_by _ _ went (order_most port) refl refl;
        owned = cleared_enable_disabled _ _ s refl
            (rw w.in-Ok.is at (c.clear_port.ensures.addresses known));
        devices = devices;
        control = λ still. (rw w.in-Ok.is at (c.clear_port.ensures.ports known)).control ClearEnable
            refl tt;
        done = λ d e. told_dropped s refl went keeps devices d
            (rw w.in-Ok.is at (c.clear_port.ensures.ports known));
        failed = λ d e. absurd (cc e);
        backlog = λ d still. told_backlog {b = after} s refl went keeps devices d
            (rw w.in-Ok.is at (c.clear_port.ensures.ports known)) tt;
        caused = λ d fair pends caused. told_caused _ _ after s refl went keeps devices d fair
            (rw w.in-Ok.is at (c.clear_port.ensures.ports known)) pends caused;
      })
      | in-Err-Bus w ↦ rw w.result-is (record {
        goes = goes_by _ _ went (order_most port) refl refl;
        owned = record { keeps = keeps; done = λ e. absurd (cc e); none = λ e root. absurd (cc e) };
        devices = devices;
        control = λ still. (rw w.in-Err-Bus.is at (c.clear_port.ensures.ports known)).control
            ClearEnable refl (fault_after-no_bus (Unit {0}) w.in-Err-Bus.field-0 old new
            (w.in-Err-Bus.ensures.fault known) still);
        done = λ d e. absurd (cc e);
        failed = λ d e. absurd (cc e);
        backlog = λ d still. told_backlog {b = after} s refl went keeps devices d
            (rw w.in-Err-Bus.is at (c.clear_port.ensures.ports known))
            (fault_after-no_bus (Unit {0}) w.in-Err-Bus.field-0 old new
            (w.in-Err-Bus.ensures.fault known) still);
        caused = λ d fair pends caused. tt;
      })
      | in-Err w ↦ rw w.result-is (record {
        goes = goes_by _ _ went (order_most port) refl refl;
        owned = port_failed _ _ 1 w.in-Err.field-0 s (w.in-Err.ensures.effect known) keeps;
        devices = devices;
        control = λ still. (rw w.in-Err.is at (c.clear_port.ensures.ports known)).control
            ClearEnable refl (fault_after-no_bus (Unit {0}) w.in-Err.field-0 old new
            (w.in-Err.ensures.fault known) still);
        done = λ d e. absurd (cc e);
        failed = λ d e. untold_droppable s refl went keeps devices d
            (rw w.in-Err.is at (c.clear_port.ensures.ports known)) (w.in-Err.ensures.fault known)
            (w.in-Err.ensures.effect known);
        backlog = λ d still. told_backlog {b = after} s refl went keeps devices d
            (rw w.in-Err.is at (c.clear_port.ensures.ports known))
            (fault_after-no_bus (Unit {0}) w.in-Err.field-0 old new (w.in-Err.ensures.fault known)
            still);
        caused = λ d fair pends caused. untold_caused _ _ after s refl went keeps devices d fair
            (rw w.in-Err.is at (c.clear_port.ensures.ports known)) (w.in-Err.ensures.fault known)
            (w.in-Err.ensures.effect known) caused;
      })
    ])

pub returns-in_default-clause-call : goal.returns-in_default-clause-call
returns-in_default-clause-call g c =
    call_none

pub returns-clause-known : goal.returns-clause-known
returns-clause-known g c =
    elim c.match-clear_port.branch [
      | in-Ok w ↦ rw w.result-is (λ done. subst IsSome (sym c.in-Some.ensures.some.known) refl)
      | in-Err-Bus w ↦ rw w.result-is tt
      | in-Err w ↦ rw w.result-is (λ done. absurd (cc done))
    ]

pub returns-clause-call : goal.returns-clause-call
returns-clause-call g c =
    let old = g.B.Bus.world c.self.inside.bus in
    let new = g.B.Bus.world c.clear_port.new.bus in
    rw (← c.self.view_is) (record {
      spends = counts_spend _ _ _ _ _ _ _
          c.clear_port.ensures.uses.spends.0 (order_most c.in-Some.port.port);
      numbers = keeps_by refl refl refl refl;
      told = elim c.match-clear_port.branch [
        | in-Ok w ↦ rw w.result-is tt
        | in-Err-Bus w ↦ rw w.result-is (
          λ known. rw w.in-Err-Bus.field-0-is at (w.in-Err-Bus.ensures.fault known),
          counts_last _ _ _ _ (rw w.in-Err-Bus.field-0-is at w.in-Err-Bus.ensures.uses.told),
        )
        | in-Err w ↦ rw w.result-is tt
      ];
      works = λ known. elim c.match-clear_port.branch [
        | in-Ok w ↦ rw w.result-is (clear_works c.in-Some.port.port PORT_ENABLE (Ok tt) old new
            (rw w.in-Ok.is at (c.clear_port.ensures.effect known)) tt)
        | in-Err-Bus w ↦ rw w.result-is (λ sound. absurd sound)
        | in-Err w ↦ rw w.result-is (other_works 1 w.in-Err.field-0 old new
            (λ fault is. first_of (search rules, grind (arith, common_steps)))
            (w.in-Err.ensures.fault known))
      ];
    })
