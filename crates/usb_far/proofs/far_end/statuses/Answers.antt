use Rattle.std.proofs.Common.{◌∙◌, map, ap, arith, refl, slice_index_or}
use Rattle.std.proofs.lemmas.List.{take_all}
use Rattle.usb_port.specs.{off, status_of}
use Rattle.usb_world.specs.{root_port_at, root_row}
use Rattle.usb_sim.specs.{world_of}
use Rattle.usb_far.specs.{statuses}
use Rattle.usb_far.proofs.Deeds.{status_more}
use Rattle.usb_far.proofs.far_end.statuses.Goals as goal

pub ports-preserved : goal.ports-preserved
unfolding root_port_at
ports-preserved g c =
    c.push.ensures.items
    ∙ status_more (root_row (world_of c.args.bus.now)) c.ports.before c.ports.all.items
    c.root_status.result (omega (
      arith,
      c.ports-test.true,
      c.root_ports-before-end.ensures.count refl,
    ))
    c.ports.invariant (c.root_status.ensures refl
    ∙ ap (λ k. status_of (slice_index_or (root_row (world_of c.args.bus.now)) k off))
    (omega arith))

pub returns : goal.returns
unfolding statuses
returns g c =
    c.ports.invariant ∙ ap (map status_of)
    (take_all c.ports.before (root_row (world_of c.args.bus.now))
    (omega (arith, c.ports-test.false, c.root_ports-before-end.ensures.count refl)))
