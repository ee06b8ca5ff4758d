use Rattle.usb_host.proofs.PartCalls.{call_fails, call_next, call_none, call_then}
use Rattle.std.proofs.Common.{arith, refl, sym}
use Rattle.usb_world.proofs.Interface.{way_itself, way_parent, way_trans}
use Rattle.usb_host.proofs.PortLocations.{parent_length}
use Rattle.usb_host.proofs.knowledge.HandledPorts.{failed_by}
use Rattle.usb_host.proofs.StepSums.{host_rests_then, handed_is}
use Rattle.usb_host.proofs.PortDrops.{climb_done, climb_fails, climb_top, climbed_none, climbed_on}
use Rattle.usb_host.proofs.host.Host.climb.Goals as goal

pub up-init : goal.up-init
up-init g c = record {
  call = call_none;
  so = λ known. climbed_none c.args.first c.args.self.now;
  rests = refl;
  on = way_itself c.args.first;
  least = omega arith;
  most = omega arith;
}

pub up-smaller : goal.up-smaller
up-smaller g c =
    let one = parent_length c.up.path (sym c.in-Some.ensures) in
    omega arith

pub up-preserved : goal.up-preserved
up-preserved g c =
    let i = c.up.invariant in
    let parent = sym c.in-Some.ensures in
    let one = parent_length c.up.path parent in
    record {
      call = call_next i.call c.in_ok-disable.ensures.call (omega (arith, i.most, one));
      so = λ known. climbed_on (i.so known) i.most (c.disable.ensures.disables known)
          (failed_by c.in_ok-disable.was c.if-branch.false) parent;
      rests = host_rests_then c.args.self.now _ i.rests c.disable.ensures.rests;
      on = way_trans c.in-Some.above c.up.path c.args.first
          (way_parent c.up.path c.in-Some.above parent) i.on;
      least = omega arith;
      most = omega (arith, i.most);
    }

pub returns-in_err-disable-clause-climbs : goal.returns-in_err-disable-clause-climbs
returns-in_err-disable-clause-climbs g c known =
    let i = c.up.invariant in
    rw (handed_is c.from_residual.ensures.1) (climb_fails (i.so known) i.most
    (c.disable.ensures.disables known) i.least)

pub returns-then-branch-clause-climbs : goal.returns-then-branch-clause-climbs
returns-then-branch-clause-climbs g c known =
    let i = c.up.invariant in
    climb_done (i.so known)
    i.most (c.disable.ensures.disables known) i.least i.on i.rests
    (failed_by c.in_ok-disable.was c.if-branch.true)

pub returns-in-None-clause-climbs : goal.returns-in-None-clause-climbs
returns-in-None-clause-climbs g c known =
    let i = c.up.invariant in
    climb_top (i.so known)
    i.most (c.disable.ensures.disables known) i.least i.on i.rests
    (failed_by c.in_ok-disable.was c.if-branch.false) (sym c.in-None.ensures)

pub returns-in_err-disable-clause-call : goal.returns-in_err-disable-clause-call
returns-in_err-disable-clause-call g c =
    let i = c.up.invariant in
    call_fails c.from_residual.ensures.1 (call_then i.call c.in_err-disable.ensures.call)
    (omega (arith, i.least, i.most))

pub returns-then-branch-clause-call : goal.returns-then-branch-clause-call
returns-then-branch-clause-call g c =
    let i = c.up.invariant in
    call_next i.call c.in_ok-disable.ensures.call (omega (arith, i.least, i.most))

pub returns-in-None-clause-call : goal.returns-in-None-clause-call
returns-in-None-clause-call g c =
    let i = c.up.invariant in
    call_next i.call c.in_ok-disable.ensures.call (omega (arith, i.least, i.most))
