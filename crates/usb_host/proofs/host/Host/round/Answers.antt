use Rattle.std.proofs.Common.{arith, rules, ◌≡◌, ap, refl, sym, subst, ◌∙◌, IfOk, OnErr, Bool, None}
use Rattle.std.proofs.Common.{true, false}
use Rattle.std.proofs.lemmas.Grind.{common_steps}
use Rattle.usb_host.specs.{round_bound, HostInvariant, HostState, RoundsSound, PaysRound, HostSteps}
use Rattle.usb_host.specs.{DidParts, HostWorks, KeepsNumbers, QuietKeeps, StopsIn}
use Rattle.usb_host.proofs.BusCounts.{quiet_stopped, part_reported}
use Rattle.usb_host.proofs.payments.RoundPayments.{pays_stopped, stopped_pays}
use Rattle.usb_host.proofs.rests.RestingRounds.{round_rests}
use Rattle.usb_host.proofs.StepSums.{host_goes_none}
use Rattle.usb_host.proofs.devices.Owners.{round_owning}
use Rattle.usb_host.proofs.RoundLoops.{parts_done, parts_stopped}
use Rattle.usb_host.proofs.knowledge.Soundness.{rounds_stopped}
use Rattle.usb_host.proofs.arrivals.KeptNumbers.{keeps_none}
use Rattle.usb_host.proofs.host.Host.round.Goals as goal

no_stop : (b : Bool) {P : Type 0} → b ≡ true → b ≡ false → P
no_stop b on off = absurd (cc (on, off))

pub returns-then-self-clause-stopped : goal.returns-then-self-clause-stopped
returns-then-self-clause-stopped g c = first_of (search rules, grind (arith, common_steps))

pub returns-then-self-clause-tells : goal.returns-then-self-clause-tells
returns-then-self-clause-tells g c known =
    let on : c.args.self.now.stopped ≡ true = ap (λ (h : HostState). h.stopped) (sym c.self.view_is)
    ∙ c.if-self.true in
    record {
      stopped = returns-then-self-clause-stopped g c;
      went = (host_goes_none {n = round_bound} {h = c.args.self.now}).went;
      told = tt;
      works = λ sound none. none;
      did = tt;
      fails = λ going. no_stop c.args.self.now.stopped on going;
      keeps = record {
        owning = λ o. o;
        sound = record { keeps = tt; rest = λ s is. absurd (cc is) };
        pays = λ w plan x. stopped_pays w plan c.args.self.now;
        rests = λ entries none. refl;
      };
    }

pub returns-clause-stopped : goal.returns-clause-stopped
returns-clause-stopped g c = first_of (search rules, grind (arith, common_steps))

pub returns-clause-tells : goal.returns-clause-tells
returns-clause-tells g c known =
    let x = c.run_round-round.ensures.parts known in
    let a = c.args.self.now in
    let b = c.run_round-round.new.self in
    let result = c.run_round-round.result in
    let stopped = c.is_err-self-inside.result in
    let going = ap (λ (h : HostState). h.stopped) (sym c.self.view_is) ∙ c.if-self.false in
    let value = c.is_err-self-inside.ensures.value in
    let sound : RoundsSound a result b = record {
      keeps = x.keeps.part.sound;
      rest = x.keeps.rest;
    } in
    record {
      stopped = returns-clause-stopped g c;
      went = subst (λ (h : HostState). HostSteps round_bound a h) (sym c.self-2.view_is)
          x.keeps.part.goes.went;
      told = first_of (search rules, grind (arith, common_steps));
      works = subst (λ (h : HostState). HostWorks a result h) (sym c.self-2.view_is)
          (c.run_round-round.ensures.call.part.works known);
      did = subst (λ (h : HostState). IfOk result
          (λ round. DidParts round a (record h { stopped = stopped }))) (sym c.self-2.view_is)
          (parts_done result a b stopped going value x (c.run_round-round.ensures.call.part.works
          known));
      fails = subst (λ (h : HostState). OnErr result (a.stopped ≡ false → HostInvariant a
          → a.world.fault ≡ None → StopsIn a (record h { stopped = stopped })))
          (sym c.self-2.view_is) (parts_stopped result a b stopped value x);
      keeps = record {
        owning = round_owning result a b _ going (ap (λ (h : HostState). h.world) c.self-2.view_is)
            (ap (λ (h : HostState). h.entries) c.self-2.view_is) value x.keeps.part.owned;
        sound = rounds_stopped result a _ stopped
            (subst (λ (h : HostState). RoundsSound a result h) (sym c.self-2.view_is) sound);
        pays = λ w plan works.
            pays_stopped w plan result a _ stopped
            (subst (λ (h : HostState). PaysRound w plan a result h) (sym c.self-2.view_is)
            (x.pays w plan works));
        rests = λ entries none.
            subst (λ (h : HostState). record h { stopped = stopped } ≡ a) (sym c.self-2.view_is)
            (round_rests result a b stopped going value (x.idle entries none));
      };
    }

pub returns-clause-any_bus : goal.returns-clause-any_bus
returns-clause-any_bus g c =
    let same = ap (λ (h : HostState). h.counts) c.self-2.view_is in
    let stopped = c.is_err-self-inside.result in
    record {
      calls = record {
        spends = rw same c.run_round-round.ensures.call.part.spends;
        told = λ off. rw same (part_reported g.B.Bus.modelled c.run_round-round.result
            c.run_round-round.new.self c.run_round-round.ensures.call.part.told off);
        numbers = subst (λ (h : HostState). KeepsNumbers c.args.self.now (record h {
          stopped = stopped;
        })) (sym c.self-2.view_is) c.run_round-round.ensures.call.part.numbers;
      };
      quiet = subst (λ (h : HostState). QuietKeeps c.run_round-round.result c.args.self.now
          (record h { stopped = stopped })) (sym c.self-2.view_is)
          (quiet_stopped c.run_round-round.result c.args.self.now c.run_round-round.new.self stopped
          c.run_round-round.ensures.call.quiet);
    }

pub returns-then-self-clause-any_bus : goal.returns-then-self-clause-any_bus
returns-then-self-clause-any_bus g c = record {
  calls = record { spends = omega arith; told = λ off. tt; numbers = keeps_none _ };
  quiet = tt;
}
