use Rattle.std.proofs.Common.{rules, ◌∙◌, ap, refl, arith, Ok, Err}
use Rattle.usb_host.proofs.PartCalls.{call_after, call_bus, call_wider, round_fails, round_worked}
use Rattle.std.proofs.lemmas.Grind.{common_steps}
use Rattle.usb_device.specs.{told_bits}
use Rattle.usb_host.proofs.HubPolls.{poll_cut, poll_lost, poll_quiet, poll_served, poll_undropped}
use Rattle.usb_host.proofs.HubPolls.{polled_by, poll_unserved}
use Rattle.usb_host.proofs.Services.{failed_more}
use Rattle.usb_host.proofs.BusCounts.{counts_last, counts_spend, counts_keep}
use Rattle.usb_host.proofs.Transfers.{other_works, polled_works}
use Rattle.usb_host.proofs.arrivals.KeptNumbers.{keeps_by}
use Rattle.usb_host.proofs.StepSums.{handed_is}
use Rattle.usb_host.proofs.host.Host.serve_hub.Goals as goal

pub returns-in-Ok-None : goal.returns-in-Ok-None
returns-in-Ok-None g c = record {
  call = rw (← c.self.view_is) (record {
    part = call_wider (call_bus g.B.Bus.modelled _ _ _ _ _ refl refl
        c.poll.ensures.any_bus.0.0 (keeps_by c.poll.ensures.through.entries refl refl refl)
        (λ known. polled_works _ _ (Ok c.in-Ok-None.field-0) _ _ (c.in-Ok-None.ensures.polls
        known).polled tt)) (omega arith);
    quiet = λ is. record {
      entries = c.poll.ensures.through.entries;
      left = counts_keep g.B.Bus.modelled g.B.Bus.spent g.B.Bus.failed c.self.inside.left
          c.self.inside.bus c.poll.new.bus;
    };
  });
  polls = λ known.
      rw (← c.self.view_is) (poll_quiet (polled_by (ap (λ got. Ok got) c.in-Ok-None.field-0-is)
      c.self.invariant
      (rw (← c.self.view_is) at c.requires) refl c.poll.ensures.through
      (c.in-Ok-None.ensures.polls known)));
}

pub returns-in_ok-service_reported-in-Ok-Some : goal.returns-in_ok-service_reported-in-Ok-Some
returns-in_ok-service_reported-in-Ok-Some g c = record {
  call = rw (← c.self.view_is) (round_worked (call_after
      c.in_ok-service_reported-in-Ok-Some.ensures.call (call_bus g.B.Bus.modelled _ _ _ _ _
      refl refl c.poll.ensures.any_bus.0.0
      (keeps_by c.poll.ensures.through.entries refl refl refl)
      (λ known. polled_works _ _ (Ok c.in-Ok-Some.field-0) _ _ (c.in-Ok-Some.ensures.polls
      known).polled tt))) (omega arith));
  polls = λ known.
      let ends = rw c.in-Ok-Some.field-0-is at (c.in-Ok-Some.ensures.polls known).took in
      rw (← c.self.view_is) (poll_served (c.in_ok-service_reported-in-Ok-Some.ensures.serves known)
      (polled_by (ap (λ got. Ok got) c.in-Ok-Some.field-0-is) c.self.invariant
      (rw (← c.self.view_is) at c.requires) refl c.poll.ensures.through
      (c.in-Ok-Some.ensures.polls known))
      (c.told_bits.ensures ∙ ap told_bits c.as_slice.ensures.value) ends.still ends.least);
}

pub returns-in_err-service_reported-in-Ok-Some : goal.returns-in_err-service_reported-in-Ok-Some
returns-in_err-service_reported-in-Ok-Some g c = record {
  call = rw (← c.self.view_is) (round_fails c.from_residual.ensures.1 (call_after
      c.in_err-service_reported-in-Ok-Some.ensures.call (call_bus g.B.Bus.modelled _ _ _ _ _
      refl refl c.poll.ensures.any_bus.0.0
      (keeps_by c.poll.ensures.through.entries refl refl refl)
      (λ known. polled_works _ _ (Ok c.in-Ok-Some.field-0) _ _ (c.in-Ok-Some.ensures.polls
      known).polled tt))) (omega arith));
  polls = λ known.
      let ends = rw c.in-Ok-Some.field-0-is at (c.in-Ok-Some.ensures.polls known).took in
      rw (handed_is c.from_residual.ensures.1, ← c.self.view_is) (poll_unserved
      (c.in_err-service_reported-in-Ok-Some.ensures.serves known)
      (polled_by (ap (λ got. Ok got) c.in-Ok-Some.field-0-is) c.self.invariant
      (rw (← c.self.view_is) at c.requires) refl c.poll.ensures.through
      (c.in-Ok-Some.ensures.polls known))
      (c.told_bits.ensures ∙ ap told_bits c.as_slice.ensures.value) ends.still);
}

pub returns-in-Err-Bus : goal.returns-in-Err-Bus
returns-in-Err-Bus g c = record {
  call = rw (← c.self.view_is) (record {
    part = record {
      spends = counts_spend _ _ _ _ _ _ _ c.poll.ensures.any_bus.0.0 (omega arith);
      numbers = keeps_by c.poll.ensures.through.entries refl refl refl;
      told = (
        first_of (search rules, grind (arith, common_steps)),
        counts_last _ _ _ _
            (rw c.in-Err-Bus.field-0-is at c.in-Err-Bus.ensures.any_bus.1),
      );
      works = λ known sound. absurd sound;
    };
    quiet = tt;
  });
  polls = λ known.
      rw (← c.self.view_is) (poll_cut {why = c.in-Err-Bus.fault} (polled_by (ap (λ why. Err why)
      c.in-Err-Bus.field-0-is) c.self.invariant
      (rw (← c.self.view_is) at c.requires) refl c.poll.ensures.through
      (c.in-Err-Bus.ensures.polls known)));
}

pub returns-in_err-drop_hub-in-Err : goal.returns-in_err-drop_hub-in-Err
returns-in_err-drop_hub-in-Err g c = record {
  call =
      rw (← c.self.view_is) (round_fails c.from_residual-in_err-drop_hub-in-Err.ensures.1
      (call_after c.in_err-drop_hub-in-Err.ensures.call (call_bus g.B.Bus.modelled _ _ _ _ _
      refl refl c.poll.ensures.any_bus.0.0
      (keeps_by c.poll.ensures.through.entries refl refl refl)
      (λ known. other_works 0 c.in-Err.field-0 _ _
      (λ fault is. first_of (search rules, grind (arith, common_steps))) (c.in-Err.ensures.polls
      known).took))) (omega arith));
  polls = λ known.
      rw (handed_is c.from_residual-in_err-drop_hub-in-Err.ensures.1, ← c.self.view_is)
      (poll_undropped
      (rw c.duplicate.ensures at (c.in_err-drop_hub-in-Err.ensures.drops known))
      (polled_by refl c.self.invariant
      (rw (← c.self.view_is) at c.requires) refl c.poll.ensures.through
      (c.in-Err.ensures.polls known)) (other_works 0 c.in-Err.field-0 _ _
      (λ fault is. first_of (search rules, grind (arith, common_steps))) (c.in-Err.ensures.polls
      known).took));
}

pub returns-in_ok-drop_hub-in-Err : goal.returns-in_ok-drop_hub-in-Err
returns-in_ok-drop_hub-in-Err g c = record {
  call = rw (← c.self.view_is) (round_worked (call_after c.in_ok-drop_hub-in-Err.ensures.call
      (call_bus g.B.Bus.modelled _ _ _ _ _
      refl refl c.poll.ensures.any_bus.0.0
      (keeps_by c.poll.ensures.through.entries refl refl refl)
      (λ known. other_works 0 c.in-Err.field-0 _ _
      (λ fault is. first_of (search rules, grind (arith, common_steps))) (c.in-Err.ensures.polls
      known).took))) (omega arith));
  polls = λ known. rw (← c.self.view_is) (poll_lost
      (rw c.duplicate.ensures at (c.in_ok-drop_hub-in-Err.ensures.drops known))
      (polled_by refl c.self.invariant
      (rw (← c.self.view_is) at c.requires) refl c.poll.ensures.through
      (c.in-Err.ensures.polls known)) (failed_more _ _ c.in-Err.field-0
      (λ fault is. first_of (search rules, grind (arith, common_steps))) (c.in-Err.ensures.polls
      known).took));
}
