use Rattle.std.proofs.Common.{◌∙◌, None, Some, Ok, Err, refl, sym, ap, subst, arith, rules}
use Rattle.std.proofs.lemmas.Result.{err_from_is_err_and}
use Rattle.usb_world.specs.{FitsMaximum}
use Rattle.usb_bus.specs.{outcome_with}
use Rattle.usb_transfer.specs.{Bus, HearsAs, heard_as}
use Rattle.usb_transfer.proofs.Calls.{asks_in}
use Rattle.usb_transfer.proofs.LastOutcomes.{heard_stall}
use Rattle.usb_transfer.proofs.TransactionTries.{heard_fault, heard_last, heard_on, heard_packet}
use Rattle.usb_transfer.proofs.TransactionTries.{pending_first, read_fits, told_cut, try_more}
use Rattle.usb_transfer.proofs.TransactionTries.{went_last}
use Rattle.usb_transfer.proofs.read.read_on.Goals as goal

pub tries-init : goal.tries-init
tries-init g c = (
  refl,
  (search rules, search rules),
  λ known old before settled made. pending_first c.new-tries.result
      (rw c.attempt_of_in-attempt.ensures.value at c.attempt_of_in-attempt.ensures.fits)
      c.new-tries.ensures made,
  search rules,
  c.requires.fits,
)

pub tries-preserved : goal.tries-preserved
tries-preserved g c =
    let t = c.tries.tries in
    let u = c.hear.new.self in
    let o = heard_as c.tries.toggle (outcome_with c.tries.kind c.tries.room) in
    let heard : HearsAs t o (Ok None) u =
    rw (c.heard_as.ensures, c.in_default.is) at c.in_ok-hear.ensures in
    let more = try_more o t.errors t.waits heard.0 c.tries.invariant.1.0 in (
      c.tries.invariant.0,
      (heard.2, heard.3),
      λ known old before settled made. record {
        mid = g.B.Bus.world c.tries.bus;
        before = g.B.Bus.trace c.tries.bus;
        stands = heard_on (c.tries.invariant.2 known old before settled made) u heard;
        made = rw c.attempt_of_in-attempt.ensures.value at (c.in-Ok.ensures.attempts known);
      },
      (
        omega (
          arith,
          more,
          ap (λ x. x.errors) heard.1,
          ap (λ x. x.waits) heard.1,
          c.tries.invariant.3.0,
          c.in-Ok.ensures.spends.0,
        ),
        c.in-Ok.ensures.spends.1 ∙ c.tries.invariant.3.1,
      ),
      subst (λ max. FitsMaximum max (outcome_with c.in-Ok.next c.attempt_into.new.room))
          (ap (λ a. a.max) c.attempt_of_in-attempt.ensures.value) c.in-Ok.ensures.fits,
    )

pub returns-in-Moved-clause-asks : goal.returns-in-Moved-clause-asks
returns-in-Moved-clause-asks g c known old before settled made =
    let t = c.tries.tries in
    let u = c.hear.new.self in
    let packet = c.tries.room in
    let o = heard_as c.tries.toggle (outcome_with c.tries.kind c.tries.room) in
    let heard : HearsAs t o (Ok (Some packet)) u =
    rw (c.heard_as.ensures, c.in-Moved.is) at c.in_ok-hear.ensures in
    let p = c.tries.invariant.2 known old before settled made in
    rw c.data.ensures (
      heard_last p u,
      asks_in c.args.target c.args.ep c.args.toggle.now old _ settled c.tries.invariant.0
          (Ok packet.items) (heard_packet p u packet heard)
          (read_fits c.tries.toggle _ packet (sym heard) p.made),
    )

pub returns-in_err-hear-clause-asks : goal.returns-in_err-hear-clause-asks
returns-in_err-hear-clause-asks g c known old before settled made =
    let told = err_from_is_err_and c.from_residual.result c.from_residual.ensures.1 in
    let fault = c.in_err-hear.field-0.0 in
    let heard : HearsAs c.tries.tries
    (heard_as c.tries.toggle (outcome_with c.tries.kind c.tries.room)) (Err fault)
    c.hear.new.self = subst (λ h. HearsAs c.tries.tries h (Err fault) c.hear.new.self)
    c.heard_as.ensures c.in_err-hear.ensures in
    let p = c.tries.invariant.2 known old before settled made in
    rw (told.1, told.2) (
      heard_last p c.hear.new.self,
      asks_in c.args.target c.args.ep c.args.toggle.now old _ settled c.tries.invariant.0
          (Err fault) (heard_fault p c.hear.new.self fault (λ e. heard_stall _ _ e) heard) tt,
    )

pub returns-in-Err-clause-asks : goal.returns-in-Err-clause-asks
returns-in-Err-clause-asks g c known old before settled made =
    let t = c.tries.tries in
    let u = c.hear.new.self in
    let o = heard_as c.tries.toggle (outcome_with c.tries.kind c.tries.room) in
    let heard : HearsAs t o (Ok None) u =
    rw (c.heard_as.ensures, c.in_default.is) at c.in_ok-hear.ensures in
    let s = heard_on (c.tries.invariant.2 known old before settled made) u heard in (
      went_last s c.attempt_of_in-attempt.ensures.fits (c.in-Err.ensures.attempts known),
      asks_in c.args.target c.args.ep c.args.toggle.now old _ settled c.tries.invariant.0
          (Err (Bus c.in-Err.fault)) (told_cut s
          (rw c.attempt_of_in-attempt.ensures.value at (c.in-Err.ensures.attempts known))) tt,
    )
