use Rattle.std.proofs.Common.{◌∙◌, ℕ, [], None, Some, Ok, Err, refl, ap, subst, arith, rules}
use Rattle.arrayvec.specs.ArrayVec.{ArrayVec}
use Rattle.std.proofs.lemmas.Result.{err_from_is_err_and}
use Rattle.usb_bus.specs.{outcome_with}
use Rattle.usb_transfer.specs.{HearsAs, heard_when_sent, heard_with, packed}
use Rattle.usb_transfer.proofs.LastOutcomes.{sent_last, sent_stall}
use Rattle.usb_transfer.proofs.TransactionTries.{heard_fault, heard_last, heard_on, heard_packet}
use Rattle.usb_transfer.proofs.TransactionTries.{pending_first, told_cut, try_more, went_last}
use Rattle.usb_transfer.proofs.write.send_on.Goals as goal

pub tries-init : goal.tries-init
tries-init g c = (
  refl,
  (search rules, search rules),
  λ known old before settled made. pending_first c.new-tries.result
      c.requires c.new-tries.ensures made,
  search rules,
)

-- no bytes: those that are heard with an acknowledgement
abbrev no_bytes : ArrayVec ℕ
no_bytes = record { items = [] }

pub tries-preserved : goal.tries-preserved
tries-preserved g c =
    let t = c.tries.tries in
    let u = c.hear.new.self in
    let o = heard_when_sent (outcome_with c.tries.kind c.tries.room) in
    let heard : HearsAs t o (Ok None) u = rw (
      ap packed c.new.ensures,
      c.heard_when_sent-heard.ensures,
      c.in_default.is,
    ) at c.in_ok-hear.ensures in
    let more = try_more o t.errors t.waits heard.0 c.tries.invariant.1.0 in (
      c.tries.invariant.0,
      (heard.2, heard.3),
      λ known old before settled made. record {
        mid = g.B.Bus.world c.tries.bus;
        before = g.B.Bus.trace c.tries.bus;
        stands = heard_on (c.tries.invariant.2 known old before settled made) u heard;
        made = c.in-Ok.ensures.attempts known;
      },
      (
        omega (
          arith,
          more,
          ap (λ x. x.errors) heard.1,
          ap (λ x. x.waits) heard.1,
          c.tries.invariant.3.0,
          c.in-Ok.ensures.spends.0,
        ),
        c.in-Ok.ensures.spends.1 ∙ c.tries.invariant.3.1,
      ),
    )

pub returns-in_err-hear-clause-sends : goal.returns-in_err-hear-clause-sends
returns-in_err-hear-clause-sends g c known old before settled made =
    let told = err_from_is_err_and c.from_residual.result c.from_residual.ensures.1 in
    let t = c.tries.tries in
    let u = c.hear.new.self in
    let fault = c.in_err-hear.field-0.0 in
    let heard : HearsAs t (heard_when_sent (outcome_with c.tries.kind c.tries.room)) (Err fault) u =
    subst (λ h. HearsAs t h (Err fault) u) c.heard_when_sent-heard.ensures
    (subst (λ b. HearsAs t (heard_with c.heard_when_sent-heard.result b) (Err fault) u)
    (ap packed c.new.ensures) c.in_err-hear.ensures) in
    let p = c.tries.invariant.2 known old before settled made in
    rw (told.1, told.2) (
      heard_last p u,
      heard_fault p u fault (λ e. sent_stall _ e) heard,
    )

pub returns-in-Moved-clause-sends : goal.returns-in-Moved-clause-sends
returns-in-Moved-clause-sends g c known old before settled made =
    let t = c.tries.tries in
    let u = c.hear.new.self in
    let o = heard_when_sent (outcome_with c.tries.kind c.tries.room) in
    let heard : HearsAs t o (Ok (Some no_bytes)) u = rw (
      ap packed c.new.ensures,
      c.heard_when_sent-heard.ensures,
      c.in-Moved.is,
    ) at c.in_ok-hear.ensures in
    let p = c.tries.invariant.2 known old before settled made in
    rw c.nothing.ensures (
      heard_last p u,
      heard_packet p u (packed []) (ap heard_when_sent (sent_last _ _ heard)),
    )

pub returns-in-Err-clause-sends : goal.returns-in-Err-clause-sends
returns-in-Err-clause-sends g c known old before settled made =
    let t = c.tries.tries in
    let u = c.hear.new.self in
    let o = heard_when_sent (outcome_with c.tries.kind c.tries.room) in
    let heard : HearsAs t o (Ok None) u = rw (
      ap packed c.new.ensures,
      c.heard_when_sent-heard.ensures,
      c.in_default.is,
    ) at c.in_ok-hear.ensures in
    let s = heard_on (c.tries.invariant.2 known old before settled made) u heard in (
      went_last s c.requires (c.in-Err.ensures.attempts known),
      told_cut s (c.in-Err.ensures.attempts known),
    )
