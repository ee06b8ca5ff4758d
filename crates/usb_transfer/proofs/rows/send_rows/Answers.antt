use Rattle.std.proofs.Common.{◌≡◌, ◌∙◌, ◌≢◌, refl, sym, rules, arith, ℕ, ◌<◌, ◌≤◌, length}
use Rattle.std.proofs.Common.{false}
use Rattle.std.proofs.lemmas.Bool.{eqb-true}
use Rattle.std.proofs.lemmas.List.{nil_from_length}
use Rattle.usb_packet.proofs.Interface.{nonzero}
use Rattle.usb_transfer.proofs.MovedPackets.{all_sent, moving_none}
use Rattle.usb_transfer.proofs.MovedRows.{fewer_packets, going_row, lost_row, rows_less}
use Rattle.usb_transfer.proofs.rows.send_rows.Goals as goal

pub rows-init : goal.rows-init
rows-init g c = (
  omega arith,
  λ known. moving_none c.args.target c.args.ep _ c.args.bytes.now _ _,
  refl,
)

pub rows-preserved : goal.rows-preserved
rows-preserved g c =
    let some : 0 < length c.rows.rest.now = nonzero _ _ c.is_empty.ensures c.rows-test.true in
    let row : length c.split_at.result.0.now ≤ length c.rows.rest.now =
    omega (arith, c.split_at.ensures.front_len, c.size_of.ensures) in
    let less = rows_less c.args.target.max (length c.rows.rest.now) c.in_ok-gone.gone
    (length c.split_at.result.0.now) (length c.split_at-in-rows.result.1.now)
    c.requires.target.max_least row c.in_ok-gone.ensures.few.1
    (omega (arith, c.split_at-in-rows.ensures.back_len, c.size_of-in-rows.ensures)) in (
      omega (arith, c.rows.invariant.0, less, c.in_ok-gone.ensures.any_bus.0.0),
      λ known. going_row c.args.target c.args.ep c.args.toggle.now c.args.bytes.now
          c.requires.target.max_least c.size_of.result some c.size_of.ensures
          c.split_at.ensures.front (c.rows.invariant.1 known) c.in_ok-gone.gone
          c.size_of-in-rows.result c.split_at-in-rows.result.1.now c.size_of-in-rows.ensures
          c.split_at-in-rows.ensures.back (c.in_ok-gone.ensures.steps known)
          (c.in_ok-gone.ensures.sends known),
      c.in_ok-gone.ensures.any_bus.0.1 ∙ c.rows.invariant.2,
    )

pub returns-in_err-gone-clause-any_bus : goal.returns-in_err-gone-clause-any_bus
returns-in_err-gone-clause-any_bus g c =
    let row : length c.split_at.result.0.now ≤ length c.rows.rest.now =
    omega (arith, c.split_at.ensures.front_len, c.size_of.ensures) in
    let fewer = fewer_packets c.args.target.max (length c.split_at.result.0.now)
    (length c.rows.rest.now) c.requires.target.max_least row in (
      (
        omega (arith, c.rows.invariant.0, fewer, c.in_err-gone.ensures.any_bus.0.0),
        c.in_err-gone.ensures.any_bus.0.1 ∙ c.rows.invariant.2,
      ),
      search rules,
    )

pub returns-in_err-gone-clause-steps : goal.returns-in_err-gone-clause-steps
returns-in_err-gone-clause-steps g c known =
    let some : 0 < length c.rows.rest.now = nonzero _ _ c.is_empty.ensures c.rows-test.true in
    (lost_row c.args.target c.args.ep c.args.toggle.now c.args.bytes.now
    c.requires.target.max_least c.size_of.result some c.size_of.ensures
    c.split_at.ensures.front (c.rows.invariant.1 known) c.in_err-gone.field-0.0
    c.from_residual.result c.from_residual.ensures.0 c.from_residual.ensures.1 (search rules)
    (c.in_err-gone.ensures.steps known) (c.in_err-gone.ensures.sends known)).1

pub returns-in_err-gone-clause-sent : goal.returns-in_err-gone-clause-sent
returns-in_err-gone-clause-sent g c known =
    let some : 0 < length c.rows.rest.now = nonzero _ _ c.is_empty.ensures c.rows-test.true in
    (lost_row c.args.target c.args.ep c.args.toggle.now c.args.bytes.now
    c.requires.target.max_least c.size_of.result some c.size_of.ensures
    c.split_at.ensures.front (c.rows.invariant.1 known) c.in_err-gone.field-0.0
    c.from_residual.result c.from_residual.ensures.0 c.from_residual.ensures.1 (search rules)
    (c.in_err-gone.ensures.steps known) (c.in_err-gone.ensures.sends known)).0

pub returns-clause-steps : goal.returns-clause-steps
returns-clause-steps g c known =
    let none = nil_from_length _ (eqb-true _ 0 (sym c.is_empty.ensures ∙ c.rows-test.false)) in
    (all_sent c.args.target c.args.ep _ c.args.bytes.now c.requires.target.max_least c.requires.some
    none (c.rows.invariant.1 known)).1

pub returns-clause-sent : goal.returns-clause-sent
returns-clause-sent g c known =
    let none = nil_from_length _ (eqb-true _ 0 (sym c.is_empty.ensures ∙ c.rows-test.false)) in
    (all_sent c.args.target c.args.ep _ c.args.bytes.now c.requires.target.max_least c.requires.some
    none (c.rows.invariant.1 known)).0
