use Rattle.std.proofs.Common.{◌≡◌, ◌∙◌, refl, ap, arith, ◌+◌, ◌-◌, ◌*◌, ◌<◌, ◌≤◌, ◌++◌, length}
use Rattle.std.proofs.Common.{length-append}
use Rattle.std.proofs.Math.Nat.{add-mul}
use Rattle.usb_transfer.proofs.MovedPackets.{coming_none, whole_received}
use Rattle.usb_transfer.proofs.MovedRows.{lost_row_received, receiving_row, room_row, row_steps}
use Rattle.usb_transfer.proofs.MovedRows.{short_row}
use Rattle.usb_transfer.proofs.rows.receive_rows.Goals as goal

pub rows-init : goal.rows-init
rows-init g c = (
  omega arith,
  λ known. record {
    packets = 0;
    count = omega arith;
    coming = coming_none c.args.target c.args.ep _ _ _ _ c.new-bytes.ensures.items;
  },
  refl,
  omega (arith, ap length c.new-bytes.ensures.items),
)

pub rows-preserved : goal.rows-preserved
rows-preserved g c =
    let few : c.row_of.result ≤ c.rows.left = omega (arith, c.row_of.ensures) in
    let fits = c.in_ok-came.ensures.fits in
    let gone : c.from-left.result ≡ c.in_ok-came.came = c.from-left.ensures in
    let max = c.args.target.max in
    let whole : c.rows.left ≡ (c.rows.left - c.from-left.result) + c.from-left.result =
    omega (arith, few, gone, fits.few) in
    let n = c.from-left.result in
    let parts : c.rows.left * max ≡ (c.rows.left - n) * max + n * max =
    ap (λ k. k * max) whole ∙ add-mul (c.rows.left - n) n max in
    let kept = c.in_ok-extend_from_slice.ensures.items
    ∙ ap (λ z. c.rows.bytes.items ++ z) c.as_slice.ensures.value in
    let all : c.in_ok-came.came * max ≤ length c.data_in_row.new.got.items =
    rw (c.from.ensures, c.from-in-rows.ensures, c.len.ensures.value) at c.if-len-from.false in (
      omega (arith, c.rows.invariant.0, c.in_ok-came.ensures.any_bus.0.0, gone, fits.few, few),
      λ known. receiving_row c.args.target c.args.ep c.args.toggle.now c.args.wanted
          c.requires.target.max_least few (c.rows.invariant.1 known)
          (c.in_ok-came.ensures.asks known) (c.in_ok-came.ensures.steps known) kept
          (c.rows.left - c.from-left.result) (ap (λ k. c.rows.left - k) gone) all,
      c.in_ok-came.ensures.any_bus.0.1 ∙ c.rows.invariant.2,
      omega (
        arith,
        c.rows.invariant.3,
        ap length kept,
        length-append c.rows.bytes.items c.data_in_row.new.got.items,
        fits.size,
        parts,
        ap (λ k. k * max) gone,
      ),
    )

pub returns-in_err-came-clause-steps : goal.returns-in_err-came-clause-steps
returns-in_err-came-clause-steps g c known =
    let few : c.row_of.result ≤ c.rows.left = omega (arith, c.row_of.ensures) in
    let g = c.rows.invariant.1 known in
    row_steps c.args.target c.args.ep c.args.toggle.now c.args.wanted
    c.requires.target.max_least few g c.row_of.result few
    (c.in_err-came.ensures.steps known)

pub returns-in_err-came-clause-received : goal.returns-in_err-came-clause-received
returns-in_err-came-clause-received g c known =
    let few : c.row_of.result ≤ c.rows.left = omega (arith, c.row_of.ensures) in
    let g = c.rows.invariant.1 known in
    lost_row_received c.args.target c.args.ep c.args.toggle.now c.args.wanted
    c.requires.target.max_least few g c.in_err-came.field-0.0
    c.from_residual.result c.from_residual.ensures.0 c.from_residual.ensures.1
    (c.in_err-came.ensures.asks known)

pub returns-in_err-extend_from_slice-clause-steps :
    goal.returns-in_err-extend_from_slice-clause-steps
returns-in_err-extend_from_slice-clause-steps g c known =
    let few : c.row_of.result ≤ c.rows.left = omega (arith, c.row_of.ensures) in
    let g = c.rows.invariant.1 known in
    row_steps c.args.target c.args.ep c.args.toggle.now c.args.wanted
    c.requires.target.max_least few g c.in_ok-came.came
    (omega (arith, few, c.in_ok-came.ensures.fits.few)) (c.in_ok-came.ensures.steps known)

pub returns-in_err-extend_from_slice-clause-received :
    goal.returns-in_err-extend_from_slice-clause-received
returns-in_err-extend_from_slice-clause-received g c known =
    let few : c.row_of.result ≤ c.rows.left = omega (arith, c.row_of.ensures) in
    let g = c.rows.invariant.1 known in
    room_row c.args.target c.args.ep c.args.toggle.now c.args.wanted
    c.requires.target.max_least few g (c.in_ok-came.ensures.asks known)
    (c.in_ok-came.ensures.steps known) c.from_residual-in_err-extend_from_slice.result
    c.from_residual-in_err-extend_from_slice.ensures.0
    c.from_residual-in_err-extend_from_slice.ensures.1

pub returns-then-len-from-clause-steps : goal.returns-then-len-from-clause-steps
returns-then-len-from-clause-steps g c known =
    let few : c.row_of.result ≤ c.rows.left = omega (arith, c.row_of.ensures) in
    let g = c.rows.invariant.1 known in
    row_steps c.args.target c.args.ep c.args.toggle.now c.args.wanted
    c.requires.target.max_least few g c.in_ok-came.came
    (omega (arith, few, c.in_ok-came.ensures.fits.few)) (c.in_ok-came.ensures.steps known)

pub returns-then-len-from-clause-received : goal.returns-then-len-from-clause-received
returns-then-len-from-clause-received g c known =
    let few : c.row_of.result ≤ c.rows.left = omega (arith, c.row_of.ensures) in
    let g = c.rows.invariant.1 known in
    let kept = c.in_ok-extend_from_slice.ensures.items
    ∙ ap (λ z. c.rows.bytes.items ++ z) c.as_slice.ensures.value in
    let short : length c.data_in_row.new.got.items < c.in_ok-came.came * c.args.target.max =
    rw (c.from.ensures, c.from-in-rows.ensures, c.len.ensures.value) at c.if-len-from.true in
    short_row c.args.target c.args.ep c.args.toggle.now c.args.wanted
    c.requires.target.max_least few g (c.in_ok-came.ensures.asks known)
    (c.in_ok-came.ensures.steps known) kept refl short

pub returns-clause-received : goal.returns-clause-received
returns-clause-received g c known =
    let g = c.rows.invariant.1 known in
    whole_received c.args.target c.args.ep _ c.args.wanted c.requires.target.max_least
    (omega (arith, g.count, c.rows-test.false)) c.requires.some g.coming
