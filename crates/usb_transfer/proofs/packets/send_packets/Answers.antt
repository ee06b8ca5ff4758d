use Rattle.std.proofs.Common.{rules, ◌≡◌, ◌∙◌, sym, ℕ, ◌<◌, length, arith, false}
use Rattle.std.proofs.Common.{true, ◌≢◌}
use Rattle.std.proofs.lemmas.Bool.{eqb-true}
use Rattle.std.proofs.lemmas.List.{nil_from_length}
use Rattle.usb_packet.proofs.Interface.{nonzero}
use Rattle.usb_transfer.proofs.MovedPackets.{one_packet_less, moving_none, going_more, all_sent}
use Rattle.usb_transfer.proofs.MovedPackets.{lost_sent}
use Rattle.usb_transfer.proofs.packets.send_packets.Goals as goal

pub packets-init : goal.packets-init
packets-init g c = (
  search rules,
  λ known. moving_none c.args.target c.args.ep _ c.args.bytes.now _ _,
  search rules,
)

pub packets-smaller : goal.packets-smaller
packets-smaller g c =
    let some : 0 < length c.packets.rest.now = nonzero _ _ c.is_empty.ensures c.packets-test.true in
    omega (
      arith,
      some,
      c.split_at.ensures.front_len,
      c.split_at.ensures.back_len,
      c.min.ensures,
      c.from.ensures,
      c.requires.target.max_least,
    )

pub packets-preserved : goal.packets-preserved
packets-preserved g c = (
  let before = c.packets.invariant.0 in
      let some = nonzero _ _ c.is_empty.ensures c.packets-test.true in
      let less = one_packet_less (length c.packets.rest.now) c.args.target.max
      c.requires.target.max_least some (length c.split_at.result.1.now) (omega (
        arith,
        c.min.ensures,
        c.from.ensures,
        c.split_at.ensures.back_len,
      )) in
      omega (arith, before, less, c.in_ok-data_out.ensures.any_bus.0.0),
  λ known.
      going_more c.args.target c.args.ep _ c.args.bytes.now c.requires.target.max_least c.min.result
      (nonzero _ _ c.is_empty.ensures c.packets-test.true)
      (omega (arith, c.min.ensures, c.from.ensures))
      c.split_at.ensures.front (c.packets.invariant.1 known) (c.data_out.ensures.steps known)
      c.split_at.ensures.back (c.in_ok-data_out.ensures.sends known)
      c.in_ok-data_out.ensures.toggle,
  search rules,
)

pub returns : goal.returns
returns g c =
    let none = nil_from_length _ (eqb-true _ 0 (sym c.is_empty.ensures ∙ c.packets-test.false)) in
    let whole = λ (known : g.B.Bus.modelled ≡ true). all_sent c.args.target c.args.ep _
    c.args.bytes.now c.requires.target.max_least c.requires.some none
    (c.packets.invariant.1 known) in
    record {
      any_bus = search rules;
      steps = λ known. (whole known).1;
      sent = λ known. (whole
          known).0;
    }

pub returns-in_err-data_out : goal.returns-in_err-data_out
returns-in_err-data_out g c =
    let front = λ (known : g.B.Bus.modelled ≡ true). lost_sent c.args.target c.args.ep _
    c.args.bytes.now c.requires.target.max_least c.min.result
    (nonzero _ _ c.is_empty.ensures c.packets-test.true)
    (omega (arith, c.min.ensures, c.from.ensures))
    c.split_at.ensures.front (c.packets.invariant.1 known) (c.data_out.ensures.steps known)
    c.in_err-data_out.field-0.0 c.from_residual.result c.from_residual.ensures.0
    c.from_residual.ensures.1 (search rules)
    (c.in_err-data_out.ensures.sends known) c.in_err-data_out.ensures.toggle in
    record {
      any_bus = search rules;
      steps = λ known. (front known).1;
      sent = λ known. (front
          known).0;
    }
