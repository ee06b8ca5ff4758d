use Rattle.std.proofs.Common.{rules, ◌≡◌, refl, ap, ℕ, ◌<◌, length, length-append, arith}
use Rattle.usb_transfer.proofs.MovedPackets.{coming_none, coming_more, moved_went, whole_received}
use Rattle.usb_transfer.proofs.MovedPackets.{short_received, lost_received, room_received}
use Rattle.usb_transfer.proofs.packets.receive_packets.Goals as goal

pub packets-init : goal.packets-init
packets-init g c = (
  search rules,
  λ known. coming_none c.args.target c.args.ep _ _ _ _ c.new-bytes.ensures.items,
  omega (arith, ap length c.new-bytes.ensures.items),
)

pub packets-preserved : goal.packets-preserved
packets-preserved g c = (
  search rules,
  λ known.
      let again = ap length c.bytes-in-packets.ensures.value in
      let full : length c.in_ok-packet.packet ≡ c.args.target.max =
      omega (
        arith,
        again,
        c.if-bytes-from.false,
        c.from.ensures,
        (c.in_ok-packet.ensures.asks known).short,
      ) in
      coming_more c.args.target c.args.ep _ c.args.wanted c.requires.target.max_least
      c.packets-test.true (c.packets.invariant.1 known) (c.data_in.ensures.steps known)
      (c.in_ok-packet.ensures.asks known) c.in_ok-packet.ensures.toggle
      c.bytes.ensures.value c.in_ok-extend_from_slice.ensures.items (omega arith) full,
  omega (
    arith,
    c.packets.invariant.2,
    c.in_ok-packet.ensures.fits,
    ap length c.bytes-in-packets.ensures.value,
    ap length
        c.bytes.ensures.value,
    ap length c.in_ok-extend_from_slice.ensures.items,
    length-append
        {A = ℕ},
  ),
)

pub returns-then-bytes-from-clause-received : goal.returns-then-bytes-from-clause-received
returns-then-bytes-from-clause-received g c known =
    let again = ap length c.bytes-in-packets.ensures.value in
    let short : length c.in_ok-packet.packet < c.args.target.max =
    omega (arith, again, c.if-bytes-from.true, c.from.ensures) in
    short_received c.args.target c.args.ep _ c.args.wanted c.requires.target.max_least
    c.packets-test.true (c.packets.invariant.1 known) (c.data_in.ensures.steps known)
    (c.in_ok-packet.ensures.asks known) c.in_ok-packet.ensures.toggle c.bytes.ensures.value
    c.in_ok-extend_from_slice.ensures.items refl short

pub returns-clause-received : goal.returns-clause-received
returns-clause-received g c known =
    whole_received c.args.target c.args.ep _ c.args.wanted c.requires.target.max_least (omega arith)
    c.requires.some (c.packets.invariant.1 known)

pub returns-in_err-packet-clause-received : goal.returns-in_err-packet-clause-received
returns-in_err-packet-clause-received g c known =
    lost_received c.args.target c.args.ep _ c.args.wanted c.requires.target.max_least
    c.packets-test.true (c.packets.invariant.1 known) (c.data_in.ensures.steps known)
    c.in_err-packet.field-0.0 c.from_residual.result c.from_residual.ensures.0
    c.from_residual.ensures.1 (c.in_err-packet.ensures.asks known) c.in_err-packet.ensures.toggle

pub returns-in_err-extend_from_slice-clause-received :
    goal.returns-in_err-extend_from_slice-clause-received
returns-in_err-extend_from_slice-clause-received g c known =
    room_received c.args.target c.args.ep _ c.args.wanted c.requires.target.max_least
    c.packets-test.true (c.packets.invariant.1 known) (c.data_in.ensures.steps known)
    c.in_ok-packet.packet c.from_residual-in_err-extend_from_slice.result
    c.from_residual-in_err-extend_from_slice.ensures.0
    c.from_residual-in_err-extend_from_slice.ensures.1 (c.in_ok-packet.ensures.asks known)
    c.in_ok-packet.ensures.toggle

pub returns-then-bytes-from-clause-steps : goal.returns-then-bytes-from-clause-steps
returns-then-bytes-from-clause-steps g c known =
    moved_went (c.packets.invariant.1 known).moved c.packets-test.true
    (c.data_in.ensures.steps known)

pub returns-in_err-packet-clause-steps : goal.returns-in_err-packet-clause-steps
returns-in_err-packet-clause-steps g c known =
    moved_went (c.packets.invariant.1 known).moved c.packets-test.true
    (c.data_in.ensures.steps known)

pub returns-in_err-extend_from_slice-clause-steps :
    goal.returns-in_err-extend_from_slice-clause-steps
returns-in_err-extend_from_slice-clause-steps g c known =
    moved_went (c.packets.invariant.1 known).moved c.packets-test.true
    (c.data_in.ensures.steps known)
