use Rattle.std.proofs.Common.{rules, ◌≤◌, ◌≡◌, ◌-◌, ◌++◌, take, length, arith, sym, ap, ◌∙◌, true}
use Rattle.std.proofs.Common.{false}
use Rattle.usb_transfer.specs.{ends_stage}
use Rattle.usb_transfer.proofs.ControlTransfers.{grown_full, read_progress_none, onward_more}
use Rattle.usb_transfer.proofs.ControlTransfers.{onward_went, data_ends, lost_ends, no_room_ends}
use Rattle.usb_transfer.proofs.Bounds.{full_packet}
use Rattle.usb_transfer.proofs.stage.data_stage.Goals as goal

pub packets-init : goal.packets-init
packets-init g c = (
  search rules,
  λ known. read_progress_none c.args.target c.args.wanted _ _ _
      c.requires.some c.new-bytes.ensures.items,
  search rules,
)

pub packets-preserved : goal.packets-preserved
packets-preserved g c =
    let kept = c.in_ok-keep.ensures
    ∙ ap (λ x. c.packets.bytes.items ++ take (c.args.wanted - length c.packets.bytes.items) x)
    c.bytes.ensures.value in
    let len : c.len.result ≡ length c.keep.new.bytes.items = omega (arith, c.len.ensures) in
    let more : ends_stage (length c.in_ok-packet.packet) c.args.target.max
    (length c.keep.new.bytes.items) c.args.wanted ≡ false =
    rw (sym c.bytes-in-packets.ensures.value, sym len) (sym c.last.ensures ∙ c.if-last.false) in
    let fits : length c.keep.new.bytes.items ≤ c.args.wanted = search rules in (
      fits,
      λ known.
          let asked = c.in_ok-packet.ensures.asks known in
          onward_more c.in_ok-packet.packet c.requires.target.max_least
          (c.packets.invariant.1 known)
          asked.heard asked.ends (c.data_in.ensures.steps known) kept more
          c.in_ok-packet.ensures.toggle,
      (
        omega (
          arith,
          c.packets.invariant.2.0,
          c.in_ok-packet.ensures.any_bus.0.0,
          full_packet
              c.args.target.max (length c.packets.bytes.items) (length c.keep.new.bytes.items)
              c.requires.target.max_least (grown_full c.args.target.max c.args.wanted _
              c.in_ok-packet.packet c.packets.invariant.0 kept more),
        ),
        search rules,
      ),
    )

pub returns-then-last-clause-packets : goal.returns-then-last-clause-packets
returns-then-last-clause-packets g c known =
    let kept = c.in_ok-keep.ensures
    ∙ ap (λ x. c.packets.bytes.items ++ take (c.args.wanted - length c.packets.bytes.items) x)
    c.bytes.ensures.value in
    let len : c.len.result ≡ length c.keep.new.bytes.items = omega (arith, c.len.ensures) in
    let ends : ends_stage (length c.in_ok-packet.packet) c.args.target.max
    (length c.keep.new.bytes.items) c.args.wanted ≡ true =
    rw (sym c.bytes-in-packets.ensures.value, sym len) (sym c.last.ensures ∙ c.if-last.true) in
    data_ends c.in_ok-packet.packet (c.packets.invariant.1 known)
    (c.in_ok-packet.ensures.asks known).heard kept ends

pub returns-in_err-packet-clause-packets : goal.returns-in_err-packet-clause-packets
returns-in_err-packet-clause-packets g c known =
    lost_ends _ c.in_err-packet.field-0.0 c.from_residual.result c.from_residual.ensures.0
    c.from_residual.ensures.1 (c.packets.invariant.1 known)
    (c.in_err-packet.ensures.asks known).heard

pub returns-in_err-keep-clause-packets : goal.returns-in_err-keep-clause-packets
returns-in_err-keep-clause-packets g c known =
    no_room_ends c.in_ok-packet.packet c.from_residual-in_err-keep.result
    c.from_residual-in_err-keep.ensures.0 c.from_residual-in_err-keep.ensures.1
    (c.packets.invariant.1 known) (c.in_ok-packet.ensures.asks known).heard

pub returns-in_err-packet-clause-steps : goal.returns-in_err-packet-clause-steps
returns-in_err-packet-clause-steps g c known =
    onward_went (c.packets.invariant.1 known) (c.data_in.ensures.steps known)

pub returns-in_err-keep-clause-steps : goal.returns-in_err-keep-clause-steps
returns-in_err-keep-clause-steps g c known =
    onward_went (c.packets.invariant.1 known) (c.data_in.ensures.steps known)

pub returns-then-last-clause-steps : goal.returns-then-last-clause-steps
returns-then-last-clause-steps g c known =
    onward_went (c.packets.invariant.1 known) (c.data_in.ensures.steps known)
