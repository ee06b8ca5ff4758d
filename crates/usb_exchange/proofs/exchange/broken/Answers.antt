use Rattle.std.proofs.Common.{ℕ, List, subst, sym, ◌∙◌}
use Rattle.usb_packet.specs.{Spells}
use Rattle.usb_world.specs.{has_its_bit}
use Rattle.usb_world.proofs.addresses.AddressLosses.{bit_within}
use Rattle.usb_exchange.proofs.exchange.broken.Goals as goal

pub flipped-requires : goal.flipped-requires
unfolding has_its_bit
flipped-requires c = bit_within c.encode-bytes.result.items _ c.args.bit
    c.encode-bytes.ensures c.requires.bit

pub unreachable-requires : goal.unreachable-requires
unfolding has_its_bit
unreachable-requires c =
    let bytes = c.encode-bytes.result.items in
    let within = bit_within bytes _ c.args.bit c.encode-bytes.ensures
    c.requires.bit in
    let broken = c.of.ensures.broken (λ p h. c.one_flipped_bit.ensures bytes _ p
    c.args.bit c.encode-bytes.ensures within
    (subst (λ (l : List ℕ). Spells l p) (c.as_slice.ensures.value ∙ c.flipped.ensures) h)) in
    cc (sym c.in-Whole.is ∙ broken)
