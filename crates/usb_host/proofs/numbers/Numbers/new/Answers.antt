use Rattle.std.proofs.Common.{arith, ◌∙◌, refl}
use Rattle.std.proofs.Math.ListN.{length-set}
use Rattle.usb_host.proofs.arrivals.KeptNumbers.{are_indexes, index_written, indexes_are}
use Rattle.usb_host.proofs.numbers.Numbers.new.Goals as goal

pub addresses-init : goal.addresses-init
addresses-init c = record { long = refl; each = λ k lt. absurd (omega arith) }

pub addresses-preserved : goal.addresses-preserved
addresses-preserved c =
    let i = c.addresses.invariant in
    record {
      long = length-set c.addresses.of c.from-in-addresses.result c.from.result ∙ i.long;
      each = index_written c.addresses.of c.addresses.address c.from-in-addresses.result
          c.from.result (omega (arith, i.long)) i.each c.from-in-addresses.ensures c.from.ensures;
    }

pub invariant_of-result : goal.invariant_of-result
invariant_of-result c = are_indexes c.addresses.of c.addresses.invariant.long
    (λ k lt. c.addresses.invariant.each k (omega arith))

pub returns : goal.returns
returns c = indexes_are c.addresses.of c.addresses.invariant.long
    (λ k lt. c.addresses.invariant.each k (omega arith))
