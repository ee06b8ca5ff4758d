use Rattle.std.proofs.Common.{arith}
use Rattle.std.proofs.lemmas.List.{take_all}
use Rattle.std.proofs.lemmas.List.Sums.{sum_by_more}
use Rattle.usb_device.specs.{said_length, said_lengths}
use Rattle.usb_plan.proofs.attempts.said_lengths.Goals as goal

pub texts-preserved : goal.texts-preserved
texts-preserved c =
    let texts = c.configs-texts.result.now in
    let one = sum_by_more said_length texts c.texts.text-index c.text-item.result
    c.texts-test.true in
    record {
      so_far = rw (
        one,
        c.texts.invariant.so_far,
        c.said_length-sum.ensures.value,
        c.as_slice.ensures.value,
        ← c.text-item.is,
      );
      few = omega (arith, c.texts.invariant.few, c.said_length-sum.ensures.most);
    }

pub returns-clause-value : goal.returns-clause-value
unfolding said_lengths
returns-clause-value c = rw (
  c.texts.invariant.so_far,
  take_all c.texts.text-index c.configs-texts.result.now c.texts-test.false,
  c.configs-texts.ensures.value,
)
