use Rattle.std.proofs.Common.{arith, refl}
use Rattle.usb_plan.proofs.DigitPairs.{IsPair, put_one, refused_one, all_put, told_read}
use Rattle.usb_plan.proofs.DigitPairs.{told_refused}
use Rattle.usb_plan.proofs.digits.put_pairs.Goals as goal

pub returns-then-high-gt-MOST : goal.returns-then-high-gt-MOST
returns-then-high-gt-MOST c =
    let pair : IsPair c.args.digits.now c.pairs.bytes c.pairs.i c.from.result
    c.from-in-pairs.result = record {
      sizes = omega arith;
      within = omega arith;
      first = c.from.ensures;
      second = c.from-in-pairs.ensures;
      are_bytes = λ k. omega (arith, c.type_inv.digits k);
    } in
    let r = refused_one _ _ _ _ _ pair c.pairs.invariant c.then-high-gt-MOST.either in
    told_refused _ r.0 _ _ r.1 refl

pub pairs-preserved : goal.pairs-preserved
pairs-preserved c =
    let pair : IsPair c.args.digits.now c.pairs.bytes c.pairs.i c.from.result
    c.from-in-pairs.result = record {
      sizes = omega arith;
      within = omega arith;
      first = c.from.ensures;
      second = c.from-in-pairs.ensures;
      are_bytes = λ k. omega (arith, c.type_inv.digits k);
    } in
    put_one _ _ _ _ _ pair c.pairs.invariant c.if-high-gt-MOST.false c.if-low-gt-MOST.false

pub returns : goal.returns
returns c = told_read _ c.pairs.bytes _ _ (all_put _ _ c.pairs.i (omega arith) (omega arith)
    c.pairs.invariant) refl refl
