use Rattle.std.proofs.Common.{refl, sym, ◌∙◌, length}
use Rattle.std.proofs.lemmas.Bool.{eqb-true}
use Rattle.usb_pcap.specs.{longest}
use Rattle.usb_explain.proofs.Lines.{reaches_more, went_long}
use Rattle.usb_explain.proofs.explaining.BegunLine.take.Goals as goal

pub returns-then-is_full-clause-reaches : goal.returns-then-is_full-clause-reaches
returns-then-is_full-clause-reaches g c = λ w text h.
    went_long c.args.only w _ text c.args.byte _ c.args.self.now c.if-byte-eq10.false
    (eqb-true (length c.args.self.now.bytes.items) longest
    (sym c.is_full.ensures.value ∙ c.if-is_full.true)) h

pub returns-clause-reaches : goal.returns-clause-reaches
returns-clause-reaches g c = λ w text h.
    reaches_more c.args.only w _ text c.args.byte c.args.self.now _ c.if-byte-eq10.false h refl
    c.push.ensures.items refl
