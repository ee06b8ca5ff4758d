use Rattle.std.proofs.Common.{◌≡◌, ◌∙◌, true, false, take, ap, sym, subst, arith, Ok}
use Rattle.std.proofs.lemmas.Grind.{common_steps}
use Rattle.usb_wire.proofs.FieldLemmas.{Counted, bytes_of_word-none, bytes_of_word-value}
use Rattle.usb_wire.proofs.FieldLemmas.{counted-count_in, decoded-counted, into_given}
use Rattle.usb_wire.proofs.field.bytes_of_word.Goals as goal

pub returns-then-count-eq0 : goal.returns-then-count-eq0
returns-then-count-eq0 g c =
    let counted = counted-count_in c.args.word.now c.in_ok-count.count (sym c.count_in.ensures
    ∙ c.in_ok-count.was) in
    bytes_of_word-none g.row.MOST c.args.word.now
    (subst (Counted c.args.word.now) c.if-count-eq0.true counted) ∙ ap Ok (sym c.new.ensures)

pub returns-then-not-decode_into : goal.returns-then-not-decode_into
returns-then-not-decode_into g c =
    let counted = counted-count_in c.args.word.now c.in_ok-count.count (sym c.count_in.ensures
    ∙ c.in_ok-count.was) in
    let decoded = decoded-counted c.args.word.now c.in_ok-count.count counted
    (omega (arith, c.if-count-eq0.false)) in
    let given = into_given c.args.word.now c.in_ok-count.count decoded.bytes c.decode_into.result
    c.decode_into.new.decoded decoded.decoded c.decode_into.ensures in
    let other : true ≡ false = sym given.0 ∙ c.if-not-decode_into.true in
    cc

pub returns : goal.returns
returns g c =
    let counted = counted-count_in c.args.word.now c.in_ok-count.count (sym c.count_in.ensures
    ∙ c.in_ok-count.was) in
    let decoded = decoded-counted c.args.word.now c.in_ok-count.count counted
    (omega (arith, c.if-count-eq0.false)) in
    let given = into_given c.args.word.now c.in_ok-count.count decoded.bytes c.decode_into.result
    c.decode_into.new.decoded decoded.decoded c.decode_into.ensures in
    let items : c.few_bytes.result.items ≡ take c.in_ok-count.count c.decode_into.new.decoded =
    grind (arith, common_steps, c.few_bytes.ensures) in
    bytes_of_word-value g.row.MOST c.args.word.now c.in_ok-count.count decoded.bytes counted
    (omega (arith, c.if-count.false)) decoded.value ∙ ap Ok (sym (items ∙ given.1))
