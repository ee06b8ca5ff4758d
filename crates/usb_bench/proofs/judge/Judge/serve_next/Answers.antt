use Rattle.std.proofs.Common.{refl, ap, ◌∙◌}
use Rattle.usb_far.specs.{reading, scene}
use Rattle.usb_bench.specs.{StopsFor, last_at}
use Rattle.usb_bench.proofs.Serves.{asked_stops, read_asked, read_told, told_stops}
use Rattle.usb_bench.proofs.judge.Judge.serve_next.Goals as goal

pub returns-in-Err-told-clause-fault : goal.returns-in-Err-told-clause-fault
returns-in-Err-told-clause-fault g c = told_stops c.args.rounds c.args.last c.args.self.now
    (scene g.R.Read.remaining g.W.Write.contents c.args.far.now c.args.reader.now c.args.writer.now)
    (scene g.R.Read.remaining g.W.Write.contents c.told.new.far c.next_line.new.reader
    c.args.writer.now) _ (reading g.R.Read.remaining c.next_line.new.self c.next_line.new.reader)
    c.in-Err-told.fault
    (read_told (reading g.R.Read.remaining c.args.far.now c.args.reader.now)
    (reading g.R.Read.remaining c.next_line.new.self c.next_line.new.reader) c.in-Ok-Told.field-0
    c.in-Ok-Told.line c.in-Ok-Told.field-0-is c.in-Ok-Told.ensures)
    c.in-Err-told.ensures.fault refl refl

pub returns-in-Err-answer-clause-fault : goal.returns-in-Err-answer-clause-fault
returns-in-Err-answer-clause-fault g c =
    let old = scene g.R.Read.remaining g.W.Write.contents c.args.far.now c.args.reader.now
    c.args.writer.now in
    let reads = read_asked (reading g.R.Read.remaining c.args.far.now c.args.reader.now)
    (reading g.R.Read.remaining c.next_line.new.self c.next_line.new.reader) c.in-Ok-Asked.field-0
    c.in-Ok-Asked.question c.in-Ok-Asked.field-0-is c.in-Ok-Asked.ensures in
    let attempts = c.attempts.ensures.value ∙ ap (λ w. w.attempts) c.bus.ensures.world
    ∙ ap (λ p. p.far.world.attempts) reads.1 in
    asked_stops c.args.rounds c.args.last c.last_at-next.result c.args.self.now old
    (scene g.R.Read.remaining g.W.Write.contents c.answer.new.far c.next_line.new.reader
    c.answer.new.writer) c.in-Ok-Asked.question c.in-Err-answer.fault
    (c.last_at-next.ensures ∙ ap (λ n. last_at c.in-Ok-Asked.question c.args.last n c.args.rounds)
    attempts) reads.0 (rw reads.1 at c.in-Err-answer.ensures.fault)

pub returns-in-Err-clause-fault : goal.returns-in-Err-clause-fault
returns-in-Err-clause-fault g c = StopsFor.misread c.in-Err.ensures refl
