use Rattle.std.proofs.Common.{◌∙◌, sym, arith}
use Rattle.usb_table.specs.{SentThrough, sends_through, sends_miss}
use Rattle.usb_table.proofs.TransferLeaves.{PutBack, call_made, call_refused, call_through}
use Rattle.usb_table.proofs.TransferLeaves.{told_bus}
use Rattle.usb_table.proofs.levels.StandingPipes.{sends_picks, sends_way}
use Rattle.usb_table.proofs.function_pipes.FunctionPipes.send.Goals as goal

put_back : (g : _) (c : goal.After-table_answer g) → PutBack (sends_through c.args.choice)
    c.args.self.now c.put.new.self c.in-Some.pipe c.send-sent.new.self
put_back g c = record {
  picks = sends_picks c.args.choice;
  placed = c.requires;
  picked = sym c.sends_through.ensures ∙ c.in-Some.is;
  put = c.put.ensures;
  same = c.send-sent.ensures.same;
}

pub send-sent-requires : goal.send-sent-requires
send-sent-requires g c = record {
  writes = sends_way c.args.choice c.args.self.now c.in-Some.pipe c.requires
      (sym c.sends_through.ensures ∙ c.in-Some.is);
}

pub returns-clause-any_bus : goal.returns-clause-any_bus
returns-clause-any_bus g c = (
  (
    omega (arith, c.send-sent.ensures.any_bus.0.0, c.send-sent.ensures.any_bus.2),
    c.send-sent.ensures.any_bus.0.1,
  ),
  told_bus c.send-sent.result c.table_answer.result _ c.table_answer.ensures
      c.send-sent.ensures.any_bus.1,
  call_refused (put_back g c) (sends_miss c.args.choice c.args.self.now) c.args.bus.now
      c.send-sent.new.bus c.send-sent.result c.table_answer.result c.table_answer.ensures
      c.send-sent.ensures.broken,
)

pub returns-clause-made : goal.returns-clause-made
returns-clause-made g c = call_made (put_back g c)

pub returns-clause-sent : goal.returns-clause-sent
returns-clause-sent g c known =
    call_through (put_back g c) (sends_miss c.args.choice) (λ p. SentThrough p c.args.bytes.now) _
    c.table_answer.result _ (record {
      answer = c.send-sent.result;
      told = c.table_answer.ensures;
      count = (c.send-sent.ensures.steps known).spends;
      same = c.send-sent.ensures.same;
      sends = (c.send-sent.ensures.transfer known).sends;
    })
