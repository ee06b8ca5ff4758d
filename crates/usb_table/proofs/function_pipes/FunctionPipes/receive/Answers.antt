use Rattle.std.proofs.Common.{◌∙◌, sym}
use Rattle.usb_table.specs.{ReceivedThrough, receives_through, receives_miss}
use Rattle.usb_table.proofs.TransferLeaves.{PutBack, call_made, call_refused, call_through}
use Rattle.usb_table.proofs.TransferLeaves.{told_bus}
use Rattle.usb_table.proofs.levels.StandingPipes.{receives_picks, receives_way}
use Rattle.usb_table.proofs.function_pipes.FunctionPipes.receive.Goals as goal

put_back : (g : _) (c : goal.After-table_answer g) → PutBack (receives_through c.args.choice)
    c.args.self.now c.put.new.self c.in-Some.pipe c.receive-received.new.self
put_back g c = record {
  picks = receives_picks c.args.choice;
  placed = c.requires;
  picked = sym c.receives_through.ensures ∙ c.in-Some.is;
  put = c.put.ensures;
  same = c.receive-received.ensures.same;
}

pub receive-received-requires : goal.receive-received-requires
receive-received-requires g c = record {
  reads = receives_way c.args.choice c.args.self.now c.in-Some.pipe c.requires
      (sym c.receives_through.ensures ∙ c.in-Some.is);
}

pub returns-clause-any_bus : goal.returns-clause-any_bus
returns-clause-any_bus g c = (
  c.receive-received.ensures.any_bus.0,
  told_bus c.receive-received.result c.table_answer.result _ c.table_answer.ensures
      c.receive-received.ensures.any_bus.1,
  call_refused (put_back g c) (receives_miss c.args.choice c.args.self.now) c.args.bus.now
      c.receive-received.new.bus c.receive-received.result c.table_answer.result
      c.table_answer.ensures c.receive-received.ensures.broken,
)

pub returns-clause-made : goal.returns-clause-made
returns-clause-made g c = call_made (put_back g c)

pub returns-clause-received : goal.returns-clause-received
returns-clause-received g c known =
    call_through (put_back g c) (receives_miss c.args.choice)
    (λ p. ReceivedThrough p c.args.packets) _
    c.table_answer.result _ (record {
      answer = c.receive-received.result;
      told = c.table_answer.ensures;
      count = (c.receive-received.ensures.steps known).spends;
      same = c.receive-received.ensures.same;
      receives = (c.receive-received.ensures.transfer known).receives;
    })
