use Rattle.std.proofs.Common.{◌∙◌, sym}
use Rattle.usb_table.specs.{ReportedThrough, polls_through, polls_miss}
use Rattle.usb_table.proofs.TransferLeaves.{PutBack, call_made, call_refused, call_through}
use Rattle.usb_table.proofs.TransferLeaves.{told_bus}
use Rattle.usb_table.proofs.levels.StandingPipes.{polls_picks}
use Rattle.usb_table.proofs.function_pipes.FunctionPipes.poll.Goals as goal

put_back : (g : _) (c : goal.After-table_answer g) → PutBack (polls_through c.args.endpoint)
    c.args.self.now c.put.new.self c.in-Some.pipe c.poll-polled.new.self
put_back g c = record {
  picks = polls_picks c.args.endpoint;
  placed = c.requires;
  picked = sym c.polls_through.ensures ∙ c.in-Some.is;
  put = c.put.ensures;
  same = c.poll-polled.ensures.same;
}

pub returns-clause-any_bus : goal.returns-clause-any_bus
returns-clause-any_bus g c = (
  c.poll-polled.ensures.any_bus.0,
  told_bus c.poll-polled.result c.table_answer.result _ c.table_answer.ensures
      c.poll-polled.ensures.any_bus.1,
  call_refused (put_back g c) (polls_miss c.args.endpoint c.args.self.now) c.args.bus.now
      c.poll-polled.new.bus c.poll-polled.result c.table_answer.result c.table_answer.ensures
      c.poll-polled.ensures.broken,
)

pub returns-clause-made : goal.returns-clause-made
returns-clause-made g c = call_made (put_back g c)

pub returns-clause-told : goal.returns-clause-told
returns-clause-told g c known =
    call_through (put_back g c) (polls_miss c.args.endpoint) ReportedThrough _
    c.table_answer.result _ (record {
      answer = c.poll-polled.result;
      told = c.table_answer.ensures;
      count = (c.poll-polled.ensures.steps known).spends;
      same = c.poll-polled.ensures.same;
      polls = (c.poll-polled.ensures.transfer known).polls;
    })
