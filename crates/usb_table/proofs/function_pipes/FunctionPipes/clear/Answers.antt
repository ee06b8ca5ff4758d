use Rattle.std.proofs.Common.{◌∙◌, sym}
use Rattle.usb_table.specs.{ClearedOfThrough, pipe_to, clears_miss}
use Rattle.usb_table.proofs.TransferLeaves.{PutBack, call_made, call_through}
use Rattle.usb_table.proofs.levels.StandingPipes.{to_picks}
use Rattle.usb_table.proofs.function_pipes.FunctionPipes.clear.Goals as goal

put_back : (g : _) (c : goal.After-table_answer g) → PutBack (pipe_to c.args.endpoint)
    c.args.self.now c.put.new.self c.in-Some.pipe c.clear-cleared.new.self
put_back g c = record {
  picks = to_picks c.args.endpoint;
  placed = c.requires;
  picked = sym c.pipe_to.ensures ∙ c.in-Some.is;
  put = c.put.ensures;
  same = c.clear-cleared.ensures.same;
}

pub returns-clause-made : goal.returns-clause-made
returns-clause-made g c = call_made (put_back g c)

pub returns-clause-cleared : goal.returns-clause-cleared
returns-clause-cleared g c known =
    call_through (put_back g c) (clears_miss c.args.endpoint) ClearedOfThrough _
    c.table_answer.result _ (record {
      answer = c.clear-cleared.result;
      told = c.table_answer.ensures;
      cleared = record {
        count = (c.clear-cleared.ensures.steps known).spends;
        same = c.clear-cleared.ensures.same;
        clears = (c.clear-cleared.ensures.transfer known).clears;
      };
    })
