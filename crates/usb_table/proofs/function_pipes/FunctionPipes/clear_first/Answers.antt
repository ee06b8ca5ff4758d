use Rattle.std.proofs.Common.{◌∙◌, sym}
use Rattle.usb_table.proofs.levels.PathCalls.{idle_steps}
use Rattle.usb_table.proofs.TransferLeaves.{call_first, call_made}
use Rattle.usb_table.proofs.levels.StandingPipes.{first_picks}
use Rattle.usb_table.proofs.function_pipes.FunctionPipes.clear_first.Goals as goal

pub returns-in_default-clause-steps : goal.returns-in_default-clause-steps
returns-in_default-clause-steps g c known = idle_steps 1600 _ _

pub returns-clause-made : goal.returns-clause-made
returns-clause-made g c =
    call_made (record {
      picks = first_picks c.args.is_in;
      placed = c.requires;
      picked = sym c.first_pipe.ensures ∙ c.in-Some.is;
      put = c.put.ensures;
      same = c.clear_halt-cleared.ensures.same;
    })

pub returns-clause-cleared : goal.returns-clause-cleared
returns-clause-cleared g c known =
    call_first c.args.is_in c.args.self.now c.put.new.self c.in-Some.pipe
    c.clear_halt-cleared.new.self (sym c.first_pipe.ensures ∙ c.in-Some.is) c.put.ensures _
    c.clear_halt-cleared.result _ (record {
      count = (c.clear_halt-cleared.ensures.steps known).spends;
      same = c.clear_halt-cleared.ensures.same;
      clears = (c.clear_halt-cleared.ensures.transfer known).clears;
    })
