use Rattle.std.proofs.Common.{◌∙◌, refl, sym}
use Rattle.usb_run.proofs.endings.Ends.{error_runs_on, answered_goes, answered_caused}
use Rattle.usb_run.proofs.asked.look.Goals as goal

pub returns-in_err-looked-clause-on : goal.returns-in_err-looked-clause-on
returns-in_err-looked-clause-on g c =
    error_runs_on _ c.from_residual.result c.in_err-looked.field-0.0 c.from_residual.ensures.1
    (record {
      answer = c.look.result;
      call = c.look.ensures.tells refl;
      tells = sym c.answered.ensures ∙ c.in_err-looked.was;
    })
    (answered_caused c.look.result c.in_err-looked.field-0.0 c.look.new.self.world
    (c.look.ensures.tells refl).told (sym c.answered.ensures ∙ c.in_err-looked.was))

pub returns-clause-on : goal.returns-clause-on
returns-clause-on g c = record {
  goes = (
    c.in_ok-looked.looked,
    refl,
    record {
      answer = c.look.result;
      call = c.look.ensures.tells refl;
      tells = sym c.answered.ensures ∙ c.in_ok-looked.was;
    },
  );
  running = c.look.ensures.stopped.stops c.requires.running
      ∙ answered_goes c.look.result _ (sym c.answered.ensures ∙ c.in_ok-looked.was);
  caused = tt;
}

pub returns-in_err-looked-clause-owning : goal.returns-in_err-looked-clause-owning
returns-in_err-looked-clause-owning g c = (c.look.ensures.tells refl).keeps.owning

pub returns-clause-owning : goal.returns-clause-owning
returns-clause-owning g c = (c.look.ensures.tells refl).keeps.owning
