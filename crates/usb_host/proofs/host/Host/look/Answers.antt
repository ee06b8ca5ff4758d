use Rattle.std.proofs.Common.{◌∙◌, ap, arith, rules, subst, sym}
use Rattle.std.proofs.lemmas.Grind.{common_steps}
use Rattle.usb_host.specs.{HostState, LookTells}
use Rattle.usb_host.proofs.Looks.{look_stops, look_tells, stopped_tells}
use Rattle.usb_host.proofs.host.Host.look.Goals as goal

pub returns-then-self-clause-stopped : goal.returns-then-self-clause-stopped
returns-then-self-clause-stopped g c = first_of (search rules, grind (arith, common_steps))

pub returns-then-self-clause-tells : goal.returns-then-self-clause-tells
returns-then-self-clause-tells g c known =
    stopped_tells c.args.path.now c.args.self.now
    (ap (λ (h : HostState). h.stopped) (sym c.self.view_is) ∙ c.if-self.true)
    (returns-then-self-clause-stopped g c)

pub returns-clause-stopped : goal.returns-clause-stopped
returns-clause-stopped g c =
    look_stops _ (ap (λ (h : HostState). h.stopped) (sym c.self.view_is) ∙ c.if-self.false)
    c.look_at-looked.ensures.told c.is_final-self-inside.ensures

pub returns-clause-tells : goal.returns-clause-tells
returns-clause-tells g c known =
    let stopped = c.is_final-self-inside.result in
    subst (λ (h : HostState). LookTells c.args.path.now c.args.self.now c.look_at-looked.result
    (record h { stopped = stopped })) (sym c.self-2.view_is)
    (look_tells stopped
    (ap (λ (h : HostState). h.stopped) (sym c.self.view_is) ∙ c.if-self.false)
    c.is_final-self-inside.ensures (c.look_at-looked.ensures.made known)
    c.look_at-looked.ensures.told)
