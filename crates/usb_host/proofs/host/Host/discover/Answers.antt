use Rattle.std.proofs.Common.{arith, rules, ◌≡◌, ◌∙◌, Err, ap, refl, subst, sym}
use Rattle.std.proofs.lemmas.Grind.{common_steps}
use Rattle.usb_host.proofs.PartCalls.{port_enters}
use Rattle.usb_host.proofs.StepSums.{handed_is, askable_wide}
use Rattle.std.proofs.lemmas.Option.{same_Some}
use Rattle.usb_table.specs.{KnownPort, Table}
use Rattle.usb_host.specs.{IsFoundAt}
use Rattle.usb_host.proofs.entries.Agreements.{nested_entered, rises_entered, accounts_entered}
use Rattle.usb_host.proofs.entries.Agreements.{range_claimed}
use Rattle.usb_host.proofs.PortServes.{discover_done, discover_fails, discover_lost}
use Rattle.usb_host.proofs.PortLocations.{placed}
use Rattle.usb_host.proofs.BusCounts.{counts_spend, counts_told}
use Rattle.usb_enum.proofs.Interface.{enumeration_most}
use Rattle.usb_host.proofs.entries.KeptBytes.{found_entered}
use Rattle.usb_host.proofs.arrivals.KeptNumbers.{keeps_by, keeps_entered, keeps_none}
use Rattle.usb_host.proofs.host.Host.discover.Goals as goal

pub invariant_of-self-2 : goal.invariant_of-self-2
invariant_of-self-2 g c =
    let path = c.args.path.now in
    let finding = c.in_ok-finding.finding in
    let away = rw (← c.self.view_is) at c.requires.away in
    let known = rw (← c.self.view_is) at c.requires.port.known in
    let claims = c.in_ok-finding.ensures.pool in
    rw (c.in_ok-enter.ensures.ok.0, c.duplicate.ensures, c.in_ok-enter.ensures.ok.1) (record {
      rises = rises_entered path finding c.self.inside.table.entries c.self.invariant.rises;
      range = range_claimed finding c.self.inside.pool c.enumerate.new.pool claims
          c.self.invariant.range;
      accounts = accounts_entered path finding c.self.invariant.accounts away claims;
      nested = nested_entered path finding c.requires.port.is away (rw known refl)
          c.self.invariant.nested;
      found = found_entered path finding away (λ port at.
          let same : c.args.port ≡ port = same_Some c.args.port port (sym known ∙ at) in
          subst (λ (p : KnownPort). IsFoundAt c.self.inside.options path p finding) same
          (c.self.inside.pool, rw c.tier.ensures at c.in_ok-finding.ensures.found))
          c.self.invariant.found;
    })

pub returns-in_err-finding-clause-finds : goal.returns-in_err-finding-clause-finds
returns-in_err-finding-clause-finds g c known =
    rw (← c.self.view_is, handed_is c.from_residual.ensures.1) (discover_fails refl (record {
      stands = rw (← c.self.view_is) at (placed known c.requires.port);
      away = rw (← c.self.view_is) at c.requires.away;
      accounts = c.self.invariant.accounts;
      went = c.enumerate.ensures.uses.steps known;
      options = refl;
      gives = rw c.tier.ensures at (c.in_err-finding.ensures.ends known);
    })
    refl refl c.in_err-finding.ensures.pool (c.in_err-finding.ensures.told known))

pub returns-in_err-enter-clause-finds : goal.returns-in_err-enter-clause-finds
returns-in_err-enter-clause-finds g c known =
    rw (← c.self.view_is, handed_is c.from_residual-in_err-enter.ensures.1) (discover_lost refl
    (record {
      stands = rw (← c.self.view_is) at (placed known c.requires.port);
      away = rw (← c.self.view_is) at c.requires.away;
      accounts = c.self.invariant.accounts;
      went = c.enumerate.ensures.uses.steps known;
      options = refl;
      gives = rw c.tier.ensures at (c.in_ok-finding.ensures.ends known);
    })
    (ap (λ (t : Table). t.entries) c.in_err-enter.ensures.err.0)
    (ap (λ (t : Table). t.pipes) c.in_err-enter.ensures.err.0))

pub returns-clause-finds : goal.returns-clause-finds
returns-clause-finds g c known =
    rw (← c.self.view_is) (discover_done refl (record {
      stands = rw (← c.self.view_is) at (placed known c.requires.port);
      away = rw (← c.self.view_is) at c.requires.away;
      accounts = c.self.invariant.accounts;
      went = c.enumerate.ensures.uses.steps known;
      options = refl;
      gives = rw c.tier.ensures at (c.in_ok-finding.ensures.ends known);
    })
    (rw c.tier.ensures at c.in_ok-finding.ensures.found)
    c.enumerate.new.said (c.in_ok-finding.ensures.told known) (rw c.duplicate.ensures at
    c.in_ok-enter.ensures.ok.0))

pub returns-in_err-finding-clause-call : goal.returns-in_err-finding-clause-call
returns-in_err-finding-clause-call g c =
    rw (← c.self.view_is) (port_enters (counts_spend _ _ _ _ _ _ _ c.enumerate.ensures.uses.spends.0
    (enumeration_most c.args.port.port (askable_wide c.args.port.port c.requires.port.askable)))
    (keeps_none _) (rw (handed_is c.from_residual.ensures.1) (counts_told _ _ _ {A = Unit {0}} _
    (Err c.in_err-finding.field-0.0)
    c.in_err-finding.ensures.uses.told)) (rw (handed_is c.from_residual.ensures.1) refl))

pub returns-in_err-enter-clause-call : goal.returns-in_err-enter-clause-call
returns-in_err-enter-clause-call g c =
    let entries = ap (λ (t : Table). t.entries) c.in_err-enter.ensures.err.0 in
    rw (← c.self.view_is, handed_is c.from_residual-in_err-enter.ensures.1) (port_enters
    (counts_spend _ _ _ _ _ _ _ c.enumerate.ensures.uses.spends.0
    (enumeration_most c.args.port.port (askable_wide c.args.port.port c.requires.port.askable)))
    (keeps_by entries c.in_err-enter.ensures.kept refl refl)
    (first_of (search rules, grind (arith, common_steps))) entries)

pub returns-clause-call : goal.returns-clause-call
returns-clause-call g c =
    let t = ap (λ (t : Table). t.entries) c.in_ok-enter.ensures.ok.0 in
    port_enters (rw (← c.self.view_is) (counts_spend _ _ _ _ _ _ _ c.enumerate.ensures.uses.spends.0
    (enumeration_most c.args.port.port (askable_wide c.args.port.port c.requires.port.askable))))
    (rw (← c.self.view_is, t, c.duplicate.ensures, c.in_ok-enter.ensures.given) (keeps_entered
    c.args.path.now c.self.inside.table.entries c.in_ok-finding.finding c.enumerate.new.pool
    c.self.inside.numbers
    c.in_ok-enter.ensures.numbers.long c.self.invariant.accounts c.in_ok-finding.ensures.pool))
    (λ off. tt) (first_of (search rules, grind (arith, common_steps)))
