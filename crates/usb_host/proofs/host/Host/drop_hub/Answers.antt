use Rattle.std.proofs.Common.{rules, Err, ◌≡◌, ◌∙◌, inr, ap, arith, refl, sym, subst, IsSome}
use Rattle.std.proofs.lemmas.Grind.{common_steps}
use Rattle.usb_host.proofs.PartCalls.{call_within, call_fails, call_forgets, call_stands, call_then}
use Rattle.usb_host.proofs.StepSums.{handed_is}
use Rattle.usb_host.specs.{DropsOne, HostState, is_last_fault, table_in}
use Rattle.std.proofs.lemmas.Result.{err_from_is_err_and}
use Rattle.usb_enum.specs.{Lost}
use Rattle.usb_enum.specs.declared.finding.Finding.TheVariants.{Refused}
use Rattle.usb_table.specs.{without, Table, entered}
use Rattle.usb_table.proofs.Interface.{known_port-without}
use Rattle.usb_host.proofs.entries.Agreements.{nested_entered, rises_entered, accounts_entered}
use Rattle.usb_host.proofs.PortDrops.{drop_done, drop_unlisted, drop_untold}
use Rattle.usb_host.proofs.entries.KeptBytes.{found_entered}
use Rattle.usb_host.proofs.Looks.{drops_gone, drops_listed, drops_none, part_final}
use Rattle.usb_host.proofs.arrivals.KeptNumbers.{keeps_by, keeps_refused}
use Rattle.usb_host.proofs.host.Host.drop_hub.Goals as goal

pub invariant_of-self-2 : goal.invariant_of-self-2
invariant_of-self-2 g c =
    let path = c.in_ok-lost.lost in
    let f = c.forget.ensures in
    let away = rw (← c.self.view_is) at f.gone in
    let left : c.self.inside.table.entries ≡ without path c.args.self.now.entries =
    ap (λ (h : HostState). h.entries) c.self.view_is ∙ f.rest ∙ ap
    (λ (h : HostState). without path h.entries) c.in_ok-lost.ensures.rests in
    let known = rw (← left) at (subst IsSome (sym (known_port-without path c.args.self.now.entries))
    c.in_ok-lost.ensures.on.known)
    in
    rw c.in_ok-insert.ensures.ok (record {
      rises = rises_entered path (Refused Lost) c.self.inside.table.entries c.self.invariant.rises;
      range = c.self.invariant.range;
      accounts = accounts_entered path (Refused Lost) c.self.invariant.accounts away refl;
      nested = nested_entered path (Refused Lost) c.numbers-numbers.ensures.path away known
          c.self.invariant.nested;
      found = found_entered path (Refused Lost) away (λ port at. (c.self.inside.pool, inr tt))
          c.self.invariant.found;
    })

pub returns-in_err-lost : goal.returns-in_err-lost
returns-in_err-lost g c = record {
  call = call_fails c.from_residual.ensures.1 c.in_err-lost.ensures.call (omega arith);
  near =
      let told = err_from_is_err_and c.from_residual.result c.from_residual.ensures.1 in
      rw told.1 (drops_none c.args.hub
      (ap (λ (h : HostState). h.entries) c.in_err-lost.ensures.rests)
      (part_final g.B.Bus.modelled told.0 c.disable_upward.new.self
      (rw told.2 c.in_err-lost.ensures.call.told)));
  drops = λ known.
      rw (handed_is c.from_residual.ensures.1) (drop_untold c.args.hub c.in_err-lost.ensures.rests
      (c.in_err-lost.ensures.climbs known));
}

pub returns-in_err-insert : goal.returns-in_err-insert
returns-in_err-insert g c = record {
  call = call_within (call_then c.in_ok-lost.ensures.call (call_then {n = 0}
      (call_forgets c.forget.ensures) (rw (← c.self.view_is) (call_stands refl refl
      (keeps_by (ap (λ (t : Table). t.entries) c.in_err-insert.ensures.err) refl refl refl)
      (first_of (search rules, grind (arith, common_steps))))))) (omega arith);
  near =
      let told = err_from_is_err_and c.from_residual-in_err-insert.result
      c.from_residual-in_err-insert.ensures.1 in
      let same = ap (λ (t : Table). t.entries) c.in_err-insert.ensures.err
      ∙ ap (λ (h : HostState). h.entries) c.self.view_is ∙ c.forget.ensures.rest
      ∙ ap (λ (h : HostState). without c.in_ok-lost.lost h.entries) c.in_ok-lost.ensures.rests in
      rw told.1 (drops_gone c.in_ok-lost.lost c.args.self.now.entries c.in_ok-lost.ensures.on.above
      same (ap is_last_fault told.2));
  drops = λ known.
      let told = err_from_is_err_and c.from_residual-in_err-insert.result
      c.from_residual-in_err-insert.ensures.1 in
      let table = c.in_err-insert.ensures.err ∙ ap (λ (h : HostState). table_in h) c.self.view_is in
      let same = ap (λ (h : HostState). record h {
        entries = c.insert.new.self.entries;
        pipes = c.insert.new.self.pipes;
      }) c.self.view_is ∙ ap (λ (t : Table). record c.forget.new.self {
        entries = t.entries;
        pipes = t.pipes;
      }) table in
      rw told.1 (subst (DropsOne c.args.hub c.args.self.now (Err told.0)) (sym same)
      (drop_unlisted c.in_ok-lost.ensures.rests (c.in_ok-lost.ensures.climbs known)
      c.forget.ensures));
}

pub returns : goal.returns
returns g c = record {
  call = call_within (call_then c.in_ok-lost.ensures.call (call_then {n = 0}
      (call_forgets c.forget.ensures) (rw (← c.self.view_is) (call_stands refl refl
      (keeps_refused c.in_ok-lost.lost c.self.inside.table.entries Lost refl
      (ap (λ (t : Table). t.entries) c.in_ok-insert.ensures.ok) refl refl refl) tt))))
      (omega arith);
  near =
      let gone = ap (λ (h : HostState). h.entries) c.self.view_is ∙ c.forget.ensures.rest
      ∙ ap (λ (h : HostState). without c.in_ok-lost.lost h.entries) c.in_ok-lost.ensures.rests in
      drops_listed c.in_ok-lost.lost c.args.self.now.entries c.self.inside.table.entries _
      c.in_ok-lost.ensures.on.above gone
      (ap (λ (t : Table). t.entries) c.in_ok-insert.ensures.ok);
  drops = λ known.
      let others = ap (λ (h : HostState). record h {
        entries = c.insert.new.self.entries;
        pipes = c.insert.new.self.pipes;
        addresses = c.self.inside.pool;
      }) c.self.view_is in
      let table = c.in_ok-insert.ensures.ok ∙ ap
      (λ (h : HostState). entered c.in_ok-lost.lost (Refused Lost) c.new.result (table_in h))
      c.self.view_is in
      drop_done c.in_ok-lost.ensures.rests (c.in_ok-lost.ensures.climbs known) c.forget.ensures _
      others c.numbers-numbers.ensures.path _ table;
}
