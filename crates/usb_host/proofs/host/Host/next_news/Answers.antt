use Rattle.std.proofs.Common.{◌∙◌, ◌+◌, ap, refl, subst, sym, length, List, ℕ}
use Rattle.std.specs.BTreeMap.{insert_entry, is_at}
use Rattle.std.specs.Map.{remove_entry}
use Rattle.usb_port.specs.{path_cmp}
use Rattle.usb_host.specs.{Agrees, HostState, ReportedDevices, known_in}
use Rattle.usb_host.proofs.arrivals.News.{host_room, left_first, none_left, same_known}
use Rattle.usb_host.proofs.arrivals.News.{fewer_arrived, fewer_left}
use Rattle.usb_host.proofs.arrivals.KeptNumbers.{numbers_fit}
use Rattle.usb_host.proofs.host.Host.next_news.Goals as goal

pub returns-in-Some-clause-reports : goal.returns-in-Some-clause-reports
returns-in-Some-clause-reports g c =
    let same = ap (λ (h : HostState). h.reported) c.self.view_is in
    let path = c.take.result in
    record {
      left = left_first (known_in c.args.self.now) c.first_left.ensures.rises c.in-Some.place
          c.in-Some.ensures.some path c.take.ensures.takes.number (rw same at
          c.take.ensures.takes.at);
      rest = ap (λ (h : HostState). record h { reported = c.take.new.self }) c.self.view_is
          ∙ ap (λ (rs : ReportedDevices). record c.args.self.now { reported = rs })
          (c.take.ensures.takes.rest ∙ ap (λ (rs : ReportedDevices).
          remove_entry (is_at (path_cmp path)) rs) same);
    }

pub returns-in-Some-clause-numbers : goal.returns-in-Some-clause-numbers
returns-in-Some-clause-numbers g c =
    rw (← c.self.view_is) (numbers_fit _ c.self.inside.pool c.has_next-more.ensures.numbers
    c.self.invariant.accounts c.self.invariant.range)

pub enter-requires-clause-room : goal.enter-requires-clause-room
enter-requires-clause-room g c =
    rw (ap (λ (h : HostState). h.reported) c.self.view_is) (host_room c.args.self.now
    (subst (λ (h : HostState). Agrees h.options h.entries h.addresses) c.self.view_is
    c.self.invariant)
    c.first_left.ensures.rises c.in_default.ensures.none c.in-Some-next_unreported.path
    c.in-Some-next_unreported.ensures.some.arrived.is)

pub returns-in-Some-next_unreported-clause-reports :
    goal.returns-in-Some-next_unreported-clause-reports
returns-in-Some-next_unreported-clause-reports g c =
    let same = ap (λ (h : HostState). h.reported) c.self.view_is in
    let x = c.in-Some-next_unreported.ensures.some in
    let path = c.in-Some-next_unreported.path in
    let number = c.in-Some-next_unreported.number in
    record {
      none = none_left (known_in c.args.self.now) c.first_left.ensures.rises
          c.in_default.ensures.none;
      arrived = x.arrived;
      rest = ap (λ (h : HostState). record h { reported = c.enter.new.self }) c.self.view_is
          ∙ ap (λ (rs : ReportedDevices). record c.args.self.now { reported = rs })
          (c.enter.ensures.value
          ∙ ap (λ (rs : ReportedDevices). insert_entry path_cmp rs c.duplicate.result number) same
          ∙ ap (λ (p : List ℕ). insert_entry path_cmp c.args.self.now.reported p number)
          c.duplicate.ensures
          ∙ ap (λ (n : ℕ). insert_entry path_cmp c.args.self.now.reported path n) (sym x.number));
    }

pub returns-in-Some-next_unreported-clause-numbers :
    goal.returns-in-Some-next_unreported-clause-numbers
returns-in-Some-next_unreported-clause-numbers g c =
    rw (← c.self.view_is) (numbers_fit _ c.self.inside.pool c.has_next-more.ensures.numbers
    c.self.invariant.accounts c.self.invariant.range)

pub returns-in-None-clause-reports : goal.returns-in-None-clause-reports
returns-in-None-clause-reports g c = record {
  same = same_known (known_in c.args.self.now) c.first_left.ensures.rises
      c.in_default.ensures.none c.in-None.ensures.none;
  rest = refl;
}

pub returns-in-None-clause-numbers : goal.returns-in-None-clause-numbers
returns-in-None-clause-numbers g c =
    rw (← c.self.view_is) (numbers_fit _ c.self.inside.pool c.has_next-more.ensures.numbers
    c.self.invariant.accounts c.self.invariant.range)

pub returns-in-Some-clause-fewer : goal.returns-in-Some-clause-fewer
returns-in-Some-clause-fewer g c =
    fewer_left (returns-in-Some-clause-reports g c) c.in-Some.place c.in-Some.ensures.some
    (c.take.ensures.len ∙ ap (λ (h : HostState). length h.reported) c.self.view_is)

pub returns-in-Some-next_unreported-clause-fewer :
    goal.returns-in-Some-next_unreported-clause-fewer
returns-in-Some-next_unreported-clause-fewer g c =
    let same = ap (λ (h : HostState). length h.reported) c.self.view_is in
    fewer_arrived (returns-in-Some-next_unreported-clause-reports g c) c.in_default.ensures.none
    (c.enter.ensures.len ∙ ap (λ (n : ℕ). n + 1) same)
    (host_room c.args.self.now (subst (λ (h : HostState). Agrees h.options h.entries h.addresses)
    c.self.view_is c.self.invariant) c.first_left.ensures.rises c.in_default.ensures.none
    c.in-Some-next_unreported.path c.in-Some-next_unreported.ensures.some.arrived.is)
