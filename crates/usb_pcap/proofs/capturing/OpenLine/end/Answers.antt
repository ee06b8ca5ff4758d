use Rattle.std.proofs.Common.{sym, ◌∙◌}
use Rattle.usb_pcap.proofs.Captures.{ended_bare, ended_early, ended_well, no_items, some_items}
use Rattle.usb_pcap.proofs.capturing.OpenLine.end.Goals as goal

pub returns-then-not-is_empty-clause-captures : goal.returns-then-not-is_empty-clause-captures
returns-then-not-is_empty-clause-captures c =
    λ w now text h. ended_early w _ _ _
    (some_items _ (sym c.is_empty.ensures ∙ c.if-not-is_empty.true)) h

pub returns-then-self-clause-captures : goal.returns-then-self-clause-captures
returns-then-self-clause-captures c =
    λ w now text h. ended_well w _ _ _
    (no_items _ (sym c.is_empty.ensures ∙ c.if-not-is_empty.false)) c.if-self.true h

pub returns-else-self-clause-captures : goal.returns-else-self-clause-captures
returns-else-self-clause-captures c =
    λ w now text h. ended_bare w _ _ _
    (no_items _ (sym c.is_empty.ensures ∙ c.if-not-is_empty.false)) c.if-self.false h
