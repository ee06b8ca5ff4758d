use Rattle.std.proofs.Common.{◌∙◌, sym}
use Rattle.usb_pcap.proofs.Captures.{attempt_records, long_refused, none_refused, plug_records}
use Rattle.usb_pcap.proofs.Captures.{report_records}
use Rattle.usb_pcap.proofs.capturing.line_records.Goals as goal

pub returns-then-is_shown_plug : goal.returns-then-is_shown_plug
returns-then-is_shown_plug c = λ line e long shown. plug_records _ line _ _ e
    shown (sym c.is_shown_plug.ensures ∙ c.if-is_shown_plug.true) c.new.ensures

pub returns-then-is_long : goal.returns-then-is_long
returns-then-is_long c = λ line e long shown. long_refused _ line _ _ e long c.if-is_long.true
    shown (sym c.is_shown_plug.ensures ∙ c.if-is_shown_plug.false)

pub returns-then-is_report : goal.returns-then-is_report
returns-then-is_report c = λ line e long shown. report_records _ line _ _ e long c.if-is_long.false
    (sym c.is_report.ensures ∙ c.if-is_report.true) c.new-then-is_report.ensures

pub returns-in-Some : goal.returns-in-Some
returns-in-Some c = λ line e long shown. attempt_records _ line _ _ _ e long c.if-is_long.false
    c.in-Some.ensures.found c.records_of.ensures

pub returns-in-None : goal.returns-in-None
returns-in-None c = λ line e long shown.
    none_refused _ line _ _ e long c.if-is_long.false
    shown (sym c.is_shown_plug.ensures ∙ c.if-is_shown_plug.false)
    (sym c.is_report.ensures ∙ c.if-is_report.false) c.in-None.ensures.each
