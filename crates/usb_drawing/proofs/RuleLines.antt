-- No rule that is told has a newline.
use Rattle.std.proofs.Common.{refl, ℕ, Bool, List, Option, None, Some}
use Rattle.usb_descriptor.specs.{DescriptorFault}
use Rattle.usb_descriptor.specs.declared.fault.DescriptorFault.TheVariants as flaw
use Rattle.usb_device.specs.{Spec}
use Rattle.usb_enum.specs.{Cause, Finding}
use Rattle.usb_enum.specs.declared.finding.Finding.TheVariants.{Device, Refused}
use Rattle.usb_remarks.specs.{Remark, TextRemark, device_words, endpoint_words, head_words}
use Rattle.usb_remarks.specs.{hub_words, item_words, key_words, lacking_words, remark_of}
use Rattle.usb_remarks.specs.{remark_words, text_words}
use Rattle.usb_remarks.specs.declared.remark.Remark.TheVariants as remark
use Rattle.usb_remarks.specs.declared.text.TextRemark.TheVariants as part
use Rattle.usb_drawing.specs.{rule_if, rule_of, rule_text}
use Rattle.usb_drawing.proofs.NoLineFeeds.{HasNoLineFeed, unbroken}

device : (low : Bool) (bytes : List ℕ) (fault : DescriptorFault)
    → HasNoLineFeed (device_words low bytes fault)
device low bytes flaw.Short = search unbroken
device low bytes _ = search unbroken

head : (text : List ℕ) (fault : DescriptorFault) → HasNoLineFeed (head_words text fault)
head text flaw.Short = search unbroken
head text _ = search unbroken

item : (text : List ℕ) (at : ℕ) (fault : DescriptorFault) → HasNoLineFeed (item_words text at fault)
item text at flaw.Total = search unbroken depth 7
item text at _ = search unbroken

in_text : (text : List ℕ) (t : TextRemark) → HasNoLineFeed (text_words text t)
in_text text (part.Head fault) = head text fault
in_text text part.Cut = search unbroken depth 9
in_text text (part.Item at fault) = item text at fault

hub : (wide : Bool) (bytes : List ℕ) (fault : DescriptorFault)
    → HasNoLineFeed (hub_words wide bytes fault)
unfolding hub_words
hub wide bytes flaw.Short = search unbroken depth 9
hub wide bytes _ = search unbroken depth 9

endpoint : (wide many : Bool) (at : ℕ) (e : List ℕ) → HasNoLineFeed (endpoint_words wide many at e)
unfolding endpoint_words
endpoint wide many at e = search unbroken depth 9

lacking : (wide many : Bool) (text : List ℕ) (o : Option ℕ)
    → HasNoLineFeed (lacking_words wide many text o)
lacking wide many text None = search unbroken
lacking wide many text (Some at) = search endpoint

told : (wide : Bool) (spec : Spec) (r : Remark) → HasNoLineFeed (remark_words wide spec r)
unfolding remark_words key_words
told wide spec (remark.Device fault) = search (unbroken, device)
told wide spec (remark.Text n t) = search (unbroken, in_text)
told wide spec (remark.Hub fault) = search (unbroken, hub)
told wide spec remark.Status = search (unbroken, lacking)
told wide spec _ = search unbroken depth 9

-- What is drawn

if_told : (wide : Bool) (spec : Spec) (cause : Cause) (r : Option Remark)
    → HasNoLineFeed (rule_if wide spec cause r)
if_told wide spec cause None = refl
if_told wide spec cause (Some r) = search (unbroken, told)

of_plugged : (wide : Bool) (spec : Option Spec) (cause : Cause)
    → HasNoLineFeed (rule_of wide spec cause)
of_plugged wide None cause = refl
of_plugged wide (Some spec) cause = if_told wide spec cause (remark_of wide spec)

pub rule_unbroken : (wide : Bool) (spec : Option Spec) (finding : Finding)
    → HasNoLineFeed (rule_text wide spec finding)
rule_unbroken wide spec (Device d) = refl
rule_unbroken wide spec (Refused cause) = of_plugged wide spec cause
