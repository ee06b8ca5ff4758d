use Rattle.std.proofs.Common.{◌∙◌, refl, sym, subst, Some, None}
use Rattle.clap.specs.Matches.{found_of, one_text}
use Rattle.clap.specs.Walk.{rows_of}
use Rattle.clap.proofs.WalkLemmas.{first_value-rows, one_text-rows}
use Rattle.usb_words.specs.{GivesNumber}
use Rattle.usb_words.proofs.Numbers.{first_none, number_text}
use Rattle.usb_words.proofs.words.number_of.Goals as goal

pub returns-in-Some : goal.returns-in-Some
returns-in-Some c =
    let found = found_of c.args.found.now in
    let id = c.args.id.now in
    let text = number_text (one_text found id) c.get_one.result c.in-Some.number
    c.get_one.ensures.none c.in-Some.is in
    let read = c.in-Some.ensures.value text.0 text.1 in
    subst (λ o. GivesNumber o (Some c.in-Some.number)) (sym text.1 ∙ one_text-rows found id)
    (read.0.0.0, read.0.1)

pub returns-in-None : goal.returns-in-None
returns-in-None c =
    let found = found_of c.args.found.now in
    let id = c.args.id.now in
    let none = sym (first_value-rows found id) ∙ sym c.in-None.ensures in
    subst (λ o. GivesNumber o None) (sym (first_none id (rows_of found) none)) refl
