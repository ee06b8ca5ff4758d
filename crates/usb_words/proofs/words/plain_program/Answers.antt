use Rattle.std.proofs.Common.{◌∙◌, ap, true}
use Rattle.clap.specs.Simple.{App, app_of_fields}
use Rattle.usb_words.proofs.words.plain_program.Goals as goal

abbrev unnamed : App → App
unnamed a = record a { top = record a.top { no_binary_name = true } }

abbrev versioned : App → App
versioned a = record a { top = record a.top { has_version = true } }

pub returns : goal.returns
returns c =
    let named = ap app_of_fields c.in_ok-named.ensures.0 ∙ c.new.ensures.app in
    let plain = ap app_of_fields c.no_binary_name.ensures ∙ ap unnamed named in
    ap app_of_fields c.after_help.ensures ∙ ap app_of_fields c.about.ensures
    ∙ ap app_of_fields c.version.ensures ∙ ap versioned plain
