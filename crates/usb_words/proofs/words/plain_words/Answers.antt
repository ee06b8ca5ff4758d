use Rattle.std.proofs.Common.{◌≡◌, ◌∙◌, sym, ap, ℕ, List, Some, None, option_map, codes}
use Rattle.clap.specs.Walk.{Row, Text, one_of, rows_of}
use Rattle.clap.specs.Matches.{first_value, found_of, one_text, subcommand_name_of}
use Rattle.clap.specs.Simple.{subcommand_of, subcommand_rows, subcommand_rows_of}
use Rattle.clap.specs.declared.parser.matches.ArgMatches.{ArgMatches}
use Rattle.clap.specs.declared.parser.matches.ArgMatches.TheViews.{out-ArgMatches, out-SubCommand}
use Rattle.std.specs.Box.{box_value}
use Rattle.clap.proofs.WalkLemmas.{first_value-rows, one_text-rows}
use Rattle.usb_words.specs.{HasSubcommand, program_app}
use Rattle.usb_words.proofs.words.plain_words.Goals as goal

-- the subcommand's name and rows as one pair
pair_of : (m : ArgMatches) (n : Text) (rows : List Row) → Some n ≡ subcommand_name_of m
    → Some rows ≡ option_map (λ p. p.1) (subcommand_rows_of m)
    → subcommand_rows_of m ≡ Some (n, rows)
pair_of m n rows a b =
    elim (out-ArgMatches m).subcommand
    as (λ o. Some n ≡ option_map (λ b. (out-SubCommand (box_value b)).name.now) o
    → Some rows ≡ option_map (λ p. p.1) (subcommand_rows o) → subcommand_rows o ≡ Some (n, rows)) [
      | None ↦ λ x y. cc
      | Some s ↦ λ x y. cc
    ] a b

-- what is read of words that have a subcommand with one text
command_of : (m found : ArgMatches) (name text : List ℕ) → Some name ≡ subcommand_name_of m
    → Some (rows_of (found_of found)) ≡ option_map (λ p. p.1) (subcommand_rows_of m)
    → Some text ≡ first_value (found_of found) (codes "text")
    → (words : List Text) → subcommand_rows_of m ≡ subcommand_of program_app words
    → HasSubcommand words name text
command_of m found name text named rows value words read = record {
  rows = rows_of (found_of found);
  subcommand = sym read ∙ pair_of m name (rows_of (found_of found)) named rows;
  value = sym (first_value-rows (found_of found) (codes "text")) ∙ sym value;
}

pub returns-in_ok-get_str-in-Some-packet-default : goal.returns-in_ok-get_str-in-Some-packet-default
returns-in_ok-get_str-in-Some-packet-default c =
    let arm = c.in-Some-packet-default in
    command_of c.args.matches.now arm.found.now (codes "packet") _ (sym (ap Some arm.is-packet)
    ∙ arm.ensures.name) arm.ensures.rows c.in_ok-get_str-in-Some-packet-default.ensures

pub returns-in_ok-get_str-in-Some-check-default : goal.returns-in_ok-get_str-in-Some-check-default
returns-in_ok-get_str-in-Some-check-default c =
    let arm = c.in-Some-check-default in
    command_of c.args.matches.now arm.found.now (codes "check") _ (sym (ap Some arm.is-check)
    ∙ arm.ensures.name) arm.ensures.rows c.in_ok-get_str-in-Some-check-default.ensures

pub returns-in_ok-get_str-in-Some-tree-default : goal.returns-in_ok-get_str-in-Some-tree-default
returns-in_ok-get_str-in-Some-tree-default c =
    let arm = c.in-Some-tree-default in
    command_of c.args.matches.now arm.found.now (codes "tree") _ (sym (ap Some arm.is-tree)
    ∙ arm.ensures.name) arm.ensures.rows c.in_ok-get_str-in-Some-tree-default.ensures

pub returns-in_ok-get_str-in-Some-draw-default : goal.returns-in_ok-get_str-in-Some-draw-default
unfolding command_of
returns-in_ok-get_str-in-Some-draw-default c = λ words read.
    let arm = c.in-Some-draw-default in
    let found = found_of arm.found.now in
    let flag : one_text found (codes "ascii") ≡ one_of (codes "ascii") (rows_of found) =
    one_text-rows found (codes "ascii") in
    record {
      command = command_of c.args.matches.now arm.found.now (codes "draw") _
          (sym (ap Some arm.is-draw) ∙ arm.ensures.name) arm.ensures.rows
          c.in_ok-get_str-in-Some-draw-default.ensures words read;
      given = λ is. c.get_flag.ensures.value (flag ∙ is);
      left_out = λ is. c.get_flag.ensures.other (flag ∙ is);
      absent = λ is. c.get_flag.ensures.none (flag ∙ is);
    }

pub returns-in_ok-get_str-in-Some-run-default : goal.returns-in_ok-get_str-in-Some-run-default
returns-in_ok-get_str-in-Some-run-default c =
    let arm = c.in-Some-run-default in
    command_of c.args.matches.now arm.found.now (codes "run") _ (sym (ap Some arm.is-run)
    ∙ arm.ensures.name) arm.ensures.rows c.in_ok-get_str-in-Some-run-default.ensures

pub returns-in_ok-get_str-in-Some-page-default : goal.returns-in_ok-get_str-in-Some-page-default
returns-in_ok-get_str-in-Some-page-default c =
    let arm = c.in-Some-page-default in
    command_of c.args.matches.now arm.found.now (codes "page") _ (sym (ap Some arm.is-page)
    ∙ arm.ensures.name) arm.ensures.rows c.in_ok-get_str-in-Some-page-default.ensures

pub returns-in_ok-get_str-in-Some-pcap-default : goal.returns-in_ok-get_str-in-Some-pcap-default
returns-in_ok-get_str-in-Some-pcap-default c =
    let arm = c.in-Some-pcap-default in
    command_of c.args.matches.now arm.found.now (codes "pcap") _ (sym (ap Some arm.is-pcap)
    ∙ arm.ensures.name) arm.ensures.rows c.in_ok-get_str-in-Some-pcap-default.ensures

pub returns-in_ok-far_words-in-Some-far-default : goal.returns-in_ok-far_words-in-Some-far-default
returns-in_ok-far_words-in-Some-far-default c = λ words read.
    let arm = c.in-Some-far-default in
    record {
      rows = rows_of (found_of arm.found.now);
      subcommand = sym read ∙ pair_of c.args.matches.now (codes "far")
          (rows_of (found_of arm.found.now)) (sym (ap Some arm.is-far) ∙ arm.ensures.name)
          arm.ensures.rows;
      far = c.in_ok-far_words-in-Some-far-default.ensures;
    }
