use Rattle.std.proofs.Common.{◌≡◌, ◌∙◌, ◌≤◌, arith, drop, length, rules, take}
use Rattle.usb_dialogue.proofs.WantLaws.{want_joined, want_split}
use Rattle.usb_dialogue.proofs.want.want_in.Goals as goal

pub returns-in-Some-want_of-clause-read : goal.returns-in-Some-want_of-clause-read
returns-in-Some-want_of-clause-read c =
    let bytes = c.args.bytes.now in
    let first : c.in-Some.head.now ≡ take 24 bytes = search rules in
    let second : c.in-Some-split_first_chunk.statuses.now ≡ take 28 (drop 24 bytes) =
    search rules in
    let rest : c.in-Some-split_first_chunk.sent.now ≡ drop 28 (drop 24 bytes) = search rules in
    let third : c.new-sent.result ≡ drop 28 (drop 24 bytes) =
    c.new-sent.ensures ∙ c.in_ok-from_slice.ensures.items ∙ rest in
    want_joined bytes c.in-Some.head.now c.in-Some-split_first_chunk.statuses.now c.new-sent.result
    first second third c.in-Some-want_of.want c.in-Some-want_of.ensures.some c.statuses_of.result
    c.statuses_of.ensures.bytes c.statuses_of.ensures.are

pub returns-in-None-clause-cause : goal.returns-in-None-clause-cause
returns-in-None-clause-cause c =
    let bytes = c.args.bytes.now in
    let first : c.in-Some.head.now ≡ take 24 bytes = search rules in
    let rest : c.in-Some-split_first_chunk.sent.now ≡ drop 28 (drop 24 bytes) = search rules in
    let third : c.new-sent.result ≡ drop 28 (drop 24 bytes) =
    c.new-sent.ensures ∙ c.in_ok-from_slice.ensures.items ∙ rest in
    let one = c.in-Some.ensures.cases in
    let two = c.in-Some-split_first_chunk.ensures.cases in
    let long : 52 ≤ length bytes = omega (arith, one, two) in (
      long,
      λ want statuses it. c.in-None.ensures.none want
          (want_split bytes c.in-Some.head.now c.new-sent.result first third want statuses it),
    )
