-- How a call goes over what was heard.
use Rattle.std.proofs.Common.{◌≡◌, ℕ, ◌≤◌, inl, inr, List, length, Option, Some}
use Rattle.std.proofs.Common.{None}
use Rattle.std.proofs.Common.{slice_get, refl, sym, subst, ap, arith}
use Rattle.std.proofs.Common.{◌∙◌}
use Rattle.std.proofs.lemmas.Option.{same_Some, slice_get_cases, slice_get_within}
use Rattle.usb_dialogue.specs.{Hears, IsQuestion, asked_on, attempts_in, begun_at, next_answer}
use Rattle.usb_dialogue.specs.{with_answer, Answer, Question}
use Rattle.usb_dialogue.specs.declared.progress.Progress.{Progress}
use Rattle.usb_dialogue.specs.declared.question.Question.TheVariants.{Attempt, Set, Clear, Restart}
use Rattle.usb_dialogue.specs.declared.question.Question.TheVariants.{Ins}

-- no answer is used that there is not; and if a question waits, all were used
pub record Within (answers : List Answer) (p : Progress) : Type 0 where
  pub few : p.used ≤ length answers
  pub counted : p.attempts ≤ p.used
  pub all : (q : Question) → p.asked ≡ Some q → p.used ≡ length answers

one_attempt : (q : Question) → attempts_in q ≤ 1
one_attempt (Attempt a) = omega arith
one_attempt (Set port feature) = omega arith
one_attempt (Clear port feature) = omega arith
one_attempt (Restart address endpoint) = omega arith
one_attempt (Ins to toggle most) = omega arith

abbrev progress : ℕ → List (List ℕ) → ℕ → Option Question → Progress
progress used statuses attempts asked =
    record { used = used; statuses = statuses; attempts = attempts; asked = asked }

answered : (answers : List Answer) (used : ℕ) (statuses : List (List ℕ)) (attempts : ℕ)
    (q : Question) → used ≤ length answers → attempts ≤ used → (o : Option Answer)
    → slice_get answers used ≡ o
    → Within answers (with_answer o q (progress used statuses attempts None))
answered answers used statuses attempts q few counted (Some a) e =
    let less = slice_get_within answers used a e in
    let one = one_attempt q in
    record {
      few = omega (arith, less);
      counted = omega (arith, one);
      all = λ r h. cc;
    }
answered answers used statuses attempts q few counted None e =
    let cases = slice_get_cases answers used in
    let past : length answers ≤ used = elim (cases.1) as (λ x. length answers ≤ used) [
      | inl there ↦ let h = there.2 in cc
      | inr past ↦ past.0
    ] in
    record { few = few; counted = counted; all = λ r h. omega arith }

asked_within : (answers : List Answer) (used : ℕ) (statuses : List (List ℕ)) (attempts : ℕ)
    (asked : Option Question) (q : Question)
    → Within answers (progress used statuses attempts asked)
    → Within answers (asked_on answers (progress used statuses attempts asked) q)
asked_within answers used statuses attempts (Some r) q w = w
asked_within answers used statuses attempts None q w =
    answered answers used statuses attempts q w.few w.counted (slice_get answers used) refl

pub within_heard : {roots : ℕ} {begun : List (List ℕ)} {answers : List Answer} {p : Progress}
    → Hears roots begun answers p → Within answers p
within_heard Hears.begins = record { few = omega arith; counted = omega arith; all = λ q h. cc }
within_heard {answers = answers} (Hears.asks {p} q h is) =
    asked_within answers p.used p.statuses p.attempts p.asked q (within_heard h)

-- ---- one question

asked_with : (roots used : ℕ) (statuses : List (List ℕ)) (attempts : ℕ) (o : Option Answer)
    (r : Question) → IsQuestion roots r → (q : Question)
    → (with_answer o r (progress used statuses attempts None)).asked ≡ Some q
    → IsQuestion roots q
asked_with roots used statuses attempts (Some a) r is q e = cc
asked_with roots used statuses attempts None r is q e =
    subst (IsQuestion roots) (same_Some r q e) is

asked_is : (roots used : ℕ) (statuses : List (List ℕ)) (attempts : ℕ) (asked : Option Question)
    (answers : List Answer) (r : Question)
    → ((q : Question) → asked ≡ Some q → IsQuestion roots q) → IsQuestion roots r → (q : Question)
    → (asked_on answers (progress used statuses attempts asked) r).asked ≡ Some q
    → IsQuestion roots q
asked_is roots used statuses attempts (Some x) answers r before is q e = before q e
asked_is roots used statuses attempts None answers r before is q e =
    asked_with roots used statuses attempts (slice_get answers used) r is q e

-- the question that waits is one that a controller may be asked
pub question_asked : {roots : ℕ} {begun : List (List ℕ)} {answers : List Answer} {p : Progress}
    → Hears roots begun answers p → (q : Question) → p.asked ≡ Some q → IsQuestion roots q
question_asked Hears.begins q e = cc
question_asked {roots = roots} {answers = answers} (Hears.asks {p} r h is) q e =
    asked_is roots p.used p.statuses p.attempts p.asked answers r (question_asked h) is q e

with_counted : (o : Option Answer) (q : Question) (p : Progress) → p.attempts ≤ p.used
    → (with_answer o q p).attempts ≤ (with_answer o q p).used
with_counted (Some a) q p h = let one = one_attempt q in omega (arith, one, h)
with_counted None q p h = h

pub counted_on : (answers : List Answer) (p : Progress) (q : Question) → p.attempts ≤ p.used
    → (asked_on answers p q).attempts ≤ (asked_on answers p q).used
counted_on answers p q h = with_counted (next_answer p.asked answers p.used) q p h

-- a question goes on with a call
pub heard_on : (roots : ℕ) (begun : List (List ℕ)) (answers heard : List Answer)
    (old new : Progress) (q : Question) → heard ≡ answers
    → new ≡ asked_on heard old q → IsQuestion roots q
    → Hears roots begun answers old → Hears roots begun answers new
heard_on roots begun answers heard old new q same e is h =
    let all : new ≡ asked_on answers old q = e ∙ ap (λ (x : List Answer). asked_on x old q) same in
    subst (Hears roots begun answers) (sym all) (Hears.asks q h is)

-- a call begins
pub begun_on : (roots : ℕ) (begun : List (List ℕ)) (answers : List Answer)
    (statuses : List (List ℕ)) (p : Progress) → p ≡ begun_at statuses
    → statuses ≡ begun → Hears roots begun answers p
begun_on roots begun answers statuses p e same =
    let all : p ≡ begun_at begun = e ∙ ap (λ (s : List (List ℕ)). begun_at s) same in
    subst (Hears roots begun answers) (sym all) Hears.begins
