-- What is kept of an endpoint after a run.
use mathlib.Core.Bool.{or-false}
use Rattle.std.proofs.Common.{◌≡◌, ◌==◌, ◌&&◌, ◌||◌, ℕ, List, [], ◌∷◌, ◌++◌, map, refl, sym, ap}
use Rattle.std.proofs.Common.{◌∙◌, Bool, true, false, cond, not, Option, None, Some}
use Rattle.std.specs.Prelude.{option_map}
use Rattle.std.specs.List.{list_any}
use Rattle.std.proofs.lemmas.Bool.{and_parts, eqb-true}
use Rattle.std.proofs.lemmas.List.Folds.{list_any-append}
use Rattle.usb_packet.specs.{Toggle}
use Rattle.usb_world.specs.{Outcome}
use Rattle.usb_world.specs.declared.types.Attempt.{Attempt}
use Rattle.usb_world.specs.declared.types.Attempt.TheVariants.{Setup, Out, In}
use Rattle.usb_world.specs.declared.types.Outcome.TheVariants as outcome
use Rattle.usb_judge.specs.declared.outs.Unanswered.{Unanswered}
use Rattle.usb_judge.specs.{Keeps, Made, after_answer, after_got, after_packet, after_setup}
use Rattle.usb_judge.specs.{after_token, is_of, is_with, left_after, left_by, passes, said_at}
use Rattle.usb_judge.specs.{toggle_forgotten, without}

abbrev pub Test : Type 0
Test = Option Toggle → Bool

-- One more at the end

any_end : (p : Unanswered → Bool) (xs : List Unanswered) (u : Unanswered)
    → list_any p (xs ++ u ∷ []) ≡ (list_any p xs || p u)
any_end p xs u = list_any-append p xs (u ∷ [])
    ∙ ap (λ (b : Bool). list_any p xs || b) (or-false (p u))

-- Those of an endpoint removed

own_by : (a n : ℕ) (q : Test) (x : Unanswered) (xs : List Unanswered) (b : Bool)
    → is_of a n x ≡ b → list_any (is_with a n q) (without a n xs) ≡ false
    → list_any (is_with a n q) (cond (not b) (x ∷ without a n xs) (without a n xs)) ≡ false
own_by a n q x xs true e more = more
own_by a n q x xs false e more =
    ap (λ (b : Bool). (b && q x.toggle) || list_any (is_with a n q) (without a n xs)) e ∙ more

without_own : (a n : ℕ) (q : Test) (xs : List Unanswered)
    → list_any (is_with a n q) (without a n xs) ≡ false
without_own a n q [] = refl
without_own a n q (x ∷ xs) = own_by a n q x xs (is_of a n x) refl (without_own a n q xs)

abbrev pub Apart : ℕ → ℕ → ℕ → ℕ → Type 0
Apart a n b m = (x : Unanswered) → is_of b m x ≡ true → is_of a n x ≡ false

other_by : (a n b m : ℕ) (q : Test) (x : Unanswered) (xs : List Unanswered) (c : Bool)
    → Apart a n b m → is_of b m x ≡ c
    → list_any (is_with a n q) (without b m xs) ≡ list_any (is_with a n q) xs
    → list_any (is_with a n q) (cond (not c) (x ∷ without b m xs) (without b m xs))
    ≡ list_any (is_with a n q) (x ∷ xs)
other_by a n b m q x xs true apart e more = more
    ∙ sym (ap (λ (c : Bool). (c && q x.toggle) || list_any (is_with a n q) xs) (apart x e))
other_by a n b m q x xs false apart e more =
    ap (λ (c : Bool). is_with a n q x || c) more

without_other : (a n b m : ℕ) (q : Test) (xs : List Unanswered) → Apart a n b m
    → list_any (is_with a n q) (without b m xs) ≡ list_any (is_with a n q) xs
without_other a n b m q [] apart = refl
without_other a n b m q (x ∷ xs) apart = other_by a n b m q x xs (is_of b m x) apart refl
    (without_other a n b m q xs apart)

-- The toggles of a device forgotten

same_one : (a n : ℕ) (q : Test) (x : Unanswered) (b : Bool) → (x.address == a) ≡ b
    → is_with a n q (cond b (record x { toggle = None }) x) ≡ is_with a n (λ t. q None) x
same_one a n q x true e = refl
same_one a n q x false e = ap (λ (b : Bool). (b && x.number == n) && q x.toggle) e
    ∙ sym (ap (λ (b : Bool). (b && x.number == n) && q None) e)

forgot_same : (a n : ℕ) (q : Test) (xs : List Unanswered)
    → list_any (is_with a n q) (map (toggle_forgotten a) xs)
    ≡ list_any (is_with a n (λ t. q None)) xs
forgot_same a n q [] = refl
forgot_same a n q (x ∷ xs) =
    ap (λ (b : Bool). b || list_any (is_with a n q) (map (toggle_forgotten a) xs))
    (same_one a n q x (x.address == a) refl)
    ∙ ap (λ (b : Bool). is_with a n (λ t. q None) x || b) (forgot_same a n q xs)

not_of : (a b n : ℕ) (q : Test) (x : Unanswered) (t : Option Toggle) → x.address ≡ b
    → (b == a) ≡ false → (((x.address == a) && x.number == n) && q t) ≡ false
not_of a b n q x t at e = ap (λ (c : ℕ). ((c == a) && x.number == n) && q t) at
    ∙ ap (λ (c : Bool). (c && x.number == n) && q t) e

other_one : (a b n : ℕ) (q : Test) (x : Unanswered) (c : Bool) → (x.address == b) ≡ c
    → (b == a) ≡ false → is_with a n q (cond c (record x { toggle = None }) x) ≡ is_with a n q x
other_one a b n q x false at e = refl
other_one a b n q x true at e = not_of a b n q x None (eqb-true x.address b at) e
    ∙ sym (not_of a b n q x x.toggle (eqb-true x.address b at) e)

forgot_other : (a b n : ℕ) (q : Test) (xs : List Unanswered) → (b == a) ≡ false
    → list_any (is_with a n q) (map (toggle_forgotten b) xs) ≡ list_any (is_with a n q) xs
forgot_other a b n q [] e = refl
forgot_other a b n q (x ∷ xs) e =
    ap (λ (c : Bool). c || list_any (is_with a n q) (map (toggle_forgotten b) xs))
    (other_one a b n q x (x.address == b) refl e)
    ∙ ap (λ (c : Bool). is_with a n q x || c) (forgot_other a b n q xs e)

passes_none : (q : Test) (said : Option (Option Toggle))
    → passes (λ t. q None) said ≡ passes q (option_map (λ t. None) said)
passes_none q None = refl
passes_none q (Some t) = refl

setup_by : (left : List Unanswered) (a n b : ℕ) (said : Option (Option Toggle)) (c : Bool)
    → (b == a) ≡ c → Keeps left a n said
    → Keeps (map (toggle_forgotten b) left) a n (cond c (option_map (λ t. None) said) said)
setup_by left a n b said true e h q =
    ap (λ (d : ℕ). list_any (is_with a n q) (map (toggle_forgotten d) left)) (eqb-true b a e)
    ∙ forgot_same a n q left ∙ h (λ t. q None) ∙ passes_none q said
setup_by left a n b said false e h q = forgot_other a b n q left e ∙ h q

after_token-keeps : (left : List Unanswered) (a n : ℕ) (said : Option (Option Toggle))
    (asked : Attempt) → Keeps left a n said
    → Keeps (after_token left asked) a n (after_setup a asked said)
after_token-keeps left a n said (Setup to bytes) h =
    setup_by left a n to.address said (to.address == a) refl h
after_token-keeps left a n said (Out to toggle bytes) h = h
after_token-keeps left a n said (In to) h = h

-- The answer

apart_by : (a n : ℕ) (u x : Unanswered) → is_of a n u ≡ false
    → is_of u.address u.number x ≡ true → is_of a n x ≡ false
apart_by a n u x e h =
    let both : (_ ≡ true) × (_ ≡ true) = and_parts _ _ h in
    ap (λ (c : ℕ). (c == a) && (x.number == n)) (eqb-true x.address u.address both.0)
    ∙ ap (λ (m : ℕ). (u.address == a) && (m == n)) (eqb-true x.number u.number both.1) ∙ e

own_of : (left : List Unanswered) (a n : ℕ) (q : Test) (u : Unanswered) → is_of a n u ≡ true
    → list_any (is_with a n q) (without u.address u.number left) ≡ false
own_of left a n q u e =
    let both : (_ ≡ true) × (_ ≡ true) = and_parts _ _ e in
    ap (λ (c : ℕ). list_any (is_with a n q) (without c u.number left))
    (eqb-true u.address a both.0)
    ∙ ap (λ (m : ℕ). list_any (is_with a n q) (without a m left)) (eqb-true u.number n both.1)
    ∙ without_own a n q left

at_end : (left : List Unanswered) (a n : ℕ) (q : Test) (u : Unanswered) (b : Bool)
    → list_any (is_with a n q) (without u.address u.number left) ≡ b
    → list_any (is_with a n q) (without u.address u.number left ++ u ∷ []) ≡ (b || is_with a n q u)
at_end left a n q u b e = any_end (is_with a n q) (without u.address u.number left) u
    ∙ ap (λ (c : Bool). c || is_with a n q u) e

answer_by : (left : List Unanswered) (a n : ℕ) (said : Option (Option Toggle)) (u : Unanswered)
    (o : Outcome) (b : Bool) → is_of a n u ≡ b → Keeps left a n said
    → Keeps (after_answer left (Some u) o) a n (cond b (after_got u.toggle o said) said)
answer_by left a n said u outcome.Nothing true e h q =
    at_end left a n q u false (own_of left a n q u e) ∙ ap (λ (c : Bool). c && q u.toggle) e
answer_by left a n said u outcome.Nothing false e h q =
    at_end left a n q u (passes q said)
    (without_other a n u.address u.number q left (λ x. apart_by a n u x e) ∙ h q)
    ∙ ap (λ (c : Bool). passes q said || (c && q u.toggle)) e ∙ or-false (passes q said)
answer_by left a n said u outcome.Ack true e h q = own_of left a n q u e
answer_by left a n said u outcome.Ack false e h q =
    without_other a n u.address u.number q left (λ x. apart_by a n u x e) ∙ h q
answer_by left a n said u outcome.Nak true e h q = h q
answer_by left a n said u outcome.Nak false e h q = h q
answer_by left a n said u outcome.Stall true e h q = h q
answer_by left a n said u outcome.Stall false e h q = h q
answer_by left a n said u (outcome.Payload toggle bytes) true e h q = h q
answer_by left a n said u (outcome.Payload toggle bytes) false e h q = h q

after_answer-keeps : (left : List Unanswered) (a n : ℕ) (said : Option (Option Toggle))
    (u : Option Unanswered) (o : Outcome) → Keeps left a n said
    → Keeps (after_answer left u o) a n (after_packet a n u o said)
after_answer-keeps left a n said None o h = h
after_answer-keeps left a n said (Some u) o h =
    answer_by left a n said u o (is_of a n u) refl h

pub left_after-keeps : (run : List Made) (a n : ℕ) → Keeps (left_after run) a n (said_at a n run)
left_after-keeps [] a n = λ q. refl
left_after-keeps (m ∷ run) a n = after_answer-keeps (after_token (left_after run) m.attempt) a n
    (after_setup a m.attempt (said_at a n run)) (left_by m.attempt) m.outcome
    (after_token-keeps (left_after run) a n (said_at a n run) m.attempt (left_after-keeps run a n))
