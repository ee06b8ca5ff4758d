-- Records of answers, both ways.
use Rattle.std.proofs.Common.{◌≡◌, ℕ, ◌+◌, ◌*◌, ◌<◌, ◌≤◌, List, [], ◌∷◌, ◌++◌, length, take}
use Rattle.std.proofs.Common.{drop, refl, sym, ap, subst, ◌∙◌, arith, Result, Ok, Err, IfOk, IfErr}
use Rattle.std.proofs.Common.{get_or, length-append, slice_index}
use Rattle.std.proofs.lemmas.List.{take_at, drop_at, take-append-drop}
use Rattle.usb_packet.specs.{Toggle, Zero, One}
use Rattle.usb_world.specs.{Outcome}
use Rattle.usb_world.specs.declared.types.Outcome.TheVariants.{Payload, Ack, Nak, Stall, Nothing}
use Rattle.usb_dialogue.specs.{AnswerFault, Came, IsAnswer, NoToggle, WrongAnswerLength}
use Rattle.usb_dialogue.specs.{answer_record, came_data, came_number, came_toggle, toggle_number}
use Rattle.usb_dialogue.specs.{AreStatuses, statuses_bytes, Answer, DriverFault}
use Rattle.usb_dialogue.specs.declared.fault.DriverFault.TheVariants as fault
use Rattle.usb_dialogue.proofs.StatusLaws.{statuses_bytes-28, statuses_bytes-same}

came_number-most : (o : Outcome) → came_number o ≤ 4
came_number-most (Payload t bytes) = omega arith
came_number-most Ack = omega arith
came_number-most Nak = omega arith
came_number-most Stall = omega arith
came_number-most Nothing = omega arith

came_toggle-most : (o : Outcome) → came_toggle o ≤ 1
came_toggle-most (Payload Zero bytes) = omega arith
came_toggle-most (Payload One bytes) = omega arith
came_toggle-most Ack = omega arith
came_toggle-most Nak = omega arith
came_toggle-most Stall = omega arith
came_toggle-most Nothing = omega arith

-- what is no data has none, and toggle 0
record ComesAlone (o : Outcome) : Type 0 where
  toggle : came_toggle o ≡ 0
  bytes : length (came_data o) ≡ 0

alone : (o : Outcome) → came_number o < 4 → ComesAlone o
alone (Payload t bytes) few = absurd (omega arith)
alone Ack few = record { toggle = refl; bytes = refl }
alone Nak few = record { toggle = refl; bytes = refl }
alone Stall few = record { toggle = refl; bytes = refl }
alone Nothing few = record { toggle = refl; bytes = refl }

length-answer_record : (a : Answer) → IsAnswer a
    → length (answer_record a) ≡ 32 + length (came_data a.outcome)
length-answer_record a is =
    let both = length-append (statuses_bytes a.statuses) (came_data a.outcome) in
    let first = statuses_bytes-28 a.statuses is.statuses in
    omega (arith, both, first)

no_length : (a : Answer) → IsAnswer a → WrongAnswerLength (answer_record a) → ⊥
no_length a is (WrongAnswerLength.short less) = omega (arith, length-answer_record a is)
no_length a is (WrongAnswerLength.other other) = other (omega (arith, length-answer_record a is))
no_length a is (WrongAnswerLength.none few more) =
    omega (arith, length-answer_record a is, (alone a.outcome few).bytes)

no_toggle : (a : Answer) → NoToggle (answer_record a) → ⊥
no_toggle a (NoToggle.more more) = omega (arith, came_toggle-most a.outcome)
no_toggle a (NoToggle.alone few other) = other (alone a.outcome few).toggle

-- the record of an answer has no fault
no_fault : (a : Answer) → IsAnswer a → (f : DriverFault) → AnswerFault (answer_record a) f → ⊥
no_fault a is fault.Kind h = omega (arith, came_number-most a.outcome, h)
no_fault a is fault.Length h = no_length a is h
no_fault a is fault.TooMuch h = omega (arith, h.1, length-answer_record a is, is.few)
no_fault a is fault.Number h = no_toggle a h
no_fault a is fault.Memory h = absurd h
no_fault a is fault.OutOfTurn h = absurd h
no_fault a is fault.Roots h = absurd h

same_toggle : (s t : Toggle) → toggle_number s ≡ toggle_number t → s ≡ t
same_toggle Zero Zero e = refl
same_toggle One One e = refl
same_toggle Zero One e = absurd (omega arith)
same_toggle One Zero e = absurd (omega arith)

same_outcome : (o p : Outcome) → came_number o ≡ came_number p → came_toggle o ≡ came_toggle p
    → came_data o ≡ came_data p → o ≡ p
same_outcome (Payload s b) (Payload t c) n e d =
    let turned = same_toggle s t e in
    let bytes : b ≡ c = ap (λ (items : List ℕ). record { items = items }) d in
    cc
same_outcome Ack Ack n e d = refl
same_outcome Nak Nak n e d = refl
same_outcome Stall Stall n e d = refl
same_outcome Nothing Nothing n e d = refl
same_outcome _ _ n e d = absurd (omega arith)

same_answer : (a b : Answer) → IsAnswer a → IsAnswer b → answer_record a ≡ answer_record b → a ≡ b
same_answer a b is also e =
    let rest = ap (drop 4) e in
    let first = statuses_bytes-28 a.statuses is.statuses in
    let other = statuses_bytes-28 b.statuses also.statuses in
    let statuses : statuses_bytes a.statuses ≡ statuses_bytes b.statuses =
    sym (take_at (statuses_bytes a.statuses) (came_data a.outcome) 28 first)
    ∙ ap (take 28) rest
    ∙ take_at (statuses_bytes b.statuses) (came_data b.outcome) 28 other in
    let bytes : came_data a.outcome ≡ came_data b.outcome =
    sym (drop_at (statuses_bytes a.statuses) (came_data a.outcome) 28 first)
    ∙ ap (drop 28) rest
    ∙ drop_at (statuses_bytes b.statuses) (came_data b.outcome) 28 other in
    let came = same_outcome a.outcome b.outcome (ap (λ xs. slice_index xs 0) e)
    (ap (λ xs. slice_index xs 1) e) bytes in
    let shown = statuses_bytes-same a.statuses b.statuses is.statuses also.statuses statuses in
    ap (λ (o : Outcome). record { outcome = o; statuses = a.statuses }) came
    ∙ ap (λ (s : List (List ℕ)). record { outcome = b.outcome; statuses = s }) shown

-- what is read of the record of an answer is that answer
pub answer_record-read : (bytes : List ℕ) (result : Result Answer DriverFault)
    → IfOk result (λ a. IsAnswer a × (bytes ≡ answer_record a)) → IfErr result (AnswerFault bytes)
    → (a : Answer) → IsAnswer a → bytes ≡ answer_record a → result ≡ Ok a
answer_record-read bytes (Ok b) read cause a is e =
    ap Ok (same_answer b a read.0 is (sym read.1 ∙ e))
answer_record-read bytes (Err f) read cause a is e =
    absurd (no_fault a is f (subst (λ xs. AnswerFault xs f) e cause))

-- four bytes, one by one
four_bytes : (xs : List ℕ) → length xs ≡ 4
    → xs ≡ get_or xs 0 0 ∷ get_or xs 1 0 ∷ get_or xs 2 0 ∷ get_or xs 3 0 ∷ []
four_bytes (a ∷ b ∷ c ∷ d ∷ []) size = refl
four_bytes _ size = absurd (omega arith)

-- where bytes begin with four, and 28 behind them
pub record HasParts (bytes head statuses came : List ℕ) : Type 0 where
  pub first : head ≡ take 4 bytes
  pub second : statuses ≡ take 28 (drop 4 bytes)
  pub third : came ≡ drop 28 (drop 4 bytes)
  pub size : length head ≡ 4

joined : (bytes head statuses came : List ℕ) → HasParts bytes head statuses came
    → bytes ≡ get_or head 0 0 ∷ get_or head 1 0 ∷ get_or head 2 0 ∷ get_or head 3 0
    ∷ (statuses ++ came)
joined bytes head statuses came has =
    let whole = take-append-drop 4 bytes in
    let rest = take-append-drop 28 (drop 4 bytes) in
    let four = four_bytes head has.size in
    let behind : statuses ++ came ≡ drop 4 bytes =
    ap (λ xs. xs ++ came) has.second ∙ ap (λ xs. take 28 (drop 4 bytes) ++ xs) has.third
    ∙ rest in
    sym whole ∙ ap (λ xs. xs ++ drop 4 bytes) (sym has.first)
    ∙ ap (λ xs. head ++ xs) (sym behind) ∙ ap (λ xs. xs ++ (statuses ++ came)) four

-- what is read of bytes is their answer
pub answer_in-reads : (bytes head statuses came : List ℕ) → HasParts bytes head statuses came
    → (o : Outcome) → Came (get_or head 0 0) (get_or head 1 0) came o
    → (shown : List (List ℕ)) → statuses_bytes shown ≡ statuses → AreStatuses shown
    → get_or head 2 0 + 256 * get_or head 3 0 ≡ length came
    → IsAnswer (record { outcome = o; statuses = shown })
    × (bytes ≡ answer_record (record { outcome = o; statuses = shown }))
answer_in-reads bytes head statuses came has o is shown same are count =
    let long : length came ≡ length (came_data o) = ap length is.carried in
    let low : get_or head 2 0 ≡ length (came_data o) = omega (arith, long, count, is.few) in
    let high : get_or head 3 0 ≡ 0 = omega (arith, long, count, is.few) in (
      record { few = is.few; statuses = are },
      joined bytes head statuses came has
          ∙ rw (is.number, is.turned, low, high, sym same, is.carried) refl,
    )
