-- What requests of a device's own ask: bytes, the host's data, or a refusal.
use Rattle.std.proofs.Common.{◌≡◌, ◌==◌, Bool, true, false, if◌then◌else◌, ℕ, List, Option}
use Rattle.std.proofs.Common.{None, Some, slice_get, refl, sym, ap, ◌∙◌, arith}
use Rattle.std.proofs.lemmas.List.Quantifiers.{position-Some}
use Rattle.std.proofs.lemmas.Option.{get_or_from_slice_get}
use Rattle.usb_request.specs.{Setup}
use Rattle.usb_device.specs.{OwnAnswer}
use Rattle.usb_device.specs.declared.own_request.OwnAnswer.TheVariants.{RefuseData, RefuseStatus}
use Rattle.usb_device.specs.declared.own_request.OwnAnswer.TheVariants.{Give, GiveTaken, Take}
use Rattle.usb_device.specs.{OwnRequest, fits, goes_so, is_to_host, own_place, Outcome}
use Rattle.usb_device.specs.{stalled, answers_taken, takes, asked_by_answer, asked_by_row, asked_at}
use Rattle.usb_device.specs.{asked_own, Registers}
use Rattle.usb_device.specs.Request.{answers}

-- a row that the setup data fit answers data that go their way
fits-goes : (row : OwnRequest) (r : Setup) → fits row r ≡ true
    → goes_so row.answer (is_to_host r) ≡ true
fits-goes row r h = grind arith

module _ (P : Outcome → Type 0) (refused : P stalled) (rows : List OwnRequest) (g : Registers)
    (r : Setup) where
  -- so it is of them if it is so of each row
  asked_own-rows : ((answer : OwnAnswer) → goes_so answer (is_to_host r) ≡ true
      → P (asked_by_answer answer)) → P (asked_own rows g r)
  asked_own-rows f = by_configuration (g.configuration == 0)
    where
      by_row : (i : ℕ) → own_place rows r ≡ Some i → (o : Option OwnRequest)
          → slice_get rows i ≡ o → P (asked_by_row o)
      by_row i e None none = refused
      by_row i e (Some row) at = f row.answer (fits-goes row r
          (ap (λ x. fits x r) (sym (get_or_from_slice_get rows i row row at))
          ∙ (position-Some (λ x. fits x r) rows i row e).1))

      by_place : (o : Option ℕ) → own_place rows r ≡ o → P (asked_at rows o)
      by_place None e = refused
      by_place (Some i) e = by_row i e (slice_get rows i) refl

      by_configuration : (b : Bool)
          → P (if b then stalled else asked_at rows (own_place rows r))
      by_configuration true = refused
      by_configuration false = by_place (own_place rows r) refl

  -- what they ask, whichever way the data go
  pub asked_own-any : ((bytes : List ℕ) → P (answers bytes)) → P answers_taken
      → ((kept : Bool) → P (takes kept)) → P (asked_own rows g r)
  asked_own-any gives tells_taken takes_data = asked_own-rows by_answer
    where
      by_answer : (answer : OwnAnswer) → goes_so answer (is_to_host r) ≡ true
          → P (asked_by_answer answer)
      by_answer RefuseData h = refused
      by_answer RefuseStatus h = takes_data false
      by_answer (Give bytes) h = gives bytes
      by_answer GiveTaken h = tells_taken
      by_answer Take h = takes_data true

  -- what they ask if the data go to the host
  pub asked_own-to_host : is_to_host r ≡ true → ((bytes : List ℕ) → P (answers bytes))
      → P answers_taken → P (asked_own rows g r)
  asked_own-to_host to_host gives tells_taken = asked_own-rows by_answer
    where
      by_answer : (answer : OwnAnswer) → goes_so answer (is_to_host r) ≡ true
          → P (asked_by_answer answer)
      by_answer RefuseData h = refused
      by_answer RefuseStatus h = absurd (grind (arith, h, to_host))
      by_answer (Give bytes) h = gives bytes
      by_answer GiveTaken h = tells_taken
      by_answer Take h = absurd (grind (arith, h, to_host))
