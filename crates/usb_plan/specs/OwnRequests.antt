-- The key `request` of a device: the requests of its own.
use Rattle.std.specs.Prelude.{ℕ, ℤ, codes, ◌/◌, ◌%◌, ◌==◌, nat_le, List, [], ◌∷◌, length, Bool}
use Rattle.std.specs.Prelude.{true, false, ◌&&◌, ◌||◌, Option, Some, None, is_some, ok_or, Result}
use Rattle.std.specs.Prelude.{Ok, Err, if◌then◌else◌}
use Rattle.std.specs.Str.{bytes_eq}
use Rattle.toml.specs.Data.{Data, Members, get_member, as_integer, as_table}
use Rattle.usb_request.specs.{DIRECTION_IN}
use Rattle.usb_device.specs.{OwnAnswer, OwnRequest}
use Rattle.usb_device.specs.declared.own_request.OwnAnswer.TheVariants.{RefuseData, RefuseStatus}
use Rattle.usb_device.specs.declared.own_request.OwnAnswer.TheVariants.{Give, GiveTaken, Take}
use Rattle.usb_plan.specs.declared.entry_fault.EntryFault.{EntryFault}
use Rattle.usb_plan.specs.declared.entry_fault.EntryFault.TheVariants.{MissingKey, BadValue}
use Rattle.usb_plan.specs.declared.own_requests.Codes.{Codes}
use Rattle.usb_plan.specs.declared.own_requests.Fields.{Fields}
use Rattle.usb_plan.specs.declared.own_requests.Refusal.{Refusal}
use Rattle.usb_plan.specs.declared.own_requests.Refusal.TheVariants as refusal
use Rattle.usb_plan.specs.EntryFault.{fault_in_part, least_fault, ◌>>=◌}
use Rattle.usb_plan.specs.Keys.{keys_at}
use Rattle.usb_plan.specs.Quirks.{flag_at}
use Rattle.usb_plan.specs.Texts.{items_from}
use Rattle.usb_plan.specs.Value.{byte_at, number_in, tables_in, text_in, hex_in}

-- two bytes, which may be absent
unfoldable pub word_in : Option ℤ → Result (Option ℕ) EntryFault
word_in number = number_in 0 65535 number >>= λ n. Ok (Some n)

unfoldable pub word_at : Option Data → Result (Option ℕ) EntryFault
word_at None = Ok None
word_at (Some d) = word_in (as_integer d)

-- a request of a class, of a vendor, or GET_DESCRIPTOR of an interface (9.3.1, 9.4.3)
unfoldable pub is_own : ℕ → ℕ → Bool
is_own type request =
    type / 32 % 4 == 1 || type / 32 % 4 == 2 || (type == 0x81 && request == 6)

unfoldable pub own_at : Option Data → Option Data → Result (Unit {0}) EntryFault
own_at type request = do
  t ← byte_at type
  r ← byte_at request
  if is_own t r then Ok tt else Err BadValue

unfoldable pub codes_with : Result ℕ EntryFault → Result ℕ EntryFault
    → Result (Unit {0}) EntryFault → Result Codes EntryFault
codes_with type request own = do
  u ← least_fault (fault_in_part type ∷ fault_in_part request ∷ fault_in_part own ∷ [])
  t ← type
  r ← request
  Ok (record { request_type = t; request = r })

-- the keys `type` and `request`
unfoldable pub codes_of : Members → Result Codes EntryFault
codes_of ms =
    let type = get_member (codes "type") ms in
    let request = get_member (codes "request") ms in
    codes_with (byte_at type) (byte_at request) (own_at type request)

unfoldable pub fields_with :
    Result (Option ℕ) EntryFault → Result (Option ℕ) EntryFault → Result (Option ℕ) EntryFault
    → Result Fields EntryFault
fields_with value index length = do
  u ← least_fault (fault_in_part value ∷ fault_in_part index ∷ fault_in_part length ∷ [])
  v ← value
  i ← index
  l ← length
  Ok (record { value = v; index = i; length = l })

-- the keys `value`, `index` and `length`; an absent one stands for any number
unfoldable pub fields_of : Members → Result Fields EntryFault
fields_of ms =
    fields_with (word_at (get_member (codes "value") ms))
    (word_at (get_member (codes "index") ms)) (word_at (get_member (codes "length") ms))

unfoldable pub refusal_named : List ℕ → Result (Option Refusal) EntryFault
refusal_named text =
    if bytes_eq text (codes "data") then Ok (Some refusal.Data)
    else if bytes_eq text (codes "status") then Ok (Some refusal.Status)
    else Err BadValue

-- the key `refuse`, which may be absent
unfoldable pub refusal_at : Option Data → Result (Option Refusal) EntryFault
refusal_at None = Ok None
refusal_at (Some d) = text_in d >>= refusal_named

-- just one of the bytes of `answer`, and what control writes have brought
unfoldable pub given_by : Option Data → Bool → Result OwnAnswer EntryFault
given_by None false = Err MissingKey
given_by None true = Ok GiveTaken
given_by (Some d) false = hex_in 65535 d >>= λ bytes. Ok (Give bytes)
given_by (Some d) true = Err BadValue

-- a request that reads: a refused one gives nothing, and is refused from the data stage on
unfoldable pub read_answer : Option Data → Bool → Option Refusal → Result OwnAnswer EntryFault
read_answer answer kept None = given_by answer kept
read_answer answer kept (Some refusal.Data) =
    if is_some answer || kept then Err BadValue else Ok RefuseData
read_answer answer kept (Some refusal.Status) = Err BadValue

-- a request that writes
unfoldable pub write_answer : Option Refusal → OwnAnswer
write_answer None = Take
write_answer (Some refusal.Data) = RefuseData
write_answer (Some refusal.Status) = RefuseStatus

-- one that reads has no `length`, and one that writes gives nothing
unfoldable pub answer_with : ℕ → Bool → Option Data → Bool → Option Refusal
    → Result OwnAnswer EntryFault
answer_with type has_length answer kept refuse =
    if nat_le DIRECTION_IN type
    then (if has_length then Err BadValue else read_answer answer kept refuse)
    else (if is_some answer || kept then Err BadValue else Ok (write_answer refuse))

-- the keys `answer`, `kept` and `refuse`
unfoldable pub answer_of : Members → Result OwnAnswer EntryFault
answer_of ms = do
  type ← byte_at (get_member (codes "type") ms)
  kept ← flag_at (get_member (codes "kept") ms)
  refuse ← refusal_at (get_member (codes "refuse") ms)
  answer_with type (is_some (get_member (codes "length") ms)) (get_member (codes "answer") ms) kept
      refuse

unfoldable pub row_with :
    Result Codes EntryFault → Result Fields EntryFault → Result OwnAnswer EntryFault
    → Result (Unit {0}) EntryFault → Result OwnRequest EntryFault
row_with numbers fields answer keys = do
  u ← least_fault (fault_in_part numbers ∷ fault_in_part fields ∷ fault_in_part answer ∷
      fault_in_part keys ∷ [])
  n ← numbers
  f ← fields
  a ← answer
  Ok (record {
    request_type = n.request_type;
    request = n.request;
    value = f.value;
    index = f.index;
    length = f.length;
    answer = a;
  })

abbrev pub request_keys : List (List ℕ)
request_keys =
    codes "type" ∷ codes "request" ∷ codes "value" ∷ codes "index" ∷ codes "length" ∷
    codes "answer" ∷ codes "kept" ∷ codes "refuse" ∷ []

-- the row that a table describes
unfoldable pub row_of : Members → Result OwnRequest EntryFault
row_of ms = row_with (codes_of ms) (fields_of ms) (answer_of ms) (keys_at request_keys ms)

unfoldable pub row_in : Data → Result OwnRequest EntryFault
row_in d = ok_or (as_table d) BadValue >>= row_of

-- at most 64 rows
unfoldable pub requests_in : Data → Result (List OwnRequest) EntryFault
requests_in d = tables_in 64 d >>= items_from row_in (Ok [])

-- the key `request`; absent there are none
unfoldable pub requests_at : Option Data → Result (List OwnRequest) EntryFault
requests_at None = Ok []
requests_at (Some d) = requests_in d

unfoldable pub requests_of : Members → Result (List OwnRequest) EntryFault
requests_of ms = requests_at (get_member (codes "request") ms)
