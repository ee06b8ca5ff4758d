-- The `damage` entries of the document.
use Rattle.std.specs.Prelude.{◌≡◌, ◌≤◌, ℕ, codes, List, [], ◌∷◌, ◌++◌, ◌+◌, ◌-◌, ◌^◌, length}
use Rattle.std.specs.Prelude.{true, Option, Some, None, ok_or, Result, Ok, Err, nat_lt}
use Rattle.std.specs.Prelude.{if◌then◌else◌}
use Rattle.std.specs.Str.{bytes_eq}
use Rattle.toml.specs.Data.{Data, Members, get_member, as_table}
use Rattle.usb_plan.specs.declared.entry_fault.EntryFault.{EntryFault}
use Rattle.usb_plan.specs.declared.entry_fault.EntryFault.TheVariants.{BadValue}
use Rattle.usb_plan.specs.declared.damage.Way.{Way}
use Rattle.usb_plan.specs.declared.damage.Way.TheVariants as way
use Rattle.usb_plan.specs.declared.fault.Place.TheVariants as place
use Rattle.usb_plan.specs.declared.fault.PlanFault.{PlanFault}
use Rattle.usb_plan.specs.EntryFault.{fault_in_part, least_fault, entry_at, ◌>>=◌}
use Rattle.usb_plan.specs.Keys.{keys_at, no_when}
use Rattle.usb_plan.specs.Value.{read_text, number_at}
use Rattle.usb_world.specs.{Damage, Harm, Lose, LosePre, Flip, damage_fits}

-- the key `attempt`: after the last one
unfoldable pub attempt_at : ℕ → Option Data → Result ℕ EntryFault
attempt_at last d = number_at (last + 1) (2 ^ 63 - 1) d

-- the key `packet`
unfoldable pub packet_number : Option Data → Result ℕ EntryFault
packet_number d = number_at 1 3 d

unfoldable pub way_named : List ℕ → Result Way EntryFault
way_named text =
    if bytes_eq text (codes "lose") then Ok way.Lose
    else if bytes_eq text (codes "pre") then Ok way.LosePre
    else if bytes_eq text (codes "flip") then Ok way.Flip
    else Err BadValue

-- the key `how`
unfoldable pub way_at : Option Data → Result Way EntryFault
way_at d = read_text d >>= way_named

-- the key `bit` goes with a flipped bit alone
unfoldable pub no_bit : Harm → Option Data → Result Harm EntryFault
no_bit harm None = Ok harm
no_bit harm (Some d) = Err BadValue

-- the key `bit`
unfoldable pub flip_at : Option Data → Result Harm EntryFault
flip_at d = number_at 0 535 d >>= λ bit. Ok (Flip bit)

unfoldable pub harm_of : Way → Option Data → Result Harm EntryFault
harm_of way.Lose bit = no_bit Lose bit
harm_of way.LosePre bit = no_bit LosePre bit
harm_of way.Flip bit = flip_at bit

-- the keys `how` and `bit`
unfoldable pub harm_by : Result Way EntryFault → Option Data → Result Harm EntryFault
harm_by way bit = way >>= λ w. harm_of w bit

-- at most 10,000 damages
unfoldable pub damage_room : ℕ → Result (Unit {0}) EntryFault
damage_room count = if nat_lt count 10000 then Ok tt else Err BadValue

unfoldable pub damage_with :
    Result ℕ EntryFault → Result ℕ EntryFault → Result Harm EntryFault
    → Result (Unit {0}) EntryFault
    → Result (Unit {0}) EntryFault → Result Damage EntryFault
damage_with attempt packet harm keys room = do
  u ← least_fault (fault_in_part attempt ∷ fault_in_part packet ∷ fault_in_part harm ∷ fault_in_part
      keys ∷ fault_in_part room ∷ [])
  n ← attempt
  p ← packet
  h ← harm
  Ok (record { attempt = n; packet = p; harm = h })

abbrev pub damage_keys : List (List ℕ)
damage_keys = codes "attempt" ∷ codes "packet" ∷ codes "how" ∷ codes "bit" ∷ []

-- the damage that a table describes, after that attempt and so many others
unfoldable pub read_damage : ℕ → ℕ → Members → Result Damage EntryFault
read_damage last count ms =
    damage_with (attempt_at last (get_member (codes "attempt") ms))
    (packet_number (get_member (codes "packet") ms))
    (harm_by (way_at (get_member (codes "how") ms)) (get_member (codes "bit") ms))
    (keys_at damage_keys ms)
    (damage_room count)

abbrev pub placed_keys : List (List ℕ)
placed_keys = codes "when" ∷ codes "packet" ∷ codes "how" ∷ codes "bit" ∷ []

-- the damage of that number, of a table with `when`, to this attempt
unfoldable pub placed_damage : ℕ → ℕ → Members → Result Damage PlanFault
placed_damage number attempt ms =
    entry_at (place.Damage number) (damage_with (Ok attempt)
    (packet_number (get_member (codes "packet") ms))
    (harm_by (way_at (get_member (codes "how") ms)) (get_member (codes "bit") ms))
    (keys_at placed_keys ms)
    (damage_room (number - 1)))

-- it fits its attempt, and there is room for it
pub record IsPlaced (number attempt : ℕ) (d : Damage) : Type 0 where
  pub fits : 1 ≤ attempt → damage_fits 0 d ≡ true
  pub room : number ≤ 10000

-- nothing else of a damage is looked at where it has the key `when`
unfoldable pub damage_entry : ℕ → ℕ → Option Members → Result Damage EntryFault
damage_entry last count table = do
  ms ← ok_or table BadValue
  u ← no_when (get_member (codes "when") ms)
  read_damage last count ms

-- the attempt of the last damage, that number with none
unfoldable pub last_from : ℕ → List Damage → ℕ
last_from last [] = last
last_from last (d ∷ damages) = last_from d.attempt damages

-- the damages so far and those of the values; the first is number n
unfoldable pub damages_from : ℕ → List Damage → List Data → Result (List Damage) PlanFault
damages_from n done [] = Ok done
damages_from n done (d ∷ ds) =
    entry_at (place.Damage n) (damage_entry (last_from 0 done) (length done) (as_table d))
    >>= λ x. damages_from (n + 1) (done ++ x ∷ []) ds
