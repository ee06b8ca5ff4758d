-- The nearest of the names so far.
use Rattle.std.proofs.Common.{◌≡◌, ℕ, ◌+◌, ◌<◌, ◌≤◌, Option, Some, None, List, length, refl, arith}
use Rattle.std.proofs.Common.{get_or}
use Rattle.usb_diagnosis.specs.{IsNearest}
use borrow.Author.Count.{below_more}

-- of the edits to the names before the k-th these are the fewest, first at this index, or 3 where
-- all are more than two
abbrev pub BestSoFar : (ℕ → ℕ) → ℕ → Option ℕ → ℕ → Type 0
BestSoFar f k None fewest = (fewest ≡ 3) × ((j : ℕ) → j < k → 2 < f j)
BestSoFar f k (Some i) fewest =
    (fewest ≡ f i) × (f i ≤ 2) × (i < k) × ((j : ℕ) → j < k → f i ≤ f j)
    × ((j : ℕ) → j < i → f i < f j)

-- the k-th is no nearer
pub best_kept : (f : ℕ → ℕ) (k : ℕ) (found : Option ℕ) (fewest : ℕ) → BestSoFar f k found fewest
    → fewest ≤ f k → BestSoFar f (k + 1) found fewest
best_kept f k None fewest (three, all) le = (three, below_more (λ j. 2 < f j) k all (omega arith))
best_kept f k (Some i) fewest (is, near, there, least, first) le =
    (is, near, omega arith, below_more (λ j. f i ≤ f j) k least (omega arith), first)

-- the k-th is nearer
pub best_found : (f : ℕ → ℕ) (k : ℕ) (found : Option ℕ) (fewest : ℕ) → BestSoFar f k found fewest
    → f k < fewest → BestSoFar f (k + 1) (Some k) (f k)
best_found f k None fewest (three, all) lt =
    let above : (j : ℕ) → j < k → f k < f j = λ j l. (let h = all j l in omega arith) in
    let least : (j : ℕ) → j < k → f k ≤ f j = λ j l. (let h = above j l in omega arith) in
    (refl, omega arith, omega arith, below_more (λ j. f k ≤ f j) k least (omega arith), above)
best_found f k (Some i) fewest (is, near, there, all, first) lt =
    let above : (j : ℕ) → j < k → f k < f j = λ j l. (let h = all j l in omega arith) in
    let least : (j : ℕ) → j < k → f k ≤ f j = λ j l. (let h = above j l in omega arith) in
    (refl, omega arith, omega arith, below_more (λ j. f k ≤ f j) k least (omega arith), above)

-- of all of them
pub best_of_all : (edits : List ℕ) (found : Option ℕ) (fewest : ℕ)
    → BestSoFar (λ j. get_or edits j 0) (length edits) found fewest → IsNearest edits found
best_of_all edits None fewest (three, all) = all
best_of_all edits (Some i) fewest (is, near, there, least, first) =
    record { there = there; near = near; fewest = least; first = first }
