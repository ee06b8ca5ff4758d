-- A detail of the last port.
use Rattle.std.proofs.Common.{◌≡◌, ◌<◌, ◌-◌, ℕ, List, [], ◌∷◌, Ok, Err, ap, ◌∙◌, sym, map, length}
use Rattle.std.proofs.Common.{slice_index_or, slice_set, suc, zero, true, false, refl, arith}
use Rattle.std.proofs.Common.{Result, IfErr, OnOk, ◌≢◌, Some, None, slice_get}
use Rattle.std.proofs.lemmas.Bool.{false≢true}
use Rattle.std.proofs.lemmas.Option.{get_or_from_slice_get, slice_get-get_or, slice_get_within}
use Rattle.usb_judge.specs.declared.listed.ListedPort.{ListedPort}
use Rattle.usb_verdict.specs.declared.fault.ListingFault.{ListingFault}
use Rattle.usb_verdict.specs.declared.fault.ListingFault.TheVariants.{NoDevice}
use Rattle.usb_verdict.specs.{DetailSaid, PortSaid, alone, amended, amended_port, behind}
use Rattle.usb_verdict.specs.Reports.{port_said}

amended_at : (path : List ℕ) (detail : DetailSaid) (xs : List ListedPort) (i : ℕ)
    (x y : ListedPort) → length xs ≡ suc i → x ≡ slice_index_or xs i x
    → amended_port path detail (port_said x) ≡ Ok (port_said y)
    → amended path detail (map port_said xs) ≡ Ok (map port_said (slice_set xs i y))
amended_at path detail [] i x y last at h = absurd (omega arith)
amended_at path detail (z ∷ []) zero x y last at h =
    ap (λ (p : ListedPort). alone (amended_port path detail (port_said p))) (sym at) ∙ ap alone h
amended_at path detail (z ∷ []) (suc i) x y last at h = absurd (omega arith)
amended_at path detail (z ∷ w ∷ ws) zero x y last at h = absurd (omega arith)
amended_at path detail (z ∷ w ∷ ws) (suc i) x y last at h =
    ap (behind (port_said z)) (amended_at path detail (w ∷ ws) i x y (omega arith) at h)

refused_at : (path : List ℕ) (detail : DetailSaid) (xs : List ListedPort) (i : ℕ)
    (x : ListedPort) (f : ListingFault) → length xs ≡ suc i → x ≡ slice_index_or xs i x
    → amended_port path detail (port_said x) ≡ Err f
    → amended path detail (map port_said xs) ≡ Err f
refused_at path detail [] i x f last at h = absurd (omega arith)
refused_at path detail (z ∷ []) zero x f last at h =
    ap (λ (p : ListedPort). alone (amended_port path detail (port_said p))) (sym at) ∙ ap alone h
refused_at path detail (z ∷ []) (suc i) x f last at h = absurd (omega arith)
refused_at path detail (z ∷ w ∷ ws) zero x f last at h = absurd (omega arith)
refused_at path detail (z ∷ w ∷ ws) (suc i) x f last at h =
    ap (behind (port_said z)) (refused_at path detail (w ∷ ws) i x f (omega arith) at h)

-- the last port gets the detail in its place
pub amended_last : (path : List ℕ) (detail : DetailSaid) (old : List ListedPort)
    (x y : ListedPort) → 0 < length old → x ≡ slice_index_or old (length old - 1) x
    → amended_port path detail (port_said x) ≡ Ok (port_said y)
    → amended path detail (map port_said old)
    ≡ Ok (map port_said (slice_set old (length old - 1) y))
amended_last path detail old x y some at h =
    amended_at path detail old (length old - 1) x y (omega arith) at h

-- the last port does not get it
pub refused_last : (path : List ℕ) (detail : DetailSaid) (old : List ListedPort) (n : ℕ)
    (x : ListedPort) (r : Result Unit ListingFault) → n ≡ length old → 0 < n
    → x ≡ slice_index_or old (n - 1) x
    → IfErr r (λ f. amended_port path detail (port_said x) ≡ Err f)
    → IfErr r (λ f. amended path detail (map port_said old) ≡ Err f)
refused_last path detail old n x (Ok done) all some at h = tt
refused_last path detail old n x (Err f) all some at h =
    refused_at path detail old (n - 1) x f (omega arith) at h

-- there is none
pub none_last : (path : List ℕ) (detail : DetailSaid) (old : List ListedPort)
    → (0 < length old → false ≡ true) → amended path detail (map port_said old) ≡ Err NoDevice
none_last path detail [] none = refl
none_last path detail (x ∷ xs) none = absurd (false≢true (none (omega arith)))

-- Whether the last port can get a detail

back : Result (List PortSaid) ListingFault → Result PortSaid ListingFault
back (Ok ports) = Err NoDevice
back (Err f) = Err f

alone_err : (r : Result PortSaid ListingFault) (f : ListingFault) → alone r ≡ Err f → r ≡ Err f
unfolding back
alone_err (Ok port) f h = cc h
alone_err (Err g) f h = ap back h

behind_err : (port : PortSaid) (r : Result (List PortSaid) ListingFault) (f : ListingFault)
    → behind port r ≡ Err f → r ≡ Err f
behind_err port (Ok more) f h = cc h
behind_err port (Err g) f h = h

kept_at : (path : List ℕ) (detail : DetailSaid) (xs : List ListedPort) (i : ℕ) (x : ListedPort)
    → length xs ≡ suc i → x ≡ slice_index_or xs i x
    → ((f : ListingFault) → amended_port path detail (port_said x) ≢ Err f)
    → (f : ListingFault) → amended path detail (map port_said xs) ≢ Err f
kept_at path detail [] i x last at h f e = absurd (omega arith)
kept_at path detail (z ∷ []) zero x last at h f e =
    h f (ap (λ (p : ListedPort). amended_port path detail (port_said p)) at ∙ alone_err _ f e)
kept_at path detail (z ∷ []) (suc i) x last at h f e = absurd (omega arith)
kept_at path detail (z ∷ w ∷ ws) zero x last at h f e = absurd (omega arith)
kept_at path detail (z ∷ w ∷ ws) (suc i) x last at h f e =
    kept_at path detail (w ∷ ws) i x (omega arith) at h f (behind_err _ _ f e)

-- the last port cannot get any
pub refused_get : (path : List ℕ) (old : List ListedPort) (x : ListedPort)
    (r : Result Unit ListingFault) → slice_get old (length old - 1) ≡ Some x
    → IfErr r (λ f. (detail : DetailSaid) → amended_port path detail (port_said x) ≡ Err f)
    → IfErr r (λ f. (detail : DetailSaid) → amended path detail (map port_said old) ≡ Err f)
refused_get path old x (Ok done) at h = tt
refused_get path old x (Err f) at h = λ detail.
    refused_at path detail old (length old - 1) x f
    (omega (arith, slice_get_within old (length old - 1) x at))
    (sym (get_or_from_slice_get old (length old - 1) x x at)) (h detail)

-- the last port can get one
pub kept_get : (path : List ℕ) (old : List ListedPort) (x : ListedPort)
    (r : Result Unit ListingFault) → slice_get old (length old - 1) ≡ Some x
    → OnOk r ((detail : DetailSaid) (f : ListingFault)
    → amended_port path detail (port_said x) ≢ Err f)
    → OnOk r ((detail : DetailSaid) (f : ListingFault)
    → amended path detail (map port_said old) ≢ Err f)
kept_get path old x (Err f) at h = tt
kept_get path old x (Ok done) at h = λ detail.
    kept_at path detail old (length old - 1) x
    (omega (arith, slice_get_within old (length old - 1) x at))
    (sym (get_or_from_slice_get old (length old - 1) x x at)) (h detail)

-- there is none to get it
pub none_get : (path : List ℕ) (detail : DetailSaid) (old : List ListedPort)
    → slice_get old (length old - 1) ≡ None → amended path detail (map port_said old) ≡ Err NoDevice
none_get path detail [] none = refl
none_get path detail (x ∷ xs) none =
    cc (sym none ∙ slice_get-get_or (x ∷ xs) (length (x ∷ xs) - 1) x (omega arith))
