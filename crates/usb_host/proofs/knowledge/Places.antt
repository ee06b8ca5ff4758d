-- What is known of ports and devices, as nothing is asked of them, and as entries go and one comes.
use Rattle.std.proofs.Common.{◌≡◌, ◌⊎◌, inl, inr, List, [], ◌∷◌, ℕ, zero, suc, true, false, Option}
use Rattle.std.proofs.Common.{None, Some, option_map, refl, ap, sym, subst, ◌∙◌, ◌≤◌, ◌+◌, ◌-◌}
use Rattle.std.proofs.Common.{◌++◌, length, take, Bool, if◌then◌else◌, arith, append-nil}
use Rattle.std.proofs.Common.{length-append, IsSomeAnd}
use Rattle.std.specs.Prelude.{⊤, unwrap_or}
use Rattle.usb_port.specs.{Addresses, path_cmp, parent_of, port_on_hub}
use Rattle.usb_device.specs.{State, Location, path_to, reach_on, state_on, state_there}
use Rattle.usb_world.specs.{KeepsPendingAt, Was, spec_of, LeavesPortAlone, SameDeviceOrPending}
use Rattle.usb_world.specs.{Course, World, roots_of, has_power, pending, is_way, same_number}
use Rattle.usb_world.proofs.Interface.{course_wider, pending_persists, rests_or_pends}
use Rattle.usb_world.proofs.Interface.{stands_or_pends, at_or_below_way, way_itself, way_parent}
use Rattle.usb_world.proofs.Interface.{way_rest, way_trans, false_true, and_of, both, decided}
use Rattle.usb_enum.specs.{Cause, Accepted, Finding, IsRight, IsKnownAs, HostOptions}
use Rattle.usb_enum.specs.declared.finding.Finding.TheVariants.{Refused}
use Rattle.usb_table.specs.{Entries, finding_at, IsListedPort, tier_of, SameDevice, KnownPort}
use Rattle.usb_table.specs.{has_at, without, accepted_device_of, hub_facts_in, IsPortBelow}
use Rattle.usb_host.specs.{PortsListed, known_supply, IsTruthOf, IsAccurateAt, DevicesAccurate}
use Rattle.usb_host.specs.{IsJustifiedAt, RefusalsJustified, Elsewhere, KnownBut, TruthfulBut}
use Rattle.usb_host.specs.{CausesBut, EachStill, EachStillBut, Accounted}
use Rattle.usb_host.proofs.knowledge.SettledListings.{listed_port}
use Rattle.std.proofs.lemmas.Bool.{lt-ltb}
use Rattle.std.specs.BTreeMap.{is_at, insert_entry}
use Rattle.usb_port.proofs.Interface.{rejoined}
use Rattle.usb_table.proofs.Interface.{path_tied}
use Rattle.usb_host.proofs.entries.Agreements.{lookup-without, lookup-insert_entry_elsewhere}
use Rattle.usb_host.proofs.entries.Agreements.{known_away, known_entered, lookup-none_there}
use Rattle.usb_host.proofs.entries.Agreements.{lookup-insert_entry_here}

-- What is known of ports and devices stays so where nothing is asked of them.

pub none_same : {o : Option State} (u : Option State) → option_map spec_of u ≡ option_map spec_of o
    → o ≡ None → u ≡ None
none_same u e h = grind arith

-- a port that is known as something is so after a course that asks nothing of it
pub known_stays : (path : List ℕ) (o : Option Finding) (w v : World)
    → Course (LeavesPortAlone path) w v → IsKnownAs w path o → IsKnownAs v path o
known_stays path o w v c (inl pends) =
    inl (pending_persists path (course_wider (λ s u x. x.spares) c) pends)
known_stays path o w v c (inr here) = grind (arith, rests_or_pends)

-- Each port

pub known_each : (w v : World) (entries : Entries) → roots_of v ≡ roots_of w
    → ((path : List ℕ) → IsListedPort (roots_of w) entries path → Course (LeavesPortAlone path) w v)
    → PortsListed w entries → PortsListed v entries
known_each w v entries roots calm known = grind (arith, known_stays)

pub known_but_each : (first : List ℕ) (w v : World) (entries : Entries) → roots_of v ≡ roots_of w
    → Elsewhere first (λ path. Course (LeavesPortAlone path) w v) → KnownBut first w entries
    → KnownBut first v entries
known_but_each first w v entries roots calm known = grind (arith, known_stays)

-- Accepted devices

tells_still : {options : HostOptions} {entries : Entries} {path : List ℕ} {device : Accepted}
    (j : Location)
    {s : State}
    (v : State)
    → SameDevice j s v → IsTruthOf options entries path device s
    → IsTruthOf options entries path device v
tells_still j v still t = grind arith

is_told_at-stays : {options : HostOptions} (j : Location) (w v : World) (entries : Entries)
    → ((s : State) → reach_on v.roots j ≡ true → state_on v.roots j ≡ Some s
    → Was SameDevice w j s) → IsAccurateAt options w entries (path_to j)
    → IsAccurateAt options v entries (path_to j)
is_told_at-stays j w v _ was told device s at on stands =
    let x : Was SameDevice w j s = was s on stands in search tells_still

pub truthful_stays : {options : HostOptions} (w v : World) (entries : Entries) → EachStill w v
    → DevicesAccurate options w entries
    → DevicesAccurate options v entries
truthful_stays w v entries each told (suc j ∷ p) = is_told_at-stays (record { row = j; rest = p }) w
    v entries (each (record { row = j; rest = p })) (told (suc j ∷ p))
truthful_stays w v _ _ _ _ = λ _ s _ on _. false_true on

pub truthful_but_stays : {options : HostOptions} (first : List ℕ) (w v : World) (entries : Entries)
    → EachStillBut first w v
    → TruthfulBut options first w entries → TruthfulBut options first v entries
truthful_but_stays _ w v _ _ _ [] _ = λ device s at on stands. false_true on
truthful_but_stays _ w v _ _ _ (zero ∷ p) _ =
    λ _ s _ on _. false_true on
truthful_but_stays _ w v entries each told (suc j ∷ p) away =
    is_told_at-stays (record { row = j; rest = p }) w v entries
    (grind arith) (told (suc j ∷ p) away)

-- Refused devices

is_caused_at-kept : (options : HostOptions) (path : List ℕ) (entries : Entries) (w v : World)
    (cause : Cause) (s : State)
    → (pending w.roots path ≡ true → pending v.roots path ≡ true)
    → IsJustifiedAt options w entries path
    → finding_at path entries ≡ Some (Refused cause) → (o : Option State)
    → state_there w.roots path ≡ o → option_map spec_of (Some s)
    ≡ option_map spec_of o
    → (pending v.roots path ≡ true) ⊎ IsRight ⊤ s.spec options (tier_of path) (known_supply path
    entries)
    (Refused cause)
is_caused_at-kept options path entries w v cause s pends caused at None is same = absurd (cc same)
is_caused_at-kept options path entries w v cause s pends caused at (Some t) is same =
    elim (caused cause t at is) [
      | inl x ↦ inl (pends x)
      | inr right ↦ let alike : t.spec ≡ s.spec = cc same in
          inr (rw alike at right)
    ]

-- a cause stays so where what pends pends, and the port stands as it stood, or a change is pending
pub cause_stands : (options : HostOptions) (path : List ℕ) (entries : Entries) (w v : World)
    → (pending w.roots path ≡ true → pending v.roots path ≡ true)
    → (has_power w.roots path ≡ true → SameDeviceOrPending w v path)
    → IsKnownAs w path (finding_at path entries) → IsJustifiedAt options w entries path
    → IsJustifiedAt options v entries path
cause_stands options path entries w v pends stands known caused cause s at there = pick known
  where
    stood : SameDeviceOrPending w v path → (pending v.roots path ≡ true)
        ⊎ IsRight ⊤ s.spec options (tier_of path) (known_supply path entries) (Refused cause)
    stood (inl x) = is_caused_at-kept options path entries w v cause s pends caused at
        (state_there w.roots path) refl (grind arith)
    stood (inr x) = inl x

    pick : IsKnownAs w path (finding_at path entries) → (pending v.roots path ≡ true)
        ⊎ IsRight ⊤ s.spec options (tier_of path) (known_supply path entries) (Refused cause)
    pick (inl x) = inl (pends x)
    pick (inr here) = stood (stands here.0)

-- a cause stays so over a course that clears nothing that is pending there
pub cause_stays : (options : HostOptions) (path : List ℕ) (entries : Entries) {w v : World}
    → Course (KeepsPendingAt path) w v → IsKnownAs w path (finding_at path entries)
    → IsJustifiedAt options w entries path → IsJustifiedAt options v entries path
cause_stays options path entries c h h1 = search (cause_stands, pending_persists, stands_or_pends)

-- each refused device stands at a port that is known
pub causes_stay : {options : HostOptions} (w v : World) {entries : Entries} {addresses : Addresses}
    → Accounted options (roots_of w) entries addresses → PortsListed w entries
    → ((path : List ℕ) → IsListedPort (roots_of w) entries path → Course (KeepsPendingAt path) w v)
    → RefusalsJustified options w entries → RefusalsJustified options v entries
causes_stay {options = options} w v {entries = entries} accounted known spares caused path
    cause s at
    stands =
    let port = listed_port w accounted path (Refused cause) at in
    cause_stays options path entries (spares path port) (known path port) (caused path) cause s at
    stands

pub causes_but_stay : {options : HostOptions} (first : List ℕ) (w v : World) {entries : Entries}
    {addresses :
    Addresses}
    → Accounted options (roots_of w) entries addresses → KnownBut first w entries
    → Elsewhere first (λ path. Course (KeepsPendingAt path) w v) → CausesBut options first w entries
    → CausesBut options first v entries
causes_but_stay {options = options} _ w v {entries = entries} accounted known spares
    caused path away
    cause s at
    stands =
    let port = listed_port w accounted path (Refused cause) at in
    cause_stays options path entries (spares path away) (known path away port)
    (caused path away) cause
    s at stands

-- What is known of ports and devices, as entries go and one comes.

-- what is below a port, and longer, has its hub at the port or below it
way_hub : (p hub : List ℕ) (n : ℕ) → length p ≤ length hub → is_way p (hub ++ n ∷ []) ≡ true
    → is_way p hub ≡ true
unfolding is_way
way_hub [] hub n le h = refl
way_hub (m ∷ p) [] n le h = absurd (omega arith)
way_hub (m ∷ p) (k ∷ hub) n le h =
    let parts = both (same_number m k) (is_way p (hub ++ n ∷ [])) h in
    and_of _ _ parts.0 (way_hub p hub n (omega arith) parts.1)

-- What is listed elsewhere

pub finding-dropped : (first path : List ℕ) (es : Entries) → is_way first path ≡ true
    → finding_at path (without first es) ≡ None
finding-dropped first path es way = grind (arith, at_or_below_way, lookup-without)

pub finding-kept : (first path : List ℕ) (es : Entries) → is_way first path ≡ false
    → finding_at path (without first es) ≡ finding_at path es
finding-kept first path es away = grind (arith, at_or_below_way, lookup-without)

pub finding-none : (first path : List ℕ) (es : Entries) → has_at first es ≡ false
    → is_way first path ≡ true → finding_at path es ≡ None
finding-none first path es gone way = grind (arith, at_or_below_way, lookup-none_there)

pub untied : (first path : List ℕ) → is_way first path ≡ false → is_at (path_cmp path) first ≡ false
untied first path away = elim (decided (is_at (path_cmp path) first)) [
  | inl tie ↦ false_true (sym (rw (path_tied path first tie) at away) ∙ way_itself first)
  | inr apart ↦ apart
]

-- the hub of a path that stands elsewhere stands elsewhere
hub_elsewhere : (first path hub : List ℕ) → parent_of path ≡ Some hub → is_way first path ≡ false
    → is_way first hub ≡ false
hub_elsewhere first path hub is away = grind (arith, way_parent, way_trans)

-- a port is listed as long as its hub is
pub listed_as : {roots : ℕ} {es : Entries} (fs : Entries) (path : List ℕ)
    → ((hub : List ℕ) → parent_of path ≡ Some hub → finding_at hub es ≡ finding_at hub fs)
    → IsListedPort roots es path → IsListedPort roots fs path
listed_as fs path same port = grind arith

-- The ports at a path and below it

parent_some : (path : List ℕ) → 2 ≤ length path → (hub : List ℕ) × (parent_of path ≡ Some hub)
unfolding parent_of
parent_some path long =
    let hub = take (length path - 1) path in (
      hub,
      ap (λ (b : Bool). if b then Some hub else None) (lt-ltb 1 (length path) (omega arith)),
    )

-- a path's port itself, or one of a hub that is there or below
split_by : (first path rest : List ℕ) → 1 ≤ length first → is_way first path ≡ true
    → path ≡ first ++ rest → (path ≡ first)
    ⊎ ((hub : List ℕ) × (parent_of path ≡ Some hub) × (is_way first hub ≡ true))
split_by first path [] some way is = inl (is ∙ append-nil first)
split_by first path (n ∷ rest) some way is =
    let long : length path ≡ length first + length (n ∷ rest) = grind (arith, length-append) in
    let above = parent_some path (omega arith) in
    let joined = rejoined path _ above.1 in
    let short : length path ≡ length above.0 + 1 =
    grind (arith, length-append) in grind (arith, way_hub)

split : (first path : List ℕ) → 1 ≤ length first → is_way first path ≡ true → (path ≡ first)
    ⊎ ((hub : List ℕ) × (parent_of path ≡ Some hub) × (is_way first hub ≡ true))
split first path some way = grind (arith, split_by, way_rest)

-- what is known elsewhere, at the path, and of the ports of hubs there and below it, is known
pub known_whole : (first : List ℕ) (w : World) (es : Entries) → 1 ≤ length first
    → KnownBut first w es → IsKnownAs w first (finding_at first es)
    → ((path hub : List ℕ) → parent_of path ≡ Some hub → is_way first hub ≡ true
    → IsListedPort (roots_of w) es path → IsKnownAs w path (finding_at path es)) → PortsListed w es
known_whole first w es some others here below path port = elim (decided (is_way first path)) [
  | inl way ↦ elim (split first path some way) [
    | inl same ↦ rw same here
    | inr x ↦ below path x.0 x.1 x.2 port
  ]
  | inr away ↦ others path away port
]

-- Entries go

pub known_dropped : (first : List ℕ) (w : World) (es : Entries) → KnownBut first w es
    → KnownBut first w (without first es)
known_dropped first w es known = search (finding-kept, hub_elsewhere, listed_as)

-- nothing is listed at a path and below it, and nothing stands there
pub known_vacant : (first : List ℕ) (w : World) (es : Entries) → 1 ≤ length first
    → has_at first es ≡ false → KnownBut first w es → IsKnownAs w first None → PortsListed w es
known_vacant first w es some gone known here = grind (arith, finding-none, known_whole, way_itself)

is_told_at-same : {options : HostOptions} (w : World) (es fs : Entries) (path : List ℕ)
    → finding_at path fs ≡ finding_at path es → known_supply path fs ≡ known_supply path es
    → IsAccurateAt options w es path → IsAccurateAt options w fs path
is_told_at-same w _ _ _ same supply told device s at on stands =
    let t = told device s (ap accepted_device_of (sym same) ∙ at) on stands in grind arith

caused_as : (options : HostOptions) (w : World) (es fs : Entries) (path : List ℕ)
    → finding_at path fs ≡ finding_at path es
    → known_supply path fs ≡ known_supply path es → IsJustifiedAt options w es path
    → IsJustifiedAt options w fs path
caused_as options w es fs path same supply caused cause s at stands =
    elim (caused cause s (sym same ∙ at) stands) [
      | inl pends ↦ inl pends
      | inr right ↦ inr (rw supply right)
    ]

supply_known : (path : List ℕ) {o u : Option KnownPort} → o ≡ u
    → unwrap_or (option_map (λ (known : KnownPort). known.supply) o) 0
    ≡ unwrap_or (option_map (λ (known : KnownPort). known.supply) u) 0
supply_known path e = grind arith

supply-kept : (first path : List ℕ) (es : Entries) → is_way first path ≡ false
    → known_supply path (without first es) ≡ known_supply path es
supply-kept first path es away = search (at_or_below_way, known_away, supply_known)

pub truthful_dropped : {options : HostOptions} (first : List ℕ) (w : World) (es : Entries)
    → TruthfulBut options first w es
    → DevicesAccurate options w (without first es)
truthful_dropped {options = options} first w es told path = elim (decided (is_way first path)) [
  | inl way ↦ λ device s at on stands. absurd
      (cc (ap accepted_device_of (finding-dropped first path es way), at))
  | inr away ↦ is_told_at-same w es (without first es) path (finding-kept first path es away)
      (supply-kept first path es away) (told path away)
]

pub causes_dropped : (options : HostOptions) (first : List ℕ) (w : World) (es : Entries)
    → CausesBut options first w es
    → RefusalsJustified options w (without first es)
causes_dropped options first w es caused path = elim (decided (is_way first path)) [
  | inl way ↦ λ cause s at stands. absurd (cc (finding-dropped first path es way, at))
  | inr away ↦
      caused_as options w es (without first es) path (finding-kept first path es away)
      (supply-kept first path es away) (caused path away)
]

-- An entry comes, where none is at its path or below it

module _ (first : List ℕ) (f : Finding) (es : Entries) (some : 1 ≤ length first)
    (gone : has_at first es ≡ false) where
  abbrev entered : Entries
  entered = insert_entry path_cmp es first f

  finding-entered : (path : List ℕ) → is_at (path_cmp path) first ≡ false
      → finding_at path entered ≡ finding_at path es
  finding-entered path apart = lookup-insert_entry_elsewhere path first f es apart

  supply-entered : (path : List ℕ) → is_way first path ≡ false
      → known_supply path entered ≡ known_supply path es
  supply-entered path away = grind (arith, hub_elsewhere, known_entered, untied)

  -- below it stands nothing yet
  finding-below : (path hub : List ℕ) → parent_of path ≡ Some hub → is_way first hub ≡ true
      → finding_at path entered ≡ None
  finding-below path hub is way =
      let short : length path ≡ length hub + 1 = ap length (rejoined path _ is) ∙ length-append
      hub (port_on_hub path ∷ []) in
      let rest = way_rest first hub way in
      let long : length hub ≡ length first + length rest.0 = grind (arith, length-append) in
      finding-entered path (longer path (omega arith) _ refl)
      ∙ finding-none first path es gone (search (way_parent, way_trans))
    where
      longer : (path : List ℕ) → length first + 1 ≤ length path → (b : Bool)
          → is_at (path_cmp path) first ≡ b → is_at (path_cmp path) first ≡ false
      longer path long true tie = let same : length path ≡ length first =
          ap length (path_tied path first tie) in absurd (omega arith)
      longer _ _ false tie = tie

  known_but_entered : (w : World) → KnownBut first w es → KnownBut first w entered
  known_but_entered w known = grind (arith, finding-entered, hub_elsewhere, untied)

  -- and each port of what was found, where that is a hub, is vacant or pending
  pub known_found : (w : World) → KnownBut first w es → IsKnownAs w first (Some f)
      → ((n : ℕ) → IsSomeAnd (hub_facts_in (Some f)) (λ facts. (1 ≤ n) × (n ≤ facts.ports))
      → IsKnownAs w (first ++ n ∷ []) None) → PortsListed w entered
  known_found w known here ports =
      known_whole first w entered some (known_but_entered w known)
      (rw (lookup-insert_entry_here first f es) here)
      (λ path hub is way port. subst (IsKnownAs w path) (sym (finding-below path _ is way))
      (below path hub is way port (is_at (path_cmp hub) first) refl))
    where
      below : (path hub : List ℕ) → parent_of path ≡ Some hub → is_way first hub ≡ true
          → IsListedPort (roots_of w) entered path → (b : Bool) → is_at (path_cmp hub) first ≡ b
          → IsKnownAs w path None
      below path hub is _ port true tie =
          let at : IsPortBelow (roots_of w) entered (Some first) (port_on_hub path) =
          rw (path_tied hub first tie) at (rw is at port.port) in
          let own : IsSomeAnd (hub_facts_in (Some f)) (λ facts. (1 ≤ port_on_hub path)
          × (port_on_hub path ≤ facts.ports)) = grind (arith, lookup-insert_entry_here) in
          let joined : path ≡ first ++ port_on_hub path ∷ [] = rejoined path _ is ∙ ap
          (λ (l : List ℕ). l ++ port_on_hub path ∷ []) (path_tied hub first tie) in grind arith
      below _ hub is way port false apart = grind (arith, finding-entered, finding-none)

  pub truthful_found : {options : HostOptions} (w : World) → DevicesAccurate options w es
      → IsAccurateAt options w entered first
      → DevicesAccurate options w entered
  truthful_found w told here path = elim (decided (is_at (path_cmp path) first)) [
    | inl tie ↦ rw (path_tied path first tie) here
    | inr apart ↦ elim (decided (is_way first path)) [
      | inl way ↦ λ device s at on stands. absurd (grind (arith, finding-entered, finding-none))
      | inr away ↦ is_told_at-same w es entered path (finding-entered path apart)
          (supply-entered path away) (told path)
    ]
  ]

  pub causes_found : (options : HostOptions) (w : World) → RefusalsJustified options w es
      → IsJustifiedAt options w entered first
      → RefusalsJustified options w entered
  causes_found options w caused here path = elim (decided (is_at (path_cmp path) first)) [
    | inl tie ↦ rw (path_tied path first tie) here
    | inr apart ↦ elim (decided (is_way first path)) [
      | inl way ↦ λ cause s at stands. absurd
          (cc (finding-entered path apart ∙ finding-none first path es gone way, at))
      | inr away ↦ caused_as options w es entered path (finding-entered path apart)
          (supply-entered path away) (caused path)
    ]
  ]
