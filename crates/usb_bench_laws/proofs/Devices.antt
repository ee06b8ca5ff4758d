-- What is so of an accepted device, by its finding and by what it is set to.
use Rattle.std.proofs.Common.{◌≡◌, ◌≤◌, ◌<◌, ◌==◌, ◌∙◌, refl, sym, ap, subst, arith, ℕ, Bool}
use Rattle.std.proofs.Common.{true, false, not, nat_le, nat_lt, List, [], length, append-nil, min}
use Rattle.std.proofs.Common.{take, Option, None, Some, option_map, Result, Ok, Err, if◌then◌else◌}
use Rattle.std.proofs.Common.{slice_index, slice_index_or, IsSomeAnd, IfSome, ne_of_gt}
use Rattle.std.specs.Global.{Vec}
use Rattle.std.proofs.lemmas.Bool.{and_parts, leb-true, ne_eqb}
use Rattle.std.proofs.lemmas.List.{get_or-map, length-map, length-take}
use Rattle.std.proofs.lemmas.List.Quantifiers.{position-Some}
use Rattle.std.proofs.lemmas.Option.{same_Some}
use Rattle.usb_port.specs.{supply_of}
use Rattle.usb_request.specs.{HUB_CLASS}
use Rattle.usb_descriptor.specs.{DescriptorFault, config_head_of, total_in}
use Rattle.usb_descriptor.proofs.Interface.{header_of}
use Rattle.usb_device.specs.{Hub, Spec, IsSpec, State, has_hub_class, hub_fits, hub_ports, text_of}
use Rattle.usb_device.specs.{text_with, total_of}
use Rattle.usb_enum.specs.{Accepted, HostOptions, HubFacts, IsFindingOf, IsSet, configuration_of}
use Rattle.usb_enum.specs.{facts_of, is_hub_device, need_of, needs_of, text_read, texts_of}
use Rattle.usb_enum.specs.declared.finding.Finding.TheVariants.{Device}
use Rattle.usb_enum.proofs.Interface.{AcceptsChosen, HasChosen, accepts, has_chosen}
use Rattle.usb_judge.specs.declared.listed.ListedDevice.{ListedDevice}
use Rattle.usb_judge.specs.{IsFrontOf, IsPowered, IsSo, configuration_in, need_in, state_seen}
use Rattle.usb_bench_laws.specs.{SaidDevice, device_of_entry, device_said}

-- Hubs

-- a device with ports has the class of hubs
pub is_hub : (spec : Spec) → IsSpec spec → 1 ≤ hub_ports spec.hub
    → is_hub_device spec.descriptor ≡ true
is_hub spec ruled some = by_hub spec.hub some ruled.fits
  where
    by_hub : (o : Option Hub) → 1 ≤ hub_ports o → hub_fits spec.low spec.descriptor o ≡ true
        → is_hub_device spec.descriptor ≡ true
    by_hub None least fits = absurd (omega (arith, least))
    by_hub (Some h) least fits =
        let class : has_hub_class spec.descriptor ≡ true =
        (and_parts (not spec.low) (has_hub_class spec.descriptor) fits).1 in
        (and_parts (nat_lt 4 (length spec.descriptor))
        (slice_index spec.descriptor 4 == HUB_CLASS) class).1

-- what a hub says of its ports is how many it has
pub facts_told : (spec : Spec) → is_hub_device spec.descriptor ≡ true → facts_of spec ≡ Some
    (record { ports = hub_ports spec.hub; supply = supply_of false spec.self_powered })
facts_told spec is = rw is refl

ports_told : (spec : Spec) (o : Option HubFacts) → o ≡ facts_of spec
    → IfSome (option_map (λ (facts : HubFacts). facts.ports) o)
    (λ ports. ports ≡ hub_ports spec.hub)
ports_told spec o is = subst (λ x. IfSome (option_map (λ (facts : HubFacts). facts.ports) x)
    (λ ports. ports ≡ hub_ports spec.hub)) (sym is) (by_test (is_hub_device spec.descriptor))
  where
    by_test : (b : Bool) → IfSome (option_map (λ (facts : HubFacts). facts.ports)
        (if b then Some (record {
          ports = hub_ports spec.hub;
          supply = supply_of false spec.self_powered;
        }) else None)) (λ ports. ports ≡ hub_ports spec.hub)
    by_test true = refl
    by_test false = tt

-- Configurations

-- the text of the configuration that was chosen is a configuration descriptor at least
chosen_long : (spec : Spec) (chosen : ℕ) (h : HasChosen spec chosen)
    → 9 ≤ length (text_read h.text)
unfolding text_read
chosen_long spec chosen h = by_head (config_head_of (take 9 h.text)) refl
  where
    by_head : (r : Result ℕ DescriptorFault) → config_head_of (take 9 h.text) ≡ r
        → 9 ≤ length (text_read h.text)
    by_head (Ok total) is =
        let least = (header_of (take 9 h.text) total is).least in
        let long = h.read.long in
        let size : length (text_read h.text) ≡ min total (length h.text) =
        ap (λ r. length (take (total_in r) h.text)) is ∙ length-take total h.text in
        omega (arith, least, long, size)
    by_head (Err fault) is =
        let none : slice_index (text_read h.text) 5 ≡ 0 =
        ap (λ r. slice_index (take (total_in r) h.text) 5) is in
        let value = h.read.value in
        let some = h.read.some in
        absurd (omega (arith, none, value, some))

abbrev cut_text : List ℕ → List ℕ
cut_text text = take (min (total_of text) (length text)) text

module _ (options : HostOptions) (tier supply : ℕ) (device : Accepted) (s : State)
    (found : IsFindingOf s.spec options tier supply (Device device)) (set : IsSet device s) where
  accepted : AcceptsChosen s.spec options supply device.chosen
  accepted = accepts s.spec options tier supply device.chosen found.0

  chosen : HasChosen s.spec device.chosen
  chosen = has_chosen s.spec supply device.chosen accepted

  text_there : configuration_of device ≡ slice_index_or (texts_of s.spec) device.chosen []
  text_there = ap (λ texts. slice_index_or texts device.chosen []) found.1.configs

  text_is : configuration_of device ≡ text_read chosen.text
  text_is = text_there ∙ chosen.is

  configured : s.registers.configuration ≡ slice_index chosen.text 5
  configured = set.configuration ∙ ap (λ t. slice_index t 5) text_is ∙ chosen.read.value

  text_same : text_of s.spec s.registers ≡ configuration_of device
  text_same = ap (λ v. cut_text (text_with v s.spec.configs)) configured ∙ ap cut_text chosen.found
      ∙ chosen.read.read ∙ sym text_is

  -- the configuration that it has is the one that is listed
  has_configuration : configuration_in s ≡ Some (configuration_of device)
  has_configuration =
      ap (λ n. if n == 0 then None else Some (text_of s.spec s.registers)) configured
      ∙ ap (λ b. if b then None else Some (text_of s.spec s.registers))
      (ne_eqb (slice_index chosen.text 5) 0 (ne_of_gt chosen.read.some))
      ∙ ap (λ t. Some t) text_same

  long : 9 ≤ length (configuration_of device)
  long = subst (λ t. 9 ≤ length t) (sym text_is) (chosen_long s.spec device.chosen chosen)

  -- it needs no more than its port gives
  need_fits : need_in (configuration_of device) ≤ supply
  unfolding needs_of
  need_fits =
      let texts = texts_of s.spec in
      let first = position-Some (λ need. nat_le need supply) (needs_of texts) device.chosen 0
      accepted.within in
      let inside = subst (λ n. device.chosen < n) (length-map texts need_of) first.0 in
      let read = get_or-map need_of texts device.chosen [] 0 inside in
      subst (λ n. n ≤ supply) (read ∙ ap need_of (sym text_there))
      (leb-true (slice_index_or (needs_of texts) device.chosen 0) supply first.1)

  -- a listed device of which is said what the entry says
  module _ (listed : ListedDevice) (said : device_said listed ≡ device_of_entry device) where
    front_said : (o : Option (Vec ℕ)) → option_map (λ (text : Vec ℕ). text.items) o
        ≡ Some (configuration_of device)
        → IfSome o (λ text. IsSomeAnd (configuration_in s) (IsFrontOf text.items))
    front_said None is = tt
    front_said (Some text) is =
        let same : text.items ≡ configuration_of device = same_Some text.items
        (configuration_of device) is in
        subst (λ o. IsSomeAnd o (IsFrontOf text.items)) (sym has_configuration) (record {
          least = subst (λ t. 9 ≤ length t) (sym same) long;
          rest = [];
          goes_on = sym same ∙ sym (append-nil text.items);
        })

    pub is_so : (reached : Bool) → reached ≡ true → 1 ≤ device.address
        → IsSo listed (state_seen reached supply s)
    is_so reached on given =
        let address : listed.address ≡ device.address = ap (λ (d : SaidDevice). d.address) said in
        record {
          enabled = on;
          descriptor = ap (λ (d : SaidDevice). d.descriptor) said ∙ found.1.bytes;
          speed = ap (λ (d : SaidDevice). d.low) said ∙ found.1.low;
          address = address ∙ sym set.address;
          given = subst (λ n. 1 ≤ n) (sym address) given;
          configuration = front_said listed.configuration
              (ap (λ (d : SaidDevice). d.configuration) said);
          ports = subst (λ o. IfSome o (λ ports. ports ≡ hub_ports s.spec.hub))
              (sym (ap (λ (d : SaidDevice). d.ports) said))
              (ports_told s.spec device.hub found.1.hub);
        }

  pub is_powered : (reached : Bool) → IsPowered (state_seen reached supply s)
  is_powered reached on = subst (λ o. IfSome o (λ text. need_in text ≤ supply))
      (sym has_configuration) need_fits
