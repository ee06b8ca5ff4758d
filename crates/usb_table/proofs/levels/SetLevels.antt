-- What SET_INTERFACE makes of the pipes to a function: they are as far as the endpoints at their
-- other ends.
use Rattle.std.proofs.Common.{◌≡◌, ◌∙◌, refl, ap, arith, Bool, true, false, ℕ, zero, suc, ◌+◌, ◌<◌}
use Rattle.std.proofs.Common.{◌≤◌, List, [], ◌∷◌, length, get_or, Option, Some, None, ◌==◌, eq-eqb}
use Rattle.std.proofs.Common.{IfSome}
use Rattle.std.proofs.lemmas.Bool.{cases_lt}
use Rattle.std.proofs.lemmas.List.{get_or_past}
use Rattle.usb_descriptor.specs.{names_in, EndpointTable, IsTableOf, end_at, usable_under}
use Rattle.usb_descriptor.specs.{EndpointKind, UsableEndpoint, default_settings, settable_in}
use Rattle.usb_descriptor.specs.{with_setting, max_of_usable}
use Rattle.usb_device.specs.{numbered_from, State, begun_if, in_data, in_end, in_max, is_of_setting}
use Rattle.usb_device.specs.{out_end, out_max, rested, rested_in, rested_out, served_at, set_to}
use Rattle.usb_device.specs.{tells_changes, text_of, with_interface}
use Rattle.usb_table.specs.{replaced_if, replaced_row, AreFunctionPipes, AreWhole, FunctionPipes}
use Rattle.usb_table.specs.{IsPlace, cleared_row, end_under, first_endpoint, first_number}
use Rattle.usb_table.specs.{number_of, lost_at, lost_function, lost_row, mark_of, marked_row}
use Rattle.usb_table.specs.{new_pipe, pipe_at, row_at, row_of_ends, set_function, set_pipe, set_row}
use Rattle.usb_table.specs.{AreInPlace, FitsIn, FitsOut, FunctionInSync}
use Rattle.std.proofs.Math.Path.{fun_ext}
use Rattle.usb_transfer.specs.{Target, PipeState}
use Rattle.usb_descriptor.proofs.Interface.{length-default_settings, length-with_setting}
use Rattle.usb_descriptor.proofs.Interface.{setting_of-with_setting, usable-elsewhere, usable-named}
use Rattle.usb_descriptor.proofs.Interface.{usable-own, usable_under-small}
use Rattle.usb_enum.specs.{Accepted, configuration_of, target_of}
use Rattle.usb_table.proofs.levels.NewPipes.{new_pipe_fits, row_of_ends-at, none_at, new_fits}
use Rattle.std.proofs.lemmas.Bool.Decides.{nat_tests}
use Rattle.usb_device.proofs.Interface.{in_end-setting, in_max-elsewhere, is_of_setting-elsewhere}
use Rattle.usb_device.proofs.Interface.{out_end-setting, out_max-elsewhere}
use Rattle.usb_world.proofs.Interface.{or_right}
use Rattle.usb_hub.specs.{TookSetting, offers_setting}
use Rattle.usb_table.proofs.levels.FittingPipes.{is_status, same_halts, sink_level, source_level}
use Rattle.usb_table.proofs.levels.FittingPipes.{FitsWay, state_at, way-none}

-- Rows in which the endpoints of an interface were replaced.

none_below : {P : Type 0} (n : ℕ) → n < 0 → P
none_below n h = grind arith

module _ {A : Type 0} where
  length-numbered_from : (change : ℕ → A → A) (first : ℕ) (row : List A)
      → length (numbered_from change first row) ≡ length row
  unfolding numbered_from
  length-numbered_from change first [] = refl
  length-numbered_from change first (y ∷ row) =
      ap suc (length-numbered_from change (first + 1) row)

  -- each place of the row is changed by its number
  numbered-within : (change : ℕ → A → A) (none : A) (first e : ℕ) (row : List A) → e < length row
      → get_or (numbered_from change first row) e none ≡ change (first + e) (get_or row e none)
  unfolding numbered_from
  numbered-within change none first e [] h = none_below e h
  numbered-within change none first zero (y ∷ row) h = grind arith
  numbered-within change none first (suc e) (y ∷ row) h =
      grind (arith, numbered-within change none (first + 1) e row (omega (arith, h)))

  module _ (text : List ℕ) (interface : ℕ) (is_in : Bool) (change : ℕ → A → A) (none : A)
      (row : List A) (e : ℕ) where
    within : e < length row → get_or (replaced_row text interface is_in change row) e none
        ≡ replaced_if text interface is_in change e (get_or row e none)
    within h = grind (arith, numbered-within)

    replaced-past : length row ≤ e
        → get_or (replaced_row text interface is_in change row) e none ≡ none
    replaced-past h = grind (arith, get_or_past, length-numbered_from)

    -- where the interface has an endpoint
    replaced-named : names_in interface is_in e text ≡ true → e < length row
        → get_or (replaced_row text interface is_in change row) e none
        ≡ change e (get_or row e none)
    replaced-named named h = grind (arith, within)

    -- and nothing is left there
    replaced-all : ((had : A) → change e had ≡ none) → names_in interface is_in e text ≡ true
        → get_or (replaced_row text interface is_in change row) e none ≡ none
    replaced-all empties named = grind (arith, cases_lt, replaced-named, replaced-past)

    -- and where it has none
    replaced-elsewhere : names_in interface is_in e text ≡ false
        → get_or (replaced_row text interface is_in change row) e none ≡ get_or row e none
    replaced-elsewhere named = grind (arith, cases_lt, get_or_past, replaced-past, within)

  length-replaced_row : (text : List ℕ) (interface : ℕ) (is_in : Bool) (change : ℕ → A → A)
      (row : List A) → length (replaced_row text interface is_in change row) ≡ length row
  length-replaced_row text interface is_in change row = grind (arith, length-numbered_from)

-- What SET_INTERFACE makes of the pipes to a function.

-- What is made of endpoints that were found

module _ (device : Accepted) (below_hub : Bool) (interface setting : ℕ) (settings config_text :
    List ℕ)
    (ends : EndpointTable) (target : Target) (text_is : config_text ≡ configuration_of device)
    (settings_are : settings ≡ with_setting interface setting default_settings)
    (found : IsTableOf (λ to_host e. usable_under settings device.low to_host e config_text) ends)
    (target_is : target ≡ target_of device below_hub) where
  end_is : (is_in : Bool) (e : ℕ) → end_at ends is_in e
      ≡ end_under (with_setting interface setting default_settings) device is_in e
  end_is is_in e = grind (arith, text_is)

  pipe_is : (is_in : Bool) (e : ℕ) → get_or (row_of_ends target is_in (end_at ends is_in)) e None
      ≡ set_pipe device below_hub interface setting is_in e
  pipe_is is_in e = grind (arith, end_is, none_at, row_of_ends-at)

  pub row_is : (is_in : Bool) (new : List (Option PipeState))
      → new ≡ row_of_ends target is_in (end_at ends is_in) → (row now : List (Option PipeState))
      → now ≡ replaced_row config_text interface is_in (λ e had. get_or new e None) row
      → now ≡ set_row device below_hub interface setting is_in row
  row_is is_in new made row now is = grind (arith, fun_ext, pipe_is, text_is)

module _ (device : Accepted) (below_hub : Bool) (interface setting : ℕ) (pipes : FunctionPipes)
  where
    abbrev pub config_text : List ℕ
    config_text = configuration_of device

    abbrev pub after_set : FunctionPipes
    after_set = set_function device below_hub interface setting pipes

    abbrev pub after_loss : FunctionPipes
    after_loss = lost_function device interface pipes

    -- What stands at a place after it

    set_row-at : (is_in : Bool)
        → row_at is_in after_set ≡ set_row device below_hub interface setting is_in
        (row_at is_in pipes)
    set_row-at is_in = grind arith

    set_marks-at : (is_in : Bool)
        → lost_row is_in after_set ≡ cleared_row config_text interface is_in (lost_row is_in pipes)
    set_marks-at is_in = grind arith

    loss_row-at : (is_in : Bool)
        → row_at is_in after_loss ≡ cleared_row config_text interface is_in (row_at is_in pipes)
    loss_row-at is_in = grind arith

    loss_marks-at : (is_in : Bool) → lost_row is_in after_loss
        ≡ marked_row config_text interface is_in (row_at is_in pipes) (lost_row is_in pipes)
    loss_marks-at is_in = grind arith

    module _ (is_in : Bool) (e : ℕ) where
      abbrev mark : ℕ → Option EndpointKind → Option EndpointKind
      mark k kind = mark_of (get_or (row_at is_in pipes) k None) kind

      module _ (apart : names_in interface is_in e config_text ≡ false) where
        set-elsewhere : pipe_at is_in e after_set ≡ pipe_at is_in e pipes
        set-elsewhere = grind (arith, replaced-elsewhere, set_row-at)

        set_mark-elsewhere : lost_at is_in e after_set ≡ lost_at is_in e pipes
        set_mark-elsewhere = grind (arith, replaced-elsewhere, set_marks-at)

        loss-elsewhere : pipe_at is_in e after_loss ≡ pipe_at is_in e pipes
        loss-elsewhere = grind (arith, loss_row-at, replaced-elsewhere)

        loss_mark-elsewhere : lost_at is_in e after_loss ≡ lost_at is_in e pipes
        loss_mark-elsewhere = grind (arith, loss_marks-at, replaced-elsewhere)

      module _ (named : names_in interface is_in e config_text ≡ true) where
        set-named : e < length (row_at is_in pipes)
            → pipe_at is_in e after_set ≡ set_pipe device below_hub interface setting is_in e
        set-named h = grind (arith, replaced-named, set_row-at)

        set-past : length (row_at is_in pipes) ≤ e → pipe_at is_in e after_set ≡ None
        set-past h = grind (arith, replaced-past, set_row-at)

        set_mark-named : lost_at is_in e after_set ≡ None
        set_mark-named = grind (arith, replaced-all, set_marks-at)

        loss-named : pipe_at is_in e after_loss ≡ None
        loss-named = grind (arith, loss_row-at, replaced-all)

        loss_mark-named : e < length (lost_row is_in pipes) → lost_at is_in e after_loss
            ≡ mark_of (pipe_at is_in e pipes) (lost_at is_in e pipes)
        loss_mark-named h = grind (arith, loss_marks-at, replaced-named)

      loss_mark-past : length (lost_row is_in pipes) ≤ e → lost_at is_in e after_loss ≡ None
      loss_mark-past h = grind (arith, loss_marks-at, replaced-past)

    -- They are those to a function

    module _ (are : AreFunctionPipes device below_hub pipes)
        (has : settable_in interface setting config_text ≡ true) (byte : interface < 256) where
      abbrev pub now : List ℕ
      now = with_setting interface setting are.settings

      -- where the interface has an endpoint, its setting alone counts
      end-named : (is_in : Bool) (e : ℕ) → names_in interface is_in e config_text ≡ true
          → end_under (with_setting interface setting default_settings) device is_in e
          ≡ end_under now device is_in e
      end-named is_in e named =
          grind (arith, length-default_settings, setting_of-with_setting, usable-named)

      module _ (is_in : Bool) (e : ℕ) where
        abbrev Place : Option UsableEndpoint → Option EndpointKind → Option PipeState → Type 0
        Place = IsPlace device below_hub is_in e

        -- what is nowhere said to stand
        past : 16 ≤ e → Place (end_under now device is_in e) None None
        past h = search none_at

        set_place : length (row_at is_in pipes) ≡ 16 → Place (end_under now device is_in e)
            (lost_at is_in e after_set) (pipe_at is_in e after_set)
        set_place size =
            grind (
              arith,
              cases_lt,
              end-named,
              new_pipe_fits,
              past,
              set-elsewhere,
              set-named,
              set-past,
              set_mark-elsewhere,
              set_mark-named,
              usable-elsewhere,
            )

        -- no pipe where none was or where it is lost
        marked : (pipe : Option PipeState) (mark : Option EndpointKind)
            → Place (end_under are.settings device is_in e) mark pipe
            → Place (end_under are.settings device is_in e) (mark_of pipe mark) None
        marked pipe mark is = grind arith

        old_past : 16 ≤ e → Place (end_under are.settings device is_in e) None None
        old_past h = grind (arith, none_at)

        loss_place : length (lost_row is_in pipes) ≡ 16
            → Place (end_under are.settings device is_in e) (lost_at is_in e after_loss)
            (pipe_at is_in e after_loss)
        loss_place size = grind (
          arith,
          cases_lt,
          loss-elsewhere,
          loss-named,
          loss_mark-elsewhere,
          loss_mark-named,
          loss_mark-past,
          marked,
          old_past,
        )

      set_size : AreWhole after_set → (is_in : Bool) → length (row_at is_in pipes) ≡ 16
      set_size whole is_in = grind (arith, length-replaced_row)

      loss_size : AreWhole after_loss → (is_in : Bool) → length (lost_row is_in pipes) ≡ 16
      loss_size whole is_in = grind (arith, length-replaced_row)

      pub set_fits : AreWhole after_set → AreFunctionPipes device below_hub after_set
      set_fits whole = record {
        function = are.function;
        settings = now;
        all = grind (arith, length-with_setting);
        each = grind (arith, set_place, set_size);
        first = by_way;
      }
        where
          by_way : (is_in : Bool) → first_number is_in after_set
              ≡ number_of (first_endpoint is_in device)
          by_way true = are.first true
          by_way false = are.first false

      pub loss_fits : AreWhole after_loss → AreFunctionPipes device below_hub after_loss
      loss_fits whole = grind (arith, loss_place, loss_size)

-- After SET_INTERFACE the pipes are as far as the endpoints at their other ends.

-- where the pipes of an interface are lost, those to other endpoints count
lost_way : (device : Accepted) (below_hub : Bool) (interface setting : ℕ) (pipes : FunctionPipes)
    (v : State) (is_in : Bool)
    → ((e : ℕ) → names_in interface is_in e (configuration_of device) ≡ false
    → FitsWay is_in (pipe_at is_in e pipes) v) → (e : ℕ)
    → FitsWay is_in (pipe_at is_in e (lost_function device interface pipes)) v
lost_way device below_hub interface setting pipes v is_in fits e =
    grind (arith, loss-elsewhere, loss-named, way-none)

-- the pipes of an interface are lost, and the device is as it is
pub loss_kept : (device : Accepted) (below_hub : Bool) (interface setting : ℕ)
    (pipes : FunctionPipes) (v : State) → FunctionInSync device pipes v
    → FunctionInSync device (lost_function device interface pipes) v
loss_kept device below_hub interface setting pipes v f = record {
  text = f.text;
  low = f.low;
  quiet = f.quiet;
  settings = f.settings;
  outs = lost_way device below_hub interface setting pipes v false (λ e apart. f.outs e);
  ins = lost_way device below_hub interface setting pipes v true (λ e apart. f.ins e);
}

module _ (device : Accepted) (below_hub : Bool) (interface setting : ℕ) (pipes : FunctionPipes)
    (placed : AreInPlace pipes) (s v : State) (took : TookSetting interface setting s v)
    (f : FunctionInSync device pipes s) where
  abbrev pub text : List ℕ
  text = configuration_of device

  -- What the device is then

  pub text_is : text_of v.spec v.registers ≡ text_of s.spec s.registers
  text_is = grind arith

  tells_is : tells_changes v.spec v.registers ≡ tells_changes s.spec s.registers
  tells_is = grind arith

  alone_is : (e : ℕ) → is_status v e ≡ is_status s e
  alone_is e = ap (λ (d : State). is_status d e) took.is

  out_is : (e : ℕ) → out_end v e
      ≡ begun_if (is_of_setting s.spec s.registers interface setting false e) rested_out (out_end s
      e)
  out_is e = grind (arith, out_end-setting)

  in_is : (e : ℕ) → in_end v e
      ≡ begun_if (is_of_setting s.spec s.registers interface setting true e) rested_in (in_end s e)
  in_is e = grind (arith, in_end-setting)

  out_most : (e : ℕ) → out_max v e ≡ out_max (set_to s interface setting) e
  out_most e = grind arith

  in_most : (e : ℕ) → in_max v e ≡ in_max (set_to s interface setting) e
  in_most e = grind arith

  data_is : (e : ℕ) → in_data v e ≡ in_data s e
  data_is e = grind arith

  -- Where the interface has no endpoint

  module _ (is_in : Bool) (e : ℕ) (apart : names_in interface is_in e text ≡ false) where
    apart_there : names_in interface is_in e (text_of s.spec s.registers) ≡ false
    apart_there = grind arith

    not_begun : is_of_setting s.spec s.registers interface setting is_in e ≡ false
    not_begun = grind (arith, apart_there, is_of_setting-elsewhere)

  out_stays : (e : ℕ) → names_in interface false e text ≡ false → out_end v e ≡ out_end s e
  out_stays e apart = grind (arith, not_begun, out_is)

  in_stays : (e : ℕ) → names_in interface true e text ≡ false → in_end v e ≡ in_end s e
  in_stays e apart = grind (arith, in_is, not_begun)

  out_beside : (e : ℕ) → names_in interface false e text ≡ false → (o : Option PipeState)
      → IfSome o (λ (p : PipeState). (p.is_in ≡ false) × (p.ep ≡ e)) → FitsOut o s → FitsOut o v
  out_beside e apart o place fit =
      grind (arith, apart_there, out_max-elsewhere, out_most, out_stays, same_halts, sink_level)

  in_beside : (e : ℕ) → names_in interface true e text ≡ false → (o : Option PipeState)
      → IfSome o (λ (p : PipeState). (p.is_in ≡ true) × (p.ep ≡ e)) → FitsIn o s → FitsIn o v
  in_beside e apart None place fit = tt
  in_beside e apart (Some pipe) place (got, fit) =
      let there : names_in interface true pipe.ep text ≡ false = rw place.1 apart in
      let end = in_stays pipe.ep there in (
        got,
        source_level pipe got s v (grind (arith, apart_there, in_max-elsewhere, in_most))
            (alone_is pipe.ep) (data_is pipe.ep) (grind arith)
            (grind (arith, same_halts)) fit,
      )

  way_beside : (is_in : Bool) (e : ℕ) → names_in interface is_in e text ≡ false
      → FitsWay is_in (pipe_at is_in e pipes) v
  way_beside false e apart = out_beside e apart (pipe_at false e pipes) (placed false e) (f.outs e)
  way_beside true e apart = in_beside e apart (pipe_at true e pipes) (placed true e) (f.ins e)

  -- what the host knows of the device is so then
  level_by : (left : FunctionPipes) → ((is_in : Bool) (e : ℕ)
      → FitsWay is_in (pipe_at is_in e left) v) → FunctionInSync device left v
  level_by left fits = record {
    text = text_is ∙ f.text;
    low = grind arith;
    quiet = tells_is ∙ f.quiet;
    settings = grind (arith, length-with_setting);
    outs = fits false;
    ins = fits true;
  }

  -- The interface's pipes are lost

  pub loss_level : FunctionInSync device (lost_function device interface pipes) v
  loss_level = search (level_by, lost_way, way_beside)

  -- Or they are new, where its setting is known

  module _ (has : settable_in interface setting text ≡ true) (byte : interface < 256)
      (offers : offers_setting s interface setting ≡ true) where
    -- while this interface has the setting, and each other one setting 0
    abbrev pub new_end : Bool → ℕ → Option UsableEndpoint
    new_end = end_under (with_setting interface setting default_settings) device

    configured : (s.registers.configuration == 0) ≡ false
    configured = grind arith

    module _ (is_in : Bool) (e : ℕ) (named : names_in interface is_in e text ≡ true) where
      served_is : served_at s.spec (with_interface interface setting s.registers) is_in e
          ≡ new_end is_in e
      served_is =
          grind (arith, configured, length-default_settings, setting_of-with_setting, usable-named)

      module _ (end : UsableEndpoint) (is : new_end is_in e ≡ Some end) where
        begun : is_of_setting s.spec s.registers interface setting is_in e ≡ true
        begun = grind (arith, eq-eqb, or_right, served_is, usable-own)

        most : max_of_usable (served_at s.spec (with_interface interface setting s.registers) is_in
            e) ≡ Some end.max
        most = ap max_of_usable (served_is ∙ is)

        far : (e == 0) ≡ false
        far = grind (arith, nat_tests, usable_under-small)

    rests : (is_in : Bool) (e : ℕ)
        → is_of_setting s.spec s.registers interface setting is_in e ≡ true
        → state_at is_in v e ≡ rested
    rests is_in e begins = grind (arith, in_is, out_is)

    new_way : (is_in : Bool) (e : ℕ) → names_in interface is_in e text ≡ true
        → FitsWay is_in (new_pipe (target_of device below_hub) is_in e (new_end is_in e)) v
    new_way is_in e named = grind (arith, begun, far, most, new_fits, rests, tells_is)

    set_way : (is_in : Bool) (e : ℕ)
        → FitsWay is_in (pipe_at is_in e (set_function device below_hub interface setting pipes)) v
    set_way is_in e =
        grind (arith, cases_lt, new_way, set-elsewhere, set-named, set-past, way-none, way_beside)

    pub set_level : FunctionInSync device (set_function device below_hub interface setting pipes) v
    set_level = search (level_by, set_way)
