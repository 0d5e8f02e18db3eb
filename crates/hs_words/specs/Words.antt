-- What the words of the command line say. The command is a simple one of `clap`, and the specification of `clap` gives its meaning:
-- `fault_of` is empty where it takes the words, and `matches_of` is then what it finds in them. The form and the range of numbers, and
-- that FILE and `--gen` exclude one another, are our own.
--     horsat        the command
--     number_in     the number that one to nine digits write, where it is in a range
--     settings_in   what the matches say of how the verdict is found and of what is shown
--     said          what the matches say
--     options_of    what the words say; none where they are refused
--     AreWithin     what holds of options that were read
use Rattle.std.specs.Prelude.{◌≡◌, ℕ, ◌≤◌, ◌&&◌, Bool, true, false, List, map, length, codes, Option, Some, None, is_some, option_map, option_and_then, if◌then◌else◌, nat_le}
use Rattle.std.specs.Borrow.{Bor}
use Rattle.std.specs.Option.{option_map_or}
use Rattle.std.specs.Char.{is_ascii_digit}
use Rattle.std.specs.List.{list_all}
use Rattle.std.specs.Str.{bytes_eq}
use Rattle.std.specs.Str.Parse.{digits_value}
use Rattle.clap.specs.declared.builder.action.ArgAction.TheVariants.{SetTrue}
use Rattle.clap.specs.Walk.{Row, Rule, first_of, is_empty}
use Rattle.clap.specs.Simple.{App, Shape, new_app, new_rule, with_rule, matches_of, on_top}
use Rattle.clap.specs.Faults.{fault_of}
use Rattle.hs_words.specs.declared.options.Options.{Options}
use Rattle.hs_words.specs.declared.options.Settings.{Settings}
use Rattle.hs_words.specs.Settings.{AreSettingsWithin}

-- `--name`, and `--name` with a value
abbrev pub flag : List ℕ → Rule
flag name = record (new_rule name) { long = Some name; action = Some SetTrue }

abbrev pub option : List ℕ → Rule
option name = record (new_rule name) { long = Some name }

-- no `--help`
abbrev pub bare : App
bare = on_top (λ (s : Shape). record s { disable_help_flag = true }) (new_app (codes "horsat"))

-- the options that bound a run, and those without a value
abbrev pub with_bounds : App → App
with_bounds command = with_rule (with_rule (with_rule command (option (codes "workers"))) (option (codes "entries"))) (option (codes "steps"))

abbrev pub with_flag : App → List ℕ → App
with_flag command name = with_rule command (flag name)

abbrev pub with_flags : App → App
with_flags command =
    with_flag (with_flag (with_flag (with_flag (with_flag (with_flag command
    (codes "table")) (codes "first")) (codes "minimal")) (codes "quick")) (codes "explain")) (codes "simplify")

-- the first of the words is the program's name, and one that is no option is FILE
abbrev pub horsat : App
horsat = with_rule (with_rule (with_flags (with_bounds bare)) (option (codes "gen"))) (new_rule (codes "file"))

-- one to nine ASCII digits
abbrev pub is_numeral : List ℕ → Bool
is_numeral text = nat_le 1 (length text) && (nat_le (length text) 9 && list_all is_ascii_digit text)

abbrev pub number_in : ℕ → ℕ → List ℕ → Option ℕ
number_in least most text = if is_numeral text && (nat_le least (digits_value 10 text) && nat_le (digits_value 10 text) most) then Some (digits_value 10 text) else None

-- the number of an option with a default, and of one without; none where its value is refused
abbrev pub number_or : ℕ → ℕ → ℕ → Option (List ℕ) → Option ℕ
number_or default least most value = option_map_or (number_in least most) value (Some default)

abbrev pub number_if : ℕ → ℕ → Option (List ℕ) → Option (Option ℕ)
number_if least most value = option_map_or (λ text. option_map (λ n. Some n) (number_in least most text)) value (Some None)

-- the value of a flag
abbrev pub is_set : Option (List ℕ) → Bool
is_set value = option_map_or (λ text. bytes_eq text (codes "true")) value false

pub record OptionsData : Type 0 where
  pub settings : Settings
  pub cycle : Option ℕ
  pub file : Option (List ℕ)

-- FILE and `--gen` exclude one another
abbrev pub unless_both : OptionsData → Option OptionsData
unless_both o = if is_some o.cycle && is_some o.file then None else Some o

-- whether the matches have the flag
abbrev pub has_flag : List Row → List ℕ → Bool
has_flag rows name = is_set (first_of name rows)

-- the settings with these bounds, and the flags that the matches have
abbrev pub settings_with : List Row → ℕ → ℕ → ℕ → Settings
settings_with rows workers entries steps = record {
  workers = workers;
  entries = entries;
  steps = steps;
  table = has_flag rows (codes "table");
  first = has_flag rows (codes "first");
  minimal = has_flag rows (codes "minimal");
  quick = has_flag rows (codes "quick");
  explain = has_flag rows (codes "explain");
  simplify = has_flag rows (codes "simplify");
}

-- what the matches say of the settings
abbrev pub settings_in : List Row → Option Settings
settings_in rows =
    option_and_then (λ w. option_and_then (λ e. option_and_then (λ s. Some (settings_with rows w e s))
    (number_or 1000000 1 4000000 (first_of (codes "steps") rows))) (number_or 200000 1 1000000 (first_of (codes "entries") rows)))
    (number_or 4 1 16 (first_of (codes "workers") rows))

-- what the settings, `--gen` and FILE say together
abbrev pub said_by_values : Option Settings → Option (List ℕ) → Option (List ℕ) → Option OptionsData
said_by_values settings cycle file =
    option_and_then (λ s. option_and_then (λ c. unless_both (record { settings = s; cycle = c; file = file })) (number_if 1 300 cycle)) settings

-- what the matches say
abbrev pub said : List Row → Option OptionsData
said rows = said_by_values (settings_in rows) (first_of (codes "gen") rows) (first_of (codes "file") rows)

abbrev pub options_of : List (List ℕ) → Option OptionsData
options_of words = if is_empty (fault_of horsat words) then said (matches_of horsat words) else None

-- the words that are borrowed, and what options that were read say
abbrev pub texts : List (Bor (List ℕ)) → List (List ℕ)
texts words = map (λ w. w.now) words

abbrev pub said_by : Options → OptionsData
said_by o = record { settings = o.settings; cycle = o.cycle; file = option_map (λ f. f.now) o.file }

-- the numbers are in their ranges, and not both a file and a cycle are given
pub record AreWithin (o : Options) : Type 0 where
  pub settings : AreSettingsWithin o.settings
  pub cycle : (k : ℕ) → o.cycle ≡ Some k → (1 ≤ k) × (k ≤ 300)
  pub one : is_some o.cycle && is_some o.file ≡ false
