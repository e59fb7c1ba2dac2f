-- What pairs of words set: the keys of settings, each with its value after it.
use Rattle.std.specs.Prelude.{◌≡◌, ◌⊎◌, List, [], ◌∷◌, Option, Some, None, option_and_then, option_map}
use Rattle.clap.specs.Walk.{Text}
use Rattle.station_pair.specs.declared.world_config.WorldConfig.{WorldConfig}
use Rattle.cfdp_report.specs.Numbers.{number_of}
use Rattle.cfdp_report.specs.Settings.{default_settings, set_value, setting_of, world_of}
use Rattle.cfdp_report.specs.declared.settings.Settings.{Settings}
use Rattle.cfdp_report.specs.Settings.{AreValid}

-- the settings after one pair; none if the first word is no key, or the second one no number
abbrev pub set_by : (key value : Text) → Settings → Option Settings
set_by key value s = option_and_then
    (λ setting. option_map (λ number. set_value s setting number) (number_of value))
    (setting_of key)

-- the settings after all pairs, one after the other
unfoldable pub set_all : List Text → Settings → Option Settings
set_all [] s = Some s
set_all (key ∷ []) s = Some s
set_all (key ∷ value ∷ rest) s = option_and_then (set_all rest) (set_by key value s)

-- These words set this configuration of both stations of a loop, from a script's defaults on.
pub record IsSetBy (words : List Text) (config : WorldConfig) : Type 0 where
  pub settings : Settings
  pub set : set_all words default_settings ≡ Some settings
  pub same : config ≡ world_of settings

-- They set none: a pair of them sets nothing, or the stations can't be set up so.
abbrev pub CannotBeSet : List Text → Type 0
CannotBeSet words = (set_all words default_settings ≡ None)
    ⊎ ((s : Settings) × (set_all words default_settings ≡ Some s) × (AreValid s → ⊥))
