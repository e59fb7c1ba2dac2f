mod WordLemmas
mod SettingsRows
