mod CommandWords
mod CommandLines
mod SetLemmas
