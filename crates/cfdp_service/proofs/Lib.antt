mod ChainLemmas
mod ClerkLemmas
mod ServingLemmas
