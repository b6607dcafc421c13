mod EscapingLemmas
mod TypesLemmas
