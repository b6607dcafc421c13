mod WritingLemmas
mod ReadyLemmas
mod RunsLemmas
mod ReceivingLemmas
mod RestartsLemmas
mod LiteLemmas
