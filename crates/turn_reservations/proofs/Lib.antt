mod HeldLemmas
mod SteppingLemmas
mod AskingLemmas
mod CallsLemmas
mod DueLemmas
