mod AddedPeersLemmas
mod MemoryLemmas
mod WritingLemmas
