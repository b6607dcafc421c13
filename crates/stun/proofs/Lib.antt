mod ArgumentsLemmas
mod ChecksLemmas
mod StreamLemmas
mod ValuesLemmas
