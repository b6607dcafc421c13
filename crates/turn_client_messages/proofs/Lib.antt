mod ChannelsLemmas
mod HeardLemmas
mod OriginsLemmas
mod WholeLemmas
