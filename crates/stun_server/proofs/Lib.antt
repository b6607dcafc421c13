mod ReplyLemmas
pub mod SizesLemmas
mod InSliceLemmas
