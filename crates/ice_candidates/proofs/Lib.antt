pub mod WordsLemmas
pub mod FieldsLemmas
pub mod ExtensionsLemmas
pub mod GrammarLemmas
pub mod LineLemmas
pub mod TextLemmas
pub mod RangeLemmas
pub mod LinesLemmas
