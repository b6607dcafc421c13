pub mod NamesOfAll
pub mod PlainValues
pub mod Escaping
pub mod EscapingLaws
pub mod PlainMessages
