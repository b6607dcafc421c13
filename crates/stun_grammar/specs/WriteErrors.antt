-- An error of reading as an error of writing.
use Rattle.stun_grammar.specs.declared.error.StunParseError.{StunParseError}
use Rattle.stun_grammar.specs.declared.error.StunParseError.TheVariants.{NotStun, Truncated, TooLarge, MissingAttribute, AttributeAfterIntegrity, AttributeAfterFingerprint, FingerprintMismatch, DataMismatch, InvalidAttributeData, WrongAttributeImplementation, OutOfMemory}
use Rattle.stun_grammar.specs.declared.error.StunWriteError.{StunWriteError}
use Rattle.stun_grammar.specs.declared.error.StunWriteError.TheVariants as Write

-- the error of writing that says the same; `IntegrityFailed` if the bytes are not valid, for
-- which writing has no error
abbrev pub write_error : StunParseError → StunWriteError
write_error (TooLarge expected actual) = Write.TooLarge expected actual
write_error (Truncated expected actual) = Write.TooSmall expected actual
write_error OutOfMemory = Write.OutOfMemory
write_error (AttributeAfterIntegrity type) = Write.MessageIntegrityExists
write_error (AttributeAfterFingerprint type) = Write.FingerprintExists
write_error NotStun = Write.IntegrityFailed
write_error (MissingAttribute type) = Write.IntegrityFailed
write_error FingerprintMismatch = Write.IntegrityFailed
write_error DataMismatch = Write.IntegrityFailed
write_error InvalidAttributeData = Write.IntegrityFailed
write_error WrongAttributeImplementation = Write.IntegrityFailed
