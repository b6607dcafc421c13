-- A message with one attribute (RFC 8489, sections 5, 6 and 14.14).
use Rattle.std.specs.Prelude.{◌≡◌, ℕ, ◌+◌, List, [], ◌∷◌, length, drop, Result, OnOk, OnErr}
use Rattle.stun_grammar.specs.declared.error.StunWriteError.{StunWriteError}
use Rattle.stun_grammar.specs.Attributes.{canonical, attribute_length}
use Rattle.stun_grammar.specs.Writing.{message_encoding}
use Rattle.stun_types.specs.Writers.{Writer}

-- a binding request with one SOFTWARE is written, or its header alone; what follows it stays
pub record WritesSoftware (result : Result (Unit {0}) StunWriteError)
    (old new : Writer) (id : ℕ) (text : List ℕ) : Type 0 where
  pub encoding : OnOk result (new.bytes ≡ message_encoding 0x0001 id (canonical 0x8022 text ∷ []))
  pub size : OnOk result (length new.bytes ≡ 20 + attribute_length (length text))
  pub rest : OnOk result (new.rest ≡ drop (20 + attribute_length (length text)) old.rest)
  pub header_alone : OnErr result (new.bytes ≡ message_encoding 0x0001 id [])
  pub rest_err : OnErr result (new.rest ≡ drop 20 old.rest)
  pub slice_name : new.slice_name ≡ old.slice_name
