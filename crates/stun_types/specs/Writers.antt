-- A writer as contracts see it, and what a call does to it (RFC 8489, sections 5 and 14).
use Rattle.std.specs.Prelude.{◌≡◌, ℕ, ◌+◌, ◌<◌, ◌≤◌, ◌^◌, ◌⊎◌, true, List, [], ◌∷◌, ◌++◌, length, drop, Option, Result, IfOk, IfErr, IsOk, OnOk, OnErr}
use Rattle.std.specs.Borrow.{GName}
use Rattle.stun_grammar.specs.declared.error.StunWriteError.{StunWriteError}
use Rattle.stun_grammar.specs.declared.error.StunWriteError.TheVariants.{OutOfMemory}
use Rattle.stun_grammar.specs.Headers.{is_header, type_field, id_field}
use Rattle.stun_grammar.specs.Writing.{message_encoding, greatest_length}
use Rattle.stun_grammar.specs.Attributes.{attribute_length}
use Rattle.stun_grammar.specs.Adding.{appended, grown_length, Fits}

-- the bytes written, the types of the attributes among them, the most bytes that the writer takes,
-- the bytes that follow those written, how many bytes and attributes more need no allocation (the
-- ready room), and the name of the slice that the writer borrows, or 0
pub record Writer : Type 0 where
  pub bytes : List ℕ
  pub types : List ℕ
  pub greatest : Option ℕ
  pub rest : List ℕ
  pub ready_bytes : ℕ
  pub ready_types : ℕ
  pub slice_name : GName

-- ---- Before a call

-- an attribute with a value of n bytes fits: twenty bytes are written, and with the attribute the
-- message is no longer than the writer takes, nor than a message may be
pub record HasRoomFor (w : Writer) (n : ℕ) : Type 0 where
  pub header : 20 ≤ length w.bytes
  pub room : Fits w.greatest (grown_length (length w.bytes) n)
  pub fits : grown_length (length w.bytes) n ≤ greatest_length

-- an attribute with a value of n bytes needs more than the ready room
abbrev pub Allocates : Writer → ℕ → Type 0
Allocates w n = (w.ready_bytes < attribute_length n) ⊎ (w.ready_types < 1)

-- ---- What a call does

-- the bytes and the attributes are as they were; the ready room may have grown
pub record IsUnchanged (old new : Writer) : Type 0 where
  pub bytes : new.bytes ≡ old.bytes
  pub types : new.types ≡ old.types
  pub rest : new.rest ≡ old.rest
  pub ready_bytes : old.ready_bytes ≤ new.ready_bytes
  pub ready_types : old.ready_types ≤ new.ready_types

-- the same writer with other bytes
abbrev pub with_bytes : Writer → List ℕ → Writer
with_bytes w given = record w { bytes = given }

-- the bound and the borrowed slice stay, and at most so many bytes and attributes of the ready room
-- are used up
pub record Spends (old new : Writer) (bytes attributes : ℕ) : Type 0 where
  pub greatest : new.greatest ≡ old.greatest
  pub slice_name : new.slice_name ≡ old.slice_name
  pub ready_bytes : old.ready_bytes ≤ new.ready_bytes + bytes
  pub ready_types : old.ready_types ≤ new.ready_types + attributes

-- a push writes what `Done` says, or an allocation failed and nothing changed; it uses up at most so
-- many bytes and attributes of the ready room, and if as many are ready it succeeds
pub record Pushes (result : Result (Unit {0}) StunWriteError)
    (old new : Writer) (bytes attributes : ℕ) (Done : Type 0) : Type 0 where
  pub ok : OnOk result Done
  pub same : OnErr result (IsUnchanged old new)
  pub spends : Spends old new bytes attributes
  pub err : IfErr result (λ e. e ≡ OutOfMemory)
  pub succeeds : bytes ≤ old.ready_bytes → attributes ≤ old.ready_types → IsOk result

-- the bytes still begin with a header, with the same message type and the same transaction ID
pub record KeepsHeader (old new : List ℕ) : Type 0 where
  pub header : is_header old ≡ true → is_header new ≡ true
  pub type : type_field new ≡ type_field old
  pub id : id_field new ≡ id_field old

-- the bytes are appended
pub record Extends (old new : Writer) (more : List ℕ) : Type 0 where
  pub bytes : new.bytes ≡ old.bytes ++ more
  pub types : new.types ≡ old.types
  pub rest : new.rest ≡ drop (length more) old.rest

-- the header of a message is written, with this type and this transaction ID, and no attributes
pub record IsBegun (old new : Writer) (type id : ℕ) : Type 0 where
  pub type_fits : type < 2 ^ 14
  pub id_fits : id < 2 ^ 96
  pub bytes : new.bytes ≡ message_encoding type id []
  pub size : length new.bytes ≡ 20
  pub header : is_header new.bytes ≡ true
  pub kind : type_field new.bytes ≡ type
  pub transaction_id : id_field new.bytes ≡ id
  pub types : new.types ≡ []
  pub rest : new.rest ≡ drop 20 old.rest
  pub spends : Spends old new 20 0

-- a call begins a message, and `writer` is the writer by what the call returns; or an allocation
-- failed, which happens only if fewer than twenty bytes are ready
pub record BeginsMessage {R : Type 0} (writer : R → Writer) (result : Result R StunWriteError)
    (old : Writer) (type id : ℕ) : Type 0 where
  pub begun : IfOk result (λ r. IsBegun old (writer r) type id)
  pub err : IfErr result (λ e. e ≡ OutOfMemory)
  pub succeeds : 20 ≤ old.ready_bytes → IsOk result

-- the attribute is appended, and the length field counts it
pub record Gains (old new : Writer) (type : ℕ) (value : List ℕ) : Type 0 where
  pub bytes : new.bytes ≡ appended old.bytes type value
  pub size : length new.bytes ≡ grown_length (length old.bytes) (length value)
  pub types : new.types ≡ old.types ++ type ∷ []
  pub rest : new.rest ≡ drop (attribute_length (length value)) old.rest

-- an attribute is pushed
abbrev pub PushesAttribute :
    Result (Unit {0}) StunWriteError → Writer → Writer → ℕ → List ℕ → Type 0
PushesAttribute result old new type value =
    Pushes result old new (attribute_length (length value)) 1 (Gains old new type value)

-- the attribute is appended whole or not at all, and the header stays
pub record Adds {E : Type 0} (result : Result (Unit {0}) E)
    (old new : Writer) (type : ℕ) (value : List ℕ) : Type 0 where
  pub ok : OnOk result (Gains old new type value)
  pub err : OnErr result (IsUnchanged old new)
  pub spends : Spends old new (attribute_length (length value)) 1
  pub header : KeepsHeader old.bytes new.bytes
