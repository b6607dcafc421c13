-- What has a place of C's may go to another thread, if what it owns beside its fields is no key of an
-- invariant that one thread alone opens.
use Rattle.std.specs.Prelude.{Option, Some, None}
use mir.Raw.{raw}
use base.Fml.{Fml}
use base.Fraction.{full_share}
use base.Shift.{Keyless}
use denote.Exit.{Exit, unchanged, leaves, hidden, under}
use denote.Memory.{lone}
use denote.Param.Send.{IsSend, AllSend, Quiet, owning_send, struct_send, part_keyless}
use denote.RattleType.{RattleType}
use denote.RawPtr.{Ptr, block_ptr, null_ptr, lies_at}
use denote.Struct.Field.{rows}
use denote.Struct.Owning.{Codes, owning, row, shape, fields, to}
use denote.Struct.Record.{Record}
use denote.Struct.Struct.{exits_of}
use Rattle.std.proofs.Crossing as heap
use Rattle.std.specs.contracts.alloc.Global.{the_row as Heap}
use Rattle.stun_types_c.specs.KeyMemory.{frees, owns_if_some}

quiet : {D X : Type 0} (to : D → X) (e : Exit X) → Quiet e → Quiet (hidden (under to e))
quiet to unchanged q = λ x w. tt
quiet to (leaves L l S s r₀) q = λ d. q (to d)

-- a struct may go where its fields and what it owns beside them may
pub owning_sends : (N : Record) (codes : Codes N) (owned : N.D → Fml) → AllSend (rows N.parts)
    → ((value : N.D) → Keyless (owned value)) → IsSend (row (owning N codes owned))
owning_sends N codes owned all keyless =
    let T = owning N codes owned in
    owning_send T all keyless
    (λ k. quiet (to T) (exits_of k (fields T)) ((struct_send (shape T) all).leaving k))

module _ (R : RattleType) (sends : IsSend R) where
  there : (p : Ptr) (value : R.Denot) → Keyless (lies_at R full_share p value)
  there (block_ptr b o) value = part_keyless R sends full_share value b o
  there null_ptr value = tt

  -- a value on the heap and the right to free its memory, or nothing
  pub kept : (alloc : Heap.Denot) (p : Ptr) (value : Option R.Denot) → Keyless (owns_if_some (frees alloc) R p value)
  kept alloc p None = tt
  kept alloc p (Some value) = (there p value, heap.frees.frees alloc (raw (lone R.mir)) p)
