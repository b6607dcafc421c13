-- What the place of a value owns, and what it has of a key that is shared.
use Rattle.std.specs.Prelude.{ℕ, Bool, Option, Some, None, ◌==◌}
use Rattle.std.specs.Box.Ownership.{box_owns}
use Rattle.std.specs.contracts.impls.GlobalAllocator.TheImpl.{ghosts}
use Rattle.std.specs.declared.alloc.Global.{Global}
use base.Fml.{Lft, Share, Fml, ftrue, fsep, fex, flft}
use denote.RattleType.{RattleType}
use denote.RawPtr.{Ptr}
use mir.Syntax.{Ty}
use denote.Struct.Lending.{lent_at}

-- the right to free memory of the heap of C
abbrev pub frees : Global → Ty → Ptr → Fml
frees alloc = ghosts.dealloc_token alloc

-- nothing, or what a box owns: a value of the type R at the pointer, and the right to free its memory
abbrev pub owns_if_some : (frees : Ty → Ptr → Fml) → (R : RattleType) → Ptr → Option R.Denot → Fml
owns_if_some frees R at None = ftrue
owns_if_some frees R at (Some value) = box_owns frees R at value

-- a lifetime hasn't ended, and doesn't end while this is held: a share of its token
abbrev pub lasts : Lft → Fml
lasts life = fex Share (λ share. flft life share)

-- a value of the type R at the pointer is shared, for a lifetime that lasts
abbrev pub is_shared : (R : RattleType) → Ptr → R.Denot → Fml
is_shared R at value = fex Lft (λ life. fsep (lent_at R at value life) (lasts life))

-- nothing, or that
abbrev pub shared_if_some : (R : RattleType) → Ptr → Option R.Denot → Fml
shared_if_some R at None = ftrue
shared_if_some R at (Some value) = is_shared R at value

-- the second word of a handle that holds a key: the letters "stun_key"
abbrev pub held_mark : ℕ
held_mark = 0x7374_756E_5F6B_6579

-- whether a second word says that a handle holds a key. Any other word says that it holds none,
-- whatever the first word is
abbrev pub is_held : ℕ → Bool
is_held held = held == held_mark
