-- The hashers that a key keeps for its HMACs once it is prepared.
use Rattle.std.specs.Prelude.{ℕ, List, Bool, false, not, ◌&&◌, ◌||◌, Option, None, Some, is_some, IfSome, Box, box_value}
use Rattle.std.specs.declared.alloc.Global.{Global}
use Rattle.sha1.specs.Sha1.{Holds, sha1}
use Rattle.sha2.specs.Hashers.{Holds256}
use Rattle.sha2.specs.Sha256.{sha256}
use Rattle.stun_keys.specs.declared.digest.prepared.BothHashers.{BothHashers}
use Rattle.stun_keys.specs.Blocks.{AreKeyed}

-- hashers by an algorithm, if there are any, have taken in the key's blocks
pub record ArePrepared (key : List ℕ) (both : BothHashers) : Type 0 where
  pub by_sha1 : IfSome both.sha1 (λ keyed. AreKeyed Holds sha1 key keyed.inner keyed.outer)
  pub by_sha256 : IfSome both.sha256 (λ keyed. AreKeyed Holds256 sha256 key keyed.inner keyed.outer)

-- what is kept, if anything, are such hashers
abbrev pub IfPrepared : List ℕ → Option (Box BothHashers Global) → Type 0
IfPrepared key kept = IfSome kept (λ both. ArePrepared key (box_value both))

-- whether there are hashers by each algorithm that is wanted
abbrev pub are_there : BothHashers → (sha1 sha256 : Bool) → Bool
are_there both sha1 sha256 = (is_some both.sha1 || not sha1) && (is_some both.sha256 || not sha256)

-- whether such hashers are kept
abbrev pub keeps : Option (Box BothHashers Global) → (sha1 sha256 : Bool) → Bool
keeps None sha1 sha256 = false
keeps (Some both) sha1 sha256 = are_there (box_value both) sha1 sha256
