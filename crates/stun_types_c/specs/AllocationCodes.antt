-- The codes of the calls of a TURN client alone: there is no room for another peer; and its address is of
-- another family than the relayed address.
use Rattle.std.specs.Prelude.{ℕ}

abbrev pub FULL : ℕ
FULL = 25

abbrev pub OTHER_FAMILY : ℕ
OTHER_FAMILY = 26
