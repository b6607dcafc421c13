-- The numbers of relayed addresses: the slot in the low 24 bits, and above them how many were opened before.
use Rattle.std.specs.Prelude.{ℕ, ◌+◌, ◌*◌, ◌<◌}

-- each slot is below this: 2^24
abbrev pub places : ℕ
places = 16_777_216

-- the most openings that there can be: 2^40
abbrev pub rounds : ℕ
rounds = 1_099_511_627_776

abbrev pub number_at : (round slot : ℕ) → ℕ
number_at round slot = round * places + slot

-- each number is above those of all openings before
abbrev pub NumbersGrow : Type 0
NumbersGrow =
    (earlier later slot other : ℕ) → slot < places → earlier < later
    → number_at earlier slot < number_at later other
