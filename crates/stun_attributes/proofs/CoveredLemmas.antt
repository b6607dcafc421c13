-- The message before an attribute, in pieces.
use Rattle.std.proofs.Common.{◌≡◌, ℕ, ◌-◌, List, [], ◌++◌, take, drop, append_assoc}
use Rattle.std.proofs.lemmas.List.{append-nil}
use Rattle.stun_grammar.specs.Numbers.{be16}
use Rattle.stun_grammar.specs.Fingerprints.{ending_length_field, message_before}

pub pieces_of : (d beginning : List ℕ) (offset size : ℕ) → beginning ≡ take 2 d ++ be16 (ending_length_field offset size) → beginning ++ (take (offset - 4) (drop 4 d) ++ []) ≡ message_before d offset size
unfolding message_before
pieces_of d beginning offset size e =
    rw (e, append-nil (take (offset - 4) (drop 4 d))) (append_assoc (take 2 d) (be16 (ending_length_field offset size)) (take (offset - 4) (drop 4 d)))
