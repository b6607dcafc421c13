use Rattle.std.proofs.Common.{[], ◌∷◌, drop, refl, lit≤}
use Rattle.standard_vectors.specs.Messages.{sample_request}
use Rattle.standard_vectors.specs.Right.{signed_text}
use Rattle.standard_vectors.proofs.Computing.{validating, are_bytes}
use Rattle.standard_vectors.proofs.carried_content_is_right.Goals as goal

pub returns : goal.returns
unfolding validating
returns c = record {
  carried = record {
    bytes = are_bytes (signed_text sample_request 76) refl;
    header = lit≤ tt;
    ended = refl;
    ordered = refl;
    lawful = refl;
    field = 0x00 ∷ 0x58 ∷ [];
    two = refl;
    others = drop 100 sample_request;
    whole = refl;
  };
  alone = λ e. λ same. absurd (cc same);
}
