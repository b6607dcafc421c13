use Rattle.std.proofs.Common.{◌≡◌, List, ℕ, [], ◌∷◌, ◌++◌, refl, inl, inr, lit≤, arith}
use Rattle.std.proofs.lemmas.List.Elements.{All-nil, All-cons}
use Rattle.stun_framing.specs.Framing.{IsMessage}
use Rattle.standard_vectors.specs.Messages.{sample_request, ipv4_response}
use Rattle.usage_vectors.specs.Streams.{with_channels, padded_data}
use Rattle.usage_vectors.proofs.Computing.{computing}
use Rattle.usage_vectors.proofs.streams_are_right.Goals as goal

none_begins : (m behind : List ℕ) → IsMessage with_channels m → ([] ≡ m ++ behind) → ⊥
unfolding computing
none_begins [] behind (inl is) e = absurd (cc is.header)
none_begins [] behind (inr is) e = absurd (omega (arith, is.header))
none_begins (x ∷ m) behind is e = absurd (cc e)

pub returns-clause-cut : goal.returns-clause-cut
unfolding computing
returns-clause-cut c = record {
  joined = refl;
  each =
      All-cons (IsMessage with_channels) sample_request (padded_data ∷ ipv4_response ∷ [])
      (inl (record { header = refl; whole = refl; padded = refl; fits = lit≤ tt }))
      (All-cons (IsMessage with_channels) padded_data (ipv4_response ∷ [])
      (inr (record { channel = refl; header = lit≤ tt; whole = refl; fits = lit≤ tt }))
      (All-cons (IsMessage with_channels) ipv4_response []
      (inl (record { header = refl; whole = refl; padded = refl; fits = lit≤ tt }))
      (All-nil (IsMessage with_channels))));
  last = none_begins;
}

pub returns-clause-yields : goal.returns-clause-yields
unfolding computing
returns-clause-yields c = refl

pub returns-clause-left : goal.returns-clause-left
unfolding computing
returns-clause-left c = refl

pub returns-clause-length : goal.returns-clause-length
unfolding computing
returns-clause-length c = refl

pub returns-clause-data_alone : goal.returns-clause-data_alone
unfolding computing
returns-clause-data_alone c = refl

pub returns-clause-beyond_channels : goal.returns-clause-beyond_channels
unfolding computing
returns-clause-beyond_channels c = refl

pub returns-clause-not_padded : goal.returns-clause-not_padded
unfolding computing
returns-clause-not_padded c = refl

pub returns-clause-too_long : goal.returns-clause-too_long
unfolding computing
returns-clause-too_long c = refl

pub returns-clause-data_too_long : goal.returns-clause-data_too_long
unfolding computing
returns-clause-data_too_long c = refl

pub returns-clause-old_length : goal.returns-clause-old_length
unfolding computing
returns-clause-old_length c = refl

pub returns-clause-old_channel : goal.returns-clause-old_channel
unfolding computing
returns-clause-old_channel c = refl

pub returns-clause-old_too_long : goal.returns-clause-old_too_long
unfolding computing
returns-clause-old_too_long c = refl

pub returns-clause-beyond_old_channels : goal.returns-clause-beyond_old_channels
unfolding computing
returns-clause-beyond_old_channels c = refl
