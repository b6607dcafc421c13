-- The credentials that are kept after a challenge.
use Rattle.std.proofs.Common.{◌≡◌, ◌∙◌, List, [], ◌∷◌, ◌++◌, map, filter, ap}
use Rattle.turn_client_state.specs.Challenges.{has_challenge}
use Rattle.turn_client_state.specs.States.{Held}
use Rattle.turn_client.specs.declared.logins.KeptLogin.{KeptLogin}
use Rattle.turn_client.specs.Clients.{Kept, kept_of}
use Rattle.turn_client.specs.Receiving.{kept_after}
use Rattle.turn_client.proofs.ListsLemmas.{filter_mapped, map_pushed}

pub kept_then : (held : Held) (items : List KeptLogin) (login : KeptLogin) (one : Kept) → kept_of login ≡ one
    → map kept_of (filter (λ l. has_challenge l.number held.state) (items ++ (login ∷ []))) ≡ kept_after held (map kept_of items) (one ∷ [])
kept_then held items login one is =
    filter_mapped (λ k. has_challenge k.number held.state) kept_of (items ++ (login ∷ []))
    ∙ ap (filter (λ k. has_challenge k.number held.state)) (map_pushed kept_of items login ∙ ap (λ (k : Kept). map kept_of items ++ (k ∷ [])) is)
