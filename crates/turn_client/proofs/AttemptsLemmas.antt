-- Clients that follow one another are as many as attempts.
use Rattle.std.proofs.Common.{◌≡◌, suc, List, [], ◌∷◌, length, refl, ap}
use Rattle.turn_client_machine.specs.Attempts.{Attempt, AreNext}
use Rattle.turn_client.specs.Attempts.{AreFollowed, Life}

pub followed : (a : Attempt) (lives : List Life) → AreFollowed a lives → (next : List Attempt) × AreNext a next × (length next ≡ length lives)
followed a [] are = ([], tt, refl)
followed a (life ∷ later) are =
    let b = are.1.0 in
    let more = followed b later are.1.2 in
    (b ∷ more.0, ((life.why, are.1.1), more.1), ap suc more.2)
