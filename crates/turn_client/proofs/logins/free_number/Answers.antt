use Rattle.std.proofs.Common.{◌≡◌, ◌∙◌, ℕ, sym, ap, map, length, subst, find}
use Rattle.std.specs.Prelude.{unwrap_or}
use Rattle.std.specs.List.{range_with_len}
use Rattle.std.proofs.lemmas.List.{length-map}
use Rattle.turn_client.specs.Clients.{kept_of}
use Rattle.turn_client.specs.Receiving.{is_free}
use Rattle.turn_client.proofs.logins.free_number.Goals as goal

pub returns-in-Some : goal.returns-in-Some
returns-in-Some c =
    let kept = map kept_of c.args.logins.now in
    let count = length c.args.logins.now in
    subst (λ (n : ℕ). c.in-Some.number ≡ unwrap_or (find (is_free kept) (range_with_len 0 n)) n)
    (sym (length-map c.args.logins.now kept_of))
    (ap (λ o. unwrap_or o count) (sym c.in-Some.is ∙ c.first_free.ensures))

pub returns-in-None : goal.returns-in-None
returns-in-None c =
    let kept = map kept_of c.args.logins.now in
    let count = length c.args.logins.now in
    subst (λ (n : ℕ). count ≡ unwrap_or (find (is_free kept) (range_with_len 0 n)) n)
    (sym (length-map c.args.logins.now kept_of))
    (ap (λ o. unwrap_or o count) (sym c.in-None.is ∙ c.first_free.ensures))
