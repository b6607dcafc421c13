use Rattle.std.proofs.Common.{◌∙◌, sym, ap, Some}
use Rattle.std.specs.Prelude.{option_copied}
use Rattle.std.specs.Option.{option_map}
use Rattle.stun_authentication.specs.Requests.{user_of}
use Rattle.turn_client.specs.Clients.{kept_of, has_number, credentials_by}
use Rattle.turn_client.proofs.ListsLemmas.{find_mapped}
use Rattle.turn_client.proofs.logins.login_with.Goals as goal

pub returns-in-Some : goal.returns-in-Some
returns-in-Some c =
    let by = credentials_by (user_of c.args.account.now.credentials) in
    ap Some c.login_by.ensures
    ∙ (ap (λ o. option_map by (option_map kept_of (option_copied o))) (sym c.in-Some.is)
    ∙ (ap (λ o. option_map by (option_map kept_of o)) c.find_login.ensures
    ∙ ap (option_map by) (sym (find_mapped (has_number c.args.number) kept_of c.args.logins.now))))

pub returns-in-None : goal.returns-in-None
returns-in-None c =
    let by = credentials_by (user_of c.args.account.now.credentials) in
    ap (λ o. option_map by (option_map kept_of (option_copied o))) (sym c.in-None.is)
    ∙ (ap (λ o. option_map by (option_map kept_of o)) c.find_login.ensures
    ∙ ap (option_map by) (sym (find_mapped (has_number c.args.number) kept_of c.args.logins.now)))
