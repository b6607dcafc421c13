use Rattle.std.proofs.Common.{◌≡◌, ◌∙◌, ℕ, List, [], ◌∷◌, ◌++◌, map, filter, ap, subst, None}
use Rattle.stun_authentication.specs.Challenges.{retry_of}
use Rattle.stun_authentication.specs.Requests.{user_key}
use Rattle.stun_keys.specs.Keys.{IsKey}
use Rattle.turn_client_machine.specs.declared.requests.Answer.TheVariants.{Challenged}
use Rattle.turn_client_machine.specs.Events.{responds}
use Rattle.turn_client_state.specs.Challenges.{has_challenge}
use Rattle.turn_client_state.specs.States.{Held, after}
use Rattle.turn_client.specs.declared.logins.KeptLogin.{KeptLogin}
use Rattle.turn_client.specs.Clients.{Client, Kept, kept_of}
use Rattle.turn_client.specs.Receiving.{free_number, kept_after, taken_with}
use Rattle.turn_client.specs.contracts.client.TurnClient.{the_view}
use Rattle.turn_client.proofs.KeptLemmas.{kept_then}
use Rattle.turn_client.proofs.client.TurnClient.take_challenge.Goals as goal

pub returns-clause-taken : goal.returns-clause-taken
returns-clause-taken c =
    let inside = c.self.inside in
    let view : Client = the_view inside in
    let login = c.in_ok-login.login in
    let key = login.key in
    let retry = retry_of c.args.retry in
    let number = c.free_number-challenge.result in
    let one : Kept = record { number = number; retry = retry; key = key } in
    let held : Held = after c.args.now 0 (responds c.args.from c.args.id c.args.is_authentic (Challenged c.args.code number)) inside.state in
    let items : List KeptLogin = inside.logins.items in
    let pushed : c.keep.new.logins.items ≡ items ++ (login ∷ []) = c.in_ok-keep.ensures.kept in
    let responded : c.on_response.new.self ≡ held = c.on_response.ensures in
    let kept : map kept_of c.drop_unused.new.logins.items ≡ kept_after held view.kept (one ∷ []) =
    ap (map kept_of) c.drop_unused.ensures
    ∙ ((λ i. map kept_of (filter (λ l. has_challenge l.number (responded i).state) (pushed i)))
    ∙ kept_then held items login one c.in_ok-login.ensures.kept) in
    let first : the_view (record inside { state = c.on_response.new.self; logins = c.drop_unused.new.logins }) ≡ taken_with one c.args.now c.args.from c.args.id c.args.is_authentic c.args.code view =
    (λ i. record view { held = responded i; kept = kept i }) in
    let free : number ≡ free_number view.kept = c.free_number-challenge.ensures ∙ ap (λ xs. free_number (map kept_of xs)) c.deref.ensures.value in (
      key,
      subst (λ (s : Client). IsKey None (user_key retry s.user) key) c.self.view_is c.in_ok-login.ensures.key,
      first
          ∙ (ap (λ (n : ℕ). let known : Kept = record { number = n; retry = retry; key = key } in taken_with known c.args.now c.args.from c.args.id c.args.is_authentic c.args.code view) free
          ∙ ap (λ (s : Client). let known : Kept = record { number = free_number s.kept; retry = retry; key = key } in taken_with known c.args.now c.args.from c.args.id c.args.is_authentic c.args.code s) c.self.view_is),
    )
