-- Requests that their bytes make unfit, and what no request but Allocate changes.
use Rattle.std.proofs.Common.{◌≡◌, ℕ, ◌+◌, ◌≤◌, ◌^◌, List, Option, None, Some, refl, ap, ◌∙◌, arith}
use Rattle.std.specs.Option.{option_map_or}
use Rattle.std.specs.Prelude.{◌&&◌, ◌==◌, length, nat_lt}
use Rattle.std.proofs.lemmas.Bool.{cond_both}
use Rattle.stun_endpoints.specs.declared.endpoints.Endpoint.{Endpoint}
use Rattle.stun_endpoints.specs.declared.endpoints.FiveTuple.{FiveTuple}
use Rattle.turn_machine.specs.Relays.{seconds, Setup, Rules, State, is_owned}
use Rattle.turn_machine.specs.Events.{Request, refresh, permit, permit_request, bind, unfit, refreshed, done, answers, most_peers}
use Rattle.turn_machine.specs.Rows.{fault}
use Rattle.turn_machine.specs.Steps.{Step, changed, keeping, closing, is_wanted, lasting, refuses, refreshes, fulfils, serves}
use Rattle.turn_machine.specs.Times.{refreshed_for}
use Rattle.turn_relays.specs.Relayed.{Table, state_of}
use Rattle.turn_allocations.specs.declared.answer.Answer.{Answer}
use Rattle.turn_allocations.specs.Ending.{Numbers}
use Rattle.turn_allocations.specs.Serving.{Serves}

-- ---- Unfit requests

-- ---- The next number

next_of : (tuple : FiveTuple) (state : State) (o : Option ℕ) (s : Step) → s.state.next ≡ state.next → (option_map_or (refuses tuple state) o s).state.next ≡ state.next
next_of tuple state None s same = same
next_of tuple state (Some code) s same = refl

refresh_next : (tuple : FiveTuple) (user : ℕ) (family : Option ℕ) (lifetime : ℕ) (state : State) → (refreshes tuple user family lifetime state).state.next ≡ state.next
refresh_next tuple user family lifetime state =
    cond_both (lifetime == 0) (closing (λ a. is_owned tuple user a && is_wanted family a) (answers tuple (refreshed lifetime)) state)
    (keeping (changed tuple user (lasting family (state.clock + seconds lifetime)) state) (answers tuple (refreshed lifetime))) (λ s. s.state.next ≡ state.next) (λ _. refl) (λ _. refl)

module _ (setup : Setup) (rules : Rules) (tuple : FiveTuple) (user : ℕ) (state : State) where
  unfit_next : (code : ℕ) → (serves setup rules tuple user (unfit code) state).state.next ≡ state.next
  unfit_next code = next_of tuple state (fault setup rules state tuple user (unfit code)) (keeping state (answers tuple done)) refl

  pub refreshed_next : (family lifetime : Option ℕ) → (serves setup rules tuple user (refresh family lifetime) state).state.next ≡ state.next
  refreshed_next family lifetime =
      next_of tuple state (fault setup rules state tuple user (refresh family lifetime)) (fulfils setup tuple user (refresh family lifetime) state)
      (refresh_next tuple user family (refreshed_for lifetime setup.greatest_lifetime) state)

  pub permitted_next : (peers : List Endpoint) → (serves setup rules tuple user (permit_request peers) state).state.next ≡ state.next
  permitted_next peers =
      cond_both (nat_lt most_peers (length peers)) (unfit 508) (permit peers) (λ request. (serves setup rules tuple user request state).state.next ≡ state.next)
      (λ _. unfit_next 508)
      (λ _. next_of tuple state (fault setup rules state tuple user (permit peers)) (fulfils setup tuple user (permit peers) state) refl)

  pub bound_next : (number : ℕ) (peer : Endpoint) → (serves setup rules tuple user (bind number peer) state).state.next ≡ state.next
  bound_next number peer = next_of tuple state (fault setup rules state tuple user (bind number peer)) (fulfils setup tuple user (bind number peer) state) refl

-- from what is served, if the machine leaves the next number
pub slow_from : (setup : Setup) (rules : Rules) (tuple : FiveTuple) (user : ℕ) (request : Request) (old new : Table) (before after : Numbers) (answer : Answer) → Serves setup rules tuple user request old new before after answer
    → (serves setup rules tuple user request (state_of old)).state.next ≡ old.next → new.next ≤ old.next + 2 ^ 26
slow_from setup rules tuple user request old new before after answer serves_it same =
    let is : new.next ≡ old.next = ap (λ (s : State). s.next) serves_it.done.becomes.state_is ∙ same in
    omega (arith, is)
