-- The relayed address of a client with an allocation is one that the server has reported to it.
use Rattle.std.proofs.Common.{◌≡◌, ℕ, inr, Bool, true, false, List, [], ◌∷◌, Option, None, Some, refl, subst, ◌&&◌, find}
use Rattle.std.specs.List.{list_any}
use Rattle.std.specs.Option.{option_map_or}
use Rattle.std.specs.Prelude.{◌==◌, is_some}
use Rattle.std.proofs.lemmas.Bool.{cond_both, and_parts}
use Rattle.turn_client_machine.specs.Clients.{Endpoint, is_endpoint, Setup, Kind, Allocate, Refresh, Delete, Permit, Bind, Request, Pending, Phase, Quiet, Asking, Allocated, Closing, Ended, Peer, State, is_allocated, is_active, Useless}
use Rattle.turn_client_machine.specs.Events.{Answer, Opened, Extended, Done, Refused, Challenged, Redirected, Violated, Event, allocates, permits, binds, drops, sends, closes, responds, gives, gives_on, strays, polls}
use Rattle.turn_client_machine.specs.Tasks.{awaits, may_retry, is_due, is_expired}
use Rattle.turn_client_machine.specs.Responses.{is_allocate, opened, extended, extended_by, answered, awaits_of, answered_peer, responded, deletes, is_long, is_useful}
use Rattle.turn_client_machine.specs.Steps.{Step, keeps, at, begins, closes_from, turns_peer, polled, happens, is_next, is_free}
use Rattle.turn_client_machine.specs.Runs.{Timed, Happening, run, happening, history}
use Rattle.turn_client_machine.specs.Warrants.{Confirmed}
use Rattle.turn_client_machine.proofs.Keeping.{Genuine}
use Rattle.turn_client_machine.proofs.Backed.{WasSent, main_on}
use Rattle.turn_client_machine.proofs.BackedLemmas.{IsNow, confirms, awaited_id, allocate_is, run_kept}

-- a success response to an Allocate request, with this relayed address
pub record TellsIt (relayed : Endpoint) (r : Request) (answer : Answer) : Type 0 where
  pub mapped : Endpoint
  pub lifetime : ℕ
  pub kind : r.kind ≡ Allocate
  pub answer_is : answer ≡ Opened relayed mapped lifetime

abbrev pub WasTold : (server : Endpoint) → List Happening → State → Type 0
WasTold server hs s = is_allocated s.phase ≡ true → Confirmed server (TellsIt s.relayed) hs

-- the response to an Allocate request under way
abbrev Opening : Setup → List Happening → State → Event → Type 0
Opening setup hs s event = (q : Pending) (id : ℕ) (relayed mapped : Endpoint) (lifetime : ℕ) → Genuine setup event id (Opened relayed mapped lifetime) → s.task.pending ≡ Some q → awaits id s.task ≡ true
    → is_allocate q.request.kind ≡ true → Confirmed setup.server (TellsIt relayed) hs

extended_told : (setup : Setup) (hs : List Happening) (kind : Kind) (r : Request) (lifetime : ℕ) (s : State) → WasTold setup.server hs s → WasTold setup.server hs (extended_by kind r lifetime s)
extended_told setup hs Allocate r lifetime s told = told
extended_told setup hs Refresh r lifetime s told = cond_both (is_long lifetime) (extended r lifetime s) (deletes Useless s) (WasTold setup.server hs) (λ _. told) (λ _ e. absurd cc)
extended_told setup hs Delete r lifetime s told = λ e. absurd cc
extended_told setup hs (Permit peer) r lifetime s told = told
extended_told setup hs (Bind number peer) r lifetime s told = told

answered_told : (setup : Setup) (hs : List Happening) (from : Endpoint) (id : ℕ) (authentic : Bool) (answer : Answer) (s : State) (q : Pending) → is_endpoint from setup.server ≡ true → s.task.pending ≡ Some q → awaits id s.task ≡ true
    → Opening setup hs s (responds from id authentic answer) → WasTold setup.server hs s → WasTold setup.server hs (answered setup authentic answer s q.request)
answered_told setup hs from id true (Opened relayed mapped lifetime) s q server is awaited opening told =
    cond_both (is_allocate q.request.kind) _ _ (WasTold setup.server hs)
    (λ kind. cond_both (is_useful setup relayed lifetime) (opened q.request relayed mapped lifetime s) (deletes Useless s) (WasTold setup.server hs)
    (λ _ _. opening q id relayed mapped lifetime (record { from = from; is_server = server; event_is = refl }) is awaited kind) (λ _ e. absurd cc))
    (λ _. told)
answered_told setup hs from id false (Opened relayed mapped lifetime) s q server is awaited opening told = told
answered_told setup hs from id authentic (Extended lifetime) s q server is awaited opening told = cond_both authentic _ _ (WasTold setup.server hs) (λ _. extended_told setup hs q.request.kind q.request lifetime s told) (λ _. told)
answered_told setup hs from id authentic Done s q server is awaited opening told = told
answered_told setup hs from id authentic (Refused code) s q server is awaited opening told = cond_both authentic _ _ (WasTold setup.server hs) (λ _ e. absurd cc) (λ _. told)
answered_told setup hs from id authentic (Challenged code challenge) s q server is awaited opening told =
    cond_both (may_retry setup s.challenge code s.task) _ _ (WasTold setup.server hs) (λ _. told) (λ _ e. absurd cc)
answered_told setup hs from id authentic (Redirected other) s q server is awaited opening told = cond_both (authentic && is_allocate q.request.kind) _ _ (WasTold setup.server hs) (λ _ e. absurd cc) (λ _. told)
answered_told setup hs from id authentic Violated s q server is awaited opening told = cond_both setup.is_reliable _ _ (WasTold setup.server hs) (λ _ e. absurd cc) (λ _. told)

peer_told : (setup : Setup) (hs : List Happening) (id : ℕ) (authentic : Bool) (answer : Answer) (s : State) → WasTold setup.server hs s → WasTold setup.server hs (answered_peer setup id authentic answer s)
peer_told setup hs id authentic (Opened relayed mapped lifetime) s told = told
peer_told setup hs id authentic (Extended lifetime) s told = told
peer_told setup hs id authentic Done s told = cond_both authentic _ _ (WasTold setup.server hs) (λ _. told) (λ _. told)
peer_told setup hs id authentic (Refused code) s told =
    cond_both authentic _ _ (WasTold setup.server hs) (λ _. cond_both (code == 437) _ _ (WasTold setup.server hs) (λ _ e. absurd cc) (λ _. told)) (λ _. told)
peer_told setup hs id authentic (Challenged code challenge) s told = told
peer_told setup hs id authentic (Redirected server) s told = told
peer_told setup hs id authentic Violated s told = told

any_told : (setup : Setup) (hs : List Happening) (from : Endpoint) (id : ℕ) (authentic : Bool) (answer : Answer) (s : State) (o : Option Pending) → is_endpoint from setup.server ≡ true → s.task.pending ≡ o → awaits id s.task ≡ true
    → Opening setup hs s (responds from id authentic answer) → WasTold setup.server hs s → WasTold setup.server hs (option_map_or (λ (q : Pending). answered setup authentic answer s q.request) o s)
any_told setup hs from id authentic answer s None server is awaited opening told = told
any_told setup hs from id authentic answer s (Some q) server is awaited opening told = answered_told setup hs from id authentic answer s q server is awaited opening told

responded_told : (setup : Setup) (hs : List Happening) (from : Endpoint) (id : ℕ) (authentic : Bool) (answer : Answer) (s : State) → Opening setup hs s (responds from id authentic answer) → WasTold setup.server hs s → WasTold setup.server hs (responded setup from id authentic answer s)
responded_told setup hs from id authentic answer s opening told =
    cond_both (is_endpoint from setup.server && is_active s.phase) _ _ (WasTold setup.server hs)
    (λ yes. cond_both (awaits id s.task) _ _ (WasTold setup.server hs)
    (λ awaited. any_told setup hs from id authentic answer s s.task.pending (and_parts (is_endpoint from setup.server) (is_active s.phase) yes).0 refl awaited opening told)
    (λ _. cond_both (is_allocated s.phase && list_any (awaits_of id) s.peers) _ _ (WasTold setup.server hs) (λ _. peer_told setup hs id authentic answer s told) (λ _. told)))
    (λ _. told)

turns_told : (setup : Setup) (hs : List Happening) (fresh : ℕ) (s : State) (o : Option Peer) → WasTold setup.server hs s → WasTold setup.server hs (option_map_or (turns_peer setup fresh (is_free s.peers) s) o (keeps s)).state
turns_told setup hs fresh s None told = told
turns_told setup hs fresh s (Some p) told = told

polled_told : (setup : Setup) (hs : List Happening) (fresh : ℕ) (s : State) → WasTold setup.server hs s → WasTold setup.server hs (polled setup fresh s).state
polled_told setup hs fresh s told =
    cond_both (is_active s.phase && is_due s.clock s.task) _ _ (λ (x : Step). WasTold setup.server hs x.state)
    (λ _. cond_both (is_expired s.clock s.task) _ _ (λ (x : Step). WasTold setup.server hs x.state) (λ _ e. absurd cc) (λ _. told))
    (λ _. cond_both (is_allocated s.phase) _ _ (λ (x : Step). WasTold setup.server hs x.state) (λ _. turns_told setup hs fresh s (find (is_next (is_free s.peers) s.clock) s.peers) told) (λ _. told))

begins_told : (setup : Setup) (hs : List Happening) (phase : Phase) (s : State) → WasTold setup.server hs s → WasTold setup.server hs (begins phase s)
begins_told setup hs Quiet s told = λ e. absurd cc
begins_told setup hs Asking s told = told
begins_told setup hs Allocated s told = told
begins_told setup hs (Closing why) s told = told
begins_told setup hs (Ended why) s told = told

closes_told : (setup : Setup) (hs : List Happening) (phase : Phase) (s : State) → WasTold setup.server hs s → WasTold setup.server hs (closes_from phase s)
closes_told setup hs Quiet s told = λ e. absurd cc
closes_told setup hs Asking s told = cond_both (is_some s.challenge) _ _ (WasTold setup.server hs) (λ _ e. absurd cc) (λ _ e. absurd cc)
closes_told setup hs Allocated s told = λ e. absurd cc
closes_told setup hs (Closing why) s told = told
closes_told setup hs (Ended why) s told = told

happens_told : (setup : Setup) (hs : List Happening) (fresh : ℕ) (s : State) (event : Event) → Opening setup hs s event → WasTold setup.server hs s → WasTold setup.server hs (happens setup fresh s event).state
happens_told setup hs fresh s allocates opening told = begins_told setup hs s.phase s told
happens_told setup hs fresh s (permits peer) opening told = told
happens_told setup hs fresh s (binds peer) opening told = told
happens_told setup hs fresh s (drops peer) opening told = told
happens_told setup hs fresh s (sends peer bytes) opening told = told
happens_told setup hs fresh s closes opening told = closes_told setup hs s.phase s told
happens_told setup hs fresh s (responds from id authentic answer) opening told = responded_told setup hs from id authentic answer s opening told
happens_told setup hs fresh s (gives from peer bytes) opening told = told
happens_told setup hs fresh s (gives_on from number bytes) opening told = told
happens_told setup hs fresh s (strays from) opening told = told
happens_told setup hs fresh s polls opening told = polled_told setup hs fresh s told

pub run_told : (setup : Setup) (events : List Timed) → WasTold setup.server (history setup events) (run setup events)
run_told setup [] = λ e. absurd cc
run_told setup (timed ∷ earlier) =
    let k = run_kept setup earlier in
    let s = at timed.now (run setup earlier) in
    let hs = history setup earlier in
    let h = happening setup (run setup earlier) timed in
    let now : IsNow setup timed.fresh s timed.event h = record { moment = refl; event_is = refl; output = refl } in
    let main = main_on setup.server h hs s.phase s.task s.expires_at k.main in
    happens_told setup (h ∷ hs) timed.fresh s timed.event
    (λ q id relayed mapped lifetime genuine is awaited kind. confirms setup timed.fresh s timed.event h hs id (Opened relayed mapped lifetime) q.request (TellsIt relayed) now genuine (awaited_id id q s.task.pending is awaited)
    (subst (WasSent (h ∷ hs)) is main.pending).0 (record { mapped = mapped; lifetime = lifetime; kind = allocate_is q.request.kind kind; answer_is = refl }))
    (λ e. inr (run_told setup earlier e))
