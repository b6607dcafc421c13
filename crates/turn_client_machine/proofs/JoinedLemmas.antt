-- What the client relies on, the server keeps.
use Rattle.std.proofs.Common.{◌≡◌, ℕ, inl, inr, true, false, ◌&&◌, find, List, [], ◌∷◌, ◌≤◌, Option, None, Some, refl, sym, ap, subst, ◌∙◌, arith}
use Rattle.std.specs.List.{list_any}
use Rattle.std.specs.Option.{option_map_or}
use Rattle.std.proofs.lemmas.Bool.{or_left, and_from, cond-true, true≢false, or_right}
use Rattle.stun_endpoints.proofs.AddressesLemmas.{endpoint_is_itself}
use Rattle.turn_machine.specs.Relays.{Setup as ServerSetup, Rules}
use Rattle.turn_machine.specs.Lists.{SomeOf as ServerHappened}
use Rattle.turn_machine.specs.Works.{Reaches, output_of as output_there}
use Rattle.stun_endpoints.specs.declared.endpoints.FiveTuple.{FiveTuple}
use Rattle.turn_machine.specs.Events.{Want, bind as s_bind, asks as s_asks, Answer as ServerAnswer, allocated as s_allocated, refreshed as s_refreshed, done as s_done, refused as s_refused, answers as s_answers, arrives as s_arrives, Output as ServerOutput, to_peer}
use Rattle.turn_machine.specs.Runs.{Timed as ServerTimed, Happening as ServerHappening, run as s_run, history as s_history}
use Rattle.turn_machine.specs.Warrants.{Permits as PermitsThere, Binds as BindsThere, names as names_there}
use Rattle.turn_client_machine.specs.Clients.{Ip, Endpoint, is_ip, is_endpoint, Peer, State, is_allocated, is_permitted, hears, Setup, Kind, Allocate, Refresh, Delete, Permit, Bind, Request}
use Rattle.turn_client_machine.specs.Events.{Answer, Opened, Extended, Done, Refused, Challenged, Redirected, Violated, sends, Output, send_to, shows, nothing}
use Rattle.turn_client_machine.specs.Steps.{at, step}
use Rattle.turn_client_machine.specs.Runs.{Happening, Happened}
use Rattle.turn_client_machine.specs.Warrants.{Asks, Confirmed, lifetime_of, Lasts, names, Permits, Binds, IsPermitted, IsBound, IsPartOf}
use Rattle.turn_client_machine.specs.Joined.{request_of, answer_of, Answers, is_success, IsLinked, one_clock, granted_there, LastsThere, ServerLasts, ServerPermits, ServerBinds, at_server, at_client, IsAgreed, Works}
use Rattle.turn_machine.proofs.ListsLemmas.{some_both}
use Rattle.turn_client_machine.proofs.ServerSound.{IsPast, run_past, named_allowed}
use Rattle.turn_client_machine.proofs.ListsLemmas.{some_any}
use Rattle.turn_client_machine.proofs.ServerEnds.{some_out}

-- which response it was
pub record Picked (server : Endpoint) (P : Request → Answer → Type 0) (hs : List Happening) : Type 0 where
  pub request : Request
  pub answer : Answer
  pub holds : P request answer
  pub sent : Happened (Asks request) hs
  pub it : Confirmed server (λ q a. (q ≡ request) × (a ≡ answer)) hs

pub picked : (server : Endpoint) (P : Request → Answer → Type 0) (hs : List Happening) → Confirmed server P hs → Picked server P hs
picked server P [] some = absurd some
picked server P (h ∷ hs) (inl c) = record {
  request = c.request;
  answer = c.answer;
  holds = c.holds;
  sent = inr c.sent;
  it = inl (record { request = c.request; answer = c.answer; from = c.from; is_server = c.is_server; sent = c.sent; responded = c.responded; holds = (refl, refl) });
}
picked server P (h ∷ hs) (inr some) = let p = picked server P hs some in record { request = p.request; answer = p.answer; holds = p.holds; sent = inr p.sent; it = inr p.it }

pub happened_map : (P Q : ServerHappening → Type 0) → ((h : ServerHappening) → P h → Q h) → (hs : List ServerHappening) → ServerHappened P hs → ServerHappened Q hs
happened_map P Q f [] some = absurd some
happened_map P Q f (h ∷ hs) (inl p) = inl (f h p)
happened_map P Q f (h ∷ hs) (inr some) = inr (happened_map P Q f hs some)

pub named_there : (ip : Ip) (wanted : Option ℕ) (id : ℕ) (want : Want) (others : List Endpoint) (k : Kind) → names ip k ≡ true → names_there ip (request_of wanted id want others k) ≡ true
named_there ip wanted id want others Allocate is = absurd cc
named_there ip wanted id want others Refresh is = absurd cc
named_there ip wanted id want others Delete is = absurd cc
named_there ip wanted id want others (Permit peer) is = or_left (is_ip ip peer.ip) (list_any (λ other. is_ip ip other.ip) others) is
named_there ip wanted id want others (Bind number peer) is = is

-- so does the request that asks for it
pub part_named : (ip : Ip) (wanted : Option ℕ) (id : ℕ) (want : Want) (first : Request) (others : List Endpoint) (r : Request) → IsPartOf first others r → names ip r.kind ≡ true → names_there ip (request_of wanted id want others first.kind) ≡ true
part_named ip wanted id want first others r (inl same) is = named_there ip wanted id want others first.kind (subst (λ (x : Request). names ip x.kind ≡ true) same is)
part_named ip wanted id want first others r (inr along) is =
    subst (λ (k : Kind). names_there ip (request_of wanted id want others k) ≡ true) (sym along.kind)
    (or_right (is_ip ip along.peer.ip) (list_any (λ other. is_ip ip other.ip) others)
    (some_any (λ other. r ≡ record first { kind = Permit other }) (λ other. is_ip ip other.ip) (λ other same. subst (λ (x : Request). names ip x.kind ≡ true) same is) others along.named))

pub part_binds : (number : ℕ) (peer : Endpoint) (first : Request) (others : List Endpoint) (r : Request) → IsPartOf first others r → r.kind ≡ Bind number peer → first.kind ≡ Bind number peer
part_binds number peer first others r (inl same) is = ap (λ (x : Request). x.kind) (sym same) ∙ is
part_binds number peer first others r (inr along) is =
    some_out (λ other. r ≡ record first { kind = Permit other }) (first.kind ≡ Bind number peer) (λ other same. let k : Permit other ≡ Bind number peer = sym (ap (λ (x : Request). x.kind) same) ∙ is in absurd cc) others along.named

pub done_there : (mapped : Endpoint) (given : ServerAnswer) → Done ≡ answer_of mapped given → given ≡ s_done
done_there mapped (s_allocated [] lifetime missing) is = absurd cc
done_there mapped (s_allocated (g ∷ given) lifetime missing) is = absurd cc
done_there mapped (s_refreshed lifetime) is = absurd cc
done_there mapped s_done is = refl
done_there mapped (s_refused code) is = absurd cc

pub done_succeeds : (answer : Answer) → answer ≡ Done → is_success answer ≡ true
done_succeeds answer is = subst (λ (a : Answer). is_success a ≡ true) (sym is) refl

pub grant_succeeds : (kind : Kind) (answer : Answer) (lifetime : ℕ) → lifetime_of kind answer ≡ Some lifetime → is_success answer ≡ true
grant_succeeds kind (Opened relayed mapped n) lifetime is = refl
grant_succeeds kind (Extended n) lifetime is = refl
grant_succeeds kind Done lifetime is = refl
grant_succeeds Allocate (Refused code) lifetime is = absurd cc
grant_succeeds Refresh (Refused code) lifetime is = absurd cc
grant_succeeds Delete (Refused code) lifetime is = absurd cc
grant_succeeds (Permit peer) (Refused code) lifetime is = absurd cc
grant_succeeds (Bind number peer) (Refused code) lifetime is = absurd cc
grant_succeeds Allocate (Challenged code challenge) lifetime is = absurd cc
grant_succeeds Refresh (Challenged code challenge) lifetime is = absurd cc
grant_succeeds Delete (Challenged code challenge) lifetime is = absurd cc
grant_succeeds (Permit peer) (Challenged code challenge) lifetime is = absurd cc
grant_succeeds (Bind number peer) (Challenged code challenge) lifetime is = absurd cc
grant_succeeds Allocate (Redirected server) lifetime is = absurd cc
grant_succeeds Refresh (Redirected server) lifetime is = absurd cc
grant_succeeds Delete (Redirected server) lifetime is = absurd cc
grant_succeeds (Permit peer) (Redirected server) lifetime is = absurd cc
grant_succeeds (Bind number peer) (Redirected server) lifetime is = absurd cc
grant_succeeds Allocate Violated lifetime is = absurd cc
grant_succeeds Refresh Violated lifetime is = absurd cc
grant_succeeds Delete Violated lifetime is = absurd cc
grant_succeeds (Permit peer) Violated lifetime is = absurd cc
grant_succeeds (Bind number peer) Violated lifetime is = absurd cc

pub permits_there : (setup : Setup) (hs : List Happening) (server : ServerSetup) (there : List ServerTimed) (tuple : FiveTuple) (user : ℕ) (ip : Ip) (now : ℕ) → (s_run server there).clock ≤ now → IsLinked one_clock setup hs (s_history server there) tuple user → IsPermitted setup.server ip now hs
    → ServerPermits (s_history server there) tuple user ip now
permits_there setup hs server there tuple user ip now le linked permitted =
    let p = picked setup.server (Permits ip now) hs permitted.permitted in
    some_both (IsPast now) (Answers one_clock tuple user p.request p.answer) (PermitsThere tuple user ip now)
    (λ h past a.
    let named = part_named ip a.wanted a.first.id a.want a.first a.others p.request a.part p.holds.named in
    let succeeded = a.answered ∙ ap (s_answers tuple) (done_there a.mapped a.given (sym p.holds.success ∙ a.same)) in
    record {
      request = request_of a.wanted a.first.id a.want a.others a.first.kind;
      asked = a.asked;
      named = named;
      allowed = named_allowed ip h.rules (request_of a.wanted a.first.id a.want a.others a.first.kind) (past.sound tuple user (request_of a.wanted a.first.id a.want a.others a.first.kind) a.asked succeeded) named;
      succeeded = succeeded;
      came = past.came;
      lasts = let in_time = p.holds.in_time in let after = a.after in omega (arith, in_time, after);
    }) (s_history server there) (run_past server there now le) (linked p.request p.answer (done_succeeds p.answer p.holds.success) p.it)

pub binds_there : (setup : Setup) (hs : List Happening) (server : ServerSetup) (there : List ServerTimed) (tuple : FiveTuple) (user number : ℕ) (peer : Endpoint) (now : ℕ) → (s_run server there).clock ≤ now → IsLinked one_clock setup hs (s_history server there) tuple user
    → IsBound setup.server number peer now hs → ServerBinds (s_history server there) tuple user number peer now
binds_there setup hs server there tuple user number peer now le linked bound =
    let p = picked setup.server (Binds number peer now) hs bound.bound in
    some_both (IsPast now) (Answers one_clock tuple user p.request p.answer) (BindsThere tuple user number peer now)
    (λ h past a.
    let asked = a.asked ∙ ap (λ (k : Kind). s_asks tuple user (request_of a.wanted a.first.id a.want a.others k)) (part_binds number peer a.first a.others p.request a.part p.holds.kind) in
    let succeeded = a.answered ∙ ap (s_answers tuple) (done_there a.mapped a.given (sym p.holds.success ∙ a.same)) in
    record {
      asked = asked;
      allowed = (past.sound tuple user (s_bind number peer) asked succeeded).1;
      succeeded = succeeded;
      came = past.came;
      lasts = let in_time = p.holds.in_time in let after = a.after in omega (arith, in_time, after);
    }) (s_history server there) (run_past server there now le) (linked p.request p.answer (done_succeeds p.answer p.holds.success) p.it)

pub lasts_there : (mapped : Endpoint) (kind : Kind) (given : ServerAnswer) (lifetime : ℕ) → lifetime_of kind (answer_of mapped given) ≡ Some lifetime → granted_there given ≡ Some lifetime
lasts_there mapped Allocate (s_allocated [] n missing) lifetime is = absurd cc
lasts_there mapped Allocate (s_allocated (g ∷ given) n missing) lifetime is = is
lasts_there mapped Allocate (s_refreshed n) lifetime is = absurd cc
lasts_there mapped Allocate s_done lifetime is = absurd cc
lasts_there mapped Allocate (s_refused code) lifetime is = absurd cc
lasts_there mapped Refresh (s_allocated [] n missing) lifetime is = absurd cc
lasts_there mapped Refresh (s_allocated (g ∷ given) n missing) lifetime is = absurd cc
lasts_there mapped Refresh (s_refreshed n) lifetime is = is
lasts_there mapped Refresh s_done lifetime is = absurd cc
lasts_there mapped Refresh (s_refused code) lifetime is = absurd cc
lasts_there mapped Delete (s_allocated [] n missing) lifetime is = absurd cc
lasts_there mapped Delete (s_allocated (g ∷ given) n missing) lifetime is = absurd cc
lasts_there mapped Delete (s_refreshed n) lifetime is = absurd cc
lasts_there mapped Delete s_done lifetime is = absurd cc
lasts_there mapped Delete (s_refused code) lifetime is = absurd cc
lasts_there mapped (Permit peer) (s_allocated [] n missing) lifetime is = absurd cc
lasts_there mapped (Permit peer) (s_allocated (g ∷ given) n missing) lifetime is = absurd cc
lasts_there mapped (Permit peer) (s_refreshed n) lifetime is = absurd cc
lasts_there mapped (Permit peer) s_done lifetime is = absurd cc
lasts_there mapped (Permit peer) (s_refused code) lifetime is = absurd cc
lasts_there mapped (Bind number peer) (s_allocated [] n missing) lifetime is = absurd cc
lasts_there mapped (Bind number peer) (s_allocated (g ∷ given) n missing) lifetime is = absurd cc
lasts_there mapped (Bind number peer) (s_refreshed n) lifetime is = absurd cc
lasts_there mapped (Bind number peer) s_done lifetime is = absurd cc
lasts_there mapped (Bind number peer) (s_refused code) lifetime is = absurd cc

pub lifetime_there : (setup : Setup) (hs : List Happening) (server : ServerSetup) (there : List ServerTimed) (tuple : FiveTuple) (user now : ℕ) → IsLinked one_clock setup hs (s_history server there) tuple user → Confirmed setup.server (Lasts now) hs → ServerLasts (s_history server there) tuple user now
lifetime_there setup hs server there tuple user now linked confirmed =
    let p = picked setup.server (Lasts now) hs confirmed in
    happened_map (Answers one_clock tuple user p.request p.answer) (LastsThere tuple user now)
    (λ h a. record {
      request = request_of a.wanted a.first.id a.want a.others a.first.kind;
      asked = a.asked;
      given = a.given;
      answered = a.answered;
      lifetime = p.holds.lifetime;
      granted = lasts_there a.mapped p.request.kind a.given p.holds.lifetime (subst (λ (b : Answer). lifetime_of p.request.kind b ≡ Some p.holds.lifetime) a.same p.holds.granted);
      in_time = let in_time = p.holds.in_time in let after = a.after in omega (arith, in_time, after);
    }) (s_history server there) (linked p.request p.answer (grant_succeeds p.request.kind p.answer p.holds.lifetime p.holds.granted) p.it)

-- ---- Data crosses

pub crosses_out : (setup : Setup) (state : State) (server : ServerSetup) (there : List ServerTimed) (rules : Rules) (tuple : FiveTuple) (peer : Endpoint) (now fresh later : ℕ) (bytes : List ℕ) (works : Works server there later rules tuple peer)
    → (step setup state now fresh (sends peer bytes)).output ≡ send_to peer bytes
    → output_there server there later rules (at_server tuple (step setup state now fresh (sends peer bytes)).output) ≡ to_peer works.number peer false bytes
crosses_out setup state server there rules tuple peer now fresh later bytes works is = ap (λ (o : Output). output_there server there later rules (at_server tuple o)) is ∙ works.out bytes

shown_on : (peer else_one : Endpoint) (bytes : List ℕ) (o : Option Peer) → is_endpoint peer else_one ≡ false → option_map_or (λ (p : Peer). p.address) o else_one ≡ peer → option_map_or (λ (p : Peer). shows p.address bytes) o nothing ≡ shows peer bytes
shown_on peer else_one bytes None isnt is = absurd (true≢false (sym (subst (λ (e : Endpoint). is_endpoint e else_one ≡ true) is (endpoint_is_itself else_one)) ∙ isnt))
shown_on peer else_one bytes (Some p) isnt is = ap (λ (e : Endpoint). shows e bytes) is

crosses_by : (setup : Setup) (state : State) (tuple : FiveTuple) (peer : Endpoint) (later fresh : ℕ) (bytes : List ℕ) (o : ServerOutput) → is_allocated state.phase ≡ true → is_endpoint peer setup.server ≡ false
    → list_any (is_permitted (at later state).clock peer.ip) state.peers ≡ true → IsAgreed setup state (at later state).clock peer o → Reaches tuple peer bytes o
    → (step setup state later fresh (at_client setup.server o)).output ≡ shows peer bytes
crosses_by setup state tuple peer later fresh bytes o there other permitted agreed (inl is) =
    ap (λ (o : ServerOutput). (step setup state later fresh (at_client setup.server o)).output) is
    ∙ cond-true (is_endpoint setup.server setup.server && (is_allocated state.phase && list_any (is_permitted (at later state).clock peer.ip) state.peers)) (shows peer bytes) nothing
    (and_from (is_endpoint setup.server setup.server) (is_allocated state.phase && list_any (is_permitted (at later state).clock peer.ip) state.peers) (endpoint_is_itself setup.server)
    (and_from (is_allocated state.phase) (list_any (is_permitted (at later state).clock peer.ip) state.peers) there permitted))
crosses_by setup state tuple peer later fresh bytes o there other permitted agreed (inr on) =
    ap (λ (o : ServerOutput). (step setup state later fresh (at_client setup.server o)).output) on.1
    ∙ (cond-true (is_endpoint setup.server setup.server && is_allocated state.phase) (option_map_or (λ (p : Peer). shows p.address bytes) (find (hears (at later state).clock on.0 state.peers) state.peers) nothing) nothing
    (and_from (is_endpoint setup.server setup.server) (is_allocated state.phase) (endpoint_is_itself setup.server) there)
    ∙ shown_on peer setup.server bytes (find (hears (at later state).clock on.0 state.peers) state.peers) other (agreed tuple on.0 bytes on.1))

pub crosses_back : (setup : Setup) (state : State) (server : ServerSetup) (there : List ServerTimed) (rules : Rules) (tuple : FiveTuple) (peer : Endpoint) (now fresh later : ℕ) (bytes : List ℕ) (works : Works server there now rules tuple peer)
    → is_allocated state.phase ≡ true → is_endpoint peer setup.server ≡ false → list_any (is_permitted (at later state).clock peer.ip) state.peers ≡ true
    → IsAgreed setup state (at later state).clock peer (output_there server there now rules (s_arrives works.number peer bytes))
    → (step setup state later fresh (at_client setup.server (output_there server there now rules (s_arrives works.number peer bytes)))).output ≡ shows peer bytes
crosses_back setup state server there rules tuple peer now fresh later bytes works allocated other permitted agreed =
    crosses_by setup state tuple peer later fresh bytes (output_there server there now rules (s_arrives works.number peer bytes)) allocated other permitted agreed (works.back bytes)
