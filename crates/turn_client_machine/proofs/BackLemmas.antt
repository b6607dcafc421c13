-- What a peer sends to the client's socket, the client shows.
use Rattle.std.proofs.Common.{◌≡◌, ℕ, inl, inr, true, ◌&&◌, List, [], ◌∷◌, ◌++◌, Option, Some, sym, ap, subst, ◌∙◌, find}
use Rattle.std.specs.List.{AllByRecursion, list_any}
use Rattle.std.specs.Option.{option_map_or}
use Rattle.std.proofs.lemmas.Bool.{cond-true, and_from}
use Rattle.stun_endpoints.specs.declared.endpoints.FiveTuple.{FiveTuple}
use Rattle.turn_machine.specs.Lists.{SomeOf}
use Rattle.turn_machine.specs.Relays.{Setup as ServerSetup, Rules}
use Rattle.turn_machine.specs.Events.{Want, Given, allocated as s_allocated, bind as s_bind, asks as s_asks, answers as s_answers, arrives as s_arrives, Output as ServerOutput, to_client_on}
use Rattle.turn_machine.specs.Times.{at as s_at}
use Rattle.turn_machine.specs.Runs.{Timed as ServerTimed, Happening as ServerHappening, run as s_run}
use Rattle.turn_machine.specs.Warrants.{Opens}
use Rattle.turn_machine.specs.Works.{Reaches, output_of as output_there}
use Rattle.stun_endpoints.proofs.AddressesLemmas.{endpoint_is_itself}
use Rattle.turn_client_machine.specs.Clients.{Endpoint, is_endpoint, Setup, Kind, Allocate, Refresh, Delete, Permit, Bind, Request, Peer, State, is_allocated, is_permitted, hears}
use Rattle.turn_client_machine.specs.Events.{gives, gives_on, shows, nothing}
use Rattle.turn_client_machine.specs.Steps.{at, step}
use Rattle.turn_client_machine.specs.Runs.{Timed, Happening, run, history, Happened}
use Rattle.turn_client_machine.specs.Warrants.{Asks}
use Rattle.turn_client_machine.specs.Joined.{request_of, at_client}
use Rattle.turn_client_machine.specs.Reach.{happened_since, IsAlone, IsJoined, Arrives, IsSocket, IsPunctual, IsSettled}
use Rattle.turn_client_machine.proofs.NumbersLemmas.{run_numbered}
use Rattle.turn_client_machine.proofs.BoundLemmas.{found_by}
use Rattle.turn_client_machine.proofs.ServerOwn.{known_at, arrives_by}
use Rattle.turn_client_machine.proofs.ServerEnds.{given_one}
use Rattle.turn_client_machine.proofs.RelayedLemmas.{Back}
use Rattle.turn_client_machine.proofs.PunctualLemmas.{punctual_reach, punctual_permitted}
use Rattle.turn_client_machine.proofs.Backed.{sends_asks}

-- ---- There is one socket

abbrev NeverOpens : FiveTuple → (user : ℕ) → ServerHappening → Type 0
NeverOpens tuple user h = (f n : ℕ) → Opens tuple user f n h → ⊥

never_opens : (tuple : FiveTuple) (user family number : ℕ) (R : Type 0) (opening : ServerHappening) (before since after : List ServerHappening) → since ≡ after ++ opening ∷ before → AllByRecursion (NeverOpens tuple user) since → Opens tuple user family number opening → R
never_opens tuple user family number R opening before [] [] is none o = absurd cc
never_opens tuple user family number R opening before [] (g ∷ after) is none o = absurd cc
never_opens tuple user family number R opening before (h ∷ since) [] is none o = let same : h ≡ opening = cc in absurd (none.0 family number (subst (Opens tuple user family number) (sym same) o))
never_opens tuple user family number R opening before (h ∷ since) (g ∷ after) is none o = never_opens tuple user family number R opening before since after (cc) none.1 o

of_one : (f g number other : ℕ) (relayed : Endpoint) → SomeOf (λ (x : Given). (x.family ≡ g) × (x.number ≡ other)) (given_one f number relayed ∷ []) → number ≡ other
of_one f g number other relayed (inl is) = is.1
of_one f g number other relayed (inr none) = absurd none

-- it got one number only
same_given : (tuple : FiveTuple) (user f g number other : ℕ) (relayed : Endpoint) (h : ServerHappening) (one : Opens tuple user f number h) → one.given ≡ given_one f number relayed ∷ [] → Opens tuple user g other h → number ≡ other
same_given tuple user f g number other relayed h one only two =
    let answered : s_answers tuple (s_allocated one.given one.granted one.missing) ≡ s_answers tuple (s_allocated two.given two.granted two.missing) = sym one.answered ∙ two.answered in
    let same : one.given ≡ two.given = cc in
    of_one f g number other relayed (subst (SomeOf (λ (x : Given). (x.family ≡ g) × (x.number ≡ other))) (sym same ∙ only) two.has)

same_split : (tuple : FiveTuple) (user f g number other : ℕ) (relayed : Endpoint) (one two : ServerHappening) (before old since after : List ServerHappening) → since ++ one ∷ before ≡ after ++ two ∷ old → (a : Opens tuple user f number one) → a.given ≡ given_one f number relayed ∷ [] → Opens tuple user g other two
    → AllByRecursion (NeverOpens tuple user) before → AllByRecursion (NeverOpens tuple user) old → number ≡ other
same_split tuple user f g number other relayed one two before old [] [] is a only b none first = let same : two ≡ one = cc in same_given tuple user f g number other relayed one a only (subst (Opens tuple user g other) same b)
same_split tuple user f g number other relayed one two before old [] (x ∷ after) is a only b none first = never_opens tuple user g other (number ≡ other) two old before after (cc) none b
same_split tuple user f g number other relayed one two before old (h ∷ since) [] is a only b none first = never_opens tuple user f number (number ≡ other) one before old since (cc) first a
same_split tuple user f g number other relayed one two before old (h ∷ since) (x ∷ after) is a only b none first = same_split tuple user f g number other relayed one two before old since after (cc) a only b none first

one_socket : (tuple : FiveTuple) (user number other : ℕ) (relayed address : Endpoint) (there : List ServerHappening) (a : IsSocket tuple user number relayed there) → a.opens.given ≡ given_one a.family number relayed ∷ [] → IsSocket tuple user other address there → number ≡ other
one_socket tuple user number other relayed address there a only b = same_split tuple user a.family b.family number other relayed a.opening b.opening a.before b.before a.since b.since (sym a.split ∙ b.split) a.opens only b.opens a.first b.first

-- ---- A channel that the server uses, the client has

-- who has asked for it
record Sent (hs : List Happening) (number : ℕ) (peer : Endpoint) : Type 0 where
  r : Request
  sent : Happened (Asks r) hs
  kind : r.kind ≡ Bind number peer

bind_of : (wanted : Option ℕ) (id number : ℕ) (peer : Endpoint) (want : Want) (others : List Endpoint) (kind : Kind) → s_bind number peer ≡ request_of wanted id want others kind → kind ≡ Bind number peer
bind_of wanted id number peer want others Allocate is = absurd cc
bind_of wanted id number peer want others Refresh is = absurd cc
bind_of wanted id number peer want others Delete is = absurd cc
bind_of wanted id number peer want others (Permit other) is = absurd cc
bind_of wanted id number peer want others (Bind n other) is = cc

asked_by : (shown : ℕ → ℕ) (wanted : Option ℕ) (hs : List Happening) (there : List ServerHappening) (tuple : FiveTuple) (user number : ℕ) (peer : Endpoint) → IsAlone shown wanted hs there tuple user → SomeOf (λ h. h.event ≡ s_asks tuple user (s_bind number peer)) there → Sent hs number peer
asked_by shown wanted hs [] tuple user number peer alone some = absurd some
asked_by shown wanted hs (h ∷ there) tuple user number peer alone (inl asked) = let o = alone.0 (s_bind number peer) asked in record { r = o.r; sent = sends_asks o.r o.others hs o.sent; kind = bind_of wanted o.r.id number peer o.want o.others o.r.kind o.same }
asked_by shown wanted hs (h ∷ there) tuple user number peer alone (inr some) = asked_by shown wanted hs there tuple user number peer alone.1 some

-- ---- The client shows it

shows_to : (setup : Setup) (state : State) (later fresh : ℕ) (tuple : FiveTuple) (peer : Endpoint) (bytes : List ℕ) → is_allocated state.phase ≡ true → list_any (is_permitted (at later state).clock peer.ip) state.peers ≡ true
    → (step setup state later fresh (gives setup.server peer bytes)).output ≡ shows peer bytes
shows_to setup state later fresh tuple peer bytes allocated permitted =
    cond-true (is_endpoint setup.server setup.server && (is_allocated state.phase && list_any (is_permitted (at later state).clock peer.ip) state.peers)) (shows peer bytes) nothing
    (and_from (is_endpoint setup.server setup.server) (is_allocated state.phase && list_any (is_permitted (at later state).clock peer.ip) state.peers) (endpoint_is_itself setup.server)
    (and_from (is_allocated state.phase) (list_any (is_permitted (at later state).clock peer.ip) state.peers) allocated permitted))

shows_on : (setup : Setup) (state : State) (later fresh number : ℕ) (peer : Endpoint) (bytes : List ℕ) → is_allocated state.phase ≡ true → (p : Peer) → find (hears (at later state).clock number state.peers) state.peers ≡ Some p → p.address ≡ peer
    → (step setup state later fresh (gives_on setup.server number bytes)).output ≡ shows peer bytes
shows_on setup state later fresh number peer bytes allocated p found is =
    cond-true (is_endpoint setup.server setup.server && is_allocated state.phase) (option_map_or (λ (p : Peer). shows p.address bytes) (find (hears (at later state).clock number state.peers) state.peers) nothing) nothing
    (and_from (is_endpoint setup.server setup.server) (is_allocated state.phase) (endpoint_is_itself setup.server) allocated)
    ∙ (ap (λ (o : Option Peer). option_map_or (λ (p : Peer). shows p.address bytes) o nothing) found ∙ ap (λ (e : Endpoint). shows e bytes) is)

shows_it : (shown : ℕ → ℕ) (setup : Setup) (events more : List Timed) (wanted : Option ℕ) (there : List ServerHappening) (tuple : FiveTuple) (user now fresh : ℕ) (peer : Endpoint) (bytes : List ℕ) (o : ServerOutput) → IsAlone shown wanted (history setup events) there tuple user
    → ((number : ℕ) → o ≡ to_client_on tuple number bytes → SomeOf (λ h. h.event ≡ s_asks tuple user (s_bind number peer)) there) → is_allocated (run setup (more ++ events)).phase ≡ true
    → list_any (is_permitted (at now (run setup (more ++ events))).clock peer.ip) (run setup (more ++ events)).peers ≡ true → IsSettled (history setup events) peer (at now (run setup (more ++ events))) → Reaches tuple peer bytes o
    → (step setup (run setup (more ++ events)) now fresh (at_client setup.server o)).output ≡ shows peer bytes
shows_it shown setup events more wanted there tuple user now fresh peer bytes o alone asks allocated permitted settled (inl is) =
    ap (λ (o : ServerOutput). (step setup (run setup (more ++ events)) now fresh (at_client setup.server o)).output) is ∙ shows_to setup (run setup (more ++ events)) now fresh tuple peer bytes allocated permitted
shows_it shown setup events more wanted there tuple user now fresh peer bytes o alone asks allocated permitted settled (inr on) =
    let sent = asked_by shown wanted (history setup events) there tuple user on.0 peer alone (asks on.0 on.1) in
    let clock = (at now (run setup (more ++ events))).clock in
    let it = found_by clock on.0 peer (run setup (more ++ events)).peers (run setup (more ++ events)).peers permitted (run_numbered setup (more ++ events)) (settled sent.r on.0 sent.sent sent.kind) in
    ap (λ (o : ServerOutput). (step setup (run setup (more ++ events)) now fresh (at_client setup.server o)).output) on.1 ∙ shows_on setup (run setup (more ++ events)) now fresh on.0 peer bytes allocated it.0 it.1 it.2

pub shown_back : Back → (setup : Setup) (events more : List Timed) (server : ServerSetup) (since earlier : List ServerTimed) (rules : Rules) (tuple : FiveTuple) (user before now fresh there late slack number : ℕ) (named peer : Endpoint) (bytes : List ℕ)
    (j : IsJoined setup (history setup events) server since earlier tuple user) → rules.allows_ip peer.ip ≡ true → Arrives j.shown j.drift slack (at before (run setup events)).clock (s_at there (s_run server (since ++ earlier))).clock
    → IsPunctual late slack named peer (at before (run setup events)) → IsSocket tuple user number (run setup events).relayed (happened_since server since earlier)
    → IsPunctual late 0 named peer (at now (run setup (more ++ events))) → IsSettled (history setup events) peer (at now (run setup (more ++ events)))
    → (step setup (run setup (more ++ events)) now fresh (at_client setup.server (output_there server (since ++ earlier) there rules (s_arrives number peer bytes)))).output ≡ shows peer bytes
shown_back back setup events more server since earlier rules tuple user before now fresh there late slack number named peer bytes j allowed arrives punctual socket here settled =
    let hap = happened_since server since earlier in
    let relayed = (run setup events).relayed in
    let r = punctual_reach setup events server since earlier tuple user before there late slack named peer j arrives punctual in
    let works = back server (since ++ earlier) there rules tuple r.number peer bytes r.due allowed in
    let known = known_at tuple user r.family r.number there relayed hap (s_run server (since ++ earlier)) r.known in
    let same : r.number ≡ number = one_socket tuple user r.number number relayed relayed hap r.socket r.only socket in
    shows_it j.shown setup events more j.wanted hap tuple user now fresh peer bytes (output_there server (since ++ earlier) there rules (s_arrives number peer bytes)) j.alone
    (λ channel is. arrives_by server rules tuple user r.family r.number number there channel relayed hap (since ++ earlier) peer bytes known.its is)
    here.allocation (punctual_permitted setup (more ++ events) now late 0 named peer here) settled
    (subst (λ (n : ℕ). Reaches tuple peer bytes (output_there server (since ++ earlier) there rules (s_arrives n peer bytes))) same works)
