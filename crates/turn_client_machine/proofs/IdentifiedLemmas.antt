-- A request that awaits its response was sent, with the random number of the poll that first sent it.
use Rattle.std.proofs.Common.{◌≡◌, ℕ, inl, inr, ◌⊎◌, ◌&&◌, List, [], ◌∷◌, Option, None, Some, sym, ap, subst, ◌∙◌}
use Rattle.std.specs.List.{AllByRecursion}
use Rattle.std.specs.Option.{option_map, option_map_or}
use Rattle.std.proofs.lemmas.Bool.{cond_both}
use Rattle.turn_machine.specs.Lists.{SomeOf}
use Rattle.turn_client_machine.specs.Clients.{Setup, Kind, Request, Pending, Peer, State, Endpoint, is_allocated, is_active}
use Rattle.turn_client_machine.specs.Events.{Output, asks, send_to, send_on, shows, nothing, polls, Event}
use Rattle.turn_client_machine.specs.Tasks.{is_due, is_expired}
use Rattle.turn_client_machine.specs.Steps.{Step, keeps, at, kind_in, kind_of, turns_peer, polled, happens, is_next, is_free, own_task, others_at, takes_along}
use Rattle.turn_client_machine.specs.Identified.{AreDistinct, IsPollWith, IsAwaitedBy, IsUnderWay, AreOneRequest}
use Rattle.turn_client_machine.specs.Runs.{Timed, Happening, run, happening, history, Happened}
use Rattle.turn_client_machine.specs.Warrants.{Asks, AsksFor}
use Rattle.turn_client_machine.proofs.ListsLemmas.{found}
use Rattle.turn_client_machine.proofs.Backed.{IsPending, IsBacked, WasSent}
use Rattle.turn_client_machine.proofs.BackedLemmas.{IsKept, run_kept}
use Rattle.turn_client_machine.proofs.RightLemmas.{run_right, asked_polls}
use Rattle.turn_client_machine.proofs.AskingLemmas.{turn_asks}
use Rattle.turn_client_machine.proofs.JoiningLemmas.{turn_parts, Wanted, own_pending}
use Rattle.turn_client_machine.proofs.ServerEnds.{some_out}

-- ---- What awaits its response was sent

main_sent : (hs : List Happening) (o : Option Pending) (r : Request) → WasSent hs o → option_map (λ p. p.request) o ≡ Some r → Happened (Asks r) hs
main_sent hs None r sent is = absurd cc
main_sent hs (Some q) r sent is = subst (λ (o : Option Request). Happened (Asks (option_map_or (λ x. x) o q.request)) hs) is sent.0

peer_sent : (hs : List Happening) (address : Endpoint) (number : ℕ) (o : Option Pending) (r : Request) → IsPending hs address number o → option_map (λ p. p.request) o ≡ Some r → Happened (Asks r) hs
peer_sent hs address number None r pending is = absurd cc
peer_sent hs address number (Some q) r pending is = subst (λ (o : Option Request). Happened (Asks (option_map_or (λ x. x) o q.request)) hs) is pending.sent

peers_sent : (setup : Setup) (hs : List Happening) (r : Request) (ps : List Peer) → AllByRecursion (IsBacked setup.server hs) ps → SomeOf (λ p. IsAwaitedBy p.task r) ps → Happened (Asks r) hs
peers_sent setup hs r [] each some = absurd some
peers_sent setup hs r (p ∷ ps) each (inl is) = peer_sent hs p.address p.number p.task.pending r each.0.pending is
peers_sent setup hs r (p ∷ ps) each (inr some) = peers_sent setup hs r ps each.1 some

pub under_way_sent : (setup : Setup) (events : List Timed) (r : Request) → IsUnderWay (run setup events) r → Happened (Asks r) (history setup events)
under_way_sent setup events r (inl is) = main_sent (history setup events) (run setup events).task.pending r (run_kept setup events).main.pending is
under_way_sent setup events r (inr some) = peers_sent setup (history setup events) r (run setup events).peers (run_kept setup events).each some

-- ---- The transaction ID of a request is the random number of the poll that first sent it

abbrev Known : List Happening → (fresh : ℕ) → Request → Type 0
Known hs fresh r = Happened (Asks r) hs ⊎ (r.id ≡ fresh)

main_known : (hs : List Happening) (clock fresh : ℕ) (kind : Kind) (challenge : Option ℕ) (r : Request) (o : Option Pending) → WasSent hs o
    → option_map_or (λ (q : Pending). q.request) o (record { id = fresh; kind = kind; challenge = challenge; since = clock }) ≡ r → Known hs fresh r
main_known hs clock fresh kind challenge r None sent is = inr (ap (λ (x : Request). x.id) (sym is))
main_known hs clock fresh kind challenge r (Some q) sent is = inl (subst (λ (x : Request). Happened (Asks x) hs) is sent.0)

peer_known : (hs : List Happening) (address : Endpoint) (number clock fresh : ℕ) (kind : Kind) (challenge : Option ℕ) (r : Request) (o : Option Pending) → IsPending hs address number o
    → option_map_or (λ (q : Pending). q.request) o (record { id = fresh; kind = kind; challenge = challenge; since = clock }) ≡ r → Known hs fresh r
peer_known hs address number clock fresh kind challenge r None pending is = inr (ap (λ (x : Request). x.id) (sym is))
peer_known hs address number clock fresh kind challenge r (Some q) pending is = inl (subst (λ (x : Request). Happened (Asks x) hs) is pending.sent)

polled_known : (setup : Setup) (fresh : ℕ) (hs : List Happening) (s : State) (r : Request) → IsKept setup hs s → AsksFor r (polled setup fresh s).output → Known hs fresh r
polled_known setup fresh hs s r k =
    cond_both (is_active s.phase && is_due s.clock s.task) _ _ (λ (x : Step). AsksFor r x.output → Known hs fresh r)
    (λ _. cond_both (is_expired s.clock s.task) _ _ (λ (x : Step). AsksFor r x.output → Known hs fresh r) (λ _ e. absurd e)
    (λ _. turn_asks setup s.clock fresh (kind_in s.phase) s.challenge s.task r (Known hs fresh r) (main_known hs s.clock fresh (kind_in s.phase) s.challenge r s.task.pending k.main.pending)))
    (λ _. cond_both (is_allocated s.phase) _ _ (λ (x : Step). AsksFor r x.output → Known hs fresh r)
    (λ _. found (IsBacked setup.server hs) (is_next (is_free s.peers) s.clock) (λ o. AsksFor r (option_map_or (turns_peer setup fresh (is_free s.peers) s) o (keeps s)).output → Known hs fresh r) (λ e. absurd e) s.peers
    (λ p is b asked. elim (turn_parts setup fresh (is_free s.peers) s p r asked) [
      | inl e ↦ peer_known hs p.address p.number s.clock fresh (kind_of p) s.challenge r (own_task p).pending (own_pending (IsPending hs p.address p.number) p tt b.pending) e
      | inr some ↦ inr (some_out (λ e. r ≡ Wanted s.clock fresh s.challenge e) (r.id ≡ fresh) (λ e is. ap (λ (x : Request). x.id) is) (others_at setup fresh (is_free s.peers) (takes_along setup s.clock s.peers p) s) some)
    ])
    k.each)
    (λ _ e. absurd e))

run_known : (setup : Setup) (earlier : List Timed) (timed : Timed) (r : Request) → AsksFor r (happening setup (run setup earlier) timed).output → (timed.event ≡ polls) × Known (history setup earlier) timed.fresh r
run_known setup earlier timed r e =
    let k = run_kept setup earlier in
    let s = at timed.now (run setup earlier) in
    let h = happening setup (run setup earlier) timed in
    let poll = asked_polls setup (history setup earlier) h.moment h.event h.output r (run_right setup earlier timed) e in (
      poll,
      polled_known setup timed.fresh (history setup earlier) s r (record { main = k.main; each = k.each }) (subst (λ (v : Event). AsksFor r (happens setup timed.fresh s v).output) poll e),
    )

asked_by_poll : (setup : Setup) (events : List Timed) (r : Request) → Happened (Asks r) (history setup events) → SomeOf (IsPollWith r.id) events
asked_by_poll setup [] r some = absurd some
asked_by_poll setup (timed ∷ earlier) r (inl a) =
    let k = run_known setup earlier timed r a.asked in
    elim k.1 [
      | inl sent ↦ inr (asked_by_poll setup earlier r sent)
      | inr is ↦ inl (k.0, sym is)
    ]
asked_by_poll setup (timed ∷ earlier) r (inr some) = inr (asked_by_poll setup earlier r some)

-- what one output asks for
one_output : (o : Output) (r other : Request) → AsksFor r o → AsksFor other o → AreOneRequest r other
one_output (asks first others) r other one two = record { first = first; others = others; one = one; two = two }
one_output (send_to peer bytes) r other one two = absurd one
one_output (send_on number bytes) r other one two = absurd one
one_output (shows peer bytes) r other one two = absurd one
one_output nothing r other one two = absurd one

-- a request that is sent now isn't another that was sent before with its ID
sent_now : (setup : Setup) (timed : Timed) (earlier : List Timed) (r other : Request) → AreDistinct (timed ∷ earlier) → Asks r (happening setup (run setup earlier) timed) → Happened (Asks other) (history setup earlier) → r.id ≡ other.id
    → (R : Type 0) → (Happened (Asks r) (history setup earlier) → R) → R
sent_now setup timed earlier r other distinct a some same R before =
    let k = run_known setup earlier timed r a.asked in
    elim k.1 [
      | inl sent ↦ before sent
      | inr is ↦ absurd (distinct.0 k.0 (subst (λ (n : ℕ). SomeOf (IsPollWith n) earlier) (sym same ∙ is) (asked_by_poll setup earlier other some)))
    ]

pub asked_once : (setup : Setup) (events : List Timed) (r other : Request) → AreDistinct events → Happened (Asks r) (history setup events) → Happened (Asks other) (history setup events) → r.id ≡ other.id → AreOneRequest r other
asked_once setup [] r other distinct one two same = absurd one
asked_once setup (timed ∷ earlier) r other distinct (inl a) (inl b) same = one_output (happening setup (run setup earlier) timed).output r other a.asked b.asked
asked_once setup (timed ∷ earlier) r other distinct (inl a) (inr two) same =
    sent_now setup timed earlier r other distinct a two same (AreOneRequest r other) (λ one. asked_once setup earlier r other distinct.1 one two same)
asked_once setup (timed ∷ earlier) r other distinct (inr one) (inl b) same =
    sent_now setup timed earlier other r distinct b one (sym same) (AreOneRequest r other) (λ two. asked_once setup earlier r other distinct.1 one two same)
asked_once setup (timed ∷ earlier) r other distinct (inr one) (inr two) same = asked_once setup earlier r other distinct.1 one two same
