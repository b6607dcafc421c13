-- The premises of `will_reach` can be met.
use Rattle.std.proofs.Common.{◌≡◌, ◌⊎◌, ℕ, inl, inr, true, false, [], ◌∷◌, None, refl, sym, ap, subst, ◌∙◌, arith}
use Rattle.turn_machine.specs.Events.{Request as ServerRequest, asks as s_asks, allocated as s_allocated, done as s_done}
use Rattle.turn_machine.specs.Lists.{SomeOf as ServerHappened}
use Rattle.turn_client_machine.specs.Clients.{seconds, Request, Bind, Allocate}
use Rattle.turn_client_machine.specs.Events.{Answer, Opened, Done}
use Rattle.turn_client_machine.specs.Steps.{at}
use Rattle.turn_client_machine.specs.Runs.{run, history, Happened}
use Rattle.turn_client_machine.specs.Warrants.{Asks, IsPartOf}
use Rattle.turn_client_machine.specs.Joined.{request_of, Answers, IsLinked, one_clock}
use Rattle.turn_client_machine.specs.Reach.{happened_since, IsOwn, IsJoined, IsPunctual, IsSettled}
use Rattle.turn_client_machine.specs.Examples.{address, peer_1, tuple_1, setup_1, want_1, server_setup}
use Rattle.turn_client_machine.specs.Meetings.{events_1, request_1, request_2, requests_1}

abbrev request_0 : Request
request_0 = record { id = 100; kind = Allocate; challenge = None; since = 0 }

-- the requests of the run
abbrev IsOne : Request → Type 0
IsOne r = (r ≡ request_2) ⊎ ((r ≡ request_1) ⊎ (r ≡ request_0))

single : (first r : Request) → IsPartOf first [] r → r ≡ first
single first r (inl same) = same
single first r (inr along) = absurd along.named

which : (r : Request) → Happened (Asks r) (history setup_1 events_1) → IsOne r
which r (inl a) = absurd a.asked
which r (inr (inl a)) = inl (single request_2 r a.asked)
which r (inr (inr (inl a))) = absurd a.asked
which r (inr (inr (inr (inl a)))) = inr (inl (single request_1 r a.asked))
which r (inr (inr (inr (inr (inl a))))) = absurd a.asked
which r (inr (inr (inr (inr (inr (inl a)))))) = inr (inr (single request_0 r a.asked))
which r (inr (inr (inr (inr (inr (inr (inl a))))))) = absurd a.asked
which r (inr (inr (inr (inr (inr (inr (inr (inl a)))))))) = absurd a.asked
which r (inr (inr (inr (inr (inr (inr (inr (inr none)))))))) = absurd none

with_102 : (r : Request) → IsOne r → 102 ≡ r.id → r ≡ request_2
with_102 r (inl is) id = is
with_102 r (inr (inl is)) id = let e : 102 ≡ 101 = id ∙ ap (λ (x : Request). x.id) is in absurd (omega (arith, e))
with_102 r (inr (inr is)) id = let e : 102 ≡ 100 = id ∙ ap (λ (x : Request). x.id) is in absurd (omega (arith, e))

with_101 : (r : Request) → IsOne r → 101 ≡ r.id → r ≡ request_1
with_101 r (inl is) id = let e : 101 ≡ 102 = id ∙ ap (λ (x : Request). x.id) is in absurd (omega (arith, e))
with_101 r (inr (inl is)) id = is
with_101 r (inr (inr is)) id = let e : 101 ≡ 100 = id ∙ ap (λ (x : Request). x.id) is in absurd (omega (arith, e))

answered_2 : ServerHappened (Answers one_clock tuple_1 5 request_2 Done) (happened_since server_setup requests_1 [])
answered_2 = inl (record { wanted = None; want = want_1; mapped = address 12; given = s_done; first = request_2; others = []; part = inl refl; asked = refl; answered = refl; same = refl; after = omega arith })

answered_1 : ServerHappened (Answers one_clock tuple_1 5 request_1 (Opened (address 2) (address 12) 600)) (happened_since server_setup requests_1 [])
answered_1 = inr (inl (record { wanted = None; want = want_1; mapped = address 12; given = s_allocated (record { family = 1; number = 7; address = address 2 } ∷ []) 600 []; first = request_1; others = []; part = inl refl; asked = refl; answered = refl; same = refl; after = omega arith }))

abbrev There : Request → Answer → Type 0
There r answer = ServerHappened (Answers one_clock tuple_1 5 r answer) (happened_since server_setup requests_1 [])

linked_1 : IsLinked one_clock setup_1 (history setup_1 events_1) (happened_since server_setup requests_1 []) tuple_1 5
linked_1 r answer success (inl c) =
    let e = c.responded in
    let id : 102 ≡ c.request.id = cc in
    let told : Done ≡ c.answer = cc in
    let it = with_102 c.request (which c.request (inr c.sent)) id in
    subst (λ (q : Request). There q answer) (sym it ∙ c.holds.0) (subst (λ (a : Answer). There request_2 a) (told ∙ c.holds.1) answered_2)
linked_1 r answer success (inr (inl c)) = let e = c.responded in absurd cc
linked_1 r answer success (inr (inr (inl c))) =
    let e = c.responded in
    let id : 101 ≡ c.request.id = cc in
    let told : Opened (address 2) (address 12) 600 ≡ c.answer = cc in
    let it = with_101 c.request (which c.request (inr (inr (inr c.sent)))) id in
    subst (λ (q : Request). There q answer) (sym it ∙ c.holds.0) (subst (λ (a : Answer). There request_1 a) (told ∙ c.holds.1) answered_1)
linked_1 r answer success (inr (inr (inr (inl c)))) = let e = c.responded in absurd cc
linked_1 r answer success (inr (inr (inr (inr (inl c))))) = let e = c.responded in let unsigned : false ≡ true = cc in absurd cc
linked_1 r answer success (inr (inr (inr (inr (inr (inl c)))))) = let e = c.responded in absurd cc
linked_1 r answer success (inr (inr (inr (inr (inr (inr (inl c))))))) = let e = c.responded in absurd cc
linked_1 r answer success (inr (inr (inr (inr (inr (inr (inr (inl c)))))))) = let e = c.responded in absurd cc
linked_1 r answer success (inr (inr (inr (inr (inr (inr (inr (inr none)))))))) = absurd none

own_2 : (request : ServerRequest) → s_asks tuple_1 5 (request_of None 102 want_1 [] request_2.kind) ≡ s_asks tuple_1 5 request → IsOwn one_clock None (history setup_1 events_1) 2 request
own_2 request is = record { r = request_2; others = []; want = want_1; sent = inr (inl (record { asked = refl; then = refl })); same = cc; after = omega arith; soon = λ e. absurd cc }

own_1 : (request : ServerRequest) → s_asks tuple_1 5 (request_of None 101 want_1 [] request_1.kind) ≡ s_asks tuple_1 5 request → IsOwn one_clock None (history setup_1 events_1) 1 request
own_1 request is = record { r = request_1; others = []; want = want_1; sent = inr (inr (inr (inl (record { asked = refl; then = refl })))); same = cc; after = omega arith; soon = λ e. omega arith }

pub joined_1 : IsJoined setup_1 (history setup_1 events_1) server_setup requests_1 [] tuple_1 5
joined_1 = record {
  wanted = None;
  is_lifetime = tt;
  shown = one_clock;
  drift = 0;
  steady = record { later = λ s t le. le; even = λ s t le less. omega arith };
  small = omega arith;
  unknown = refl;
  linked = linked_1;
  alone = (own_2, (own_1, tt));
  spared = λ family number some. (refl, (refl, tt));
}

pub punctual_1 : IsPunctual 0 (seconds 19) peer_1 peer_1 (at (seconds 3) (run setup_1 events_1))
punctual_1 = record {
  allocation = refl;
  known = refl;
  same = refl;
  usable = (λ _. (refl, omega arith), tt);
  in_time = record { allocation = omega arith; peers = (λ _. omega arith, tt) };
  soon = omega arith;
}

none_bound : (r : Request) (number : ℕ) → IsOne r → r.kind ≡ Bind number peer_1 → ⊥
none_bound r number (inl is) bound = let e = sym (ap (λ (x : Request). x.kind) is) ∙ bound in absurd cc
none_bound r number (inr (inl is)) bound = let e = sym (ap (λ (x : Request). x.kind) is) ∙ bound in absurd cc
none_bound r number (inr (inr is)) bound = let e = sym (ap (λ (x : Request). x.kind) is) ∙ bound in absurd cc

-- it has sent no ChannelBind request
pub settled_1 : IsSettled (history setup_1 events_1) peer_1 (at (seconds 3) (run setup_1 events_1))
settled_1 = λ r number sent is. absurd (none_bound r number (which r sent) is)
