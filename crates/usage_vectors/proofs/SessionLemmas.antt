-- The steps of a session, from what each datagram is judged to be. Of a server's `Access` they read what `IsServer`
-- says, so the prover computes with numbers alone.
use Rattle.std.proofs.Common.{◌≡◌, ℕ, true, List, [], ◌∷◌, Option, None, Some, refl, ap, ◌∙◌}
use Rattle.stun_attributes.specs.Texts.{text_bytes}
use Rattle.stun_endpoints.specs.Conversions.{socket_of}
use Rattle.stun_authentication.specs.declared.policy.Policy.{Policy}
use Rattle.stun_authentication.specs.Answers.{refusal_code}
use Rattle.stun_authentication.specs.Asking.{Asked, asked_for, listed}
use Rattle.stun_authentication.specs.Nonces.{Minting, minting_of}
use Rattle.stun_authentication.specs.Refusing.{refusal_of, refusal_sizes}
use Rattle.stun_authentication.specs.Writing.{no_room}
use Rattle.turn_machine.specs.Relays.{seconds}
use Rattle.turn_machine.specs.Reserving.{OuterState, OuterStep, outer_step}
use Rattle.turn_server.specs.declared.access.Access.{Access}
use Rattle.turn_server.specs.Access.{nonces_of, nonce_for, offered, asked_by, software_in}
use Rattle.turn_server.specs.Acting.{Act, drops, binds, refuses, refuses_types, responds, sends_to, acted, act}
use Rattle.turn_server.specs.Answers.{answer_text, answer_refusal}
use Rattle.turn_server.specs.Datagrams.{Arrival, Moment, of_client, kept}
use Rattle.turn_server.specs.Judging.{Site, Judged, event_of, judge}
use Rattle.turn_server.specs.Responses.{Owed, owed, binding_owed, types_owed, answer_code}
use Rattle.turn_server.specs.Sites.{site_of}
use Rattle.turn_server.specs.Wanted.{server_at}
use Rattle.usage_vectors.specs.TurnSession.{tuple, setup, rules, sockets, numbers, example_realm, policy, nonces, IsServer, keys, from_client, step_by, Leaves, done_for, Does, Answers, nothing_kept, moment}

-- ---- What the server is for the client

abbrev pub site_with : Policy → (realm : List ℕ) → Minting → (second : ℕ) → Site
site_with policy realm nonces second = record {
  policy = policy;
  realm = realm;
  nonces = nonces_of nonces (seconds second) (socket_of tuple.client);
  keys = keys;
  client = tuple.client.ip;
  sockets = sockets;
}

abbrev pub site_at : (second : ℕ) → Site
site_at second = site_with policy example_realm nonces second

site_is : (access : Access) (second : ℕ) → IsServer access → site_of access sockets keys tuple.client (seconds second) ≡ site_at second
site_is access second s =
    ap (λ (p : Policy). site_with p (text_bytes access.realm) (minting_of access.nonces) second) s.policy_is
    ∙ (ap (λ (r : List ℕ). site_with policy r (minting_of access.nonces) second) s.realm_is
    ∙ ap (λ (m : Minting). site_with policy example_realm m second) s.nonces_are)

-- what it asks for in a 401 and a 438
abbrev pub asked_with : (realm : List ℕ) → Minting → (second : ℕ) → Asked
asked_with realm nonces second =
    asked_for realm (nonce_for nonces (seconds second) (socket_of tuple.client)) (listed (offered nonces.features))

abbrev pub asked_at : (second : ℕ) → Asked
asked_at second = asked_with example_realm nonces second

asked_is : (access : Access) (second : ℕ) → IsServer access → asked_by access (seconds second) (socket_of tuple.client) ≡ asked_at second
asked_is access second s =
    ap (λ (r : List ℕ). asked_with r (minting_of access.nonces) second) s.realm_is
    ∙ ap (λ (m : Minting). asked_with example_realm m second) s.nonces_are

-- ---- A client's datagram

abbrev pub judged : (second : ℕ) → List ℕ → Judged
judged second d = judge setup.last_channel setup.supports_dont_fragment (site_at second) d

abbrev pub acted_at : (second : ℕ) → OuterState → Judged → Act
acted_at second h j = acted setup rules tuple numbers h (seconds second) j

abbrev pub stepped_at : (second : ℕ) → OuterState → Judged → OuterStep
stepped_at second h j =
    outer_step setup rules h (seconds second) (event_of tuple (server_at (seconds second) h) numbers j)

done_is : (access : Access) (second : ℕ) (h : OuterState) (d : List ℕ) (j : Judged) → IsServer access → judged second d ≡ j → done_for access second h d ≡ acted_at second h j
done_is access second h d j s e =
    ap (λ (t : Site). act t setup rules tuple numbers h (seconds second) d) (site_is access second s)
    ∙ ap (λ (x : Judged). acted_at second h x) e

step_is : (access : Access) (second : ℕ) (h : OuterState) (d : List ℕ) (j : Judged) → IsServer access → judged second d ≡ j → step_by second h (from_client access second d) ≡ stepped_at second h j
step_is access second h d j s e =
    ap (λ (t : Site). step_by second h (of_client t tuple numbers d)) (site_is access second s)
    ∙ ap (λ (x : Judged). stepped_at second h x) e

leaves_is : (access : Access) (second : ℕ) (h : OuterState) (d : List ℕ) (j : Judged) (after : OuterState) (closes : List ℕ)
    → IsServer access → judged second d ≡ j → (stepped_at second h j).holding ≡ after → (stepped_at second h j).step.closes ≡ closes
    → Leaves second h (from_client access second d) after closes
leaves_is access second h d j after closes s e after_is closes_are = record {
  after_is = ap (λ (o : OuterStep). o.holding) (step_is access second h d j s e) ∙ after_is;
  closes_are = ap (λ (o : OuterStep). o.step.closes) (step_is access second h d j s e) ∙ closes_are;
}

pub does : (second : ℕ) (h : OuterState) (d : List ℕ) (j : Judged) (a : Act) → judged second d ≡ j → acted_at second h j ≡ a
    → (stepped_at second h j).holding ≡ h → (stepped_at second h j).step.closes ≡ []
    → (access : Access) → IsServer access → Does access second h d a
does second h d j a e is after_is closes_are access s = record {
  act_is = done_is access second h d j s e ∙ is;
  leaves = leaves_is access second h d j h [] s e after_is closes_are;
}

-- ---- The response

abbrev pub owed_with : Asked → (software : Option (List ℕ)) → List ℕ → Act → Option Owed
owed_with asked software d binds = Some (binding_owed setup.supports_dont_fragment tuple.client d)
owed_with asked software d (refuses refusal) = Some (record {
  text = refusal_of d refusal (Some asked);
  fault = no_room None 20 (refusal_sizes d refusal (Some asked));
  takes_memory = true;
  code = Some (refusal_code refusal);
})
owed_with asked software d (refuses_types key algorithm) = Some (types_owed setup.supports_dont_fragment d key algorithm)
owed_with asked software d (responds answer token by_it key algorithm) = Some (record {
  text = answer_text software tuple.client d answer token key.bytes algorithm;
  fault = answer_refusal None software tuple.client d answer token key.made_for algorithm;
  takes_memory = true;
  code = answer_code answer;
})
owed_with asked software d drops = None
owed_with asked software d (sends_to number peer dont_fragment bytes) = None

-- an answer that sends nobody to another server
abbrev pub IsOwn : (second : ℕ) → List ℕ → Act → Type 0
IsOwn second d a = (access : Access)
    → owed setup.supports_dont_fragment access (seconds second) tuple.client d a
    ≡ owed_with (asked_by access (seconds second) (socket_of tuple.client)) (software_in access) d a

owed_at : (access : Access) (second : ℕ) (d : List ℕ) (a : Act) → IsServer access → IsOwn second d a
    → owed setup.supports_dont_fragment access (seconds second) tuple.client d a ≡ owed_with (asked_at second) None d a
owed_at access second d a s own =
    own access
    ∙ (ap (λ (asked : Asked). owed_with asked (software_in access) d a) (asked_is access second s)
    ∙ ap (λ (software : Option (List ℕ)). owed_with (asked_at second) software d a) s.software_is)

abbrev pub written : (code : Option ℕ) → (octets : List ℕ) → Option Owed
written code octets = Some (record { text = octets; fault = None; takes_memory = true; code = code })

pub answers : (second : ℕ) (h : OuterState) (d : List ℕ) (j : Judged) (code : Option ℕ) (octets : List ℕ) (after : OuterState) (closes : List ℕ)
    → judged second d ≡ j → IsOwn second d (acted_at second h j)
    → owed_with (asked_at second) None d (acted_at second h j) ≡ written code octets
    → (stepped_at second h j).holding ≡ after → (stepped_at second h j).step.closes ≡ closes
    → Answers second h d code octets after closes
answers second h d j code octets after closes e own out after_is closes_are access s = record {
  response = ap (λ (x : Act). owed setup.supports_dont_fragment access (seconds second) tuple.client d x) (done_is access second h d j s e)
      ∙ (owed_at access second d (acted_at second h j) s own ∙ out);
  leaves = leaves_is access second h d j after closes s e after_is closes_are;
}

-- ---- The whole session

pub record IsKept (earlier : List Moment) (h : OuterState) : Type 0 where
  pub is : kept setup earlier ≡ h

pub kept_more : {earlier : List Moment} {h : OuterState} {second : ℕ} {arrival : Arrival} {after : OuterState} {closes : List ℕ}
    → IsKept earlier h → Leaves second h arrival after closes → IsKept (moment second arrival ∷ earlier) after
kept_more {earlier} {h} {second} {arrival} {after} {closes} so_far left = record {
  is = ap (λ (x : OuterState). (step_by second x arrival).holding) so_far.is ∙ left.after_is;
}

pub none_kept : IsKept [] nothing_kept
none_kept = record { is = refl }
