-- A message is written if a slice has room for it.
use Rattle.std.proofs.Common.{◌≡◌, ◌⊎◌, ℕ, ◌+◌, ◌<◌, ◌≤◌, Bool, true, false, List, [], ◌∷◌, ◌++◌, length, Option, None, Some, Result, Err, inl, inr, refl, ap, ◌∙◌, subst, arith}
use Rattle.std.specs.Option.{option_or}
use Rattle.std.proofs.lemmas.Bool.{le-ltb}
use Rattle.std.proofs.lemmas.List.{length-append, length-map}
use Rattle.stun_grammar.specs.declared.error.StunWriteError.{StunWriteError}
use Rattle.stun_grammar.specs.declared.error.StunWriteError.TheVariants.{OutOfMemory}
use Rattle.stun_grammar.specs.Adding.{grown_length, room_refusal}
use Rattle.stun_grammar.specs.Attributes.{Attribute, canonical}
use Rattle.stun_grammar.specs.AttributeTypes.{USERNAME}
use Rattle.stun_grammar.specs.Numbers.{be32}
use Rattle.stun_grammar.specs.Steps.{Step, add, value_length}
use Rattle.stun_grammar.specs.Writing.{greatest_length}
use Rattle.stun_authentication.specs.Writing.{FailsFor, adds, no_room, signing_refusal, sizes, step_sizes, steps_length}
use Rattle.stun_authentication.proofs.AddedLemmas.{longer, longer_is}
use Rattle.stun_authentication.proofs.TakenLemmas.{steps_length-append}
use Rattle.ice_machine.specs.declared.messages.Request.{Request}
use Rattle.ice_attrs.specs.Ice.{PRIORITY}
use Rattle.ice_checks.specs.Checks.{attributes_to, end_steps, ended_length, ended_refusal, nomination_attributes, response_attributes, response_length, role_attribute, signature_refusal, signature_to, software_attributes}
use Rattle.stun_keys.specs.Keys.{key_algorithm}
use Rattle.stun_grammar.specs.declared.integrity_algorithm.IntegrityAlgorithm.{IntegrityAlgorithm}
use Rattle.stun_grammar.specs.declared.integrity_algorithm.IntegrityAlgorithm.TheVariants.{Sha1}
use Rattle.ice_agent.specs.Writing.{signing_size}
use Rattle.ice_checks.specs.Sessions.{username_of}
use Rattle.ice_checks.specs.Views.{Login, Response, Signing, success, bad_request, unauthenticated, unknown, role_conflict}

-- ---- How many attributes

software_count : (software : Option (List ℕ)) → length (software_attributes software) ≤ 1
software_count None = omega arith
software_count (Some text) = omega arith

nomination_count : (nominates : Bool) → length (nomination_attributes nominates) ≤ 1
nomination_count true = omega arith
nomination_count false = omega arith

adds_count : (attributes : List Attribute) (signing : Option Signing) → length (adds attributes ++ end_steps signing) ≤ length attributes + 2
adds_count attributes None = omega (arith, length-append (adds attributes) (end_steps None), length-map attributes (λ (a : Attribute). add a.type a.value))
adds_count attributes (Some signing) = omega (arith, length-append (adds attributes) (end_steps (Some signing)), length-map attributes (λ (a : Attribute). add a.type a.value))

pub check_count : (peer : Login) (own : List ℕ) (software : Option (List ℕ)) (r : Request) → length (adds (attributes_to peer own software r) ++ end_steps (signature_to peer)) ≤ 16
check_count peer own software r =
    let nominations = nomination_attributes r.nominates in
    let role = role_attribute r.role r.tiebreaker ∷ [] in
    let rest = canonical USERNAME (username_of peer.fragment own) ∷ canonical PRIORITY (be32 r.priority) ∷ (nominations ++ role) in
    omega (arith, adds_count (attributes_to peer own software r) (signature_to peer), length-append (software_attributes software) rest, length-append nominations role, software_count software, nomination_count r.nominates)

few_attributes : (id : ℕ) (response : Response) → length (response_attributes id response) ≤ 2
few_attributes id (success source) = omega arith
few_attributes id bad_request = omega arith
few_attributes id unauthenticated = omega arith
few_attributes id (unknown types) = omega arith
few_attributes id role_conflict = omega arith

pub response_count : (id : ℕ) (response : Response) (signing : Option Signing) → length (adds (response_attributes id response) ++ end_steps signing) ≤ 16
response_count id response signing = omega (arith, adds_count (response_attributes id response) signing, few_attributes id response)

-- ---- Lengths

pub response_size : (id : ℕ) (response : Response) (signing : Option Signing) → response_length id response signing ≡ 28 + steps_length (adds (response_attributes id response)) + signing_size signing
response_size id response None = omega (arith, steps_length-append (adds (response_attributes id response)) (end_steps None))
response_size id response (Some signing) = omega (arith, steps_length-append (adds (response_attributes id response)) (end_steps (Some signing)))

-- a key for both algorithms serves SHA-1
pub key_serves : (peer : Login) → key_algorithm peer.key ≡ None → signature_refusal (signature_to peer) ≡ None
key_serves peer both = ap (λ (made_for : Option IntegrityAlgorithm). signing_refusal made_for Sha1) both

-- ---- Room

room_there : (len room n : ℕ) → 20 ≤ len → n ≤ room → n ≤ greatest_length → room_refusal len (Some room) n ≡ None
unfolding room_refusal
room_there len room n long fits short = rw (le-ltb len 20 long, le-ltb room n fits, le-ltb greatest_length n short) refl

grows : (ns : List ℕ) (len : ℕ) → len ≤ longer len ns
grows [] len = omega arith
grows (n ∷ ns) len = omega (arith, grows ns (grown_length len n))

all_there : (ns : List ℕ) (len room : ℕ) → 20 ≤ len → longer len ns ≤ room → longer len ns ≤ greatest_length → no_room (Some room) len ns ≡ None
all_there [] len room long fits short = refl
all_there (n ∷ ns) len room long fits short =
    let more = grows ns (grown_length len n) in
    ap (λ o. option_or o (no_room (Some room) (grown_length len n) ns)) (room_there len room (grown_length len n) long (omega (arith, more, fits)) (omega (arith, more, short)))
    ∙ all_there ns (grown_length len n) room (omega (arith, long)) fits short

steps_longer : (steps : List Step) (len : ℕ) → longer len (step_sizes steps) ≡ len + steps_length steps
steps_longer [] len = omega arith
steps_longer (step ∷ steps) len = steps_longer steps (grown_length len (value_length step)) ∙ omega arith

pub none_refused : (room : ℕ) (attributes : List Attribute) (signing : Option Signing) → signature_refusal signing ≡ None → ended_length attributes signing ≤ room → ended_length attributes signing ≤ greatest_length
    → ended_refusal (Some room) attributes signing ≡ None
none_refused room attributes signing serves fits short =
    let before = 20 + steps_length (adds attributes) in
    let total = steps_length-append (adds attributes) (end_steps signing) in
    let first = longer_is 20 attributes in
    let last = steps_longer (end_steps signing) before in
    let one : no_room (Some room) 20 (sizes attributes) ≡ None = all_there (sizes attributes) 20 room (omega arith) (omega (arith, first, total, fits)) (omega (arith, first, total, short)) in
    let two : no_room (Some room) before (step_sizes (end_steps signing)) ≡ None = all_there (step_sizes (end_steps signing)) before room (omega arith) (omega (arith, last, total, fits)) (omega (arith, last, total, short)) in
    rw (one, serves, two) refl

-- an error, as the writer returns it
abbrev pub Same : Result (Unit {0}) StunWriteError → Result (Unit {0}) StunWriteError → Type 0
Same a b = a ≡ b

-- what isn't refused, and has the ready room, is written
pub never : (bytes types room : ℕ) (greatest : Option ℕ) (attributes : List Attribute) (signing : Option Signing) (e : StunWriteError) → bytes ≡ room → types ≡ 16 → greatest ≡ Some room → signature_refusal signing ≡ None
    → ended_length attributes signing ≤ room → ended_length attributes signing ≤ greatest_length → length (adds attributes ++ end_steps signing) ≤ 16
    → FailsFor {T = Unit {0}} (ended_refusal greatest attributes signing) (Err e)
    → (Same (Err e) (Err OutOfMemory) → (bytes < 20 + steps_length (adds attributes ++ end_steps signing)) ⊎ (types < length (adds attributes ++ end_steps signing))) → ⊥
never bytes types room greatest attributes signing e bytes_are types_are most serves fits short few fails memory =
    by (subst (λ (o : Option StunWriteError). FailsFor {T = Unit {0}} o (Err e)) (ap (λ (g : Option ℕ). ended_refusal g attributes signing) most ∙ none_refused room attributes signing serves fits short) fails)
  where
    enough : (bytes < 20 + steps_length (adds attributes ++ end_steps signing)) ⊎ (types < length (adds attributes ++ end_steps signing)) → ⊥
    enough (inl lacks) = absurd (omega (arith, lacks, bytes_are, fits))
    enough (inr lacks) = absurd (omega (arith, lacks, types_are, few))

    same : (x : StunWriteError) → e ≡ x → Same (Err e) (Err x)
    same x is = λ i. Err (is i)

    by : (e ≡ OutOfMemory) ⊎ (None ≡ Some e) → ⊥
    by (inl is) = enough (memory (same OutOfMemory is))
    by (inr is) = absurd cc
