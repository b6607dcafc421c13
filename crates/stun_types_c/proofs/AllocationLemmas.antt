-- The data that a TURN client shows is a part of the datagram that it came in.
use Rattle.std.proofs.Common.{◌≡◌, ◌∙◌, ℕ, ◌+◌, ◌-◌, Bool, true, false, List, [], ◌∷◌, Option, None, Some, length, take, drop, refl, sym, ap, subst, arith}
use Rattle.std.proofs.lemmas.List.{take-append-drop}
use Rattle.std.proofs.Math.Seq.{take-append_seam}
use Rattle.std.specs.List.{slice_range, list_any}
use Rattle.std.specs.Option.{option_map, option_map_or, option_zip}
use Rattle.std.specs.Prelude.{IfSome, MatchOption, Result, Ok, Err, is_some, find, nat_lt, not, ◌&&◌, ◌||◌, ◌==◌, ⊤, if◌then◌else◌}
use Rattle.stun_grammar.specs.Chains.{Shown}
use Rattle.stun_grammar.specs.Headers.{type_field, id_field}
use Rattle.stun_grammar.specs.Numbers.{IsBytes}
use Rattle.stun_grammar.specs.Parsing.{parse_fault}
use Rattle.stun_base.specs.declared.message_class.MessageClass.{MessageClass}
use Rattle.stun_base.specs.declared.message_class.MessageClass.TheVariants.{Request as RequestClass, Indication, Success as SuccessClass, Error as ErrorClass}
use Rattle.stun_base.specs.MessageTypes.{class_of, method_of}
use Rattle.stun_authentication.specs.declared.retry.NoRetry.{NoRetry}
use Rattle.stun_authentication.specs.Challenges.{Retry, challenge_of}
use Rattle.stun_authentication.specs.Codes.{is_challenge}
use Rattle.stun_authentication.specs.Identities as identities
use Rattle.stun_framing.specs.declared.channel_range.ChannelRange.TheVariants.{Rfc8656}
use Rattle.stun_framing.specs.Channels.{begins_number}
use Rattle.stun_transactions.specs.declared.received.Discard.{Discard}
use Rattle.stun_transactions.specs.declared.received.Discard.TheVariants.{NotAuthentic, OtherAlgorithm, BidDown, UnsignedBadRequest, NoFingerprint}
use Rattle.stun_transactions.specs.declared.received.Failure.{Failure}
use Rattle.stun_transactions.specs.declared.received.Failure.TheVariants.{IntegrityViolated, UnknownAttribute, NoErrorCode}
use Rattle.stun_transactions.specs.declared.received.Outcome.{Outcome}
use Rattle.stun_transactions.specs.declared.received.Outcome.TheVariants.{NotForThis, Discarded, Failed, Success, Error}
use Rattle.stun_types.specs.LookingUp.{nth}
use Rattle.stun_transactions.specs.Receiving.{judged as outcome_of}
use Rattle.turn_attrs.specs.Channels.{channel_field, data_length}
use Rattle.turn_attrs.specs.ChannelMessages.{channel_fault, data_field}
use Rattle.turn_attrs.specs.Turn.{DATA, ICMP, XOR_PEER_ADDRESS}
use Rattle.turn_client_machine.specs.declared.peers.Peer.{Peer}
use Rattle.turn_client_machine.specs.Clients.{Endpoint, is_endpoint, is_allocated, is_permitted, hears}
use Rattle.turn_client_machine.specs.Events.{Event, allocates, permits, binds, drops, sends, closes, polls, responds, gives, gives_on, strays, Output, shows, nothing}
use Rattle.turn_client_machine.specs.Steps.{at}
use Rattle.turn_client_messages.specs.Judging.{Judged, response, challenge, peer_data, channel_data, stray, event_of, discarded, failed, error, other_error, by_challenge, by_outcome, responded, indicated, given_by, is_padded, on_channel, by_class, message, judge, DATA_METHOD}
use Rattle.turn_client_messages.specs.Pending.{pending, key_of, realm_tried}
use Rattle.turn_client_messages.specs.Understood.{understood, is_understood}
use Rattle.turn_client_messages.specs.Values.{xored_in}
use Rattle.turn_client_messages.specs.Views.{Asked, Dealing}
use Rattle.turn_client_state.specs.States.{Held, output_at}
use Rattle.turn_client.specs.Clients.{Client}
use Rattle.turn_client.specs.Receiving.{awaited, dealing, event_at, free_number, judged}
use Rattle.turn_client.specs.declared.receiving.Received.{Received}
use Rattle.turn_client.specs.declared.receiving.Received.TheVariants.{Data, Failed, Reservation}
use Rattle.turn_client.specs.Receiving.{News, news_with, shown_with}
use Rattle.stun_types_c.specs.declared.allocation_client.CAllocationData.{CAllocationData}
use Rattle.stun_types_c.specs.AllocationCalls.{data_place, value_place, IsNews, IsReceived, IsTold}
use Rattle.stun_types_c.specs.Attributes.{in_c}
use Rattle.stun_types_c.specs.Values as values
use Rattle.stun_types_c.specs.Values.{first_value}
use Rattle.stun_types_c.proofs.StandsLemmas.{found_there}

-- these bytes are those of d at its place
abbrev pub Stands : List ℕ → List ℕ → Type 0
Stands d bytes = slice_range d (data_place d) (data_place d + length bytes) ≡ bytes

-- so are those that d is judged to bring
abbrev Brings : List ℕ → Judged → Type 0
Brings d (response id authentic answer) = ⊤
Brings d (challenge id authentic code retry) = ⊤
Brings d (peer_data peer bytes) = Stands d bytes
Brings d (channel_data number bytes) = Stands d bytes
Brings d stray = ⊤

either : (d : List ℕ) (b : Bool) (x y : Judged) → Brings d x → Brings d y → Brings d (if b then x else y)
either d true x y one other = one
either d false x y one other = other

-- ---- Responses bring none

of_discard : (d : List ℕ) (id : ℕ) (reason : Discard) → Brings d (discarded id reason)
of_discard d id NotAuthentic = tt
of_discard d id OtherAlgorithm = tt
of_discard d id BidDown = tt
of_discard d id UnsignedBadRequest = tt
of_discard d id NoFingerprint = tt

of_failure : (r : Asked) (d : List ℕ) (failure : Failure) → Brings d (failed r d failure)
of_failure r d (IntegrityViolated claim) = tt
of_failure r d (UnknownAttribute type) = tt
of_failure r d NoErrorCode = tt

of_challenge : (d : List ℕ) (id : ℕ) (authentic : Bool) (code : ℕ) (asked : Result Retry NoRetry) → Brings d (by_challenge id authentic code asked)
of_challenge d id authentic code (Ok retry) = tt
of_challenge d id authentic code (Err why) = tt

of_error : (known : Dealing) (r : Asked) (authentic : Bool) (code : ℕ) (d : List ℕ) → Brings d (error known r authentic code d)
of_error known r authentic code d =
    let asked = challenge_of known.algorithms (realm_tried r.login) known.had_algorithms d in
    either d (is_challenge d) (by_challenge (id_field d) authentic code asked) (response (id_field d) authentic (other_error known code d))
    (of_challenge d (id_field d) authentic code asked) tt

of_outcome : (known : Dealing) (r : Asked) (d : List ℕ) (outcome : Outcome) → Brings d (by_outcome known r d outcome)
of_outcome known r d NotForThis = tt
of_outcome known r d (Discarded reason claim) = of_discard d (id_field d) reason
of_outcome known r d (Failed failure) = of_failure r d failure
of_outcome known r d (Success proof) = tt
of_outcome known r d (Error code proof) = of_error known r (is_some proof) code d

of_response : (known : Dealing) (request : Option Asked) (d : List ℕ) → Brings d (responded known request d)
of_response known None d = tt
of_response known (Some r) d = of_outcome known r d (outcome_of (pending known.transport r) (key_of r.login) understood d)

-- ---- A Data indication

of_both : (p q : Bool) (x y : List ℕ) → (if p then None else (if q then None else Some x)) ≡ Some y → x ≡ y
of_both true q x y is = absurd (subst (λ (o : Option (List ℕ)). MatchOption o ⊤ (λ v. ⊥)) is tt)
of_both false true x y is = absurd (subst (λ (o : Option (List ℕ)). MatchOption o ⊤ (λ v. ⊥)) is tt)
of_both false false x y is = ap (λ (o : Option (List ℕ)). option_map_or (λ v. v) o []) is

place_of : (first : ℕ) (more : List ℕ) (a : Shown) → begins_number Rfc8656 first ≡ false → nth (first ∷ more) DATA 0 ≡ Some a
    → data_place (first ∷ more) ≡ a.offset + 4
place_of first more a other found =
    ap (λ (b : Bool). if b then 4 else value_place (option_map in_c (nth (first ∷ more) DATA 0))) other
    ∙ ap (λ (o : Option Shown). value_place (option_map in_c o)) found

value_stands : (first : ℕ) (more : List ℕ) (a : Shown) → IsBytes (first ∷ more) → begins_number Rfc8656 first ≡ false
    → nth (first ∷ more) DATA 0 ≡ Some a → Stands (first ∷ more) a.value
value_stands first more a bytes other found =
    let d = first ∷ more in
    let there : values.value_of (in_c a) d ≡ Some a.value =
    subst (λ (o : Option Shown). IfSome o (λ (x : Shown). values.value_of (in_c x) d ≡ Some x.value)) found (found_there d DATA bytes) in
    subst (λ (n : ℕ). slice_range d n (n + length a.value) ≡ a.value) (sym (place_of first more a other found))
    (of_both (nat_lt (a.offset + 4) first_value) (nat_lt (length d) (a.offset + 4 + length a.value))
    (slice_range d (a.offset + 4) (a.offset + 4 + length a.value)) a.value there)

-- the attribute that a value is of
value_here : (first : ℕ) (more : List ℕ) (o : Option Shown) (value : List ℕ) → IsBytes (first ∷ more) → begins_number Rfc8656 first ≡ false
    → nth (first ∷ more) DATA 0 ≡ o → option_map (λ (a : Shown). a.value) o ≡ Some value → Stands (first ∷ more) value
value_here first more None value bytes other found is = absurd (subst (λ (o : Option (List ℕ)). MatchOption o ⊤ (λ v. ⊥)) is tt)
value_here first more (Some a) value bytes other found is =
    subst (Stands (first ∷ more)) (ap (λ (o : Option (List ℕ)). option_map_or (λ v. v) o []) is) (value_stands first more a bytes other found)

of_given : (d : List ℕ) (peer : Option Endpoint) (value : Option (List ℕ)) → ((bytes : List ℕ) → value ≡ Some bytes → Stands d bytes)
    → Brings d (option_map_or (λ given. peer_data given.0 given.1) (option_zip peer value) stray)
of_given d None None each = tt
of_given d None (Some bytes) each = tt
of_given d (Some peer) None each = tt
of_given d (Some peer) (Some bytes) each = each bytes refl

if_none : (d : List ℕ) (b : Bool) (given : Option (Endpoint × List ℕ)) → Brings d (option_map_or (λ x. peer_data x.0 x.1) given stray)
    → Brings d (option_map_or (λ x. peer_data x.0 x.1) (if b then None else given) stray)
if_none d true given is = tt
if_none d false given is = is

of_indication : (first : ℕ) (more : List ℕ) (method : ℕ) → IsBytes (first ∷ more) → begins_number Rfc8656 first ≡ false → Brings (first ∷ more) (indicated method (first ∷ more))
of_indication first more method bytes other =
    let d = first ∷ more in
    let brought : Brings d (option_map_or (λ given. peer_data given.0 given.1) (given_by d) stray) =
    if_none d (not (is_understood d) || identities.shows ICMP d) (option_zip (xored_in XOR_PEER_ADDRESS d) (identities.value_of d DATA))
    (of_given d (xored_in XOR_PEER_ADDRESS d) (identities.value_of d DATA) (λ value is. value_here first more (nth d DATA 0) value bytes other refl is)) in
    either d (method == DATA_METHOD) (option_map_or (λ given. peer_data given.0 given.1) (given_by d) stray) stray brought tt

-- ---- A ChannelData message

take_again : (n : ℕ) (xs : List ℕ) → take (length (take n xs)) xs ≡ take n xs
take_again n xs =
    ap (λ (ys : List ℕ). take (length (take n xs)) ys) (sym (take-append-drop n xs)) ∙ take-append_seam (take n xs) (drop n xs)

less_four : (n : ℕ) → (4 + n) - 4 ≡ n
less_four n = omega arith

of_channel : (known : Dealing) (first : ℕ) (more : List ℕ) → begins_number Rfc8656 first ≡ true
    → Brings (first ∷ more) (on_channel known.transport (first ∷ more))
of_channel known first more channel =
    let d = first ∷ more in
    let at : data_place d ≡ 4 =
    ap (λ (b : Bool). if b then 4 else value_place (option_map in_c (nth d DATA 0))) channel in
    let whole : slice_range d 4 (4 + length (data_field d)) ≡ data_field d =
    ap (λ (n : ℕ). take n (drop 4 d)) (less_four (length (data_field d))) ∙ take_again (data_length d) (drop 4 d) in
    either d (is_some (channel_fault d) || not (is_padded known.transport (4 + data_length d) d)) stray (channel_data (channel_field d) (data_field d)) tt
    (subst (λ (n : ℕ). slice_range d n (n + length (data_field d)) ≡ data_field d) (sym at) whole)

-- ---- A datagram

of_class : (known : Dealing) (request : Option Asked) (class : MessageClass) (first : ℕ) (more : List ℕ) → IsBytes (first ∷ more)
    → begins_number Rfc8656 first ≡ false → Brings (first ∷ more) (by_class known request class (first ∷ more))
of_class known request RequestClass first more bytes other = tt
of_class known request Indication first more bytes other = of_indication first more (method_of (type_field (first ∷ more))) bytes other
of_class known request SuccessClass first more bytes other = of_response known request (first ∷ more)
of_class known request ErrorClass first more bytes other = of_response known request (first ∷ more)

by_first : (known : Dealing) (request : Option Asked) (first : ℕ) (more : List ℕ) (b : Bool) → IsBytes (first ∷ more) → begins_number Rfc8656 first ≡ b
    → Brings (first ∷ more) (if b then on_channel known.transport (first ∷ more) else message known request (first ∷ more))
by_first known request first more true bytes is = of_channel known first more is
by_first known request first more false bytes is =
    let d = first ∷ more in
    either d (is_some (parse_fault d)) stray (by_class known request (class_of (type_field d)) d) tt
    (of_class known request (class_of (type_field d)) first more bytes is)

of_any : (known : Dealing) (request : Option Asked) (d : List ℕ) → IsBytes d → Brings d (judge known request d)
of_any known request [] bytes = tt
of_any known request (first ∷ more) bytes = by_first known request first more (begins_number Rfc8656 first) bytes refl

-- ---- What is shown

abbrev Gives : List ℕ → Event → Type 0
Gives d allocates = ⊥
Gives d (permits one) = ⊥
Gives d (binds one) = ⊥
Gives d (drops one) = ⊥
Gives d (sends one xs) = ⊥
Gives d closes = ⊥
Gives d (responds from id authentic answer) = ⊤
Gives d (gives from peer bytes) = Stands d bytes
Gives d (gives_on from number bytes) = Stands d bytes
Gives d (strays from) = ⊤
Gives d polls = ⊥

of_judged : (from : Endpoint) (number : ℕ) (d : List ℕ) (j : Judged) → Brings d j → Gives d (event_of from number j)
of_judged from number d (response id authentic answer) is = tt
of_judged from number d (challenge id authentic code retry) is = tt
of_judged from number d (peer_data peer bytes) is = is
of_judged from number d (channel_data channel bytes) is = is
of_judged from number d stray is = tt

from_server : (d : List ℕ) (b : Bool) (e : Event) (from : Endpoint) → Gives d e → Gives d (if b then e else strays from)
from_server d true e from is = is
from_server d false e from is = tt

abbrev IsShowing : Output → Type 0
IsShowing (shows peer bytes) = ⊤
IsShowing _ = ⊥

abbrev shown_in : Output → List ℕ
shown_in (shows peer bytes) = bytes
shown_in _ = []

shows_no : {P : Type 0} (peer : Endpoint) (bytes : List ℕ) → nothing ≡ shows peer bytes → P
shows_no peer bytes is = absurd (subst IsShowing (sym is) tt)

same_shown : (b : Bool) (one other : Endpoint) (xs ys : List ℕ) → (if b then shows one xs else nothing) ≡ shows other ys → xs ≡ ys
same_shown true one other xs ys is = ap shown_in is
same_shown false one other xs ys is = shows_no other ys is

same_found : (b : Bool) (found : Option Peer) (other : Endpoint) (xs ys : List ℕ)
    → (if b then option_map_or (λ (p : Peer). shows p.address xs) found nothing else nothing) ≡ shows other ys → xs ≡ ys
same_found true (Some p) other xs ys is = ap shown_in is
same_found true None other xs ys is = shows_no other ys is
same_found false found other xs ys is = shows_no other ys is

of_event : (d : List ℕ) (held : Held) (now : ℕ) (event : Event) (peer : Endpoint) (bytes : List ℕ) → Gives d event
    → output_at now 0 event held ≡ shows peer bytes → Stands d bytes
of_event d held now (responds from id authentic answer) peer bytes given is = shows_no peer bytes is
of_event d held now (gives from one xs) peer bytes given is =
    let state = at now held.state in
    subst (Stands d) (same_shown (is_endpoint from held.settings.server && (is_allocated state.phase && list_any (is_permitted state.clock one.ip) state.peers)) one peer xs bytes is) given
of_event d held now (gives_on from number xs) peer bytes given is =
    let state = at now held.state in
    subst (Stands d) (same_found (is_endpoint from held.settings.server && is_allocated state.phase) (find (hears state.clock number state.peers) state.peers) peer xs bytes is) given
of_event d held now (strays from) peer bytes given is = shows_no peer bytes is
of_event d held now allocates peer bytes given is = absurd given
of_event d held now (permits one) peer bytes given is = absurd given
of_event d held now (binds one) peer bytes given is = absurd given
of_event d held now (drops one) peer bytes given is = absurd given
of_event d held now (sends one xs) peer bytes given is = absurd given
of_event d held now closes peer bytes given is = absurd given
of_event d held now polls peer bytes given is = absurd given

pub data_stands : (client : Client) (now : ℕ) (from : Endpoint) (d : List ℕ) (peer : Endpoint) (bytes : List ℕ) → IsBytes d
    → output_at now 0 (event_at client from d) client.held ≡ shows peer bytes → Stands d bytes
data_stands client now from d peer bytes are is =
    of_event d client.held now (event_at client from d) peer bytes
    (from_server d (is_endpoint from client.held.settings.server) (event_of from (free_number client.kept) (judged client d)) from
    (of_judged from (free_number client.kept) d (judged client d) (of_any (dealing client) (awaited client d) d are))) is

-- data in C's form is that which is shown, or else what else there is
pub shown_is_told : (d : List ℕ) (output : Output) (news : News) (received : Option Received) (out : CAllocationData)
    → ((peer : Endpoint) (bytes : List ℕ) → output ≡ shows peer bytes → Stands d bytes) → output ≡ shown_with received → news ≡ news_with received
    → IsReceived received d out → IsTold output news d out
shown_is_told d output news None out law is told placed = subst (λ (o : Output). IsTold o news d out) (sym is) (subst (λ (n : News). IsNews n out) (sym told) placed)
shown_is_told d output news (Some (Data given)) out law is told placed =
    subst (λ (o : Output). IsTold o news d out) (sym is) (record {
      peer_is = placed.peer_is;
      stands = (λ i. slice_range d (placed.place_is i) (placed.place_is i + placed.length_is i)) ∙ law given.peer given.data.now is;
      length_is = placed.length_is;
      is_shown = placed.is_shown;
      no_more = placed.no_more;
    })
shown_is_told d output news (Some (Failed error)) out law is told placed = subst (λ (o : Output). IsTold o news d out) (sym is) (subst (λ (n : News). IsNews n out) (sym told) placed)
shown_is_told d output news (Some (Reservation token)) out law is told placed = subst (λ (o : Output). IsTold o news d out) (sym is) (subst (λ (n : News). IsNews n out) (sym told) placed)
