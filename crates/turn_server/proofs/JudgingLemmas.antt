-- What a judgment says of the datagram, case by case.
use Rattle.std.proofs.Common.{◌≡◌, ℕ, Bool, true, false, ◌&&◌, List, [], ◌∷◌, Option, Some, None, if◌then◌else◌, refl, ap, subst, ◌∙◌}
use Rattle.std.proofs.lemmas.Bool.{eqb-true}
use Rattle.std.specs.Prelude.{is_some, slice_get, ◌==◌}
use Rattle.std.specs.Option.{option_map_or, option_or}
use Rattle.stun_grammar.specs.declared.integrity_algorithm.IntegrityAlgorithm.{IntegrityAlgorithm}
use Rattle.stun_grammar.specs.Headers.{type_field, header_fault}
use Rattle.stun_grammar.specs.Names.{BINDING}
use Rattle.stun_grammar.specs.Showing.{frame_fault, length_fault}
use Rattle.stun_grammar.specs.declared.error.StunParseError.{StunParseError}
use Rattle.stun_grammar.specs.Parsing.{parse_fault, body_fault}
use Rattle.stun_base.specs.declared.message_class.MessageClass.{MessageClass}
use Rattle.stun_base.specs.declared.message_class.MessageClass.TheVariants.{Request, Indication, Success, Error}
use Rattle.stun_base.specs.MessageTypes.{class_of, method_of}
use Rattle.stun_authentication.specs.Answers.{Decision, accept, refuse, discard, not_a_request}
use Rattle.stun_authentication.specs.Identities.{Who}
use Rattle.stun_authentication.specs.declared.policy.Policy.{Policy}
use Rattle.stun_authentication.specs.Lookups.{Known, UserKey}
use Rattle.turn_attrs.specs.Channels.{channel_field}
use Rattle.stun_endpoints.specs.declared.endpoints.FiveTuple.{FiveTuple}
use Rattle.turn_machine.specs.Relays.{Setup}
use Rattle.turn_machine.specs.Events.{Request as MachineRequest, asks}
use Rattle.turn_machine.specs.Reserving.{OuterState, inner}
use Rattle.turn_server.specs.Wanted.{Wanted, opening, reserving, claiming, other as another, outer_of}
use Rattle.turn_allocations.specs.declared.families.Families.{Families}
use Rattle.stun_framing.specs.Channels.{begins_number}
use Rattle.turn_attrs.specs.ChannelMessages.{data_in}
use Rattle.turn_server.specs.ChannelMessages.{range_to}
use Rattle.turn_server.specs.Comprehended.{is_comprehended}
use Rattle.turn_server.specs.Indications.{sent_by, keeps_whole}
use Rattle.turn_server.specs.Judging.{Site, Judged, dropped, binding, refused, unknown, sent, sent_on, asked, event_of, SEND, channel_message, indicated, accepted_as, decided_as, requested, by_class, message, judge, message_needs_key, needs_key}
use Rattle.turn_server.specs.Judgments.{IsOfClass, IsDecided, IsAsked, IsSo, Asks, credentials}
use Rattle.turn_server.specs.Requests.{asks_table}

-- what has no header doesn't parse
pub no_header : (d : List ℕ) (e : StunParseError) → header_fault d ≡ Some e → is_some (parse_fault d) ≡ true
unfolding parse_fault frame_fault
no_header d e is =
    ap (λ (o : Option StunParseError). is_some (option_or (option_or o (length_fault d)) (body_fault d))) is

-- what holds of both branches holds of the choice
either : (P : Judged → Type 0) (b : Bool) (x y : Judged) → (b ≡ true → P x) → (b ≡ false → P y) → P (if b then x else y)
either P true x y met unmet = met refl
either P false x y met unmet = unmet refl

found : {X : Type 0} (P : Judged → Type 0) (o : Option X) (f : X → Judged) (n : Judged) → ((x : X) → o ≡ Some x → P (f x)) → (o ≡ None → P n) → P (option_map_or f o n)
found P (Some x) f n some none = some x refl
found P None f n some none = none refl

no_fault : {X : Type 0} (o : Option X) → is_some o ≡ false → o ≡ None
no_fault None e = refl
no_fault (Some x) e = absurd cc

same_number : (m n : ℕ) → (m == n) ≡ true → m ≡ n
same_number m n e = eqb-true m n e

channel_is_so : (sets_df : Bool) (site : Site) (d : List ℕ) → IsSo sets_df site d (channel_message d)
channel_is_so sets_df site d = found (IsSo sets_df site d) (data_in d) (sent_on (channel_field d)) dropped (λ bytes is. (refl, is)) (λ _. tt)

indication_is_so : (sets_df : Bool) (site : Site) (d : List ℕ) → IsOfClass Indication d → IsSo sets_df site d (indicated sets_df (method_of (type_field d)) d)
indication_is_so sets_df site d of_class =
    either (IsSo sets_df site d) (method_of (type_field d) == SEND) _ dropped
    (λ is. found (IsSo sets_df site d) (sent_by sets_df d) (λ it. sent it.0 (keeps_whole sets_df d) it.1) dropped
    (λ it is_it. (record { of_class = of_class; method_is = same_number (method_of (type_field d)) SEND is }, (is_it, refl))) (λ _. tt))
    (λ _. tt)

accepted_is_so : (sets_df : Bool) (site : Site) (d : List ℕ) (user : Who) (key : UserKey) (algorithm reply_algorithm : IntegrityAlgorithm) → IsDecided site d (accept user key algorithm reply_algorithm)
    → IsSo sets_df site d (accepted_as sets_df site (method_of (type_field d)) d user key reply_algorithm)
accepted_is_so sets_df site d user key algorithm reply_algorithm decided =
    either (IsSo sets_df site d) (is_comprehended sets_df d) _ _
    (λ is. record { who = user; algorithm = algorithm; accepted = decided; comprehended = is; user_is = refl; wanted_is = refl })
    (λ is. record { who = user; algorithm = algorithm; accepted = decided; not_comprehended = is })

decision_is_so : (sets_df : Bool) (site : Site) (d : List ℕ) (decision : Decision) → IsDecided site d decision → IsSo sets_df site d (decided_as sets_df site (method_of (type_field d)) d decision)
decision_is_so sets_df site d (accept user key algorithm reply_algorithm) decided = accepted_is_so sets_df site d user key algorithm reply_algorithm decided
decision_is_so sets_df site d (refuse refusal) decided = decided
decision_is_so sets_df site d discard decided = tt
decision_is_so sets_df site d not_a_request decided = tt

binding_is_so : (sets_df : Bool) (site : Site) (d : List ℕ) → IsOfClass Request d → method_of (type_field d) ≡ BINDING → IsSo sets_df site d binding
binding_is_so sets_df site d of_class is = record { of_class = of_class; method_is = is }

request_is_so : (sets_df : Bool) (site : Site) (d : List ℕ) → IsOfClass Request d → IsSo sets_df site d (requested sets_df site (method_of (type_field d)) d)
request_is_so sets_df site d of_class =
    either (IsSo sets_df site d) (method_of (type_field d) == BINDING) binding _
    (λ is. binding_is_so sets_df site d of_class (same_number (method_of (type_field d)) BINDING is))
    (λ _. either (IsSo sets_df site d) (asks_table (method_of (type_field d))) _ dropped
    (λ asks. decision_is_so sets_df site d (credentials site d) (record { of_class = of_class; asks = asks; decided = refl }))
    (λ _. tt))

class_is_so : (sets_df : Bool) (site : Site) (d : List ℕ) (class : MessageClass) → IsOfClass class d → IsSo sets_df site d (by_class sets_df site class (method_of (type_field d)) d)
class_is_so sets_df site d Request of_class = request_is_so sets_df site d of_class
class_is_so sets_df site d Indication of_class = indication_is_so sets_df site d of_class
class_is_so sets_df site d Success of_class = tt
class_is_so sets_df site d Error of_class = tt

message_is_so : (sets_df : Bool) (site : Site) (d : List ℕ) → IsSo sets_df site d (message sets_df site d)
message_is_so sets_df site d =
    either (IsSo sets_df site d) (is_some (parse_fault d)) dropped _ (λ _. tt)
    (λ none. class_is_so sets_df site d (class_of (type_field d)) (record { parses = no_fault (parse_fault d) none; class_is = refl }))

pub judgment_is_so : (last_channel : ℕ) (sets_df : Bool) (site : Site) (d : List ℕ) → IsSo sets_df site d (judge last_channel sets_df site d)
judgment_is_so last_channel sets_df site [] = tt
judgment_is_so last_channel sets_df site (first ∷ more) =
    either (IsSo sets_df site (first ∷ more)) (begins_number (range_to last_channel) first) (channel_message (first ∷ more)) (message sets_df site (first ∷ more))
    (λ _. channel_is_so sets_df site (first ∷ more)) (λ _. message_is_so sets_df site (first ∷ more))

-- whose request an event is
pub asker_is : (setup : Setup) (from tuple : FiveTuple) (by user : ℕ) (h : OuterState) (numbers : Families ℕ) (request : MachineRequest) (wanted : Wanted) → inner setup h.state h.held (outer_of from by h numbers wanted) ≡ asks tuple user request → (from ≡ tuple) × (by ≡ user)
asker_is setup from tuple by user h numbers request (opening id lifetime wants) e = (cc, cc)
asker_is setup from tuple by user h numbers request (reserving r) e = (cc, cc)
asker_is setup from tuple by user h numbers request (claiming c) e = (cc, cc)
asker_is setup from tuple by user h numbers request (another asked_for) e = (cc, cc)

-- only what is accepted becomes a request
pub asked_is_so : (setup : Setup) (sets_df : Bool) (site : Site) (from tuple : FiveTuple) (h : OuterState) (numbers : Families ℕ) (d : List ℕ) (user : ℕ) (request : MachineRequest) (judged : Judged) → IsSo sets_df site d judged
    → inner setup h.state h.held (event_of from h numbers judged) ≡ asks tuple user request → Asks sets_df site h d tuple user (event_of from h numbers judged)
asked_is_so setup sets_df site from tuple h numbers d user request dropped so e = absurd cc
asked_is_so setup sets_df site from tuple h numbers d user request binding so e = absurd cc
asked_is_so setup sets_df site from tuple h numbers d user request (refused refusal) so e = absurd cc
asked_is_so setup sets_df site from tuple h numbers d user request (unknown key reply_algorithm) so e = absurd cc
asked_is_so setup sets_df site from tuple h numbers d user request (sent peer dont_fragment bytes) so e = absurd cc
asked_is_so setup sets_df site from tuple h numbers d user request (sent_on channel bytes) so e = absurd cc
asked_is_so setup sets_df site from tuple h numbers d user request (asked by wanted key reply_algorithm) so e =
    let same = asker_is setup from tuple by user h numbers request wanted e in
    record {
      numbers = numbers;
      wanted = wanted;
      key = key;
      reply_algorithm = reply_algorithm;
      asked = subst (λ (u : ℕ). IsAsked sets_df site d u wanted key reply_algorithm) same.1 so;
      outer_is = λ i. outer_of (same.0 i) (same.1 i) h numbers wanted;
    }

-- ---- The steps of a judgment, one after the other

pub requested_is : (sets_df : Bool) (site : Site) (method : ℕ) (d : List ℕ) → (method == BINDING) ≡ false → asks_table method ≡ true
    → requested sets_df site method d ≡ decided_as sets_df site method d (credentials site d)
requested_is sets_df site method d other it_asks = rw (other, it_asks) refl

pub message_is : (sets_df : Bool) (site : Site) (d : List ℕ) (class : MessageClass) → parse_fault d ≡ None → class_of (type_field d) ≡ class
    → message sets_df site d ≡ by_class sets_df site class (method_of (type_field d)) d
message_is sets_df site d class parses is = rw (parses, is) refl

pub judge_channel : (last_channel : ℕ) (sets_df : Bool) (site : Site) (d : List ℕ) (first : ℕ) → slice_get d 0 ≡ Some first → begins_number (range_to last_channel) first ≡ true
    → judge last_channel sets_df site d ≡ channel_message d
judge_channel last_channel sets_df site [] first at begins = absurd cc
judge_channel last_channel sets_df site (x ∷ d) first at begins =
    let same : x ≡ first = cc in
    let begins_it : begins_number (range_to last_channel) x ≡ true = ap (begins_number (range_to last_channel)) same ∙ begins in
    rw begins_it refl

-- what doesn't begin as a ChannelData message needs a key if it does as a message
pub needs_as_message : (last_channel : ℕ) (policy : Policy) (nonces : List ℕ → Known) (d : List ℕ) (first : ℕ) (needs : Bool) → slice_get d 0 ≡ Some first → begins_number (range_to last_channel) first ≡ false
    → needs ≡ message_needs_key policy nonces d → needs ≡ needs_key last_channel policy nonces d
needs_as_message last_channel policy nonces [] first needs at begins is = absurd cc
needs_as_message last_channel policy nonces (x ∷ d) first needs at begins is =
    let same : x ≡ first = cc in
    let begins_it : begins_number (range_to last_channel) x ≡ false = ap (begins_number (range_to last_channel)) same ∙ begins in
    rw begins_it is

pub first_true : (a b : Bool) → (a && b) ≡ true → a ≡ true
first_true true b e = refl
first_true false b e = absurd cc

pub second_false : (a b : Bool) → a ≡ true → (a && b) ≡ false → b ≡ false
second_false true b is e = e
second_false false b is e = absurd cc
