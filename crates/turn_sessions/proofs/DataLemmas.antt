-- Send and Data indications are read as they were written (RFC 8656, sections 11.1 to 11.4).
use Rattle.std.proofs.Common.{◌≡◌, ℕ, ◌^◌, ◌<◌, ◌≤◌, Bool, true, false, List, [], ◌∷◌, length, Option, None, Some, refl, sym, ap, ◌∙◌, lit<}
use Rattle.std.specs.Prelude.{◌||◌, ◌&&◌, ◌==◌, not, is_some, option_and_then, if◌then◌else◌}
use Rattle.std.specs.List.{AllByRecursion}
use Rattle.std.specs.Option.{option_map_or, option_zip}
use Rattle.std.proofs.lemmas.List.{append-nil}
use Rattle.stun_grammar.specs.Attributes.{Attribute, canonical}
use Rattle.stun_grammar.specs.Writing.{greatest_length, message_encoding}
use Rattle.stun_base.specs.declared.message_class.MessageClass.TheVariants.{Indication}
use Rattle.stun_base.specs.MessageTypes.{class_of, method_of, type_of}
use Rattle.stun_values.specs.Addresses.{xored_value}
use Rattle.stun_types.specs.Replies.{unknown_types}
use Rattle.stun_authentication.specs.Identities.{value_of}
use Rattle.stun_endpoints.specs.Conversions.{socket_of}
use Rattle.stun_endpoints.specs.declared.endpoints.Endpoint.{Endpoint}
use Rattle.stun_exchanges.specs.Premises.{HasRoom}
use Rattle.stun_exchanges.proofs.LoginsWritableLemmas.{IsAdded}
use Rattle.turn_attrs.specs.Heads.{data_indication, peer_attribute, send_indication}
use Rattle.turn_attrs.specs.Turn.{DATA, DONT_FRAGMENT, ICMP, XOR_PEER_ADDRESS}
use Rattle.turn_client_messages.specs.Judging.{by_class as heard_by_class, indicated as heard_indication, judge as hears, peer_data, stray}
use Rattle.turn_client_messages.specs.Understood.{understood}
use Rattle.turn_client_messages.specs.Views.{Asked, Dealing}
use Rattle.turn_server.specs.Addresses.{peer_read}
use Rattle.turn_server.specs.Comprehended.{comprehended}
use Rattle.turn_server.specs.Judging.{Site, by_class, dropped, judge, sent}
use Rattle.turn_sessions.specs.Sides.{IsTransport}
use Rattle.turn_sessions.proofs.AddressesLemmas.{AreOfEndpoints, transport_added, transport_read}
use Rattle.turn_sessions.proofs.JudgingLemmas.{hears_is, judge_is}
use Rattle.turn_sessions.proofs.ShownLemmas.{IsEnded, IsRead, none_unknown, read_message, value_is, writable}

abbrev attributes : (id : ℕ) → Endpoint → List ℕ → List Attribute
attributes id peer bytes = peer_attribute id (socket_of peer) ∷ canonical DATA bytes ∷ []

whole : (xs : List Attribute) → IsEnded xs xs []
whole xs = record { more = []; whole = sym (append-nil xs); ends_are = refl }

added : (id : ℕ) (peer : Endpoint) (bytes : List ℕ) → IsTransport peer → length bytes < 2 ^ 16 → AllByRecursion IsAdded (attributes id peer bytes)
added id peer bytes is short = (transport_added XOR_PEER_ADDRESS id peer is (lit< tt) refl, (record { written = refl; type_fits = lit< tt; value_fits = short; plain = refl }, tt))

-- what an indication shows
read : (kind id : ℕ) (peer : Endpoint) (bytes : List ℕ) → kind < 2 ^ 14 → id < 2 ^ 96 → IsTransport peer → length bytes < 2 ^ 16 → HasRoom kind id (attributes id peer bytes)
    → IsRead kind id (attributes id peer bytes) [] (message_encoding kind id (attributes id peer bytes))
read kind id peer bytes k small is short fits =
    let xs = attributes id peer bytes in
    read_message kind id xs xs [] (whole xs) (writable kind id xs k small (added id peer bytes is short) fits)

-- a server comprehends all of it
comprehends : (sets_df : Bool) (kind id : ℕ) (peer : Endpoint) (bytes d : List ℕ) → IsRead kind id (attributes id peer bytes) [] d → unknown_types (comprehended sets_df) d ≡ []
comprehends true kind id peer bytes d r = none_unknown (comprehended true) kind id (attributes id peer bytes) [] d r refl refl
comprehends false kind id peer bytes d r = none_unknown (comprehended false) kind id (attributes id peer bytes) [] d r refl refl

never : (b : Bool) → (b && false) ≡ false
never true = refl
never false = refl

pub sent_read : AreOfEndpoints → (last_channel : ℕ) (sets_df : Bool) (site : Site) (id : ℕ) (peer : Endpoint) (bytes : List ℕ) → id < 2 ^ 96 → IsTransport peer → length bytes < 2 ^ 16 → length (send_indication id (socket_of peer) bytes) ≤ greatest_length
    → judge last_channel sets_df site (send_indication id (socket_of peer) bytes) ≡ sent peer false bytes
sent_read sockets last_channel sets_df site id peer bytes small is short fits =
    let kind = type_of Indication 6 in
    let xs = attributes id peer bytes in
    let d = send_indication id (socket_of peer) bytes in
    let r = read kind id peer bytes (lit< tt) small is short fits in
    let none = comprehends sets_df kind id peer bytes d r in
    let named : value_of d XOR_PEER_ADDRESS ≡ Some (xored_value id (socket_of peer)) = value_is XOR_PEER_ADDRESS kind id xs [] d r refl in
    let held : value_of d DATA ≡ Some bytes = value_is DATA kind id xs [] d r refl in
    let flag : value_of d DONT_FRAGMENT ≡ None = value_is DONT_FRAGMENT kind id xs [] d r refl in
    judge_is last_channel sets_df site d r.parses
    ∙ (λ i. if is_some (r.parses i) then dropped else by_class sets_df site (class_of (r.type_is i)) (method_of (r.type_is i)) d)
    ∙ (λ i. option_map_or (λ (found : Endpoint × List ℕ). sent found.0 (sets_df && is_some (flag i)) found.1)
    (if length (none i) == 0 then option_zip (option_and_then (peer_read (r.id_is i)) (named i)) (held i) else None) dropped)
    ∙ ap (λ (o : Option Endpoint). option_map_or (λ (found : Endpoint × List ℕ). sent found.0 (sets_df && false) found.1) (option_zip o (Some bytes)) dropped) (transport_read sockets id peer is)
    ∙ ap (λ (b : Bool). sent peer b bytes) (never sets_df)

pub given_heard : AreOfEndpoints → (dealing : Dealing) (request : Option Asked) (id : ℕ) (peer : Endpoint) (bytes : List ℕ) → id < 2 ^ 96 → IsTransport peer → length bytes < 2 ^ 16 → length (data_indication id (socket_of peer) bytes) ≤ greatest_length
    → hears dealing request (data_indication id (socket_of peer) bytes) ≡ peer_data peer bytes
given_heard sockets dealing request id peer bytes small is short fits =
    let kind = type_of Indication 7 in
    let xs = attributes id peer bytes in
    let d = data_indication id (socket_of peer) bytes in
    let r = read kind id peer bytes (lit< tt) small is short fits in
    let none : unknown_types understood d ≡ [] = none_unknown understood kind id xs [] d r refl refl in
    let named : value_of d XOR_PEER_ADDRESS ≡ Some (xored_value id (socket_of peer)) = value_is XOR_PEER_ADDRESS kind id xs [] d r refl in
    let held : value_of d DATA ≡ Some bytes = value_is DATA kind id xs [] d r refl in
    let no_icmp : value_of d ICMP ≡ None = value_is ICMP kind id xs [] d r refl in
    hears_is dealing request d r.parses
    ∙ (λ i. if is_some (r.parses i) then stray else heard_by_class dealing request (class_of (r.type_is i)) d)
    ∙ ap (λ (t : ℕ). heard_indication (method_of t) d) r.type_is
    ∙ (λ i. option_map_or (λ (given : Endpoint × List ℕ). peer_data given.0 given.1)
    (if not (length (none i) == 0) || is_some (no_icmp i) then None else option_zip (option_and_then (peer_read (r.id_is i)) (named i)) (held i)) stray)
    ∙ ap (λ (o : Option Endpoint). option_map_or (λ (given : Endpoint × List ℕ). peer_data given.0 given.1) (option_zip o (Some bytes)) stray) (transport_read sockets id peer is)
