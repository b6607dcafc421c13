-- A reply, attribute by attribute.
use Rattle.std.proofs.Common.{◌≡◌, ℕ, true, false, ◌==◌, List, Some, None, refl, sym, ap, ◌∙◌}
use Rattle.std.specs.Net.Addr.{is_ipv6}
use Rattle.std.specs.Net.Socket.{socket_ip}
use Rattle.std.specs.declared.net.ip_addr.IpAddr.{IpAddr}
use Rattle.std.specs.declared.net.ip_addr.IpAddr.TheVariants.{V4, V6}
use Rattle.std.specs.declared.net.socket_addr.SocketAddr.{SocketAddr}
use Rattle.stun_grammar.specs.declared.error.StunParseError.{StunParseError}
use Rattle.stun_grammar.specs.Headers.{type_field}
use Rattle.stun_grammar.specs.Names.{BINDING}
use Rattle.stun_grammar.specs.Parsing.{parse_fault}
use Rattle.stun_base.specs.declared.message_class.MessageClass.{MessageClass}
use Rattle.stun_base.specs.declared.message_class.MessageClass.TheVariants.{Request, Indication, Success, Error as ErrorClass}
use Rattle.stun_base.specs.MessageTypes.{class_of, method_of}
use Rattle.stun_values.specs.Addresses.{family, address_value, IsXored, xored_value}
use Rattle.stun_server.specs.Reply.{comprehended, binding_reply, reply_by_type, reply}

same_family : (x a : IpAddr) → is_ipv6 x ≡ is_ipv6 a → family x ≡ family a
same_family (V4 x) (V4 a) e = refl
same_family (V4 x) (V6 a) e = absurd cc
same_family (V6 x) (V4 a) e = absurd cc
same_family (V6 x) (V6 a) e = refl

-- the value of an address that was XORed
pub xored_spelled : (id : ℕ) (a x : SocketAddr) → IsXored id a x → address_value x ≡ xored_value id a
xored_spelled id a x xored = rw (same_family (socket_ip x) (socket_ip a) xored.family_is, xored.port_is, xored.octets_are) refl

-- ---- Whether there is a reply

pub none_to_fault : (source : SocketAddr) (d : List ℕ) (e : StunParseError) → parse_fault d ≡ Some e → reply source d ≡ None
unfolding reply
none_to_fault source d e fault = rw fault refl

no_request : (class : MessageClass) (method : ℕ) (source : SocketAddr) (d : List ℕ) → (class ≡ Request → ⊥) → reply_by_type class method source d ≡ None
no_request Request method source d other = absurd (other refl)
no_request Indication method source d other = refl
no_request Success method source d other = refl
no_request ErrorClass method source d other = refl

-- b is what a message keeps of the datagram d
pub none_to_class : (source : SocketAddr) (d b : List ℕ) → parse_fault d ≡ None → b ≡ d → (class_of (type_field b) ≡ Request → ⊥) → reply source d ≡ None
unfolding reply
none_to_class source d b parses same other = rw parses (no_request (class_of (type_field d)) (method_of (type_field d)) source d (λ is. other (ap (λ (x : List ℕ). class_of (type_field x)) same ∙ is)))

-- b is what a message keeps of the datagram d, and a request
pub none_to_method : (source : SocketAddr) (d b : List ℕ) → parse_fault d ≡ None → b ≡ d → class_of (type_field b) ≡ Request → (method_of (type_field b) == BINDING) ≡ false → reply source d ≡ None
unfolding reply
none_to_method source d b parses same request other =
    let class : class_of (type_field d) ≡ Request = ap (λ (x : List ℕ). class_of (type_field x)) (sym same) ∙ request in
    let method : (method_of (type_field d) == BINDING) ≡ false = ap (λ (x : List ℕ). method_of (type_field x) == BINDING) (sym same) ∙ other in
    rw (parses, class, method) refl

pub one_to_binding : (source : SocketAddr) (d b : List ℕ) → parse_fault d ≡ None → b ≡ d → class_of (type_field b) ≡ Request → (method_of (type_field b) == BINDING) ≡ true
    → reply source d ≡ Some (binding_reply comprehended source b)
unfolding reply
one_to_binding source d b parses same request binding =
    let class : class_of (type_field d) ≡ Request = ap (λ (x : List ℕ). class_of (type_field x)) (sym same) ∙ request in
    let method : (method_of (type_field d) == BINDING) ≡ true = ap (λ (x : List ℕ). method_of (type_field x) == BINDING) (sym same) ∙ binding in
    rw (parses, class, method) (ap (λ (x : List ℕ). Some (binding_reply comprehended source x)) (sym same))
