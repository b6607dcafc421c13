-- What is read is in its range.
use Rattle.std.proofs.Common.{◌≡◌, ℕ, Bool, true, false, cond, List, Option, Some, None, Result, Ok, Err, length, refl, sym, subst, ◌∙◌}
use Rattle.std.specs.Prelude.{◌==◌, codes, nat_le, ◌&&◌, not, IfOk, IsOkAnd}
use Rattle.std.specs.List.{list_all}
use Rattle.std.specs.Char.{is_ascii_digit}
use Rattle.std.specs.Str.Parse.{digits_value}
use Rattle.std.proofs.lemmas.Bool.{and_parts}
use Rattle.std.proofs.lemmas.Option.{cond_some, none-some, same_Some}
use Rattle.std.specs.declared.net.ip_addr.IpAddr.{IpAddr}
use Rattle.ice_candidates.specs.declared.candidate.Candidate.{Candidate}
use Rattle.ice_candidates.specs.declared.errors.LineError.{LineError}
use Rattle.ice_candidates.specs.Chars.{is_ice_char, is_token, are}
use Rattle.ice_candidates.specs.Candidates.{Protocol, udp, tcp, another_protocol, Place, ip, name, Kind, host, server_reflexive, peer_reflexive, relayed, another_kind, Fields}
use Rattle.ice_candidates.specs.Fields.{is_word, foundation_of, number_of, short_number_of, protocol_of, place_or_name, place_of, is_name, ip_of, kind_of}
use Rattle.ice_candidates.specs.Reading.{Gives, read_candidate}
use Rattle.ice_candidates.specs.Grammar.{IsRelatedAddress, IsSpelled, IsLine}
use Rattle.ice_candidates.specs.Texts.{is_protocol, is_place, is_optional_place, is_kind, is_within, is_in_range}
use Rattle.ice_candidates.specs.Views.{fields}
use Rattle.ice_candidates.proofs.LineLemmas.{line_read, read_line_is}

foundation_within : (w v : List ℕ) → foundation_of w ≡ Some v → are is_ice_char 1 32 v ≡ true
foundation_within w v e =
    let parts = cond_some (are is_ice_char 1 32 w) w v e in
    subst (λ (x : List ℕ). are is_ice_char 1 32 x ≡ true) parts.1 parts.0

number_within : (least most : ℕ) (w : List ℕ) (n : ℕ) → number_of least most w ≡ Some n → is_within least most n ≡ true
number_within least most w n e =
    let value = digits_value 10 w in
    let parts = cond_some ((not (length w == 0) && list_all is_ascii_digit w) && (nat_le least value && nat_le value most)) value n e in
    subst (λ (x : ℕ). is_within least most x ≡ true) parts.1 (and_parts (not (length w == 0) && list_all is_ascii_digit w) (nat_le least value && nat_le value most) parts.0).1

or_none : (b : Bool) (o : Option ℕ) (n : ℕ) → cond b o None ≡ Some n → o ≡ Some n
or_none true o n e = e
or_none false o n e = absurd (none-some n e)

short_within : (digits least most : ℕ) (w : List ℕ) (n : ℕ) → short_number_of digits least most w ≡ Some n → is_within least most n ≡ true
short_within digits least most w n e = number_within least most w n (or_none (nat_le (length w) digits) (number_of least most w) n e)

protocol_chosen : (w : List ℕ) (p : Protocol) (u t k : Bool) → is_word (codes "udp") w ≡ u → is_word (codes "tcp") w ≡ t → is_token w ≡ k
    → cond u (Some udp) (cond t (Some tcp) (cond k (Some (another_protocol w)) None)) ≡ Some p → is_protocol p ≡ true
protocol_chosen w p true t k a b c e = subst (λ (x : Protocol). is_protocol x ≡ true) (same_Some udp p e) refl
protocol_chosen w p false true k a b c e = subst (λ (x : Protocol). is_protocol x ≡ true) (same_Some tcp p e) refl
protocol_chosen w p false false true a b c e = subst (λ (x : Protocol). is_protocol x ≡ true) (same_Some (another_protocol w) p e) (rw (a, b, c) refl)
protocol_chosen w p false false false a b c e = absurd (none-some p e)

protocol_within : (w : List ℕ) (p : Protocol) → protocol_of w ≡ Some p → is_protocol p ≡ true
protocol_within w p e = protocol_chosen w p (is_word (codes "udp") w) (is_word (codes "tcp") w) (is_token w) refl refl refl e

kind_chosen : (w : List ℕ) (k : Kind) (h s p r t : Bool) → is_word (codes "host") w ≡ h → is_word (codes "srflx") w ≡ s → is_word (codes "prflx") w ≡ p → is_word (codes "relay") w ≡ r → is_token w ≡ t
    → cond h (Some host) (cond s (Some server_reflexive) (cond p (Some peer_reflexive) (cond r (Some relayed) (cond t (Some (another_kind w)) None)))) ≡ Some k → is_kind k ≡ true
kind_chosen w k true s p r t a b c d f e = subst (λ (x : Kind). is_kind x ≡ true) (same_Some host k e) refl
kind_chosen w k false true p r t a b c d f e = subst (λ (x : Kind). is_kind x ≡ true) (same_Some server_reflexive k e) refl
kind_chosen w k false false true r t a b c d f e = subst (λ (x : Kind). is_kind x ≡ true) (same_Some peer_reflexive k e) refl
kind_chosen w k false false false true t a b c d f e = subst (λ (x : Kind). is_kind x ≡ true) (same_Some relayed k e) refl
kind_chosen w k false false false false true a b c d f e = subst (λ (x : Kind). is_kind x ≡ true) (same_Some (another_kind w) k e) (rw (a, b, c, d, f) refl)
kind_chosen w k false false false false false a b c d f e = absurd (none-some k e)

kind_within : (w : List ℕ) (k : Kind) → kind_of w ≡ Some k → is_kind k ≡ true
kind_within w k e =
    kind_chosen w k (is_word (codes "host") w) (is_word (codes "srflx") w) (is_word (codes "prflx") w) (is_word (codes "relay") w) (is_token w) refl refl refl refl refl e

place_chosen : (w : List ℕ) (p : Place) (o : Option IpAddr) → ip_of w ≡ o → place_or_name w o ≡ Some p → is_place p ≡ true
place_chosen w p None none e =
    let parts = cond_some (is_name w) (name w) p e in
    subst (λ (x : Place). is_place x ≡ true) parts.1 (rw (parts.0, none) refl)
place_chosen w p (Some a) some e = subst (λ (x : Place). is_place x ≡ true) (same_Some (ip a) p e) refl

place_within : (w : List ℕ) (p : Place) → place_of w ≡ Some p → is_place p ≡ true
place_within w p e = place_chosen w p (ip_of w) refl e

related_within : (ws : List (List ℕ)) (o : Option Place) → IsRelatedAddress ws o → is_optional_place o ≡ true
related_within ws None h = refl
related_within ws (Some a) (q, w, split, is, value) = place_within w a value

spelled_within : (ws : List (List ℕ)) (c : Fields) → IsSpelled ws c → is_in_range c ≡ true
spelled_within ws c s =
    rw (
      foundation_within s.foundation c.foundation s.foundation_is,
      short_within 3 1 256 s.component c.component s.component_is,
      short_within 10 1 2147483647 s.priority c.priority s.priority_is,
      protocol_within s.protocol c.protocol s.protocol_is,
      kind_within s.kind c.kind s.kind_is,
      place_within s.address c.address s.address_is,
      related_within s.related_address c.related_address s.related_address_is,
    ) refl

-- ---- What reading a line returned

pub gives_line : (line : List ℕ) (r : Result Candidate LineError) → Gives fields r (read_candidate line) → IfOk r (λ read. IsLine line (fields read))
gives_line line (Ok read) given = read_line_is line (fields read) given
gives_line line (Err e) given = tt

pub gives_only : (line : List ℕ) (r : Result Candidate LineError) → Gives fields r (read_candidate line) → (c : Fields) → IsLine line c → IsOkAnd r (λ read. fields read ≡ c)
gives_only line (Ok read) given c is = let same : ◌≡◌ {A = Result Fields LineError} (Ok (fields read)) (Ok c) = sym given ∙ line_read line c is in cc same
gives_only line (Err e) given c is = absurd (let wrong : ◌≡◌ {A = Result Fields LineError} (Err e) (Ok c) = sym given ∙ line_read line c is in cc wrong)

pub gives_range : (line : List ℕ) (r : Result Candidate LineError) → Gives fields r (read_candidate line) → IfOk r (λ read. is_in_range (fields read) ≡ true)
gives_range line (Ok read) given = let is = read_line_is line (fields read) given in spelled_within _ (fields read) is.value_is
gives_range line (Err e) given = tt
