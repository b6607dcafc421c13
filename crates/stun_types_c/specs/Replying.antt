-- Beginning the reply to a request (RFC 8489, section 6.3.1.1).
use Rattle.std.specs.Prelude.{◌≡◌, ℕ, List, [], ◌++◌, length, drop, Option, None, Some, MatchOption, nat_lt, ◌==◌, if◌then◌else◌}
use Rattle.std.specs.Option.{option_map, option_or}
use Rattle.stun_grammar.specs.Headers.{header_fault, type_field, id_field}
use Rattle.stun_grammar.specs.Writing.{message_encoding}
use Rattle.stun_base.specs.declared.message_class.MessageClass.{MessageClass}
use Rattle.stun_base.specs.declared.message_class.MessageClass.TheVariants.{Success, Error as ErrorClass}
use Rattle.stun_base.specs.MessageTypes.{class_of}
use Rattle.stun_types.specs.Replies.{response_type}
use Rattle.stun_authentication.specs.LongTerm.{is_request}
use Rattle.stun_types_c.specs.declared.call_result.CResult.{CResult}
use Rattle.stun_types_c.specs.CResults.{plain, counted, parse_result, Refuses}
use Rattle.stun_types_c.specs.Codes.{OK, TOO_SMALL, BAD_ARGUMENT, NOT_A_REQUEST}
use Rattle.stun_types_c.specs.Writing.{Written}

-- the class of a reply, by its number
abbrev pub reply_class : ℕ → Option MessageClass
reply_class number =
    if number == 2 then Some Success else (if number == 3 then Some ErrorClass else None)

-- why r begins with the header of no request
abbrev pub request_answer : List ℕ → Option CResult
request_answer r =
    option_or (option_map parse_result (header_fault r))
    (if is_request (class_of (type_field r)) then None else Some (plain NOT_A_REQUEST))

-- why a slice has no room for a header
abbrev pub header_answer : List ℕ → Option CResult
header_answer slice =
    if nat_lt (length slice) 20 then Some (counted TOO_SMALL 20 (length slice)) else None

-- the response of a class to the request r begins: a header, with no attributes, and what the slice
-- held after it
abbrev pub BeginsResponse : List ℕ → MessageClass → CResult → Written → Written → Type 0
BeginsResponse r class result old new =
    MatchOption (header_answer old.slice)
    ((result ≡ plain OK) × (new ≡ record {
      slice = message_encoding (response_type class r) (id_field r) [] ++ drop 20 old.slice;
      count = 20;
    }))
    (λ answer. Refuses answer result old new)

-- the reply of the class of a number begins, or r is no request, or no reply has that class
abbrev pub BeginsReply : List ℕ → ℕ → CResult → Written → Written → Type 0
BeginsReply r number result old new =
    MatchOption (request_answer r)
    (MatchOption (reply_class number)
    (Refuses (plain BAD_ARGUMENT) result old new)
    (λ class. BeginsResponse r class result old new))
    (λ answer. Refuses answer result old new)
